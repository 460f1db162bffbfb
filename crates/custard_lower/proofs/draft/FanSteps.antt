-- The drains and casts of a draft's outputs, one output after another.
use Rattle.std.specs.Prelude.{◌≡◌, ◌<◌, ◌≤◌, ℕ, suc, ◌+◌, ◌^◌, true, false, cond, not, List, [], ◌∷◌, ◌++◌, length, get_or, eqb, refl}
use Rattle.std.specs.List.{filter, range_with_len}
use mathlib.Core.List.{map}
use Rattle.std.proofs.Common.{arith, sym, ◌∙◌, ap}
use Rattle.std.proofs.lemmas.Bool.{eq-eqb, ne_eqb}
use Rattle.std.proofs.lemmas.List.{length_push}
use Rattle.std.proofs.lemmas.List.Sums.{count_by-le-length}
use Rattle.std.proofs.lemmas.List.FromFn.{length-range_with_len, length-map-range_with_len, get_or-map-range_with_len}
use Rattle.custard_lower.specs.declared.drafts.Made.{Made}
use Rattle.custard_lower.specs.declared.fans.Read.{Read}
use Rattle.custard_lower.specs.declared.fans.Fan.{Fan}
use Rattle.custard_lower.specs.Drafts.{outputs_of}
use Rattle.custard_lower.specs.DraftGraph.{DraftIsSmall, reads_of, readers, has_one, ending, copies, first_copy, fan_of}
use Rattle.custard_lower.proofs.draft.Pieces.{sum-more}
use Rattle.custard_lower.proofs.draft.Pushes.{item-pushed}
use Rattle.custard_lower.proofs.draft.Counted.{copies-within}

module _ (made : List Made) where
  -- numbers fit
  pub ending-fits : DraftIsSmall made → (k : ℕ) → k ≤ outputs_of made → ending made k < 2 ^ 32
  ending-fits small k l =
      omega (
        arith,
        l,
        small.blocks,
        small.outputs,
        count_by-le-length (λ u. not (has_one made u)) (range_with_len 0 k),
        length-range_with_len 0 k,
      )

  -- the number of a copy fits in 32 bits
  pub first-copy-fits : DraftIsSmall made → (k : ℕ) → first_copy made k < 2 ^ 32
  first-copy-fits small k = omega (arith, small.outputs, small.reads, copies-within made k)

  one : (w : ℕ) → length (readers made w) ≡ 1 → has_one made w ≡ true
  one w e = eq-eqb _ _ e

  ended : (w : ℕ) → (length (readers made w) ≡ 1 → ⊥) → has_one made w ≡ false
  ended w e = ne_eqb _ _ e

  ending_next : (w : ℕ) → ending made (w + 1) ≡ ending made w + cond (not (has_one made w)) 1 0
  ending_next w =
      let next : suc w ≡ w + 1 = omega arith in
      omega (arith, ap (ending made) next, sum-more (λ u. cond (not (has_one made u)) 1 0) w)

  first_copy_next : (w : ℕ) → first_copy made (w + 1) ≡ first_copy made w + copies made w
  first_copy_next w =
      let next : suc w ≡ w + 1 = omega arith in
      omega (arith, ap (first_copy made) next, sum-more (copies made) w)

  -- past an output with one reader
  pub ending-past-one : (w : ℕ) → length (readers made w) ≡ 1 → ending made (w + 1) ≡ ending made w
  ending-past-one w e =
      let none : ◌≡◌ {A = ℕ} (cond (not (has_one made w)) 1 0) 0 = rw (one w e) refl in
      omega (arith, ending_next w, none)

  -- nor does it add a copy
  pub first-copy-past-one : (w : ℕ) → length (readers made w) ≡ 1 → first_copy made (w + 1) ≡ first_copy made w
  first-copy-past-one w e =
      let none : copies made w ≡ 0 = rw (one w e) refl in
      omega (arith, first_copy_next w, none)

  -- and past one that has a drain or cast
  pub ending-past : (w : ℕ) → (length (readers made w) ≡ 1 → ⊥) → ending made (w + 1) ≡ ending made w + 1
  ending-past w e =
      let some : ◌≡◌ {A = ℕ} (cond (not (has_one made w)) 1 0) 1 = rw (ended w e) refl in
      omega (arith, ending_next w, some)

  -- it adds a copy for each of its readers
  pub first-copy-past : (w : ℕ) → (length (readers made w) ≡ 1 → ⊥)
      → first_copy made (w + 1) ≡ first_copy made w + length (readers made w)
  first-copy-past w e =
      let all : copies made w ≡ length (readers made w) = rw (ended w e) refl in
      omega (arith, first_copy_next w, all)

  -- the lists of the readers of each output
  abbrev pub lists_of : List Read → ℕ → List (List Read)
  lists_of reads n = map (λ v. filter (λ r. eqb r.output v) reads) (range_with_len 0 n)

  -- the next of them is that of the next output
  pub next-readers : (lists : List (List Read)) (reads : List Read) (n w : ℕ) (rs : List Read) → lists ≡ lists_of reads n
      → reads ≡ reads_of made → n ≡ outputs_of made → (w < length lists) × (rs ≡ get_or lists w rs)
      → (w < outputs_of made) × (rs ≡ readers made w)
  next-readers lists reads n w rs e same all turn =
      let of : ℕ → List Read = λ v. filter (λ r. eqb r.output v) reads in
      let number : length lists ≡ n = ap (λ (xs : List (List Read)). length xs) e ∙ length-map-range_with_len of 0 n in
      let there : w < n = omega (arith, number, turn.0) in (
        omega (arith, all, there),
        turn.1
            ∙ ap (λ (xs : List (List Read)). get_or xs w rs) e
            ∙ get_or-map-range_with_len of 0 n w w rs there (omega arith)
            ∙ ap (filter (λ r. eqb r.output w)) same,
      )

  -- the fans of the first outputs
  abbrev pub first_fans : ℕ → List Fan
  first_fans n = map (fan_of made) (range_with_len 0 n)

  -- and its fan stands after the others
  pub next-fan : (fans all : List Fan) (xs : List (List Read)) (rs : List Read) (e f : ℕ) → fans ≡ first_fans (length xs)
      → e ≡ ending made (length xs) → f ≡ first_copy made (length xs) → rs ≡ readers made (length xs)
      → all ≡ fans ++ (record { readers = rs; ending = e; first_copy = f } ∷ []) → all ≡ first_fans (length (xs ++ (rs ∷ [])))
  next-fan fans all xs rs e f before at from is push =
      let fan : Fan = record { readers = rs; ending = e; first_copy = f } in
      let same : fan ≡ fan_of made (length xs) = rw (at, from, is) refl in
      item-pushed (fan_of made) [] fans all (length xs) fan before push same
      ∙ ap (λ (n : ℕ). first_fans n) (sym (length_push xs rs))
