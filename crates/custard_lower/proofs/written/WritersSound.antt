-- The writers of levels and values: the draft with them keeps to the rules, and where they stand.
use Rattle.std.specs.Prelude.{◌≡◌, ◌<◌, ◌≤◌, ◌⊎◌, ℕ, zero, suc, ◌+◌, ◌-◌, false, List, [], ◌∷◌, ◌++◌, length, get_or, refl}
use Rattle.std.specs.List.{All, position_or_len}
use mathlib.Core.List.{map}
use Rattle.std.proofs.Common.{arith, sym, ◌∙◌, ap, subst, append_assoc, append-nil, length-append, get_or-append-add, inl, inr}
use Rattle.std.proofs.lemmas.Bool.{cases_lt, ne_eqb, eq-eqb}
use Rattle.std.proofs.lemmas.List.FromFn.{length-range_with_len, get_or-range_with_len, length-map-range_with_len, get_or-map-range_with_len}
use Rattle.std.proofs.lemmas.List.Sums.{position_or_len_is}
use lib.ListN.{get_or-append}
use lib.Seq.{get_or-append_seam}
use Rattle.sam_model.specs.Lists.{below}
use Rattle.stream_model.specs.declared.labels.Label.{Label}
use Rattle.graph.specs.declared.graphs.Kind.{Kind}
use Rattle.graph.specs.declared.graphs.Kind.TheVariants as kind
use Rattle.graph.specs.Writers.{writes_level, writes_values}
use Rattle.custard_lower.specs.declared.drafts.Made.{Made}
use Rattle.custard_lower.specs.Drafts.{label_at}
use Rattle.label_rules.specs.Holding.{Rules}
use Rattle.custard_lower.specs.DraftGraph.{no_made, made_at}
use Rattle.custard_lower.specs.Reductions.{Levels}
use Rattle.custard_lower.specs.Lowering.{level_writer, value_writer, with_writers}
use Rattle.custard_lower.proofs.draft.Emitted.{Stands, Unwritten, Ruled, Sound, is_writer, Extends, extends-same, extends-more, extends-both, stands-on, sound-emit, ruled-by-others}

-- no block is a writer
abbrev Quiet : List Made → Type 0
Quiet [] = Unit {0}
Quiet (m ∷ made) = (is_writer m.kind ≡ false) × Quiet made

ruled-quiet : (rules : Rules) (labels : ℕ → Label) (base : ℕ) (made : List Made) → Ruled (Unwritten rules) labels base made → Quiet made
ruled-quiet rules labels base [] x = tt
ruled-quiet rules labels base (m ∷ made) x = (x.0.allowed.1, ruled-quiet rules labels (base + length m.labels) made x.1)

module _ (rules : Rules) (l : Levels) (sound : Sound (Unwritten rules) l.made) where
  abbrev writers : List ℕ → List Made
  writers ds = map (level_writer l.coordinates) ds

  -- the rules allow a writer of each level what stands on its output
  abbrev pub Writable : List Made → ℕ → Type 0
  Writable made d = (c : Label) × (Stands made (get_or l.coordinates d 0) c) × (rules (kind.WriteLevel (suc d)) (c ∷ []) [])

  levels_written : (made : List Made) (ds : List ℕ) → Extends l.made made → Sound rules made → All (Writable l.made) ds
      → Sound rules (made ++ writers ds)
  levels_written made [] e x each = subst (Sound rules) (sym (append-nil made)) x
  levels_written made (d ∷ ds) e x each =
      let b = level_writer l.coordinates d in
      let here = each 0 d (omega arith) in
      let made' = made ++ b ∷ [] in
      subst (Sound rules) (append_assoc made (b ∷ []) (writers ds))
      (levels_written made' ds (extends-both l.made made made' e (extends-more made (b ∷ [])))
      (sound-emit rules made b (here.0 ∷ []) x (stands-on l.made made _ _ e here.1, tt) here.2)
      (λ k n i. each (suc k) n (omega (arith, i))))

  -- with its writers the draft keeps to the rules
  pub written-sound : (values : Label) → Stands l.made l.values values → rules kind.WriteValue (values ∷ []) []
      → ((d : ℕ) → d < length l.coordinates → Writable l.made d) → Sound rules (with_writers l)
  written-sound values stand allowed each =
      let made = l.made ++ writers (below (length l.coordinates)) in
      let b = value_writer l.values in
      let x = levels_written l.made (below (length l.coordinates)) (extends-same l.made)
      (ruled-by-others (Unwritten rules) rules (λ k ins outs h. h.0) (label_at l.made) 0 l.made sound)
      (λ k n i. let j : k < length l.coordinates = omega (arith, i, length-range_with_len 0 (length l.coordinates)) in
      subst (Writable l.made) (sym (get_or-range_with_len 0 (length l.coordinates) k n j ∙ omega arith)) (each k j)) in
      sound-emit rules made b (values ∷ []) x
      (stands-on l.made made _ _ (extends-more l.made (writers (below (length l.coordinates)))) stand, tt) allowed

  -- ---- where the writers stand

  quiet_at : (made : List Made) (k : ℕ) → Quiet made → k < length made → is_writer (made_at made k).kind ≡ false
  quiet_at [] k q i = absurd (omega (arith, i))
  quiet_at (m ∷ made) zero q i = q.0
  quiet_at (m ∷ made) (suc k) q i = quiet_at made k q.1 (omega (arith, i))

  no_level : (d : ℕ) (k : Kind) → is_writer k ≡ false → writes_level d k ≡ false
  no_level d (kind.WriteLevel level) e = absurd (cc)
  no_level d kind.WriteValue e = refl
  no_level d kind.Root e = refl
  no_level d (kind.Scan tensor level) e = refl
  no_level d kind.Repeat e = refl
  no_level d (kind.Cast outs) e = refl
  no_level d kind.Drain e = refl
  no_level d (kind.Intersect left right) e = refl
  no_level d (kind.Union left right) e = refl
  no_level d (kind.Array tensor) e = refl
  no_level d kind.Mul e = refl
  no_level d kind.Add e = refl
  no_level d kind.Sub e = refl
  no_level d (kind.Const value) e = refl
  no_level d kind.SumScalar e = refl
  no_level d kind.SumVector e = refl
  no_level d kind.SumMatrix e = refl
  no_level d kind.DropValue e = refl
  no_level d kind.DropFiber e = refl
  no_level d (kind.Fill payloads) e = refl

  no_values : (k : Kind) → is_writer k ≡ false → writes_values k ≡ false
  no_values (kind.WriteLevel level) e = refl
  no_values kind.WriteValue e = absurd (cc)
  no_values kind.Root e = refl
  no_values (kind.Scan tensor level) e = refl
  no_values kind.Repeat e = refl
  no_values (kind.Cast outs) e = refl
  no_values kind.Drain e = refl
  no_values (kind.Intersect left right) e = refl
  no_values (kind.Union left right) e = refl
  no_values (kind.Array tensor) e = refl
  no_values kind.Mul e = refl
  no_values kind.Add e = refl
  no_values kind.Sub e = refl
  no_values (kind.Const value) e = refl
  no_values kind.SumScalar e = refl
  no_values kind.SumVector e = refl
  no_values kind.SumMatrix e = refl
  no_values kind.DropValue e = refl
  no_values kind.DropFiber e = refl
  no_values (kind.Fill payloads) e = refl

  abbrev levels : ℕ
  levels = length l.coordinates

  many_writers : length (writers (below levels)) ≡ levels
  many_writers = length-map-range_with_len (level_writer l.coordinates) 0 levels

  -- the blocks of the draft with its writers: those before, the writer of each level, and that of the values
  early_block : (k : ℕ) → k < length l.made → made_at (with_writers l) k ≡ made_at l.made k
  early_block k i =
      get_or-append (l.made ++ writers (below levels)) (value_writer l.values ∷ []) no_made k
      (let a = length-append l.made (writers (below levels)) in omega (arith, a, i))
      ∙ get_or-append l.made (writers (below levels)) no_made k i

  -- the writer of a level comes after the blocks of the draft, by its number
  pub level-block : (d : ℕ) → d < levels → made_at (with_writers l) (length l.made + d) ≡ level_writer l.coordinates d
  level-block d i =
      get_or-append (l.made ++ writers (below levels)) (value_writer l.values ∷ []) no_made (length l.made + d)
      (let a = length-append l.made (writers (below levels)) in omega (arith, a, i, many_writers))
      ∙ get_or-append-add l.made (writers (below levels)) d no_made
      ∙ get_or-map-range_with_len (level_writer l.coordinates) 0 levels d d no_made i (omega arith)

  -- that of the values comes last
  pub value-block : made_at (with_writers l) (length l.made + levels) ≡ value_writer l.values
  value-block =
      let at_end : length l.made + levels ≡ length (l.made ++ writers (below levels)) =
      let a = length-append l.made (writers (below levels)) in omega (arith, a, many_writers) in
      ap (made_at (with_writers l)) at_end ∙ get_or-append_seam (l.made ++ writers (below levels)) (value_writer l.values) [] no_made

  -- a writer more than levels is added
  pub written-number : length (with_writers l) ≡ length l.made + levels + 1
  written-number =
      let a = length-append l.made (writers (below levels)) in
      let b = length-append (l.made ++ writers (below levels)) (value_writer l.values ∷ []) in omega (arith, a, b, many_writers)

  -- the writer of level d + 1 is the first that writes it
  pub level-first : (d : ℕ) → d < levels → position_or_len (λ m. writes_level (suc d) m.kind) (with_writers l) ≡ length l.made + d
  level-first d i =
      position_or_len_is (λ m. writes_level (suc d) m.kind) (with_writers l) (length l.made + d) no_made
      (omega (arith, i, written-number))
      before (λ _. ap (λ (m : Made). writes_level (suc d) m.kind) (level-block d i) ∙ eq-eqb (suc d) (suc d) refl)
    where
      before : (k : ℕ) → k < length l.made + d → writes_level (suc d) (made_at (with_writers l) k).kind ≡ false
      before k j = by_place (cases_lt k (length l.made))
        where
          by_place : (k < length l.made) ⊎ (length l.made ≤ k) → writes_level (suc d) (made_at (with_writers l) k).kind ≡ false
          by_place (inl e) =
              ap (λ (m : Made). writes_level (suc d) m.kind) (early_block k e)
              ∙ no_level (suc d) (made_at l.made k).kind (quiet_at l.made k (ruled-quiet rules (label_at l.made) 0 l.made sound) e)
          by_place (inr e) =
              let n : length l.made + (k - length l.made) ≡ k = omega (arith, e) in
              ap (λ (m : Made). writes_level (suc d) m.kind)
              (ap (made_at (with_writers l)) (sym n) ∙ level-block (k - length l.made) (omega (arith, e, i, j)))
              ∙ ne_eqb (suc (k - length l.made)) (suc d) (λ q. omega (arith, q, e, j))

  -- and so is that of the values
  pub value-first : position_or_len (λ m. writes_values m.kind) (with_writers l) ≡ length l.made + levels
  value-first =
      position_or_len_is (λ m. writes_values m.kind) (with_writers l) (length l.made + levels) no_made (omega (arith, written-number))
      before (λ _. ap (λ (m : Made). writes_values m.kind) value-block)
    where
      before : (k : ℕ) → k < length l.made + levels → writes_values (made_at (with_writers l) k).kind ≡ false
      before k j = by_place (cases_lt k (length l.made))
        where
          by_place : (k < length l.made) ⊎ (length l.made ≤ k) → writes_values (made_at (with_writers l) k).kind ≡ false
          by_place (inl e) =
              ap (λ (m : Made). writes_values m.kind) (early_block k e)
              ∙ no_values (made_at l.made k).kind (quiet_at l.made k (ruled-quiet rules (label_at l.made) 0 l.made sound) e)
          by_place (inr e) =
              let n : length l.made + (k - length l.made) ≡ k = omega (arith, e) in
              ap (λ (m : Made). writes_values m.kind) (ap (made_at (with_writers l)) (sym n)
              ∙ level-block (k - length l.made) (omega (arith, e, j)))

  -- what stood before the writers still stands
  pub written-extends : Extends l.made (with_writers l)
  written-extends =
      extends-both l.made (l.made ++ writers (below levels)) (with_writers l) (extends-more l.made (writers (below levels)))
      (extends-more (l.made ++ writers (below levels)) (value_writer l.values ∷ []))
