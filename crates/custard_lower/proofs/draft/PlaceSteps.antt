-- How many reads of an output come before a read, one read after another.
use Rattle.std.specs.Prelude.{◌≡◌, ◌<◌, ◌≤◌, ℕ, ◌+◌, Bool, List, length, get_or, set, take, eqb, cond, refl}
use Rattle.std.specs.List.{filter}
use Rattle.std.proofs.Common.{inl, inr, arith, sym, ◌∙◌, ap}
use Rattle.std.proofs.lemmas.Bool.{cases_eq, eq-eqb, ne_eqb}
use Rattle.std.proofs.lemmas.List.{length-take, get_or-set_same, get_or-set_other, get_or_default}
use Rattle.std.proofs.lemmas.List.Sums.{length-filter, count_by-le-length}
use Rattle.std.proofs.lemmas.List.Filters.{length-filter_more}
use Rattle.custard_lower.specs.declared.fans.Read.{Read}
use Rattle.custard_lower.specs.Fans.{no_read}

module _ (reads : List Read) where
  abbrev of : ℕ → Read → Bool
  of w r = eqb r.output w

  -- those before place k
  abbrev pub reads_before : ℕ → ℕ → ℕ
  reads_before w k = length (filter (of w) (take k reads))

  -- there are no more of them than reads
  pub reads-before-most : (w k : ℕ) → reads_before w k ≤ length reads
  reads-before-most w k =
      omega (
        arith,
        length-filter (of w) (take k reads),
        count_by-le-length (of w) (take k reads),
        length-take k reads,
      )

  before_same : (w k : ℕ) → k < length reads → (get_or reads k no_read).output ≡ w
      → reads_before w (k + 1) ≡ reads_before w k + 1
  before_same w k l e =
      let one : ◌≡◌ {A = ℕ} (cond (of w (get_or reads k no_read)) 1 0) 1 = rw (eq-eqb _ _ e) refl in
      omega (arith, length-filter_more (of w) reads k no_read l, one)

  before_other : (w k : ℕ) → k < length reads → ((get_or reads k no_read).output ≡ w → ⊥)
      → reads_before w (k + 1) ≡ reads_before w k
  before_other w k l ne =
      let none : ◌≡◌ {A = ℕ} (cond (of w (get_or reads k no_read)) 1 0) 0 = rw (ne_eqb _ _ ne) refl in
      omega (arith, length-filter_more (of w) reads k no_read l, none)

  -- places that count the reads of each output so far, after one read more
  pub places-more : (places : List ℕ) (n k x : ℕ) → length places ≡ n → k < length reads → (get_or reads k no_read).output < n
      → x ≡ get_or places (get_or reads k no_read).output x → ((w : ℕ) → w < n → get_or places w 0 ≡ reads_before w k)
      → (w : ℕ) → w < n → get_or (set places (get_or reads k no_read).output (x + 1)) w 0 ≡ reads_before w (k + 1)
  places-more places n k x number l m is each w h =
      let v = (get_or reads k no_read).output in
      elim (cases_eq v w) [
        | inl e ↦
            let now : get_or (set places v (x + 1)) w 0 ≡ x + 1 =
            ap (λ (u : ℕ). get_or (set places v (x + 1)) u 0) (sym e)
            ∙ get_or-set_same places v (x + 1) 0 (omega (arith, m, number)) in
            let before : x ≡ reads_before w k =
            is ∙ get_or_default places v x 0 (omega (arith, m, number)) ∙ ap (λ (u : ℕ). get_or places u 0) e ∙ each w h in
            omega (arith, now, before, before_same w k l e)
        | inr ne ↦
            get_or-set_other places v w (x + 1) 0 (λ e. ne (sym e)) ∙ each w h ∙ sym (before_other w k l ne)
      ]
