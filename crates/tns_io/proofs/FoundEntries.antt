-- What is found of a program's statement, as closing it asks for it.
use Rattle.std.proofs.Common.{◌≡◌, ℕ, ◌<◌, Bool, true, false, List, [], ◌∷◌, length, refl, ◌∙◌, arith, mod-lt}
use Rattle.std.specs.Prelude.{◌^◌}
use Rattle.std.specs.List.{filter, list_all}
use mathlib.Core.List.{map}
use Rattle.std.proofs.lemmas.Bool.{and_parts, lt-ltb}
use Rattle.std.proofs.lemmas.List.{length-map}
use Rattle.sam_base.specs.Each.{Each}
use Rattle.sam_model.specs.declared.tensors.Entries.{Entries}
use Rattle.sam_model.specs.declared.program.Program.{Program}
use Rattle.sam_model.specs.Accepted.{is_well_formed}
use Rattle.sam_model.specs.Lists.{below, tuples, within, items_at, smaller}
use Rattle.sam_model.specs.Pattern.{closed, ends_dense}
use Rattle.sam_model.specs.Statement.{denoted_at, found_at, found_entries}
use Rattle.sam_model.proofs.Lists.{Each-always, Each-filter, Each-flat_map, Each-map, Each-mapped, Each-range, Each-weaker}
use Rattle.sam_model.proofs.Tuples.{tuples-long}
use Rattle.levels.proofs.Ascending.{Ascending, Ascending-filter, tuples-ascend}
use Rattle.tns_io.specs.Fronts.{PathsAscend}
use Rattle.tns_io.proofs.ClosedLemmas.{found-is-closed}

-- the tuples below sizes are below them
pub tuples-within : (sizes : List ℕ) → Each (λ x. within sizes x ≡ true) (tuples sizes)
tuples-within [] = (refl, tt)
tuples-within (s ∷ sizes) =
    Each-flat_map (λ c. c < s) (λ x. within (s ∷ sizes) x ≡ true) (λ c. map (λ u. c ∷ u) (tuples sizes))
    (λ c less. Each-map (λ x. within (s ∷ sizes) x ≡ true) (λ u. c ∷ u) (λ u. within sizes u ≡ true) (λ u h. rw (lt-ltb c s less, h) refl) (tuples sizes) (tuples-within sizes))
    (below s) (Each-range 0 s s (omega arith))

-- a test that each passes, all pass
pub all-pass : {A : Type 0} (test : A → Bool) (xs : List A) → Each (λ x. test x ≡ true) xs → list_all test xs ≡ true
all-pass test [] h = refl
all-pass test (x ∷ xs) h = rw h.0 (all-pass test xs h.1)

-- and what all pass, each passes
pub each-passes : {A : Type 0} (test : A → Bool) (xs : List A) → list_all test xs ≡ true → Each (λ x. test x ≡ true) xs
each-passes test [] h = tt
each-passes test (x ∷ xs) h = let parts = and_parts (test x) (list_all test xs) h in (parts.0, each-passes test xs parts.1)

-- entries whose paths ascend
pub paths-ascend : (f : List ℕ → ℕ) (xs : List (List ℕ)) → Ascending xs → PathsAscend (map (λ x. (x, f x)) xs)
paths-ascend f [] up = tt
paths-ascend f (x ∷ xs) up = (Each-mapped (λ entry. smaller x entry.0 ≡ true) (λ y. (y, f y)) xs up.0, paths-ascend f xs up.1)

module _ (p : Program) (es : List Entries) where
  abbrev sizes : List ℕ
  sizes = items_at p.result.dims p.result.order

  each-found : (Q : List ℕ × ℕ → Type 0) → Each (λ x. Q (x, denoted_at p es x)) (tuples sizes) → Each Q (found_entries p es)
  each-found Q h = Each-mapped Q (λ x. (x, denoted_at p es x)) (filter (found_at p es) (tuples sizes)) (Each-filter (λ x. Q (x, denoted_at p es x)) (found_at p es) (tuples sizes) h)

  -- its paths ascend
  pub found-ascends : PathsAscend (found_entries p es)
  found-ascends =
      paths-ascend (denoted_at p es) (filter (found_at p es) (tuples sizes)) (Ascending-filter (found_at p es) (tuples sizes) (tuples-ascend sizes))

  -- they are below the sizes of the result
  pub found-within : Each (λ e. within sizes e.0 ≡ true) (found_entries p es)
  found-within = each-found (λ e. within sizes e.0 ≡ true) (tuples-within sizes)

  -- where the last level isn't dense, closing it changes nothing
  pub found-stays : is_well_formed p.result ≡ true → ends_dense p.result ≡ false → closed p.result (found_entries p es) ≡ found_entries p es
  found-stays formed last =
      found-is-closed p.result (found_entries p es) formed
      (each-found (λ e. length e.0 ≡ length p.result.order)
      (Each-weaker (λ x. length x ≡ length sizes) (λ x. length x ≡ length p.result.order) (λ x h. h ∙ length-map p.result.order _) (tuples sizes) (tuples-long sizes)))
      found-within found-ascends
      (each-found (λ e. e.1 < 2 ^ 64) (Each-always (λ x. denoted_at p es x < 2 ^ 64) (λ x. mod-lt _ (omega arith)) (tuples sizes)))
      last
