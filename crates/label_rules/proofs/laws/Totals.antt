-- Sums over the coordinates of a loop that is taken away, where the prefixes that aren't in the tree have no value.
use Rattle.std.specs.Prelude.{◌≡◌, ◌<◌, ℕ, suc, Bool, true, false, cond, ◌||◌, List, [], ◌∷◌, ◌++◌, length, Some, None, refl}
use Rattle.std.specs.List.{filter, list_any}
use mathlib.Core.List.{map}
use Rattle.std.proofs.Common.{arith, sym, ◌∙◌, ap, append_assoc, append-nil}
use Rattle.sam_model.specs.Lists.{below}
use Rattle.sam_model.specs.Denote.{Loop}
use Rattle.stream_tokens.specs.Nest.{Leaf}
use Rattle.stream_model.specs.Terms.{TermData}
use Rattle.stream_model.specs.Trees.{plus_there, sum_there, in_reduced, value_reduced}
use Rattle.stream_model.specs.Reduction.{Reduces}
use Rattle.stream_model.proofs.Sums.{plus-none, plus-assoc}
use Rattle.stream_model.proofs.Reduced.{value-split, any-split, reduced-begins, value-outside}
use Rattle.block_core.specs.Arithmetic.{combined_leaf, Plus, sum_leaves}
use Rattle.label_rules.proofs.laws.Gathered.{Adds, sum_all}

-- ---- the blocks' sums

-- a block adds as the trees do
pub plus-combined : (a b : Leaf) → combined_leaf Plus a b ≡ plus_there a b
plus-combined None b = refl
plus-combined (Some a) None = refl
plus-combined (Some a) (Some b) = refl

-- and so its sum is that of the trees
pub sum-combined : (vs : List Leaf) → sum_leaves vs ≡ sum_there vs
sum-combined [] = refl
sum-combined (v ∷ vs) = plus-combined v (sum_leaves vs) ∙ ap (plus_there v) (sum-combined vs)

-- values that may be absent can be added in any grouping
pub plus-adds : Adds (combined_leaf Plus) None
plus-adds = record {
  left = λ v. refl;
  right = λ v. plus-combined v None ∙ plus-none v;
  regroups = λ a b c.
      plus-combined (combined_leaf Plus a b) c ∙ ap (λ x. plus_there x c) (plus-combined a b) ∙ plus-assoc a b c
      ∙ ap (plus_there a) (sym (plus-combined b c)) ∙ sym (plus-combined a (combined_leaf Plus b c));
}

-- the same sum, said for any addition
pub sum-all-combined : (vs : List Leaf) → sum_all (combined_leaf Plus) None vs ≡ sum_there vs
sum-all-combined [] = refl
sum-all-combined (v ∷ vs) = plus-combined v (sum_all (combined_leaf Plus) None vs) ∙ ap (plus_there v) (sum-all-combined vs)

-- ---- over a loop that is taken away

-- what has no value may be left out of a sum
pub sum-there-filter : (test : ℕ → Bool) (v : ℕ → Leaf) → ((c : ℕ) → test c ≡ false → v c ≡ None) → (cs : List ℕ)
    → sum_there (map v (filter test cs)) ≡ sum_there (map v cs)
sum-there-filter test v h [] = refl
sum-there-filter test v h (c ∷ cs) = by_case (test c) refl (sum-there-filter test v h cs)
  where
    by_case : (b : Bool) → test c ≡ b → sum_there (map v (filter test cs)) ≡ sum_there (map v cs)
        → sum_there (map v (cond b (c ∷ filter test cs) (filter test cs))) ≡ plus_there (v c) (sum_there (map v cs))
    by_case true e r = ap (plus_there (v c)) r
    by_case false e r = r ∙ ap (λ o. plus_there o (sum_there (map v cs))) (sym (h c e))

-- what fails a test may be left out, where it wouldn't pass another
pub any-filter : (test other : ℕ → Bool) → ((c : ℕ) → other c ≡ true → test c ≡ true) → (cs : List ℕ)
    → list_any other (filter test cs) ≡ list_any other cs
any-filter test other h [] = refl
any-filter test other h (c ∷ cs) = by_case (test c) (other c) refl refl (any-filter test other h cs)
  where
    by_case : (b d : Bool) → test c ≡ b → other c ≡ d → list_any other (filter test cs) ≡ list_any other cs
        → list_any other (cond b (c ∷ filter test cs) (filter test cs)) ≡ (d || list_any other cs)
    by_case true d e k r = ap (λ x. x || list_any other (filter test cs)) k ∙ ap (λ x. d || x) r
    by_case false true e k r = let i = h c k in absurd (cc)
    by_case false false e k r = r

-- what isn't in the tree has no value
pub value-absent : (t : TermData) (g : ℕ) (u : List ℕ) → in_reduced t g u ≡ false → value_reduced t g u ≡ None
value-absent t g u h = ap (value_reduced t g) (sym (append-nil u)) ∙ value-outside t g u [] h

module _ (t : TermData) (before : List Loop) (s : ℕ) (after : List Loop) (g : ℕ) (r : Reduces t before s after g) where
  -- the coordinates of the loop that are in the tree beneath p
  abbrev pub loop_coordinates : List ℕ → List ℕ
  loop_coordinates p = filter (λ c. in_reduced t g (p ++ c ∷ [])) (below s)

  -- a value where the loop has been taken away is the sum over these
  pub value-summed : (p q : List ℕ) → length p ≡ length before
      → sum_there (map (λ c. value_reduced t g (p ++ c ∷ q)) (loop_coordinates p)) ≡ value_reduced t (suc g) (p ++ q)
  value-summed p q h =
      sum-there-filter (λ c. in_reduced t g (p ++ c ∷ [])) (λ c. value_reduced t g (p ++ c ∷ q)) outside (below s)
      ∙ sym (value-split t before s after g r p q h)
    where
      outside : (c : ℕ) → in_reduced t g (p ++ c ∷ []) ≡ false → value_reduced t g (p ++ c ∷ q) ≡ None
      outside c e = ap (value_reduced t g) (sym (append_assoc p (c ∷ []) q)) ∙ value-outside t g (p ++ c ∷ []) q e

  -- a prefix is in the tree without the loop, where one of these makes it one of the tree with the loop
  pub any-summed : (p q : List ℕ) → length p ≡ length before → 0 < length q
      → list_any (λ c. in_reduced t g (p ++ c ∷ q)) (loop_coordinates p) ≡ in_reduced t (suc g) (p ++ q)
  any-summed p [] h some = absurd (omega (arith, some))
  any-summed p (b ∷ q) h some =
      any-filter (λ c. in_reduced t g (p ++ c ∷ [])) (λ c. in_reduced t g (p ++ c ∷ b ∷ q))
      (λ c e. reduced-begins t g (p ++ c ∷ []) (b ∷ q) (ap (in_reduced t g) (append_assoc p (c ∷ []) (b ∷ q)) ∙ e)) (below s)
      ∙ sym (any-split t before s after g r p b q h)
