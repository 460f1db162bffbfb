-- One more scanner met.
use Rattle.std.proofs.Common.{◌≡◌, ◌<◌, ◌≤◌, ℕ, suc, ◌+◌, List, [], ◌∷◌, ◌++◌, length, get_or, drop, drop-cons, add-one, arith, refl, ap, sym, ◌∙◌, append-nil, append_assoc}
use Rattle.std.proofs.lemmas.List.{drop_all}
use Rattle.custard_lower.specs.declared.drafts.Made.{Made}
use Rattle.custard_lower.specs.declared.trees.TermTrees.{TermTrees}
use Rattle.label_rules.specs.declared.plans.Plan.{Plan}
use Rattle.custard_lower.specs.Drafts.{outputs_of}
use Rattle.custard_lower.specs.Nests.{Met, Meeting, intersect, met_with, all_met}

module _ (trees : TermTrees) (t : Plan) (d : ℕ) where
  -- the rest is met after the intersecter of the scanner at place i
  pub met_next : (made : List Made) (met : Met) (w : ℕ) (fs : List ℕ) (i : ℕ) → i < length fs
      → all_met trees t d made met w (drop i fs)
      ≡ all_met trees t d (made ++ intersect trees t d met (get_or fs i 0) w ∷ [])
      (met_with trees t met (get_or fs i 0) (outputs_of made))
      (w + 2) (drop (i + 1) fs)
  met_next made met w fs i h =
      let two : w + 2 ≡ suc (suc w) = omega arith in
      rw (two, add-one i, drop-cons fs i 0) refl

  more_met : (made : List Made) (met : Met) (w : ℕ) (fs : List ℕ)
      → (all_met trees t d made met w fs).met.factors ≡ met.factors ++ fs
  more_met made met w [] = sym (append-nil met.factors)
  more_met made met w (f ∷ fs) =
      more_met (made ++ intersect trees t d met f w ∷ []) (met_with trees t met f (outputs_of made)) (suc (suc w)) fs
      ∙ append_assoc met.factors (f ∷ []) fs

  -- past the last scanner nothing is left to meet
  pub met_ends : (made : List Made) (met : Met) (w : ℕ) (fs : List ℕ) (i : ℕ) → length fs ≤ i
      → all_met trees t d made met w (drop i fs) ≡ record { made = made; met = met }
  met_ends made met w fs i h = rw (drop_all i fs h) refl

  -- and all factors are met
  pub met_factors : (made made' : List Made) (met met' : Met) (w w' : ℕ) (fs : List ℕ) (i : ℕ) → length fs ≤ i
      → all_met trees t d made' met' w' (drop i fs) ≡ all_met trees t d made met w fs → met'.factors ≡ met.factors ++ fs
  met_factors made made' met met' w w' fs i h e =
      sym (ap (λ (all : Meeting). all.met.factors) (met_ends made' met' w' fs i h))
      ∙ ap (λ (all : Meeting). all.met.factors) e ∙ more_met made met w fs
