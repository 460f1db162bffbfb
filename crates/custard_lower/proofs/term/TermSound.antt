-- The blocks of a term meet their rules, and its levels and values have the labels of its pruned trees.
use Rattle.std.specs.Prelude.{◌≡◌, ◌<◌, ℕ, zero, suc, ◌-◌, true, cond, List, [], ◌∷◌, length, take, refl}
use Rattle.std.proofs.Common.{arith, sym, ap, subst, inl}
use Rattle.sam_model.specs.declared.program.Program.{Program}
use Rattle.sam_model.specs.Program.{accepted}
use Rattle.stream_model.specs.declared.labels.Attr.TheVariants.{Coordinate, Rank}
use Rattle.stream_model.specs.declared.labels.Label.{Label}
use Rattle.stream_model.specs.Labels.{result_sizes}
use Rattle.custard_lower.specs.declared.drafts.Made.{Made}
use Rattle.custard_lower.specs.declared.trees.TermTrees.TheVariants.{Own}
use Rattle.custard_lower.specs.declared.trees.PrunedTrees.TheVariants.{OfTerm}
use Rattle.label_rules.specs.declared.plans.Plan.{Plan}
use Rattle.label_rules.specs.Labels.{no_label, IsOneOf}
use Rattle.label_rules.specs.Plans.{left_marks}
use Rattle.label_rules.specs.TermLabels.{plan_at, free_loop_count, full_mask, product_label, reference_label, bottom_label, kept_numbers, coordinate_labels, value_labels}
use Rattle.label_rules.proofs.rules.Exact.{same_itself}
use Rattle.custard_lower.specs.Nests.{nest}
use Rattle.custard_lower.specs.Reductions.{Levels}
use Rattle.custard_lower.specs.Lowering.{root, summed_levels, term_levels}
use Rattle.custard_lower.proofs.draft.Emitted.{Stands, Sound, stands-new, sound-emit}
use Rattle.custard_lower.proofs.term.PlanFacts.{is-small, some-access, some-loop, loop-asked, few-after, levels-are}
use Rattle.custard_lower.proofs.term.PlainRules.{Plain, plain, level-allowed}
use Rattle.custard_lower.proofs.term.ValuesAllowed.{values-allowed}
use Rattle.custard_lower.proofs.term.SumsAllowed.{sums-allowed, drops-allowed}
use Rattle.custard_lower.proofs.term.NestSound.{NestStands, nest-stands}
use Rattle.custard_lower.proofs.term.ReducedSound.{LevelsStand}
use Rattle.custard_lower.proofs.term.SummedSound.{summed-stands}
use Rattle.custard_lower.proofs.term.PrunedSound.{PrunedStand, pruned-stands}

module _ (p : Program) (ok : accepted p ≡ true) (n : ℕ) (inside : n < length p.terms) where
  abbrev plan : Plan
  plan = plan_at p n

  -- the coordinates of a level that all its accesses restrict
  abbrev final_label : ℕ → Label
  final_label zero = no_label
  final_label (suc d) = product_label p n (suc d) (full_mask p n d) Coordinate

  -- the levels and values of a term, in which nothing stands that has no value
  abbrev pub TermStands : Levels → Type 0
  TermStands l =
      PrunedStand (Plain p) (OfTerm n (free_loop_count p n)) (length (result_sizes p)) (coordinate_labels p n (free_loop_count p n))
      (value_labels p n (free_loop_count p n)) (drops-allowed p n inside (few-after p ok n inside)) l

  whole_level : (k : ℕ) → IsOneOf (final_label (suc k)) (coordinate_labels p n 0 (suc k))
  whole_level k =
      let back : k ≡ suc k - 1 = omega arith in
      subst (λ b. IsOneOf (final_label (suc k)) (cond b (product_label p n (suc k) (full_mask p n (suc k - 1)) Coordinate ∷ []) []))
      (sym (same_itself (take (suc k) (kept_numbers p n 0)))) (inl (ap (λ (i : ℕ). product_label p n (suc k) (full_mask p n i) Coordinate) back))

  bottom_reference : (d f : ℕ) → 0 < d → reference_label p n d f ≡ product_label p n d (full_mask p n (d - 1)) (Rank f)
  bottom_reference zero f some = absurd (omega (arith, some))
  bottom_reference (suc d) f some =
      let back : d ≡ suc d - 1 = omega arith in ap (λ (i : ℕ). product_label p n (suc d) (full_mask p n i) (Rank f)) back

  -- the blocks of a term, after the root
  pub term-stands : (made : List Made) → Sound (Plain p) made → Stands made 0 no_label → TermStands (term_levels n plan made)
  term-stands made sound rooted =
      let loops = length plan.on_left in
      let x : NestStands (Plain p) (Own n) plan final_label (reference_label p n) loops (nest (Own n) plan loops made) =
      nest-stands (Plain p) (Own n) plan final_label (reference_label p n) (λ f. refl)
      (λ d l. (level-allowed p n inside (is-small p ok n inside) d l, loop-asked p ok n inside d l, refl, λ f. refl)) made sound rooted loops
      (omega arith) in
      let y : LevelsStand (Plain p) (coordinate_labels p n (free_loop_count p n)) (value_labels p n (free_loop_count p n))
      (left_marks plan.on_left) (summed_levels n plan made) =
      summed-stands (Plain p) (Own n) plan (coordinate_labels p n) (value_labels p n) (λ f. bottom_label p n (Rank f))
      (values-allowed p n inside) (sums-allowed p n inside (few-after p ok n inside)) (some-access p ok n inside)
      (nest (Own n) plan loops made) x.sound x.root x.count
      (λ k l. (final_label (suc k), x.coordinates k l, whole_level k))
      (λ f l. subst (Stands (nest (Own n) plan loops made).made _) (bottom_reference loops f (some-loop p ok n inside)) (x.references f l)) in
      pruned-stands (Plain p) (OfTerm n (free_loop_count p n)) (length (result_sizes p)) (coordinate_labels p n (free_loop_count p n))
      (value_labels p n (free_loop_count p n)) (drops-allowed p n inside (few-after p ok n inside)) (summed_levels n plan made)
      (subst (λ (r : ℕ). LevelsStand (Plain p) (coordinate_labels p n (free_loop_count p n)) (value_labels p n (free_loop_count p n)) r
      (summed_levels n plan made)) (levels-are p ok n inside) y)

-- the root is the first block
pub root-sound : (p : Program) → Sound (Plain p) (root ∷ [])
root-sound p =
    sound-emit (Plain p) [] root [] tt tt (plain p _ _ _ (omega arith) refl (record { holds = refl; ins_are = tt; outs_are = refl }))

-- its output has the root's label
pub root-stands : Stands (root ∷ []) 0 no_label
root-stands = stands-new [] root 0 (omega arith)
