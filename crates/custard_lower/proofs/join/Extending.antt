-- A term's blocks come after those that were made before it.
use Rattle.std.specs.Prelude.{ℕ, zero, suc, ◌-◌, Bool, true, false, List, [], ◌∷◌, ◌++◌, length, drop, Option, Some, None}
use Rattle.std.specs.List.{range_with_len}
use mathlib.Core.List.{map}
use Rattle.sam_model.specs.Lists.{below}
use Rattle.custard_lower.specs.declared.drafts.Made.{Made}
use Rattle.custard_lower.specs.declared.trees.TermTrees.{TermTrees}
use Rattle.custard_lower.specs.declared.trees.TermTrees.TheVariants.{Own}
use Rattle.custard_lower.specs.declared.trees.PrunedTrees.{PrunedTrees}
use Rattle.custard_lower.specs.declared.trees.PrunedTrees.TheVariants.{OfTerm}
use Rattle.label_rules.specs.declared.plans.Plan.{Plan}
use Rattle.custard_lower.specs.Drafts.{outputs_of}
use Rattle.label_rules.specs.Plans.{asked, left_marks, free_marks}
use Rattle.custard_lower.specs.Nests.{Met, Nest, scan, intersect, met_with, first_met, all_met, scanned, level, nest}
use Rattle.custard_lower.specs.Values.{Valued, array, arrays, product, multiplied, constant, scaling, scaled, valued}
use Rattle.custard_lower.specs.Reductions.{Levels, sum_scalar, sum_vector, sum_matrix, reduce, reduced, drop_value, without_values, drop_fiber, without_fibers, emptied, pruned_below}
use Rattle.custard_lower.specs.Lowering.{term_levels}
use Rattle.custard_lower.proofs.draft.Emitted.{Extends, extends-same, extends-more, extends-both}

module _ (trees : TermTrees) (plan : Plan) where
  -- ---- loops

  met_extends : (d : ℕ) (made : List Made) (met : Met) (w : ℕ) (fs : List ℕ)
      → Extends made (all_met trees plan d made met w fs).made
  met_extends d made met w [] = extends-same made
  met_extends d made met w (f ∷ fs) =
      let made' = made ++ intersect trees plan d met f w ∷ [] in
      extends-both made made' _ (extends-more made (intersect trees plan d met f w ∷ []))
      (met_extends d made' (met_with trees plan met f (outputs_of made)) (suc (suc w)) fs)

  pub level-extends : (d : ℕ) (n : Nest) → Extends n.made (level trees plan d n).made
  level-extends d n =
      let w = outputs_of n.made in
      let first = first_met trees plan (asked plan d) w in
      let made1 = scanned trees plan d n in
      let made2 = (all_met trees plan d made1 first (suc (suc w)) (drop 1 (asked plan d))).made in
      extends-both n.made made2 _
      (extends-both n.made made1 made2 (extends-more n.made (map (scan trees plan d n.references) (asked plan d)))
      (met_extends d made1 first (suc (suc w)) (drop 1 (asked plan d))))
      (extends-more made2 _)

  pub nest-extends : (d : ℕ) (made : List Made) → Extends made (nest trees plan d made).made
  nest-extends zero made = extends-same made
  nest-extends (suc d) made =
      extends-both made (nest trees plan d made).made _ (nest-extends d made) (level-extends d (nest trees plan d made))

  -- ---- values

  multiplied_extends : (v : Valued) (w : ℕ) (ks : List ℕ) → Extends v.made (multiplied trees plan v w ks).made
  multiplied_extends v w [] = extends-same v.made
  multiplied_extends v w (k ∷ ks) =
      let v' : Valued = record { made = v.made ++ product trees plan k v.values w ∷ []; values = outputs_of v.made } in
      extends-both v.made v'.made _ (extends-more v.made (product trees plan k v.values w ∷ [])) (multiplied_extends v' (suc w) ks)

  scaled_extends : (c : Option ℕ) (v : Valued) → Extends v.made (scaled trees plan c v).made
  scaled_extends None v = extends-same v.made
  scaled_extends (Some c) v =
      let made = v.made ++ constant trees plan c v.values ∷ [] in
      extends-both v.made made _ (extends-more v.made (constant trees plan c v.values ∷ []))
      (extends-more made (scaling trees plan v.values (outputs_of v.made) ∷ []))

  pub valued-extends : (made : List Made) (references : List ℕ) → Extends made (valued trees plan made references).made
  valued-extends made references =
      let v : Valued = record { made = arrays trees plan made references; values = outputs_of made } in
      let m = multiplied trees plan v (suc (outputs_of made)) (range_with_len 1 (length plan.accesses - 1)) in
      extends-both made m.made _
      (extends-both made v.made m.made (extends-more made (map (array trees plan references) (below (length plan.accesses))))
      (multiplied_extends v (suc (outputs_of made)) (range_with_len 1 (length plan.accesses - 1))))
      (scaled_extends plan.coefficient m)

  -- ---- sums

  reduce_extends : (gone k : ℕ) (l : Levels) → Extends l.made (reduce trees gone k l).made
  reduce_extends gone zero l = extends-more l.made (sum_scalar trees gone l ∷ [])
  reduce_extends gone (suc zero) l = extends-more l.made (sum_vector trees gone l ∷ [])
  reduce_extends gone (suc (suc k)) l = extends-more l.made (sum_matrix trees gone l ∷ [])

  pub reduced-extends : (marks : List Bool) (l : Levels) → Extends l.made (reduced trees marks l).made
  reduced-extends [] l = extends-same l.made
  reduced-extends (true ∷ marks) l = reduced-extends marks l
  reduced-extends (false ∷ marks) l =
      extends-both l.made (reduced trees marks l).made _ (reduced-extends marks l)
      (reduce_extends (free_marks marks) (left_marks marks) (reduced trees marks l))

module _ (trees : PrunedTrees) where
  emptied_extends : (f : ℕ) (l : Levels) → Extends l.made (emptied trees f l).made
  emptied_extends zero l = extends-same l.made
  emptied_extends (suc f) l =
      extends-both l.made (without_fibers trees (suc f) l).made _ (extends-more l.made (drop_fiber trees (suc f) l ∷ []))
      (emptied_extends f (without_fibers trees (suc f) l))

  pub pruned-extends : (n : ℕ) (l : Levels) → Extends l.made (pruned_below trees n l).made
  pruned-extends zero l = extends-same l.made
  pruned-extends (suc f) l =
      extends-both l.made (without_values trees l).made _ (extends-more l.made (drop_value trees l ∷ []))
      (emptied_extends f (without_values trees l))

module _ (term : ℕ) (plan : Plan) where
  -- all blocks of a term
  pub term-extends : (made : List Made) → Extends made (term_levels term plan made).made
  term-extends made =
      let n = nest (Own term) plan (length plan.on_left) made in
      let v = valued (Own term) plan n.made n.references in
      let l : Levels = record { made = v.made; coordinates = n.coordinates; values = v.values } in
      let r = reduced (Own term) plan.on_left l in
      extends-both made r.made _
      (extends-both made v.made r.made
      (extends-both made n.made v.made (nest-extends (Own term) plan (length plan.on_left) made) (valued-extends (Own term) plan n.made n.references))
      (reduced-extends (Own term) plan plan.on_left l))
      (pruned-extends (OfTerm term (free_marks plan.on_left)) (length r.coordinates) r)
