-- The blocks that leave out what has no value keep to the rules, and their outputs have the labels of pruned trees.
use Rattle.std.specs.Prelude.{◌≡◌, ◌<◌, ◌≤◌, ◌⊎◌, ℕ, zero, suc, ◌+◌, ◌-◌, List, [], ◌∷◌, ◌++◌, length, take, get_or, set}
use Rattle.std.proofs.Common.{arith, sym, ◌∙◌, ap, subst, length-append, length-take-le, get_or-take, get_or-append-add, get_or-set_same, get_or-set_other, length-set, inl, inr}
use Rattle.std.proofs.lemmas.Bool.{cases_eq}
use lib.ListN.{get_or-append}
use Rattle.stream_model.specs.declared.labels.Attr.TheVariants.{Coordinate, Value}
use Rattle.stream_model.specs.declared.labels.Label.{Label}
use Rattle.graph.specs.declared.graphs.Kind.TheVariants as kind
use Rattle.custard_lower.specs.declared.drafts.Made.{Made}
use Rattle.custard_lower.specs.declared.trees.PrunedTrees.{PrunedTrees}
use Rattle.custard_lower.specs.Drafts.{outputs_of}
use Rattle.label_rules.specs.Labels.{IsOneOf}
use Rattle.label_rules.specs.Holding.{Rules}
use Rattle.custard_lower.specs.Reductions.{Levels, pruned_tree_label, level_at, without_values, drop_fiber, without_fibers, emptied, pruned_below, pruned}
use Rattle.custard_lower.proofs.draft.Emitted.{Stands, OneStands, Sound, extends-more, stands-on, one-stands-on, all-stand-new, sound-emit}
use Rattle.custard_lower.proofs.term.TermAllowed.{DropsAllowed}
use Rattle.custard_lower.proofs.term.ReducedSound.{LevelsStand}

-- the length from which on level k + 1 is pruned in the end
abbrev pub prune_level : ℕ → ℕ
prune_level zero = 1
prune_level (suc k) = suc k

module _ (rules : Rules) (trees : PrunedTrees) (depth : ℕ) (coordinates : ℕ → List Label) (values : List Label)
    (may : DropsAllowed rules trees depth coordinates values) where
  -- the coordinates of a tree that is pruned from length f on
  abbrev pub level_label : ℕ → ℕ → Label
  level_label f d = pruned_tree_label trees f d Coordinate

  -- Level f + 1 is pruned from its own length on, the levels above it aren't, and those below it are as they stay.
  pub record Emptying (f : ℕ) (l : Levels) : Type 0 where
    pub sound : Sound rules l.made
    pub count : length l.coordinates ≡ depth
    pub above : (j : ℕ) → j < f → OneStands l.made (get_or l.coordinates j 0) (coordinates (suc j))
    pub here : Stands l.made (get_or l.coordinates f 0) (level_label (suc f) (suc f))
    pub below : (j : ℕ) → f < j → j < depth → Stands l.made (get_or l.coordinates j 0) (level_label j (suc j))
    pub values_stand : Stands l.made l.values (pruned_tree_label trees depth depth Value)

  -- in the end, where there is a level
  pub record PrunedStand (l : Levels) : Type 0 where
    pub sound : Sound rules l.made
    pub count : length l.coordinates ≡ depth
    pub coordinates_stand : (k : ℕ) → k < depth → Stands l.made (get_or l.coordinates k 0) (level_label (prune_level k) (suc k))
    pub values_stand : 0 < depth → Stands l.made l.values (pruned_tree_label trees depth depth Value)
    pub value_stands : depth ≡ 0 → OneStands l.made l.values values

  -- ---- values

  module _ (l : Levels) where
    -- the dropper below n levels, of which k stay as they are
    abbrev drop_at : ℕ → Made
    drop_at n = record {
      kind = kind.DropValue;
      ins = level_at l.coordinates n ∷ l.values ∷ [];
      labels = pruned_tree_label trees n n Coordinate ∷ pruned_tree_label trees n n Value ∷ [];
    }

    abbrev with_drop : ℕ → ℕ → Levels
    with_drop n k = record {
      made = l.made ++ drop_at n ∷ [];
      coordinates = take k l.coordinates ++ outputs_of l.made ∷ [];
      values = suc (outputs_of l.made);
    }

    values_at : (e : ℕ) → depth ≡ suc e → LevelsStand rules coordinates values depth l → Emptying e (with_drop (suc e) e)
    values_at e size x =
        let b = drop_at (suc e) in
        let w = outputs_of l.made in
        let made' = l.made ++ b ∷ [] in
        let count = x.count in
        let taken : e ≤ length l.coordinates = omega (arith, count, size) in
        let taking = length-take-le e l.coordinates taken in
        let new = all-stand-new l.made b in
        let next : w + 1 ≡ suc w = omega arith in
        let last : e + 0 ≡ e = omega arith in
        let y = x.coordinates_stand e (omega (arith, size)) in
        let v = x.values_stand in
        record {
          sound =
              sound-emit rules l.made b (y.0 ∷ v.0 ∷ []) x.sound (y.1, (v.1, tt))
              (subst (λ (n : ℕ). rules kind.DropValue (y.0 ∷ v.0 ∷ [])
              (pruned_tree_label trees n n Coordinate ∷ pruned_tree_label trees n n Value ∷ [])) size
              (may.value y.0 v.0 (omega (arith, size)) (subst (λ (n : ℕ). IsOneOf y.0 (coordinates n)) (sym size) y.2) v.2));
          count = length-append (take e l.coordinates) (w ∷ []) ∙ omega (arith, taking, size);
          above = λ j i. subst (λ (v : ℕ). OneStands made' v (coordinates (suc j)))
              (sym (get_or-append (take e l.coordinates) (w ∷ []) 0 j (omega (arith, taking, i))
              ∙ get_or-take e l.coordinates j 0 i))
              (one-stands-on l.made made' _ _ (extends-more l.made (b ∷ [])) (x.coordinates_stand j (omega (arith, size, i))));
          here = subst (λ (v : ℕ). Stands made' v (level_label (suc e) (suc e)))
              (sym (ap (λ (k : ℕ). get_or (take e l.coordinates ++ w ∷ []) k 0) (sym last)
              ∙ ap (λ (k : ℕ). get_or (take e l.coordinates ++ w ∷ []) (k + 0) 0) (sym taking)
              ∙ get_or-append-add (take e l.coordinates) (w ∷ []) 0 0)) new.0;
          below = λ j i k. absurd (omega (arith, size, i, k));
          values_stand = subst (λ (n : ℕ). Stands made' (suc w) (pruned_tree_label trees n n Value)) (sym size)
              (subst (λ (v : ℕ). Stands made' v (pruned_tree_label trees (suc e) (suc e) Value)) next new.1.0);
        }

    values_drop : (e : ℕ) → depth ≡ suc e → LevelsStand rules coordinates values depth l → Emptying e (without_values trees l)
    values_drop e size x =
        let count = x.count in
        let n : suc e ≡ length l.coordinates = omega (arith, count, size) in
        let k : e ≡ length l.coordinates - 1 = omega (arith, count, size) in
        subst (λ (n : ℕ). Emptying e (with_drop n (length l.coordinates - 1))) n
        (subst (λ (k : ℕ). Emptying e (with_drop (suc e) k)) k (values_at e size x))

    -- ---- fibers

    abbrev two_set : ℕ → ℕ → List ℕ
    two_set h f = set (set l.coordinates h (outputs_of l.made)) f (suc (outputs_of l.made))

    fibers_at : (f : ℕ) → suc f < depth → Emptying (suc f) l
        → Emptying f (record {
          made = l.made ++ drop_fiber trees (suc f) l ∷ [];
          coordinates = two_set f (suc f);
          values = l.values;
        })
    fibers_at f deep x =
        let b = drop_fiber trees (suc f) l in
        let w = outputs_of l.made in
        let made' = l.made ++ b ∷ [] in
        let on = extends-more l.made (b ∷ []) in
        let new = all-stand-new l.made b in
        let next : w + 1 ≡ suc w = omega arith in
        let count = x.count in
        let first = set l.coordinates f w in
        let wide : length first ≡ length l.coordinates = length-set l.coordinates f w in
        let second : Stands made' (suc w) (level_label (suc f) (suc (suc f))) =
        subst (λ (v : ℕ). Stands made' v (level_label (suc f) (suc (suc f)))) next new.1.0 in
        let other : (j : ℕ) → (j ≡ f → ⊥) → (j ≡ suc f → ⊥) → get_or (two_set f (suc f)) j 0 ≡ get_or l.coordinates j 0 =
        λ j h k. get_or-set_other first (suc f) j (suc w) 0 k ∙ get_or-set_other l.coordinates f j w 0 h in
        let y = x.above f (omega arith) in
        record {
          sound =
              sound-emit rules l.made b (y.0 ∷ level_label (suc (suc f)) (suc (suc f)) ∷ []) x.sound (y.1, (x.here, tt))
              (may.fiber (suc f) y.0 (omega arith) deep y.2);
          count = length-set first (suc f) (suc w) ∙ wide ∙ count;
          above = λ j i. subst (λ (v : ℕ). OneStands made' v (coordinates (suc j)))
              (sym (other j (λ e. omega (arith, e, i)) (λ e. omega (arith, e, i))))
              (one-stands-on l.made made' _ _ on (x.above j (omega (arith, i))));
          here = subst (λ (v : ℕ). Stands made' v (level_label (suc f) (suc f)))
              (sym (get_or-set_other first (suc f) f (suc w) 0 (λ e. omega (arith, e))
              ∙ get_or-set_same l.coordinates f w 0 (omega (arith, count, deep)))) new.0;
          below = λ j i k. by_place j i k (cases_eq j (suc f)) second other;
          values_stand = stands-on l.made made' _ _ on x.values_stand;
        }
      where
        by_place : (j : ℕ) → f < j → j < depth → (j ≡ suc f) ⊎ (j ≡ suc f → ⊥)
            → Stands (l.made ++ drop_fiber trees (suc f) l ∷ []) (suc (outputs_of l.made)) (level_label (suc f) (suc (suc f)))
            → ((j : ℕ) → (j ≡ f → ⊥) → (j ≡ suc f → ⊥) → get_or (two_set f (suc f)) j 0 ≡ get_or l.coordinates j 0)
            → Stands (l.made ++ drop_fiber trees (suc f) l ∷ []) (get_or (two_set f (suc f)) j 0) (level_label j (suc j))
        by_place j i k (inl e) second other =
            let wide : length (set l.coordinates f (outputs_of l.made)) ≡ length l.coordinates =
            length-set l.coordinates f (outputs_of l.made) in
            let count = x.count in
            subst (λ (v : ℕ). Stands (l.made ++ drop_fiber trees (suc f) l ∷ []) v (level_label j (suc j)))
            (sym (ap (λ (n : ℕ). get_or (two_set f (suc f)) n 0) e
            ∙ get_or-set_same (set l.coordinates f (outputs_of l.made)) (suc f) (suc (outputs_of l.made)) 0
            (omega (arith, wide, count, deep))))
            (subst (λ (n : ℕ). Stands (l.made ++ drop_fiber trees (suc f) l ∷ []) (suc (outputs_of l.made))
            (level_label n (suc n))) (sym e) second)
        by_place j i k (inr ne) second other =
            subst (λ (v : ℕ). Stands (l.made ++ drop_fiber trees (suc f) l ∷ []) v (level_label j (suc j)))
            (sym (other j (λ e. omega (arith, e, i)) ne))
            (stands-on l.made (l.made ++ drop_fiber trees (suc f) l ∷ []) _ _
            (extends-more l.made (drop_fiber trees (suc f) l ∷ [])) (x.below j (omega (arith, i, ne)) k))

    fibers_drop : (f : ℕ) → suc f < depth → Emptying (suc f) l → Emptying f (without_fibers trees (suc f) l)
    fibers_drop f deep x =
        let h : f ≡ suc f - 1 = omega arith in
        subst (λ (h : ℕ). Emptying f (record {
          made = l.made ++ drop_fiber trees (suc f) l ∷ [];
          coordinates = two_set h (suc f);
          values = l.values;
        })) h
        (fibers_at f deep x)

  emptied_stand : (f : ℕ) (l : Levels) → f < depth → Emptying f l → Emptying 0 (emptied trees f l)
  emptied_stand zero l deep x = x
  emptied_stand (suc f) l deep x =
      emptied_stand f (without_fibers trees (suc f) l) (omega (arith, deep)) (fibers_drop l f deep x)

  -- ---- all levels

  at_end : (e : ℕ) → depth ≡ suc e → (l : Levels) → Emptying 0 l → PrunedStand l
  at_end e size l x = record {
    sound = x.sound;
    count = x.count;
    coordinates_stand = by_level;
    values_stand = λ _. x.values_stand;
    value_stands = λ none. absurd (omega (arith, none, size));
  }
    where
      by_level : (k : ℕ) → k < depth → Stands l.made (get_or l.coordinates k 0) (level_label (prune_level k) (suc k))
      by_level zero i = x.here
      by_level (suc k) i = x.below (suc k) (omega arith) i

  -- where the levels stand they are pruned
  pub pruned-stands : (l : Levels) → LevelsStand rules coordinates values depth l → PrunedStand (pruned trees l)
  pruned-stands l x = by_count (length l.coordinates) x.count
    where
      by_count : (n : ℕ) → n ≡ depth → PrunedStand (pruned_below trees n l)
      by_count zero e = record {
        sound = x.sound;
        count = x.count;
        coordinates_stand = λ k i. absurd (omega (arith, e, i));
        values_stand = λ some. absurd (omega (arith, e, some));
        value_stands = λ _. x.values_stand;
      }
      by_count (suc e) size =
          at_end e (sym size) (emptied trees e (without_values trees l))
          (emptied_stand e (without_values trees l) (omega (arith, size)) (values_drop l e (sym size) x))
