-- Beneath the shared levels, each term's blocks keep to the rules, and so do those that add the terms' values.
use Rattle.std.specs.Prelude.{◌≡◌, ◌<◌, ◌≤◌, ◌⊎◌, ℕ, zero, suc, ◌+◌, ◌-◌, Bool, true, false, cond, List, [], ◌∷◌, ◌++◌, length, take, drop, get_or, eqb, ltb, refl}
use mathlib.Core.List.{map}
use Rattle.std.proofs.Common.{arith, sym, ◌∙◌, ap, subst, inl, inr}
use Rattle.std.proofs.lemmas.Bool.{cases_eq}
use Rattle.std.proofs.lemmas.Bool.Decides.{nat_tests}
use Rattle.sam_model.specs.declared.program.Program.{Program}
use Rattle.sam_model.specs.Lists.{below}
use Rattle.sam_model.specs.Program.{accepted}
use Rattle.stream_model.specs.declared.labels.Attr.TheVariants.{Coordinate, Rank, Value}
use Rattle.stream_model.specs.declared.labels.Label.{Label}
use Rattle.stream_model.specs.declared.labels.Tree.TheVariants.{Across, Under, UnderJoined}
use Rattle.stream_model.specs.Fused.{shared_levels}
use Rattle.graph.specs.declared.graphs.Kind.TheVariants as kind
use Rattle.label_rules.specs.declared.plans.Plan.{Plan}
use Rattle.label_rules.specs.Holding.{Rules}
use Rattle.label_rules.specs.Labels.{no_label, tree_label, IsOneOf}
use Rattle.label_rules.specs.TermLabels.{empty_term, plan_at, factor_count, loop_count, full_mask}
use Rattle.custard_lower.specs.declared.drafts.Made.{Made}
use Rattle.custard_lower.specs.declared.nests.Nest.{Nest}
use Rattle.custard_lower.specs.declared.reductions.Levels.{Levels}
use Rattle.custard_lower.specs.Trees.{unpruned}
use Rattle.custard_lower.specs.Drafts.{outputs_of}
use Rattle.custard_lower.specs.Nests.{level}
use Rattle.custard_lower.specs.Values.{valued}
use Rattle.custard_lower.proofs.draft.Emitted.{Stands, OneStands, AllStand, Sound, Extends, extends-same, extends-more, extends-both, stands-on, one-stands-on, all-stand-on, sound-emit, stands-new}
use Rattle.custard_lower.proofs.term.NestSound.{NestStands, next-stands}
use Rattle.custard_lower.proofs.term.PlanFacts.{loop-asked, some-access}
use Rattle.custard_lower.proofs.term.SummedSound.{summed-stands}
use Rattle.custard_lower.proofs.join.Extending.{level-extends, valued-extends, reduced-extends}
use Rattle.custard_fuse.specs.Sharing.{across_label}
use Rattle.custard_fuse.specs.Fusing.{is_fused, deeper_levels, summed_term, addition, added_terms}
use Rattle.custard_fuse.specs.FusedRules.{last_term, fused_trees, under_label, fused_reference, level_label, fused_bottom, fused_values, term_values, values_upto}
use Rattle.custard_fuse.proofs.FusedPlans.{some-levels, levels-within}
use Rattle.custard_fuse.proofs.FusedAllows.{Fusing, fusing, fused-level, fused-values-allowed, fused-sums-allowed}
use Rattle.custard_fuse.proofs.SharedWalk.{plans_from, reference_labels, references-apart, own-references}

module _ (p : Program) (ok : accepted p ≡ true) (fused : is_fused p ≡ true) where
  abbrev h : ℕ
  h = shared_levels p

  abbrev R : Rules
  R = Fusing p

  module _ (n : ℕ) (inside : n < length p.terms) where
    abbrev plan : Plan
    plan = plan_at p n

    abbrev NestStandsAt : ℕ → Nest → Type 0
    NestStandsAt d nest = NestStands R (fused_trees p n) plan (level_label p n) (fused_reference p n) d nest

    -- ---- the term's labels on the shared levels and beneath

    same_level : (k : ℕ) → k < h → level_label p 0 (suc k) ≡ level_label p n (suc k)
    same_level k l =
        let b : ltb k h ≡ true = grind (arith, nat_tests, l) in
        ap (λ (c : Bool). cond c (across_label (last_term p) 0 (suc k) Coordinate) (under_label p 0 (suc k) (full_mask p 0 k) Coordinate)) b
        ∙ ap (λ (c : Bool). cond c (across_label (last_term p) 0 (suc k) Coordinate) (under_label p n (suc k) (full_mask p n k) Coordinate)) (sym b)

    deep_level : (d : ℕ) → h ≤ d → level_label p n (suc d) ≡ under_label p n (suc d) (full_mask p n d) Coordinate
    deep_level d l =
        let b : ltb d h ≡ false = grind (arith, nat_tests, l) in
        ap (λ (c : Bool). cond c (across_label (last_term p) 0 (suc d) Coordinate) (under_label p n (suc d) (full_mask p n d) Coordinate)) b

    deep_reference : (d f : ℕ) → h ≤ d → fused_reference p n (suc d) f ≡ under_label p n (suc d) (full_mask p n d) (Rank f)
    deep_reference d f l =
        let b : ltb d h ≡ false = grind (arith, nat_tests, l) in
        ap (λ (c : Bool). cond c (across_label (last_term p) n (suc d) (Rank f)) (under_label p n (suc d) (full_mask p n d) (Rank f))) b

    bottom_reference : (m f : ℕ) → 0 < m → h ≤ m → m ≡ loop_count p n → fused_reference p n m f ≡ fused_bottom p n (Rank f)
    bottom_reference zero f some l e = absurd (omega (arith, some))
    bottom_reference (suc d) f some l e = by_case (cases_eq (suc d) h)
      where
        back : suc d - 1 ≡ d
        back = omega arith

        at_loops : tree_label (cond (eqb (suc d) h) (Across (last_term p) n h) (Under n (suc d) (full_mask p n (suc d - 1)))) (Rank f) ≡ fused_bottom p n (Rank f)
        at_loops = ap (λ (m : ℕ). tree_label (cond (eqb m h) (Across (last_term p) n h) (Under n m (full_mask p n (m - 1)))) (Rank f)) e

        by_case : (suc d ≡ h) ⊎ (suc d ≡ h → ⊥) → fused_reference p n (suc d) f ≡ fused_bottom p n (Rank f)
        by_case (inl s) =
            let b : ltb d h ≡ true = grind (arith, nat_tests, s) in
            let c : eqb (suc d) h ≡ true = grind (arith, nat_tests, s) in
            ap (λ (c : Bool). cond c (across_label (last_term p) n (suc d) (Rank f)) (under_label p n (suc d) (full_mask p n d) (Rank f))) b
            ∙ ap (λ (i : ℕ). across_label (last_term p) n i (Rank f)) s
            ∙ ap (λ (c : Bool). tree_label (cond c (Across (last_term p) n h) (Under n (suc d) (full_mask p n (suc d - 1)))) (Rank f)) (sym c)
            ∙ at_loops
        by_case (inr ne) =
            let less : h ≤ d = omega (arith, l, ne) in
            let c : eqb (suc d) h ≡ false = grind (arith, nat_tests, less) in
            deep_reference d f less
            ∙ ap (λ (i : ℕ). under_label p n (suc d) (full_mask p n i) (Rank f)) (sym back)
            ∙ ap (λ (c : Bool). tree_label (cond c (Across (last_term p) n h) (Under n (suc d) (full_mask p n (suc d - 1)))) (Rank f)) (sym c)
            ∙ at_loops

    -- ---- the rest of its loops

    deeper_stands : (k : ℕ) (nest : Nest) → h + k ≤ loop_count p n → NestStandsAt h nest
        → NestStandsAt (h + k) (deeper_levels (last_term p) h (fused_trees p n) plan k nest)
    deeper_stands zero nest l x = let z : h ≡ h + 0 = omega arith in subst (λ (i : ℕ). NestStandsAt i nest) z x
    deeper_stands (suc k) nest l x =
        let before = deeper_levels (last_term p) h (fused_trees p n) plan k nest in
        let deep : h + k < loop_count p n = omega (arith, l) in
        let below_all : h ≤ h + k = omega arith in
        let next : suc (h + k) ≡ h + suc k = omega arith in
        subst (λ (i : ℕ). NestStandsAt i (level (fused_trees p n) plan (h + k) before)) next
        (next-stands R (fused_trees p n) plan (level_label p n) (fused_reference p n) (h + k) before
        (fused-level p ok fused n inside (h + k) deep) (loop-asked p ok n inside (h + k) deep)
        (deep_level (h + k) below_all) (λ f. deep_reference (h + k) f below_all)
        (deeper_stands k nest (omega (arith, l)) x))

    deeper_extends : (k : ℕ) (nest : Nest) → Extends nest.made (deeper_levels (last_term p) h (fused_trees p n) plan k nest).made
    deeper_extends zero nest = extends-same nest.made
    deeper_extends (suc k) nest =
        let before = deeper_levels (last_term p) h (fused_trees p n) plan k nest in
        extends-both nest.made before.made _ (deeper_extends k nest) (level-extends (fused_trees p n) plan (h + k) before)

    -- ---- its values and sums

    -- what a term leaves: its values, after what was made before
    pub record TermStands (before : List Made) (l : Levels) : Type 0 where
      pub sound : Sound R l.made
      pub extends : Extends before l.made
      pub values_stand : OneStands l.made l.values (term_values p n)

    pub term-stands : (made : List Made) (coordinates references : List ℕ) → Sound R made → Stands made 0 no_label → length coordinates ≡ h
        → ((k : ℕ) → k < h → Stands made (get_or coordinates k 0) (level_label p 0 (suc k)))
        → AllStand made references (map (λ f. fused_reference p n h f) (below (factor_count p n)))
        → TermStands made (summed_term (last_term p) h n plan (record { made = made; coordinates = coordinates; references = references }))
    term-stands made coordinates references sound root count levels own =
        let nest : Nest = record { made = made; coordinates = coordinates; references = references } in
        let mine = own-references p ok fused made h n references own in
        let within = levels-within p ok fused n inside in
        let some = some-levels p ok fused in
        let rest = loop_count p n - h in
        let all : h + rest ≡ loop_count p n = omega (arith, within) in
        let start : NestStandsAt h nest = record {
          sound = sound;
          root = root;
          count = count;
          coordinates = λ k l. subst (Stands made (get_or coordinates k 0)) (same_level k l) (levels k l);
          width = mine.0;
          references = mine.1;
        } in
        let deep = deeper_levels (last_term p) h (fused_trees p n) plan rest nest in
        let x : NestStandsAt (h + rest) deep = deeper_stands rest nest (omega (arith, all)) start in
        let y =
        summed-stands R (fused_trees p n) plan (λ g d. level_label p n d ∷ []) (fused_values p n) (λ f. fused_bottom p n (Rank f))
        (fused-values-allowed p ok fused n inside) (fused-sums-allowed p ok fused n inside) (some-access p ok n inside) deep
        x.sound x.root (x.count ∙ all)
        (λ k l. (level_label p n (suc k), x.coordinates k (let e = all in omega (arith, e, l)), inl refl))
        (λ f l. subst (Stands deep.made (get_or deep.references f 0)) (bottom_reference (h + rest) f (omega (arith, some)) (omega arith) all) (x.references f l)) in
        let v = valued (fused_trees p n) plan deep.made deep.references in
        record {
          sound = y.sound;
          extends =
              extends-both made deep.made _ (deeper_extends rest nest)
              (extends-both deep.made v.made _ (valued-extends (fused_trees p n) plan deep.made deep.references)
              (reduced-extends (fused_trees p n) plan plan.on_left (record { made = v.made; coordinates = deep.coordinates; values = v.values })));
          values_stand = y.values_stand;
        }

  -- ---- the terms' values added

  add_allowed : (e : ℕ) → suc e < length p.terms → (b : Bool) → (get_or p.terms (suc e) empty_term).minus ≡ b → (l v : Label)
      → IsOneOf l (values_upto p e) → IsOneOf v (term_values p (suc e))
      → Fusing p (cond b kind.Sub kind.Add) (l ∷ v ∷ []) (tree_label (UnderJoined (suc e) unpruned h) Value ∷ [])
  add_allowed e inside b is l v x y =
      let some : ltb 0 (suc e) ≡ true = grind (arith, nat_tests) in
      let there : ltb (suc e) (length p.terms) ≡ true = grind (arith, nat_tests, inside) in
      let back : e ≡ suc e - 1 = omega arith in
      let before : IsOneOf l (values_upto p (suc e - 1)) = subst (λ (i : ℕ). IsOneOf l (values_upto p i)) back x in
      by_sign some there before b is
    where
      by_sign : ltb 0 (suc e) ≡ true → ltb (suc e) (length p.terms) ≡ true → IsOneOf l (values_upto p (suc e - 1))
          → (b : Bool) → (get_or p.terms (suc e) empty_term).minus ≡ b
          → Fusing p (cond b kind.Sub kind.Add) (l ∷ v ∷ []) (tree_label (UnderJoined (suc e) unpruned h) Value ∷ [])
      by_sign some there before true is =
          fusing p kind.Sub _ _ (omega arith) refl (record { holds = rw (some, there, is) refl; ins_are = (before, (y, tt)); outs_are = refl })
      by_sign some there before false is =
          fusing p kind.Add _ _ (omega arith) refl (record { holds = rw (some, there, is) refl; ins_are = (before, (y, tt)); outs_are = refl })

  -- the terms up to number e are added
  pub record AddedStands (e : ℕ) (l : Levels) : Type 0 where
    pub sound : Sound R l.made
    pub root : Stands l.made 0 no_label
    pub count : length l.coordinates ≡ h
    pub coordinates_stand : (k : ℕ) → k < h → Stands l.made (get_or l.coordinates k 0) (level_label p 0 (suc k))
    pub values_stand : OneStands l.made l.values (values_upto p e)

  pub added-stands : (e k : ℕ) (references : List ℕ) (l : Levels) → suc e + k ≡ length p.terms → AddedStands e l
      → AllStand l.made references (reference_labels p ok fused h (suc e) k)
      → AddedStands (e + k) (added_terms (last_term p) h p (suc e) (plans_from p ok fused (suc e) k) references l)
  added-stands e zero references l same x refs = let z : e ≡ e + 0 = omega arith in subst (λ (i : ℕ). AddedStands i l) z x
  added-stands e (suc k) references l same x refs =
      let inside : suc e < length p.terms = omega (arith, same) in
      let apart = references-apart p ok fused l.made h (suc e) k references refs in
      let ws = take (factor_count p (suc e)) references in
      let one = summed_term (last_term p) h (suc e) (plan_at p (suc e)) (record { made = l.made; coordinates = l.coordinates; references = ws }) in
      let y : TermStands (suc e) inside l.made one = term-stands (suc e) inside l.made l.coordinates ws x.sound x.root x.count x.coordinates_stand apart.0 in
      let minus = (get_or p.terms (suc e) empty_term).minus in
      let m = addition (last_term p) h (suc e) minus l.values one.values in
      let on : Extends l.made (one.made ++ m ∷ []) = extends-both l.made one.made _ y.extends (extends-more one.made (m ∷ [])) in
      let before : OneStands one.made l.values (values_upto p e) = one-stands-on l.made one.made _ _ y.extends x.values_stand in
      let next : Levels = record { made = one.made ++ m ∷ []; coordinates = l.coordinates; values = outputs_of one.made } in
      let here : outputs_of one.made + 0 ≡ outputs_of one.made = omega arith in
      let now : AddedStands (suc e) next = record {
        sound =
            sound-emit R one.made m (before.0 ∷ y.values_stand.0 ∷ []) y.sound (before.1, (y.values_stand.1, tt))
            (add_allowed e inside minus refl before.0 y.values_stand.0 before.2 y.values_stand.2);
        root = stands-on l.made _ _ _ on x.root;
        count = x.count;
        coordinates_stand = λ k i. stands-on l.made _ _ _ on (x.coordinates_stand k i);
        values_stand = (
          tree_label (UnderJoined (suc e) unpruned h) Value,
          subst (λ (w : ℕ). Stands (one.made ++ m ∷ []) w (tree_label (UnderJoined (suc e) unpruned h) Value)) here
              (stands-new one.made m 0 (omega arith)),
          inl refl,
        );
      } in
      let more : suc e + k ≡ e + suc k = omega arith in
      subst (λ (i : ℕ). AddedStands i (added_terms (last_term p) h p (suc (suc e)) (plans_from p ok fused (suc (suc e)) k) (drop (factor_count p (suc e)) references) next)) more
      (added-stands (suc e) k (drop (factor_count p (suc e)) references) next (omega (arith, same)) now (all-stand-on l.made _ _ _ on apart.1))
