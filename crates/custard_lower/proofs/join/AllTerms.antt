-- The terms of a program, each joined to those before it: the blocks meet their rules, and in the end the levels and values are
-- the result's.
use Rattle.std.specs.Prelude.{◌≡◌, ◌<◌, ℕ, suc, ◌-◌, Bool, true, false, cond, List, [], ◌∷◌, ◌++◌, length, get_or, eqb, ltb, leb, refl}
use mathlib.Core.List.{map}
use Rattle.std.specs.List.{range_with_len}
use Rattle.std.proofs.Common.{arith, sym, ◌∙◌, ap, subst, append_assoc, length-append, inl}
use Rattle.std.proofs.lemmas.Bool.Decides.{nat_tests}
use lib.Seq.{get_or-append_seam}
use Rattle.sam_model.specs.declared.program.Term.{Term}
use Rattle.sam_model.specs.declared.program.Program.{Program}
use Rattle.sam_model.specs.Program.{accepted}
use Rattle.stream_model.specs.declared.labels.Attr.{Attr}
use Rattle.stream_model.specs.declared.labels.Attr.TheVariants.{Coordinate, Value}
use Rattle.stream_model.specs.declared.labels.Side.TheVariants.{Left, Right}
use Rattle.stream_model.specs.declared.labels.Tree.{Tree}
use Rattle.stream_model.specs.declared.labels.Tree.TheVariants.{Reduced, Joined}
use Rattle.stream_model.specs.Labels.{result_sizes}
use Rattle.graph.specs.declared.graphs.Kind.TheVariants as kind
use Rattle.label_rules.specs.Labels.{no_label, tree_label, IsOneOf}
use Rattle.label_rules.specs.Plans.{plan_of}
use Rattle.label_rules.specs.TermLabels.{empty_term, plan_at, free_loop_count, value_labels}
use Rattle.label_rules.specs.JoinLabels.{own_labels, lone_labels, pruned_labels}
use Rattle.custard_lower.specs.Reductions.{Levels}
use Rattle.custard_lower.specs.Unions.{joined_sides}
use Rattle.custard_lower.specs.Lowering.{root, term_levels, first_level_tree, part, with_terms}
use Rattle.custard_lower.proofs.draft.Emitted.{Stands, OneStands, Sound, Extends, stands-on, one-stands-on}
use Rattle.custard_lower.proofs.term.PrunedSound.{prune_level}
use Rattle.custard_lower.proofs.term.PlainRules.{Plain, PlainRules}
use Rattle.custard_lower.proofs.term.TermSound.{TermStands, term-stands, root-sound, root-stands}
use Rattle.custard_lower.proofs.join.Extending.{term-extends}
use Rattle.custard_lower.proofs.join.JoinSound.{J, SideStands, JoinStands, side-on, join-stands}
use Rattle.custard_lower.proofs.join.OnlyTerm.{one-in-range, low-prune, only-stands}
use Rattle.custard_lower.proofs.written.WrittenJoined.{joined-tensor}
use Rattle.custard_lower.proofs.written.ResultGraph.{ResultStands}

-- the term after some others
term_after : (t0 : Term) (before : List Term) (t : Term) (ts : List Term)
    → get_or (t0 ∷ (before ++ t ∷ ts)) (suc (length before)) empty_term ≡ t
term_after t0 before t ts = get_or-append_seam before t ts empty_term

module _ (p : Program) (ok : accepted p ≡ true) where
  abbrev levels : ℕ
  levels = length (result_sizes p)

  -- The terms up to number k are joined: their levels and values are a side of the next join, if there is one, and the
  -- result's otherwise.
  pub record SoFar (k : ℕ) (tree : Tree) (l : Levels) : Type 0 where
    pub sound : Sound (Plain p) l.made
    pub root_on : Stands l.made 0 no_label
    pub count : length l.coordinates ≡ levels
    pub side : (some : 0 < suc k) (inside : suc k < length p.terms) → SideStands p (suc k) some inside Left l.made (part tree l)
    pub alone : levels ≡ 0 → suc k < length p.terms → OneStands l.made l.values (lone_labels p (suc k))
    pub result : suc k ≡ length p.terms → ResultStands p (PlainRules p) l

  -- ---- one term

  module _ (n : ℕ) (inside : n < length p.terms) (l : Levels) (x : TermStands p ok n inside l) where
    -- the labels that level e + 1 may have, and the values
    level_one : (e : ℕ) → e < levels → OneStands l.made (get_or l.coordinates e 0) (pruned_labels p n (suc e) Coordinate)
    level_one e i = (
      _,
      x.coordinates_stand e i,
      one-in-range (λ f. tree_label (Reduced n (free_loop_count p n) f (suc e)) Coordinate) 1 (suc e) (prune_level e) (low-prune e).0
          (let q = (low-prune e).1 in omega (arith, q)),
    )

    values_one : 0 < levels → OneStands l.made l.values (pruned_labels p n levels Value)
    values_one some = (
      _,
      x.values_stand some,
      one-in-range (λ f. tree_label (Reduced n (free_loop_count p n) f levels) Value) 1 levels levels some (omega arith),
    )

    only_values : levels ≡ 1 → Stands l.made l.values (tree_label (Reduced n (free_loop_count p n) 1 1) Value)
    only_values one =
        subst (λ (r : ℕ). Stands l.made l.values (tree_label (Reduced n (free_loop_count p n) r r) Value)) one (x.values_stand (omega (arith, one)))

    right_side : (some : 0 < n) → SideStands p n some inside Right l.made (part (first_level_tree n (plan_at p n)) l)
    right_side some = record {
      first = λ i. x.coordinates_stand 0 i;
      only = only_values;
      tree_is = refl;
      later = λ e i j. level_one e j;
      final = λ i. values_one (omega (arith, i));
    }

  -- ---- the first term

  module _ (inside : 0 < length p.terms) where
    abbrev first_part : Levels
    first_part = term_levels 0 (plan_at p 0) (root ∷ [])

    first_stands : TermStands p ok 0 inside first_part
    first_stands = term-stands p ok 0 inside (root ∷ []) (root-sound p) root-stands

    only_result : 1 ≡ length p.terms → ResultStands p (PlainRules p) first_part
    only_result one = by_terms p.terms refl
      where
        by_terms : (ts : List Term) → p.terms ≡ ts → ResultStands p (PlainRules p) first_part
        by_terms [] e = let n = ap (λ (xs : List Term). length xs) e in absurd (omega (arith, one, n))
        by_terms (t ∷ []) e = only-stands p t ok e inside first_part first_stands
        by_terms (t ∷ u ∷ ts) e = let n = ap (λ (xs : List Term). length xs) e in absurd (omega (arith, one, n))

    first-so-far : SoFar 0 (first_level_tree 0 (plan_at p 0)) first_part
    first-so-far = record {
      sound = first_stands.sound;
      root_on = stands-on (root ∷ []) first_part.made _ _ (term-extends 0 (plan_at p 0) (root ∷ [])) root-stands;
      count = first_stands.count;
      side = λ some more. record {
        first = λ i. first_stands.coordinates_stand 0 i;
        only = only_values 0 inside first_part first_stands;
        tree_is = refl;
        later = λ e i j. level_one 0 inside first_part first_stands e j;
        final = λ i. values_one 0 inside first_part first_stands (omega (arith, i));
      };
      alone = λ none more. first_stands.value_stands none;
      result = only_result;
    }

  -- ---- one term more

  -- the next term, number suc k, and the terms so far
  module _ (k : ℕ) (inside : suc k < length p.terms) (tree : Tree) (l : Levels) (x : SoFar k tree l) where
    abbrev n : ℕ
    n = suc k

    some : 0 < n
    some = omega arith

    abbrev more : Levels
    more = term_levels n (plan_at p n) l.made

    stands : TermStands p ok n inside more
    stands = term-stands p ok n inside l.made x.sound x.root_on

    on : Extends l.made more.made
    on = term-extends n (plan_at p n) l.made

    abbrev joined_with : Levels
    joined_with =
        joined_sides n (get_or p.terms n empty_term).minus more.made (part tree l) (part (first_level_tree n (plan_at p n)) more)

    joins : JoinStands p n some inside more.made joined_with
    joins =
        join-stands p n some inside more.made (part tree l) (part (first_level_tree n (plan_at p n)) more) stands.sound
        (side-on p n some inside Left l.made more.made (part tree l) on (x.side some inside)) (right_side n inside more stands some)
        (get_or p.terms n empty_term).minus refl
        (λ none. (one-stands-on l.made more.made _ _ on (x.alone none inside), stands.value_stands none)) x.count

    not_first : eqb (suc n) 1 ≡ false
    not_first = grind (arith, nat_tests)

    last_back : n ≡ suc n - 1
    last_back = omega arith

    -- the join is on the left of the next one
    left_tree : (d : ℕ) → Joined n d ≡ cond (eqb (suc n) 1) (Reduced 0 (free_loop_count p 0) 1 1) (Joined (suc n - 1) d)
    left_tree d =
        ap (λ (i : ℕ). Joined i d) last_back
        ∙ ap (λ b. cond b (Reduced 0 (free_loop_count p 0) 1 1) (Joined (suc n - 1) d)) (sym not_first)

    left_own : (d : ℕ) (a : Attr) → IsOneOf (J p n some inside d a) (own_labels p (suc n) Left d a)
    left_own d a =
        subst (λ b. IsOneOf (J p n some inside d a) (cond b (pruned_labels p 0 d a) (tree_label (Joined (suc n - 1) d) a ∷ []))) (sym not_first)
        (inl (ap (λ (i : ℕ). tree_label (Joined i d) a) last_back))

    next_side : (later : 0 < suc n) (there : suc n < length p.terms)
        → SideStands p (suc n) later there Left joined_with.made (part (Joined n 1) joined_with)
    next_side later there = record {
      first = λ i.
          subst (λ (t : Tree). Stands joined_with.made (get_or joined_with.coordinates 0 0) (tree_label t Coordinate)) (left_tree 1)
          (joins.coordinates 0 i);
      only = λ one.
          subst (λ (t : Tree). Stands joined_with.made joined_with.values (tree_label t Value)) (left_tree 1)
          (subst (λ (r : ℕ). Stands joined_with.made joined_with.values (J p n some inside r Value)) one joins.values);
      tree_is = left_tree 1;
      later = λ e i j. (J p n some inside (suc e) Coordinate, joins.coordinates e j, left_own (suc e) Coordinate);
      final = λ i. (J p n some inside levels Value, joins.values, left_own levels Value);
    }

    next_alone : levels ≡ 0 → OneStands joined_with.made joined_with.values (lone_labels p (suc n))
    next_alone none = (
      J p n some inside 0 Value,
      subst (λ (r : ℕ). Stands joined_with.made joined_with.values (J p n some inside r Value)) none joins.values,
      subst (λ b. IsOneOf (J p n some inside 0 Value) (cond b (value_labels p 0 (free_loop_count p 0)) (tree_label (Joined (suc n - 1) 0) Value ∷ [])))
          (sym not_first) (inl (ap (λ (i : ℕ). tree_label (Joined i 0) Value) last_back)),
    )

    -- ---- the result

    module _ (all : suc n ≡ length p.terms) where
      not_one : eqb (length p.terms) 1 ≡ false
      not_one = grind (arith, nat_tests, all)

      last_term : n ≡ length p.terms - 1
      last_term = omega (arith, all)

      level_written : (d : ℕ) → d < levels → PlainRules p (kind.WriteLevel (suc d)) (J p n some inside (suc d) Coordinate ∷ []) []
      level_written d i =
          let a : ltb 0 (suc d) ≡ true = grind (arith, nat_tests) in
          let b : leb (suc d) levels ≡ true = grind (arith, nat_tests, i) in
          record {
            allowed = record {
              holds = rw (a, b) refl;
              ins_are = (
                subst (λ c. IsOneOf (J p n some inside (suc d) Coordinate)
                    (cond c (map (λ f. tree_label (Reduced 0 (free_loop_count p 0) f (suc d)) Coordinate) (range_with_len 1 (suc d)))
                    (tree_label (Joined (length p.terms - 1) (suc d)) Coordinate ∷ []))) (sym not_one)
                    (inl (ap (λ (i : ℕ). tree_label (Joined i (suc d)) Coordinate) last_term)),
                tt,
              );
              outs_are = refl;
            };
            few = omega arith;
          }

      values_written : PlainRules p kind.WriteValue (J p n some inside levels Value ∷ []) []
      values_written = record {
        allowed = record {
          holds = refl;
          ins_are = (
            subst (λ c. IsOneOf (J p n some inside levels Value) (cond c
                (tree_label (Reduced 0 (free_loop_count p 0) (cond (eqb levels 0) 9 levels) levels) Value ∷ [])
                (tree_label (Joined (length p.terms - 1) levels) Value ∷ [])))
                (sym not_one) (inl (ap (λ (i : ℕ). tree_label (Joined i levels) Value) last_term)),
            tt,
          );
          outs_are = refl;
        };
        few = omega arith;
      }

      joined_result : ResultStands p (PlainRules p) joined_with
      joined_result = record {
        sound = joins.sound;
        count = joins.count;
        level = λ d. J p n some inside d Coordinate;
        values = J p n some inside levels Value;
        levels_stand = joins.coordinates;
        levels_written = level_written;
        values_stand = joins.values;
        values_written = values_written;
        lists = λ es same. joined-tensor p es n ok same all;
      }

    -- the terms up to this one are joined, too
    pub next-so-far : SoFar n (Joined n 1) joined_with
    next-so-far = record {
      sound = joins.sound;
      root_on = stands-on more.made joined_with.made _ _ joins.extends (stands-on l.made more.made _ _ on x.root_on);
      count = joins.count;
      side = next_side;
      alone = λ none more. next_alone none;
      result = joined_result;
    }

  -- ---- all terms

  all_stand : (k : ℕ) (t0 : Term) (before ts : List Term) → p.terms ≡ t0 ∷ (before ++ ts) → k ≡ length before
      → (tree : Tree) (l : Levels) → SoFar k tree l → ResultStands p (PlainRules p) (with_terms p (suc k) tree l ts)
  all_stand k t0 before [] are place tree l x =
      let a = ap (λ (xs : List Term). length xs) are in
      let b = length-append before [] in x.result (omega (arith, a, b, place))
  all_stand k t0 before (t ∷ ts) are place tree l x =
      let last = length-append before (t ∷ []) in
      let a = ap (λ (xs : List Term). length xs) are in
      let b = length-append before (t ∷ ts) in
      let inside : suc k < length p.terms = omega (arith, a, b, place) in
      let term_is : get_or p.terms (suc k) empty_term ≡ t =
      ap (λ (xs : List Term). get_or xs (suc k) empty_term) are
      ∙ ap (λ (i : ℕ). get_or (t0 ∷ (before ++ t ∷ ts)) (suc i) empty_term) place ∙ term_after t0 before t ts in
      let not_first : eqb (suc k) 0 ≡ false = grind (arith, nat_tests) in
      let next = next-so-far k inside tree l x in
      let by_term : Bool → Term → Levels = λ first u.
      let plan = plan_of p first u in
      let more = term_levels (suc k) plan l.made in
      joined_sides (suc k) u.minus more.made (part tree l) (part (first_level_tree (suc k) plan) more) in
      all_stand (suc k) t0 (before ++ t ∷ []) ts (are ∙ ap (λ (xs : List Term). t0 ∷ xs) (sym (append_assoc before (t ∷ []) ts)))
      (omega (arith, last, place)) (Joined (suc k) 1) _
      (subst (λ (u : Term). SoFar (suc k) (Joined (suc k) 1) (by_term false u)) term_is
      (subst (λ b. SoFar (suc k) (Joined (suc k) 1) (by_term b (get_or p.terms (suc k) empty_term))) not_first next))

-- the terms of an accepted program, joined, are the result's levels and values
pub terms-stand : (p : Program) → accepted p ≡ true → (t : Term) (ts : List Term) → p.terms ≡ t ∷ ts
    → ResultStands p (PlainRules p)
    (with_terms p 1 (first_level_tree 0 (plan_of p true t)) (term_levels 0 (plan_of p true t) (root ∷ [])) ts)
terms-stand p ok t ts are =
    let n = ap (λ (xs : List Term). length xs) are in
    let first_is : get_or p.terms 0 empty_term ≡ t = ap (λ (xs : List Term). get_or xs 0 empty_term) are in
    all_stand p ok 0 t [] ts are refl (first_level_tree 0 (plan_of p true t)) (term_levels 0 (plan_of p true t) (root ∷ []))
    (subst (λ (u : Term). SoFar p ok 0 (first_level_tree 0 (plan_of p true u)) (term_levels 0 (plan_of p true u) (root ∷ []))) first_is
    (first-so-far p ok (omega (arith, n))))
