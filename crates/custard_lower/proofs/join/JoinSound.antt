-- The blocks that join one term more meet their rules, and the levels and values that are joined have the labels of the join.
use Rattle.std.specs.Prelude.{◌≡◌, ◌<◌, ◌≤◌, ◌⊎◌, ℕ, zero, suc, ◌+◌, ◌-◌, Bool, true, false, cond, ◌&&◌, not, List, [], ◌∷◌, ◌++◌, length, get_or, eqb, ltb, leb, refl}
use Rattle.std.proofs.Common.{arith, sym, ◌∙◌, ap, subst, append-nil, length-append, inl, inr}
use Rattle.std.proofs.lemmas.Bool.{cases_eq, eq-eqb, ne_eqb, eqb-true}
use Rattle.std.proofs.lemmas.Bool.Decides.{nat_tests}
use Rattle.sam_model.specs.declared.program.Program.{Program}
use Rattle.stream_model.specs.declared.labels.Attr.{Attr}
use Rattle.stream_model.specs.declared.labels.Attr.TheVariants.{Coordinate, Value, Present, SideValue, Literal}
use Rattle.stream_model.specs.declared.labels.Label.{Label}
use Rattle.stream_model.specs.declared.labels.Side.{Side}
use Rattle.stream_model.specs.declared.labels.Side.TheVariants.{Left, Right}
use Rattle.stream_model.specs.declared.labels.Tree.{Tree}
use Rattle.stream_model.specs.declared.labels.Tree.TheVariants.{Joined, Beside}
use Rattle.stream_model.specs.Labels.{result_sizes}
use Rattle.graph.specs.declared.graphs.Kind.TheVariants as kind
use Rattle.custard_lower.specs.declared.drafts.Made.{Made}
use Rattle.label_rules.specs.Labels.{tree_label, IsOneOf, PortsAllow, just_these}
use Rattle.label_rules.specs.TermLabels.{empty_term, free_loop_count, value_labels}
use Rattle.label_rules.specs.JoinLabels.{side_tree, own_labels, lone_labels, added_labels, beside_attr, joined_attr}
use Rattle.label_rules.specs.Rules.{is_further, Allowed}
use Rattle.custard_lower.specs.Drafts.{outputs_of}
use Rattle.custard_lower.specs.Reductions.{Levels}
use Rattle.custard_lower.specs.Unions.{Part, Flank, Front, joined_label, filled, flank, mark, joined_levels, sum, left_values, right_values, joined_sides}
use Rattle.custard_lower.proofs.draft.Emitted.{Stands, OneStands, AllStand, Sound, Extends, extends-same, extends-more, extends-both, stands-on, one-stands-on, all-stand-new, sound-emit, holds-snoc}
use Rattle.custard_lower.proofs.term.PlainRules.{Plain, plain}

below_last : (a b : ℕ) → a ≤ b → eqb a b ≡ false → a < b
below_last a b l e = by_case (cases_eq a b)
  where
    by_case : (a ≡ b) ⊎ (a ≡ b → ⊥) → a < b
    by_case (inl q) = let t : eqb a b ≡ true = eq-eqb a b q in absurd (cc)
    by_case (inr n) = omega (arith, l, n)

-- the joining of term number `last`, from the second on, to those before it
module _ (p : Program) (last : ℕ) (later_term : 0 < last) (inside : last < length p.terms) where
  -- how many levels the result has
  abbrev pub depth : ℕ
  depth = length (result_sizes p)

  -- what is told of the join, and of a side beneath it, on a level
  abbrev pub J : ℕ → Attr → Label
  J d a = tree_label (Joined last d) a

  abbrev pub B : Side → ℕ → Attr → Label
  B side d a = tree_label (side_tree p last side d) a

  -- beneath the first level a side's tree is beside the join
  beside_tree : (side : Side) (d : ℕ) → side_tree p last side (suc (suc d)) ≡ Beside last side (suc (suc d))
  beside_tree Left d = refl
  beside_tree Right d = refl

  further : is_further p last ≡ true
  further =
      let a : ltb 0 last ≡ true = grind (arith, nat_tests, later_term) in
      let b : ltb last (length p.terms) ≡ true = grind (arith, nat_tests, inside) in
      ap (λ c. c && ltb last (length p.terms)) a ∙ b

  -- A part that is a side of the join: its first level is that of the side, and each further level and its values may be filled
  -- beneath the join.
  pub record SideStands (side : Side) (made : List Made) (l : Part) : Type 0 where
    pub first : 0 < depth → Stands made (get_or l.coordinates 0 0) (B side 1 Coordinate)
    pub only : depth ≡ 1 → Stands made l.values (B side 1 Value)
    pub tree_is : l.tree ≡ side_tree p last side 1
    pub later : (e : ℕ) → 0 < e → e < depth → OneStands made (get_or l.coordinates e 0) (own_labels p last side (suc e) Coordinate)
    pub final : 1 < depth → OneStands made l.values (own_labels p last side depth Value)

  -- a side stands in each draft that extends its own
  pub side-on : (side : Side) (made made' : List Made) (l : Part) → Extends made made' → SideStands side made l
      → SideStands side made' l
  side-on side made made' l e x = record {
    first = λ i. stands-on made made' _ _ e (x.first i);
    only = λ i. stands-on made made' _ _ e (x.only i);
    tree_is = x.tree_is;
    later = λ n i j. one-stands-on made made' _ _ e (x.later n i j);
    final = λ i. one-stands-on made made' _ _ e (x.final i);
  }

  -- what the union of level k + 1 tells of a side
  abbrev pub T : ℕ → Side → Label
  T k side = J (suc k) (cond (eqb (suc k) depth) (SideValue side) (Present side))

  -- the first k levels are joined
  pub record FrontStands (k : ℕ) (before : List Made) (f : Front) : Type 0 where
    pub sound : Sound (Plain p) f.made
    pub extends : Extends before f.made
    pub count : length f.coordinates ≡ k
    pub coordinates : (j : ℕ) → j < k → Stands f.made (get_or f.coordinates j 0) (J (suc j) Coordinate)
    pub told : (j : ℕ) → suc j ≡ k → (Stands f.made f.told (T j Left)) × (Stands f.made (suc f.told) (T j Right))

  -- a side on level k + 1
  pub record FlankStands (side : Side) (k : ℕ) (before made : List Made) (f : Flank) : Type 0 where
    pub sound : Sound (Plain p) made
    pub extends : Extends before made
    pub coordinates : Stands made f.coordinates (B side (suc k) Coordinate)
    pub values : suc k ≡ depth → Stands made f.values (B side (suc k) Value)
    pub tree_is : f.tree ≡ side_tree p last side (suc k)

  -- what is joined: its levels and its values
  pub record JoinStands (before : List Made) (l : Levels) : Type 0 where
    pub sound : Sound (Plain p) l.made
    pub extends : Extends before l.made
    pub count : length l.coordinates ≡ depth
    pub coordinates : (k : ℕ) → k < depth → Stands l.made (get_or l.coordinates k 0) (J (suc k) Coordinate)
    pub values : Stands l.made l.values (J depth Value)

  -- ---- fill

  -- the fill of level e + 2, where it is the last or not
  abbrev pub fill_at : Side → ℕ → Part → ℕ → Bool → Made
  fill_at side e l presence b = record {
    kind = kind.Fill (length (cond b (l.values ∷ []) []));
    ins = presence ∷ get_or l.coordinates (suc e) 0 ∷ cond b (l.values ∷ []) [];
    labels =
        record { tree = Beside last side (suc (suc e)); attr = Coordinate }
        ∷ cond b (record { tree = Beside last side (suc (suc e)); attr = Value } ∷ []) [];
  }

  fill_holds : (e w : ℕ) (b : Bool) → suc (suc e) ≤ depth → eqb (suc (suc e)) depth ≡ b → w ≡ cond b 1 0
      → (eqb w (cond (eqb (suc (suc e)) depth) 1 0) && (is_further p last && (ltb 1 (suc (suc e)) && leb (suc (suc e)) depth))) ≡ true
  fill_holds e w b deep same is =
      let a : eqb w (cond b 1 0) ≡ true = eq-eqb w (cond b 1 0) is in
      let c : ltb 1 (suc (suc e)) ≡ true = grind (arith, nat_tests) in
      let d : leb (suc (suc e)) depth ≡ true = grind (arith, nat_tests, deep) in
      ap (λ f. eqb w (cond f 1 0) && (is_further p last && (ltb 1 (suc (suc e)) && leb (suc (suc e)) depth))) same
      ∙ ap (λ t. t && (is_further p last && (ltb 1 (suc (suc e)) && leb (suc (suc e)) depth))) a
      ∙ ap (λ t. t && (ltb 1 (suc (suc e)) && leb (suc (suc e)) depth)) further
      ∙ ap (λ t. t && leb (suc (suc e)) depth) c
      ∙ d

  -- what a fill takes and gives, where it is of the last level or not
  abbrev fill_ins : Side → ℕ → Bool → List (List Label)
  fill_ins side e b =
      (J (suc (suc e) - 1) (Present side) ∷ []) ∷ own_labels p last side (suc (suc e)) Coordinate
      ∷ cond b (own_labels p last side (suc (suc e)) Value ∷ []) []

  abbrev fill_outs : Side → ℕ → Bool → List Label
  fill_outs side e b =
      tree_label (Beside last side (suc (suc e))) Coordinate ∷ cond b (tree_label (Beside last side (suc (suc e))) Value ∷ []) []

  filled_stands : (side : Side) (e : ℕ) (l : Part) (made : List Made) (presence : ℕ) → suc (suc e) ≤ depth
      → Sound (Plain p) made
      → SideStands side made l → Stands made presence (J (suc e) (Present side)) → (b : Bool) → eqb (suc (suc e)) depth ≡ b
      → FlankStands side (suc e) made (made ++ fill_at side e l presence b ∷ [])
      (flank last depth side (suc e) l (outputs_of made))
  filled_stands side e l made presence deep sound x stand true same =
      let last_level : suc (suc e) ≡ depth = eqb-true (suc (suc e)) depth same in
      let y = x.later (suc e) (omega arith) (omega (arith, deep)) in
      let v = x.final (omega (arith, deep)) in
      let b = fill_at side e l presence true in
      let new = all-stand-new made b in
      let next : outputs_of made + 1 ≡ suc (outputs_of made) = omega arith in
      let back : suc e ≡ suc (suc e) - 1 = omega arith in
      let ins = J (suc e) (Present side) ∷ y.0 ∷ v.0 ∷ [] in
      record {
        sound =
            sound-emit (Plain p) made b ins sound (stand, (y.1, (v.1, tt)))
            (plain p (kind.Fill 1) ins b.labels (omega arith) refl (record {
              holds = fill_holds e 1 true deep same refl;
              ins_are =
                  subst (λ f. PortsAllow (fill_ins side e f) ins) (sym same) (
                    inl (ap (λ (i : ℕ). J i (Present side)) back),
                    (y.2, (subst (λ (i : ℕ). IsOneOf v.0 (own_labels p last side i Value)) (sym last_level) v.2, tt)),
                  );
              outs_are = ap (fill_outs side e) (sym same);
            }));
        extends = extends-more made (b ∷ []);
        coordinates = subst (λ (t : Tree). Stands (made ++ b ∷ []) (outputs_of made) (tree_label t Coordinate)) (sym (beside_tree side e)) new.0;
        values =
            λ _. subst (λ (t : Tree). Stands (made ++ b ∷ []) (suc (outputs_of made)) (tree_label t Value)) (sym (beside_tree side e))
            (subst (λ (v : ℕ). Stands (made ++ b ∷ []) v (tree_label (Beside last side (suc (suc e))) Value)) next new.1.0);
        tree_is = sym (beside_tree side e);
      }
  filled_stands side e l made presence deep sound x stand false other =
      let not_last = below_last (suc (suc e)) depth deep other in
      let y = x.later (suc e) (omega arith) (omega (arith, deep)) in
      let b = fill_at side e l presence false in
      let back : suc e ≡ suc (suc e) - 1 = omega arith in
      let ins = J (suc e) (Present side) ∷ y.0 ∷ [] in
      record {
        sound =
            sound-emit (Plain p) made b ins sound (stand, (y.1, tt))
            (plain p (kind.Fill 0) ins b.labels (omega arith) refl (record {
              holds = fill_holds e 0 false deep other refl;
              ins_are =
                  subst (λ f. PortsAllow (fill_ins side e f) ins) (sym other) (inl (ap (λ (i : ℕ). J i (Present side)) back), (y.2, tt));
              outs_are = ap (fill_outs side e) (sym other);
            }));
        extends = extends-more made (b ∷ []);
        coordinates =
            subst (λ (t : Tree). Stands (made ++ b ∷ []) (outputs_of made) (tree_label t Coordinate)) (sym (beside_tree side e))
            (all-stand-new made b).0;
        values = λ i. absurd (omega (arith, i, not_last));
        tree_is = sym (beside_tree side e);
      }

  flank_stands : (side : Side) (k : ℕ) (l : Part) (made : List Made) (presence : ℕ) → suc k ≤ depth → Sound (Plain p) made
      → SideStands side made l → ((e : ℕ) → suc e ≡ k → Stands made presence (J (suc e) (Present side)))
      → FlankStands side k made (filled last depth side k l presence made) (flank last depth side k l (outputs_of made))
  flank_stands side zero l made presence deep sound x stand = record {
    sound = sound;
    extends = extends-same made;
    coordinates = x.first deep;
    values = λ i. x.only (sym i);
    tree_is = x.tree_is;
  }
  flank_stands side (suc e) l made presence deep sound x stand =
      filled_stands side e l made presence deep sound x (stand e refl) (eqb (suc (suc e)) depth) refl

  -- ---- a level

  -- the level with the sides a and b, where it is the last or not
  abbrev joined_with : List Made → Flank → Flank → ℕ → Front → Bool → Front
  joined_with both a b k front bb =
      let made = both ++ cond bb [] (mark last depth a ∷ []) in
      let marked = made ++ cond bb [] (mark last depth b ∷ []) in
      let w = outputs_of marked in
      record {
        made = marked ++ record {
          kind = kind.Union 1 1;
          ins = a.coordinates ∷ cond bb a.values (outputs_of both) ∷ b.coordinates ∷ cond bb b.values (outputs_of made) ∷ [];
          labels =
              joined_label last depth (suc k) Coordinate
              ∷ joined_label last depth (suc k) (cond bb (SideValue Left) (Present Left))
              ∷ joined_label last depth (suc k) (cond bb (SideValue Right) (Present Right))
              ∷ [];
        } ∷ [];
        coordinates = front.coordinates ++ w ∷ [];
        told = suc w;
      }

  -- what the union takes and gives
  abbrev union_ins : ℕ → Bool → List Label
  union_ins k bb =
      B Left (suc k) Coordinate ∷ B Left (suc k) (beside_attr bb) ∷ B Right (suc k) Coordinate ∷ B Right (suc k) (beside_attr bb) ∷ []

  abbrev union_outs : ℕ → Bool → List Label
  union_outs k bb = J (suc k) Coordinate ∷ J (suc k) (joined_attr bb Left) ∷ J (suc k) (joined_attr bb Right) ∷ []

  told_by : (k : ℕ) (bb : Bool)
      → J (suc k) Coordinate ∷ J (suc k) (cond bb (SideValue Left) (Present Left)) ∷ J (suc k) (cond bb (SideValue Right) (Present Right)) ∷ []
      ≡ union_outs k bb
  told_by k true = refl
  told_by k false = refl

  these_stand : (ls : List Label) → PortsAllow (just_these ls) ls
  these_stand [] = tt
  these_stand (l ∷ ls) = (inl refl, these_stand ls)

  union_allowed : (k : ℕ) (bb : Bool) → suc k ≤ depth → eqb (suc k) depth ≡ bb
      → Allowed p (kind.Union 1 1) (union_ins k bb)
      (J (suc k) Coordinate ∷ J (suc k) (cond bb (SideValue Left) (Present Left)) ∷ J (suc k) (cond bb (SideValue Right) (Present Right)) ∷ [])
  union_allowed k bb deep same =
      let a : ltb 0 (suc k) ≡ true = grind (arith, nat_tests) in
      let b : leb (suc k) depth ≡ true = grind (arith, nat_tests, deep) in
      record {
        holds = ap (λ t. t && (ltb 0 (suc k) && leb (suc k) depth)) further ∙ ap (λ t. t && leb (suc k) depth) a ∙ b;
        ins_are = subst (λ f. PortsAllow (just_these (union_ins k f)) (union_ins k bb)) (sym same) (these_stand (union_ins k bb));
        outs_are = told_by k bb ∙ ap (union_outs k) (sym same);
      }

  -- what the union of the level gives
  module _ (before : List Made) (k : ℕ) (deep : suc k ≤ depth) (front : Front) (x : FrontStands k before front)
      (one both : List Made) (a b : Flank) (y : FlankStands Left k front.made one a) (z : FlankStands Right k one both b) where
    with_union : (made : List Made) (bb : Bool) (ins : List ℕ) → eqb (suc k) depth ≡ bb → Sound (Plain p) made → Extends both made
        → AllStand made ins (union_ins k bb)
        → FrontStands (suc k) before (record {
          made = made ++ record {
            kind = kind.Union 1 1;
            ins = ins;
            labels =
                joined_label last depth (suc k) Coordinate
                ∷ joined_label last depth (suc k) (cond bb (SideValue Left) (Present Left))
                ∷ joined_label last depth (suc k) (cond bb (SideValue Right) (Present Right))
                ∷ [];
          } ∷ [];
          coordinates = front.coordinates ++ outputs_of made ∷ [];
          told = suc (outputs_of made);
        })
    with_union made bb ins same sound e stand =
        let u : Made = record {
          kind = kind.Union 1 1;
          ins = ins;
          labels =
              joined_label last depth (suc k) Coordinate
              ∷ joined_label last depth (suc k) (cond bb (SideValue Left) (Present Left))
              ∷ joined_label last depth (suc k) (cond bb (SideValue Right) (Present Right))
              ∷ [];
        } in
        let w = outputs_of made in
        let new = all-stand-new made u in
        let next : w + 1 ≡ suc w = omega arith in
        let after : w + 1 + 1 ≡ suc (suc w) = omega arith in
        let from_front : Extends front.made (made ++ u ∷ []) =
        extends-both front.made made _ (extends-both front.made both made
        (extends-both front.made one both y.extends z.extends) e) (extends-more made (u ∷ [])) in
        let left : Stands (made ++ u ∷ []) (suc w) (J (suc k) (cond bb (SideValue Left) (Present Left))) =
        subst (λ (v : ℕ). Stands (made ++ u ∷ []) v (J (suc k) (cond bb (SideValue Left) (Present Left)))) next new.1.0 in
        let right : Stands (made ++ u ∷ []) (suc (suc w)) (J (suc k) (cond bb (SideValue Right) (Present Right))) =
        subst (λ (v : ℕ). Stands (made ++ u ∷ []) v (J (suc k) (cond bb (SideValue Right) (Present Right)))) after new.1.1.0 in
        record {
          sound = sound-emit (Plain p) made u (union_ins k bb) sound stand (plain p _ _ _ (omega arith) refl (union_allowed k bb deep same));
          extends = extends-both before front.made _ x.extends from_front;
          count = length-append front.coordinates (w ∷ []) ∙ (let c = x.count in omega (arith, c));
          coordinates = holds-snoc (λ v j. Stands (made ++ u ∷ []) v (J (suc j) Coordinate)) front.coordinates w k x.count
              (λ j i. stands-on front.made _ _ _ from_front (x.coordinates j i)) new.0;
          told = λ j i. (told_at j i Left (made ++ u ∷ []) (suc w) left, told_at j i Right (made ++ u ∷ []) (suc (suc w)) right);
        }
      where
        told_at : (j : ℕ) → suc j ≡ suc k → (side : Side) (made : List Made) (w : ℕ)
            → Stands made w (J (suc k) (cond bb (SideValue side) (Present side))) → Stands made w (T j side)
        told_at j i side made w stand =
            subst (λ (n : ℕ). Stands made w (J n (cond (eqb n depth) (SideValue side) (Present side)))) (sym i)
            (subst (λ (c : Bool). Stands made w (J (suc k) (cond c (SideValue side) (Present side)))) (sym same) stand)

    -- above the last level the sides are marked first
    mark_allowed : (side : Side) (f : Flank) → f.tree ≡ side_tree p last side (suc k)
        → Allowed p (kind.Const 1) (B side (suc k) Coordinate ∷ []) (record { tree = f.tree; attr = Literal 1 } ∷ [])
    mark_allowed side f e =
        record { holds = refl; ins_are = (inl refl, tt); outs_are = ap (λ (t : Tree). tree_label t (Literal 1) ∷ []) e }

    joined_stands : (bb : Bool) → eqb (suc k) depth ≡ bb → FrontStands (suc k) before (joined_with both a b k front bb)
    joined_stands true same =
        let is_last : suc k ≡ depth = eqb-true (suc k) depth same in
        let made = (both ++ []) ++ [] in
        let still : Extends both made =
        extends-both both (both ++ []) made (extends-more both []) (extends-more (both ++ []) []) in
        let sound : Sound (Plain p) made =
        subst (Sound (Plain p)) (sym (append-nil (both ++ []))) (subst (Sound (Plain p)) (sym (append-nil both)) z.sound) in
        let from_a : Extends one made = extends-both one both made z.extends still in
        with_union made true (a.coordinates ∷ a.values ∷ b.coordinates ∷ b.values ∷ []) same sound still (
          stands-on one made _ _ from_a y.coordinates,
          (
            stands-on one made _ _ from_a (y.values is_last),
            (stands-on both made _ _ still z.coordinates, (stands-on both made _ _ still (z.values is_last), tt)),
          ),
        )
    joined_stands false other =
        let marked_a = mark last depth a in
        let marked_b = mark last depth b in
        let made1 = both ++ marked_a ∷ [] in
        let made = made1 ++ marked_b ∷ [] in
        let on1 : Extends both made1 = extends-more both (marked_a ∷ []) in
        let on2 : Extends made1 made = extends-more made1 (marked_b ∷ []) in
        let on : Extends both made = extends-both both made1 made on1 on2 in
        let from_a : Extends one made = extends-both one both made z.extends on in
        let sound1 : Sound (Plain p) made1 =
        sound-emit (Plain p) both marked_a (B Left (suc k) Coordinate ∷ []) z.sound
        (stands-on one both _ _ z.extends y.coordinates, tt) (plain p _ _ _ (omega arith) refl (mark_allowed Left a y.tree_is)) in
        let sound2 : Sound (Plain p) made =
        sound-emit (Plain p) made1 marked_b (B Right (suc k) Coordinate ∷ []) sound1
        (stands-on both made1 _ _ on1 z.coordinates, tt) (plain p _ _ _ (omega arith) refl (mark_allowed Right b z.tree_is)) in
        let left : Stands made (outputs_of both) (B Left (suc k) (Literal 1)) =
        subst (λ (t : Tree). Stands made (outputs_of both) (tree_label t (Literal 1))) y.tree_is
        (stands-on made1 made _ _ on2 (all-stand-new both marked_a).0) in
        let right : Stands made (outputs_of made1) (B Right (suc k) (Literal 1)) =
        subst (λ (t : Tree). Stands made (outputs_of made1) (tree_label t (Literal 1))) z.tree_is (all-stand-new made1 marked_b).0 in
        with_union made false (a.coordinates ∷ outputs_of both ∷ b.coordinates ∷ outputs_of made1 ∷ []) other sound2 on
        (stands-on one made _ _ from_a y.coordinates, (left, (stands-on both made _ _ on z.coordinates, (right, tt))))

  -- ---- all levels

  module _ (before : List Made) (left right : Part) (before_sound : Sound (Plain p) before) (x : SideStands Left before left)
      (y : SideStands Right before right) where
    abbrev fronts : ℕ → Front
    fronts k = joined_levels last depth before left right k

    front_stands : (k : ℕ) → k ≤ depth → FrontStands k before (joined_levels last depth before left right k)
    front_stands zero i = record {
      sound = before_sound;
      extends = extends-same before;
      count = refl;
      coordinates = λ j n. absurd (omega (arith, n));
      told = λ j n. absurd (omega (arith, n));
    }
    front_stands (suc k) i =
        let f = joined_levels last depth before left right k in
        let rest = front_stands k (omega (arith, i)) in
        let told : (side : Side) (w : ℕ) → ((j : ℕ) → suc j ≡ k → Stands f.made w (T j side)) → (e : ℕ) → suc e ≡ k
        → Stands f.made w (J (suc e) (Present side)) =
        λ side w stand e n.
        subst (λ (c : Bool). Stands f.made w (J (suc e) (cond c (SideValue side) (Present side))))
        (ne_eqb (suc e) depth (λ q. omega (arith, q, n, i))) (stand e n) in
        let one = filled last depth Left k left f.told f.made in
        let a = flank last depth Left k left (outputs_of f.made) in
        let q = flank_stands Left k left f.made f.told i rest.sound (side-on Left before f.made left rest.extends x)
        (told Left f.told (λ j n. (rest.told j n).0)) in
        let both = filled last depth Right k right (suc f.told) one in
        let b = flank last depth Right k right (outputs_of one) in
        let z = flank_stands Right k right one (suc f.told) i q.sound
        (side-on Right before one right (extends-both before f.made one rest.extends q.extends) y)
        (λ e n. stands-on f.made one _ _ q.extends (told Right (suc f.told) (λ j n. (rest.told j n).1) e n)) in
        joined_stands before k i f rest one both a b q z (eqb (suc k) depth) refl

    -- ---- the values

    abbrev with_sum : Bool → ℕ → ℕ → Levels
    with_sum minus a b =
        let f = fronts depth in
        record { made = f.made ++ sum last depth minus a b ∷ []; coordinates = f.coordinates; values = outputs_of f.made }

    sum_stands : (minus : Bool) (a b : ℕ) (v w : Label) → (get_or p.terms last empty_term).minus ≡ minus
        → FrontStands depth before (fronts depth) → Stands (fronts depth).made a v → Stands (fronts depth).made b w
        → PortsAllow (added_labels p last) (v ∷ w ∷ []) → JoinStands before (with_sum minus a b)
    sum_stands minus a b v w is f one other allow =
        let made = (fronts depth).made in
        let s = sum last depth minus a b in
        let on = extends-more made (s ∷ []) in
        record {
          sound = by_sign minus is;
          extends = extends-both before made _ f.extends on;
          count = f.count;
          coordinates = λ k i. stands-on made _ _ _ on (f.coordinates k i);
          values = (all-stand-new made s).0;
        }
      where
        by_sign : (minus : Bool) → (get_or p.terms last empty_term).minus ≡ minus
            → Sound (Plain p) ((fronts depth).made ++ sum last depth minus a b ∷ [])
        by_sign true e =
            sound-emit (Plain p) (fronts depth).made (sum last depth true a b) (v ∷ w ∷ []) f.sound (one, (other, tt))
            (plain p kind.Sub _ _ (omega arith) refl
            (record { holds = ap (λ t. t && (get_or p.terms last empty_term).minus) further ∙ e; ins_are = allow; outs_are = refl }))
        by_sign false e =
            sound-emit (Plain p) (fronts depth).made (sum last depth false a b) (v ∷ w ∷ []) f.sound (one, (other, tt))
            (plain p kind.Add _ _ (omega arith) refl (record {
              holds = ap (λ t. t && not (get_or p.terms last empty_term).minus) further ∙ ap not e;
              ins_are = allow;
              outs_are = refl;
            }))

    -- the values of both sides, where the result has no levels
    abbrev pub Alone : Type 0
    Alone =
        depth ≡ 0
        → (OneStands before left.values (lone_labels p last)) × (OneStands before right.values (value_labels p last (free_loop_count p last)))

    -- what is added, where the result has levels or none
    abbrev added : Bool → List (List Label)
    added none =
        cond none (lone_labels p last ∷ value_labels p last (free_loop_count p last) ∷ [])
        (just_these (J depth (SideValue Left) ∷ J depth (SideValue Right) ∷ []))

    -- the join of the sides
    pub join-stands : (minus : Bool) → (get_or p.terms last empty_term).minus ≡ minus → Alone → length left.coordinates ≡ depth
        → JoinStands before (joined_sides last minus before left right)
    join-stands minus is alone count =
        subst (λ (n : ℕ). JoinStands before (joined_of n)) (sym count) (by_depth depth refl)
      where
        joined_of : ℕ → Levels
        joined_of n =
            let f = joined_levels last n before left right n in
            record {
              made = f.made ++ sum last n minus (left_values last n n left f) (right_values last n n right f) ∷ [];
              coordinates = f.coordinates;
              values = outputs_of f.made;
            }

        by_depth : (n : ℕ) → depth ≡ n → JoinStands before (joined_of depth)
        by_depth zero none =
            let f = front_stands depth (omega arith) in
            let x = alone none in
            let is_none : eqb depth 0 ≡ true = eq-eqb depth 0 none in
            subst (λ (n : ℕ). JoinStands before (with_sum minus (left_values last depth n left (fronts depth))
            (right_values last depth n right (fronts depth)))) (sym none)
            (sum_stands minus left.values right.values x.0.0 x.1.0 is f (stands-on before (fronts depth).made _ _ f.extends x.0.1)
            (stands-on before (fronts depth).made _ _ f.extends x.1.1)
            (subst (λ t. PortsAllow (added t) (x.0.0 ∷ x.1.0 ∷ [])) (sym is_none) (x.0.2, (x.1.2, tt))))
        by_depth (suc n) some =
            let f = front_stands depth (omega arith) in
            let told = f.told n (sym some) in
            let is_last : eqb (suc n) depth ≡ true = eq-eqb (suc n) depth (sym some) in
            let not_none : eqb depth 0 ≡ false = ne_eqb depth 0 (λ q. omega (arith, q, some)) in
            let to_values : (side : Side) → T n side ≡ J depth (SideValue side) =
            λ side. ap (λ (c : Bool). J (suc n) (cond c (SideValue side) (Present side))) is_last
            ∙ ap (λ (d : ℕ). J d (SideValue side)) (sym some) in
            subst (λ (n : ℕ). JoinStands before (with_sum minus (left_values last depth n left (fronts depth))
            (right_values last depth n right (fronts depth)))) (sym some)
            (sum_stands minus (fronts depth).told (suc (fronts depth).told) (J depth (SideValue Left)) (J depth (SideValue Right)) is f
            (subst (λ (l : Label). Stands (fronts depth).made (fronts depth).told l) (to_values Left) told.0)
            (subst (λ (l : Label). Stands (fronts depth).made (suc (fronts depth).told) l) (to_values Right) told.1)
            (subst (λ t. PortsAllow (added t) (J depth (SideValue Left) ∷ J depth (SideValue Right) ∷ [])) (sym not_none)
            (inl refl, (inl refl, tt))))
