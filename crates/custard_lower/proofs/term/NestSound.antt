-- The blocks of all loops of a term keep to the rules, and their outputs have the labels of their levels.
use Rattle.std.specs.Prelude.{◌≡◌, ◌<◌, ◌≤◌, ◌⊎◌, ℕ, zero, suc, ◌+◌, Bool, true, false, ◌||◌, not, List, [], ◌∷◌, ◌++◌, length, drop, get_or, set, replicate, refl}
use Rattle.std.specs.List.{range_with_len}
use mathlib.Core.List.{map}
use Rattle.std.proofs.Common.{arith, sym, ◌∙◌, ap, subst, length-append, get_or-set_same, get_or-set_other, length-set, inl, inr}
use Rattle.std.proofs.lemmas.Bool.{cases_eq, ne_eqb}
use Rattle.std.proofs.lemmas.List.{get_or-replicate, length-replicate}
use Rattle.stream_tokens.specs.Shapes.{Each}
use Rattle.sam_model.specs.Lists.{is_in}
use Rattle.sam_model.proofs.Lists.{filter-range}
use Rattle.sam_model.proofs.Orders.{is_in-tested}
use Rattle.stream_model.specs.declared.labels.Attr.TheVariants.{Coordinate, Rank}
use Rattle.stream_model.specs.declared.labels.Label.{Label}
use Rattle.stream_model.proofs.Depths.{filter-short}
use Rattle.custard_lower.specs.declared.drafts.Made.{Made}
use Rattle.custard_lower.specs.declared.trees.TermTrees.{TermTrees}
use Rattle.label_rules.specs.declared.plans.Plan.{Plan}
use Rattle.custard_lower.specs.Drafts.{outputs_of}
use Rattle.label_rules.specs.Labels.{no_label}
use Rattle.label_rules.specs.Plans.{has_loop, asked, spared}
use Rattle.label_rules.specs.Holding.{Rules}
use Rattle.custard_lower.specs.Nests.{Nest, product_tree_label, scan, repeat, first_met, all_met, scanned, level, nest, placed}
use Rattle.custard_lower.proofs.draft.Emitted.{Stands, AllStand, Sound, Extends, extends-more, extends-both, stands-on, all-stand-on, holds-snoc}
use Rattle.custard_lower.proofs.term.Nesting.{length-placed}
use Rattle.custard_lower.proofs.term.TermAllowed.{LevelAllowed}
use Rattle.custard_lower.proofs.term.LevelSound.{Refer, refer-on, Haves, Scanned, scans-sound, MetStands, intersects-sound, repeats-sound}

by_truth : (R : Type 0) (b : Bool) → (b ≡ true → R) → (b ≡ false → R) → R
by_truth R true there lacks = there refl
by_truth R false there lacks = lacks refl

-- ---- numbers put at places

-- each number satisfies what its place asks
abbrev pub Pairs : (ℕ → ℕ → Type 0) → List ℕ → List ℕ → Type 0
Pairs Q [] [] = Unit {0}
Pairs Q [] (w ∷ ws) = ⊥
Pairs Q (f ∷ fs) [] = ⊥
Pairs Q (f ∷ fs) (w ∷ ws) = Q f w × Pairs Q fs ws

set_keeps : (Q : ℕ → ℕ → Type 0) (references : List ℕ) (f w g : ℕ) → Q f w → g < length references → Q g (get_or references g 0)
    → Q g (get_or (set references f w) g 0)
set_keeps Q references f w g x l y = by_case (cases_eq g f)
  where
    by_case : (g ≡ f) ⊎ (g ≡ f → ⊥) → Q g (get_or (set references f w) g 0)
    by_case (inl e) =
        subst (λ (v : ℕ). Q g v) (sym (ap (λ (i : ℕ). get_or (set references f w) i 0) e
        ∙ get_or-set_same references f w 0 (subst (λ (i : ℕ). i < length references) e l)))
        (subst (λ (i : ℕ). Q i w) (sym e) x)
    by_case (inr ne) = subst (λ (v : ℕ). Q g v) (sym (get_or-set_other references f g w 0 ne)) y

-- what a place has is kept, or put in its place
pub placed-keeps : (Q : ℕ → ℕ → Type 0) (references fs ws : List ℕ) (g : ℕ) → Pairs Q fs ws → g < length references
    → Q g (get_or references g 0) → Q g (get_or (placed references fs ws) g 0)
placed-keeps Q references [] ws g x l y = y
placed-keeps Q references (f ∷ fs) [] g x l y = y
placed-keeps Q references (f ∷ fs) (w ∷ ws) g x l y =
    placed-keeps Q (set references f w) fs ws g x.1 (subst (λ (n : ℕ). g < n) (sym (length-set references f w)) l)
    (set_keeps Q references f w g x.0 l y)

-- each place that is named has what it asks
pub placed-sets : (Q : ℕ → ℕ → Type 0) (references fs ws : List ℕ) (g : ℕ) → Pairs Q fs ws → g < length references
    → is_in g fs ≡ true → Q g (get_or (placed references fs ws) g 0)
placed-sets Q references [] ws g x l e = absurd (cc)
placed-sets Q references (f ∷ fs) [] g x l e = absurd x
placed-sets Q references (f ∷ fs) (w ∷ ws) g x l e =
    by_case (cases_eq g f) (λ k. placed-sets Q (set references f w) fs ws g x.1 longer k)
  where
    longer : g < length (set references f w)
    longer = subst (λ (n : ℕ). g < n) (sym (length-set references f w)) l

    by_case : (g ≡ f) ⊎ (g ≡ f → ⊥) → (is_in g fs ≡ true → Q g (get_or (placed (set references f w) fs ws) g 0))
        → Q g (get_or (placed (set references f w) fs ws) g 0)
    by_case (inl k) later =
        placed-keeps Q (set references f w) fs ws g x.1 longer
        (subst (λ (v : ℕ). Q g v) (sym (ap (λ (i : ℕ). get_or (set references f w) i 0) k
        ∙ get_or-set_same references f w 0 (subst (λ (i : ℕ). i < length references) k l)))
        (subst (λ (i : ℕ). Q i w) (sym k) x.0))
    by_case (inr ne) later = later (ap (λ b. b || is_in g fs) (sym (ne_eqb g f ne)) ∙ e)

-- ---- which factors a level asks

negated : (b : Bool) → not b ≡ true → b ≡ false
negated true e = sym e
negated false e = refl

module _ (rules : Rules) (trees : TermTrees) (t : Plan) where
  asked_has : (d : ℕ) → Haves rules trees t true d (asked t d)
  asked_has d = filter-range (has_loop t d) 0 (length t.accesses) (length t.accesses) (omega arith)

  lack : (d : ℕ) (fs : List ℕ) → Each (λ f. (not (has_loop t d f) ≡ true) × (f < length t.accesses)) fs → Haves rules trees t false d fs
  lack d [] e = tt
  lack d (f ∷ fs) e = ((negated (has_loop t d f) e.0.0, e.0.1), lack d fs e.1)

  spared_lacks : (d : ℕ) → Haves rules trees t false d (spared t d)
  spared_lacks d = lack d (spared t d) (filter-range (λ f. not (has_loop t d f)) 0 (length t.accesses) (length t.accesses) (omega arith))

  pairs_stand : (made : List Made) (s : ℕ → Label) (ws fs : List ℕ) → AllStand made ws (map s fs) → Pairs (λ f w. Stands made w (s f)) fs ws
  pairs_stand made s [] [] x = tt
  pairs_stand made s [] (f ∷ fs) x = absurd x
  pairs_stand made s (w ∷ ws) [] x = absurd x
  pairs_stand made s (w ∷ ws) (f ∷ fs) x = (x.0, pairs_stand made s ws fs x.1)

  -- ---- one level more

  -- A level below d loops, after a nest: its final coordinates come last, and each factor's references are told of them.
  pub record LevelStands (d : ℕ) (n more : Nest) : Type 0 where
    pub sound : Sound rules more.made
    pub extends : Extends n.made more.made
    pub coordinate : ℕ
    pub coordinates_are : more.coordinates ≡ n.coordinates ++ coordinate ∷ []
    pub stands : Stands more.made coordinate (product_tree_label trees (suc d) (asked t d) Coordinate)
    pub width : length more.references ≡ length n.references
    pub references : Refer rules trees t more.made (λ f. product_tree_label trees (suc d) (asked t d) (Rank f)) more.references

  module _ (reference : ℕ → Label) (d : ℕ) (may : LevelAllowed rules trees t reference d) where
    -- the first scanner is met, and the others are left
    record First (made : List Made) (w : ℕ) (fs : List ℕ) : Type 0 where
      met : MetStands rules trees t reference d may made (first_met trees t fs w)
      scans : Scanned rules trees t reference d may made (suc (suc w)) (drop 1 fs)
      all : (first_met trees t fs w).factors ++ drop 1 fs ≡ fs
      few : length (first_met trees t fs w).factors + length (drop 1 fs) ≤ length fs

    first_stands : (made : List Made) (w : ℕ) (fs : List ℕ) → 0 < length fs → Scanned rules trees t reference d may made w fs
        → First made w fs
    first_stands made w [] some scans = absurd (omega (arith, some))
    first_stands made w (f ∷ fs) some scans =
        let one : w + 1 ≡ suc w = omega arith in
        let two : w + 2 ≡ suc (suc w) = omega arith in
        record {
          met = record {
            coordinates = scans.0;
            references = (subst (λ (v : ℕ). Stands made v (product_tree_label trees (suc d) (f ∷ []) (Rank f))) one scans.1, tt);
          };
          scans = subst (λ (v : ℕ). Scanned rules trees t reference d may made v fs) two scans.2;
          all = refl;
          few = omega arith;
        }

    pub level-stands : (n : Nest) → 0 < length (asked t d) → Sound rules n.made → length n.references ≡ length t.accesses
        → Refer rules trees t n.made reference n.references → LevelStands d n (level trees t d n)
    level-stands n some sound wide refer =
        let fs = asked t d in
        let w = outputs_of n.made in
        let made1 = scanned trees t d n in
        let first = first_met trees t fs w in
        let made2 = (all_met trees t d made1 first (suc (suc w)) (drop 1 fs)).made in
        let met = (all_met trees t d made1 first (suc (suc w)) (drop 1 fs)).met in
        let made3 = made2 ++ map (repeat trees t d met.coordinates n.references) (spared t d) in
        let scans = scans-sound rules trees t reference d may n.references n.made fs sound refer (asked_has d) in
        let one = first_stands made1 w fs some scans.1 in
        let all =
        intersects-sound rules trees t reference d may made1 first (suc (suc w)) (drop 1 fs) scans.0 one.met one.scans
        (let a = one.few in let b = filter-short (has_loop t d) 0 (length t.accesses) in omega (arith, a, b)) in
        let factors : met.factors ≡ fs = all.factors ∙ one.all in
        let s : ℕ → Label = λ f. product_tree_label trees (suc d) fs (Rank f) in
        let met_coordinates : Stands made2 met.coordinates (product_tree_label trees (suc d) fs Coordinate) =
        subst (λ (gs : List ℕ). Stands made2 met.coordinates (product_tree_label trees (suc d) gs Coordinate)) factors all.stands.coordinates in
        let met_references : AllStand made2 met.references (map (λ f. product_tree_label trees (suc d) fs (Rank f)) fs) =
        subst (λ (gs : List ℕ). AllStand made2 met.references (map (λ f. product_tree_label trees (suc d) gs (Rank f)) gs)) factors
        all.stands.references in
        let on1 : Extends n.made made1 = extends-more n.made (map (scan trees t d n.references) fs) in
        let on2 : Extends n.made made2 = extends-both n.made made1 made2 on1 all.extends in
        let on3 : Extends made2 made3 = extends-more made2 (map (repeat trees t d met.coordinates n.references) (spared t d)) in
        let repeats =
        repeats-sound rules trees t reference d may met.coordinates n.references made2 (spared t d) all.sound met_coordinates
        (refer-on rules trees t n.made made2 reference n.references on2 refer) (spared_lacks d) in
        let Q : ℕ → ℕ → Type 0 = λ f w. Stands made3 w (product_tree_label trees (suc d) fs (Rank f)) in
        let first_pairs : Pairs Q fs met.references = pairs_stand made3 s met.references fs (all-stand-on made2 made3 _ _ on3 met_references) in
        let later = range_with_len (outputs_of made2) (length (spared t d)) in
        let later_pairs : Pairs Q (spared t d) later = pairs_stand made3 s later (spared t d) repeats.1 in
        let halfway = placed n.references fs met.references in
        let halfway_width : length halfway ≡ length t.accesses = length-placed n.references fs met.references ∙ wide in
        record {
          sound = repeats.0;
          extends = extends-both n.made made2 made3 on2 on3;
          coordinate = met.coordinates;
          coordinates_are = refl;
          stands = stands-on made2 made3 _ _ on3 met_coordinates;
          width = length-placed halfway (spared t d) later ∙ length-placed n.references fs met.references;
          references =
              λ f l. by_truth (Q f (get_or (placed halfway (spared t d) later) f 0)) (has_loop t d f)
              (λ e. placed-keeps Q halfway (spared t d) later f later_pairs (subst (λ (i : ℕ). f < i) (sym halfway_width) l)
              (placed-sets Q n.references fs met.references f first_pairs (subst (λ (i : ℕ). f < i) (sym wide) l)
              (is_in-tested (has_loop t d) (length t.accesses) f l ∙ e)))
              (λ e. placed-sets Q halfway (spared t d) later f later_pairs (subst (λ (i : ℕ). f < i) (sym halfway_width) l)
              (is_in-tested (λ f. not (has_loop t d f)) (length t.accesses) f l ∙ ap not e));
        }

  -- ---- all levels

  -- After d loops: the final coordinates of each level, and each factor's references, with their labels.
  pub record NestStands (coordinate : ℕ → Label) (reference : ℕ → ℕ → Label) (d : ℕ) (n : Nest) : Type 0 where
    pub sound : Sound rules n.made
    pub root : Stands n.made 0 no_label
    pub count : length n.coordinates ≡ d
    pub coordinates : (k : ℕ) → k < d → Stands n.made (get_or n.coordinates k 0) (coordinate (suc k))
    pub width : length n.references ≡ length t.accesses
    pub references : Refer rules trees t n.made (reference d) n.references

  -- one level more, which may be named as the others are
  pub next-stands : (coordinate : ℕ → Label) (reference : ℕ → ℕ → Label) (d : ℕ) (n : Nest)
      → LevelAllowed rules trees t (reference d) d → 0 < length (asked t d)
      → coordinate (suc d) ≡ product_tree_label trees (suc d) (asked t d) Coordinate
      → ((f : ℕ) → reference (suc d) f ≡ product_tree_label trees (suc d) (asked t d) (Rank f))
      → NestStands coordinate reference d n → NestStands coordinate reference (suc d) (level trees t d n)
  next-stands coordinate reference d n may some c r x =
      let y = level-stands (reference d) d may n some x.sound x.width x.references in
      let more = level trees t d n in
      record {
        sound = y.sound;
        root = stands-on n.made more.made _ _ y.extends x.root;
        count = ap length y.coordinates_are ∙ length-append n.coordinates (y.coordinate ∷ []) ∙ (let e = x.count in omega (arith, e));
        coordinates =
            subst (λ (ws : List ℕ). (k : ℕ) → k < suc d → Stands more.made (get_or ws k 0) (coordinate (suc k))) (sym y.coordinates_are)
            (holds-snoc (λ w k. Stands more.made w (coordinate (suc k))) n.coordinates y.coordinate d x.count
            (λ k l. stands-on n.made more.made _ _ y.extends (x.coordinates k l)) (subst (Stands more.made y.coordinate) (sym c) y.stands));
        width = y.width ∙ x.width;
        references = λ f l. subst (Stands more.made (get_or more.references f 0)) (sym (r f)) (y.references f l);
      }

  -- the root's output is each factor's reference before the first loop
  pub nest-stands : (coordinate : ℕ → Label) (reference : ℕ → ℕ → Label) → ((f : ℕ) → reference 0 f ≡ no_label)
      → ((d : ℕ) → d < length t.on_left
      → LevelAllowed rules trees t (reference d) d × (0 < length (asked t d))
      × (coordinate (suc d) ≡ product_tree_label trees (suc d) (asked t d) Coordinate)
      × ((f : ℕ) → reference (suc d) f ≡ product_tree_label trees (suc d) (asked t d) (Rank f)))
      → (made : List Made) → Sound rules made → Stands made 0 no_label
      → (d : ℕ) → d ≤ length t.on_left → NestStands coordinate reference d (nest trees t d made)
  nest-stands coordinate reference before each made sound root zero l = record {
    sound = sound;
    root = root;
    count = refl;
    coordinates = λ k j. absurd (omega (arith, j));
    width = length-replicate (length t.accesses) 0;
    references =
        λ f j. subst (Stands made (get_or (replicate (length t.accesses) 0) f 0)) (sym (before f))
        (subst (λ (w : ℕ). Stands made w no_label) (sym (get_or-replicate (length t.accesses) f 0 0 j)) root);
  }
  nest-stands coordinate reference before each made sound root (suc d) l =
      let x = each d (omega (arith, l)) in
      next-stands coordinate reference d (nest trees t d made) x.0 x.1 x.2 x.3
      (nest-stands coordinate reference before each made sound root d (omega (arith, l)))
