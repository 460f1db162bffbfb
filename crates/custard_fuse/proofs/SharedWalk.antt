-- The blocks of the shared levels keep to the rules: after each level stand the coordinates of all terms, and each factor's references.
use Rattle.std.specs.Prelude.{◌≡◌, ◌<◌, ◌≤◌, ℕ, zero, suc, ◌+◌, ◌-◌, Bool, true, cond, List, [], ◌∷◌, ◌++◌, length, take, drop, get_or, replicate, eqb, ltb, refl}
use Rattle.std.specs.List.{range_with_len}
use mathlib.Core.List.{map}
use Rattle.std.proofs.Common.{arith, sym, ◌∙◌, ap, subst, append-nil, append_assoc, length-append, take_all}
use Rattle.std.proofs.lemmas.Bool.Decides.{nat_tests}
use Rattle.std.proofs.lemmas.List.{length-map, length-replicate, get_or-replicate, replicate-append-replicate}
use Rattle.std.proofs.lemmas.List.FromFn.{length-map-range_with_len}
use Rattle.sam_model.specs.declared.program.Program.{Program}
use Rattle.sam_model.specs.Lists.{below}
use Rattle.sam_model.specs.Program.{accepted}
use Rattle.stream_model.specs.declared.labels.Attr.TheVariants.{Coordinate, Rank}
use Rattle.stream_model.specs.declared.labels.Label.{Label}
use Rattle.stream_model.specs.Fused.{shared_levels}
use Rattle.graph.specs.declared.graphs.Kind.TheVariants as kind
use Rattle.label_rules.specs.declared.plans.Plan.{Plan}
use Rattle.label_rules.specs.Holding.{Rules}
use Rattle.label_rules.specs.Labels.{no_label, PortsAllow, just_these}
use Rattle.label_rules.specs.TermLabels.{plan_at, factor_count, loop_count, full_mask}
use Rattle.custard_lower.specs.declared.drafts.Made.{Made}
use Rattle.custard_lower.specs.declared.nests.Nest.{Nest}
use Rattle.custard_lower.specs.Drafts.{outputs_of}
use Rattle.custard_lower.specs.Nests.{level}
use Rattle.custard_lower.specs.Lowering.{root}
use Rattle.custard_lower.proofs.draft.Emitted.{Stands, AllStand, Sound, Extends, extends-same, extends-more, extends-both, stands-on, all-stand-on, all-stand-new, all-stand-append, sound-emit, holds-snoc}
use Rattle.custard_lower.proofs.term.LevelSound.{Refer}
use Rattle.custard_lower.proofs.term.MetAllowed.{just-these-self}
use Rattle.custard_lower.proofs.term.NestSound.{LevelStands, level-stands}
use Rattle.custard_lower.proofs.term.PlanFacts.{loop-asked}
use Rattle.custard_fuse.specs.Sharing.{factors, no_plan, all_factors, across_label, rank_labels, across_labels, scanned_terms, union, united, shared_level, shared_levels_of}
use Rattle.custard_fuse.specs.Fusing.{plans_of, is_fused}
use Rattle.custard_fuse.specs.FusedRules.{last_term, fused_trees, under_label, whole_labels, fused_reference, level_label, before_labels}
use Rattle.custard_fuse.proofs.FusedPlans.{several, few-factors, levels-within}
use Rattle.custard_fuse.proofs.FusedUnions.{pairs, ranks-are, pairs-length, plans-count, plans-more}
use Rattle.custard_fuse.proofs.FusedAllows.{Fusing, fusing, fused-level}

-- ---- outputs with labels, one by one and together

-- each output of a list has the label of its number
pub refer-all : (made : List Made) (label : ℕ → Label) (a n : ℕ) (ws : List ℕ) → length ws ≡ n
    → ((k : ℕ) → k < n → Stands made (get_or ws k 0) (label (a + k))) → AllStand made ws (map label (range_with_len a n))
refer-all made label a zero [] e h = tt
refer-all made label a zero (w ∷ ws) e h = absurd (omega (arith, e))
refer-all made label a (suc n) [] e h = absurd (omega (arith, e))
refer-all made label a (suc n) (w ∷ ws) e h =
    let here : a + 0 ≡ a = omega arith in (
      subst (λ (k : ℕ). Stands made w (label k)) here (h 0 (omega arith)),
      refer-all made label (a + 1) n ws (omega (arith, e))
          (λ k l. let next : a + suc k ≡ a + 1 + k = omega arith in
          subst (λ (i : ℕ). Stands made (get_or ws k 0) (label i)) next (h (suc k) (omega (arith, l)))),
    )

pub all-refer : (made : List Made) (label : ℕ → Label) (a n : ℕ) (ws : List ℕ) → AllStand made ws (map label (range_with_len a n))
    → (k : ℕ) → k < n → Stands made (get_or ws k 0) (label (a + k))
all-refer made label a zero ws x k l = absurd (omega (arith, l))
all-refer made label a (suc n) [] x k l = absurd x
all-refer made label a (suc n) (w ∷ ws) x zero l = let here : a ≡ a + 0 = omega arith in subst (λ (i : ℕ). Stands made w (label i)) here x.0
all-refer made label a (suc n) (w ∷ ws) x (suc k) l =
    let next : a + 1 + k ≡ a + suc k = omega arith in
    subst (λ (i : ℕ). Stands made (get_or ws k 0) (label i)) next (all-refer made label (a + 1) n ws x.1 k (omega (arith, l)))

-- the outputs of two lists of labels, apart
pub stand-apart : (made : List Made) (ws : List ℕ) (ls ks : List Label) → AllStand made ws (ls ++ ks)
    → AllStand made (take (length ls) ws) ls × AllStand made (drop (length ls) ws) ks
stand-apart made ws [] ks x = (tt, x)
stand-apart made [] (l ∷ ls) ks x = absurd x
stand-apart made (w ∷ ws) (l ∷ ls) ks x = let r = stand-apart made ws ls ks x.1 in ((x.0, r.0), r.1)

pub stand-count : (made : List Made) (ws : List ℕ) (ls : List Label) → AllStand made ws ls → length ws ≡ length ls
stand-count made [] [] x = refl
stand-count made [] (l ∷ ls) x = absurd x
stand-count made (w ∷ ws) [] x = absurd x
stand-count made (w ∷ ws) (l ∷ ls) x = ap suc (stand-count made ws ls x.1)

-- the parts of a list of terms have no more factors
pub factors-before : (k : ℕ) (ts : List Plan) → all_factors (take k ts) ≤ all_factors ts
factors-before zero ts = omega arith
factors-before (suc k) [] = omega arith
factors-before (suc k) (t ∷ ts) = let r = factors-before k ts in omega (arith, r)

pub factors-append : (xs ys : List Plan) → all_factors (xs ++ ys) ≡ all_factors xs + all_factors ys
factors-append [] ys = omega arith
factors-append (t ∷ xs) ys = let r = factors-append xs ys in omega (arith, r)

module _ (p : Program) (ok : accepted p ≡ true) (fused : is_fused p ≡ true) where
  abbrev h : ℕ
  h = shared_levels p

  abbrev R : Rules
  R = Fusing p

  -- ---- labels of all terms together

  -- the plans of k terms from number n on
  abbrev pub plans_from : ℕ → ℕ → List Plan
  plans_from n zero = []
  plans_from n (suc k) = plan_at p n ∷ plans_from (suc n) k

  pub plans-are : plans_of p ≡ plans_from 0 (length p.terms)
  plans-are = ranged 0 (length p.terms)
    where
      ranged : (n k : ℕ) → map (plan_at p) (range_with_len n k) ≡ plans_from n k
      ranged n zero = refl
      ranged n (suc k) =
          let next : n + 1 ≡ suc n = omega arith in
          ap (λ (ts : List Plan). plan_at p n ∷ ts) (ranged (n + 1) k ∙ ap (λ (i : ℕ). plans_from i k) next)

  -- their references below d loops, factor by factor
  abbrev pub reference_labels : ℕ → ℕ → ℕ → List Label
  reference_labels d n zero = []
  reference_labels d n (suc k) = map (λ f. fused_reference p n d f) (below (factor_count p n)) ++ reference_labels d (suc n) k

  -- what they scan on the level below d loops: the coordinates of each, and the references
  abbrev pub top_labels : ℕ → ℕ → ℕ → List Label
  top_labels d n zero = []
  top_labels d n (suc k) = under_label p n (suc d) (full_mask p n d) Coordinate ∷ top_labels d (suc n) k

  abbrev pub own_labels : ℕ → ℕ → ℕ → List Label
  own_labels d n zero = []
  own_labels d n (suc k) = map (λ f. under_label p n (suc d) (full_mask p n d) (Rank f)) (below (factor_count p n)) ++ own_labels d (suc n) k

  -- on a shared level the references are those that all terms have
  united_labels : (d n k : ℕ) → d < h → reference_labels (suc d) n k ≡ rank_labels (last_term p) (suc d) n (plans_from n k)
  united_labels d n zero l = refl
  united_labels d n (suc k) l =
      let shared : ltb d h ≡ true = grind (arith, nat_tests, l) in
      ap (λ (b : Bool). map (λ f. cond b (across_label (last_term p) n (suc d) (Rank f)) (under_label p n (suc d) (full_mask p n d) (Rank f))) (below (factor_count p n))
      ++ reference_labels (suc d) (suc n) k) shared
      ∙ ap (λ (ls : List Label). map (λ f. across_label (last_term p) n (suc d) (Rank f)) (below (factor_count p n)) ++ ls) (united_labels d (suc n) k l)

  ranked_many : (n d : ℕ) → length (map (λ f. fused_reference p n d f) (below (factor_count p n))) ≡ factor_count p n
  ranked_many n d = length-map-range_with_len (λ f. fused_reference p n d f) 0 (factor_count p n)

  -- the references of one term, and those of the terms after it
  pub references-apart : (made : List Made) (d n k : ℕ) (references : List ℕ) → AllStand made references (reference_labels d n (suc k))
      → AllStand made (take (factor_count p n) references) (map (λ f. fused_reference p n d f) (below (factor_count p n)))
      × AllStand made (drop (factor_count p n) references) (reference_labels d (suc n) k)
  references-apart made d n k references x =
      let own = map (λ f. fused_reference p n d f) (below (factor_count p n)) in
      let r = stand-apart made references own (reference_labels d (suc n) k) x in (
        subst (λ (i : ℕ). AllStand made (take i references) own) (ranked_many n d) r.0,
        subst (λ (i : ℕ). AllStand made (drop i references) (reference_labels d (suc n) k)) (ranked_many n d) r.1,
      )

  -- the references of one term, by their factors
  pub own-references : (made : List Made) (d n : ℕ) (ws : List ℕ) → AllStand made ws (map (λ f. fused_reference p n d f) (below (factor_count p n)))
      → (length ws ≡ factor_count p n) × Refer R (fused_trees p n) (plan_at p n) made (fused_reference p n d) ws
  own-references made d n ws x = (
    stand-count made ws (map (λ f. fused_reference p n d f) (below (factor_count p n))) x ∙ ranked_many n d,
    λ f l. let z : 0 + f ≡ f = omega arith in
        subst (λ (k : ℕ). Stands made (get_or ws f 0) (fused_reference p n d k)) z (all-refer made (λ f. fused_reference p n d f) 0 (factor_count p n) ws x f l),
  )

  -- ---- scanning

  -- what was scanned: the coordinates and references of some terms
  pub record Scanned (before : List Made) (cs rs : List Label) (s : Nest) : Type 0 where
    pub sound : Sound R s.made
    pub extends : Extends before s.made
    pub coordinates_stand : AllStand s.made s.coordinates cs
    pub references_stand : AllStand s.made s.references rs

  deep_level : (n d : ℕ) → n < length p.terms → d < h → d < loop_count p n
  deep_level n d inside shared = let a = levels-within p ok fused n inside in omega (arith, a, shared)

  module _ (d : ℕ) (shared : d < h) where
    -- one term scans the level
    one_stands : (n : ℕ) → n < length p.terms → (made : List Made) (ws : List ℕ) → Sound R made
        → AllStand made ws (map (λ f. fused_reference p n d f) (below (factor_count p n)))
        → LevelStands R (fused_trees p n) (plan_at p n) d (record { made = made; coordinates = []; references = ws })
        (level (fused_trees p n) (plan_at p n) d (record { made = made; coordinates = []; references = ws }))
    one_stands n inside made ws sound x =
        let own = own-references made d n ws x in
        level-stands R (fused_trees p n) (plan_at p n) (fused_reference p n d) d (fused-level p ok fused n inside d (deep_level n d inside shared))
        (record { made = made; coordinates = []; references = ws }) (loop-asked p ok n inside d (deep_level n d inside shared)) sound own.0 own.1

    scanned_stands : (n k : ℕ) (before : List Made) (references : List ℕ) (cs rs : List Label) (s : Nest) → n + k ≡ length p.terms
        → Scanned before cs rs s → AllStand s.made references (reference_labels d n k)
        → Scanned before (cs ++ top_labels d n k) (rs ++ own_labels d n k) (scanned_terms (last_term p) h d n (plans_from n k) references s)
    scanned_stands n zero before references cs rs s e x refs = record {
      sound = x.sound;
      extends = x.extends;
      coordinates_stand = subst (AllStand s.made s.coordinates) (sym (append-nil cs)) x.coordinates_stand;
      references_stand = subst (AllStand s.made s.references) (sym (append-nil rs)) x.references_stand;
    }
    scanned_stands n (suc k) before references cs rs s e x refs =
        let inside : n < length p.terms = omega (arith, e) in
        let apart = references-apart s.made d n k references refs in
        let ws = take (factor_count p n) references in
        let one = level (fused_trees p n) (plan_at p n) d (record { made = s.made; coordinates = []; references = ws }) in
        let y = one_stands n inside s.made ws x.sound apart.0 in
        let c = under_label p n (suc d) (full_mask p n d) Coordinate in
        let own = map (λ f. under_label p n (suc d) (full_mask p n d) (Rank f)) (below (factor_count p n)) in
        let wide = own-references s.made d n ws apart.0 in
        let next : Nest = record { made = one.made; coordinates = s.coordinates ++ one.coordinates; references = s.references ++ one.references } in
        let now : Scanned before (cs ++ c ∷ []) (rs ++ own) next = record {
          sound = y.sound;
          extends = extends-both before s.made one.made x.extends y.extends;
          coordinates_stand =
              all-stand-append one.made s.coordinates one.coordinates cs (c ∷ []) (all-stand-on s.made one.made _ _ y.extends x.coordinates_stand)
              (subst (λ (us : List ℕ). AllStand one.made us (c ∷ [])) (sym y.coordinates_are) (y.stands, tt));
          references_stand =
              all-stand-append one.made s.references one.references rs own (all-stand-on s.made one.made _ _ y.extends x.references_stand)
              (refer-all one.made (λ f. under_label p n (suc d) (full_mask p n d) (Rank f)) 0 (factor_count p n) one.references
              (let a = y.width in let b = wide.0 in omega (arith, a, b))
              (λ f l. let z : f ≡ 0 + f = omega arith in
              subst (λ (i : ℕ). Stands one.made (get_or one.references f 0) (under_label p n (suc d) (full_mask p n d) (Rank i))) z (y.references f l)));
        } in
        let rest = scanned_stands (suc n) k before (drop (factor_count p n) references) (cs ++ c ∷ []) (rs ++ own) next (omega (arith, e)) now
        (all-stand-on s.made one.made _ _ y.extends apart.1) in
        subst (λ (ls : List Label). Scanned before ls (rs ++ (own ++ own_labels d (suc n) k))
        (scanned_terms (last_term p) h d (suc n) (plans_from (suc n) k) (drop (factor_count p n) references) next))
        (append_assoc cs (c ∷ []) (top_labels d (suc n) k))
        (subst (λ (ls : List Label). Scanned before ((cs ++ c ∷ []) ++ top_labels d (suc n) k) ls
        (scanned_terms (last_term p) h d (suc n) (plans_from (suc n) k) (drop (factor_count p n) references) next))
        (append_assoc rs own (own_labels d (suc n) k)) rest)

    -- ---- uniting

    pub before-count : (e : ℕ) → e < length p.terms → length (before_labels p e d) ≡ suc (all_factors (take (suc e) (plans_of p)))
    before-count zero l =
        let a = length-map-range_with_len (λ f. under_label p 0 (suc d) (full_mask p 0 d) (Rank f)) 0 (factor_count p 0) in
        let b = ap all_factors (plans-more p 0 l) in
        omega (arith, a, b)
    before-count (suc e) l =
        let ts = take (suc (suc e)) (plans_of p) in
        let a = ap length (ranks-are (suc e) (suc d) 0 ts) in
        let b = length-map (pairs 0 ts) (λ (r : ℕ × ℕ). across_label (suc e) r.0 (suc d) (Rank r.1)) in
        let c = pairs-length 0 ts in
        omega (arith, a, b, c)

    pub whole-count : (n : ℕ) → length (whole_labels p n d) ≡ suc (factor_count p n)
    whole-count n = ap suc (length-map-range_with_len (λ f. under_label p n (suc d) (full_mask p n d) (Rank f)) 0 (factor_count p n))

    few_before : (e : ℕ) → suc e < length p.terms → all_factors (take (suc e) (plans_of p)) + factor_count p (suc e) ≤ 8
    few_before e l =
        let a = few-factors p ok fused in
        let b = factors-before (suc (suc e)) (plans_of p) in
        let c = ap all_factors (plans-more p (suc e) l) ∙ factors-append (take (suc e) (plans_of p)) (plan_at p (suc e) ∷ []) in
        omega (arith, a, b, c)

    union_allowed : (e l r : ℕ) → suc e < length p.terms → l ≡ all_factors (take (suc e) (plans_of p)) → r ≡ factor_count p (suc e)
        → Fusing p (kind.Union l r) (before_labels p e d ++ whole_labels p (suc e) d) (across_labels (suc e) (suc d) (take (suc (suc e)) (plans_of p)))
    union_allowed e l r inside is_l is_r =
        let few = few_before e inside in
        let ins = before_labels p e d ++ whole_labels p (suc e) d in
        let outs = across_labels (suc e) (suc d) (take (suc (suc e)) (plans_of p)) in
        let a : ltb 0 (suc e) ≡ true = grind (arith, nat_tests) in
        let b : ltb (suc e) (length p.terms) ≡ true = grind (arith, nat_tests, inside) in
        let back : suc d - 1 ≡ d = omega arith in
        let back_e : suc e - 1 ≡ e = omega arith in
        let c : ltb d h ≡ true = grind (arith, nat_tests, shared) in
        let x : eqb l (all_factors (take (suc e) (plans_of p))) ≡ true = grind (arith, nat_tests, is_l) in
        let y : eqb r (factor_count p (suc e)) ≡ true = grind (arith, nat_tests, is_r) in
        fusing p (kind.Union l r) ins outs (omega (arith, few, is_l, is_r)) refl (record {
          holds = rw (a, b, back, c, x, y) refl;
          ins_are =
              subst (λ (i : ℕ). PortsAllow (just_these (before_labels p (suc e - 1) i ++ whole_labels p (suc e) i)) ins) (sym back)
              (subst (λ (i : ℕ). PortsAllow (just_these (before_labels p i d ++ whole_labels p (suc e) d)) ins) (sym back_e) (just-these-self ins));
          outs_are = ap (λ (i : ℕ). across_labels (suc e) (suc i) (take (suc (suc e)) (plans_of p))) (sym back);
        })

    -- the terms up to number e are united
    pub record United (before : List Made) (e : ℕ) (u : Nest) : Type 0 where
      pub sound : Sound R u.made
      pub extends : Extends before u.made
      pub coordinate : ℕ
      pub coordinates_are : u.coordinates ≡ coordinate ∷ []
      pub stand : AllStand u.made (coordinate ∷ u.references) (before_labels p e d)

    -- one more
    union_stands : (before : List Made) (e : ℕ) (u : Nest) (c : ℕ) (ws : List ℕ) → suc e < length p.terms → United before e u
        → AllStand u.made (c ∷ ws) (whole_labels p (suc e) d)
        → United before (suc e) (record {
          made = u.made ++ union (plans_of p) d (suc e) u c ws ∷ [];
          coordinates = outputs_of u.made ∷ [];
          references = range_with_len (suc (outputs_of u.made)) (length u.references + length ws);
        })
    union_stands before e u c ws inside x own =
        let m = union (plans_of p) d (suc e) u c ws in
        let outs = across_labels (suc e) (suc d) (take (suc (suc e)) (plans_of p)) in
        let left = stand-count u.made (x.coordinate ∷ u.references) (before_labels p e d) x.stand in
        let left_many = before-count e (omega (arith, inside)) in
        let right = stand-count u.made (c ∷ ws) (whole_labels p (suc e) d) own in
        let right_many = whole-count (suc e) in
        let first : get_or u.coordinates 0 0 ≡ x.coordinate = ap (λ (cs : List ℕ). get_or cs 0 0) x.coordinates_are in
        let new = all-stand-new u.made m in
        let out_many = before-count (suc e) inside in
        let both = ap all_factors (plans-more p (suc e) inside) ∙ factors-append (take (suc e) (plans_of p)) (plan_at p (suc e) ∷ []) in
        let count : length outs ≡ suc (length u.references + length ws) = omega (arith, left, left_many, right, right_many, out_many, both) in
        let next : outputs_of u.made + 1 ≡ suc (outputs_of u.made) = omega arith in
        record {
          sound =
              sound-emit R u.made m (before_labels p e d ++ whole_labels p (suc e) d) x.sound
              (subst (λ (i : ℕ). AllStand u.made ((i ∷ u.references) ++ c ∷ ws) (before_labels p e d ++ whole_labels p (suc e) d)) (sym first)
              (all-stand-append u.made (x.coordinate ∷ u.references) (c ∷ ws) (before_labels p e d) (whole_labels p (suc e) d) x.stand own))
              (union_allowed e (length u.references) (length ws) inside (omega (arith, left, left_many)) (omega (arith, right, right_many)));
          extends = extends-both before u.made _ x.extends (extends-more u.made (m ∷ []));
          coordinate = outputs_of u.made;
          coordinates_are = refl;
          stand =
              subst (λ (k : ℕ). AllStand (u.made ++ m ∷ []) (outputs_of u.made ∷ range_with_len k (length u.references + length ws)) outs) next
              (subst (λ (k : ℕ). AllStand (u.made ++ m ∷ []) (range_with_len (outputs_of u.made) k) outs) count new);
        }

    -- ---- a level of all terms

    own_many : (n : ℕ) → length (map (λ f. under_label p n (suc d) (full_mask p n d) (Rank f)) (below (factor_count p n))) ≡ factor_count p n
    own_many n = length-map-range_with_len (λ f. under_label p n (suc d) (full_mask p n d) (Rank f)) 0 (factor_count p n)

    -- the coordinates and references of one term, and those of the terms after it
    tops_apart : (made : List Made) (n k : ℕ) (cs : List ℕ) → AllStand made cs (top_labels d n (suc k))
        → Stands made (get_or cs 0 0) (under_label p n (suc d) (full_mask p n d) Coordinate) × AllStand made (drop 1 cs) (top_labels d (suc n) k)
    tops_apart made n k [] x = absurd x
    tops_apart made n k (c ∷ cs) x = x

    owns_apart : (made : List Made) (n k : ℕ) (ws : List ℕ) → AllStand made ws (own_labels d n (suc k))
        → AllStand made (take (factor_count p n) ws) (map (λ f. under_label p n (suc d) (full_mask p n d) (Rank f)) (below (factor_count p n)))
        × AllStand made (drop (factor_count p n) ws) (own_labels d (suc n) k)
    owns_apart made n k ws x =
        let own = map (λ f. under_label p n (suc d) (full_mask p n d) (Rank f)) (below (factor_count p n)) in
        let r = stand-apart made ws own (own_labels d (suc n) k) x in (
          subst (λ (i : ℕ). AllStand made (take i ws) own) (own_many n) r.0,
          subst (λ (i : ℕ). AllStand made (drop i ws) (own_labels d (suc n) k)) (own_many n) r.1,
        )

    united_stands : (e k : ℕ) (before : List Made) (cs ws : List ℕ) (u : Nest) → suc e + k ≡ length p.terms → United before e u
        → AllStand u.made cs (top_labels d (suc e) k) → AllStand u.made ws (own_labels d (suc e) k)
        → United before (e + k) (united (plans_of p) d (suc e) (plans_from (suc e) k) cs ws u)
    united_stands e zero before cs ws u same x tops owns = let z : e ≡ e + 0 = omega arith in subst (λ (i : ℕ). United before i u) z x
    united_stands e (suc k) before cs ws u same x tops owns =
        let top = tops_apart u.made (suc e) k cs tops in
        let own = owns_apart u.made (suc e) k ws owns in
        let c = get_or cs 0 0 in
        let mine = take (factor_count p (suc e)) ws in
        let m = union (plans_of p) d (suc e) u c mine in
        let on = extends-more u.made (m ∷ []) in
        let next : Nest = record {
          made = u.made ++ m ∷ [];
          coordinates = outputs_of u.made ∷ [];
          references = range_with_len (suc (outputs_of u.made)) (length u.references + length mine);
        } in
        let y = union_stands before e u c mine (omega (arith, same)) x (top.0, own.0) in
        let more : suc e + k ≡ e + suc k = omega arith in
        subst (λ (i : ℕ). United before i (united (plans_of p) d (suc (suc e)) (plans_from (suc (suc e)) k) (drop 1 cs) (drop (factor_count p (suc e)) ws) next)) more
        (united_stands (suc e) k before (drop 1 cs) (drop (factor_count p (suc e)) ws) next (omega (arith, same)) y
        (all-stand-on u.made _ _ _ on top.1) (all-stand-on u.made _ _ _ on own.1))

  -- ---- all shared levels

  -- After d of them: the coordinates that all terms have, and each factor's references.
  pub record SharedStands (d : ℕ) (n : Nest) : Type 0 where
    pub sound : Sound R n.made
    pub root : Stands n.made 0 no_label
    pub count : length n.coordinates ≡ d
    pub coordinates_stand : (k : ℕ) → k < d → Stands n.made (get_or n.coordinates k 0) (level_label p 0 (suc k))
    pub references_stand : AllStand n.made n.references (reference_labels d 0 (length p.terms))

  abbrev pub level_of : ℕ → Nest → List Plan → Nest
  level_of d n ts =
      let s = scanned_terms (last_term p) h d 0 ts n.references (record { made = n.made; coordinates = []; references = [] }) in
      let k = factors (get_or ts 0 no_plan) in
      let first : Nest = record { made = s.made; coordinates = take 1 s.coordinates; references = take k s.references } in
      let all = united (plans_of p) d 1 (drop 1 ts) (drop 1 s.coordinates) (drop k s.references) first in
      record { made = all.made; coordinates = n.coordinates ++ all.coordinates; references = all.references }

  -- where the program's plans are given one by one
  shared_stands : (d : ℕ) (n : Nest) → d < h → SharedStands d n → SharedStands (suc d) (shared_level (plans_of p) (last_term p) h d n)
  shared_stands d n shared x = by_terms (length p.terms - 2) (let k = several p ok fused in omega (arith, k))
    where
      one_first : (cs : List ℕ) → {m : ℕ} → length cs ≡ suc m → take 1 cs ≡ get_or cs 0 0 ∷ []
      one_first [] e = absurd (omega (arith, e))
      one_first (c ∷ cs) e = refl

      by_terms : (j : ℕ) → length p.terms ≡ suc (suc j) → SharedStands (suc d) (shared_level (plans_of p) (last_term p) h d n)
      by_terms j many =
          let s = scanned_terms (last_term p) h d 0 (plans_from 0 (suc (suc j))) n.references (record { made = n.made; coordinates = []; references = [] }) in
          let start : Scanned n.made [] [] (record { made = n.made; coordinates = []; references = [] }) =
          record { sound = x.sound; extends = extends-same n.made; coordinates_stand = tt; references_stand = tt } in
          let y : Scanned n.made (top_labels d 0 (suc (suc j))) (own_labels d 0 (suc (suc j))) s =
          scanned_stands d shared 0 (suc (suc j)) n.made n.references [] [] (record { made = n.made; coordinates = []; references = [] })
          (omega (arith, many)) start (subst (λ (i : ℕ). AllStand n.made n.references (reference_labels d 0 i)) many x.references_stand) in
          let top = tops_apart d shared s.made 0 (suc j) s.coordinates y.coordinates_stand in
          let own = owns_apart d shared s.made 0 (suc j) s.references y.references_stand in
          let first : Nest = record { made = s.made; coordinates = take 1 s.coordinates; references = take (factor_count p 0) s.references } in
          let start_united : United d shared n.made 0 first = record {
            sound = y.sound;
            extends = y.extends;
            coordinate = get_or s.coordinates 0 0;
            coordinates_are = one_first s.coordinates (stand-count s.made s.coordinates (top_labels d 0 (suc (suc j))) y.coordinates_stand);
            stand = (top.0, own.0);
          } in
          let all = united (plans_of p) d 1 (plans_from 1 (suc j)) (drop 1 s.coordinates) (drop (factor_count p 0) s.references) first in
          let counted : 0 + suc j ≡ suc j = omega arith in
          let z : United d shared n.made (suc j) all =
          subst (λ (i : ℕ). United d shared n.made i all) counted
          (united_stands d shared 0 (suc j) n.made (drop 1 s.coordinates) (drop (factor_count p 0) s.references) first
          (omega (arith, many)) start_united top.1 own.1) in
          let same : shared_level (plans_of p) (last_term p) h d n ≡ level_of d n (plans_from 0 (suc (suc j))) =
          ap (level_of d n) (plans-are ∙ ap (plans_from 0) many) in
          let last_is : suc j ≡ last_term p = omega (arith, many) in
          let top_label : across_label (suc j) 0 (suc d) Coordinate ≡ level_label p 0 (suc d) =
          let b : ltb d h ≡ true = grind (arith, nat_tests, shared) in
          ap (λ (i : ℕ). across_label i 0 (suc d) Coordinate) last_is
          ∙ ap (λ c. cond c (across_label (last_term p) 0 (suc d) Coordinate) (under_label p 0 (suc d) (full_mask p 0 d) Coordinate)) (sym b) in
          let refs : rank_labels (suc j) (suc d) 0 (take (suc (suc j)) (plans_of p)) ≡ reference_labels (suc d) 0 (length p.terms) =
          ap (λ (i : ℕ). rank_labels i (suc d) 0 (take (suc (suc j)) (plans_of p))) last_is
          ∙ ap (rank_labels (last_term p) (suc d) 0)
          (take_all (suc (suc j)) (plans_of p) (let c = plans-count p in omega (arith, c, many)) ∙ plans-are)
          ∙ sym (united_labels d 0 (length p.terms) shared) in
          subst (SharedStands (suc d)) (sym same) (record {
            sound = z.sound;
            root = stands-on n.made all.made _ _ z.extends x.root;
            count =
                ap (λ (cs : List ℕ). length (n.coordinates ++ cs)) z.coordinates_are
                ∙ length-append n.coordinates (z.coordinate ∷ []) ∙ (let c = x.count in omega (arith, c));
            coordinates_stand =
                subst (λ (cs : List ℕ). (k : ℕ) → k < suc d → Stands all.made (get_or (n.coordinates ++ cs) k 0) (level_label p 0 (suc k))) (sym z.coordinates_are)
                (holds-snoc (λ w k. Stands all.made w (level_label p 0 (suc k))) n.coordinates z.coordinate d x.count
                (λ k l. stands-on n.made all.made _ _ z.extends (x.coordinates_stand k l)) (subst (Stands all.made z.coordinate) top_label z.stand.0));
            references_stand = subst (AllStand all.made all.references) refs z.stand.1;
          })

  -- before the first, each factor's reference is the root's output
  roots_stand : (made : List Made) → Stands made 0 no_label → (n k : ℕ) → AllStand made (replicate (all_factors (plans_from n k)) 0) (reference_labels 0 n k)
  roots_stand made top n zero = tt
  roots_stand made top n (suc k) =
      let own = map (λ f. fused_reference p n 0 f) (below (factor_count p n)) in
      subst (λ (ws : List ℕ). AllStand made ws (own ++ reference_labels 0 (suc n) k))
      (replicate-append-replicate (factor_count p n) (all_factors (plans_from (suc n) k)) 0)
      (all-stand-append made (replicate (factor_count p n) 0) (replicate (all_factors (plans_from (suc n) k)) 0) own (reference_labels 0 (suc n) k)
      (refer-all made (λ f. fused_reference p n 0 f) 0 (factor_count p n) (replicate (factor_count p n) 0) (length-replicate (factor_count p n) 0)
      (λ f l. subst (λ (w : ℕ). Stands made w no_label) (sym (get_or-replicate (factor_count p n) f 0 0 l)) top))
      (roots_stand made top (suc n) k))

  pub shared-stands : (made : List Made) → Sound R made → Stands made 0 no_label → (d : ℕ) → d ≤ h
      → SharedStands d (shared_levels_of (plans_of p) (last_term p) h d made)
  shared-stands made sound root zero l = record {
    sound = sound;
    root = root;
    count = refl;
    coordinates_stand = λ k i. absurd (omega (arith, i));
    references_stand =
        subst (λ (ts : List Plan). AllStand made (replicate (all_factors ts) 0) (reference_labels 0 0 (length p.terms))) (sym plans-are)
        (roots_stand made root 0 (length p.terms));
  }
  shared-stands made sound root (suc d) l =
      shared_stands d (shared_levels_of (plans_of p) (last_term p) h d made) (omega (arith, l)) (shared-stands made sound root d (omega (arith, l)))
