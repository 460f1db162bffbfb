-- The rules are sound, kind by kind.
use Rattle.std.specs.Prelude.{◌≡◌, ◌<◌, ◌≤◌, ℕ, zero, suc, ◌-◌, Bool, true, false, not, List, [], ◌∷◌, ◌++◌, length, get_or, eqb, refl}
use Rattle.std.specs.Int.Bits.{bit_or}
use Rattle.std.specs.List.{list_all}
use mathlib.Core.List.{map}
use Rattle.std.proofs.Common.{arith, sym, ◌∙◌, ap, subst, inl, inr}
use Rattle.std.proofs.lemmas.Bool.{and_parts, ltb-true, eqb-true}
use Rattle.std.proofs.lemmas.Bool.Decides.{nat_tests}
use Rattle.std.proofs.lemmas.List.{get_or-map, length-map, map-append}
use Rattle.stream_tokens.specs.declared.Token.{Token}
use Rattle.stream_tokens.specs.Nest.{IsStream}
use Rattle.stream_tokens.proofs.Algebra.{map-map}
use Rattle.sam_model.specs.declared.tensors.Entries.{Entries}
use Rattle.sam_model.specs.declared.program.Term.{Term}
use Rattle.sam_model.specs.declared.program.Program.{Program}
use Rattle.sam_model.specs.Accepted.{term_fits}
use Rattle.sam_model.specs.Program.{accepted}
use Rattle.sam_model.specs.Children.{Ranked}
use Rattle.stream_model.specs.declared.labels.Tree.{Tree}
use Rattle.stream_model.specs.declared.labels.Tree.TheVariants.{Root, Product, Reduced, Joined, Beside, Across, Under, UnderReduced, UnderJoined}
use Rattle.stream_model.specs.declared.labels.Attr.{Attr}
use Rattle.stream_model.specs.declared.labels.Attr.TheVariants.{Coordinate, Rank, FactorValue}
use Rattle.stream_model.specs.declared.labels.Label.{Label}
use Rattle.stream_model.specs.Terms.{TermData, Summand, summands_of, summand_at, term_data, further_summand, no_summand, access_at}
use Rattle.stream_model.specs.Masks.{final, any_of, levels_before}
use Rattle.stream_model.specs.Labels.{bits, shape_of, label_stream, term_at}
use Rattle.stream_model.proofs.Numbers.{bits-any_of}
use Rattle.stream_model.proofs.Places.{accepted-terms}
use Rattle.stream_model.proofs.Streams.{label_stream-IsStream}
use Rattle.block_core.specs.Ports.{Streams, AllStreams}
use Rattle.block_core.specs.Scan.{Children}
use Rattle.block_core.specs.Cast.{cast_outputs}
use Rattle.block_core.specs.Move.{over}
use Rattle.label_rules.specs.Labels.{no_label, PortsAllow, IsOneOf, just_these, port_label}
use Rattle.label_rules.proofs.laws.ItemStreams.{gives-same}
use Rattle.block_core.specs.Kind.{ScanKind, IntersectKind, ArrayKind, CastKind}
use Rattle.block_core.proofs.Given.{Gives, cast-gives, drain-gives}
use Rattle.levels.specs.Reads.{children_at}
use Rattle.graph.specs.declared.graphs.Kind.{Kind}
use Rattle.graph.specs.declared.graphs.Kind.TheVariants as kind
use Rattle.graph.specs.Meaning.{meaning, stored_at}
use Rattle.label_rules.specs.Masks.{factors_mask}
use Rattle.label_rules.specs.Plans.{plan_access, has_loop}
use Rattle.label_rules.specs.Storages.{storages_of}
use Rattle.label_rules.proofs.term.Matching.{Matches}
use Rattle.label_rules.proofs.term.PlanMatches.{plan-matches}
use Rattle.label_rules.proofs.term.MaskNumbers.{mask-one}
use Rattle.label_rules.proofs.term.Asked.{asked-mask}
use Rattle.label_rules.proofs.laws.ProductTrees.{product_stream}
use Rattle.label_rules.proofs.laws.ScanLaw.{scan-gives}
use Rattle.label_rules.proofs.laws.RepeatLaw.{repeat-gives}
use Rattle.label_rules.proofs.laws.IntersectLaw.{intersect-law}
use Rattle.label_rules.proofs.laws.ArrayLaw.{array-law}
use Rattle.label_rules.proofs.laws.ValueLaws.{root-gives, root-reference}
use Rattle.label_rules.specs.Named.{named, tree_level}
use Rattle.label_rules.specs.TermLabels.{empty_term, plan_at, met_labels, product_label, reference_label, bottom_label, full_mask, loop_count, factor_count}
use Rattle.label_rules.specs.Rules.{Allowed}
use Rattle.label_rules.specs.Holding.{Shallow, EachLabel, Keeps}

-- ---- labels that are given

pub one-alone : (l k : Label) → IsOneOf l (k ∷ []) → l ≡ k
one-alone l k (inl e) = e
one-alone l k (inr x) = absurd x

pub just-these : (ks ls : List Label) → PortsAllow (just_these ks) ls → ls ≡ ks
just-these [] [] x = refl
just-these [] (l ∷ ls) x = absurd x
just-these (k ∷ ks) [] x = absurd x
just-these (k ∷ ks) (l ∷ ls) x = let a = one-alone l k x.0 in let b = just-these ks ls x.1 in cc

-- ---- terms

all_at : {A : Type 0} (test : A → Bool) (xs : List A) (n : ℕ) (d : A) → list_all test xs ≡ true → n < length xs → test (get_or xs n d) ≡ true
all_at test [] n d e l = absurd (omega (arith, l))
all_at test (x ∷ xs) zero d e l = (and_parts (test x) (list_all test xs) e).0
all_at test (x ∷ xs) (suc n) d e l = all_at test xs n d (and_parts (test x) (list_all test xs) e).1 (omega (arith, l))

term_is : (p : Program) (es : List Entries) (ts : List Term) (n : ℕ) → n < length ts
    → (summand_at (summands_of p es ts) n).term ≡ term_data p es (eqb n 0) (get_or ts n empty_term)
term_is p es [] n l = absurd (omega (arith, l))
term_is p es (t ∷ ts) zero l = refl
term_is p es (t ∷ ts) (suc n) l =
    let e : eqb (suc n) 0 ≡ false = grind (arith, nat_tests) in
    ap (λ (s : Summand). s.term) (get_or-map (further_summand p es) ts n empty_term no_summand (omega (arith, l)))
    ∙ ap (λ b. term_data p es b (get_or ts n empty_term)) (sym e)

pub is_not : (b : Bool) → not b ≡ true → b ≡ false
is_not true e = sym e
is_not false e = refl

module _ (p : Program) (es : List Entries) (ok : accepted p ≡ true) (same : length es ≡ length p.tensors) where
  abbrev storages : List Ranked
  storages = storages_of p es

  abbrev stream : Label → List Token
  stream l = label_stream p es l

  pub matched : (t : ℕ) → t < length p.terms → Matches storages (term_at p es t) (plan_at p t)
  matched t l =
      subst (λ (d : TermData). Matches storages d (plan_at p t)) (sym (term_is p es p.terms t l))
      (plan-matches p es (eqb t 0) (get_or p.terms t empty_term) ok
      (all_at (term_fits p.tensors p.var_sizes p.left) p.terms t empty_term (accepted-terms p ok) l) same)

  pub depth_is : (tree : Tree) → (shape_of p es tree).depth ≡ tree_level tree
  depth_is Root = refl
  depth_is (Product t l m) = refl
  depth_is (Reduced t g f d) = refl
  depth_is (Joined n d) = refl
  depth_is (Beside n s d) = refl
  depth_is (Across n t d) = refl
  depth_is (Under t l m) = refl
  depth_is (UnderReduced t g d) = refl
  depth_is (UnderJoined n f d) = refl

  pub flows : (l : Label) → Shallow l → IsStream (stream l)
  flows l h = label_stream-IsStream p es l (let e = depth_is l.tree in let k = h.0 in omega (arith, e, k))

  all_flow : (ls : List Label) → EachLabel Shallow ls → AllStreams (map stream ls)
  all_flow [] h = tt
  all_flow (l ∷ ls) h = (flows l h.0, all_flow ls h.1)

  -- a block that gives these streams keeps the labels
  pub keeps : (k : Kind) (ins outs ins' outs' : List Label) → ins ≡ ins' → outs ≡ outs' → EachLabel Shallow outs'
      → Gives (meaning storages k) (map stream ins') (map stream outs') → Keeps storages stream Shallow k ins outs
  keeps k ins outs ins' outs' i o s g =
      subst (λ (x : List Label). Keeps storages stream Shallow k x outs) (sym i)
      (subst (λ (x : List Label). Keeps storages stream Shallow k ins' x) (sym o) (record { fits = g.fits; gives = g.made_of; each = s }))

  -- ---- a term's labels

  module _ (t : ℕ) (inside : t < length p.terms) where
    abbrev d_t : TermData
    d_t = term_at p es t

    m : Matches storages d_t (plan_at p t)
    m = matched t inside

    pub loops-are : loop_count p t ≡ length d_t.loops
    loops-are = ap (λ (xs : List Bool). length xs) m.marks ∙ length-map d_t.loops (λ l. l.1)

    -- the stream of a factor's reference
    enclosing-is : (d f : ℕ) → stream (reference_label p t d f) ≡ product_stream d_t d (final d_t d) (Rank f)
    enclosing-is zero f = sym (root-reference d_t (final d_t 0) f)
    enclosing-is (suc d) f = ap (λ (mask : List Bool). product_stream d_t (suc d) mask (Rank f)) (asked-mask storages d_t (plan_at p t) m d)

    pub full-is : (d : ℕ) (a : Attr) → stream (product_label p t (suc d) (full_mask p t d) a) ≡ product_stream d_t (suc d) (final d_t (suc d)) a
    full-is d a = ap (λ (mask : List Bool). product_stream d_t (suc d) mask a) (asked-mask storages d_t (plan_at p t) m d)

    pub scan-keeps : (tensor level d f : ℕ) (ins outs : List Label) → d < loop_count p t → f < factor_count p t → has_loop (plan_at p t) d f ≡ true
        → tensor ≡ (plan_access (plan_at p t) f).tensor → level ≡ suc (levels_before (plan_access (plan_at p t) f).has d)
        → ins ≡ reference_label p t d f ∷ [] → outs ≡ met_labels p t (suc d) (factors_mask (f ∷ [])) (f ∷ [])
        → Keeps storages stream Shallow (kind.Scan tensor level) ins outs
    scan-keeps tensor level d f ins outs deep small has is_tensor is_level i o =
        keeps (kind.Scan tensor level) ins outs _ _ i o ((shallow, omega arith), ((shallow, omega arith), tt))
        (subst (λ (n : ℕ). Gives (ScanKind (children_at (stored_at storages n) level)) ins_there outs_there) (sym is_tensor)
        (subst (λ (n : ℕ). Gives (ScanKind (children_at (stored_at storages (plan_access (plan_at p t) f).tensor) n)) ins_there outs_there) (sym is_level)
        (subst (λ (h : List Bool). Gives (ScanKind (children_at (stored_at storages (plan_access (plan_at p t) f).tensor) (suc (levels_before h d)))) ins_there outs_there)
        (sym (m.has f))
        (subst (λ (s : List Token). Gives (ScanKind children) (s ∷ []) outs_there) (sym (enclosing-is d f))
        (subst (λ (x : List Bool). Gives (ScanKind children) (product_stream d_t d (final d_t d) (Rank f) ∷ [])
        (product_stream d_t (suc d) x Coordinate ∷ product_stream d_t (suc d) x (Rank f) ∷ []))
        (sym (mask-one (length d_t.accesses) f below))
        (scan-gives d_t f d (stored_at storages (plan_access (plan_at p t) f).tensor) m.fit m.long m.few_loops (m.stored f below) below
        (sym (ap (λ (h : List Bool). get_or h d false) (m.has f)) ∙ has)))))))
      where
        below : f < length d_t.accesses
        below = let n = m.number in omega (arith, n, small)

        shallow : suc d ≤ 8
        shallow = let few = m.few_loops in let e = loops-are in omega (arith, few, e, deep)

        ins_there : Streams
        ins_there = stream (reference_label p t d f) ∷ []

        outs_there : Streams
        outs_there = map stream (met_labels p t (suc d) (factors_mask (f ∷ [])) (f ∷ []))

        children : Children
        children = children_at (stored_at storages (plan_access (plan_at p t) f).tensor) (suc (levels_before (access_at d_t.accesses f).has d))

    pub repeat-keeps : (d f : ℕ) (ins outs : List Label) → d < loop_count p t → has_loop (plan_at p t) d f ≡ false
        → ins ≡ product_label p t (suc d) (full_mask p t d) Coordinate ∷ reference_label p t d f ∷ []
        → outs ≡ product_label p t (suc d) (full_mask p t d) (Rank f) ∷ []
        → Keeps storages stream Shallow kind.Repeat ins outs
    repeat-keeps d f ins outs deep lacks i o =
        keeps kind.Repeat ins outs _ _ i o ((shallow, omega arith), tt)
        (rw (enclosing-is d f, full-is d Coordinate, full-is d (Rank f))
        (repeat-gives d_t f d (omega (arith, shallow)) (sym (ap (λ (h : List Bool). get_or h d false) (m.has f)) ∙ lacks)))
      where
        shallow : suc d ≤ 8
        shallow = let few = m.few_loops in let e = loops-are in omega (arith, few, e, deep)

    side-is : (l mask : ℕ) (fs : List ℕ) → map stream (met_labels p t l mask fs)
        ≡ product_stream d_t l (bits (length d_t.accesses) mask) Coordinate ∷ map (λ f. product_stream d_t l (bits (length d_t.accesses) mask) (Rank f)) fs
    side-is l mask fs =
        ap (λ (ss : Streams). product_stream d_t l (bits (length d_t.accesses) mask) Coordinate ∷ ss)
        (map-map stream (λ f. product_label p t l mask (Rank f)) fs)

    side_shallow : (l mask : ℕ) (fs : List ℕ) → (l ≤ 8) × (0 < l) → EachLabel Shallow (map (λ f. product_label p t l mask (Rank f)) fs)
    side_shallow l mask [] h = tt
    side_shallow l mask (f ∷ fs) h = (h, side_shallow l mask fs h)

    pub intersect-keeps : (l r d M N : ℕ) (fs gs : List ℕ) (ins outs : List Label) → suc d ≤ 8 → l ≡ length fs → r ≡ length gs
        → ins ≡ met_labels p t (suc d) M fs ++ met_labels p t (suc d) N gs → outs ≡ met_labels p t (suc d) (bit_or M N) (fs ++ gs)
        → Keeps storages stream Shallow (kind.Intersect l r) ins outs
    intersect-keeps l r d M N fs gs ins outs shallow is_l is_r i o =
        keeps (kind.Intersect l r) ins outs _ _ i o ((shallow, omega arith), side_shallow (suc d) (bit_or M N) (fs ++ gs) (shallow, omega arith))
        (subst (λ (n : ℕ). Gives (IntersectKind n r) (map stream (met_labels p t (suc d) M fs ++ met_labels p t (suc d) N gs)) (map stream (met_labels p t (suc d) (bit_or M N) (fs ++ gs))))
        (sym is_l)
        (subst (λ (n : ℕ). Gives (IntersectKind (length fs) n) (map stream (met_labels p t (suc d) M fs ++ met_labels p t (suc d) N gs)) (map stream (met_labels p t (suc d) (bit_or M N) (fs ++ gs))))
        (sym is_r)
        (gives-same (IntersectKind (length fs) (length gs)) _ _ _ _ (sym ins_there) (sym outs_there)
        (intersect-law d_t d (bits (length d_t.accesses) M) (bits (length d_t.accesses) N) fs gs (omega (arith, shallow))))))
      where
        ins_there : map stream (met_labels p t (suc d) M fs ++ met_labels p t (suc d) N gs)
            ≡ (product_stream d_t (suc d) (bits (length d_t.accesses) M) Coordinate ∷ map (λ f. product_stream d_t (suc d) (bits (length d_t.accesses) M) (Rank f)) fs)
            ++ (product_stream d_t (suc d) (bits (length d_t.accesses) N) Coordinate ∷ map (λ f. product_stream d_t (suc d) (bits (length d_t.accesses) N) (Rank f)) gs)
        ins_there =
            map-append stream (met_labels p t (suc d) M fs) (met_labels p t (suc d) N gs)
            ∙ ap (λ (ss : Streams). ss ++ map stream (met_labels p t (suc d) N gs)) (side-is (suc d) M fs)
            ∙ ap (λ (ss : Streams). (product_stream d_t (suc d) (bits (length d_t.accesses) M) Coordinate
            ∷ map (λ f. product_stream d_t (suc d) (bits (length d_t.accesses) M) (Rank f)) fs) ++ ss) (side-is (suc d) N gs)

        outs_there : map stream (met_labels p t (suc d) (bit_or M N) (fs ++ gs))
            ≡ product_stream d_t (suc d) (any_of (bits (length d_t.accesses) M) (bits (length d_t.accesses) N)) Coordinate
            ∷ map (λ f. product_stream d_t (suc d) (any_of (bits (length d_t.accesses) M) (bits (length d_t.accesses) N)) (Rank f)) (fs ++ gs)
        outs_there =
            side-is (suc d) (bit_or M N) (fs ++ gs)
            ∙ ap (λ (mask : List Bool). product_stream d_t (suc d) mask Coordinate ∷ map (λ f. product_stream d_t (suc d) mask (Rank f)) (fs ++ gs))
            (bits-any_of (length d_t.accesses) M N)

    pub array-keeps : (tensor f : ℕ) (ins outs : List Label) → f < factor_count p t → tensor ≡ (plan_access (plan_at p t) f).tensor
        → ins ≡ bottom_label p t (Rank f) ∷ [] → outs ≡ bottom_label p t (FactorValue f) ∷ []
        → Keeps storages stream Shallow (kind.Array tensor) ins outs
    array-keeps tensor f ins outs small is_tensor i o =
        keeps (kind.Array tensor) ins outs _ _ i o ((shallow, omega (arith, some_loops)), tt)
        (subst (λ (n : ℕ). Gives (ArrayKind (stored_at storages n).values) (stream (bottom_label p t (Rank f)) ∷ []) (stream (bottom_label p t (FactorValue f)) ∷ []))
        (sym is_tensor)
        (subst (λ (s : List Token). Gives (ArrayKind (stored_at storages (plan_access (plan_at p t) f).tensor).values) (s ∷ []) (stream (bottom_label p t (FactorValue f)) ∷ []))
        (sym (all-is (Rank f)))
        (subst (λ (s : List Token). Gives (ArrayKind (stored_at storages (plan_access (plan_at p t) f).tensor).values)
        (product_stream d_t (length d_t.loops) (final d_t (length d_t.loops)) (Rank f) ∷ []) (s ∷ []))
        (sym (all-is (FactorValue f)))
        (array-law d_t f (stored_at storages (plan_access (plan_at p t) f).tensor) m.fit m.few_loops (m.stored f below) below))))
      where
        below : f < length d_t.accesses
        below = let n = m.number in omega (arith, n, small)

        shallow : loop_count p t ≤ 8
        shallow = let few = m.few_loops in let e = loops-are in omega (arith, few, e)

        some_loops : 0 < loop_count p t
        some_loops = let some = m.some_loop in let e = loops-are in omega (arith, some, e)

        last_loop : suc (loop_count p t - 1) ≡ loop_count p t
        last_loop = let some = m.some_loop in let e = loops-are in omega (arith, some, e)

        all-is : (a : Attr) → stream (bottom_label p t a) ≡ product_stream d_t (length d_t.loops) (final d_t (length d_t.loops)) a
        all-is a =
            ap (λ (n : ℕ). stream (product_label p t n (full_mask p t (loop_count p t - 1)) a)) (sym last_loop)
            ∙ full-is (loop_count p t - 1) a
            ∙ ap (λ (n : ℕ). product_stream d_t n (final d_t n) a) (last_loop ∙ loops-are)

  -- ---- the rules

  -- the rules that are treated here
  abbrev pub Covered : Kind → Type 0
  Covered kind.Root = Unit {0}
  Covered (kind.Scan tensor level) = Unit {0}
  Covered kind.Repeat = Unit {0}
  Covered (kind.Cast n) = Unit {0}
  Covered kind.Drain = Unit {0}
  Covered (kind.Intersect l r) = Unit {0}
  Covered (kind.Array tensor) = Unit {0}
  Covered other = ⊥

  copies_from : (s : List Token) (l : Label) (outs : List Label) (n : ℕ) → stream l ≡ s → map stream (map (λ _. l) outs) ≡ over (λ _. s) n (length outs)
  copies_from s l [] n e = refl
  copies_from s l (k ∷ outs) n e = let r = copies_from s l outs (suc n) e in cc

  copied : (l : Label) (outs : List Label) → map stream (map (λ _. l) outs) ≡ cast_outputs (length outs) (stream l)
  copied l outs = copies_from (stream l) l outs 0 refl

  each_shallow : (l : Label) (outs : List Label) → Shallow l → EachLabel Shallow (map (λ _. l) outs)
  each_shallow l [] h = tt
  each_shallow l (k ∷ outs) h = (h, each_shallow l outs h)

  pub first_shallow : (l : Label) (ls : List Label) (ins : List Label) → ins ≡ l ∷ ls → EachLabel Shallow ins → Shallow l
  first_shallow l ls ins e h = (subst (EachLabel Shallow) e h).0

  pub covered-sound : (k : Kind) → Covered k → (ins outs : List Label) → Allowed p k ins outs → EachLabel Shallow ins → Keeps storages stream Shallow k ins outs
  covered-sound kind.Root c ins outs a h =
      keeps kind.Root ins outs [] (no_label ∷ []) (just-these [] ins a.ins_are) a.outs_are ((omega arith, tt), tt) root-gives
  covered-sound (kind.Scan tensor level) c ins outs a h =
      let x = named 0 ins outs in
      let d = x.level - 1 in
      let f = x.factor in
      let one = and_parts _ _ a.holds in
      let two = and_parts _ _ one.1 in
      let three = and_parts _ _ two.1 in
      let four = and_parts _ _ three.1 in
      let five = and_parts _ _ four.1 in
      scan-keeps x.term (ltb-true x.term (length p.terms) one.0) tensor level d f ins outs
      (ltb-true d (loop_count p x.term) two.0) (ltb-true f (factor_count p x.term) three.0) four.0
      (eqb-true tensor (plan_access (plan_at p x.term) f).tensor five.0)
      (eqb-true level (suc (levels_before (plan_access (plan_at p x.term) f).has d)) five.1)
      (just-these (reference_label p x.term d f ∷ []) ins a.ins_are) a.outs_are
  covered-sound kind.Repeat c ins outs a h =
      let x = named 0 ins outs in
      let d = x.level - 1 in
      let f = x.factor in
      let one = and_parts _ _ a.holds in
      let two = and_parts _ _ one.1 in
      let three = and_parts _ _ two.1 in
      repeat-keeps x.term (ltb-true x.term (length p.terms) one.0) d f ins outs (ltb-true d (loop_count p x.term) two.0)
      (is_not (has_loop (plan_at p x.term) d f) three.1)
      (just-these (product_label p x.term (suc d) (full_mask p x.term d) Coordinate ∷ reference_label p x.term d f ∷ []) ins a.ins_are) a.outs_are
  covered-sound (kind.Cast n) c ins outs a h =
      let l = port_label ins 0 in
      let i : ins ≡ l ∷ [] = just-these (l ∷ []) ins a.ins_are in
      keeps (kind.Cast n) ins outs (l ∷ []) (map (λ _. l) outs) i a.outs_are
      (each_shallow l outs (first_shallow l [] ins i h))
      (subst (λ (m : ℕ). Gives (CastKind m) (stream l ∷ []) (map stream (map (λ _. l) outs))) (eqb-true (length outs) n a.holds)
      (subst (λ (ss : Streams). Gives (CastKind (length outs)) (stream l ∷ []) ss) (sym (copied l outs))
      (cast-gives (length outs) (stream l) (flows l (first_shallow l [] ins i h), tt))))
  covered-sound kind.Drain c ins outs a h =
      let l = port_label ins 0 in
      let i : ins ≡ l ∷ [] = just-these (l ∷ []) ins a.ins_are in
      keeps kind.Drain ins outs (l ∷ []) [] i a.outs_are tt (drain-gives (stream l) (flows l (first_shallow l [] ins i h), tt))
  covered-sound (kind.Intersect l r) c ins outs a h =
      let x = named l ins outs in
      let one = and_parts _ _ a.holds in
      let two = and_parts _ _ one.1 in
      let i : ins ≡ met_labels p x.term x.level x.left x.these ++ met_labels p x.term x.level x.right x.those =
      just-these (met_labels p x.term x.level x.left x.these ++ met_labels p x.term x.level x.right x.those) ins a.ins_are in
      let s : Shallow (product_label p x.term x.level x.left Coordinate) = first_shallow _ _ ins i h in
      let low = s.0 in
      let some = s.1 in
      let e : x.level ≡ suc (x.level - 1) = omega (arith, some) in
      intersect-keeps x.term (ltb-true x.term (length p.terms) one.0) l r (x.level - 1) x.left x.right x.these x.those ins outs
      (omega (arith, low, e))
      (eqb-true l (length x.these) two.0) (eqb-true r (length x.those) two.1)
      (i ∙ ap (λ (n : ℕ). met_labels p x.term n x.left x.these ++ met_labels p x.term n x.right x.those) e)
      (a.outs_are ∙ ap (λ (n : ℕ). met_labels p x.term n (bit_or x.left x.right) (x.these ++ x.those)) e)
  covered-sound (kind.Array tensor) c ins outs a h =
      let x = named 0 ins outs in
      let f = x.factor in
      let one = and_parts _ _ a.holds in
      let two = and_parts _ _ one.1 in
      array-keeps x.term (ltb-true x.term (length p.terms) one.0) tensor f ins outs (ltb-true f (factor_count p x.term) two.0)
      (eqb-true tensor (plan_access (plan_at p x.term) f).tensor two.1)
      (just-these (bottom_label p x.term (Rank f) ∷ []) ins a.ins_are) a.outs_are
  covered-sound kind.Mul c ins outs a h = absurd c
  covered-sound kind.Add c ins outs a h = absurd c
  covered-sound kind.Sub c ins outs a h = absurd c
  covered-sound (kind.Union l r) c ins outs a h = absurd c
  covered-sound (kind.Const n) c ins outs a h = absurd c
  covered-sound kind.SumScalar c ins outs a h = absurd c
  covered-sound kind.SumVector c ins outs a h = absurd c
  covered-sound kind.SumMatrix c ins outs a h = absurd c
  covered-sound kind.DropValue c ins outs a h = absurd c
  covered-sound kind.DropFiber c ins outs a h = absurd c
  covered-sound (kind.Fill n) c ins outs a h = absurd c
  covered-sound (kind.WriteLevel d) c ins outs a h = absurd c
  covered-sound kind.WriteValue c ins outs a h = absurd c
