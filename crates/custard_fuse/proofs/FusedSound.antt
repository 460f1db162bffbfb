-- The rules of fused graphs are sound: a block with allowed labels gives the streams of its outputs' labels from those of its inputs'.
use Rattle.std.specs.Prelude.{◌≡◌, ◌<◌, ◌≤◌, ℕ, zero, suc, ◌-◌, ◌*◌, ◌%◌, ◌^◌, Bool, true, false, cond, ◌&&◌, ◌||◌, List, [], ◌∷◌, ◌++◌, length, take, get_or, slice_index, eqb, ltb, leb, Some, None, refl}
use Rattle.std.specs.Int.Bits.{bit_or}
use Rattle.std.specs.List.{range_with_len}
use mathlib.Core.List.{map}
use Rattle.std.proofs.Common.{arith, sym, ◌∙◌, ap, subst, length-append, length-take-le, append-nil, take_all, inl, inr}
use Rattle.std.proofs.lemmas.Bool.{and_parts, ltb-true, eqb-true, leb-true}
use Rattle.std.proofs.lemmas.Bool.Decides.{nat_tests}
use Rattle.std.proofs.lemmas.List.{get_or-map, length-map, map-append}
use Rattle.std.proofs.lemmas.List.FromFn.{length-range_with_len}
use Rattle.stream_tokens.specs.declared.Token.{Token}
use Rattle.stream_tokens.specs.Nest.{IsStream}
use Rattle.stream_tokens.proofs.Algebra.{map-map}
use Rattle.sam_model.specs.declared.tensors.Entries.{Entries}
use Rattle.sam_model.specs.declared.program.Term.{Term}
use Rattle.sam_model.specs.declared.program.Program.{Program}
use Rattle.sam_model.specs.Program.{accepted}
use Rattle.sam_model.specs.Children.{Ranked}
use Rattle.sam_model.specs.Lists.{below}
use Rattle.sam_model.specs.Denote.{Loop}
use Rattle.stream_model.specs.declared.labels.Attr.{Attr}
use Rattle.stream_model.specs.declared.labels.Attr.TheVariants.{Coordinate, Rank, FactorValue, Partial, Whole, Value, Literal}
use Rattle.stream_model.specs.declared.labels.Label.{Label}
use Rattle.stream_model.specs.declared.labels.Tree.{Tree}
use Rattle.stream_model.specs.declared.labels.Tree.TheVariants.{Root, Product, Reduced, Joined, Beside, Across, Under, UnderReduced, UnderJoined}
use Rattle.stream_model.specs.Grow.{path_fibers}
use Rattle.stream_model.specs.Terms.{Operand, TermData, Summand, summands, summands_of, summand_at, no_summand, further_summand, access_at, partial_product, whole_product}
use Rattle.stream_model.specs.Trees.{in_whole, in_reduced, value_reduced, value_term, reduced_sizes, free_count, begins_value}
use Rattle.stream_model.specs.Joins.{join_upto, signed, negated}
use Rattle.stream_model.specs.Reduction.{Reduces}
use Rattle.stream_model.specs.Fused.{shared_levels, in_any, in_under_reduced, in_under_joined}
use Rattle.stream_model.specs.Labels.{last, loop_sizes, bits, only_where, shape_of, label_stream, stream_at, term_at, result_sizes}
use Rattle.stream_model.specs.Masks.{final, levels_before}
use Rattle.stream_model.specs.Tellings.{Prefixes, Telling, told, coordinate}
use Rattle.stream_model.proofs.Bridges.{partial-more, whole-partial}
use Rattle.stream_model.proofs.Numbers.{bits-any_of}
use Rattle.stream_model.proofs.Levels.{told-stream}
use Rattle.stream_model.proofs.Reduced.{kept-before}
use Rattle.stream_model.proofs.Streams.{label_stream-IsStream}
use Rattle.stream_model.proofs.Sums.{plus-none}
use Rattle.block_core.specs.Arithmetic.{Times, combined_leaf}
use Rattle.block_core.specs.Move.{over}
use Rattle.block_core.specs.Ports.{Streams}
use Rattle.block_core.specs.Kind.{ScanKind, IntersectKind, UnionKind, ArrayKind, AluKind, ConstKind, CastKind, SumScalarKind, DropValueKind, DropFiberKind, WriteLevelKind}
use Rattle.block_core.proofs.Given.{Gives, cast-gives, drain-gives, writevalue-gives}
use Rattle.levels.specs.Reads.{children_at}
use Rattle.graph.specs.declared.graphs.Kind.{Kind}
use Rattle.graph.specs.declared.graphs.Kind.TheVariants as kind
use Rattle.graph.specs.Meaning.{meaning, stored_at}
use Rattle.stream_tokens.specs.Shapes.{Each}
use Rattle.stream_model.proofs.Results.{accepted-sized}
use Rattle.label_rules.specs.declared.plans.Plan.{Plan}
use Rattle.label_rules.specs.Labels.{tree_label, no_label, IsOneOf, PortsAllow, port_label, same_label}
use Rattle.label_rules.specs.Masks.{factors_mask}
use Rattle.label_rules.specs.Named.{tree_level, named}
use Rattle.label_rules.specs.Plans.{plan_access, has_loop, free_marks}
use Rattle.label_rules.specs.Storages.{storages_of}
use Rattle.label_rules.specs.TermLabels.{empty_term, plan_at, is_term, loop_count, factor_count, free_loop_count, plan_coefficient, full_mask, left_after}
use Rattle.label_rules.specs.Rules.{Instance, is_further}
use Rattle.label_rules.specs.Holding.{EachLabel, Keeps, RulesSound}
use Rattle.label_rules.proofs.term.Matching.{Matches}
use Rattle.label_rules.proofs.term.Marks.{marks, free-marks, counted-marks}
use Rattle.label_rules.proofs.term.MaskNumbers.{mask-one}
use Rattle.label_rules.proofs.rules.TermRules.{matched, just-these, one-alone, is_not}
use Rattle.label_rules.proofs.rules.SumRule.{coefficient-is}
use Rattle.label_rules.proofs.rules.DropRules.{free-is}
use Rattle.label_rules.proofs.rules.Splits.{Split, split}
use Rattle.label_rules.proofs.rules.FillRules.{one-ranged}
use Rattle.label_rules.proofs.rules.JoinRules.{first_sign}
use Rattle.label_rules.proofs.laws.ItemStreams.{gives-same, on_leaf}
use Rattle.label_rules.proofs.laws.ArrayLaw.{factors}
use Rattle.label_rules.proofs.laws.ValueLaws.{root-gives, alu-law, const-law}
use Rattle.label_rules.proofs.laws.JoinValues.{joining}
use Rattle.label_rules.proofs.laws.JoinSides.{sized-at}
use Rattle.label_rules.proofs.laws.WriterLaw.{level-written}
use Rattle.label_rules.proofs.shared.UnderLaws.{references, in_frame, under_stream, under-scan, under-repeat, under-intersect, side_labels, under-array}
use Rattle.label_rules.proofs.shared.AcrossLaws.{across_side, under_side, across-union}
use Rattle.label_rules.proofs.shared.EndLaws.{under-sum, fused-sum, fused-dropvalue, fused-dropfiber}
use Rattle.label_rules.proofs.shared.FusedValues.{product-where, first-across}
use Rattle.custard_fuse.specs.Sharing.{all_factors, across_label, rank_labels, across_labels}
use Rattle.custard_fuse.specs.Fusing.{plans_of, is_fused}
use Rattle.custard_fuse.specs.FusedRules.{under_mask, under_gone, across_upto, under_label, under_labels, whole_labels, fused_reference, level_label, fused_bottom, fused_products, fused_values, term_values, sum_label, values_upto, before_labels, FusedAllowed, Deep}
use Rattle.custard_fuse.proofs.FusedPlans.{several, some-levels, levels-shared, levels-within, after-shared, free-others}
use Rattle.custard_fuse.proofs.FusedTerms.{founded, all-terms, as-many, begins, each-sized, alike-paths, frame-joint, reduced-frame}
use Rattle.custard_fuse.proofs.FusedLabels.{loops-long, mask-is, fs, reference-is, level-is, of_factor, of_product, of_number, rank-is, factor-is, whole-is, number-is, products-alike, reduced_values, values-alike, told-alike}
use Rattle.custard_fuse.proofs.FusedUnions.{pairs, ranks-are, pairs-length, pairs-early, pairs-more, plans-count, plans-more}

-- the labels at two ports
two : (cs ds : List Label) (ins : List Label) → PortsAllow (cs ∷ ds ∷ []) ins
    → (a : Label) × (b : Label) × (ins ≡ a ∷ b ∷ []) × IsOneOf a cs × IsOneOf b ds
two cs ds [] x = absurd x
two cs ds (a ∷ []) x = absurd x.1
two cs ds (a ∷ b ∷ []) x = (a, b, refl, x.0, x.1.0)
two cs ds (a ∷ b ∷ c ∷ ins) x = absurd x.1.1

module _ (p : Program) (ok : accepted p ≡ true) (fused : is_fused p ≡ true) (es : List Entries) (same : length es ≡ length p.tensors) where
  abbrev storages : List Ranked
  storages = storages_of p es

  abbrev stream : Label → List Token
  stream l = label_stream p es l

  abbrev ss : List Summand
  ss = summands p es

  abbrev sizes : List ℕ
  sizes = result_sizes p

  abbrev levels : ℕ
  levels = shared_levels p

  there : in_any ss [] ≡ true
  there = founded p ok fused es same

  abbrev Kept : Kind → List Label → List Label → Type 0
  Kept k ins outs = Keeps storages stream Deep k ins outs

  -- a block that gives these streams keeps the labels
  keeps : (k : Kind) (ins outs ins' outs' : List Label) → ins ≡ ins' → outs ≡ outs' → EachLabel Deep outs'
      → Gives (meaning storages k) (map stream ins') (map stream outs') → Kept k ins outs
  keeps k ins outs ins' outs' i o s g =
      subst (λ (x : List Label). Kept k x outs) (sym i)
      (subst (λ (x : List Label). Kept k ins' x) (sym o) (record { fits = g.fits; gives = g.made_of; each = s }))

  depth_is : (tree : Tree) → (shape_of p es tree).depth ≡ tree_level tree
  depth_is Root = refl
  depth_is (Product t l m) = refl
  depth_is (Reduced t g f d) = refl
  depth_is (Joined n d) = refl
  depth_is (Beside n s d) = refl
  depth_is (Across n t d) = refl
  depth_is (Under t l m) = refl
  depth_is (UnderReduced t g d) = refl
  depth_is (UnderJoined n f d) = refl

  flows : (l : Label) → Deep l → IsStream (stream l)
  flows l d = label_stream-IsStream p es l (let e = depth_is l.tree in omega (arith, e, d))

  few-levels : levels ≤ 8
  few-levels =
      let a = levels-within p ok fused 0 (let k = several p ok fused in omega (arith, k)) in
      let m = matched p es ok same 0 (let k = several p ok fused in omega (arith, k)) in
      let b = m.few_loops in
      let c = loops-long p ok fused es same 0 (let k = several p ok fused in omega (arith, k)) in
      omega (arith, a, b, c)

  -- ---- a term's blocks

  module _ (n : ℕ) (inside : n < length p.terms) where
    abbrev t : TermData
    t = term_at p es n

    m : Matches storages t (plan_at p n)
    m = matched p es ok same n inside

    abbrev M : ℕ
    M = loop_count p n

    long : M ≡ length t.loops
    long = loops-long p ok fused es same n inside

    short : M ≤ 8
    short = let a = m.few_loops in let b = long in omega (arith, a, b)

    abbrev refs : ℕ → ℕ → List Token
    refs d f = references levels ss there t d f

    has_is : (d f : ℕ) (b : Bool) → has_loop (plan_at p n) d f ≡ b → get_or (access_at t.accesses f).has d false ≡ b
    has_is d f b e = sym (ap (λ (x : List Bool). get_or x d false) (m.has f)) ∙ e

    below_many : (f : ℕ) → f < factor_count p n → f < length t.accesses
    below_many f l = let k = m.number in omega (arith, k, l)

    scan-kept : (tensor level d f : ℕ) (ins outs : List Label) → d < M → f < factor_count p n → has_loop (plan_at p n) d f ≡ true
        → tensor ≡ (plan_access (plan_at p n) f).tensor → level ≡ suc (levels_before (plan_access (plan_at p n) f).has d)
        → ins ≡ fused_reference p n d f ∷ [] → outs ≡ under_labels p n (suc d) (factors_mask (f ∷ [])) (f ∷ [])
        → Kept (kind.Scan tensor level) ins outs
    scan-kept tensor level d f ins outs deep small has is_tensor is_level i o =
        let s = short in
        let inside_f = below_many f small in
        keeps (kind.Scan tensor level) ins outs _ _ i o (omega (arith, deep, s), (omega (arith, deep, s), tt))
        (subst (λ (k : ℕ). Gives (ScanKind (children_at (stored_at storages k) level)) ins_there outs_there) (sym is_tensor)
        (subst (λ (k : ℕ). Gives (ScanKind (children_at (stored_at storages (plan_access (plan_at p n) f).tensor) k)) ins_there outs_there) (sym is_level)
        (subst (λ (x : List Bool). Gives (ScanKind (children_at (stored_at storages (plan_access (plan_at p n) f).tensor) (suc (levels_before x d)))) ins_there outs_there)
        (sym (m.has f))
        (gives-same (ScanKind (children_at (stored_at storages (plan_access (plan_at p n) f).tensor) (suc (levels_before (access_at t.accesses f).has d))))
        _ _ _ _
        (ap (λ (x : List Token). x ∷ []) (sym (reference-is p ok fused es same n inside d f)))
        (ap (λ (x : List Bool). under_stream levels ss there t (suc d) x Coordinate ∷ under_stream levels ss there t (suc d) x (Rank f) ∷ [])
        (sym (mask-one (length t.accesses) f inside_f)))
        (under-scan levels ss there t f d (stored_at storages (plan_access (plan_at p n) f).tensor) m.fit m.long (omega (arith, deep, s))
        (m.stored f inside_f) inside_f (has_is d f true has))))))
      where
        ins_there : Streams
        ins_there = stream (fused_reference p n d f) ∷ []

        outs_there : Streams
        outs_there = map stream (under_labels p n (suc d) (factors_mask (f ∷ [])) (f ∷ []))

    full-is : (d : ℕ) (a : Attr) → stream (under_label p n (suc d) (full_mask p n d) a) ≡ under_stream levels ss there t (suc d) (final t (suc d)) a
    full-is d a = ap (λ (x : List Bool). under_stream levels ss there t (suc d) x a) (mask-is p ok fused es same n inside d)

    repeat-kept : (d f : ℕ) (ins outs : List Label) → d < M → has_loop (plan_at p n) d f ≡ false
        → ins ≡ under_label p n (suc d) (full_mask p n d) Coordinate ∷ fused_reference p n d f ∷ []
        → outs ≡ under_label p n (suc d) (full_mask p n d) (Rank f) ∷ []
        → Kept kind.Repeat ins outs
    repeat-kept d f ins outs deep lacks i o =
        let s = short in
        keeps kind.Repeat ins outs _ _ i o (omega (arith, deep, s), tt)
        (gives-same _ _ _ _ _
        (rw (full-is d Coordinate, reference-is p ok fused es same n inside d f) refl)
        (ap (λ (x : List Token). x ∷ []) (sym (full-is d (Rank f))))
        (under-repeat levels ss there t f d (omega (arith, deep, s)) (has_is d f false lacks)))

    side_is : (l mask : ℕ) (fs : List ℕ) → map stream (under_labels p n l mask fs)
        ≡ under_stream levels ss there t l (bits (length t.accesses) mask) Coordinate
        ∷ map (λ f. under_stream levels ss there t l (bits (length t.accesses) mask) (Rank f)) fs
    side_is l mask fs =
        ap (λ (x : Streams). under_stream levels ss there t l (bits (length t.accesses) mask) Coordinate ∷ x)
        (map-map stream (λ f. under_label p n l mask (Rank f)) fs)

    each_deep : (l mask : ℕ) (fs : List ℕ) → l ≤ 8 → EachLabel Deep (map (λ f. under_label p n l mask (Rank f)) fs)
    each_deep l mask [] h = tt
    each_deep l mask (f ∷ fs) h = (h, each_deep l mask fs h)

    intersect-kept : (l r d A B : ℕ) (ks gs : List ℕ) (ins outs : List Label) → d < M → l ≡ length ks → r ≡ length gs
        → ins ≡ under_labels p n (suc d) A ks ++ under_labels p n (suc d) B gs → outs ≡ under_labels p n (suc d) (bit_or A B) (ks ++ gs)
        → Kept (kind.Intersect l r) ins outs
    intersect-kept l r d A B ks gs ins outs deep is_l is_r i o =
        let s = short in
        keeps (kind.Intersect l r) ins outs _ _ i o (omega (arith, deep, s), each_deep (suc d) (bit_or A B) (ks ++ gs) (omega (arith, deep, s)))
        (subst (λ (k : ℕ). Gives (IntersectKind k r) (map stream (under_labels p n (suc d) A ks ++ under_labels p n (suc d) B gs)) (map stream (under_labels p n (suc d) (bit_or A B) (ks ++ gs))))
        (sym is_l)
        (subst (λ (k : ℕ). Gives (IntersectKind (length ks) k) (map stream (under_labels p n (suc d) A ks ++ under_labels p n (suc d) B gs)) (map stream (under_labels p n (suc d) (bit_or A B) (ks ++ gs))))
        (sym is_r)
        (gives-same (IntersectKind (length ks) (length gs)) _ _ _ _
        (sym (map-append stream (under_labels p n (suc d) A ks) (under_labels p n (suc d) B gs)
        ∙ ap (λ (x : Streams). x ++ map stream (under_labels p n (suc d) B gs)) (side_is (suc d) A ks)
        ∙ ap (λ (x : Streams). side_labels levels ss there t d (bits (length t.accesses) A) ks ++ x) (side_is (suc d) B gs)))
        (sym (side_is (suc d) (bit_or A B) (ks ++ gs)
        ∙ ap (λ (x : List Bool). side_labels levels ss there t d x (ks ++ gs)) (bits-any_of (length t.accesses) A B)))
        (under-intersect levels ss there t d (bits (length t.accesses) A) (bits (length t.accesses) B) ks gs (omega (arith, deep, s))))))

    -- ---- values

    bottom_deep : (a : Attr) → Deep (fused_bottom p n a)
    bottom_deep a = by_case (eqb M levels)
      where
        by_case : (b : Bool) → tree_level (cond b (Across (length p.terms - 1) n levels) (Under n M (full_mask p n (M - 1)))) ≤ 8
        by_case true = few-levels
        by_case false = short

    array-kept : (tensor f : ℕ) (ins outs : List Label) → f < factor_count p n → tensor ≡ (plan_access (plan_at p n) f).tensor
        → ins ≡ fused_bottom p n (Rank f) ∷ [] → outs ≡ fused_bottom p n (FactorValue f) ∷ [] → Kept (kind.Array tensor) ins outs
    array-kept tensor f ins outs small is_tensor i o =
        let inside_f = below_many f small in
        let few = m.few_loops in
        keeps (kind.Array tensor) ins outs _ _ i o (bottom_deep (FactorValue f), tt)
        (subst (λ (k : ℕ). Gives (ArrayKind (stored_at storages k).values) (stream (fused_bottom p n (Rank f)) ∷ []) (stream (fused_bottom p n (FactorValue f)) ∷ []))
        (sym is_tensor)
        (subst (λ (r : Ranked). Gives (ArrayKind r.values) (stream (fused_bottom p n (Rank f)) ∷ []) (stream (fused_bottom p n (FactorValue f)) ∷ []))
        (sym (m.stored f inside_f))
        (gives-same _ _ _ _ _
        (ap (λ (x : List Token). x ∷ []) (sym (rank-is p ok fused es same n inside f)))
        (ap (λ (x : List Token). x ∷ []) (ap (λ (k : ℕ). told (of_factor p ok fused es same n inside f) (fs p ok fused es same n inside k)) (sym long)
        ∙ sym (factor-is p ok fused es same n inside f)))
        (under-array levels ss there t f m.fit (omega (arith, few)) inside_f))))

    -- two values, and what an operation makes of them where the term has the prefix
    product_of_two : (x y z : Telling) → ((q : List ℕ) → combined_leaf Times (x q) (y q) ≡ z q)
        → Gives (AluKind Times)
        (told (only_where (in_whole t) x) (fs p ok fused es same n inside M) ∷ told (only_where (in_whole t) y) (fs p ok fused es same n inside M) ∷ [])
        (told (only_where (in_whole t) z) (fs p ok fused es same n inside M) ∷ [])
    product_of_two x y z e =
        let s = short in
        gives-same (AluKind Times) _ _ _ _ refl
        (ap (λ (w : List Token). w ∷ [])
        (told-alike (λ q. combined_leaf Times (only_where (in_whole t) x q) (only_where (in_whole t) y q)) (only_where (in_whole t) z) (fs p ok fused es same n inside M)
        (λ q. product-where (in_whole t) x y q ∙ ap (λ o. cond (in_whole t q) o None) (e q))))
        (alu-law Times (only_where (in_whole t) x) (only_where (in_whole t) y) (in_frame levels ss there t) (loop_sizes t.loops) M (omega (arith, s)))

    product-kept : (k : ℕ) (ins outs : List Label) → 0 < k → k < factor_count p n
        → PortsAllow (fused_products p n k ∷ (fused_bottom p n (FactorValue k) ∷ []) ∷ []) ins
        → outs ≡ fused_bottom p n (Partial (suc k)) ∷ [] → Kept kind.Mul ins outs
    product-kept k ins outs some less i o =
        let x = two (fused_products p n k) (fused_bottom p n (FactorValue k) ∷ []) ins i in
        let a = products-alike p ok fused es same n inside k x.0 x.3 in
        let b = ap stream (one-alone x.1 _ x.4) ∙ factor-is p ok fused es same n inside k in
        keeps kind.Mul ins outs (x.0 ∷ x.1 ∷ []) _ x.2 o (bottom_deep (Partial (suc k)), tt)
        (gives-same (AluKind Times) _ _ _ _ (rw (a, b) refl)
        (ap (λ (s : List Token). s ∷ []) (sym (products-alike p ok fused es same n inside (suc k) (fused_bottom p n (Partial (suc k))) (inl refl))))
        (product_of_two (λ q. Some (partial_product (take k t.accesses) q)) (factors t k) (λ q. Some (partial_product (take (suc k) t.accesses) q))
        (λ q. ap Some (sym (partial-more t.accesses k q (below_many k less))))))

    whole-kept : (ins outs : List Label)
        → PortsAllow (fused_products p n (factor_count p n) ∷ (fused_bottom p n (Literal (plan_coefficient p n)) ∷ []) ∷ []) ins
        → outs ≡ fused_bottom p n Whole ∷ [] → Kept kind.Mul ins outs
    whole-kept ins outs i o =
        let x = two (fused_products p n (factor_count p n)) (fused_bottom p n (Literal (plan_coefficient p n)) ∷ []) ins i in
        let a = products-alike p ok fused es same n inside (factor_count p n) x.0 x.3 in
        let b = ap stream (one-alone x.1 _ x.4) ∙ number-is p ok fused es same n inside (plan_coefficient p n) in
        let many = m.number in
        keeps kind.Mul ins outs (x.0 ∷ x.1 ∷ []) _ x.2 o (bottom_deep Whole, tt)
        (gives-same (AluKind Times) _ _ _ _ (rw (a, b) refl)
        (ap (λ (s : List Token). s ∷ []) (sym (whole-is p ok fused es same n inside)))
        (product_of_two (λ q. Some (partial_product (take (factor_count p n) t.accesses) q)) (λ q. Some (plan_coefficient p n)) (λ q. Some (whole_product t q))
        (λ q. ap Some
        (ap (λ (c : ℕ). (partial_product (take (factor_count p n) t.accesses) q * c) % 2 ^ 64) (coefficient-is p es ok same n inside)
        ∙ ap (λ (xs : List Operand). (partial_product xs q * t.coefficient) % 2 ^ 64) (take_all (factor_count p n) t.accesses (omega (arith, many)))
        ∙ sym (whole-partial t q)))))

    const-kept : (c : ℕ) (ins outs : List Label) → PortsAllow (fused_products p n (factor_count p n) ∷ []) ins
        → outs ≡ fused_bottom p n (Literal c) ∷ [] → Kept (kind.Const c) ins outs
    const-kept c [] outs i o = absurd i
    const-kept c (l ∷ k ∷ ins) outs i o = absurd i.1
    const-kept c (l ∷ []) outs i o =
        let s = short in
        keeps (kind.Const c) (l ∷ []) outs (l ∷ []) _ refl o (bottom_deep (Literal c), tt)
        (gives-same (ConstKind c) _ _ _ _
        (ap (λ (x : List Token). x ∷ []) (sym (products-alike p ok fused es same n inside (factor_count p n) l i.0)))
        (ap (λ (x : List Token). x ∷ [])
        (told-alike (λ q. on_leaf (λ _. c) (of_product p ok fused es same n inside (factor_count p n) q)) (of_number p ok fused es same n inside c) (fs p ok fused es same n inside M)
        (λ q. constant_where (in_whole t q) (partial_product (take (factor_count p n) t.accesses) q))
        ∙ sym (number-is p ok fused es same n inside c)))
        (const-law c (of_product p ok fused es same n inside (factor_count p n)) (in_frame levels ss there t) (loop_sizes t.loops) M (omega (arith, s))))
      where
        constant_where : (b : Bool) (x : ℕ) → on_leaf (λ _. c) (cond b (Some x) None) ≡ cond b (Some c) None
        constant_where true x = refl
        constant_where false x = refl

    -- ---- sums

    sum-kept : (g : ℕ) (ins outs : List Label) → g < free_loop_count p n → left_after g (plan_at p n).on_left ≡ 0
        → PortsAllow ((level_label p n (M - g - 1) ∷ []) ∷ fused_values p n g ∷ []) ins
        → outs ≡ tree_label (UnderReduced n (suc g) (M - g - 1)) Value ∷ [] → Kept kind.SumScalar ins outs
    sum-kept g ins outs some none i o =
        let s = short in
        keeps kind.SumScalar ins outs (x.0 ∷ x.1 ∷ []) _ x.2 o (omega (arith, s), tt)
        (gives-same SumScalarKind _ _ _ _
        (rw (
          ap stream (one-alone x.0 _ x.3) ∙ level-is p ok fused es same n inside (M - g - 1) ∙ ap (λ (k : ℕ). told coordinate (fs p ok fused es same n inside k)) n_is,
          values-alike p ok fused es same n inside g x.1 x.4 ∙ ap (reduced_values p ok fused es same n inside g) level_is,
          reduced-frame p ok fused es same n inside g (length r.before) r.before ((r.size, true) ∷ r.after) (kept-before t r.before r.size r.after g reduces) (omega arith),
          told-stream (value_reduced t g) (in_under_reduced levels ss t g) (reduced_sizes t g) (suc (length r.before)),
        ) refl)
        (ap (λ (d : ℕ). stream (tree_label (UnderReduced n (suc g) d) Value) ∷ []) (sym n_is))
        (under-sum levels ss there t r.before r.size r.after g reduces last_of shared_before (let f = n_is in omega (arith, f, s))))
      where
        last_of : List ℕ → ℕ
        last_of q = last q

        x : (a : Label) × (b : Label) × (ins ≡ a ∷ b ∷ []) × IsOneOf a (level_label p n (M - g - 1) ∷ []) × IsOneOf b (fused_values p n g)
        x = two (level_label p n (M - g - 1) ∷ []) (fused_values p n g) ins i

        r : Split g 0 t.loops
        r =
            split g 0 t.loops
            (let e = ap free_marks m.marks in let f = free-marks t.loops in omega (arith, some, e, f))
            (ap (left_after g) (sym m.marks) ∙ none)

        reduces : Reduces t r.before r.size r.after g
        reduces = record { loops_are = r.loops_are; gone = r.gone; few = m.few_loops }

        after_long : length r.after ≡ g
        after_long = let c = counted-marks r.after in let l = r.left in let f = r.gone in omega (arith, c, l, f)

        level_is : M - g ≡ suc (length r.before)
        level_is =
            let e = long in
            let a = ap (λ (ls : List Loop). length ls) r.loops_are in
            let b = length-append r.before ((r.size, false) ∷ r.after) in
            let c = after_long in
            omega (arith, e, a, b, c)

        n_is : M - g - 1 ≡ length r.before
        n_is = let e = level_is in omega (arith, e)

        shared_before : levels ≤ length r.before
        shared_before =
            let a = (after-shared p ok fused n inside (marks r.before) (marks r.after)
            (m.marks ∙ ap marks r.loops_are ∙ map-append (λ (l : Loop). l.1) r.before ((r.size, false) ∷ r.after))).0 in
            let b = length-map r.before (λ (l : Loop). l.1) in
            omega (arith, a, b)

  -- ---- all terms together

  abbrev joint : ℕ → Prefixes
  joint d = path_fibers (in_any ss) sizes d

  many : length ss ≡ length p.terms
  many = as-many p ok fused es same

  first_there : 0 < length p.terms
  first_there = let k = several p ok fused in omega (arith, k)

  -- the coordinates of a shared level
  joint-level : (d : ℕ) → d ≤ levels → stream (level_label p 0 d) ≡ told coordinate (joint d)
  joint-level d l =
      level-is p ok fused es same 0 first_there d ∙ ap (told coordinate) (frame-joint p ok fused es same 0 first_there d l)

  -- what is told of the terms up to number e
  joined-told : (e : ℕ) → stream (tree_label (UnderJoined e 9 levels) Value) ≡ told (join_upto ss e).value (joint levels)
  joined-told e =
      told-stream (join_upto ss e).value (in_under_joined sizes ss e 9) sizes levels
      ∙ ap (told (join_upto ss e).value)
      (alike-paths (in_under_joined sizes ss e 9) (in_any ss) sizes sizes levels (unpruned_at [] (omega arith) ∙ there)
      (λ q l. unpruned_at q (let f = few-levels in omega (arith, f, l))) (λ k l. refl))
    where
      unpruned_at : (q : List ℕ) → length q < 9 → in_under_joined sizes ss e 9 q ≡ in_any ss q
      unpruned_at q l =
          let k : ltb (length q) 9 ≡ true = grind (arith, nat_tests, l) in
          ap (λ b. in_any ss q && (b || begins_value (join_upto ss e).value sizes q)) k ∙ and_true (in_any ss q)
        where
          and_true : (b : Bool) → (b && true) ≡ b
          and_true true = refl
          and_true false = refl

  -- the values of a term
  term-told : (n : ℕ) (inside : n < length p.terms) (l : Label) → IsOneOf l (term_values p n)
      → stream l ≡ told (value_term (term_at p es n)) (joint levels)
  term-told n inside l x =
      let free = free-others p ok fused n inside in
      let rest : loop_count p n - free_loop_count p n ≡ levels = omega (arith, free) in
      values-alike p ok fused es same n inside (free_loop_count p n) l x
      ∙ ap (reduced_values p ok fused es same n inside (free_loop_count p n)) rest
      ∙ ap (λ (g : ℕ). reduced_values p ok fused es same n inside g levels) (free-is p es ok same n inside)
      ∙ ap (told (value_term (term_at p es n)))
      (alike-paths (in_under_reduced levels ss (term_at p es n) (free_count (term_at p es n).loops)) (in_any ss)
      (reduced_sizes (term_at p es n) (free_count (term_at p es n).loops)) sizes levels (shared_at [] (omega arith) ∙ there) shared_at
      (λ k l. ap (λ (xs : List ℕ). slice_index xs k) (sized-at sizes ss n (accepted-sized p es ok) (let a = many in omega (arith, a, inside)))))
    where
      shared_at : (q : List ℕ) → length q ≤ levels → in_under_reduced levels ss (term_at p es n) (free_count (term_at p es n).loops) q ≡ in_any ss q
      shared_at q l =
          let e : leb (length q) levels ≡ true = grind (arith, nat_tests, l) in
          ap (λ b. cond b (in_any ss q) (in_reduced (term_at p es n) (free_count (term_at p es n).loops) q)) e

  -- the first term's values are those of the terms up to it
  first_value : (xs : List Summand) (q : List ℕ) → 0 < length xs → (summand_at xs 0).minus ≡ false
      → value_term (summand_at xs 0).term q ≡ (join_upto xs 0).value q
  first_value [] q l e = absurd (omega (arith, l))
  first_value (s ∷ xs) q l e =
      sym (plus-none (signed s q) ∙ ap (λ b. cond b (negated (value_term s.term q)) (value_term s.term q)) e)

  upto-told : (e : ℕ) → e < length p.terms → (l : Label) → IsOneOf l (values_upto p e) → stream l ≡ told (join_upto ss e).value (joint levels)
  upto-told zero inside l x =
      term-told 0 inside l x
      ∙ told-alike (value_term (term_at p es 0)) (join_upto ss 0).value (joint levels)
      (λ q. first_value ss q (let a = many in omega (arith, a, inside)) (first_sign p es p.terms inside))
  upto-told (suc e) inside l (inl y) = ap stream y ∙ joined-told (suc e)
  upto-told (suc e) inside l (inr y) = absurd y

  -- ---- unions

  plans_within : (e : ℕ) → e < length p.terms → length (take (suc e) (plans_of p)) ≡ suc e
  plans_within e l = length-take-le (suc e) (plans_of p) (let c = plans-count p in omega (arith, c, l))

  module _ (e d : ℕ) (inside : suc e < length p.terms) (shared : d < levels) where
    short_level : suc d ≤ 200
    short_level = let f = few-levels in omega (arith, f, shared)

    inside_ss : suc e < length ss
    inside_ss = let a = many in omega (arith, a, inside)

    abbrev across : ℕ → List (ℕ × ℕ) → Streams
    across upto rs = across_side levels ss there sizes (each-sized p ok fused es same) d (omega (arith, shared)) short_level upto rs

    across_is : (upto : ℕ) → map stream (across_labels upto (suc d) (take (suc upto) (plans_of p))) ≡ across upto (pairs 0 (take (suc upto) (plans_of p)))
    across_is upto =
        ap (λ (x : Streams). stream (across_label upto 0 (suc d) Coordinate) ∷ x)
        (ap (map stream) (ranks-are upto (suc d) 0 (take (suc upto) (plans_of p)))
        ∙ map-map stream (λ (r : ℕ × ℕ). across_label upto r.0 (suc d) (Rank r.1)) (pairs 0 (take (suc upto) (plans_of p))))

    whole_is : (n : ℕ) (l : n < length p.terms) → map stream (whole_labels p n d)
        ≡ under_side levels ss there sizes (each-sized p ok fused es same) d (omega (arith, shared)) short_level n (below (factor_count p n))
    whole_is n l =
        let mask = mask-is p ok fused es same n l d in
        ap (λ (x : Streams). stream (under_label p n (suc d) (full_mask p n d) Coordinate) ∷ x)
        (map-map stream (λ f. under_label p n (suc d) (full_mask p n d) (Rank f)) (below (factor_count p n)))
        ∙ ap (λ (x : List Bool). under_stream levels ss there (term_at p es n) (suc d) x Coordinate
        ∷ map (λ f. under_stream levels ss there (term_at p es n) (suc d) x (Rank f)) (below (factor_count p n))) mask

    -- the terms before, united or the first alone
    before_is : (e : ℕ) → map stream (before_labels p e d) ≡ across e (pairs 0 (take (suc e) (plans_of p)))
    before_is zero =
        whole_is 0 first_there
        ∙ first-across levels ss there sizes (each-sized p ok fused es same) d (omega (arith, shared)) short_level (below (factor_count p 0))
        (let a = many in let b = first_there in omega (arith, a, b))
        ∙ ap (across 0) (sym (ap (pairs 0) (plans-more p 0 first_there) ∙ append-nil (map (λ f. (0, f)) (below (factor_count p 0)))))
    before_is (suc e) = across_is (suc e)

    early_terms : Each (λ (r : ℕ × ℕ). r.0 < suc e) (pairs 0 (take (suc e) (plans_of p)))
    early_terms = pairs-early (suc e) 0 (take (suc e) (plans_of p)) (let c = plans_within e (omega (arith, inside)) in omega (arith, c))

    each_deep_across : (upto n : ℕ) (ts : List Plan) → EachLabel Deep (rank_labels upto (suc d) n ts)
    each_deep_across upto n ts = subst (EachLabel Deep) (sym (ranks-are upto (suc d) n ts)) (all_deep (pairs n ts))
      where
        all_deep : (rs : List (ℕ × ℕ)) → EachLabel Deep (map (λ (r : ℕ × ℕ). across_label upto r.0 (suc d) (Rank r.1)) rs)
        all_deep [] = tt
        all_deep (r ∷ rs) = (let f = few-levels in omega (arith, f, shared), all_deep rs)

    union-kept : (l r : ℕ) (ins outs : List Label) → l ≡ all_factors (take (suc e) (plans_of p)) → r ≡ factor_count p (suc e)
        → ins ≡ before_labels p e d ++ whole_labels p (suc e) d
        → outs ≡ across_labels (suc e) (suc d) (take (suc (suc e)) (plans_of p)) → Kept (kind.Union l r) ins outs
    union-kept l r ins outs is_l is_r i o =
        let rs = pairs 0 (take (suc e) (plans_of p)) in
        let ks = below (factor_count p (suc e)) in
        let left : l ≡ length rs = is_l ∙ sym (pairs-length 0 (take (suc e) (plans_of p))) in
        let right : r ≡ length ks = is_r ∙ sym (length-range_with_len 0 (factor_count p (suc e))) in
        let count = plans_within e (omega (arith, inside)) in
        let next : pairs 0 (take (suc (suc e)) (plans_of p)) ≡ rs ++ map (λ f. (suc e, f)) ks =
        ap (pairs 0) (plans-more p (suc e) inside) ∙ pairs-more 0 (take (suc e) (plans_of p)) (plan_at p (suc e))
        ∙ ap (λ (k : ℕ). rs ++ map (λ f. (k, f)) ks) (omega (arith, count)) in
        keeps (kind.Union l r) ins outs _ _ i o
        (let f = few-levels in omega (arith, f, shared), each_deep_across (suc e) 0 (take (suc (suc e)) (plans_of p)))
        (subst (λ (k : ℕ). Gives (UnionKind k r) (map stream (before_labels p e d ++ whole_labels p (suc e) d))
        (map stream (across_labels (suc e) (suc d) (take (suc (suc e)) (plans_of p))))) (sym left)
        (subst (λ (k : ℕ). Gives (UnionKind (length rs) k) (map stream (before_labels p e d ++ whole_labels p (suc e) d))
        (map stream (across_labels (suc e) (suc d) (take (suc (suc e)) (plans_of p))))) (sym right)
        (gives-same (UnionKind (length rs) (length ks)) _ _ _ _
        (sym (map-append stream (before_labels p e d) (whole_labels p (suc e) d)
        ∙ ap (λ (x : Streams). x ++ map stream (whole_labels p (suc e) d)) (before_is e)
        ∙ ap (λ (x : Streams). across e rs ++ x) (whole_is (suc e) inside)))
        (sym (across_is (suc e) ∙ ap (across (suc e)) next))
        (across-union levels ss there sizes (each-sized p ok fused es same) d (omega (arith, shared)) short_level e rs ks inside_ss early_terms))))

  -- ---- sums and differences

  further_sign : (ts : List Term) (e : ℕ) → suc e < length ts → (summand_at (summands_of p es ts) (suc e)).minus ≡ (get_or ts (suc e) empty_term).minus
  further_sign [] e l = absurd (omega (arith, l))
  further_sign (t ∷ ts) e l = ap (λ (s : Summand). s.minus) (get_or-map (further_summand p es) ts e empty_term no_summand (omega (arith, l)))

  addition-kept : (e : ℕ) (minus : Bool) (ins outs : List Label) → suc e < length p.terms → (get_or p.terms (suc e) empty_term).minus ≡ minus
      → PortsAllow (values_upto p e ∷ term_values p (suc e) ∷ []) ins
      → outs ≡ tree_label (UnderJoined (suc e) 9 levels) Value ∷ []
      → Gives (AluKind (joining minus)) (map stream ins) (map stream outs)
  addition-kept e minus ins outs inside sign i o =
      let x = two (values_upto p e) (term_values p (suc e)) ins i in
      let f = few-levels in
      let is : (summand_at ss (suc e)).minus ≡ minus = further_sign p.terms e inside ∙ sign in
      subst (λ b. Gives (AluKind (joining b)) (map stream ins) (map stream outs)) is
      (gives-same (AluKind (joining (summand_at ss (suc e)).minus)) _ _ _ _
      (sym (ap (map stream) x.2
      ∙ ap (λ (w : List Token). w ∷ stream x.1 ∷ []) (upto-told e (omega (arith, inside)) x.0 x.3)
      ∙ ap (λ (w : List Token). told (join_upto ss e).value (joint levels) ∷ w ∷ []) (term-told (suc e) inside x.1 x.4)))
      (sym (ap (map stream) o ∙ ap (λ (w : List Token). w ∷ []) (joined-told (suc e))))
      (fused-sum ss sizes there e levels (let a = many in omega (arith, a, inside)) (omega (arith, f))))

  kept-of : (k : Kind) (ins outs : List Label) → Gives (meaning storages k) (map stream ins) (map stream outs) → EachLabel Deep outs → Kept k ins outs
  kept-of k ins outs g d = record { fits = g.fits; gives = g.made_of; each = d }

  add-kept : (e : ℕ) (ins outs : List Label) → suc e < length p.terms → (get_or p.terms (suc e) empty_term).minus ≡ false
      → PortsAllow (values_upto p e ∷ term_values p (suc e) ∷ []) ins → outs ≡ tree_label (UnderJoined (suc e) 9 levels) Value ∷ []
      → Kept kind.Add ins outs
  add-kept e ins outs inside sign i o =
      kept-of kind.Add ins outs (addition-kept e false ins outs inside sign i o) (subst (EachLabel Deep) (sym o) (few-levels, tt))

  sub-kept : (e : ℕ) (ins outs : List Label) → suc e < length p.terms → (get_or p.terms (suc e) empty_term).minus ≡ true
      → PortsAllow (values_upto p e ∷ term_values p (suc e) ∷ []) ins → outs ≡ tree_label (UnderJoined (suc e) 9 levels) Value ∷ []
      → Kept kind.Sub ins outs
  sub-kept e ins outs inside sign i o =
      kept-of kind.Sub ins outs (addition-kept e true ins outs inside sign i o) (subst (EachLabel Deep) (sym o) (few-levels, tt))

  -- ---- what is dropped

  abbrev final_term : ℕ
  final_term = length p.terms - 1

  dropvalue-kept : (ins outs : List Label) → PortsAllow ((level_label p 0 levels ∷ []) ∷ values_upto p final_term ∷ []) ins
      → outs ≡ sum_label p levels levels Coordinate ∷ sum_label p levels levels Value ∷ [] → Kept kind.DropValue ins outs
  dropvalue-kept ins outs i o = by_levels levels refl
    where
      x : (a : Label) × (b : Label) × (ins ≡ a ∷ b ∷ []) × IsOneOf a (level_label p 0 levels ∷ []) × IsOneOf b (values_upto p final_term)
      x = two (level_label p 0 levels ∷ []) (values_upto p final_term) ins i

      by_levels : (d : ℕ) → levels ≡ d → Kept kind.DropValue ins outs
      by_levels zero e = let some = some-levels p ok fused in absurd (omega (arith, some, e))
      by_levels (suc d) e =
          let f = few-levels in
          let size = levels-shared p ok fused in
          let k = several p ok fused in
          let a : stream x.0 ≡ told coordinate (joint (suc d)) =
          ap stream (one-alone x.0 _ x.3) ∙ joint-level levels (omega arith) ∙ ap (λ (n : ℕ). told coordinate (joint n)) e in
          let b : stream x.1 ≡ stream (tree_label (UnderJoined final_term 9 (suc d)) Value) =
          upto-told final_term (omega (arith, k)) x.1 x.4 ∙ sym (joined-told final_term) ∙ ap (λ (n : ℕ). stream (tree_label (UnderJoined final_term 9 n) Value)) e in
          kept-of kind.DropValue ins outs
          (gives-same DropValueKind _ _ _ _
          (sym (ap (map stream) x.2 ∙ ap (λ (w : List Token). w ∷ stream x.1 ∷ []) a
          ∙ ap (λ (w : List Token). told coordinate (joint (suc d)) ∷ w ∷ []) b))
          (ap (λ (n : ℕ). stream (sum_label p n n Coordinate) ∷ stream (sum_label p n n Value) ∷ []) (sym e) ∙ ap (map stream) (sym o))
          (fused-dropvalue ss sizes there final_term (all-terms p ok fused es same) (begins p ok fused es same) d (sym size ∙ e) (omega (arith, f, e))))
          (subst (EachLabel Deep) (sym o) (f, (f, tt)))

  dropfiber-kept : (d : ℕ) (ins outs : List Label) → suc d < levels → ins ≡ level_label p 0 (suc d) ∷ sum_label p (suc (suc d)) (suc (suc d)) Coordinate ∷ []
      → outs ≡ sum_label p (suc d) (suc d) Coordinate ∷ sum_label p (suc d) (suc (suc d)) Coordinate ∷ [] → Kept kind.DropFiber ins outs
  dropfiber-kept d ins outs less i o =
      let f = few-levels in
      let size = levels-shared p ok fused in
      kept-of kind.DropFiber ins outs
      (gives-same DropFiberKind _ _ _ _
      (sym (ap (map stream) i
      ∙ ap (λ (w : List Token). w ∷ stream (sum_label p (suc (suc d)) (suc (suc d)) Coordinate) ∷ []) (joint-level (suc d) (omega (arith, less)))))
      (ap (map stream) (sym o))
      (fused-dropfiber ss sizes there final_term (all-terms p ok fused es same) (begins p ok fused es same) d (omega (arith, less, size)) (omega (arith, less, f))))
      (subst (EachLabel Deep) (sym o) (omega (arith, less, f), (omega (arith, less, f), tt)))

  -- ---- copies and writers

  copies_from : (s : List Token) (l : Label) (outs : List Label) (n : ℕ) → stream l ≡ s → map stream (map (λ _. l) outs) ≡ over (λ _. s) n (length outs)
  copies_from s l [] n e = refl
  copies_from s l (k ∷ outs) n e = let r = copies_from s l outs (suc n) e in cc

  copies_deep : (l : Label) (outs : List Label) → Deep l → EachLabel Deep (map (λ _. l) outs)
  copies_deep l [] h = tt
  copies_deep l (k ∷ outs) h = (h, copies_deep l outs h)

  first_deep : (l : Label) (ls ins : List Label) → ins ≡ l ∷ ls → EachLabel Deep ins → Deep l
  first_deep l ls ins e h = (subst (EachLabel Deep) e h).0

  cast-kept : (n : ℕ) (l : Label) (ins outs : List Label) → ins ≡ l ∷ [] → length outs ≡ n → outs ≡ map (λ _. l) outs → EachLabel Deep ins → Kept (kind.Cast n) ins outs
  cast-kept n l ins outs i count o h =
      let d = first_deep l [] ins i h in
      keeps (kind.Cast n) ins outs (l ∷ []) (map (λ _. l) outs) i o (copies_deep l outs d)
      (subst (λ (m : ℕ). Gives (CastKind m) (stream l ∷ []) (map stream (map (λ _. l) outs))) count
      (subst (λ (x : Streams). Gives (CastKind (length outs)) (stream l ∷ []) x) (sym (copies_from (stream l) l outs 0 refl))
      (cast-gives (length outs) (stream l) (flows l d, tt))))

  level-kept : (d : ℕ) (l : Label) (ins outs : List Label) → ins ≡ l ∷ [] → (l.attr ≡ Coordinate) → tree_level l.tree ≡ suc d → outs ≡ [] → EachLabel Deep ins
      → Kept (kind.WriteLevel (suc d)) ins outs
  level-kept d l ins outs i a e o h =
      let k = first_deep l [] ins i h in
      keeps (kind.WriteLevel (suc d)) ins outs (l ∷ []) [] i o tt
      (subst (λ (x : Attr). Gives (WriteLevelKind (suc d)) (stream_at (shape_of p es l.tree) x ∷ []) []) (sym a)
      (level-written (suc d) (shape_of p es l.tree) d (depth_is l.tree ∙ e) (let f = depth_is l.tree in omega (arith, k, f))))

  value-kept : (l : Label) (ins outs : List Label) → ins ≡ l ∷ [] → outs ≡ [] → EachLabel Deep ins → Kept kind.WriteValue ins outs
  value-kept l ins outs i o h =
      keeps kind.WriteValue ins outs (l ∷ []) [] i o tt (writevalue-gives (stream l) (flows l (first_deep l [] ins i h), tt))

  only_port : (cs ins : List Label) → PortsAllow (cs ∷ []) ins → (l : Label) × (ins ≡ l ∷ []) × IsOneOf l cs
  only_port cs [] x = absurd x
  only_port cs (l ∷ []) x = (l, refl, x.0)
  only_port cs (l ∷ k ∷ ins) x = absurd x.1

  -- ---- by kinds

  mul_case : (t k : ℕ) (ins outs : List Label) (b : Bool) → (i j : Instance)
      → (cond b i j).holds ≡ true → PortsAllow (cond b i j).ins ins → outs ≡ (cond b i j).outs
      → (cond b i.holds j.holds ≡ true) × PortsAllow (cond b i.ins j.ins) ins × (outs ≡ cond b i.outs j.outs)
  mul_case t k ins outs true i j h x o = (h, x, o)
  mul_case t k ins outs false i j h x o = (h, x, o)

  mul_sound : (t k : ℕ) (ins outs : List Label) (b : Bool)
      → (cond b (is_term p t) (is_term p t && (ltb 1 k && leb k (factor_count p t)))) ≡ true
      → PortsAllow (cond b (fused_products p t (factor_count p t) ∷ (fused_bottom p t (Literal (plan_coefficient p t)) ∷ []) ∷ [])
      (fused_products p t (k - 1) ∷ (fused_bottom p t (FactorValue (k - 1)) ∷ []) ∷ [])) ins
      → outs ≡ cond b (fused_bottom p t Whole ∷ []) (fused_bottom p t (Partial k) ∷ []) → Kept kind.Mul ins outs
  mul_sound t k ins outs true h i o = whole-kept t (ltb-true t (length p.terms) h) ins outs i o
  mul_sound t k ins outs false h i o =
      let one = and_parts (is_term p t) (ltb 1 k && leb k (factor_count p t)) h in
      let more = and_parts (ltb 1 k) (leb k (factor_count p t)) one.1 in
      let low = ltb-true 1 k more.0 in
      let high = leb-true k (factor_count p t) more.1 in
      let back : k ≡ suc (k - 1) = omega (arith, low) in
      product-kept t (ltb-true t (length p.terms) one.0) (k - 1) ins outs (omega (arith, low)) (omega (arith, low, high)) i
      (o ∙ ap (λ (n : ℕ). fused_bottom p t (Partial n) ∷ []) back)

  union_sound : (e d l r : ℕ) (ins outs : List Label) → 0 < e → e < length p.terms → d < levels → l ≡ all_factors (take e (plans_of p)) → r ≡ factor_count p e
      → ins ≡ before_labels p (e - 1) d ++ whole_labels p e d → outs ≡ across_labels e (suc d) (take (suc e) (plans_of p)) → Kept (kind.Union l r) ins outs
  union_sound zero d l r ins outs some inside shared is_l is_r i o = absurd (omega (arith, some))
  union_sound (suc e) d l r ins outs some inside shared is_l is_r i o =
      let back : suc e - 1 ≡ e = omega arith in
      union-kept e d inside shared l r ins outs is_l is_r (i ∙ ap (λ (k : ℕ). before_labels p k d ++ whole_labels p (suc e) d) back) o

  added_sound : (e : ℕ) (minus : Bool) (k : Kind) (ins outs : List Label)
      → ((e : ℕ) → suc e < length p.terms → (get_or p.terms (suc e) empty_term).minus ≡ minus
      → PortsAllow (values_upto p e ∷ term_values p (suc e) ∷ []) ins → outs ≡ tree_label (UnderJoined (suc e) 9 levels) Value ∷ [] → Kept k ins outs)
      → is_further p e ≡ true → (get_or p.terms e empty_term).minus ≡ minus → PortsAllow (values_upto p (e - 1) ∷ term_values p e ∷ []) ins
      → outs ≡ tree_label (UnderJoined e 9 levels) Value ∷ [] → Kept k ins outs
  added_sound zero minus k ins outs kept further sign i o =
      let both = and_parts (ltb 0 0) (ltb 0 (length p.terms)) further in let some = ltb-true 0 0 both.0 in absurd (omega (arith, some))
  added_sound (suc e) minus k ins outs kept further sign i o =
      let back : suc e - 1 ≡ e = omega arith in
      let both = and_parts (ltb 0 (suc e)) (ltb (suc e) (length p.terms)) further in
      kept e (ltb-true (suc e) (length p.terms) both.1) sign (subst (λ (j : ℕ). PortsAllow (values_upto p j ∷ term_values p (suc e) ∷ []) ins) back i) o

  dropfiber_sound : (f : ℕ) (ins outs : List Label) → 0 < f → f < levels → ins ≡ level_label p 0 f ∷ sum_label p (suc f) (suc f) Coordinate ∷ []
      → outs ≡ sum_label p f f Coordinate ∷ sum_label p f (suc f) Coordinate ∷ [] → Kept kind.DropFiber ins outs
  dropfiber_sound zero ins outs some less i o = absurd (omega (arith, some))
  dropfiber_sound (suc d) ins outs some less i o = dropfiber-kept d ins outs less i o

  level_sound : (d : ℕ) (ins outs : List Label) → 0 < d → PortsAllow (map (λ f. sum_label p f d Coordinate) (range_with_len 1 d) ∷ []) ins → outs ≡ []
      → EachLabel Deep ins → Kept (kind.WriteLevel d) ins outs
  level_sound zero ins outs some x o h = absurd (omega (arith, some))
  level_sound (suc d) ins outs some x o h =
      let q = only_port (map (λ f. sum_label p f (suc d) Coordinate) (range_with_len 1 (suc d))) ins x in
      let r = one-ranged (λ f. sum_label p f (suc d) Coordinate) q.0 1 (suc d) q.2 in
      level-kept d q.0 ins outs q.1 (ap (λ (l : Label). l.attr) r.1) (ap (λ (l : Label). tree_level l.tree) r.1) o h

  pub fused-sound : RulesSound storages stream Deep (FusedAllowed p)
  fused-sound kind.Root ins outs a h =
      keeps kind.Root ins outs [] (no_label ∷ []) (just-these [] ins a.ins_are) a.outs_are (omega arith, tt) root-gives
  fused-sound (kind.Scan tensor level) ins outs a h =
      let x = named 0 ins outs in
      let d = x.level - 1 in
      let f = x.factor in
      let one = and_parts _ _ a.holds in
      let two = and_parts _ _ one.0 in
      let three = and_parts _ _ one.1 in
      let four = and_parts _ _ three.1 in
      let five = and_parts _ _ four.1 in
      scan-kept x.term (ltb-true x.term (length p.terms) two.0) tensor level d f ins outs (ltb-true d (loop_count p x.term) two.1)
      (ltb-true f (factor_count p x.term) three.0) four.0 (eqb-true tensor (plan_access (plan_at p x.term) f).tensor five.0)
      (eqb-true level (suc (levels_before (plan_access (plan_at p x.term) f).has d)) five.1)
      (just-these (fused_reference p x.term d f ∷ []) ins a.ins_are) a.outs_are
  fused-sound kind.Repeat ins outs a h =
      let x = named 0 ins outs in
      let d = x.level - 1 in
      let f = x.factor in
      let one = and_parts _ _ a.holds in
      let two = and_parts _ _ one.0 in
      let three = and_parts _ _ one.1 in
      repeat-kept x.term (ltb-true x.term (length p.terms) two.0) d f ins outs (ltb-true d (loop_count p x.term) two.1)
      (is_not (has_loop (plan_at p x.term) d f) three.1)
      (just-these (under_label p x.term (suc d) (full_mask p x.term d) Coordinate ∷ fused_reference p x.term d f ∷ []) ins a.ins_are) a.outs_are
  fused-sound (kind.Cast n) ins outs a h =
      cast-kept n (port_label ins 0) ins outs (just-these (port_label ins 0 ∷ []) ins a.ins_are) (eqb-true (length outs) n a.holds) a.outs_are h
  fused-sound kind.Drain ins outs a h =
      let l = port_label ins 0 in
      let i : ins ≡ l ∷ [] = just-these (l ∷ []) ins a.ins_are in
      keeps kind.Drain ins outs (l ∷ []) [] i a.outs_are tt (drain-gives (stream l) (flows l (first_deep l [] ins i h), tt))
  fused-sound (kind.Intersect l r) ins outs a h =
      let x = named l ins outs in
      let d = x.level - 1 in
      let left = under_mask (port_label ins 0).tree in
      let right = under_mask (port_label ins (suc l)).tree in
      let one = and_parts _ _ a.holds in
      let two = and_parts _ _ one.0 in
      let three = and_parts _ _ one.1 in
      intersect-kept x.term (ltb-true x.term (length p.terms) two.0) l r d left right x.these x.those ins outs (ltb-true d (loop_count p x.term) two.1)
      (eqb-true l (length x.these) three.0) (eqb-true r (length x.those) three.1)
      (just-these (under_labels p x.term (suc d) left x.these ++ under_labels p x.term (suc d) right x.those) ins a.ins_are) a.outs_are
  fused-sound (kind.Union l r) ins outs a h =
      let e = across_upto (port_label outs 0).tree in
      let d = tree_level (port_label outs 0).tree - 1 in
      let one = and_parts _ _ a.holds in
      let further = and_parts _ _ one.0 in
      let two = and_parts _ _ one.1 in
      let three = and_parts _ _ two.1 in
      union_sound e d l r ins outs (ltb-true 0 e further.0) (ltb-true e (length p.terms) further.1) (ltb-true d levels two.0)
      (eqb-true l (all_factors (take e (plans_of p))) three.0) (eqb-true r (factor_count p e) three.1)
      (just-these (before_labels p (e - 1) d ++ whole_labels p e d) ins a.ins_are) a.outs_are
  fused-sound (kind.Array tensor) ins outs a h =
      let x = named 0 ins outs in
      let one = and_parts _ _ a.holds in
      let two = and_parts _ _ one.1 in
      array-kept x.term (ltb-true x.term (length p.terms) one.0) tensor x.factor ins outs (ltb-true x.factor (factor_count p x.term) two.0)
      (eqb-true tensor (plan_access (plan_at p x.term) x.factor).tensor two.1)
      (just-these (fused_bottom p x.term (Rank x.factor) ∷ []) ins a.ins_are) a.outs_are
  fused-sound kind.Mul ins outs a h =
      let x = named 0 ins outs in
      let b = same_label (port_label outs 0) (fused_bottom p x.term Whole) in
      let c = mul_case x.term x.factor ins outs b _ _ a.holds a.ins_are a.outs_are in
      mul_sound x.term x.factor ins outs b c.0 c.1 c.2
  fused-sound (kind.Const c) ins outs a h =
      let t = (named 0 ins outs).term in
      const-kept t (ltb-true t (length p.terms) a.holds) c ins outs a.ins_are a.outs_are
  fused-sound kind.SumScalar ins outs a h =
      let t = (named 0 ins outs).term in
      let g = under_gone (port_label outs 0).tree - 1 in
      let one = and_parts _ _ a.holds in
      let two = and_parts _ _ one.1 in
      sum-kept t (ltb-true t (length p.terms) one.0) g ins outs (ltb-true g (free_loop_count p t) two.0)
      (eqb-true (left_after g (plan_at p t).on_left) 0 two.1) a.ins_are a.outs_are
  fused-sound kind.Add ins outs a h =
      let e = (named 0 ins outs).term in
      let one = and_parts _ _ a.holds in
      added_sound e false kind.Add ins outs (λ e inside sign i o. add-kept e ins outs inside sign i o) one.0
      (is_not (get_or p.terms e empty_term).minus one.1) a.ins_are a.outs_are
  fused-sound kind.Sub ins outs a h =
      let e = (named 0 ins outs).term in
      let one = and_parts _ _ a.holds in
      added_sound e true kind.Sub ins outs (λ e inside sign i o. sub-kept e ins outs inside sign i o) one.0 one.1 a.ins_are a.outs_are
  fused-sound kind.DropValue ins outs a h = dropvalue-kept ins outs a.ins_are a.outs_are
  fused-sound kind.DropFiber ins outs a h =
      let f = tree_level (port_label outs 0).tree in
      let one = and_parts _ _ a.holds in
      dropfiber_sound f ins outs (ltb-true 0 f one.0) (ltb-true f levels one.1)
      (just-these (level_label p 0 f ∷ sum_label p (suc f) (suc f) Coordinate ∷ []) ins a.ins_are) a.outs_are
  fused-sound (kind.WriteLevel d) ins outs a h =
      let one = and_parts _ _ a.holds in level_sound d ins outs (ltb-true 0 d one.0) a.ins_are a.outs_are h
  fused-sound kind.WriteValue ins outs a h =
      let q = only_port (sum_label p levels levels Value ∷ []) ins a.ins_are in value-kept q.0 ins outs q.1 a.outs_are h
  fused-sound kind.SumVector ins outs a h = let e = a.holds in absurd (cc)
  fused-sound kind.SumMatrix ins outs a h = let e = a.holds in absurd (cc)
  fused-sound (kind.Fill w) ins outs a h = let e = a.holds in absurd (cc)
