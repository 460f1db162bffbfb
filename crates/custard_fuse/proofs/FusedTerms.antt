-- The terms of a program whose terms are fused, over its entries: the shared levels have the result's sizes, and what is told of them.
use Rattle.std.specs.Prelude.{◌≡◌, ◌<◌, ◌≤◌, ℕ, zero, suc, ◌-◌, Bool, true, false, cond, List, [], ◌∷◌, ◌++◌, length, take, drop, slice_index, leb, ltb, None, is_some, refl}
use Rattle.std.specs.List.{filter}
use mathlib.Core.List.{map}
use Rattle.std.proofs.Common.{arith, sym, ◌∙◌, ap, take_all}
use Rattle.std.proofs.lemmas.Bool.Decides.{nat_tests}
use Rattle.std.proofs.lemmas.List.{length_push, length-take-le}
use Rattle.sam_model.specs.declared.tensors.Entries.{Entries}
use Rattle.sam_model.specs.declared.program.Program.{Program}
use Rattle.sam_model.specs.Lists.{below}
use Rattle.sam_model.specs.Program.{accepted}
use Rattle.sam_model.specs.Denote.{Loop}
use Rattle.sam_model.proofs.Lists.{filter-ext}
use Rattle.stream_model.specs.declared.labels.Attr.{Attr}
use Rattle.stream_model.specs.Grow.{path_fibers}
use Rattle.stream_model.specs.Terms.{TermData, Summand, summands, summand_at}
use Rattle.stream_model.specs.Trees.{in_whole, in_reduced, kept_loops, kept_sizes, reduced_sizes, free_count, value_term}
use Rattle.stream_model.specs.Fused.{leading_marks, shared_levels, in_any, in_across, in_under_reduced}
use Rattle.stream_model.specs.Labels.{loop_sizes, only_where, token, across_shape, under_shape, result_sizes, stream_at, term_at}
use Rattle.stream_model.specs.Masks.{final}
use Rattle.stream_model.specs.Tellings.{Prefixes, Telling, told}
use Rattle.stream_model.proofs.Grown.{paths-same}
use Rattle.stream_model.proofs.Levels.{told-stream, told-same}
use Rattle.stream_model.proofs.Reduced.{all_kept, reduced-front, sizes-front}
use Rattle.stream_model.proofs.Results.{accepted-sized, length-summands}
use Rattle.label_rules.specs.Storages.{storages_of}
use Rattle.label_rules.specs.TermLabels.{plan_at}
use Rattle.label_rules.proofs.term.Matching.{Matches}
use Rattle.label_rules.proofs.term.Marks.{marks}
use Rattle.label_rules.proofs.rules.TermRules.{matched}
use Rattle.label_rules.proofs.laws.JoinSides.{sized-at}
use Rattle.label_rules.proofs.shared.AcrossLaws.{Sized}
use Rattle.label_rules.proofs.shared.UnderLaws.{in_frame, framed, frame-root, under_stream, under-beneath, final-level, own-level}
use Rattle.label_rules.proofs.shared.EndLaws.{Begins, begins-first}
use Rattle.custard_fuse.specs.Fusing.{is_fused}
use Rattle.custard_fuse.proofs.FusedPlans.{leading, levels-shared, several}

-- ---- trees that are alike down to a depth

pub alike-paths : (ok ok' : List ℕ → Bool) (sizes sizes' : List ℕ) (d : ℕ) → ok [] ≡ true
    → ((q : List ℕ) → length q ≤ d → ok q ≡ ok' q) → ((n : ℕ) → n < d → slice_index sizes n ≡ slice_index sizes' n)
    → path_fibers ok sizes d ≡ path_fibers ok' sizes' d
alike-paths ok ok' sizes sizes' d root same size =
    paths-same ok ok' sizes sizes' root d
    (λ e p less i.
    ap (λ (n : ℕ). map (λ c. p ++ c ∷ []) (filter (λ c. ok (p ++ c ∷ [])) (below n))) (size (length p) (omega (arith, i.count, less)))
    ∙ ap (λ (cs : List ℕ). map (λ c. p ++ c ∷ []) cs)
    (filter-ext (λ c. ok (p ++ c ∷ [])) (λ c. ok' (p ++ c ∷ [])) (λ c. same (p ++ c ∷ []) (omega (arith, length_push p c, i.count, less)))
    (below (slice_index sizes' (length p)))))

-- ---- loops that come first

-- loops of the left that come first are kept whatever is gone
first_kept : (g h : ℕ) (ls : List Loop) → h ≤ leading_marks (marks ls) → kept_loops g ls ≡ all_kept (take h ls) ++ kept_loops g (drop h ls)
first_kept g zero ls l = refl
first_kept g (suc h) [] l = absurd (omega (arith, l))
first_kept g (suc h) ((s, true) ∷ ls) l = ap (λ (x : List Loop). (s, true) ∷ x) (first_kept g h ls (omega (arith, l)))
first_kept g (suc h) ((s, false) ∷ ls) l = absurd (omega (arith, l))

-- so their sizes come first among those that are kept
first_sizes : (g n : ℕ) (ls : List Loop) → n < leading_marks (marks ls) → slice_index (kept_sizes (kept_loops g ls)) n ≡ slice_index (loop_sizes ls) n
first_sizes g n [] l = absurd (omega (arith, l))
first_sizes g zero ((s, true) ∷ ls) l = refl
first_sizes g (suc n) ((s, true) ∷ ls) l = first_sizes g n ls (omega (arith, l))
first_sizes g n ((s, false) ∷ ls) l = absurd (omega (arith, l))

leading_within : (ls : List Loop) → leading_marks (marks ls) ≤ length ls
leading_within [] = omega arith
leading_within ((s, true) ∷ ls) = let r = leading_within ls in omega (arith, r)
leading_within ((s, false) ∷ ls) = omega arith

founded_by : (ss : List Summand) → 0 < length ss → in_any ss [] ≡ true
founded_by [] l = absurd (omega (arith, l))
founded_by (s ∷ ss) l = refl

each_begins : (ss more : List Summand) (sizes : List ℕ) (founded : in_any ss [] ≡ true)
    → ((i : ℕ) → i < length more → (p q : List ℕ) → length p ≤ length sizes
    → is_some (value_term (summand_at more i).term (p ++ q)) ≡ true → in_whole (summand_at more i).term p ≡ true)
    → Begins ss sizes founded more
each_begins ss [] sizes founded h = tt
each_begins ss (s ∷ more) sizes founded h = (h 0 (omega arith), each_begins ss more sizes founded (λ i l. h (suc i) (omega (arith, l))))

module _ (p : Program) (ok : accepted p ≡ true) (fused : is_fused p ≡ true) (es : List Entries) (same : length es ≡ length p.tensors) where
  abbrev pub ss : List Summand
  ss = summands p es

  abbrev pub h : ℕ
  h = shared_levels p

  abbrev pub sizes : List ℕ
  sizes = result_sizes p

  pub as-many : length ss ≡ length p.terms
  as-many = length-summands p es p.terms

  pub founded : in_any ss [] ≡ true
  founded = founded_by ss (let a = as-many in let b = several p ok fused in omega (arith, a, b))

  -- the last term is the last
  pub all-terms : take (suc (length p.terms - 1)) ss ≡ ss
  all-terms =
      let a = as-many in
      let b = several p ok fused in
      take_all (suc (length p.terms - 1)) ss (omega (arith, a, b))

  module _ (n : ℕ) (inside : n < length p.terms) where
    abbrev pub t : TermData
    t = term_at p es n

    m : Matches (storages_of p es) t (plan_at p n)
    m = matched p es ok same n inside

    first_loops : h ≤ leading_marks (marks t.loops)
    first_loops = let a = leading p ok fused n inside in let b = ap leading_marks m.marks in omega (arith, a, b)

    pub term-sized : Sized sizes h t
    term-sized k l =
        sym (first_sizes (free_count t.loops) k t.loops (let a = first_loops in omega (arith, a, l)))
        ∙ ap (λ (xs : List ℕ). slice_index xs k)
        (sized-at sizes ss n (accepted-sized p es ok) (let a = as-many in omega (arith, a, inside)))

    -- the loops that aren't shared come after those that are
    pub kept-first : (g : ℕ) → kept_loops g t.loops ≡ all_kept (take h t.loops) ++ kept_loops g (drop h t.loops)
    kept-first g = first_kept g h t.loops first_loops

    first_length : length (take h t.loops) ≡ h
    first_length = length-take-le h t.loops (let a = first_loops in let b = leading_within t.loops in omega (arith, a, b))

    pub values-begin : (q r : List ℕ) → length q ≤ length sizes → is_some (value_term t (q ++ r)) ≡ true → in_whole t q ≡ true
    values-begin q r l e =
        begins-first t (take h t.loops) (kept_loops (free_count t.loops) (drop h t.loops)) (kept-first (free_count t.loops)) q r
        (let a = first_length in let b = levels-shared p ok fused in omega (arith, a, b, l)) e

    -- ---- the prefixes of the shared levels, and those beneath them

    abbrev pub frame : ℕ → Prefixes
    frame d = framed h ss founded t d

    pub frame-joint : (d : ℕ) → d ≤ h → frame d ≡ path_fibers (in_any ss) sizes d
    frame-joint d l =
        alike-paths (in_frame h ss founded t) (in_any ss) (loop_sizes t.loops) sizes d (frame-root h ss founded t)
        (λ q i. let e : leb (length q) h ≡ true = grind (arith, nat_tests, i, l) in ap (λ b. cond b (in_any ss q) (in_whole t q)) e)
        (λ k i. term-sized k (omega (arith, i, l)))

    -- a tree without so many loops has the same prefixes where these loops are after all others
    pub reduced-frame : (g d : ℕ) (front rest : List Loop) → kept_loops g t.loops ≡ all_kept front ++ rest → d ≤ length front
        → path_fibers (in_under_reduced h ss t g) (reduced_sizes t g) d ≡ frame d
    reduced-frame g d front rest e l =
        alike-paths (in_under_reduced h ss t g) (in_frame h ss founded t) (reduced_sizes t g) (loop_sizes t.loops) d root
        (λ q i. ap (λ b. cond (leb (length q) h) (in_any ss q) b) (reduced-front t g front rest q e (omega (arith, i, l))))
        (λ k i. sizes-front t g front rest k e (omega (arith, i, l)))
      where
        root : in_under_reduced h ss t g [] ≡ true
        root =
            let z : leb 0 h ≡ true = grind (arith, nat_tests) in
            ap (λ b. cond b (in_any ss []) (in_reduced t g [])) z ∙ founded

    -- ---- what is told there

    pub across-told : (d : ℕ) (a : Attr) → d ≤ h
        → stream_at (across_shape ss (length p.terms - 1) t d) a ≡ told (token (across_shape ss (length p.terms - 1) t d) a) (frame d)
    across-told d a l =
        told-stream (token (across_shape ss (length p.terms - 1) t d) a) (in_across ss (length p.terms - 1) d) (loop_sizes t.loops) d
        ∙ ap (told (token (across_shape ss (length p.terms - 1) t d) a))
        (alike-paths (in_across ss (length p.terms - 1) d) (in_frame h ss founded t) (loop_sizes t.loops) (loop_sizes t.loops) d
        (is_any [] ∙ founded)
        (λ q i. is_any q ∙ sym (let e : leb (length q) h ≡ true = grind (arith, nat_tests, i, l) in ap (λ b. cond b (in_any ss q) (in_whole t q)) e))
        (λ k i. refl))
      where
        is_any : (q : List ℕ) → in_across ss (length p.terms - 1) d q ≡ in_any ss q
        is_any q = by_case (ltb (length q) d)
          where
            by_case : (b : Bool) → cond b (in_any ss q) (in_any (take (suc (length p.terms - 1)) ss) q) ≡ in_any ss q
            by_case true = refl
            by_case false = ap (λ (xs : List Summand). in_any xs q) all-terms

    pub under-told : (d : ℕ) (a : Attr) → h ≤ d
        → under_stream h ss founded t (suc d) (final t (suc d)) a ≡ told (token (under_shape h ss t (suc d) (final t (suc d))) a) (frame (suc d))
    under-told d a l =
        under-beneath h ss founded t d (final t (suc d)) a
        ∙ ap (told (token (under_shape h ss t (suc d) (final t (suc d))) a)) (final-level h ss founded t d ∙ sym (own-level h ss founded t d l))

    -- beneath the shared levels the term has every prefix
    pub told-where : (d : ℕ) (x : Telling) → h < d → told x (frame d) ≡ told (only_where (in_whole t) x) (frame d)
    told-where d x l =
        told-same x (only_where (in_whole t) x) (in_frame h ss founded t) (loop_sizes t.loops) d (frame-root h ss founded t)
        (λ q i.
        let e : leb (length q) h ≡ false = grind (arith, nat_tests, l, i.count) in
        let k : in_whole t q ≡ true = sym (ap (λ b. cond b (in_any ss q) (in_whole t q)) e) ∙ i.passes in
        sym (ap (λ b. cond b (x q) None) k))

  pub begins : Begins ss sizes founded ss
  begins = each_begins ss ss sizes founded (λ i l. values-begin i (let a = as-many in omega (arith, a, l)))

  pub each-sized : (i : ℕ) → i < length ss → Sized sizes h (summand_at ss i).term
  each-sized i l = term-sized i (let a = as-many in omega (arith, a, l))
