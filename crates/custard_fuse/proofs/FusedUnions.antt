-- The unions of a fused graph: their labels, factor by factor.
use Rattle.std.specs.Prelude.{◌≡◌, ◌<◌, ◌≤◌, ℕ, suc, ◌+◌, List, [], ◌∷◌, ◌++◌, length, take, get_or, refl}
use mathlib.Core.List.{map}
use Rattle.std.proofs.Common.{arith, sym, ◌∙◌, ap, length-append, take-suc, append-nil, append_assoc}
use Rattle.std.proofs.lemmas.List.{length-map, map-append}
use Rattle.std.proofs.lemmas.List.FromFn.{get_or-map-range_with_len, length-map-range_with_len}
use Rattle.sam_model.specs.declared.program.Program.{Program}
use Rattle.sam_model.specs.Lists.{below}
use Rattle.stream_tokens.specs.Shapes.{Each}
use Rattle.stream_tokens.proofs.Algebra.{map-map}
use Rattle.stream_model.specs.declared.labels.Attr.TheVariants.{Rank}
use Rattle.stream_model.specs.declared.labels.Label.{Label}
use Rattle.label_rules.specs.declared.plans.Plan.{Plan}
use Rattle.label_rules.specs.TermLabels.{plan_at}
use Rattle.custard_fuse.specs.Sharing.{no_plan, factors, all_factors, across_label, rank_labels}
use Rattle.custard_fuse.specs.Fusing.{plans_of}

-- the factors of these terms, from number n on, each with its term
abbrev pub pairs : ℕ → List Plan → List (ℕ × ℕ)
pairs n [] = []
pairs n (t ∷ ts) = map (λ f. (n, f)) (below (factors t)) ++ pairs (suc n) ts

pub ranks-are : (upto depth n : ℕ) (ts : List Plan) → rank_labels upto depth n ts ≡ map (λ (r : ℕ × ℕ). across_label upto r.0 depth (Rank r.1)) (pairs n ts)
ranks-are upto depth n [] = refl
ranks-are upto depth n (t ∷ ts) =
    ap (λ (ls : List Label). ls ++ rank_labels upto depth (suc n) ts)
    (sym (map-map (λ (r : ℕ × ℕ). across_label upto r.0 depth (Rank r.1)) (λ (f : ℕ). (n, f)) (below (factors t))))
    ∙ ap (λ (ls : List Label). map (λ (r : ℕ × ℕ). across_label upto r.0 depth (Rank r.1)) (map (λ (f : ℕ). (n, f)) (below (factors t))) ++ ls)
    (ranks-are upto depth (suc n) ts)
    ∙ sym (map-append (λ (r : ℕ × ℕ). across_label upto r.0 depth (Rank r.1)) (map (λ (f : ℕ). (n, f)) (below (factors t))) (pairs (suc n) ts))

pub pairs-length : (n : ℕ) (ts : List Plan) → length (pairs n ts) ≡ all_factors ts
pairs-length n [] = refl
pairs-length n (t ∷ ts) =
    let a = length-append (map (λ (f : ℕ). (n, f)) (below (factors t))) (pairs (suc n) ts) in
    let b = length-map-range_with_len {X = ℕ × ℕ} (λ (f : ℕ). (n, f)) 0 (factors t) in
    let c = pairs-length (suc n) ts in
    omega (arith, a, b, c)

-- as many labels as factors
pub ranks_counted : (upto depth n : ℕ) (ts : List Plan) → length (rank_labels upto depth n ts) ≡ all_factors ts
ranks_counted upto depth n ts =
    ap length (ranks-are upto depth n ts)
    ∙ length-map (pairs n ts) (λ (r : ℕ × ℕ). across_label upto r.0 depth (Rank r.1))
    ∙ pairs-length n ts

each-append : (m : ℕ) (xs ys : List (ℕ × ℕ)) → Each (λ (r : ℕ × ℕ). r.0 < m) xs → Each (λ (r : ℕ × ℕ). r.0 < m) ys → Each (λ (r : ℕ × ℕ). r.0 < m) (xs ++ ys)
each-append m [] ys a b = b
each-append m (x ∷ xs) ys a b = (a.0, each-append m xs ys a.1 b)

each-of : (m n : ℕ) → n < m → (fs : List ℕ) → Each (λ (r : ℕ × ℕ). r.0 < m) (map (λ f. (n, f)) fs)
each-of m n l [] = tt
each-of m n l (f ∷ fs) = (l, each-of m n l fs)

pub pairs-early : (m n : ℕ) (ts : List Plan) → n + length ts ≤ m → Each (λ (r : ℕ × ℕ). r.0 < m) (pairs n ts)
pairs-early m n [] l = tt
pairs-early m n (t ∷ ts) l =
    each-append m (map (λ f. (n, f)) (below (factors t))) (pairs (suc n) ts) (each-of m n (omega (arith, l)) (below (factors t)))
    (pairs-early m (suc n) ts (omega (arith, l)))

pub pairs-more : (n : ℕ) (ts : List Plan) (t : Plan) → pairs n (ts ++ t ∷ []) ≡ pairs n ts ++ map (λ f. (n + length ts, f)) (below (factors t))
pairs-more n [] t =
    let e : n ≡ n + 0 = omega arith in
    append-nil (map (λ f. (n, f)) (below (factors t))) ∙ ap (λ (k : ℕ). map (λ f. (k, f)) (below (factors t))) e
pairs-more n (u ∷ ts) t =
    let e : suc n + length ts ≡ n + suc (length ts) = omega arith in
    ap (λ (rs : List (ℕ × ℕ)). map (λ f. (n, f)) (below (factors u)) ++ rs)
    (pairs-more (suc n) ts t ∙ ap (λ (k : ℕ). pairs (suc n) ts ++ map (λ f. (k, f)) (below (factors t))) e)
    ∙ sym (append_assoc (map (λ f. (n, f)) (below (factors u))) (pairs (suc n) ts) (map (λ f. (n + suc (length ts), f)) (below (factors t))))

-- ---- the plans of a program

pub plans-count : (p : Program) → length (plans_of p) ≡ length p.terms
plans-count p = length-map-range_with_len (plan_at p) 0 (length p.terms)

pub plan-is : (p : Program) (n : ℕ) → n < length p.terms → get_or (plans_of p) n no_plan ≡ plan_at p n
plan-is p n l = get_or-map-range_with_len (plan_at p) 0 (length p.terms) n n no_plan l (omega arith)

-- with one term more
pub plans-more : (p : Program) (n : ℕ) → n < length p.terms → take (suc n) (plans_of p) ≡ take n (plans_of p) ++ plan_at p n ∷ []
plans-more p n l =
    take-suc (plans_of p) n no_plan (let c = plans-count p in omega (arith, c, l))
    ∙ ap (λ (t : Plan). take n (plans_of p) ++ t ∷ []) (plan-is p n l)
