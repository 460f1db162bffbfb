-- The rules of products, constants and writers are sound.
use Rattle.std.specs.Prelude.{◌≡◌, ◌<◌, ◌≤◌, ℕ, suc, Bool, true, false, cond, List, [], ◌∷◌, length, take, eqb, Some, None, refl}
use Rattle.std.proofs.Common.{arith, sym, ◌∙◌, ap, subst, inl, inr}
use Rattle.std.proofs.lemmas.Bool.Decides.{nat_tests}
use Rattle.stream_tokens.specs.declared.Token.{Token}
use Rattle.sam_model.specs.declared.tensors.Entries.{Entries}
use Rattle.sam_model.specs.declared.program.Program.{Program}
use Rattle.sam_model.specs.Program.{accepted}
use Rattle.stream_model.specs.declared.labels.Tree.{Tree}
use Rattle.stream_model.specs.declared.labels.Tree.TheVariants.{Root, Product, Reduced, Joined, Beside, Across, Under, UnderReduced, UnderJoined}
use Rattle.stream_model.specs.declared.labels.Attr.{Attr}
use Rattle.stream_model.specs.declared.labels.Attr.TheVariants.{Coordinate, Rank, FactorValue, Partial, Whole, Value, Present, SideValue, Literal}
use Rattle.stream_model.specs.declared.labels.Label.{Label}
use Rattle.stream_model.specs.Terms.{TermData, access_at, restricted, partial_product, whole_product}
use Rattle.sam_model.specs.Tensors.{value_at}
use Rattle.stream_model.specs.Labels.{Shape, last, token, stream_at, shape_of, label_stream, term_at}
use Rattle.stream_model.specs.Masks.{final}
use Rattle.block_core.specs.Arithmetic.{Times}
use Rattle.block_core.specs.Kind.{AluKind, WriteLevelKind}
use Rattle.block_core.proofs.Given.{Gives, writevalue-gives}
use Rattle.graph.specs.declared.graphs.Kind.TheVariants as kind
use Rattle.label_rules.specs.Storages.{storages_of}
use Rattle.label_rules.proofs.term.Matching.{Matches}
use Rattle.label_rules.proofs.laws.ItemStreams.{gives-same}
use Rattle.label_rules.proofs.laws.ProductTrees.{product_stream}
use Rattle.label_rules.proofs.laws.ValueLaws.{constant-beside, first-partial, product-gives, whole-gives}
use Rattle.label_rules.proofs.laws.WriterLaw.{level-written}
use Rattle.label_rules.specs.Labels.{tree_label, IsOneOf, PortsAllow}
use Rattle.label_rules.specs.Named.{tree_level}
use Rattle.label_rules.specs.TermLabels.{plan_at, bottom_label, partial_labels, plan_coefficient, factor_count, loop_count}
use Rattle.label_rules.specs.Rules.{takes_constant}
use Rattle.label_rules.specs.Holding.{IsPlain, Shallow, Keeps}
use Rattle.label_rules.proofs.rules.TermRules.{matched, keeps, flows, depth_is, one-alone}
use Rattle.label_rules.proofs.rules.SumRule.{long, all-is, coefficient-is, two}

-- ---- constants

-- what a constant may stand beside is a number of each prefix
number_of : (s : Shape) (tree : Tree) (a : Attr) → takes_constant tree a ≡ true → ((q : List ℕ) → s.has q ≡ true)
    → (x : List ℕ → ℕ) × ((q : List ℕ) → Some (x q) ≡ token s a q)
number_of s tree Coordinate e all = (last, λ q. refl)
number_of s (Product t l m) (FactorValue f) e all =
    let x : List ℕ → ℕ = λ q. let o = access_at s.term.accesses f in value_at o.tensor (restricted o q) in
    (x, λ q. ap (λ b. cond b (Some (x q)) None) (sym (all q)))
number_of s (Product t l m) (Partial k) e all =
    let x : List ℕ → ℕ = partial_product (take k s.term.accesses) in
    (x, λ q. ap (λ b. cond b (Some (x q)) None) (sym (all q)))
number_of s (Product t l m) Whole e all =
    let x : List ℕ → ℕ = whole_product s.term in
    (x, λ q. ap (λ b. cond b (Some (x q)) None) (sym (all q)))
number_of s (Product t l m) (Rank f) e all = absurd (cc)
number_of s (Product t l m) Value e all = absurd (cc)
number_of s (Product t l m) (Present side) e all = absurd (cc)
number_of s (Product t l m) (SideValue side) e all = absurd (cc)
number_of s (Product t l m) (Literal n) e all = absurd (cc)
number_of s other a e all = absurd (cc)

-- a plain tree's term has every prefix
all-there : (p : Program) (es : List Entries) (tree : Tree) → IsPlain tree → (q : List ℕ) → (shape_of p es tree).has q ≡ true
all-there p es Root h q = refl
all-there p es (Product t l m) h q = refl
all-there p es (Reduced t g f d) h q = refl
all-there p es (Joined n d) h q = refl
all-there p es (Beside n s d) h q = refl
all-there p es (Across n t d) h q = absurd h
all-there p es (Under t l m) h q = refl
all-there p es (UnderReduced t g d) h q = refl
all-there p es (UnderJoined n f d) h q = refl

module _ (p : Program) (es : List Entries) (ok : accepted p ≡ true) (same : length es ≡ length p.tensors) where
  abbrev stream : Label → List Token
  stream l = label_stream p es l

  pub const-keeps : (c : ℕ) (l : Label) (ins outs : List Label) → takes_constant l.tree l.attr ≡ true → Shallow l → ins ≡ l ∷ []
      → outs ≡ tree_label l.tree (Literal c) ∷ [] → Keeps (storages_of p es) stream Shallow (kind.Const c) ins outs
  const-keeps c l ins outs e h i o =
      keeps p es ok same (kind.Const c) ins outs (l ∷ []) (tree_label l.tree (Literal c) ∷ []) i o (h, tt)
      (constant-beside s l.attr x.0 c (let d = depth_is p es ok same l.tree in let k = h.0 in omega (arith, d, k)) x.1
      (λ q. ap (λ b. cond b (Some c) None) (sym (all-there p es l.tree h.1 q))))
    where
      s : Shape
      s = shape_of p es l.tree

      x : (x : List ℕ → ℕ) × ((q : List ℕ) → Some (x q) ≡ token (shape_of p es l.tree) l.attr q)
      x = number_of (shape_of p es l.tree) l.tree l.attr e (all-there p es l.tree h.1)

  -- ---- products

  module _ (t : ℕ) (inside : t < length p.terms) where
    abbrev d_t : TermData
    d_t = term_at p es t

    m : Matches (storages_of p es) d_t (plan_at p t)
    m = matched p es ok same t inside

    abbrev all : Attr → List Token
    all a = product_stream d_t (length d_t.loops) (final d_t (length d_t.loops)) a

    low : loop_count p t ≤ 8
    low = let a = long p es ok same t inside in let f = m.few_loops in omega (arith, a, f)

    some : 0 < loop_count p t
    some = let a = long p es ok same t inside in let f = m.some_loop in omega (arith, a, f)

    -- the labels that the product of k factors may have
    products-alike : (k : ℕ) (l : Label) → IsOneOf l (partial_labels p t k) → stream l ≡ all (Partial k)
    products-alike k l (inl e) = ap stream e ∙ all-is p es ok same t inside (Partial k)
    products-alike k l (inr y) = by_case (eqb k 1) refl y
      where
        by_case : (b : Bool) → eqb k 1 ≡ b → IsOneOf l (cond b (bottom_label p t (FactorValue 0) ∷ []) []) → stream l ≡ all (Partial k)
        by_case true e (inl z) =
            let one : k ≡ 1 = grind (arith, nat_tests, e) in
            ap stream z ∙ all-is p es ok same t inside (FactorValue 0)
            ∙ first-partial d_t (length d_t.loops) (final d_t (length d_t.loops)) m.some_access
            ∙ ap (λ (n : ℕ). all (Partial n)) (sym one)
        by_case true e (inr z) = absurd z
        by_case false e z = absurd z

    pub whole-keeps : (ins outs : List Label) → PortsAllow (partial_labels p t (factor_count p t) ∷ (bottom_label p t (Literal (plan_coefficient p t)) ∷ []) ∷ []) ins
        → outs ≡ bottom_label p t Whole ∷ [] → Keeps (storages_of p es) stream Shallow kind.Mul ins outs
    whole-keeps ins outs i o =
        let x = two p es ok same t inside (partial_labels p t (factor_count p t)) (bottom_label p t (Literal (plan_coefficient p t)) ∷ []) ins i in
        let a : stream x.0 ≡ all (Partial (length d_t.accesses)) =
        products-alike (factor_count p t) x.0 x.3 ∙ ap (λ (n : ℕ). all (Partial n)) m.number in
        let b : stream x.1 ≡ all (Literal d_t.coefficient) =
        ap stream (one-alone x.1 _ x.4) ∙ all-is p es ok same t inside (Literal (plan_coefficient p t))
        ∙ ap (λ (n : ℕ). all (Literal n)) (coefficient-is p es ok same t inside) in
        let few = m.few_loops in
        keeps p es ok same kind.Mul ins outs (x.0 ∷ x.1 ∷ []) _ x.2 o ((low, some), tt)
        (gives-same (AluKind Times) _ _ _ _ (rw (a, b) refl) (ap (λ (s : List Token). s ∷ []) (sym (all-is p es ok same t inside Whole)))
        (whole-gives d_t (length d_t.loops) (final d_t (length d_t.loops)) (omega (arith, few))))

    pub product-keeps : (k : ℕ) (ins outs : List Label) → 0 < k → k < factor_count p t
        → PortsAllow (partial_labels p t k ∷ (bottom_label p t (FactorValue k) ∷ []) ∷ []) ins
        → outs ≡ bottom_label p t (Partial (suc k)) ∷ [] → Keeps (storages_of p es) stream Shallow kind.Mul ins outs
    product-keeps k ins outs h l i o =
        let x = two p es ok same t inside (partial_labels p t k) (bottom_label p t (FactorValue k) ∷ []) ins i in
        let a = products-alike k x.0 x.3 in
        let b : stream x.1 ≡ all (FactorValue k) = ap stream (one-alone x.1 _ x.4) ∙ all-is p es ok same t inside (FactorValue k) in
        let few = m.few_loops in
        let n = m.number in
        keeps p es ok same kind.Mul ins outs (x.0 ∷ x.1 ∷ []) _ x.2 o ((low, some), tt)
        (gives-same (AluKind Times) _ _ _ _ (rw (a, b) refl) (ap (λ (s : List Token). s ∷ []) (sym (all-is p es ok same t inside (Partial (suc k)))))
        (product-gives d_t (length d_t.loops) k (final d_t (length d_t.loops)) (omega (arith, l, n)) (omega (arith, few))))

  -- ---- writers

  pub level-keeps : (d : ℕ) (l : Label) (ins : List Label) → ins ≡ l ∷ [] → l.attr ≡ Coordinate → tree_level l.tree ≡ suc d → Shallow l
      → Keeps (storages_of p es) stream Shallow (kind.WriteLevel (suc d)) ins []
  level-keeps d l ins i a e h =
      keeps p es ok same (kind.WriteLevel (suc d)) ins [] (l ∷ []) [] i refl tt
      (subst (λ (x : Attr). Gives (WriteLevelKind (suc d)) (stream_at (shape_of p es l.tree) x ∷ []) []) (sym a)
      (level-written (suc d) (shape_of p es l.tree) d (depth_is p es ok same l.tree ∙ e)
      (let k = h.0 in let f = depth_is p es ok same l.tree in omega (arith, k, f))))

  pub values-keep : (l : Label) (ins : List Label) → ins ≡ l ∷ [] → Shallow l → Keeps (storages_of p es) stream Shallow kind.WriteValue ins []
  values-keep l ins i h =
      keeps p es ok same kind.WriteValue ins [] (l ∷ []) [] i refl tt (writevalue-gives (stream l) (flows p es ok same l h, tt))
