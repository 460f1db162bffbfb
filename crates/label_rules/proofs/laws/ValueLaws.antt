-- The root, the products and the constants of a term: what is told of each prefix of one tree.
use Rattle.std.specs.Prelude.{cond, Bool, None, true, ◌≡◌, ◌<◌, ◌≤◌, ℕ, suc, ◌*◌, ◌%◌, ◌^◌, List, [], ◌∷◌, length, take, Some, refl}
use Rattle.std.proofs.Common.{arith, sym, ◌∙◌, ap, mul-one}
use Rattle.std.proofs.Math.Nat.{mod-mod}
use Rattle.std.proofs.lemmas.List.{take_all}
use Rattle.sam_model.specs.Tensors.{value_at}
use Rattle.stream_tokens.specs.declared.Token.{Token}
use Rattle.stream_tokens.specs.Nest.{Leaf, leaf, Fiber}
use Rattle.stream_tokens.specs.Flat.{flat}
use Rattle.block_core.specs.Ports.{port}
use Rattle.block_core.specs.Arithmetic.{Operation, Times, combined_leaf}
use Rattle.block_core.specs.Kind.{outputs, RootKind, AluKind, ConstKind}
use Rattle.block_core.proofs.Given.{Gives, gives, const-gives, alu-over}
use Rattle.stream_model.specs.declared.labels.Attr.{Attr}
use Rattle.stream_model.specs.declared.labels.Attr.TheVariants.{Coordinate, Rank, FactorValue, Partial, Whole, Literal}
use Rattle.stream_model.specs.Grow.{path_fibers}
use Rattle.stream_model.specs.Terms.{Operand, TermData, restricted, access_at, partial_product}
use Rattle.stream_model.specs.Labels.{Shape, root_shape, product_shape, last, token, stream_at}
use Rattle.stream_model.proofs.Grown.{EachToken-always}
use Rattle.stream_model.proofs.Bridges.{root-rank, partial-more, whole-partial, whole-plain}
use Rattle.stream_model.proofs.Streams.{stream_at-flat}
use Rattle.label_rules.proofs.laws.ItemStreams.{gives-same, flat-ext, on_leaf, tellings-changed}
use Rattle.label_rules.proofs.laws.ProductTrees.{product_stream}
use Rattle.stream_model.proofs.Levels.{stream-over, told-flows}
use Rattle.stream_model.specs.Tellings.{Telling, told}
use Rattle.label_rules.proofs.laws.Following.{paths-shaped}

-- ---- the root

-- the root gives the reference 0
pub root-gives : Gives RootKind [] (stream_at root_shape (Literal 0) ∷ [])
root-gives = gives RootKind tt [] (stream_at root_shape (Literal 0) ∷ []) refl tt refl refl tt

-- which is the rank of every access, before the first loop
pub root-reference : (t : TermData) (mask : List Bool) (f : ℕ)
    → product_stream t 0 mask (Rank f) ≡ stream_at root_shape (Literal 0)
root-reference t mask f =
    stream_at-flat (product_shape t 0 mask) (Rank f)
    ∙ ap (flat leaf) (root-rank t mask f)
    ∙ sym (stream_at-flat root_shape (Literal 0))

-- ---- one tree

-- the prefixes of a tree
abbrev pub paths_of : Shape → List (Fiber (List ℕ))
paths_of s = path_fibers s.ok s.sizes s.depth

-- what is told alike of each prefix makes the same stream
pub told-alike : (s : Shape) (a : Attr) (x : List ℕ → Leaf) → ((p : List ℕ) → x p ≡ token s a p)
    → flat (λ p. leaf (x p)) (paths_of s) ≡ stream_at s a
told-alike s a x h =
    flat-ext (λ (p : List ℕ). Unit {0}) (λ p. leaf (x p)) (λ p. leaf (token s a p)) (λ p e. ap leaf (h p)) (paths_of s)
    (EachToken-always (λ (p : List ℕ). Unit {0}) (λ p. tt) (paths_of s))
    ∙ sym (stream-over s a)

-- an operation on what is told of each prefix of any tree
pub alu-law : (op : Operation) (x y : Telling) (ok : List ℕ → Bool) (sizes : List ℕ) (d : ℕ) → d ≤ 200
    → Gives (AluKind op) (told x (path_fibers ok sizes d) ∷ told y (path_fibers ok sizes d) ∷ [])
    (told (λ p. combined_leaf op (x p) (y p)) (path_fibers ok sizes d) ∷ [])
alu-law op x y ok sizes d h =
    alu-over op x y (path_fibers ok sizes d) (paths-shaped ok sizes d) (told-flows x ok sizes d h, (told-flows y ok sizes d h, tt))

-- two values of each prefix, and what an operation makes of them
pub combined-gives : (op : Operation) (s : Shape) (a b c : Attr) → s.depth ≤ 200
    → ((p : List ℕ) → combined_leaf op (token s a p) (token s b p) ≡ token s c p)
    → Gives (AluKind op) (stream_at s a ∷ stream_at s b ∷ []) (stream_at s c ∷ [])
combined-gives op s a b c h e =
    gives-same (AluKind op) _ _ _ _ (rw (stream-over s a, stream-over s b) refl)
    (ap (λ (x : List Token). x ∷ []) (told-alike s c (λ p. combined_leaf op (token s a p) (token s b p)) e))
    (alu-law op (token s a) (token s b) s.ok s.sizes s.depth h)

-- ---- products

one_factor : (accesses : List Operand) (p : List ℕ) → 0 < length accesses
    → value_at (access_at accesses 0).tensor (restricted (access_at accesses 0) p) ≡ partial_product (take 1 accesses) p
one_factor [] p h = absurd (omega (arith, h))
one_factor (a ∷ accesses) p h = sym (ap (λ (n : ℕ). n % 2 ^ 64) (mul-one _) ∙ mod-mod _ (2 ^ 64))

-- the first factor is the product of one
pub first-partial : (t : TermData) (d : ℕ) (mask : List Bool) → 0 < length t.accesses
    → product_stream t d mask (FactorValue 0) ≡ product_stream t d mask (Partial 1)
first-partial t d mask h =
    stream-over (product_shape t d mask) (FactorValue 0)
    ∙ told-alike (product_shape t d mask) (Partial 1) (token (product_shape t d mask) (FactorValue 0))
    (λ p. ap Some (one_factor t.accesses p h))

-- one factor more
pub product-gives : (t : TermData) (d k : ℕ) (mask : List Bool) → k < length t.accesses → d ≤ 200
    → Gives (AluKind Times)
    (product_stream t d mask (Partial k) ∷ product_stream t d mask (FactorValue k) ∷ [])
    (product_stream t d mask (Partial (suc k)) ∷ [])
product-gives t d k mask h few =
    combined-gives Times (product_shape t d mask) (Partial k) (FactorValue k) (Partial (suc k)) few
    (λ p. ap Some (sym (partial-more t.accesses k p h)))

-- ---- the literals

-- a constant in place of each number that is told of the prefixes of any tree
pub const-law : (c : ℕ) (x : Telling) (ok : List ℕ → Bool) (sizes : List ℕ) (d : ℕ) → d ≤ 200
    → Gives (ConstKind c) (told x (path_fibers ok sizes d) ∷ []) (told (λ p. on_leaf (λ _. c) (x p)) (path_fibers ok sizes d) ∷ [])
const-law c x ok sizes d h =
    gives-same (ConstKind c) _ _ _ _ refl (ap (λ (s : List Token). s ∷ []) (tellings-changed (λ _. c) x (path_fibers ok sizes d)))
    (const-gives c (told x (path_fibers ok sizes d)) (told-flows x ok sizes d h, tt))

-- a constant beside each number that is told of a tree
pub constant-beside : (s : Shape) (a : Attr) (x : List ℕ → ℕ) (c : ℕ) → s.depth ≤ 200 → ((p : List ℕ) → Some (x p) ≡ token s a p)
    → ((p : List ℕ) → Some c ≡ token s (Literal c) p)
    → Gives (ConstKind c) (stream_at s a ∷ []) (stream_at s (Literal c) ∷ [])
constant-beside s a x c h e k =
    gives-same (ConstKind c) _ _ _ _ (ap (λ (t : List Token). t ∷ []) (sym (stream-over s a)))
    (ap (λ (t : List Token). t ∷ [])
    (told-alike s (Literal c) (λ p. on_leaf (λ _. c) (token s a p)) (λ p. ap (on_leaf (λ _. c)) (sym (e p)) ∙ k p)))
    (const-law c (token s a) s.ok s.sizes s.depth h)

-- a constant beside each coordinate of a tree
pub constant-on : (s : Shape) (c : ℕ) → s.depth ≤ 200 → ((p : List ℕ) → s.has p ≡ true)
    → Gives (ConstKind c) (stream_at s Coordinate ∷ []) (stream_at s (Literal c) ∷ [])
constant-on s c h all = constant-beside s Coordinate last c h (λ p. refl) (λ p. ap (λ b. cond b (Some c) None) (sym (all p)))

-- a constant beside each product
pub constant-gives : (t : TermData) (d c k : ℕ) (mask : List Bool) → d ≤ 200
    → Gives (ConstKind c) (product_stream t d mask (Partial k) ∷ []) (product_stream t d mask (Literal c) ∷ [])
constant-gives t d c k mask h = constant-beside (product_shape t d mask) (Partial k) (partial_product (take k t.accesses)) c h (λ p. refl) (λ p. refl)

all_factors : (t : TermData) (p : List ℕ) → partial_product (take (length t.accesses) t.accesses) p ≡ partial_product t.accesses p
all_factors t p = ap (λ (accesses : List Operand). partial_product accesses p) (take_all (length t.accesses) t.accesses (omega arith))

-- the product of all factors with the term's coefficient
pub whole-gives : (t : TermData) (d : ℕ) (mask : List Bool) → d ≤ 200
    → Gives (AluKind Times)
    (product_stream t d mask (Partial (length t.accesses)) ∷ product_stream t d mask (Literal t.coefficient) ∷ [])
    (product_stream t d mask Whole ∷ [])
whole-gives t d mask h =
    combined-gives Times (product_shape t d mask) (Partial (length t.accesses)) (Literal t.coefficient) Whole h
    (λ p. ap Some (ap (λ (n : ℕ). (n * t.coefficient) % 2 ^ 64) (all_factors t p) ∙ sym (whole-partial t p)))

-- which is that product alone, where there is nothing to multiply by
pub whole-is-partial : (t : TermData) (d : ℕ) (mask : List Bool) → t.coefficient ≡ 1
    → product_stream t d mask (Partial (length t.accesses)) ≡ product_stream t d mask Whole
whole-is-partial t d mask h =
    stream-over (product_shape t d mask) (Partial (length t.accesses))
    ∙ told-alike (product_shape t d mask) Whole (token (product_shape t d mask) (Partial (length t.accesses)))
    (λ p. ap Some (all_factors t p ∙ sym (whole-plain t p h)))

-- where the same coordinates are told of two trees, so is the same constant
pub same-marks : (a b : Shape) (c : ℕ) → a.depth ≤ 200 → b.depth ≤ 200
    → ((p : List ℕ) → a.has p ≡ true) → ((p : List ℕ) → b.has p ≡ true) → stream_at a Coordinate ≡ stream_at b Coordinate
    → stream_at a (Literal c) ≡ stream_at b (Literal c)
same-marks a b c h k all every e =
    let x = (constant-on a c h all).made_of in
    let y = (constant-on b c k every).made_of in
    ap (port 0) (sym x ∙ ap (λ (s : List Token). outputs (ConstKind c) (s ∷ [])) e ∙ y)
