-- What the messages of a channel carry, when one joins or leaves.
use Rattle.std.proofs.Common.{◌≡◌, ℕ, ◌+◌, ◌-◌, ◌≤◌, Bool, true, false, not, ◌&&◌, true≢false, List, [], ◌∷◌, ◌++◌, map, length, take, drop, sym, refl, ap, ◌∙◌, arith, append_assoc, length-append, length-drop}
use Rattle.std.specs.Prelude.{slice_range}
use Rattle.std.proofs.lemmas.List.{map-append, append-nil, drop-drop, drop-take, take-take, length-take-le}
use Rattle.std.proofs.Math.Seq.{take-add, take-append_seam, drop-append_seam}
use Rattle.stream_tokens.specs.declared.Token.{Token}
use Rattle.ruled_wires.specs.declared.message.Sent.{Sent}
use Rattle.ruled_wires.specs.declared.message.Sent.TheVariants as sent
use Rattle.ruled_wires.specs.declared.message.Message.{Message}
use Rattle.ruled_wires.specs.Rule.{held_of, lost_if, carried, carried_by, tokens_of, is_lost}

pub not-true : (b : Bool) → (b ≡ true → ⊥) → b ≡ false
not-true true never = absurd (never refl)
not-true false _ = refl

pub range-none : (s : List Token) (a b : ℕ) → a ≡ b → slice_range s a b ≡ []
range-none s a b e = let z : b - a ≡ 0 = omega arith in ap (λ k. take k (drop a s)) z

-- a range and the k tokens behind it
pub range-join : (s : List Token) (a b k : ℕ) → a ≤ b → slice_range s a (b + k) ≡ slice_range s a b ++ slice_range s b (b + k)
range-join s a b k le =
    let n : b + k - a ≡ (b - a) + k = omega arith in
    let m : b + k - b ≡ k = omega arith in
    let there : a + (b - a) ≡ b = omega arith in
    ap (λ x. take x (drop a s)) n ∙ take-add (b - a) k (drop a s)
    ∙ ap (λ l. take (b - a) (drop a s) ++ take k l) (drop-drop (b - a) a s ∙ ap (λ x. drop x s) there)
    ∙ ap (λ x. slice_range s a b ++ take x (drop b s)) (sym m)

pub length-range : (s : List Token) (a b : ℕ) → b ≤ length s → length (slice_range s a b) ≡ b - a
length-range s a b within =
    let d : length (drop a s) ≡ length s - a = length-drop a s in
    length-take-le (b - a) (drop a s) (omega arith)

-- a range begins with k tokens: they are a range, and so is the rest
pub range-cut : (s ts zs : List Token) (a b : ℕ) → a ≤ b → b ≤ length s → slice_range s a b ≡ ts ++ zs
    → (a + length ts ≤ b) × (slice_range s a (a + length ts) ≡ ts) × (slice_range s (a + length ts) b ≡ zs)
range-cut s ts zs a b le within is =
    let long : length ts + length zs ≡ b - a = sym (length-append ts zs) ∙ ap length (sym is) ∙ length-range s a b within in
    let fits : a + length ts ≤ b = omega arith in
    let k : ℕ = length ts in
    let m : ℕ = b - (a + k) in
    let same : k + m ≡ b - a = omega arith in
    let below : k ≤ b - a = omega arith in
    let one : a + k - a ≡ k = omega arith in (
      fits,
      ap (λ x. take x (drop a s)) one ∙ sym (take-take k (b - a) (drop a s) below) ∙ ap (λ l. take k l) is ∙ take-append_seam ts zs,
      ap (λ l. take m l) (sym (drop-drop k a s)) ∙ sym (drop-take k m (drop a s)) ∙ ap (λ x. drop k (take x (drop a s))) same
          ∙ ap (λ l. drop k l) is ∙ drop-append_seam ts zs,
    )

pub carried-more : (items : List Message) (m : Message) → carried_by (items ++ m ∷ []) ≡ carried_by items ++ carried m
carried-more [] m = append-nil (carried m)
carried-more (x ∷ items) m = ap (λ l. carried x ++ l) (carried-more items m) ∙ sym (append_assoc (carried x) (carried_by items) (carried m))

-- a message joins at the back
pub grow : (s : List Token) (a b : ℕ) (m : Message) (pl tl : Bool) (items : List Message) → a ≤ b
    → slice_range s b (b + length (tokens_of m)) ≡ tokens_of m → pl ≡ false → tl ≡ false
    → carried_by items ≡ held_of s a b pl tl → carried_by (items ++ m ∷ []) ≡ held_of s a (b + length (tokens_of m)) (is_lost m) tl
grow s a b m true tl items le next unlost unlost' is = absurd (true≢false unlost)
grow s a b m false true items le next unlost unlost' is = absurd (true≢false unlost')
grow s a b m false false items le next unlost unlost' is =
    carried-more items m
    ∙ ap (λ l. l ++ carried m) (is ∙ append-nil (map sent.Token (slice_range s a b)))
    ∙ sym (append_assoc (map sent.Token (slice_range s a b)) (map sent.Token (tokens_of m)) (lost_if (is_lost m)))
    ∙ ap (λ l. l ++ lost_if (is_lost m)) (sym (map-append sent.Token (slice_range s a b) (tokens_of m))
    ∙ ap (λ l. map sent.Token (slice_range s a b ++ l)) (sym next) ∙ ap (λ l. map sent.Token l) (sym (range-join s a b (length (tokens_of m)) le)))
    ∙ ap (λ l. map sent.Token (slice_range s a (b + length (tokens_of m))) ++ lost_if l) (and-true (is_lost m))
  where
    and-true : (x : Bool) → x ≡ (x && true)
    and-true true = refl
    and-true false = refl

-- tokens in front of what is held are the first of its tokens
peel : (ts ys : List Token) (rest : List Sent) (lost : Bool) → map sent.Token ts ++ rest ≡ map sent.Token ys ++ lost_if lost
    → (zs : List Token) × (ys ≡ ts ++ zs) × (rest ≡ map sent.Token zs ++ lost_if lost)
peel [] ys rest lost e = (ys, refl, e)
peel (t ∷ ts) [] rest true e = absurd (cc)
peel (t ∷ ts) [] rest false e = absurd (cc)
peel (t ∷ ts) (y ∷ ys) rest lost e =
    let tail : map sent.Token ts ++ rest ≡ map sent.Token ys ++ lost_if lost = cc in
    let head : t ≡ y = cc in
    let p = peel ts ys rest lost tail in
    (p.0, ap (λ l. y ∷ l) p.1 ∙ ap (λ x. x ∷ (ts ++ p.0)) (sym head), p.2)

-- tokens leave at the front
pub front-tokens : (s ts : List Token) (a b : ℕ) (pl tl : Bool) (rest : List Sent) → a ≤ b → b ≤ length s
    → map sent.Token ts ++ rest ≡ held_of s a b pl tl
    → (a + length ts ≤ b) × (slice_range s a (a + length ts) ≡ ts) × (rest ≡ held_of s (a + length ts) b pl tl)
front-tokens s ts a b pl tl rest le within is =
    let p = peel ts (slice_range s a b) rest (pl && not tl) is in
    let c = range-cut s ts p.0 a b le within p.1 in
    (c.0, c.1, p.2 ∙ ap (λ l. map sent.Token l ++ lost_if (pl && not tl)) (sym c.2))

-- Lost leaves at the front: nothing else is held
pub front-lost : (s : List Token) (a b : ℕ) (pl tl : Bool) (rest : List Sent) → a ≤ b → b ≤ length s
    → sent.Lost ∷ rest ≡ held_of s a b pl tl → (a ≡ b) × (pl ≡ true) × (tl ≡ false) × (rest ≡ [])
front-lost s a b pl tl rest le within is = none (slice_range s a b) refl is
  where
    flags : (pl tl : Bool) → sent.Lost ∷ rest ≡ lost_if (pl && not tl) → (pl ≡ true) × (tl ≡ false) × (rest ≡ [])
    flags true true e = absurd (cc)
    flags true false e = let r : rest ≡ [] = cc in (refl, refl, r)
    flags false tl e = absurd (cc)

    none : (ys : List Token) → slice_range s a b ≡ ys → sent.Lost ∷ rest ≡ map sent.Token ys ++ lost_if (pl && not tl)
        → (a ≡ b) × (pl ≡ true) × (tl ≡ false) × (rest ≡ [])
    none [] empty e =
        let short : b - a ≡ 0 = sym (length-range s a b within) ∙ ap length empty in
        let f = flags pl tl e in
        (omega arith, f.0, f.1, f.2)
    none (y ∷ ys) empty e = absurd (cc)
