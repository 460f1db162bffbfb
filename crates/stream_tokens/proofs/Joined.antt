-- Tokens joined by a space, from the first on.
use Rattle.std.specs.Prelude.{◌≡◌, ◌≤◌, ◌<◌, ℕ, ◌+◌, zero, suc, List, [], ◌∷◌, ◌++◌, length, take, get_or, refl}
use Rattle.std.proofs.Common.{arith, add-one, sym, ◌∙◌, ap, append_assoc, append-nil}
use Rattle.stream_tokens.specs.declared.Token.{Token}
use Rattle.stream_tokens.specs.Texts.{token_bytes, stream_bytes}

-- each token after a space
abbrev pub spaced : List Token → List ℕ
spaced [] = []
spaced (t ∷ ts) = 32 ∷ (token_bytes t ++ spaced ts)

pub stream_bytes-spaced : (t : Token) (ts : List Token) → stream_bytes (t ∷ ts) ≡ token_bytes t ++ spaced ts
stream_bytes-spaced t [] = sym (append-nil (token_bytes t))
stream_bytes-spaced t (u ∷ ts) = ap (λ (x : List ℕ). token_bytes t ++ (32 ∷ x)) (stream_bytes-spaced u ts)

pub spaced-push : (ts : List Token) (t : Token) → spaced (ts ++ t ∷ []) ≡ (spaced ts ++ 32 ∷ []) ++ token_bytes t
spaced-push [] t = ap (λ (x : List ℕ). 32 ∷ x) (append-nil (token_bytes t))
spaced-push (u ∷ ts) t =
    ap (λ (x : List ℕ). 32 ∷ (token_bytes u ++ x)) (spaced-push ts t ∙ append_assoc (spaced ts) (32 ∷ []) (token_bytes t))
    ∙ ap (λ (x : List ℕ). 32 ∷ x)
    (sym (append_assoc (token_bytes u) (spaced ts) (32 ∷ token_bytes t)))
    ∙ ap (λ (x : List ℕ). 32 ∷ x) (sym (append_assoc (token_bytes u ++ spaced ts) (32 ∷ []) (token_bytes t)))

take-past : (ts : List Token) (n : ℕ) → length ts ≤ n → take n ts ≡ ts
take-past [] zero b = refl
take-past [] (suc n) b = refl
take-past (t ∷ ts) zero b = absurd (omega (arith, b))
take-past (t ∷ ts) (suc n) b = ap (λ (x : List Token). t ∷ x) (take-past ts n (omega (arith, b)))

-- after the last token the text is whole
pub text-done : (text head : List ℕ) (t : Token) (others s : List Token) (n : ℕ) → text ≡ head ++ spaced (take n others)
    → head ≡ token_bytes t → s ≡ t ∷ others → length others ≤ n → text ≡ stream_bytes s
text-done text head t others s n e f g b =
    e ∙ ap (λ (x : List ℕ). x ++ spaced (take n others)) f ∙ ap (λ (x : List Token). token_bytes t ++ spaced x) (take-past others n b)
    ∙ sym (stream_bytes-spaced t others) ∙ ap stream_bytes (sym g)

take-next : (ts : List Token) (n : ℕ) (d : Token) → n < length ts → take (suc n) ts ≡ take n ts ++ get_or ts n d ∷ []
take-next [] n d b = absurd (omega (arith, b))
take-next (t ∷ ts) zero d b = refl
take-next (t ∷ ts) (suc n) d b = ap (λ (x : List Token). t ∷ x) (take-next ts n d (omega (arith, b)))

-- one token more
pub text-more : (text head more next : List ℕ) (others : List Token) (n : ℕ) (d : Token) → text ≡ head ++ spaced (take n others) → n < length others
    → more ≡ text ++ 32 ∷ [] → next ≡ more ++ token_bytes (get_or others n d) → next ≡ head ++ spaced (take (n + 1) others)
text-more text head more next others n d e b f g =
    let t : Token = get_or others n d in
    let done : List Token = take n others in
    g ∙ ap (λ (x : List ℕ). x ++ token_bytes t) f
    ∙ ap (λ (x : List ℕ). (x ++ 32 ∷ []) ++ token_bytes t) e
    ∙ ap (λ (x : List ℕ). x ++ token_bytes t) (append_assoc head (spaced done) (32 ∷ []))
    ∙ append_assoc head (spaced done ++ 32 ∷ []) (token_bytes t)
    ∙ ap (λ (x : List ℕ). head ++ x) (sym (spaced-push done t))
    ∙ ap (λ (x : List Token). head ++ spaced x) (sym (take-next others n d b))
    ∙ ap (λ (x : ℕ). head ++ spaced (take x others)) (sym (add-one n))
