-- Lines of channels.
use Rattle.std.proofs.Common.{◌≡◌, ◌<◌, ◌≤◌, ◌+◌, ◌-◌, ℕ, suc, ap, sym, refl, arith, List, [], ◌∷◌, ◌++◌, length, append-nil}
use Rattle.std.specs.List.{flat_map, range_with_len}
use Rattle.sam_model.specs.Lists.{below}
use Rattle.sam_model.proofs.Lists.{flat_map-ext-each, Each-range}
use Rattle.stream_tokens.specs.declared.Token.{Token}
use Rattle.stream_tokens.specs.Texts.{token_bytes, stream_bytes}
use Rattle.traces.specs.Traces.{spaced_tokens, channel_line, lines_of}

-- the text of a stream that has a token, behind a space
pub spaced-text : (t : Token) (ts : List Token) → 32 ∷ stream_bytes (t ∷ ts) ≡ spaced_tokens (t ∷ ts)
spaced-text t [] = ap (λ (x : List ℕ). 32 ∷ x) (sym (append-nil (token_bytes t)))
spaced-text t (u ∷ ts) = ap (λ (x : List ℕ). 32 ∷ (token_bytes t ++ x)) (spaced-text u ts)

pub spaced-stream : (ts : List Token) → 0 < length ts → 32 ∷ stream_bytes ts ≡ spaced_tokens ts
spaced-stream [] long = absurd (omega (arith, long))
spaced-stream (t ∷ ts) long = spaced-text t ts

pub spaced-none : (ts : List Token) → length ts ≤ 0 → spaced_tokens ts ≡ []
spaced-none [] short = refl
spaced-none (t ∷ ts) short = absurd (omega (arith, short))

-- the lines of all channels from one on
abbrev pub lines_from : ℕ → ℕ → (ℕ → List Token) → List ℕ
lines_from c n tokens = flat_map (λ (d : ℕ). channel_line d (tokens d)) (range_with_len c (n - c))

pub lines-next : (c n : ℕ) (tokens : ℕ → List Token) → c < n → lines_from c n tokens ≡ channel_line c (tokens c) ++ lines_from (c + 1) n tokens
lines-next c n tokens below =
    let left : n - c ≡ suc (n - (c + 1)) = omega (arith, below) in
    ap (λ (k : ℕ). flat_map (λ (d : ℕ). channel_line d (tokens d)) (range_with_len c k)) left

pub lines-end : (c n : ℕ) (tokens : ℕ → List Token) → n ≤ c → lines_from c n tokens ≡ []
lines-end c n tokens end =
    let left : n - c ≡ 0 = omega (arith, end) in
    ap (λ (k : ℕ). flat_map (λ (d : ℕ). channel_line d (tokens d)) (range_with_len c k)) left

-- the same tokens on each channel make the same lines
pub lines-alike : (n : ℕ) (f g : ℕ → List Token) → ((c : ℕ) → c < n → f c ≡ g c) → lines_of n f ≡ lines_of n g
lines-alike n f g same =
    flat_map-ext-each (λ (c : ℕ). c < n) (λ (c : ℕ). channel_line c (f c)) (λ (c : ℕ). channel_line c (g c))
    (λ c inside. ap (channel_line c) (same c inside)) (below n) (Each-range 0 n n (omega arith))
