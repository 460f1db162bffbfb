-- Numbers after spaces, from the first on.
use Rattle.std.proofs.Common.{◌≡◌, ◌≤◌, ◌<◌, ℕ, ◌+◌, List, ◌∷◌, ◌++◌, length, drop, get_or, decimal, sym, ap, ◌∙◌, append_assoc, append-nil, add-one, drop_of_length-le, drop-cons}
use Rattle.stream_model.specs.Texts.{spaced}

-- one number more
pub spaced-more : (text more whole ns : List ℕ) (n k : ℕ) → text ++ spaced (drop n ns) ≡ whole → n < length ns
    → k ≡ get_or ns n 0 → more ≡ text ++ (32 ∷ decimal k) → more ++ spaced (drop (n + 1) ns) ≡ whole
spaced-more text more whole ns n k e h i m =
    ap (λ (x : List ℕ). x ++ spaced (drop (n + 1) ns)) (m ∙ ap (λ (x : ℕ). text ++ (32 ∷ decimal x)) i)
    ∙ append_assoc text (32 ∷ decimal (get_or ns n 0)) (spaced (drop (n + 1) ns))
    ∙ ap (λ (x : List ℕ). text ++ (32 ∷ (decimal (get_or ns n 0) ++ spaced x))) (ap (λ (k : ℕ). drop k ns) (add-one n))
    ∙ ap (λ (x : List ℕ). text ++ spaced x) (sym (drop-cons ns n 0 h))
    ∙ e

-- after the last number the text is whole
pub spaced-done : (text whole ns : List ℕ) (n : ℕ) → text ++ spaced (drop n ns) ≡ whole → length ns ≤ n → text ≡ whole
spaced-done text whole ns n e h =
    sym (append-nil text) ∙ ap (λ (x : List ℕ). text ++ spaced x) (sym (drop_of_length-le ns h)) ∙ e
