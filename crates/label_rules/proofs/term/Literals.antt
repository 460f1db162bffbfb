-- The product of the literals among factors, modulo 2^64.
use Rattle.std.proofs.Common.{◌≡◌, ◌∙◌, ◌<◌, ap, sym, ℕ, ◌+◌, ◌*◌, ◌%◌, ◌^◌, List, ◌∷◌, suc, length, get_or, drop, drop-cons, add-one}
use Rattle.std.proofs.Math.Nat.{mul_assoc}
use Rattle.std.proofs.lemmas.Nat.{mul-mod_first}
use Rattle.sam_model.specs.declared.program.Factor.{Factor}
use Rattle.sam_model.specs.declared.program.Factor.TheVariants.{Literal}
use Rattle.stream_model.specs.Terms.{literals_of}

next_literal : (fs : List Factor) (i : ℕ) (f : Factor) (n : ℕ) → i < length fs → f ≡ get_or fs i f → f ≡ Literal n
    → literals_of (drop i fs) ≡ n * literals_of (drop (i + 1) fs)
next_literal fs i f n h k e =
    rw add-one (ap literals_of (drop-cons fs i f h ∙ ap (λ g. g ∷ drop (suc i) fs) (sym k ∙ e)))

-- a product with the literals from place i on, where a literal stands there
pub literal-moved : (p : ℕ) (fs : List Factor) (i : ℕ) (f : Factor) (n : ℕ) → i < length fs → f ≡ get_or fs i f → f ≡ Literal n
    → ((p * n) % 2 ^ 64 * literals_of (drop (i + 1) fs)) % 2 ^ 64 ≡ (p * literals_of (drop i fs)) % 2 ^ 64
literal-moved p fs i f n h k e =
    let rest = literals_of (drop (i + 1) fs) in
    mul-mod_first (p * n) rest (2 ^ 64)
    ∙ ap (λ m. m % 2 ^ 64) (mul_assoc p n rest ∙ sym (ap (λ m. p * m) (next_literal fs i f n h k e)))
