-- The tokens that a beginning of a list of moves takes and puts.
use Rattle.std.specs.Prelude.{◌≡◌, ℕ, zero, suc, ◌≤◌, Bool, true, false, cond, eqb, List, [], ◌∷◌, ◌++◌, length, take}
use Rattle.std.specs.Prelude.{drop, slice_get, Some}
use Rattle.std.proofs.Common.{arith, refl, sym, ◌∙◌, ap, length-append}
use Rattle.std.proofs.lemmas.Bool.{eq-eqb, ne_eqb}
use Rattle.std.proofs.lemmas.List.{take-append-drop, take-take}
use Rattle.stream_tokens.specs.declared.Token.{Token}
use Rattle.block_core.specs.Move.{Move, Taking, Putting, takes, puts}

pub takes-append : (p : ℕ) (xs ys : List Move) → takes p (xs ++ ys) ≡ takes p xs ++ takes p ys
takes-append p [] ys = refl
takes-append p (Taking q t ∷ xs) ys = by_case (takes-append p xs ys) (eqb q p)
  where
    by_case : takes p (xs ++ ys) ≡ takes p xs ++ takes p ys → (b : Bool)
        → cond b (t ∷ takes p (xs ++ ys)) (takes p (xs ++ ys)) ≡ cond b (t ∷ takes p xs) (takes p xs) ++ takes p ys
    by_case e true = ap (λ (z : List Token). t ∷ z) e
    by_case e false = e
takes-append p (Putting q t ∷ xs) ys = takes-append p xs ys

pub puts-append : (p : ℕ) (xs ys : List Move) → puts p (xs ++ ys) ≡ puts p xs ++ puts p ys
puts-append p [] ys = refl
puts-append p (Taking q t ∷ xs) ys = puts-append p xs ys
puts-append p (Putting q t ∷ xs) ys = by_case (puts-append p xs ys) (eqb q p)
  where
    by_case : puts p (xs ++ ys) ≡ puts p xs ++ puts p ys → (b : Bool)
        → cond b (t ∷ puts p (xs ++ ys)) (puts p (xs ++ ys)) ≡ cond b (t ∷ puts p xs) (puts p xs) ++ puts p ys
    by_case e true = ap (λ (z : List Token). t ∷ z) e
    by_case e false = e

-- what the first n moves take, and then what the rest takes, is all that is taken
pub takes_split : (p n : ℕ) (ms : List Move) → takes p (take n ms) ++ takes p (drop n ms) ≡ takes p ms
takes_split p n ms = sym (takes-append p (take n ms) (drop n ms)) ∙ ap (takes p) (take-append-drop n ms)

pub puts_split : (p n : ℕ) (ms : List Move) → puts p (take n ms) ++ puts p (drop n ms) ≡ puts p ms
puts_split p n ms = sym (puts-append p (take n ms) (drop n ms)) ∙ ap (puts p) (take-append-drop n ms)

-- one move more
pub take-more : (ms : List Move) (n : ℕ) (m : Move) → slice_get ms n ≡ Some m → take (suc n) ms ≡ take n ms ++ m ∷ []
take-more [] n m e = absurd (cc)
take-more (x ∷ xs) zero m e = cc
take-more (x ∷ xs) (suc n) m e = ap (λ (z : List Move). x ∷ z) (take-more xs n m e)

pub takes_here : (p : ℕ) (t : Token) → takes p (Taking p t ∷ []) ≡ t ∷ []
takes_here p t = ap (λ (b : Bool). cond b (t ∷ []) []) (eq-eqb p p refl)

pub takes_there : (p q : ℕ) (t : Token) → (q ≡ p → ⊥) → takes p (Taking q t ∷ []) ≡ []
takes_there p q t other = ap (λ (b : Bool). cond b (t ∷ []) []) (ne_eqb q p other)

pub puts_here : (p : ℕ) (t : Token) → puts p (Putting p t ∷ []) ≡ t ∷ []
puts_here p t = ap (λ (b : Bool). cond b (t ∷ []) []) (eq-eqb p p refl)

pub puts_there : (p q : ℕ) (t : Token) → (q ≡ p → ⊥) → puts p (Putting q t ∷ []) ≡ []
puts_there p q t other = ap (λ (b : Bool). cond b (t ∷ []) []) (ne_eqb q p other)

-- what one move more takes or puts comes at the end
pub takes_more : (p : ℕ) (ms : List Move) (n : ℕ) (m : Move) → slice_get ms n ≡ Some m
    → takes p (take (suc n) ms) ≡ takes p (take n ms) ++ takes p (m ∷ [])
takes_more p ms n m e = ap (takes p) (take-more ms n m e) ∙ takes-append p (take n ms) (m ∷ [])

pub puts_more : (p : ℕ) (ms : List Move) (n : ℕ) (m : Move) → slice_get ms n ≡ Some m
    → puts p (take (suc n) ms) ≡ puts p (take n ms) ++ puts p (m ∷ [])
puts_more p ms n m e = ap (puts p) (take-more ms n m e) ∙ puts-append p (take n ms) (m ∷ [])

-- more moves take and put no fewer tokens
pub takes_longer : (p : ℕ) (ms : List Move) (n m : ℕ) → n ≤ m → length (takes p (take n ms)) ≤ length (takes p (take m ms))
takes_longer p ms n m l =
    omega (
      arith,
      ap length (takes_split p n (take m ms)),
      length-append (takes p (take n (take m ms))) (takes p (drop n (take m ms))),
      ap (λ (z : List Move). length (takes p z)) (take-take n m ms l),
    )

pub puts_longer : (p : ℕ) (ms : List Move) (n m : ℕ) → n ≤ m → length (puts p (take n ms)) ≤ length (puts p (take m ms))
puts_longer p ms n m l =
    omega (
      arith,
      ap length (puts_split p n (take m ms)),
      length-append (puts p (take n (take m ms))) (puts p (drop n (take m ms))),
      ap (λ (z : List Move). length (puts p z)) (take-take n m ms l),
    )
