-- Whether Done went through an end, after one token more.
use Rattle.std.proofs.Common.{◌≡◌, ℕ, zero, suc, ◌+◌, Bool, true, false, ◌||◌, List, [], ◌∷◌, refl, sym, ap, ◌∙◌, arith}
use Rattle.std.specs.Prelude.{Some, slice_get}
use Rattle.std.proofs.lemmas.Option.{slice_get_within}
use Rattle.stream_tokens.specs.declared.Token.{Token}
use Rattle.ruled_wires.specs.Ends.{is_done, is_done_in}

or-false : (a : Bool) → a ≡ (a || false)
or-false true = refl
or-false false = refl

pub or-assoc : (a b c : Bool) → (a || (b || c)) ≡ ((a || b) || c)
or-assoc true b c = refl
or-assoc false b c = refl

some-token : (t u : Token) → Some t ≡ Some u → t ≡ u
some-token t u e = cc

none-in : (n : ℕ) (t : Token) → slice_get {X = Token} [] n ≡ Some t → ⊥
none-in n t e = let h = slice_get_within [] n t e in omega arith

pub done-next : (s : List Token) (n : ℕ) (t : Token) → slice_get s n ≡ Some t → is_done_in s (n + 1) ≡ (is_done_in s n || is_done t)
done-next [] n t e = absurd (none-in n t e)
done-next (x ∷ s) zero t e = sym (or-false (is_done x)) ∙ ap is_done (some-token x t e)
done-next (x ∷ s) (suc n) t e =
    let on : suc n + 1 ≡ suc (n + 1) = omega arith in
    ap (λ k. is_done_in (x ∷ s) k) on ∙ ap (λ b. is_done x || b) (done-next s n t e) ∙ or-assoc (is_done x) (is_done_in s n) (is_done t)

-- an end that knew whether Done or Lost went through knows it after one token more
pub ended-next : (s : List Token) (count : ℕ) (lost before : Bool) (t : Token) → slice_get s count ≡ Some t → before ≡ (lost || is_done_in s count)
    → (before || is_done t) ≡ (lost || is_done_in s (count + 1))
ended-next s count lost before t next was =
    ap (λ b. b || is_done t) was ∙ sym (or-assoc lost (is_done_in s count) (is_done t)) ∙ ap (λ b. lost || b) (sym (done-next s count t next))

pub or-true : (a : Bool) → (a || true) ≡ true
or-true true = refl
or-true false = refl
