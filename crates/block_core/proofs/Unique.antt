-- A state leads to one list of moves for the tokens that are taken.
use Rattle.std.specs.Prelude.{◌≡◌, ℕ, zero, suc, List, [], ◌∷◌, drop, refl}
use Rattle.std.proofs.Common.{sym, ◌∙◌, subst}
use Rattle.stream_tokens.specs.declared.Token.{Token}
use Rattle.block_core.specs.Move.{Move, Taking, Putting, wish_of}
use Rattle.block_core.specs.Runs.{Steps, Runs}
use Rattle.block_core.specs.Agree.{AgreeFor}
use Rattle.block_core.proofs.Standing.{wants-next}

-- wherever they agree on the tokens taken so far, what comes next is the same
pub same-wish : {S : Type 0} (m : Steps S) (s : S) (n : ℕ) (xs ys : List Move) → Runs m s xs → Runs m s ys → AgreeFor n xs ys
    → wish_of (drop n xs) ≡ wish_of (drop n ys)
same-wish m s zero xs ys h k a = sym (wants-next m s xs h) ∙ wants-next m s ys k
same-wish m s (suc n) [] [] h k a = refl
same-wish m s (suc n) [] (Taking q u ∷ ys) h k a = let e = sym h ∙ k.0 in absurd (cc)
same-wish m s (suc n) [] (Putting q u ∷ ys) h k a = let e = sym h ∙ k.0 in absurd (cc)
same-wish m s (suc n) (Taking p t ∷ xs) [] h k a = let e = sym k ∙ h.0 in absurd (cc)
same-wish m s (suc n) (Putting p t ∷ xs) [] h k a = let e = sym k ∙ h.0 in absurd (cc)
same-wish m s (suc n) (Taking p t ∷ xs) (Putting q u ∷ ys) h k a = let e = sym h.0 ∙ k.0 in absurd (cc)
same-wish m s (suc n) (Putting p t ∷ xs) (Taking q u ∷ ys) h k a = let e = sym h.0 ∙ k.0 in absurd (cc)
same-wish {S = S} m s (suc n) (Taking p t ∷ xs) (Taking q u ∷ ys) h k a =
    let k' : Runs m (m.took s t) ys = subst (λ (x : Token). Runs m (m.took s x) ys) (sym a.0) k.1 in
    same-wish m (m.took s t) n xs ys h.1 k' a.1
same-wish m s (suc n) (Putting p t ∷ xs) (Putting q u ∷ ys) h k a = same-wish m (m.put s) n xs ys h.1 k.1 a
