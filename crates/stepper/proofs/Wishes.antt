-- What a wish says of the next move.
use Rattle.std.specs.Prelude.{◌≡◌, ◌≤◌, ℕ, zero, suc, List, [], ◌∷◌, length, drop, slice_get, Some, refl}
use Rattle.std.proofs.Common.{arith, ap}
use Rattle.stream_tokens.specs.declared.Token.{Token}
use Rattle.block_core.specs.declared.Wish.TheVariants.{Take, Put, Finished}
use Rattle.block_core.specs.Move.{Move, Taking, Putting, wish_of}

pub wish_take : (ms : List Move) (n p : ℕ) → wish_of (drop n ms) ≡ Take p → (t : Token) × (slice_get ms n ≡ Some (Taking p t))
wish_take [] zero p e = absurd (cc)
wish_take [] (suc n) p e = absurd (cc)
wish_take (Taking q t ∷ ms) zero p e = (t, let s : q ≡ p = cc in cc)
wish_take (Putting q t ∷ ms) zero p e = absurd (cc)
wish_take (Taking q t ∷ ms) (suc n) p e = wish_take ms n p e
wish_take (Putting q t ∷ ms) (suc n) p e = wish_take ms n p e

pub wish_put : (ms : List Move) (n p : ℕ) (t : Token) → wish_of (drop n ms) ≡ Put p t → slice_get ms n ≡ Some (Putting p t)
wish_put [] zero p t e = absurd (cc)
wish_put [] (suc n) p t e = absurd (cc)
wish_put (Taking q u ∷ ms) zero p t e = absurd (cc)
wish_put (Putting q u ∷ ms) zero p t e = let s : q ≡ p = cc in let r : u ≡ t = cc in cc
wish_put (Taking q u ∷ ms) (suc n) p t e = wish_put ms n p t e
wish_put (Putting q u ∷ ms) (suc n) p t e = wish_put ms n p t e

pub wish_finished : (ms : List Move) (n : ℕ) → n ≤ length ms → wish_of (drop n ms) ≡ Finished → n ≡ length ms
wish_finished [] zero l e = refl
wish_finished [] (suc n) l e = absurd (omega (arith, l))
wish_finished (Taking q u ∷ ms) zero l e = absurd (cc)
wish_finished (Putting q u ∷ ms) zero l e = absurd (cc)
wish_finished (Taking q u ∷ ms) (suc n) l e = ap suc (wish_finished ms n (omega (arith, l)) e)
wish_finished (Putting q u ∷ ms) (suc n) l e = ap suc (wish_finished ms n (omega (arith, l)) e)
