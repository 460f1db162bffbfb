-- The moves that a state leads to.
use Rattle.std.specs.Prelude.{◌≡◌, List, [], ◌∷◌}
use Rattle.stream_tokens.specs.declared.Token.{Token}
use Rattle.block_core.specs.declared.Wish.{Wish}
use Rattle.block_core.specs.declared.Wish.TheVariants.{Take, Put, Finished}
use Rattle.block_core.specs.Move.{Move, Taking, Putting}

-- what a state wants, and the state after a token was taken and after one was put
pub record Steps (S : Type 0) : Type 0 where
  pub wants : S → Wish
  pub took : S → Token → S
  pub put : S → S

-- from this state, given the tokens that are taken, exactly these moves are made
abbrev pub Runs : {S : Type 0} → Steps S → S → List Move → Type 0
Runs m s [] = m.wants s ≡ Finished
Runs m s (Taking p t ∷ rest) = (m.wants s ≡ Take p) × Runs m (m.took s t) rest
Runs m s (Putting p t ∷ rest) = (m.wants s ≡ Put p t) × Runs m (m.put s) rest
