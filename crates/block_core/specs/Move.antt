-- The moves of a block.
use Rattle.std.specs.Prelude.{ℕ, zero, suc, ◌+◌, List, [], ◌∷◌, eqb, cond}
use Rattle.stream_tokens.specs.declared.Token.{Token}
use Rattle.block_core.specs.declared.Wish.{Wish}
use Rattle.block_core.specs.declared.Wish.TheVariants.{Take, Put, Finished}

-- one token is taken from a port, or put on one
pub data Move : Type 0 where
  Taking : (port : ℕ) (token : Token) → Move
  Putting : (port : ℕ) (token : Token) → Move

-- the wish of a block that has these moves before it
abbrev pub wish_of : List Move → Wish
wish_of [] = Finished
wish_of (Taking p t ∷ rest) = Take p
wish_of (Putting p t ∷ rest) = Put p t

-- the tokens taken from a port, in order
abbrev pub takes : ℕ → List Move → List Token
takes p [] = []
takes p (Taking q t ∷ rest) = cond (eqb q p) (t ∷ takes p rest) (takes p rest)
takes p (Putting q t ∷ rest) = takes p rest

-- the tokens put on a port, in order
abbrev pub puts : ℕ → List Move → List Token
puts p [] = []
puts p (Taking q t ∷ rest) = puts p rest
puts p (Putting q t ∷ rest) = cond (eqb q p) (t ∷ puts p rest) (puts p rest)

-- x p, x (p + 1) and so on, so many
abbrev pub over : {A : Type 0} → (ℕ → A) → ℕ → ℕ → List A
over x p zero = []
over x p (suc n) = x p ∷ over x (suc p) n

-- a token for each port, and a stream for each
abbrev pub across : (ℕ → Token) → ℕ → ℕ → List Token
across t p n = over t p n

abbrev pub columns : (ℕ → List Token) → ℕ → ℕ → List (List Token)
columns s p n = over s p n

-- Each of the following stands before the moves that follow it.

-- the tokens of a row are taken from, or put on, the ports from p on
abbrev pub take_row : ℕ → List Token → List Move → List Move
take_row p [] rest = rest
take_row p (t ∷ ts) rest = Taking p t ∷ take_row (p + 1) ts rest

abbrev pub put_row : ℕ → List Token → List Move → List Move
put_row p [] rest = rest
put_row p (t ∷ ts) rest = Putting p t ∷ put_row (p + 1) ts rest

-- a token is put on so many ports, from port 0 on
abbrev pub put_all : ℕ → Token → List Move → List Move
put_all n t rest = put_row 0 (across (λ _. t) 0 n) rest

-- a token is taken from the ports 0 and 1
abbrev pub take_two : Token → List Move → List Move
take_two t rest = Taking 0 t ∷ Taking 1 t ∷ rest

-- a token is put on the ports 0 and 1
abbrev pub put_two : Token → List Move → List Move
put_two t rest = Putting 0 t ∷ Putting 1 t ∷ rest
