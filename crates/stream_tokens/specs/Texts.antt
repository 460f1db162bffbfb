-- Tokens as text.
use Rattle.std.specs.Prelude.{ℕ, List, ◌++◌, codes, decimal}
use Rattle.std.specs.List.{join_with_byte}
use mathlib.Core.List.{map}
use Rattle.stream_tokens.specs.declared.Token.{Token}
use Rattle.stream_tokens.specs.declared.Token.TheVariants.{Item, Empty, Stop, Done}

-- an item's decimal, and a letter for the others, a stop's with its level
abbrev pub token_bytes : Token → List ℕ
token_bytes (Item n) = decimal n
token_bytes Empty = codes "N"
token_bytes (Stop n) = codes "S" ++ decimal n
token_bytes Done = codes "D"

-- the tokens, with a space between neighbours
abbrev pub stream_bytes : List Token → List ℕ
stream_bytes s = join_with_byte 32 (map token_bytes s)
