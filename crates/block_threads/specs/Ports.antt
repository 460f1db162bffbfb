-- The ends of a block's wires, in port order.
use Rattle.std.specs.Prelude.{◌≡◌, ◌<◌, ℕ, true, false, List, map, Some, slice_get, length}
use Rattle.stream_tokens.specs.declared.Token.{Token}
use Rattle.ruled_wires.specs.Ends.{End, wire_stream, fresh_end, is_ended}

-- the wires' numbers, and their streams
abbrev pub channels_of : List End → List ℕ
channels_of es = map (λ e. e.channel) es

abbrev pub streams_of : List (List Token) → List End → List (List Token)
streams_of streams es = map (λ e. wire_stream streams e.channel) es

-- nothing went through the end yet
abbrev pub IsFresh : End → Type 0
IsFresh e = e ≡ fresh_end e.channel

-- one more can be put on the end
abbrev pub HasRoom : End → Type 0
HasRoom e = e.kept < 64

-- Done or Lost went through the end
abbrev pub IsEnded : List (List Token) → End → Type 0
IsEnded streams e = is_ended (wire_stream streams e.channel) e ≡ true

-- the whole stream went through the end, and no Lost
abbrev pub IsThrough : List (List Token) → End → Type 0
IsThrough streams e = (e.count ≡ length (wire_stream streams e.channel)) × (e.lost ≡ false)

-- Lost went through one of the ends
abbrev pub HasLost : List End → Type 0
HasLost es = (p : ℕ) × (e : End) × (slice_get es p ≡ Some e) × (e.lost ≡ true)
