-- What a tap was given.
use Rattle.std.specs.Prelude.{◌≡◌, ◌<◌, ◌≤◌, ℕ, List, [], ◌∷◌, ◌++◌, length, set, get_or, Option, Some, None}
use Rattle.stream_tokens.specs.declared.Token.{Token}
use Rattle.plays.specs.Net.{Net, State, sent}

-- what a tap was given: a list for each channel, or nothing
abbrev pub Tapped : Type 0
Tapped = Option (List (List Token))

-- a token more for one channel
abbrev pub one_told : ℕ → Token → Tapped → Tapped
one_told c t None = None
one_told c t (Some ts) = Some (set ts c (get_or ts c [] ++ t ∷ []))

-- a tap that tells has a list for each of so many channels
abbrev pub HasLists : ℕ → Tapped → Type 0
HasLists n None = Unit {0}
HasLists n (Some ts) = n ≤ length ts

-- a list grew by what was put on its channel between two states
abbrev pub GrewAt : Net → State → State → ℕ → List Token → List Token → Type 0
GrewAt net s t c old new = (more : List Token) × (sent net t c ≡ sent net s c ++ more) × (new ≡ old ++ more)

-- A tap that tells was given, channel by channel, just what was put between two states; other lists are as before.
abbrev pub Grew : Net → State → State → Tapped → Tapped → Type 0
Grew net s t None None = Unit {0}
Grew net s t None (Some new) = ⊥
Grew net s t (Some old) None = ⊥
Grew net s t (Some old) (Some new) =
    (length new ≡ length old)
    × ((c : ℕ) → c < net.channels → GrewAt net s t c (get_or old c []) (get_or new c []))
    × ((c : ℕ) → net.channels ≤ c → get_or new c [] ≡ get_or old c [])
