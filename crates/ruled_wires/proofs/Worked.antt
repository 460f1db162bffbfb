-- A wire of the stream 7 9 S0 D.
use Rattle.std.proofs.Common.{◌≡◌, refl, List, [], ◌∷◌, true, false}
use Rattle.stream_tokens.specs.declared.Token.{Token}
use Rattle.stream_tokens.specs.declared.Token.TheVariants.{Item, Stop, Done}
use Rattle.ruled_wires.specs.declared.message.Sent.TheVariants as sent
use Rattle.ruled_wires.specs.declared.message.Message.TheVariants as message
use Rattle.ruled_wires.specs.Rule.{held_of, carried_by}
use Rattle.ruled_wires.specs.Ends.{is_ended, fresh_end, after_message}

abbrev stream : List Token
stream = Item 7 ∷ Item 9 ∷ Stop 0 ∷ Done ∷ []

-- three were put and one was taken
waiting : held_of stream 1 3 false false ≡ sent.Token (Item 9) ∷ sent.Token (Stop 0) ∷ []
waiting = refl

-- then the rest was lost
lost_behind : held_of stream 1 3 true false ≡ sent.Token (Item 9) ∷ sent.Token (Stop 0) ∷ sent.Lost ∷ []
lost_behind = refl

lost_taken : held_of stream 3 3 true true ≡ []
lost_taken = refl

before_done : is_ended stream (record { channel = 0; count = 3; lost = false; kept = 0; messages = 1 }) ≡ false
before_done = refl

after_done : is_ended stream (after_message (record { channel = 0; count = 3; lost = false; kept = 0; messages = 1 }) (sent.Token Done)) ≡ true
after_done = refl

at_once_lost : is_ended stream (after_message (fresh_end 0) sent.Lost) ≡ true
at_once_lost = refl

-- two messages carry what two tokens and Lost do
two_messages : carried_by (message.One (Item 9) ∷ message.Lost ∷ []) ≡ sent.Token (Item 9) ∷ sent.Lost ∷ []
two_messages = refl
