-- The rule of a wire: what its channel holds, and what each end knows.
use Rattle.std.specs.Prelude.{◌≡◌, ℕ, ◌+◌, ◌<◌, ◌≤◌, Bool, true, false, cond, not, ◌&&◌, ◌||◌, List, [], ◌∷◌, ◌++◌, Some, map, length, slice_get, slice_range}
use Rattle.std.specs.List.{All}
use mathlib.Core.Option.{some}
use lib.ListN.{get_elem?}
use Rattle.stream_tokens.specs.declared.Token.{Token}
use Rattle.ruled_wires.specs.declared.known.Known.{Known}
use Rattle.ruled_wires.specs.declared.message.Sent.{Sent}
use Rattle.ruled_wires.specs.declared.message.Sent.TheVariants as sent
use Rattle.ruled_wires.specs.declared.message.Message.{Message}
use Rattle.ruled_wires.specs.declared.message.Message.TheVariants as message

-- the tokens of a message, and whether it says that the rest is lost
abbrev pub tokens_of : Message → List Token
tokens_of (message.One t) = t ∷ []
tokens_of (message.Packet ts) = ts.items
tokens_of message.Lost = []

abbrev pub is_lost : Message → Bool
is_lost (message.One t) = false
is_lost (message.Packet ts) = false
is_lost message.Lost = true

-- a packet has 2 to 64 tokens
abbrev pub IsSized : Message → Type 0
IsSized (message.One t) = Unit {0}
IsSized (message.Packet ts) = (2 ≤ length ts.items) × (length ts.items ≤ 64)
IsSized message.Lost = Unit {0}

abbrev pub lost_if : Bool → List Sent
lost_if lost = cond lost (sent.Lost ∷ []) []

-- what a message carries, and what some carry one after another
abbrev pub carried : Message → List Sent
carried m = map sent.Token (tokens_of m) ++ lost_if (is_lost m)

abbrev pub carried_by : List Message → List Sent
carried_by [] = []
carried_by (m ∷ ms) = carried m ++ carried_by ms

-- the first view, of a wire that has no stream yet
abbrev pub unmade : Known
unmade = record { sends = true; takes = true; stream = []; capacity = 0; sent = 0; messages = 0; sent_lost = false; received = 0; got_lost = false }

-- what the sender knows: the stream, the capacity, how many tokens and messages were sent, and whether Lost was
abbrev pub sender_view : List Token → ℕ → ℕ → ℕ → Bool → Known
sender_view s n sent messages lost = record { sends = true; takes = false; stream = s; capacity = n; sent = sent; messages = messages; sent_lost = lost; received = 0; got_lost = false }

-- what the receiver knows: the stream, the capacity, how many tokens were received, and whether Lost was
abbrev pub receiver_view : List Token → ℕ → ℕ → Bool → Known
receiver_view s n received lost = record { sends = false; takes = true; stream = s; capacity = n; sent = 0; messages = 0; sent_lost = false; received = received; got_lost = lost }

-- what one knows who has joined both views, and what is left of the other
abbrev pub both_views : Known → Known → Known
both_views v w = record { sends = true; takes = true; stream = v.stream; capacity = v.capacity; sent = v.sent; messages = v.messages; sent_lost = v.sent_lost; received = w.received; got_lost = w.got_lost }

abbrev pub no_view : Known
no_view = record { sends = false; takes = false; stream = []; capacity = 0; sent = 0; messages = 0; sent_lost = false; received = 0; got_lost = false }

-- the next token of the stream, or Lost where tokens remain
abbrev pub IsNext : List Token → ℕ → Sent → Type 0
IsNext s n (sent.Token t) = slice_get s n ≡ Some t
IsNext s n sent.Lost = n < length s

-- a message of the next tokens of the stream, or Lost where tokens remain
abbrev pub AreNext : List Token → ℕ → Message → Type 0
AreNext s n m = (slice_range s n (n + length (tokens_of m)) ≡ tokens_of m) × (is_lost m ≡ true → n < length s)

-- the sender's view after a message was sent, and the receiver's after one was received
abbrev pub after_send : Known → Message → Known
after_send v m = record v { sent = v.sent + length (tokens_of m); messages = v.messages + 1; sent_lost = v.sent_lost || is_lost m }

abbrev pub after_receive : Known → Message → Known
after_receive v m = record v { received = v.received + length (tokens_of m); got_lost = v.got_lost || is_lost m }

-- what the messages in the channel carry: the tokens of the stream that were sent and not received, and one Lost exactly where
-- it was sent and not received
abbrev pub held_of : List Token → ℕ → ℕ → Bool → Bool → List Sent
held_of s start end lost got = map sent.Token (slice_range s start end) ++ lost_if (lost && not got)

-- who may send is the one sender, and knows what was sent
abbrev pub KnowsSent : ℕ → List Token → ℕ → ℕ → ℕ → Bool → ℕ → Known → Type 0
KnowsSent from s n sent messages lost pass v =
    v.sends ≡ true → (pass ≡ from) × (v.stream ≡ s) × (v.capacity ≡ n) × (v.sent ≡ sent) × (v.messages ≡ messages) × (v.sent_lost ≡ lost)

-- who may take is the one receiver, and knows what was received
abbrev pub KnowsReceived : ℕ → List Token → ℕ → Bool → ℕ → Known → Type 0
KnowsReceived to s received lost pass v = v.takes ≡ true → (pass ≡ to) × (v.stream ≡ s) × (v.received ≡ received) × (v.got_lost ≡ lost)

-- A wire has a stream and a capacity, one sender and one receiver. The messages in the channel carry just the tokens that were
-- sent and not received, in the order of the stream, and at the end one Lost, where it was sent and not received. Lost was sent
-- only where tokens of the stream remained, and received only after all that was sent. The channel never holds more messages than
-- its capacity.
pub record Wire (items : List Message) (views : List Known) : Type 0 where
  pub from : ℕ
  pub to : ℕ
  pub stream : List Token
  pub capacity : ℕ
  pub sent : ℕ
  pub messages : ℕ
  pub sent_lost : Bool
  pub received : ℕ
  pub got_lost : Bool
  pub in_order : received ≤ sent
  pub within : sent ≤ length stream
  pub content : carried_by items ≡ held_of stream received sent sent_lost got_lost
  pub sized : All IsSized items
  pub lost_early : sent_lost ≡ true → sent < length stream
  pub lost_last : got_lost ≡ true → (sent_lost ≡ true) × (received ≡ sent)
  pub room : length items ≤ capacity
  pub knows_sent : (pass : ℕ) (v : Known) → get_elem? views pass ≡ some v → KnowsSent from stream capacity sent messages sent_lost pass v
  pub knows_received : (pass : ℕ) (v : Known) → get_elem? views pass ≡ some v → KnowsReceived to stream received got_lost pass v
