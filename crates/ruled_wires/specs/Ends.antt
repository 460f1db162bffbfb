-- What contracts see of the two ends of a wire.
use Rattle.std.specs.Prelude.{◌≡◌, ◌<◌, ◌≤◌, ◌-◌, ◌^◌, ℕ, ◌+◌, Bool, true, false, cond, List, [], ◌∷◌, zero, suc, ◌||◌, get_or, length, drop, min, slice_range}
use Rattle.stream_tokens.specs.declared.Token.{Token}
use Rattle.stream_tokens.specs.declared.Token.TheVariants as token
use Rattle.ruled_wires.specs.declared.known.Known.{Known}
use Rattle.ruled_wires.specs.declared.message.Sent.{Sent}
use Rattle.ruled_wires.specs.declared.message.Sent.TheVariants as sent
use Rattle.ruled_wires.specs.Rule.{sender_view, receiver_view}

-- The number of the wire, how many tokens were put or taken at this end, and whether Lost was; how many of these the end keeps, on
-- their way to the channel or from it; and how many messages it sent.
pub record End : Type 0 where
  pub channel : ℕ
  pub count : ℕ
  pub lost : Bool
  pub kept : ℕ
  pub messages : ℕ

-- the stream of the wire with this number
abbrev pub wire_stream : List (List Token) → ℕ → List Token
wire_stream streams channel = get_or streams channel []

-- the end of a wire that carried nothing
abbrev pub fresh_end : ℕ → End
fresh_end channel = record { channel = channel; count = 0; lost = false; kept = 0; messages = 0 }

-- the end after one token more, or Lost
abbrev pub after_message : End → Sent → End
after_message e (sent.Token t) = record e { count = e.count + 1 }
after_message e sent.Lost = record e { lost = true }

-- the end, where it keeps so many
abbrev pub keeping : ℕ → End → End
keeping k e = record e { kept = k }

-- Some of what the end kept was sent, each message by one step, or nothing.
pub record Onwards (before after : End) : Type 0 where
  pub same : after ≡ record before { kept = after.kept; messages = after.messages }
  pub fewer : after.kept ≤ before.kept
  pub more : before.messages ≤ after.messages
  pub each : after.messages + after.kept ≤ before.messages + before.kept
  pub steps : after.kept < before.kept → before.messages < after.messages

-- nothing is kept
abbrev pub IsEmptied : End → Type 0
IsEmptied e = e.kept ≡ 0

-- All that the end kept was sent.
pub record Flushed (before after : End) : Type 0 where
  pub onwards : Onwards before after
  pub empty : after.kept ≡ 0

abbrev pub is_done : Token → Bool
is_done (token.Item n) = false
is_done token.Empty = false
is_done (token.Stop n) = false
is_done token.Done = true

-- Done is among the first n tokens
abbrev pub is_done_in : List Token → ℕ → Bool
is_done_in s zero = false
is_done_in [] (suc n) = false
is_done_in (t ∷ s) (suc n) = is_done t || is_done_in s n

-- Done or Lost went through the end
abbrev pub is_ended : List Token → End → Bool
is_ended s e = e.lost || is_done_in s e.count

-- nothing comes after this message
abbrev pub is_last : Sent → Bool
is_last (sent.Token t) = is_done t
is_last sent.Lost = true

-- one, where Lost is kept
abbrev pub lost_count : Bool → ℕ
lost_count lost = cond lost 1 0

-- The sender's view is one of this stream and capacity. What the end keeps follows what was sent: the next tokens of the stream,
-- and then Lost, where it was put and tokens remain; 64 together at most. It is told how many messages were sent, as far as it
-- counts, and whether the end is ended.
pub record SenderKeeps (s : List Token) (n : ℕ) (kept : List Token) (lost : Bool) (messages : ℕ) (ended : Bool) (v : Known) : Type 0 where
  pub view : v ≡ sender_view s n v.sent v.messages v.sent_lost
  pub next : slice_range s v.sent (v.sent + length kept) ≡ kept
  pub few : length kept + lost_count lost ≤ 64
  pub unlost : 0 < length kept + lost_count lost → v.sent_lost ≡ false
  pub remain : lost ≡ true → v.sent + length kept < length s
  pub counted : messages ≡ min v.messages (2 ^ 64 - 1)
  pub told : ended ≡ (v.sent_lost || lost || is_done_in s (v.sent + length kept))

-- The receiver's view is one of this stream and capacity. What is left of the packet was received and not taken: the last tokens
-- that were received. It is told whether the end is ended.
pub record ReceiverKeeps (s : List Token) (n : ℕ) (packet : List Token) (place : ℕ) (ended : Bool) (v : Known) : Type 0 where
  pub view : v ≡ receiver_view s n v.received v.got_lost
  pub within : place ≤ length packet
  pub enough : length packet - place ≤ v.received
  pub next : slice_range s (v.received - (length packet - place)) v.received ≡ drop place packet
  pub told : ended ≡ (v.got_lost || is_done_in s (v.received - (length packet - place)))

-- the same of each of some ends
abbrev pub AllOnwards : List End → List End → Type 0
AllOnwards olds news = (length news ≡ length olds) × ((k : ℕ) (d : End) → k < length olds → Onwards (get_or olds k d) (get_or news k d))

abbrev pub AllFlushed : List End → List End → Type 0
AllFlushed olds news = (length news ≡ length olds) × ((k : ℕ) (d : End) → k < length olds → Flushed (get_or olds k d) (get_or news k d))
