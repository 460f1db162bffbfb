-- What a receiver's end keeps, after a token of its packet was taken.
use Rattle.std.proofs.Common.{◌≡◌, ℕ, suc, ◌+◌, ◌-◌, ◌<◌, ◌≤◌, Bool, true, false, ◌||◌, List, [], ◌∷◌, ◌++◌, length, take, drop, get_or, refl, sym, ap, ◌∙◌, subst, arith, ⊎_elim, length-drop, drop-cons}
use Rattle.std.specs.Prelude.{Some, slice_get, slice_range, min}
use Rattle.std.proofs.lemmas.List.{length-take}
use Rattle.std.proofs.lemmas.Option.{slice_get-get_or}
use Rattle.std.proofs.lemmas.Bool.{cases_lt}
use Rattle.std.proofs.Math.ListN.{drop_of_length-le}
use Rattle.stream_tokens.specs.declared.Token.{Token}
use Rattle.ruled_wires.specs.declared.known.Known.{Known}
use Rattle.ruled_wires.specs.declared.message.Sent.{Sent}
use Rattle.ruled_wires.specs.declared.message.Sent.TheVariants as sent
use Rattle.ruled_wires.specs.declared.message.Message.{Message}
use Rattle.ruled_wires.specs.Rule.{IsNext, AreNext, tokens_of, is_lost, after_receive, receiver_view}
use Rattle.ruled_wires.specs.Ends.{End, is_done, is_done_in, is_last, after_message, keeping, ReceiverKeeps}
use Rattle.ruled_wires.proofs.Held.{range-cut, range-none}
use Rattle.ruled_wires.proofs.Done.{ended-next, or-true}

-- what the range of one token is, is the token there
pub one-there : (s : List Token) (b : ℕ) (t : Token) → b < length s → slice_range s b (b + 1) ≡ t ∷ [] → slice_get s b ≡ Some t
one-there s b t within is =
    let one : b + 1 - b ≡ suc 0 = omega arith in
    let front : get_or s b t ∷ [] ≡ t ∷ [] = sym (ap (λ x. take x (drop b s)) one ∙ ap (λ l. take (suc 0) l) (drop-cons s b t within)) ∙ is in
    let same : get_or s b t ≡ t = cc in
    slice_get-get_or s b t within ∙ ap Some same

module _ (s : List Token) (n : ℕ) (packet : List Token) (place : ℕ) (ended : Bool) (v : Known) (h : ReceiverKeeps s n packet place ended v) where
  pub takes-one : place < length packet → (t : Token) → get_or packet place t ≡ t → (after : Bool) → after ≡ (ended || is_done t)
      → (slice_get s (v.received - (length packet - place)) ≡ Some t) × ReceiverKeeps s n packet (place + 1) after v
  takes-one less t here after told =
      let start : ℕ = v.received - (length packet - place) in
      let enough = h.enough in
      let on : suc place ≡ place + 1 = omega arith in
      let split : slice_range s start v.received ≡ (t ∷ []) ++ drop (place + 1) packet =
      h.next ∙ drop-cons packet place t less ∙ ap (λ x. x ∷ drop (suc place) packet) here ∙ ap (λ k. t ∷ drop k packet) on in
      let taken : length (slice_range s start v.received) ≡ min (v.received - start) (length (drop start s)) = length-take (v.received - start) (drop start s) in
      let rest : length (drop start s) ≡ length s - start = length-drop start s in
      let long : length (slice_range s start v.received) ≡ length packet - place = ap length h.next ∙ length-drop place packet in
      let low : start ≤ v.received = omega arith in
      let in_stream : v.received ≤ length s = omega arith in
      let cut = range-cut s (t ∷ []) (drop (place + 1) packet) start v.received low in_stream split in
      let within : start < length s = omega arith in
      let next = one-there s start t within cut.1 in
      let up : v.received - (length packet - (place + 1)) ≡ start + 1 = omega arith in (
        next,
        record {
          view = h.view;
          within = omega arith;
          enough = omega arith;
          next = ap (λ x. slice_range s x v.received) up ∙ cut.2;
          told = told ∙ ended-next s start v.got_lost ended t next h.told ∙ ap (λ x. v.got_lost || is_done_in s x) (sym up);
        },
      )

  -- a message was received, where nothing was kept: its first token is taken, and the rest is kept
  pub receives-token : place ≡ length packet → (m : Message) → AreNext s v.received m → (t : Token) (more : List Token) (at : ℕ) → at ≤ length more
      → tokens_of m ≡ t ∷ drop at more → is_lost m ≡ false → (w : Known) → w ≡ after_receive v m → (after : Bool) → after ≡ (ended || is_done t)
      → (slice_get s (v.received - (length packet - place)) ≡ Some t) × ReceiverKeeps s n more at after w
      × (w.received - (length more - at) ≡ v.received - (length packet - place) + 1) × (w.got_lost ≡ v.got_lost)
  receives-token none m are t more at within tokens unlost w went after told =
      let start : ℕ = v.received in
      let zero : v.received - (length packet - place) ≡ start = omega arith in
      let long : length (tokens_of m) ≡ suc (length more - at) = ap length tokens ∙ ap suc (length-drop at more) in
      let end : ℕ = start + length (tokens_of m) in
      let split : slice_range s start end ≡ (t ∷ []) ++ drop at more = are.0 ∙ tokens in
      let taken : length (slice_range s start end) ≡ min (end - start) (length (drop start s)) = length-take (end - start) (drop start s) in
      let rest : length (drop start s) ≡ length s - start = length-drop start s in
      let same : length (slice_range s start end) ≡ length (tokens_of m) = ap length are.0 in
      let low : start ≤ end = omega arith in
      let in_stream : end ≤ length s = omega arith in
      let cut = range-cut s (t ∷ []) (drop at more) start end low in_stream split in
      let here : start < length s = omega arith in
      let next = one-there s start t here cut.1 in
      let received : w.received ≡ end = ap (λ (u : Known). u.received) went in
      let kept_lost : w.got_lost ≡ v.got_lost = ap (λ (u : Known). u.got_lost) went ∙ ap (λ b. v.got_lost || b) unlost ∙ or-false v.got_lost in
      let up : w.received - (length more - at) ≡ start + 1 = omega arith in (
        ap (λ x. slice_get s x) zero ∙ next,
        record {
          view = went ∙ ap (λ (u : Known). after_receive u m) h.view ∙ (λ i. receiver_view s n (sym received i) (sym (ap (λ (u : Known). u.got_lost) went) i));
          within = within;
          enough = omega arith;
          next = ap (λ x. slice_range s x w.received) up ∙ ap (λ x. slice_range s (start + 1) x) received ∙ cut.2;
          told = told ∙ ended-next s start v.got_lost ended t next (h.told ∙ ap (λ x. v.got_lost || is_done_in s x) zero)
              ∙ (λ i. sym kept_lost i || is_done_in s (sym up i));
        },
        up ∙ ap (λ x. x + 1) (sym zero),
        kept_lost,
      )
    where
      or-false : (b : Bool) → (b || false) ≡ b
      or-false true = refl
      or-false false = refl

  receives-lost : place ≡ length packet → (m : Message) → AreNext s v.received m → (more : List Token) (at : ℕ) → is_lost m ≡ true → tokens_of m ≡ []
      → at ≡ length more → (w : Known) → w ≡ after_receive v m → (after : Bool) → after ≡ (ended || true)
      → (v.received - (length packet - place) < length s) × ReceiverKeeps s n more at after w
      × (w.received - (length more - at) ≡ v.received - (length packet - place)) × (w.got_lost ≡ true)
  receives-lost none m are more at lost tokens all w went after told =
      let zero : v.received - (length packet - place) ≡ v.received = omega arith in
      let less = are.1 lost in
      let received : w.received ≡ v.received + length (tokens_of m) = ap (λ (u : Known). u.received) went in
      let nothing : length (tokens_of m) ≡ 0 = ap length tokens in
      let got : w.got_lost ≡ true = ap (λ (u : Known). u.got_lost) went ∙ ap (λ b. v.got_lost || b) lost ∙ or-true v.got_lost in
      let up : w.received - (length more - at) ≡ w.received = omega arith in (
        omega (arith, less, zero),
        record {
          view = went ∙ ap (λ (u : Known). after_receive u m) h.view ∙ (λ i. receiver_view s n (sym received i) (sym (ap (λ (u : Known). u.got_lost) went) i));
          within = omega arith;
          enough = omega arith;
          next = range-none s (w.received - (length more - at)) w.received up ∙ sym (drop_of_length-le more (omega arith));
          told = told ∙ or-true ended ∙ sym (ap (λ b. b || is_done_in s (w.received - (length more - at))) got);
        },
        omega arith,
        got,
      )

  abbrev before : ℕ → End
  before channel = record { channel = channel; count = v.received - (length packet - place); lost = v.got_lost; kept = length packet - place; messages = 0 }

  next-received : place ≡ length packet → (m : Message) → AreNext s v.received m → (r : Sent) (more : List Token) (at : ℕ) → at ≤ length more
      → ((t : Token) → r ≡ sent.Token t → (is_lost m ≡ false) × (tokens_of m ≡ t ∷ drop at more))
      → (r ≡ sent.Lost → (is_lost m ≡ true) × (tokens_of m ≡ []) × (at ≡ length more))
      → (w : Known) → w ≡ after_receive v m → (after : Bool) → after ≡ (ended || is_last r)
      → IsNext s (v.received - (length packet - place)) r × ReceiverKeeps s n more at after w
      × ((channel kept : ℕ) → record { channel = channel; count = w.received - (length more - at); lost = w.got_lost; kept = kept; messages = 0 }
      ≡ keeping kept (after_message (before channel) r))
  next-received none m are (sent.Token t) more at within token lost w went after told =
      let f = token t refl in
      let x = receives-token none m are t more at within f.1 f.0 w went after told in
      (x.0, x.1, λ channel kept i. record { channel = channel; count = x.2 i; lost = x.3 i; kept = kept; messages = 0 })
  next-received none m are sent.Lost more at within token lost w went after told =
      let f = lost refl in
      let x = receives-lost none m are more at f.0 f.1 f.2 w went after told in
      (x.0, x.1, λ channel kept i. record { channel = channel; count = x.2 i; lost = x.3 i; kept = kept; messages = 0 })

  -- what is received, where nothing was kept, is the next message
  pub receives : (e : End) (channel : ℕ) → before channel ≡ e → (0 < e.kept → ⊥) → (m : Message) → AreNext v.stream v.received m
      → (r : Sent) (more : List Token) (at : ℕ) → at ≤ length more
      → ((t : Token) → r ≡ sent.Token t → (is_lost m ≡ false) × (tokens_of m ≡ t ∷ drop at more))
      → (r ≡ sent.Lost → (is_lost m ≡ true) × (tokens_of m ≡ []) × (at ≡ length more))
      → (w : Known) → w ≡ after_receive v m → (after : Bool) → after ≡ (ended || is_last r)
      → IsNext s e.count r × ReceiverKeeps s n more at after w
      × ((kept : ℕ) → record { channel = channel; count = w.received - (length more - at); lost = w.got_lost; kept = kept; messages = 0 } ≡ keeping kept (after_message e r))
  receives e channel is empty m are r more at within token lost w went after told =
      let none_kept : 0 < length packet - place → ⊥ = subst (λ (x : End). 0 < x.kept → ⊥) (sym is) empty in
      let below = h.within in
      let none : place ≡ length packet = ⊎_elim (λ (l : place < length packet). absurd (none_kept (omega arith))) (λ (ge : length packet ≤ place). omega (arith, below))
      (cases_lt place (length packet)) in
      let here : AreNext s v.received m = subst (λ (l : List Token). AreNext l v.received m) (ap (λ (u : Known). u.stream) h.view) are in
      let x = next-received none m here r more at within token lost w went after told in (
        subst (λ (y : End). IsNext s y.count r) is x.0,
        x.1,
        λ kept. x.2 channel kept ∙ ap (λ (y : End). keeping kept (after_message y r)) is,
      )
