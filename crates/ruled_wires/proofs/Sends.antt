-- What a sender's end keeps, after a put and after some was sent.
use Rattle.std.proofs.Common.{◌≡◌, ℕ, suc, ◌+◌, ◌-◌, ◌^◌, ◌<◌, ◌≤◌, Bool, true, false, ◌||◌, true≢false, List, [], ◌∷◌, ◌++◌, length, take, drop, refl, sym, ap, ◌∙◌, arith, length-append, length-drop, drop-cons}
use Rattle.std.specs.Prelude.{Some, slice_get, slice_range, min}
use Rattle.std.proofs.lemmas.List.{length-take, take-append-drop}
use Rattle.std.proofs.lemmas.Option.{slice_get_within, get_or_from_slice_get}
use Rattle.stream_tokens.specs.declared.Token.{Token}
use Rattle.ruled_wires.specs.declared.known.Known.{Known}
use Rattle.ruled_wires.specs.Rule.{sender_view}
use Rattle.ruled_wires.specs.Ends.{is_done, is_done_in, lost_count, SenderKeeps}
use Rattle.ruled_wires.proofs.Held.{range-join, range-cut}
use Rattle.ruled_wires.proofs.Done.{ended-next, or-true}

-- the range of one token
pub range-one : (s : List Token) (b : ℕ) (t : Token) → slice_get s b ≡ Some t → slice_range s b (b + 1) ≡ t ∷ []
range-one s b t at =
    let within : b < length s = slice_get_within s b t at in
    let one : b + 1 - b ≡ suc 0 = omega arith in
    ap (λ x. take x (drop b s)) one ∙ ap (λ l. take (suc 0) l) (drop-cons s b t within) ∙ ap (λ x. x ∷ []) (get_or_from_slice_get s b t t at)

neither-0 : (a b : Bool) → (a || b) ≡ false → a ≡ false
neither-0 true b e = absurd (true≢false e)
neither-0 false b e = refl

neither-1 : (a b : Bool) → (a || b) ≡ false → b ≡ false
neither-1 true b e = absurd (true≢false e)
neither-1 false b e = e

module _ (s : List Token) (n : ℕ) (kept : List Token) (lost : Bool) (messages : ℕ) (ended : Bool) (v : Known) (h : SenderKeeps s n kept lost messages ended v) where
  pub keeps-token : (v.sent_lost || lost) ≡ false → length kept + lost_count lost < 64 → (t : Token) → slice_get s (v.sent + length kept) ≡ Some t
      → (more : List Token) → more ≡ kept ++ t ∷ [] → (after : Bool) → after ≡ (ended || is_done t) → SenderKeeps s n more lost messages after v
  keeps-token unlost room t next more is after told =
      let longer : length more ≡ length kept + 1 = ap length is ∙ length-append kept (t ∷ []) in
      let up : v.sent + length more ≡ v.sent + length kept + 1 = omega arith in
      let low : v.sent ≤ v.sent + length kept = omega arith in
      record {
        view = h.view;
        next = ap (λ x. slice_range s v.sent x) up ∙ range-join s v.sent (v.sent + length kept) 1 low
            ∙ ap (λ l. l ++ slice_range s (v.sent + length kept) (v.sent + length kept + 1)) h.next
            ∙ ap (λ l. kept ++ l) (range-one s (v.sent + length kept) t next) ∙ sym is;
        few = omega arith;
        unlost = λ _. neither-0 v.sent_lost lost unlost;
        remain = λ e. absurd (true≢false (sym e ∙ neither-1 v.sent_lost lost unlost));
        counted = h.counted;
        told = told ∙ ended-next s (v.sent + length kept) (v.sent_lost || lost) ended t next h.told
            ∙ ap (λ x. v.sent_lost || lost || is_done_in s x) (sym up);
      }

  pub keeps-lost : (v.sent_lost || lost) ≡ false → length kept + lost_count lost < 64 → v.sent + length kept < length s
      → SenderKeeps s n kept true messages true v
  keeps-lost unlost room next = record {
    view = h.view;
    next = h.next;
    few = let none : lost_count lost ≡ 0 = ap lost_count (neither-1 v.sent_lost lost unlost) in omega arith;
    unlost = λ _. neither-0 v.sent_lost lost unlost;
    remain = λ _. next;
    counted = h.counted;
    told = sym (ap (λ b. b || is_done_in s (v.sent + length kept)) (or-true v.sent_lost));
  }

  -- the first k that were kept were sent as one message
  pub sent-some : (k : ℕ) → 0 < k → k ≤ length kept → (left : List Token) → left ≡ drop k kept → (w : Known)
      → w ≡ record v { sent = v.sent + k; messages = v.messages + 1 } → (counted : ℕ) → counted ≡ min (messages + 1) (2 ^ 64 - 1)
      → SenderKeeps s n left lost counted ended w
  sent-some k some within left is w went counted count =
      let fewer : length left ≡ length kept - k = ap length is ∙ length-drop k kept in
      let top : ℕ = v.sent + length kept in
      let taken : length (slice_range s v.sent top) ≡ min (top - v.sent) (length (drop v.sent s)) = length-take (top - v.sent) (drop v.sent s) in
      let rest : length (drop v.sent s) ≡ length s - v.sent = length-drop v.sent s in
      let same : length (slice_range s v.sent top) ≡ length kept = ap length h.next in
      let in_stream : top ≤ length s = omega arith in
      let front : length (take k kept) ≡ k = length-take k kept ∙ (let m : min k (length kept) ≡ k = omega arith in m) in
      let split : slice_range s v.sent top ≡ take k kept ++ drop k kept = h.next ∙ sym (take-append-drop k kept) in
      let low : v.sent ≤ top = omega arith in
      let cut = range-cut s (take k kept) (drop k kept) v.sent top low in_stream split in
      let sent : w.sent ≡ v.sent + k = ap (λ (u : Known). u.sent) went in
      let unchanged : w.sent_lost ≡ v.sent_lost = ap (λ (u : Known). u.sent_lost) went in
      let up : w.sent + length left ≡ top = omega arith in
      let start : w.sent ≡ v.sent + length (take k kept) = omega arith in
      let none : 0 < length left + lost_count lost → 0 < length kept + lost_count lost = λ e. omega arith in
      let more : w.messages ≡ v.messages + 1 = ap (λ (u : Known). u.messages) went in
      let before = h.counted in
      record {
        view = went ∙ ap (λ (u : Known). record u { sent = v.sent + k; messages = v.messages + 1 }) h.view
            ∙ (λ i. sender_view s n (sym sent i) (sym more i) (sym unchanged i));
        next = ap (λ x. slice_range s w.sent x) up ∙ ap (λ x. slice_range s x top) start ∙ cut.2 ∙ sym is;
        few = let f = h.few in omega arith;
        unlost = λ e. unchanged ∙ h.unlost (none e);
        remain = λ e. let r = h.remain e in omega arith;
        counted = omega arith;
        told = h.told ∙ (λ i. sym unchanged i || lost || is_done_in s (sym up i));
      }
