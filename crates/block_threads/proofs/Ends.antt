-- What a message changes of an end, and where streams end.
use Rattle.std.proofs.Common.{◌≡◌, ℕ, zero, suc, ◌+◌, ◌<◌, Bool, true, false, ◌||◌, List, [], ◌∷◌, length, refl, sym, ap, ◌∙◌, subst, arith, set, map, ⊎_elim}
use Rattle.std.specs.Prelude.{Some, slice_get}
use Rattle.std.proofs.lemmas.Bool.{cases_eq}
use Rattle.std.proofs.lemmas.Option.{slice_get_within}
use Rattle.stream_tokens.specs.declared.Token.{Token}
use Rattle.stream_tokens.specs.declared.Token.TheVariants.{Item, Empty, Stop, Done}
use Rattle.stream_tokens.specs.Nest.{IsStream}
use Rattle.stream_tokens.proofs.Ending.{EndsWithin, IsStream-ends}
use Rattle.ruled_wires.specs.declared.message.Sent.{Sent}
use Rattle.ruled_wires.specs.declared.message.Sent.TheVariants as sent
use Rattle.ruled_wires.specs.Ends.{End, wire_stream, after_message, keeping, is_done_in, is_ended}
use Rattle.block_core.specs.Ports.{AllStreams}
use Rattle.plays.proofs.Lists.{same_some, get_set_here, get_set_there}
use Rattle.block_threads.specs.Ports.{channels_of, streams_of, IsEnded, HasLost}

pub after_channel : (k : ℕ) (e : End) (x : Sent) → (keeping k (after_message e x)).channel ≡ e.channel
after_channel k e (sent.Token t) = refl
after_channel k e sent.Lost = refl

pub after_lost : (k : ℕ) (e : End) (x : Sent) → e.lost ≡ true → (keeping k (after_message e x)).lost ≡ true
after_lost k e (sent.Token t) was = was
after_lost k e sent.Lost was = refl

none-done : (n : ℕ) → is_done_in [] n ≡ false
none-done zero = refl
none-done (suc n) = refl

-- Done is the last token alone
before-end : (s : List Token) → EndsWithin 200 s → (n : ℕ) → n < length s → is_done_in s n ≡ false
before-end s ends zero less = refl
before-end [] ends (suc n) less = refl
before-end (Item x ∷ s) ends (suc n) less = before-end s ends n (omega arith)
before-end (Empty ∷ s) ends (suc n) less = before-end s ends n (omega arith)
before-end (Stop k ∷ s) ends (suc n) less = before-end s ends.1 n (omega arith)
before-end (Done ∷ s) ends (suc n) less = let none : length s ≡ 0 = ap length ends in absurd (omega arith)

until-end : (s : List Token) → EndsWithin 200 s → (n : ℕ) → is_done_in s n ≡ false → n < length s
until-end [] ends n e = absurd ends
until-end (Item x ∷ s) ends zero e = omega arith
until-end (Empty ∷ s) ends zero e = omega arith
until-end (Stop k ∷ s) ends zero e = omega arith
until-end (Done ∷ s) ends zero e = omega arith
until-end (Item x ∷ s) ends (suc n) e = omega (arith, until-end s ends n e)
until-end (Empty ∷ s) ends (suc n) e = omega (arith, until-end s ends n e)
until-end (Stop k ∷ s) ends (suc n) e = omega (arith, until-end s ends.1 n e)
until-end (Done ∷ s) ends (suc n) e = absurd (cc)

pub not-done : (s : List Token) → IsStream s → (n : ℕ) → n < length s → is_done_in s n ≡ false
not-done s whole n less = before-end s (IsStream-ends s whole) n less

pub remain : (s : List Token) → IsStream s → (n : ℕ) → is_done_in s n ≡ false → n < length s
remain s whole n e = until-end s (IsStream-ends s whole) n e

pub unended : (s : List Token) (e : End) → is_ended s e ≡ false → (e.lost ≡ false) × (is_done_in s e.count ≡ false)
unended s e h = by_case e.lost (is_done_in s e.count) h
  where
    by_case : (a b : Bool) → (a || b) ≡ false → (a ≡ false) × (b ≡ false)
    by_case true b h = absurd (cc)
    by_case false b h = (refl, h)

-- ---- one end of several changes

abbrev pub EndedBelow : List (List Token) → ℕ → List End → Type 0
EndedBelow streams n es = (p : ℕ) (e : End) → p < n → slice_get es p ≡ Some e → IsEnded streams e

pub ended_more : (streams : List (List Token)) (n : ℕ) (es : List End) (e : End) → n < length es → IsEnded streams e → EndedBelow streams n es
    → EndedBelow streams (n + 1) (set es n e)
ended_more streams n es e within last below p x less at =
    ⊎_elim (λ (here : p ≡ n). let e_is : e ≡ x = same_some e x (sym (get_set_here es n e within) ∙ ap (slice_get (set es n e)) (sym here) ∙ at) in subst (IsEnded streams) e_is last)
    (λ (there : p ≡ n → ⊥). below p x (omega (arith, there)) (sym (get_set_there es n p e there) ∙ at)) (cases_eq p n)

pub channels_set : (es : List End) (n : ℕ) (e y : End) → slice_get es n ≡ Some e → y.channel ≡ e.channel → channels_of (set es n y) ≡ channels_of es
channels_set [] n e y at same = refl
channels_set (x ∷ es) zero e y at same = let is : x ≡ e = same_some x e at in ap (λ c. c ∷ channels_of es) (same ∙ ap (λ (z : End). z.channel) (sym is))
channels_set (x ∷ es) (suc n) e y at same = ap (λ cs. x.channel ∷ cs) (channels_set es n e y at same)

pub lost_set : (es : List End) (n : ℕ) (e y : End) → slice_get es n ≡ Some e → (e.lost ≡ true → y.lost ≡ true) → HasLost es → HasLost (set es n y)
lost_set es n e y at stays has =
    ⊎_elim (λ (here : has.0 ≡ n).
    let is : e ≡ has.1 = same_some e has.1 (sym at ∙ ap (slice_get es) (sym here) ∙ has.2) in
    (n, y, get_set_here es n y (slice_get_within es n e at), stays (ap (λ (z : End). z.lost) is ∙ has.3)))
    (λ (there : has.0 ≡ n → ⊥). (has.0, has.1, get_set_there es n has.0 y there ∙ has.2, has.3)) (cases_eq has.0 n)

-- the streams are those of the channels
pub streams_by : (streams : List (List Token)) (es : List End) → streams_of streams es ≡ map (wire_stream streams) (channels_of es)
streams_by streams [] = refl
streams_by streams (e ∷ es) = ap (λ ss. wire_stream streams e.channel ∷ ss) (streams_by streams es)

pub same_streams : (streams : List (List Token)) (es fs : List End) → channels_of es ≡ channels_of fs → streams_of streams es ≡ streams_of streams fs
same_streams streams es fs same = streams_by streams es ∙ ap (map (wire_stream streams)) same ∙ sym (streams_by streams fs)

stream_in : (streams : List (List Token)) (es : List End) (p : ℕ) (e : End) → AllStreams (streams_of streams es) → slice_get es p ≡ Some e
    → IsStream (wire_stream streams e.channel)
stream_in streams [] p e all at = absurd (cc)
stream_in streams (x ∷ es) zero e all at = let is : x ≡ e = same_some x e at in subst (λ (z : End). IsStream (wire_stream streams z.channel)) is all.0
stream_in streams (x ∷ es) (suc p) e all at = stream_in streams es p e all.1 at

pub stream_of_end : (streams : List (List Token)) (es fs : List End) (p : ℕ) (e : End) → channels_of es ≡ channels_of fs
    → AllStreams (streams_of streams fs) → slice_get es p ≡ Some e → IsStream (wire_stream streams e.channel)
stream_of_end streams es fs p e same all at = stream_in streams es p e (subst AllStreams (sym (same_streams streams es fs same)) all) at

pub lost_here : (es fs : List End) (p k : ℕ) (e : End) (x : Sent) → slice_get es p ≡ Some e → x ≡ sent.Lost → fs ≡ set es p (keeping k (after_message e x))
    → HasLost fs
lost_here es fs p k e x at lost is =
    let y : End = keeping k (after_message e sent.Lost) in
    let now : fs ≡ set es p y = is ∙ ap (λ z. set es p (keeping k (after_message e z))) lost in
    (p, y, ap (λ l. slice_get l p) now ∙ get_set_here es p y (slice_get_within es p e at), refl)
