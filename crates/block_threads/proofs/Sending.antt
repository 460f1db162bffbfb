-- What stays true of ends that send what they keep.
use Rattle.std.proofs.Common.{◌≡◌, ℕ, suc, ◌+◌, ◌<◌, ◌≤◌, List, [], ◌∷◌, length, set, refl, sym, ap, ap₂, ◌∙◌, subst, arith, get_or}
use Rattle.std.specs.Prelude.{Some, slice_get}
use Rattle.std.specs.List.{All}
use Rattle.std.proofs.lemmas.Option.{slice_get_within, get_or_from_slice_get, slice_get-get_or}
use Rattle.stream_tokens.specs.declared.Token.{Token}
use Rattle.block_core.specs.declared.BlockStep.{Ghosts}
use Rattle.plays.proofs.Lists.{get_set_there}
use Rattle.ruled_wires.specs.Ends.{End, Onwards, AllOnwards, AllFlushed}
use Rattle.block_threads.specs.Ports.{channels_of, HasRoom}
use Rattle.block_threads.specs.Working.{HasMoved, HaveCounts, put_after}

pub flushed_onwards : (es fs : List End) → AllFlushed es fs → AllOnwards es fs
flushed_onwards es fs flushed = (flushed.0, λ k d less. (flushed.1 k d less).onwards)

pub onwards_channels : (es fs : List End) → AllOnwards es fs → channels_of fs ≡ channels_of es
onwards_channels [] [] on = refl
onwards_channels [] (y ∷ fs) on = let same = on.0 in absurd (omega arith)
onwards_channels (x ∷ es) [] on = let same = on.0 in absurd (omega arith)
onwards_channels (x ∷ es) (y ∷ fs) on =
    let first : Onwards x y = on.1 0 x (omega arith) in
    let rest : channels_of fs ≡ channels_of es = onwards_channels es fs (let same = on.0 in omega arith, λ k d less. on.1 (suc k) d (omega arith)) in
    ap₂ (λ c cs. c ∷ cs) (ap (λ (z : End). z.channel) first.same) rest

-- an end that is there now was there before
pub onwards_at : (es fs : List End) (p : ℕ) (f : End) → AllOnwards es fs → slice_get fs p ≡ Some f → (e : End) × (slice_get es p ≡ Some e) × Onwards e f
onwards_at es fs p f on at =
    let within : p < length fs = slice_get_within fs p f at in
    let before : p < length es = let same = on.0 in omega arith in
    (get_or es p f, slice_get-get_or es p f before, subst (Onwards (get_or es p f)) (get_or_from_slice_get fs p f f at) (on.1 p f before))

pub onwards_counts : (count : ℕ → ℕ) (es fs : List End) → AllOnwards es fs → HaveCounts count es → HaveCounts count fs
onwards_counts count es fs on have p f at =
    let was = onwards_at es fs p f on at in
    let had = have p was.0 was.1 in
    (ap (λ (z : End). z.count) was.2.same ∙ had.0, ap (λ (z : End). z.lost) was.2.same ∙ had.1)

pub moved_onwards : {B : Type 0} (step : Ghosts B) (streams : List (List Token)) (block : B) (ins outs : List End) (n : ℕ) (block' : B) (ins' outs' outs'' : List End)
    → AllOnwards outs' outs'' → HasMoved step streams block ins outs n block' ins' outs' → HasMoved step streams block ins outs n block' ins' outs''
moved_onwards step streams block ins outs n block' ins' outs' outs'' on h = record {
  same_kind = h.same_kind;
  same_refusal = h.same_refusal;
  stands = h.stands;
  same_ins = h.same_ins;
  same_outs = onwards_channels outs' outs'' on ∙ h.same_outs;
  taken = h.taken;
  put = onwards_counts (put_after _ n) outs' outs'' on h.put;
}

-- ---- room, where one end changes

pub room_at : (es : List End) → All HasRoom es → (p : ℕ) (e : End) → slice_get es p ≡ Some e → HasRoom e
room_at es room p e at = subst HasRoom (get_or_from_slice_get es p e e at) (room p e (slice_get_within es p e at))

pub room_behind : (es : List End) (i : ℕ) (y : End) → ((p : ℕ) (e : End) → i ≤ p → slice_get es p ≡ Some e → HasRoom e)
    → (p : ℕ) (e : End) → i + 1 ≤ p → slice_get (set es i y) p ≡ Some e → HasRoom e
room_behind es i y room p e more at = room p e (omega arith) (sym (get_set_there es i p y (λ same. omega arith)) ∙ at)
