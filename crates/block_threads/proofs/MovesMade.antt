-- The moves of a block on its wires.
use Rattle.std.proofs.Common.{◌≡◌, ℕ, zero, suc, ◌+◌, ◌<◌, ◌≤◌, false, ◌||◌, List, [], ◌∷◌, length, take, drop, set, refl, sym, ap, ◌∙◌, subst, arith, get_or}
use Rattle.std.specs.Prelude.{Some, slice_get}
use Rattle.std.specs.List.{All}
use Rattle.std.proofs.lemmas.Option.{slice_get_within, get_or_from_slice_get, slice_get-get_or}
use Rattle.stream_tokens.specs.declared.Token.{Token}
use Rattle.block_core.specs.declared.BlockStep.{Ghosts}
use Rattle.block_core.specs.declared.Wish.{Wish}
use Rattle.block_core.specs.declared.Wish.TheVariants.{Take, Put, Finished}
use Rattle.block_core.specs.Move.{Move, Taking, Putting, wish_of, takes, puts}
use Rattle.block_core.specs.Ports.{port, AllStreams}
use Rattle.block_core.specs.Kind.{Fits, moves, outputs, ins_of, outs_of}
use Rattle.block_core.specs.Steps.{StandsAfterTake, StandsAfterPut}
use Rattle.block_core.specs.Flows.{Passes}
use Rattle.block_core.proofs.All.{all-pass}
use Rattle.block_core.proofs.Arity.{fits-length, outputs-length, take-in-range, put-in-range}
use Rattle.plays.proofs.Lists.{same_some}
use Rattle.stepper.proofs.Wishes.{wish_take, wish_put, wish_finished}
use Rattle.ruled_wires.specs.declared.message.Sent.TheVariants as sent
use Rattle.ruled_wires.specs.Ends.{End, wire_stream, after_message, keeping, is_ended, is_done_in, AllOnwards}
use Rattle.block_threads.specs.Ports.{channels_of, streams_of, IsFresh, IsThrough}
use Rattle.block_threads.specs.Working.{StandsWired, HasMoved, HaveCounts, taken_after, put_after}
use Rattle.block_threads.proofs.Ends.{same_streams, stream_of_end, not-done, channels_set}
use Rattle.block_threads.proofs.Sending.{moved_onwards}
use Rattle.block_threads.proofs.Counts.{counts_set, counts_same, take_counts, take_counts_there, take_puts, put_counts, put_counts_there, put_takes, take_token, put_token}

-- the stream at a port is that of the end there
port_stream : (streams : List (List Token)) (es : List End) (p : ℕ) (e : End) → slice_get es p ≡ Some e → port p (streams_of streams es) ≡ wire_stream streams e.channel
port_stream streams [] p e at = absurd (cc)
port_stream streams (x ∷ es) zero e at = let is : x ≡ e = cc in ap (λ (z : End). wire_stream streams z.channel) is
port_stream streams (x ∷ es) (suc p) e at = port_stream streams es p e at

streams_length : (streams : List (List Token)) (es : List End) → length (streams_of streams es) ≡ length es
streams_length streams [] = refl
streams_length streams (e ∷ es) = ap suc (streams_length streams es)

channels_length : (es : List End) → length (channels_of es) ≡ length es
channels_length [] = refl
channels_length (e ∷ es) = ap suc (channels_length es)

same_length : (es fs : List End) → channels_of es ≡ channels_of fs → length es ≡ length fs
same_length es fs same = sym (channels_length es) ∙ ap length same ∙ channels_length fs

whole_move : (ms : List Move) (n : ℕ) → n ≡ length ms → take n ms ≡ ms
whole_move [] zero e = refl
whole_move [] (suc n) e = absurd (omega arith)
whole_move (m ∷ ms) zero e = absurd (omega arith)
whole_move (m ∷ ms) (suc n) e = ap (λ l. m ∷ l) (whole_move ms n (omega arith))

fresh_counts : (f : ℕ → ℕ) (es : List End) → All IsFresh es → ((p : ℕ) → f p ≡ 0) → HaveCounts f es
fresh_counts f es fresh none p e at =
    let within : p < length es = slice_get_within es p e at in
    let is : get_or es p e ≡ e = get_or_from_slice_get es p e e at in
    let this : IsFresh e = subst IsFresh is (fresh p e within) in
    (ap (λ (z : End). z.count) this ∙ sym (none p), ap (λ (z : End). z.lost) this)

module _ {B : Type 0} (step : Ghosts B) (streams : List (List Token)) (block : B) (ins outs : List End)
    (wired : StandsWired step streams block ins outs)
    (fits : Fits (step.kind block) (streams_of streams ins)) where
  abbrev Ms : List Move
  Ms = moves (step.kind block) (streams_of streams ins)

  passes : Passes (streams_of streams ins) Ms (outputs (step.kind block) (streams_of streams ins))
  passes = all-pass (step.kind block) (streams_of streams ins) fits

  pub moved_none : All IsFresh ins → All IsFresh outs → HasMoved step streams block ins outs 0 block ins outs
  moved_none fresh_ins fresh_outs = record {
    same_kind = refl;
    same_refusal = refl;
    stands = wired.stands;
    same_ins = refl;
    same_outs = refl;
    taken = fresh_counts (taken_after Ms 0) ins fresh_ins (λ p. refl);
    put = fresh_counts (put_after Ms 0) outs fresh_outs (λ p. refl);
  }

  module _ (n : ℕ) (block' : B) (ins' outs' : List End) (h : HasMoved step streams block ins outs n block' ins' outs') where
    -- the wish is the next of the moves
    next_wish : (w : Wish) → w ≡ wish_of (drop n (moves (step.kind block') (streams_of streams ins))) → wish_of (drop n Ms) ≡ w
    next_wish w told = sym (told ∙ ap (λ k. wish_of (drop n (moves k (streams_of streams ins)))) h.same_kind)

    pub own_move : (m : Move) → slice_get Ms n ≡ Some m → slice_get (moves (step.kind block') (streams_of streams ins)) n ≡ Some m
    own_move m at = ap (λ k. slice_get (moves k (streams_of streams ins)) n) h.same_kind ∙ at

    pub put_at : (p : ℕ) (t : Token) → Put p t ≡ wish_of (drop n (moves (step.kind block') (streams_of streams ins))) → slice_get Ms n ≡ Some (Putting p t)
    put_at p t told = wish_put Ms n p t (next_wish (Put p t) told)

    pub take_at : (p : ℕ) → Take p ≡ wish_of (drop n (moves (step.kind block') (streams_of streams ins)))
        → (t : Token) × (slice_get Ms n ≡ Some (Taking p t))
    take_at p told = wish_take Ms n p (next_wish (Take p) told)

    pub all_made : n ≤ length (moves (step.kind block') (streams_of streams ins))
        → Finished ≡ wish_of (drop n (moves (step.kind block') (streams_of streams ins))) → n ≡ length Ms
    all_made within told =
        wish_finished Ms n (subst (λ k. n ≤ length (moves k (streams_of streams ins))) h.same_kind within) (next_wish Finished told)

    pub outs_whole : AllStreams (streams_of streams outs')
    outs_whole = subst AllStreams (sym (same_streams streams outs' outs h.same_outs)) wired.whole

    module _ (p : ℕ) (t : Token) (next : slice_get Ms n ≡ Some (Putting p t)) where
      pub put_within : p < length outs'
      put_within =
          let below : p < outs_of (step.kind block) = put-in-range (step.kind block) (streams_of streams ins) n p t fits next in
          let number = outputs-length (step.kind block) (streams_of streams ins) in
          let given = ap length wired.gives in
          let wide = streams_length streams outs in
          let same = same_length outs' outs h.same_outs in
          omega (arith, below, number, given, wide, same)

      pub put_next : (e : End) → slice_get outs' p ≡ Some e → (e.lost ≡ false) × (slice_get (wire_stream streams e.channel) e.count ≡ Some t)
      put_next e at =
          let counts = h.put p e at in
          let stream : wire_stream streams e.channel ≡ puts p Ms =
          sym (port_stream streams outs' p e at) ∙ ap (port p) (same_streams streams outs' outs h.same_outs ∙ wired.gives) ∙ sym (passes.through.put p) in
          (counts.1, ap (λ l. slice_get l e.count) stream ∙ ap (slice_get (puts p Ms)) counts.0 ∙ put_token Ms n p t next)

      pub put_moved : (e : End) (block'' : B) (outs'' : List End) → slice_get outs' p ≡ Some e
          → AllOnwards (set outs' p (keeping (e.kept + 1) (after_message e (sent.Token t)))) outs''
          → step.kind block'' ≡ step.kind block' → step.may_refuse block'' ≡ step.may_refuse block'
          → StandsAfterPut (step.stands block') (step.stands block'') (step.kind block')
          → HasMoved step streams block ins outs (n + 1) block'' ins' outs''
      put_moved e block'' outs'' at on kind refusal after = moved_onwards step streams block ins outs (n + 1) block'' ins'
          (set outs' p (keeping (e.kept + 1) (after_message e (sent.Token t)))) outs'' on record {
            same_kind = kind ∙ h.same_kind;
            same_refusal = refusal ∙ h.same_refusal;
            stands = after (streams_of streams ins) n p t h.stands (ap (λ k. slice_get (moves k (streams_of streams ins)) n) h.same_kind ∙ next);
            same_ins = h.same_ins;
            same_outs = channels_set outs' p e (keeping (e.kept + 1) (after_message e (sent.Token t))) at refl ∙ h.same_outs;
            taken = counts_same (taken_after Ms n) (taken_after Ms (n + 1)) ins' h.taken (put_takes Ms n p t next);
            put = counts_set (put_after Ms n) (put_after Ms (n + 1)) outs' p (e.kept + 1) e t h.put at (put_counts Ms n p t next) (put_counts_there Ms n p t next);
          }

    module _ (p : ℕ) (t : Token) (next : slice_get Ms n ≡ Some (Taking p t)) where
      pub take_within : p < length ins'
      take_within =
          let below : p < ins_of (step.kind block) = take-in-range (step.kind block) (streams_of streams ins) n p t fits next in
          let number = fits-length (step.kind block) (streams_of streams ins) fits in
          let wide = streams_length streams ins in
          let same = same_length ins' ins h.same_ins in
          omega (arith, below, number, wide, same)

      pub take_next : (e : End) → slice_get ins' p ≡ Some e → slice_get (wire_stream streams e.channel) e.count ≡ Some t
      take_next e at =
          let counts = h.taken p e at in
          let stream : wire_stream streams e.channel ≡ takes p Ms =
          sym (port_stream streams ins' p e at) ∙ ap (port p) (same_streams streams ins' ins h.same_ins) ∙ sym (passes.through.taken p) in
          ap (λ l. slice_get l e.count) stream ∙ ap (slice_get (takes p Ms)) counts.0 ∙ take_token Ms n p t next

      -- the token that the wire gave is that of the move
      pub token_is : (e : End) (u : Token) → slice_get ins' p ≡ Some e → slice_get (wire_stream streams e.channel) e.count ≡ Some u
          → slice_get Ms n ≡ Some (Taking p u)
      token_is e u at given = next ∙ ap (λ x. Some (Taking p x)) (same_some t u (sym (take_next e at) ∙ given))

      pub take_unended : (e : End) → slice_get ins' p ≡ Some e → is_ended (wire_stream streams e.channel) e ≡ false
      take_unended e at =
          let s : List Token = wire_stream streams e.channel in
          let within : e.count < length s = slice_get_within s e.count t (take_next e at) in
          ap (λ b. b || is_done_in s e.count) (h.taken p e at).1 ∙ not-done s (stream_of_end streams ins' ins p e h.same_ins fits.streams at) e.count within

      pub take_moved : (e : End) (kept : ℕ) (block'' : B) (ins'' : List End) → slice_get ins' p ≡ Some e
          → ins'' ≡ set ins' p (keeping kept (after_message e (sent.Token t)))
          → step.kind block'' ≡ step.kind block' → step.may_refuse block'' ≡ step.may_refuse block'
          → StandsAfterTake (step.stands block') (step.stands block'') (step.kind block') p t
          → HasMoved step streams block ins outs (n + 1) block'' ins'' outs'
      take_moved e kept block'' ins'' at is kind refusal after = record {
        same_kind = kind ∙ h.same_kind;
        same_refusal = refusal ∙ h.same_refusal;
        stands = after (streams_of streams ins) n h.stands (ap (λ k. slice_get (moves k (streams_of streams ins)) n) h.same_kind ∙ next);
        same_ins = ap channels_of is ∙ channels_set ins' p e (keeping kept (after_message e (sent.Token t))) at refl ∙ h.same_ins;
        same_outs = h.same_outs;
        taken = subst (HaveCounts (taken_after Ms (n + 1))) (sym is)
            (counts_set (taken_after Ms n) (taken_after Ms (n + 1)) ins' p kept e t h.taken at (take_counts Ms n p t next) (take_counts_there Ms n p t next));
        put = counts_same (put_after Ms n) (put_after Ms (n + 1)) outs' h.put (take_puts Ms n p t next);
      }

    -- all moves were made
    module _ (all : n ≡ length Ms) where
      pub ends_stands : step.stands block' (streams_of streams ins) (length Ms)
      ends_stands = subst (step.stands block' (streams_of streams ins)) all h.stands

      pub ins_through : All (IsThrough streams) ins'
      ins_through p d less =
          let e : End = get_or ins' p d in
          let at : slice_get ins' p ≡ Some e = slice_get-get_or ins' p d less in
          let counts = h.taken p e at in
          let stream : wire_stream streams e.channel ≡ takes p Ms =
          sym (port_stream streams ins' p e at) ∙ ap (port p) (same_streams streams ins' ins h.same_ins) ∙ sym (passes.through.taken p) in
          (counts.0 ∙ ap (λ l. length (takes p l)) (whole_move Ms n all) ∙ ap length (sym stream), counts.1)

      pub outs_through : All (IsThrough streams) outs'
      outs_through p d less =
          let e : End = get_or outs' p d in
          let at : slice_get outs' p ≡ Some e = slice_get-get_or outs' p d less in
          let counts = h.put p e at in
          let stream : wire_stream streams e.channel ≡ puts p Ms =
          sym (port_stream streams outs' p e at) ∙ ap (port p) (same_streams streams outs' outs h.same_outs ∙ wired.gives) ∙ sym (passes.through.put p) in
          (counts.0 ∙ ap (λ l. length (puts p l)) (whole_move Ms n all) ∙ ap length (sym stream), counts.1)
