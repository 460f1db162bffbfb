-- Each kind of step keeps the rule of a wire.
use Rattle.std.proofs.Common.{◌≡◌, ◌≢◌, ℕ, ◌+◌, ◌-◌, ◌<◌, ◌≤◌, Bool, true, false, ◌||◌, ◌&&◌, true≢false, List, [], ◌∷◌, ◌++◌, length, map, drop, set, sym, refl, ap, ◌∙◌, subst, arith, ⊎_elim, length-append}
use Rattle.std.specs.Prelude.{slice_range, min}
use Rattle.std.proofs.lemmas.List.{append-nil, length-take, length-drop, length-map}
use Rattle.std.specs.List.{All}
use Rattle.std.proofs.lemmas.List.Elements.{All-push, All-tail}
use mathlib.Core.Option.{some}
use lib.ListN.{get_elem?}
use Rattle.crossbeam_channel.specs.Fifo.{Pushes, Pops, Forks}
use Rattle.atomic_table.proofs.Lists.{at_set}
use Rattle.stream_tokens.specs.declared.Token.{Token}
use Rattle.ruled_wires.specs.declared.known.Known.{Known}
use Rattle.ruled_wires.specs.declared.message.Sent.{Sent}
use Rattle.ruled_wires.specs.declared.message.Sent.TheVariants as sent
use Rattle.ruled_wires.specs.declared.message.Message.{Message}
use Rattle.ruled_wires.specs.declared.message.Message.TheVariants as message
use Rattle.ruled_wires.specs.Rule.{Wire, unmade, sender_view, receiver_view, both_views, no_view, tokens_of, is_lost, IsSized, AreNext, after_send, after_receive, carried_by, held_of, lost_if, carried, KnowsSent, KnowsReceived}
use Rattle.ruled_wires.specs.Laws.{EndsJoin}
use Rattle.ruled_wires.proofs.Views.{AllViews, all-set, all-snoc, only-view}
use Rattle.ruled_wires.proofs.Held.{not-true, range-none, grow, front-tokens, front-lost}

pub begins : Wire [] (unmade ∷ [])
begins = record {
  from = 0;
  to = 0;
  stream = [];
  capacity = 0;
  sent = 0;
  messages = 0;
  sent_lost = false;
  received = 0;
  got_lost = false;
  in_order = omega arith;
  within = omega arith;
  content = refl;
  sized = λ k x less. absurd (omega arith);
  lost_early = λ e. absurd (true≢false (sym e));
  lost_last = λ e. absurd (true≢false (sym e));
  room = omega arith;
  knows_sent = only-view (KnowsSent 0 [] 0 0 0 false) unmade (λ _. (refl, refl, refl, refl, refl, refl));
  knows_received = only-view (KnowsReceived 0 [] 0 false) unmade (λ _. (refl, refl, refl, refl));
}

module _ (n pass : ℕ) (v : Known) (sends : v.sends ≡ true) (capacity : v.capacity ≡ n) (unlost : v.sent_lost ≡ false) where
  -- a message of the next tokens, or Lost where tokens remain, is sent
  pub pushes : (m : Message) → IsSized m → AreNext v.stream v.sent m → Pushes Wire n pass v m (λ w. w ≡ after_send v m)
  pushes m sized next items views space h at =
      let mine = h.knows_sent pass v at sends in
      let w : Known = after_send v m in
      let k : ℕ = length (tokens_of m) in
      let here : AreNext h.stream h.sent m = subst (λ (y : List Token × ℕ). AreNext y.0 y.1 m) (λ i. (mine.1 i, mine.3 i)) next in
      let kept : h.sent_lost ≡ false = sym mine.5 ∙ unlost in
      let not_lost : h.sent_lost ≡ true → ⊥ = λ e. true≢false (sym e ∙ kept) in
      let ungot : h.got_lost ≡ false = not-true h.got_lost (λ e. not_lost (h.lost_last e).0) in
      let order = h.in_order in
      let grown : carried_by (items ++ m ∷ []) ≡ held_of h.stream h.received (h.sent + k) (is_lost m) h.got_lost =
      grow h.stream h.received h.sent m h.sent_lost h.got_lost items h.in_order here.0 kept ungot h.content in
      let longer : length (items ++ m ∷ []) ≡ length items + 1 = length-append items (m ∷ []) in
      let roomy : h.capacity ≡ n = sym mine.2 ∙ capacity in
      let flag : (v.sent_lost || is_lost m) ≡ is_lost m = ap (λ b. b || is_lost m) unlost in
      let within = reaches h.stream h.sent m h.within here in (
        w,
        record {
          from = h.from;
          to = h.to;
          stream = h.stream;
          capacity = h.capacity;
          sent = h.sent + k;
          messages = h.messages + 1;
          sent_lost = is_lost m;
          received = h.received;
          got_lost = h.got_lost;
          in_order = omega arith;
          within = within.0;
          content = grown;
          sized = All-push IsSized items m h.sized sized;
          lost_early = within.1;
          lost_last = λ e. absurd (not_lost (h.lost_last e).0);
          room = omega arith;
          knows_sent = all-set (KnowsSent h.from h.stream h.capacity (h.sent + k) (h.messages + 1) (is_lost m)) views pass w
              (λ _. (mine.0, mine.1, mine.2, ap (λ x. x + k) mine.3, ap (λ x. x + 1) mine.4, flag))
              (λ j u other e may. absurd (other ((h.knows_sent j u e may).0 ∙ sym mine.0)));
          knows_received = all-set (KnowsReceived h.to h.stream h.received h.got_lost) views pass w (h.knows_received pass v at) (λ j u _ e. h.knows_received j u e);
        },
        refl,
      )
    where
      -- the tokens that were sent with it are of the stream, and before Lost some remain
      in_stream : (s : List Token) (b k : ℕ) (ts : List Token) → b ≤ length s → length ts ≡ k → slice_range s b (b + k) ≡ ts → b + k ≤ length s
      in_stream s b k ts within long here =
          let taken : length (slice_range s b (b + k)) ≡ min (b + k - b) (length (drop b s)) = length-take (b + k - b) (drop b s) in
          let left : length (drop b s) ≡ length s - b = length-drop b s in
          let same : length (slice_range s b (b + k)) ≡ k = ap length here ∙ long in
          omega arith

      reaches : (s : List Token) (b : ℕ) (m : Message) → b ≤ length s → AreNext s b m
          → (b + length (tokens_of m) ≤ length s) × (is_lost m ≡ true → b + length (tokens_of m) < length s)
      reaches s b (message.One t) within here = (in_stream s b 1 (t ∷ []) within refl here.0, λ e. absurd (true≢false (sym e)))
      reaches s b (message.Packet ts) within here = (in_stream s b (length ts.items) ts.items within refl here.0, λ e. absurd (true≢false (sym e)))
      reaches s b message.Lost within here = (omega arith, λ e. let less = here.1 e in omega arith)

or-false : (b : Bool) → (b || false) ≡ b
or-false true = refl
or-false false = refl

module _ (pass : ℕ) (v : Known) (takes : v.takes ≡ true) (items : List Message) (views : List Known) where
  abbrev Received : Message → Type 0
  Received x = (w : Known) × Wire items (set views pass w) × (AreNext v.stream v.received x × IsSized x × (w ≡ after_receive v x))

  module _ (x : Message) (h : Wire (x ∷ items) views) (at : get_elem? views pass ≡ some v) where
    mine : (pass ≡ h.to) × (v.stream ≡ h.stream) × (v.received ≡ h.received) × (v.got_lost ≡ h.got_lost)
    mine = h.knows_received pass v at takes

    next-of : AreNext h.stream h.received x → AreNext v.stream v.received x
    next-of e = subst (λ (z : List Token × ℕ). AreNext z.0 z.1 x) (λ i. (sym mine.1 i, sym mine.2 i)) e

    shorter : length items ≤ h.capacity
    shorter = let r = h.room in omega arith

    front-sized : IsSized x
    front-sized = h.sized 0 x (omega arith)

    -- what holds after it, where the rest carries what is held from there on
    after : (got : Bool) → (v.got_lost || is_lost x) ≡ got → h.received + length (tokens_of x) ≤ h.sent
        → carried_by items ≡ held_of h.stream (h.received + length (tokens_of x)) h.sent h.sent_lost got
        → (got ≡ true → (h.sent_lost ≡ true) × (h.received + length (tokens_of x) ≡ h.sent))
        → AreNext h.stream h.received x → Received x
    after got flag order rest last next =
        let w : Known = after_receive v x in
        let k : ℕ = length (tokens_of x) in (
          w,
          record {
            from = h.from;
            to = h.to;
            stream = h.stream;
            capacity = h.capacity;
            sent = h.sent;
            messages = h.messages;
            sent_lost = h.sent_lost;
            received = h.received + k;
            got_lost = got;
            in_order = order;
            within = h.within;
            content = rest;
            sized = All-tail IsSized x items h.sized;
            lost_early = h.lost_early;
            lost_last = last;
            room = shorter;
            knows_sent = all-set (KnowsSent h.from h.stream h.capacity h.sent h.messages h.sent_lost) views pass w (h.knows_sent pass v at) (λ j u _ e. h.knows_sent j u e);
            knows_received = all-set (KnowsReceived h.to h.stream (h.received + k) got) views pass w
                (λ _. (mine.0, mine.1, ap (λ n. n + k) mine.2, flag))
                (λ j u other e may. absurd (other ((h.knows_received j u e may).0 ∙ sym mine.0)));
          },
          (next-of next, front-sized, refl),
        )

    -- the message has tokens
    tokens-leave : (ts : List Token) → tokens_of x ≡ ts → is_lost x ≡ false → map sent.Token ts ++ carried_by items ≡ held_of h.stream h.received h.sent h.sent_lost h.got_lost → Received x
    tokens-leave ts are unlost is =
        let f = front-tokens h.stream ts h.received h.sent h.sent_lost h.got_lost (carried_by items) h.in_order h.within is in
        let k : length (tokens_of x) ≡ length ts = ap length are in
        let at_k : h.received + length (tokens_of x) ≡ h.received + length ts = omega arith in
        let order : h.received + length (tokens_of x) ≤ h.sent = omega (arith, f.0) in
        after h.got_lost (ap (λ b. b || is_lost x) mine.3 ∙ ap (λ b. h.got_lost || b) unlost ∙ or-false h.got_lost) order
        (f.2 ∙ ap (λ n. held_of h.stream n h.sent h.sent_lost h.got_lost) (sym at_k))
        (λ e. let last = h.lost_last e in (last.0, omega (arith, last.1, order)))
        (ap (λ n. slice_range h.stream h.received n) at_k ∙ f.1 ∙ sym are, λ e. absurd (true≢false (sym e ∙ unlost)))

  -- Lost leaves: all that was sent was received before
  lost-leaves : (h : Wire (message.Lost ∷ items) views) → get_elem? views pass ≡ some v → Received message.Lost
  lost-leaves h at =
      let f = front-lost h.stream h.received h.sent h.sent_lost h.got_lost (carried_by items) h.in_order h.within h.content in
      let same : h.received + 0 ≡ h.sent = omega (arith, f.0) in
      let within = h.lost_early f.1 in
      after message.Lost h at true (or-true v.got_lost) (omega (arith, same))
      (f.3 ∙ sym (ap (λ l. map sent.Token l ++ lost_if (h.sent_lost && false)) (range-none h.stream (h.received + 0) h.sent same) ∙ ap lost_if (and-false h.sent_lost)))
      (λ e. (f.1, same)) (range-none h.stream h.received (h.received + 0) (omega arith), λ e. omega (arith, within, f.0))
    where
      or-true : (b : Bool) → (b || true) ≡ true
      or-true true = refl
      or-true false = refl

      and-false : (b : Bool) → (b && false) ≡ false
      and-false true = refl
      and-false false = refl

  pops : (x : Message) → Wire (x ∷ items) views → get_elem? views pass ≡ some v → Received x
  pops (message.One t) h at = tokens-leave (message.One t) h at (t ∷ []) refl refl h.content
  pops (message.Packet ts) h at =
      tokens-leave (message.Packet ts) h at ts.items refl refl
      (ap (λ l. l ++ carried_by items) (sym (append-nil (map sent.Token ts.items))) ∙ h.content)
  pops message.Lost h at = lost-leaves h at

-- the front message is received: it has the next tokens, or says that they are lost
pub receives-next : (pass : ℕ) (v : Known) → v.takes ≡ true → Pops Wire pass v (λ x w. AreNext v.stream v.received x × IsSized x × (w ≡ after_receive v x))
receives-next pass v takes x items views h at = pops pass v takes items views x h at

pub forks : (pass : ℕ) (s : List Token) (n : ℕ) → Forks Wire pass unmade (sender_view s n 0 0 false) (receiver_view s n 0 false)
forks pass s n items views h at =
    let made = h.knows_sent pass unmade at refl in
    let take = h.knows_received pass unmade at refl in
    let l : Known = sender_view s n 0 0 false in
    let r : Known = receiver_view s n 0 false in
    let vs : List Known = set views pass l in
    let nothing : carried_by items ≡ [] = h.content ∙ ap (λ (w : (List Token × ℕ) × (ℕ × (Bool × Bool))). held_of w.0.0 w.0.1 w.1.0 w.1.1.0 w.1.1.1)
    (λ i. ((sym made.1 i, sym take.2 i), (sym made.3 i, (sym made.5 i, sym take.3 i)))) in
    record {
      from = pass;
      to = length vs;
      stream = s;
      capacity = n;
      sent = 0;
      messages = 0;
      sent_lost = false;
      received = 0;
      got_lost = false;
      in_order = omega arith;
      within = omega arith;
      content = nothing;
      sized = h.sized;
      lost_early = λ e. absurd (true≢false (sym e));
      lost_last = λ e. absurd (true≢false (sym e));
      room = rw (carries-nothing items h.sized nothing) (omega arith);
      knows_sent = all-snoc (KnowsSent pass s n 0 0 false) vs r
          (all-set (KnowsSent pass s n 0 0 false) views pass l (λ _. (refl, refl, refl, refl, refl, refl))
          (λ j u other e may. absurd (other ((h.knows_sent j u e may).0 ∙ sym made.0))))
          (λ may. absurd (true≢false (sym may)));
      knows_received = all-snoc (KnowsReceived (length vs) s 0 false) vs r
          (all-set (KnowsReceived (length vs) s 0 false) views pass l (λ may. absurd (true≢false (sym may)))
          (λ j u other e may. absurd (other ((h.knows_received j u e may).0 ∙ sym take.0))))
          (λ _. (refl, refl, refl, refl));
    }
  where
    -- messages that carry nothing are none, since each carries something
    carries-nothing : (items : List Message) → All IsSized items → carried_by items ≡ [] → items ≡ []
    carries-nothing [] sized none = refl
    carries-nothing (x ∷ items) sized none = absurd (some-carried x (sized 0 x (omega arith)) (carried_by items) none)
      where
        some-carried : (m : Message) → IsSized m → (rest : List Sent) → carried m ++ rest ≡ [] → ⊥
        some-carried (message.One t) _ rest e = cc
        some-carried (message.Packet ts) two rest e =
            let long : length (map sent.Token ts.items ++ []) ≡ length ts.items = ap length (append-nil (map sent.Token ts.items)) ∙ length-map ts.items sent.Token in
            let all : length ((map sent.Token ts.items ++ []) ++ rest) ≡ length (map sent.Token ts.items ++ []) + length rest = length-append (map sent.Token ts.items ++ []) rest in
            let zero : length ((map sent.Token ts.items ++ []) ++ rest) ≡ 0 = ap length e in
            let least = two.0 in
            omega arith
        some-carried message.Lost _ rest e = cc

pub ends-join : EndsJoin
ends-join pass other v w sends takes items views h at apart at' =
    let both : Known = both_views v w in
    let mine = h.knows_sent pass v at sends in
    let vs : List Known = set views pass both in
    let was : get_elem? views other ≡ some w = ⊎_elim (λ x. absurd (apart x.0)) (λ x. x.1) (at_set views pass other both w at') in
    let theirs = h.knows_received other w was takes in
    let Now : ℕ → Known → Type 0 = λ j u. j ≢ other → KnowsReceived pass h.stream h.received h.got_lost j u in
    let now : AllViews Now vs = all-set Now views pass both (λ _ _. (refl, mine.1, theirs.2, theirs.3))
    (λ j u _ e away may. absurd (away ((h.knows_received j u e may).0 ∙ sym theirs.0))) in
    record {
      from = h.from;
      to = pass;
      stream = h.stream;
      capacity = h.capacity;
      sent = h.sent;
      messages = h.messages;
      sent_lost = h.sent_lost;
      received = h.received;
      got_lost = h.got_lost;
      in_order = h.in_order;
      within = h.within;
      content = h.content;
      sized = h.sized;
      lost_early = h.lost_early;
      lost_last = h.lost_last;
      room = h.room;
      knows_sent = all-set (KnowsSent h.from h.stream h.capacity h.sent h.messages h.sent_lost) vs other no_view (λ may. absurd (true≢false (sym may)))
          (λ j u away e. all-set (KnowsSent h.from h.stream h.capacity h.sent h.messages h.sent_lost) views pass both
          (λ _. (mine.0, mine.1, mine.2, mine.3, mine.4, mine.5)) (λ k y _ f. h.knows_sent k y f) j u e);
      knows_received = all-set (KnowsReceived pass h.stream h.received h.got_lost) vs other no_view (λ may. absurd (true≢false (sym may)))
          (λ j u away e. now j u e away);
    }
