-- A new filler makes the moves of its kind.
use Rattle.std.proofs.Common.{◌≡◌, ℕ, suc, ◌+◌, ◌<◌, ◌≤◌, Bool, true, false, List, [], ◌∷◌, length, slice_get, get_or, replicate, Some, None, refl, sym, subst, arith}
use Rattle.stream_tokens.specs.declared.Token.{Token}
use Rattle.stream_tokens.specs.declared.Token.TheVariants.{Empty, Stop, Done}
use Rattle.stream_tokens.specs.Nest.{Fiber}
use Rattle.stream_tokens.specs.Flat.{fiber_tokens, flat}
use Rattle.stream_tokens.specs.Shapes.{Positive}
use Rattle.stream_tokens.proofs.Ending.{EndsWithin, IsStream-ends}
use Rattle.block_core.specs.Move.{Move, Taking, Putting, across, over, take_row, put_row, put_all}
use Rattle.block_core.specs.Ports.{Streams, AllStreams}
use Rattle.block_core.specs.Fill.{Serving, ServedPlace, Filling, place_token, head_item, stop_at, skips_at, tail_at, parting_all, more_moves, serve, fill_places, fill_moves, port_streams}
use Rattle.block_core.specs.Kind.{FillKind, Fits, moves, reading}
use Rattle.block_core.specs.Runs.{Runs}
use Rattle.block_core.specs.Stands.{Stands}
use Rattle.block_core.proofs.Standing.{stands-start, stands-take, stands-put}
use Rattle.shape_blocks.specs.declared.fill_state.Then.{Then}
use Rattle.shape_blocks.specs.declared.fill_state.Then.TheVariants.{Resume, Seek, End}
use Rattle.shape_blocks.specs.declared.fill_state.Stage.TheVariants.{Presence, Spreading, Seeking, Putting, Head}
use Rattle.shape_blocks.specs.declared.fill_state.FillState.{FillState}
use Rattle.shape_blocks.specs.FillSteps.{stage_after, fill_opened, raised_level, after_head, new_state, fill_steps}
use Rattle.shape_blocks.proofs.FillRows.{filler_at, spread-run, row-run, head-run, seek-run, draining-run}

-- ---- what an item of the presence is served

-- the heads after the first, and the stop after all
heads-run : (w : ℕ) (s : Serving) (rest : List Move) → w ≤ 8
    → ((held : List Token) → length held ≡ 9 → Runs fill_steps (filler_at w held (Presence true)) rest)
    → (hs : List (List ℕ)) (held : List Token) → length held ≡ 9
    → Runs fill_steps (filler_at w held (Head 0)) (more_moves (suc w) hs (take_row 1 (across (stop_at s) 0 (suc w)) rest))
heads-run w s rest b go [] held l =
    head-run w (stop_at s) rest b
    (λ held' l' k.
    let P : Token → Type 0 = λ t. Runs fill_steps (filler_at w held' (after_head t)) rest in
    subst P (sym (k 0 (omega arith))) (go held' l'))
    w 0 held (omega arith) l (λ j c. absurd (omega arith))
heads-run w s rest b go (h ∷ hs) held l =
    let x : ℕ → Token = λ p. head_item p h in
    let after : List Move = more_moves (suc w) hs (take_row 1 (across (stop_at s) 0 (suc w)) rest) in
    head-run w x _ b
    (λ held' l' k.
    let P : Token → Type 0 = λ t. Runs fill_steps (filler_at w held' (after_head t)) (put_row 0 (over x 0 (suc w)) after) in
    subst P (sym (k 0 (omega arith))) (row-run w held' x after w 0 (omega arith) k (heads-run w s rest b go hs held' l')))
    w 0 held (omega arith) l (λ j c. absurd (omega arith))

serve-run : (w : ℕ) (s : Serving) (rest : List Move) → w ≤ 8
    → ((held : List Token) → length held ≡ 9 → Runs fill_steps (filler_at w held (Presence true)) rest)
    → (held : List Token) → length held ≡ 9
    → Runs fill_steps (filler_at w held (Seeking 0)) (serve (suc w) s rest)
serve-run w s rest b go held l =
    seek-run w (skips_at s) (λ p. get_or s.first p 0) _ b
    (λ held' l' k. row-run w held' (λ p. head_item p s.first) _ w 0 (omega arith) k (heads-run w s rest b go s.more held' l'))
    w 0 held (omega arith) l (λ j c. absurd (omega arith))

-- ---- the presence

opened-run : (w : ℕ) (held : List Token) (more : Bool) (follows : Then) (rest : List Move)
    → Runs fill_steps (filler_at w held (stage_after follows)) rest
    → Runs fill_steps (filler_at w held (fill_opened more follows)) (parting_all (suc w) more rest)
opened-run w held true follows rest h = spread-run w held (Stop 0) follows rest w 0 (omega arith) h
opened-run w held false follows rest h = h

raised-below : (k : ℕ) → k < 200 → raised_level k ≡ suc k
raised-below k b = omega arith

places-run : (w k : ℕ) (rest : List Move) → w ≤ 8 → k < 200
    → ((held : List Token) → length held ≡ 9 → Runs fill_steps (filler_at w held (Presence false)) rest)
    → (more : Bool) (xs : List ServedPlace) (held : List Token) → length held ≡ 9
    → Runs fill_steps (filler_at w held (Presence more)) (fill_places (suc w) (suc k) more xs rest)
places-run w k rest b c go more [] held l =
    let P : ℕ → Type 0 = λ n. Runs fill_steps (filler_at w held (Spreading (Stop n) 0 (Resume false))) (put_all (suc w) (Stop (suc k)) rest) in
    (refl, subst P (sym (raised-below k c)) (spread-run w held (Stop (suc k)) (Resume false) rest w 0 (omega arith) (go held l)))
places-run w k rest b c go more (None ∷ xs) held l =
    (refl, opened-run w held more (Resume true) _ (places-run w k rest b c go true xs held l))
places-run w k rest b c go more (Some s ∷ xs) held l =
    (refl, opened-run w held more Seek _ (serve-run w s.1 _ b (places-run w k rest b c go true xs) held l))

marks-end : (xs : List ServedPlace) (rest : List Token) → EndsWithin 200 (fiber_tokens place_token xs rest) → EndsWithin 200 rest
marks-end [] rest h = h
marks-end (None ∷ xs) rest h = marks-end xs rest h
marks-end (Some s ∷ xs) rest h = marks-end xs rest h

fill-run : (w : ℕ) (tails : List (List ℕ)) → w ≤ 8 → (fs : List (Fiber ServedPlace)) → Positive fs → EndsWithin 200 (flat place_token fs)
    → (held : List Token) → length held ≡ 9
    → Runs fill_steps (filler_at w held (Presence false)) (fill_moves (suc w) tails fs)
fill-run w tails b [] p e held l =
    (refl, draining-run w held (tail_at tails) _ (spread-run w held Done End [] w 0 (omega arith) refl) w 0 (omega arith))
fill-run w tails b ((xs, n) ∷ fs) p e held l =
    let k = p.0.0 in
    let E : ℕ → Type 0 = λ m. EndsWithin 200 (flat place_token ((xs, m) ∷ fs)) in
    let ends : EndsWithin 200 (Stop k ∷ flat place_token fs) = marks-end xs (Stop k ∷ flat place_token fs) (subst E p.0.1 e) in
    let P : ℕ → Type 0 = λ m. Runs fill_steps (filler_at w held (Presence false)) (fill_places (suc w) m false xs (fill_moves (suc w) tails fs)) in
    subst P (sym p.0.1) (places-run w k (fill_moves (suc w) tails fs) b ends.0 (fill-run w tails b fs p.1 ends.1) false xs held l)

pub fill-starts : (w : ℕ) (a : FillState) → w ≤ 8 → a ≡ new_state w → (s : Streams) → Fits (FillKind w) s
    → Stands (Runs fill_steps a) (FillKind a.payloads) s 0
fill-starts w a b e s f =
    let j : Filling = reading (FillKind w) s in
    let whole : AllStreams (flat place_token j.fibers ∷ port_streams (suc w) j) = subst AllStreams (sym f.back) f.streams in
    let P : FillState → Type 0 = λ x. Stands (Runs fill_steps x) (FillKind x.payloads) s 0 in
    subst P (sym e)
    (stands-start fill_steps (new_state w) (FillKind w) s f
    (fill-run w j.tails b j.fibers f.well (IsStream-ends (flat place_token j.fibers) whole.0) (replicate 9 Empty) refl))

pub fill-take : (a a' : FillState) (s : Streams) (n p : ℕ) (t : Token) → a' ≡ fill_steps.took a t → a'.payloads ≡ a.payloads
    → slice_get (moves (FillKind a.payloads) s) n ≡ Some (Taking p t)
    → Stands (Runs fill_steps a) (FillKind a.payloads) s n
    → Stands (Runs fill_steps a') (FillKind a'.payloads) s (n + 1)
fill-take a a' s n p t e w filler_at h =
    let P : ℕ → Type 0 = λ x. Stands (Runs fill_steps a') (FillKind x) s (n + 1) in
    subst P (sym w) (stands-take fill_steps a a' (FillKind a.payloads) s n p t e filler_at h)

pub fill-put : (a a' : FillState) (s : Streams) (n p : ℕ) (t : Token) → a' ≡ fill_steps.put a → a'.payloads ≡ a.payloads
    → slice_get (moves (FillKind a.payloads) s) n ≡ Some (Putting p t)
    → Stands (Runs fill_steps a) (FillKind a.payloads) s n
    → Stands (Runs fill_steps a') (FillKind a'.payloads) s (n + 1)
fill-put a a' s n p t e w filler_at h =
    let P : ℕ → Type 0 = λ x. Stands (Runs fill_steps a') (FillKind x) s (n + 1) in
    subst P (sym w) (stands-put fill_steps a a' (FillKind a.payloads) s n p t e filler_at h)
