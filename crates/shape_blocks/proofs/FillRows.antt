-- A filler takes and puts a row of ports, one after another.
use Rattle.std.proofs.Common.{◌≡◌, ℕ, zero, suc, ◌+◌, ◌<◌, ◌≤◌, List, [], ◌∷◌, length, get_or, set, refl, ◌∙◌, sym, ap, subst, arith, get_or-set_same, get_or-set_other, below_more}
use Rattle.std.proofs.Math.ListN.{length-set}
use Rattle.stream_tokens.specs.declared.Token.{Token}
use Rattle.stream_tokens.specs.declared.Token.TheVariants.{Item, Empty, Stop, Done}
use Rattle.block_core.specs.declared.Wish.TheVariants.{Take, Put}
use Rattle.block_core.specs.Move.{Move, over, take_row, put_row}
use Rattle.block_core.specs.Fill.{take_stops, past_takes}
use Rattle.block_core.specs.Runs.{Runs}
use Rattle.block_core.proofs.InOrder.{lt-true, lt-false}
use Rattle.shape_blocks.specs.declared.fill_state.Then.{Then}
use Rattle.shape_blocks.specs.declared.fill_state.Then.TheVariants.{End}
use Rattle.shape_blocks.specs.declared.fill_state.Stage.{Stage}
use Rattle.shape_blocks.specs.declared.fill_state.Stage.TheVariants.{Spreading, Seeking, Putting, Head, Draining}
use Rattle.shape_blocks.specs.declared.fill_state.FillState.{FillState}
use Rattle.shape_blocks.specs.FillSteps.{stage_after, onward, after_head, fill_wants, fill_took, fill_steps}

-- a filler with w payloads that holds this row
abbrev pub filler_at : ℕ → List Token → Stage → FillState
filler_at w held s = record { payloads = w; stage = s; row = held }

-- the first n tokens of a row
abbrev pub RowHolds : ℕ → (ℕ → Token) → List Token → Type 0
RowHolds n x held = (j : ℕ) → j < n → get_or held j Empty ≡ x j

onward-more : (last p : ℕ) (go : ℕ → Stage) (done : Stage) → p < last → onward last p go done ≡ go (p + 1)
onward-more last p go done b = rw (lt-true p last b) refl

onward-last : (last p : ℕ) (go : ℕ → Stage) (done : Stage) → p ≡ last → onward last p go done ≡ done
onward-last last p go done e = let b : last ≤ p = omega arith in rw (lt-false p last b) refl

-- ---- puts

-- the same token on each output
pub spread-run : (w : ℕ) (held : List Token) (t : Token) (follows : Then) (rest : List Move) (m q : ℕ) → q + m ≡ w
    → Runs fill_steps (filler_at w held (stage_after follows)) rest
    → Runs fill_steps (filler_at w held (Spreading t q follows)) (put_row q (over (λ _. t) q (suc m)) rest)
spread-run w held t follows rest zero q e h =
    let P : Stage → Type 0 = λ s. Runs fill_steps (filler_at w held s) rest in
    (refl, subst P (sym (onward-last w q (λ k. Spreading t k follows) (stage_after follows) (omega arith))) h)
spread-run w held t follows rest (suc m) q e h =
    let row : List Token = over (λ _. t) (suc q) (suc m) in
    let P : Stage → Type 0 = λ s. Runs fill_steps (filler_at w held s) (put_row (q + 1) row rest) in
    let Q : ℕ → Type 0 = λ k. Runs fill_steps (filler_at w held (Spreading t k follows)) (put_row k row rest) in
    let more : Q (suc q) = spread-run w held t follows rest m (suc q) (omega arith) h in
    let more' : Q (q + 1) = subst Q (omega arith) more in
    (refl, subst P (sym (onward-more w q (λ k. Spreading t k follows) (stage_after follows) (omega arith))) more')

-- the row that is held
pub row-run : (w : ℕ) (held : List Token) (x : ℕ → Token) (rest : List Move) (m q : ℕ) → q + m ≡ w → RowHolds (w + 1) x held
    → Runs fill_steps (filler_at w held (Head 0)) rest
    → Runs fill_steps (filler_at w held (Putting q)) (put_row q (over x q (suc m)) rest)
row-run w held x rest zero q e k h =
    let P : Stage → Type 0 = λ s. Runs fill_steps (filler_at w held s) rest in
    (ap (λ (t : Token). Put q t) (k q (omega arith)), subst P (sym (onward-last w q (λ k. Putting k) (Head 0) (omega arith))) h)
row-run w held x rest (suc m) q e k h =
    let row : List Token = over x (suc q) (suc m) in
    let P : Stage → Type 0 = λ s. Runs fill_steps (filler_at w held s) (put_row (q + 1) row rest) in
    let Q : ℕ → Type 0 = λ k. Runs fill_steps (filler_at w held (Putting k)) (put_row k row rest) in
    let more : Q (suc q) = row-run w held x rest m (suc q) (omega arith) k h in
    let more' : Q (q + 1) = subst Q (omega arith) more in
    (ap (λ (t : Token). Put q t) (k q (omega arith)), subst P (sym (onward-more w q (λ k. Putting k) (Head 0) (omega arith))) more')

-- ---- takes, where a row has room for nine tokens

set-holds : (held : List Token) (q : ℕ) (x : ℕ → Token) → q < length held → RowHolds q x held → RowHolds (q + 1) x (set held q (x q))
set-holds held q x b k = below_more _ _
    (λ j c. get_or-set_other held q j (x q) Empty (omega arith) ∙ k j c)
    (get_or-set_same held q (x q) Empty b)

-- a head
pub head-run : (w : ℕ) (x : ℕ → Token) (rest : List Move) → w ≤ 8
    → ((held : List Token) → length held ≡ 9 → RowHolds (w + 1) x held → Runs fill_steps (filler_at w held (after_head (get_or held 0 Empty))) rest)
    → (m q : ℕ) (held : List Token) → q + m ≡ w → length held ≡ 9 → RowHolds q x held
    → Runs fill_steps (filler_at w held (Head q)) (take_row (q + 1) (over x q (suc m)) rest)
head-run w x rest b go zero q held e l k =
    let held' : List Token = set held q (x q) in
    let l' : length held' ≡ 9 = length-set held q (x q) ∙ l in
    let k' : RowHolds (q + 1) x held' = set-holds held q x (omega arith) k in
    let N : ℕ → Type 0 = λ n. RowHolds (n + 1) x held' in
    let P : Stage → Type 0 = λ s. Runs fill_steps (filler_at w held' s) rest in
    (refl, subst P (sym (onward-last w q (λ j. Head j) (after_head (get_or held' 0 Empty)) (omega arith))) (go held' l' (subst N (omega arith) k')))
head-run w x rest b go (suc m) q held e l k =
    let held' : List Token = set held q (x q) in
    let l' : length held' ≡ 9 = length-set held q (x q) ∙ l in
    let k' : RowHolds (q + 1) x held' = set-holds held q x (omega arith) k in
    let row : List Token = over x (suc q) (suc m) in
    let Q : ℕ → Type 0 = λ j. RowHolds j x held' → Runs fill_steps (filler_at w held' (Head j)) (take_row (j + 1) row rest) in
    let more : Q (suc q) = head-run w x rest b go m (suc q) held' (omega arith) l' in
    let more' : Q (q + 1) = subst Q (omega arith) more in
    let P : Stage → Type 0 = λ s. Runs fill_steps (filler_at w held' s) (take_row ((q + 1) + 1) row rest) in
    (refl, subst P (sym (onward-more w q (λ j. Head j) (after_head (get_or held' 0 Empty)) (omega arith))) (more' k'))

-- stops are passed over where that leaves the state as it is
stops-run : (s : FillState) (b : ℕ) → fill_wants s ≡ Take b → ((n : ℕ) → fill_took s (Stop n) ≡ s)
    → (ss : List ℕ) (rest : List Move) → Runs fill_steps s rest → Runs fill_steps s (take_stops b ss rest)
stops-run s b e k [] rest h = h
stops-run s b e k (n ∷ ss) rest h =
    let P : FillState → Type 0 = λ a. Runs fill_steps a (take_stops b ss rest) in
    (e, subst P (sym (k n)) (stops-run s b e k ss rest h))

-- the first head of a fiber, past the stops of empty ones
pub seek-run : (w : ℕ) (stops : ℕ → List ℕ) (v : ℕ → ℕ) (rest : List Move) → w ≤ 8
    → ((held : List Token) → length held ≡ 9 → RowHolds (w + 1) (λ p. Item (v p)) held → Runs fill_steps (filler_at w held (Putting 0)) rest)
    → (m q : ℕ) (held : List Token) → q + m ≡ w → length held ≡ 9 → RowHolds q (λ p. Item (v p)) held
    → Runs fill_steps (filler_at w held (Seeking q)) (past_takes stops (λ p. Item (v p)) (q + 1) q (suc m) rest)
seek-run w stops v rest b go zero q held e l k =
    let held' : List Token = set held q (Item (v q)) in
    let l' : length held' ≡ 9 = length-set held q (Item (v q)) ∙ l in
    let k' : RowHolds (q + 1) (λ p. Item (v p)) held' = set-holds held q (λ p. Item (v p)) (omega arith) k in
    let N : ℕ → Type 0 = λ n. RowHolds (n + 1) (λ p. Item (v p)) held' in
    let P : Stage → Type 0 = λ s. Runs fill_steps (filler_at w held' s) rest in
    stops-run (filler_at w held (Seeking q)) (q + 1) refl (λ n. refl) (stops q) _
    (refl, subst P (sym (onward-last w q (λ j. Seeking j) (Putting 0) (omega arith))) (go held' l' (subst N (omega arith) k')))
seek-run w stops v rest b go (suc m) q held e l k =
    let held' : List Token = set held q (Item (v q)) in
    let l' : length held' ≡ 9 = length-set held q (Item (v q)) ∙ l in
    let k' : RowHolds (q + 1) (λ p. Item (v p)) held' = set-holds held q (λ p. Item (v p)) (omega arith) k in
    let Q : ℕ → Type 0 = λ j. RowHolds j (λ p. Item (v p)) held' → Runs fill_steps (filler_at w held' (Seeking j)) (past_takes stops (λ p. Item (v p)) (j + 1) (suc q) (suc m) rest) in
    let more : Q (suc q) = seek-run w stops v rest b go m (suc q) held' (omega arith) l' in
    let more' : Q (q + 1) = subst Q (omega arith) more in
    let P : Stage → Type 0 = λ s. Runs fill_steps (filler_at w held' s) (past_takes stops (λ p. Item (v p)) ((q + 1) + 1) (suc q) (suc m) rest) in
    stops-run (filler_at w held (Seeking q)) (q + 1) refl (λ n. refl) (stops q) _
    (refl, subst P (sym (onward-more w q (λ j. Seeking j) (Putting 0) (omega arith))) (more' k'))

-- the ends of all streams, past the stops of empty fibers
pub draining-run : (w : ℕ) (held : List Token) (stops : ℕ → List ℕ) (rest : List Move)
    → Runs fill_steps (filler_at w held (Spreading Done 0 End)) rest
    → (m q : ℕ) → q + m ≡ w
    → Runs fill_steps (filler_at w held (Draining q)) (past_takes stops (λ _. Done) (q + 1) q (suc m) rest)
draining-run w held stops rest h zero q e =
    let P : Stage → Type 0 = λ s. Runs fill_steps (filler_at w held s) rest in
    stops-run (filler_at w held (Draining q)) (q + 1) refl (λ n. refl) (stops q) _
    (refl, subst P (sym (onward-last w q (λ j. Draining j) (Spreading Done 0 End) (omega arith))) h)
draining-run w held stops rest h (suc m) q e =
    let Q : ℕ → Type 0 = λ j. Runs fill_steps (filler_at w held (Draining j)) (past_takes stops (λ _. Done) (j + 1) (suc q) (suc m) rest) in
    let more : Q (suc q) = draining-run w held stops rest h m (suc q) (omega arith) in
    let more' : Q (q + 1) = subst Q (omega arith) more in
    let P : Stage → Type 0 = λ s. Runs fill_steps (filler_at w held s) (past_takes stops (λ _. Done) ((q + 1) + 1) (suc q) (suc m) rest) in
    stops-run (filler_at w held (Draining q)) (q + 1) refl (λ n. refl) (stops q) _
    (refl, subst P (sym (onward-more w q (λ j. Draining j) (Spreading Done 0 End) (omega arith))) more')
