-- What shows that a block stands where its contract says.
use Rattle.std.specs.Prelude.{◌≡◌, ℕ, zero, suc, ◌+◌, ◌≤◌, ◌<◌, List, [], ◌∷◌, length, drop, slice_get, Some}
use Rattle.std.proofs.Common.{arith, sym, subst, add-one}
use Rattle.stream_tokens.specs.declared.Token.{Token}
use Rattle.block_core.specs.Move.{Move, Taking, Putting, wish_of}
use Rattle.block_core.specs.Ports.{Streams}
use Rattle.block_core.specs.Kind.{Kind, Fits, moves}
use Rattle.block_core.specs.Stands.{Stands}
use Rattle.block_core.specs.Runs.{Steps, Runs}

-- the move at a place, and those after it
pub drop-at : (ms : List Move) (n : ℕ) (m : Move) → slice_get ms n ≡ Some m → drop n ms ≡ m ∷ drop (suc n) ms
drop-at [] n m e = absurd (cc)
drop-at (x ∷ xs) zero m e = cc
drop-at (x ∷ xs) (suc n) m e = drop-at xs n m e

-- a place that holds a move is within the list
pub within-at : (ms : List Move) (n : ℕ) (m : Move) → slice_get ms n ≡ Some m → n < length ms
within-at [] n m e = absurd (cc)
within-at (x ∷ xs) zero m e = omega arith
within-at (x ∷ xs) (suc n) m e = omega (arith, within-at xs n m e)

-- what a state wants is the next of the moves that it leads to
pub wants-next : {S : Type 0} (m : Steps S) (s : S) (ms : List Move) → Runs m s ms → m.wants s ≡ wish_of ms
wants-next m s [] h = h
wants-next m s (Taking p t ∷ rest) h = h.0
wants-next m s (Putting p t ∷ rest) h = h.0

pub stands-start : {S : Type 0} (m : Steps S) (s : S) (kind : Kind) (w : Streams)
    → Fits kind w → Runs m s (moves kind w) → Stands (Runs m s) kind w 0
stands-start m s kind w f r = record { fits = f; within = omega arith; rest = r }

pub stands-take : {S : Type 0} (m : Steps S) (s s' : S) (kind : Kind) (w : Streams) (n port : ℕ) (t : Token)
    → s' ≡ m.took s t → slice_get (moves kind w) n ≡ Some (Taking port t)
    → Stands (Runs m s) kind w n → Stands (Runs m s') kind w (n + 1)
stands-take {S = S} m s s' kind w n port t e at h =
    let P : S → Type 0 = λ x. Stands (Runs m x) kind w (n + 1) in
    let r : Runs m s (Taking port t ∷ drop (suc n) (moves kind w)) = subst (λ (x : List Move). Runs m s x) (drop-at _ n _ at) h.rest in
    let b : n + 1 ≤ length (moves kind w) = omega (arith, within-at _ n _ at) in
    let r' : Runs m (m.took s t) (drop (n + 1) (moves kind w)) = rw add-one r.1 in
    subst P (sym e) (record { fits = h.fits; within = b; rest = r' })

pub stands-put : {S : Type 0} (m : Steps S) (s s' : S) (kind : Kind) (w : Streams) (n port : ℕ) (t : Token)
    → s' ≡ m.put s → slice_get (moves kind w) n ≡ Some (Putting port t)
    → Stands (Runs m s) kind w n → Stands (Runs m s') kind w (n + 1)
stands-put {S = S} m s s' kind w n port t e at h =
    let P : S → Type 0 = λ x. Stands (Runs m x) kind w (n + 1) in
    let r : Runs m s (Putting port t ∷ drop (suc n) (moves kind w)) = subst (λ (x : List Move). Runs m s x) (drop-at _ n _ at) h.rest in
    let b : n + 1 ≤ length (moves kind w) = omega (arith, within-at _ n _ at) in
    let r' : Runs m (m.put s) (drop (n + 1) (moves kind w)) = rw add-one r.1 in
    subst P (sym e) (record { fits = h.fits; within = b; rest = r' })

-- the same for any fact of the moves that are left
pub stands-step : (W W' : List Move → Type 0) (kind : Kind) (w : Streams) (n : ℕ) (m : Move)
    → ((rest : List Move) → W (m ∷ rest) → W' rest) → slice_get (moves kind w) n ≡ Some m → Stands W kind w n → Stands W' kind w (n + 1)
stands-step W W' kind w n m f at h =
    let r : W (m ∷ drop (suc n) (moves kind w)) = subst W (drop-at _ n _ at) h.rest in
    let b : n + 1 ≤ length (moves kind w) = omega (arith, within-at _ n _ at) in
    record { fits = h.fits; within = b; rest = rw add-one (f (drop (suc n) (moves kind w)) r) }
