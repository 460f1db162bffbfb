-- A block over a merger stands where the merger's steps say.
use Rattle.std.proofs.Common.{◌≡◌, ℕ, ◌+◌, ◌≤◌, true, false, Some, replicate, refl, sym, subst}
use Rattle.std.specs.Prelude.{slice_get}
use Rattle.stream_tokens.specs.declared.Token.{Token}
use Rattle.stream_tokens.specs.declared.Token.TheVariants.{Empty}
use Rattle.block_core.specs.Move.{Taking, Putting}
use Rattle.block_core.specs.Ports.{Streams}
use Rattle.block_core.specs.Kind.{Kind, IntersectKind, UnionKind, Fits, moves, reading}
use Rattle.block_core.specs.Runs.{Runs}
use Rattle.block_core.specs.Stands.{Stands}
use Rattle.block_core.proofs.Standing.{stands-start, stands-take, stands-put}
use Rattle.merge_blocks.specs.declared.merger.Merger.{Merger}
use Rattle.merge_blocks.specs.MergeSteps.{new_merger, merge_steps}
use Rattle.merge_blocks.proofs.MergeRuns.{merge-run}

-- a block of this kind, whose merger is m
abbrev pub Sits : (ℕ → ℕ → Kind) → Merger → Streams → ℕ → Type 0
Sits kind m = Stands (Runs merge_steps m) (kind m.left m.right)

pub meet-starts : (l r : ℕ) (m : Merger) → l + r ≤ 8 → m ≡ new_merger false l r
    → (s : Streams) → Fits (IntersectKind l r) s → Sits IntersectKind m s 0
meet-starts l r m few e s f =
    subst (λ (x : Merger). Sits IntersectKind x s 0) (sym e)
    (stands-start merge_steps (new_merger false l r) (IntersectKind l r) s f
    (merge-run false l r few (reading (IntersectKind l r) s) (replicate 10 Empty) refl))

pub unite-starts : (l r : ℕ) (m : Merger) → l + r ≤ 8 → m ≡ new_merger true l r
    → (s : Streams) → Fits (UnionKind l r) s → Sits UnionKind m s 0
unite-starts l r m few e s f =
    subst (λ (x : Merger). Sits UnionKind x s 0) (sym e)
    (stands-start merge_steps (new_merger true l r) (UnionKind l r) s f
    (merge-run true l r few (reading (UnionKind l r) s) (replicate 10 Empty) refl))

-- the sides stay as wide
same-sides : (kind : ℕ → ℕ → Kind) (m m' : Merger) (s : Streams) (n : ℕ) → m'.left ≡ m.left → m'.right ≡ m.right
    → Stands (Runs merge_steps m') (kind m.left m.right) s n → Sits kind m' s n
same-sides kind m m' s n a b h =
    subst (λ (l : ℕ). Stands (Runs merge_steps m') (kind l m'.right) s n) (sym a)
    (subst (λ (r : ℕ). Stands (Runs merge_steps m') (kind m.left r) s n) (sym b) h)

pub sits-take : (kind : ℕ → ℕ → Kind) (m m' : Merger) (s : Streams) (n port : ℕ) (t : Token)
    → m' ≡ merge_steps.took m t → m'.left ≡ m.left → m'.right ≡ m.right
    → slice_get (moves (kind m.left m.right) s) n ≡ Some (Taking port t) → Sits kind m s n → Sits kind m' s (n + 1)
sits-take kind m m' s n port t e a b at h =
    same-sides kind m m' s (n + 1) a b (stands-take merge_steps m m' (kind m.left m.right) s n port t e at h)

pub sits-put : (kind : ℕ → ℕ → Kind) (m m' : Merger) (s : Streams) (n port : ℕ) (t : Token)
    → m' ≡ merge_steps.put m → m'.left ≡ m.left → m'.right ≡ m.right
    → slice_get (moves (kind m.left m.right) s) n ≡ Some (Putting port t) → Sits kind m s n → Sits kind m' s (n + 1)
sits-put kind m m' s n port t e a b at h =
    same-sides kind m m' s (n + 1) a b (stands-put merge_steps m m' (kind m.left m.right) s n port t e at h)
