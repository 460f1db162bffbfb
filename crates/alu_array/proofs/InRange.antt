-- Each reference that an array takes is one of its tensor's.
use Rattle.std.proofs.Common.{◌≡◌, ℕ, zero, suc, List, [], ◌∷◌, length, slice_get, Some, subst}
use Rattle.std.proofs.Math.Logic.{∥∥₁_elim}
use denote.Struct.Props.{props}
use Rattle.stream_tokens.specs.declared.Token.{Token}
use Rattle.stream_tokens.specs.declared.Token.TheVariants.{Item, Empty, Stop, Done}
use Rattle.block_core.specs.Move.{Taking}
use Rattle.block_core.specs.Change.{ItemsBelow, referenced_value, change_moves}
use Rattle.block_core.specs.Ports.{port}
use Rattle.block_core.specs.Kind.{ArrayKind}
use Rattle.block_core.specs.Stands.{Stands}
use Rattle.block_core.specs.Runs.{Runs}
use Rattle.block_core.specs.Steps.{MayTake}
use Rattle.alu_array.specs.ChangeSteps.{change_steps}
use Rattle.alu_array.specs.declared.change.ChangeState.{ChangeState}

below-first : (n : ℕ) (t : Token) (s : List Token) → ItemsBelow n (t ∷ s) → ItemsBelow n (t ∷ [])
below-first n (Item r) s h = (h.0, tt)
below-first n Empty s h = tt
below-first n (Stop k) s h = tt
below-first n Done s h = tt

below-rest : (n : ℕ) (t : Token) (s : List Token) → ItemsBelow n (t ∷ s) → ItemsBelow n s
below-rest n (Item r) s h = h.1
below-rest n Empty s h = h
below-rest n (Stop k) s h = h
below-rest n Done s h = h

taken-below : (n : ℕ) (f : ℕ → ℕ) (s : List Token) (k p : ℕ) (t : Token)
    → ItemsBelow n s → slice_get (change_moves f s) k ≡ Some (Taking p t) → ItemsBelow n (t ∷ [])
taken-below n f [] k p t h at = absurd (cc)
taken-below n f (u ∷ s) zero p t h at =
    let same : u ≡ t = cc in
    subst (λ (x : Token). ItemsBelow n (x ∷ [])) same (below-first n u s h)
taken-below n f (u ∷ s) (suc zero) p t h at = absurd (cc)
taken-below n f (u ∷ s) (suc (suc k)) p t h at = taken-below n f s k p t (below-rest n u s h) at

below-prop : (n : ℕ) (t : Token) → IsProp (ItemsBelow n (t ∷ []))
below-prop n (Item r) = hlevel props
below-prop n Empty = hlevel
below-prop n (Stop k) = hlevel
below-prop n Done = hlevel

-- where an array may take a token, a reference is in range
pub may-take-below : (values : List ℕ) (state : ChangeState) (p : ℕ) (t : Token)
    → MayTake (Stands (Runs (change_steps (referenced_value values)) state) (ArrayKind values)) (ArrayKind values) p t
    → ItemsBelow (length values) (t ∷ [])
may-take-below values state p t may =
    ∥∥₁_elim may (below-prop (length values) t)
    (λ at. taken-below (length values) (referenced_value values) (port 0 at.0) at.1 p t at.2.fits.well at.3)
