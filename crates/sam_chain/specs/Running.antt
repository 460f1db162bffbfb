-- Where the run of a chain stands, and what is known there.
use Rattle.std.specs.Prelude.{◌≡◌, ◌≤◌, ℕ, zero, suc, ◌+◌, ◌-◌, List, [], ◌∷◌, length, take, slice_get, Option, Some, None, IfSome}
use Rattle.sam_model.specs.declared.tensors.Tensor.{Tensor}
use Rattle.sam_model.specs.declared.tensors.Entries.{Entries}
use Rattle.sam_model.specs.declared.tensors.Written.{Written}
use Rattle.sam_model.specs.declared.program.Program.{Program}
use Rattle.sam_model.specs.Chains.{AreChained, declared_tensors, entries_after}
use Rattle.sam_model.specs.Listing.{InRange, listing}
use Rattle.sam_model.specs.Statement.{statement_entries}
use Rattle.sam_chain.specs.Fitting.{EachFits}

-- of the entries so far, those of the declared tensors
abbrev pub files_of : List Program → List Entries → List Entries
files_of steps so_far = take (length (declared_tensors steps)) so_far

-- the entries of the tensors behind all of these steps
abbrev pub entries_behind : List Program → List Entries → List Entries
entries_behind [] es = es
entries_behind (p ∷ steps) es = entries_behind steps (entries_after p es)

-- a written result is the tensor of a step over these entries
pub record IsResult (p : Program) (es : List Entries) (w : Written) : Type 0 where
  pub in_range : InRange (length p.result.order) w
  pub listed : listing w ≡ statement_entries p es

-- The run of a chain: its steps, the entries of the declared tensors, how many results were given, and the last of these.
pub record Running : Type 0 where
  pub steps : List Program
  pub files : List Entries
  pub step : ℕ
  pub last : Option Written

-- the entries of the tensors of the step of this number, from 0
abbrev pub entries_at : List Program → List Entries → ℕ → List Entries
entries_at steps files n = entries_behind (take n steps) files

-- the tensor of this step, over its entries
abbrev pub IsResultOf : List Program → List Entries → ℕ → Written → Type 0
IsResultOf steps files n w = IfSome (slice_get steps n) (λ p. IsResult p (entries_at steps files n) w)

-- once a result is given
abbrev pub given : Running → Written → Running
given r w = record { steps = r.steps; files = r.files; step = r.step + 1; last = Some w }

-- what was given last after so many steps is the tensor of the last of them
abbrev pub IsLast : List Program → List Entries → ℕ → Option Written → Type 0
IsLast steps files zero last = last ≡ None
IsLast steps files (suc n) None = ⊥
IsLast steps files (suc n) (Some w) = IsResultOf steps files n w

-- a run over these steps stands here, where so many of them are left and its tensors have these entries
pub record Stands (steps : List Program) (so_far : List Entries) (left : ℕ) (last : Option Written) : Type 0 where
  pub some : 1 ≤ length steps
  pub few : left ≤ length steps
  pub follow : AreChained steps
  pub fit : EachFits (declared_tensors steps) (files_of steps so_far)
  pub entries : so_far ≡ entries_at steps (files_of steps so_far) (length steps - left)
  pub given : IsLast steps (files_of steps so_far) (length steps - left) last
