-- What is answered of a program's result where a run finishes.
use Rattle.std.specs.Prelude.{◌≡◌, ℕ, true, List, length, if◌then◌else◌, Result, Ok, Err}
use Rattle.std.specs.List.{list_all}
use Rattle.sam_base.specs.declared.faults.Fault.{Fault}
use Rattle.sam_base.specs.declared.faults.Fault.TheVariants.{ResultTooLarge}
use Rattle.sam_model.specs.declared.tensors.Entries.{Entries}
use Rattle.sam_model.specs.declared.tensors.Tensor.{Tensor}
use Rattle.sam_model.specs.declared.tensors.Written.{Written}
use Rattle.sam_model.specs.declared.program.Program.{Program}
use Rattle.sam_model.specs.Lists.{items_at, within}
use Rattle.sam_model.specs.Listing.{InRange, listing}
use Rattle.sam_model.specs.Pattern.{is_too_large}
use Rattle.sam_model.specs.Statement.{statement_entries}

-- what is listed: a coordinate with its number
abbrev pub Entry : Type 0
Entry = List ℕ × ℕ

-- the coordinates of the pattern with what the statement denotes there, unless they are too many
abbrev pub result_of : Program → List Entries → Result (List Entry) Fault
result_of p es = if is_too_large p.result (statement_entries p es) then Err ResultTooLarge else Ok (statement_entries p es)

-- what an answer lists
abbrev pub as_listed : Result Written Fault → Result (List Entry) Fault
as_listed (Ok w) = Ok (listing w)
as_listed (Err fault) = Err fault

-- a written result of this tensor: in range, with each coordinate below the size of its level
pub record IsOf (t : Tensor) (w : Written) : Type 0 where
  pub in_range : InRange (length t.order) w
  pub below : list_all (λ entry. within (items_at t.dims t.order) entry.0) (listing w) ≡ true
