-- The tensors of a program as its graph reads them.
use Rattle.std.specs.Prelude.{List}
use mathlib.Core.List.{map}
use Rattle.sam_model.specs.declared.tensors.Entries.{Entries}
use Rattle.sam_model.specs.declared.program.Program.{Program}
use Rattle.sam_model.specs.Children.{Ranked, ranked}
use Rattle.sam_model.specs.Denote.{stored_of}

-- a program's tensors by ranks, over these entries
abbrev pub storages_of : Program → List Entries → List Ranked
storages_of p es = map ranked (stored_of p.tensors es)
