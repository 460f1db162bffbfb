-- The place of a begun file of the system.
use Rattle.std.specs.Prelude.{Option, Some, None}
use Rattle.sam_io.specs.Outside.{Place}
use Rattle.sam_io.specs.declared.system.Begun.{Begun}

abbrev pub begun_place : {F : Type 0} → Option (Begun F) → Place
begun_place None = None
begun_place (Some begun) = Some (begun.name.value, begun.given)
