-- A worked case: what a kind makes of whole inputs, the moves, and that the inputs are read without loss.
use Rattle.std.specs.Prelude.{◌≡◌, List}
use Rattle.block_core.specs.Move.{Move}
use Rattle.block_core.specs.Ports.{Streams}
use Rattle.block_core.specs.Kind.{Kind, reading, given, outputs, moves}

abbrev pub Works : Kind → Streams → Streams → List Move → Type 0
Works kind ins outs ms = (outputs kind ins ≡ outs) × (moves kind ins ≡ ms) × (given kind (reading kind ins) ≡ ins)
