-- The ports of a scanner's outputs.
use Rattle.std.specs.Prelude.{ℕ}
use Rattle.scanner.specs.declared.scan_state.Output.{Output}
use Rattle.scanner.specs.declared.scan_state.Output.TheVariants.{Coordinates, References}

abbrev pub output_port : Output → ℕ
output_port Coordinates = 0
output_port References = 1
