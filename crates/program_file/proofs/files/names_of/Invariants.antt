use Rattle.std.proofs.Common.{◌≡◌, ◌++◌, length}
use Rattle.std.specs.List.{list_all}
use Rattle.sam_text.specs.Words.{words}
use Rattle.sam_text.specs.Names.{is_name}
use Rattle.program_file.proofs.files.names_of.Given as goal

abbrev pub invariant-loop-word : goal.invariant-loop-word
invariant-loop-word l = record { so_far : l.names ++ words l.rest ≡ words l.line; each : list_all is_name (words l.rest) ≡ list_all is_name (words l.line) }

abbrev pub decreases-loop-word : goal.decreases-loop-word
decreases-loop-word l = length (words l.rest)
