use Rattle.std.specs.Prelude.{Ok}
use Rattle.sam_io.specs.Spans.{files_span}
use Rattle.graph_json.specs.Spelled.{graph_text}
use Rattle.parts.specs.Parts.{gives}
use Rattle.parts.proofs.ChainLemmas.{comes_first, comes_then}
use Rattle.inputs.specs.Programs.{program_part}
use Rattle.sam_cmd.specs.Chosen.{chosen}
use Rattle.sam_cmd.proofs.lower.lower.Goals as goal

pub returns-in-Ok-clause-comes : goal.returns-in-Ok-clause-comes
returns-in-Ok-clause-comes g c =
    comes_then (program_part c.args.name.now) (λ p. gives (Ok (graph_text p (chosen c.args.lowering p))))
    (files_span g.F.Files c.args.files.now c.program.new.files) c.in-Ok.program c.program_graph.result c.in-Ok.ensures.comes
    c.program_graph.ensures

pub returns-in-Err-clause-comes : goal.returns-in-Err-clause-comes
returns-in-Err-clause-comes g c =
    comes_first (program_part c.args.name.now) (λ p. gives (Ok (graph_text p (chosen c.args.lowering p))))
    (files_span g.F.Files c.args.files.now c.program.new.files) c.in-Err.fault c.in-Err.ensures.comes
