use Rattle.sam_io.specs.Spans.{files_span}
use Rattle.parts.proofs.ChainLemmas.{comes_then}
use Rattle.verdicts.specs.Verifying.{graph_part, verdict_part}
use Rattle.verdicts.proofs.verifying.verify_program.Goals as goal

pub returns-in-Ok-clause-comes : goal.returns-in-Ok-clause-comes
returns-in-Ok-clause-comes g c =
    comes_then (graph_part c.args.name.now c.args.p.now) (verdict_part c.args.p.now) (files_span g.F.Files c.args.files.now c.graph.new.files)
    c.in-Ok.graph c.verdict_text.result c.in-Ok.ensures.comes c.verdict_text.ensures
