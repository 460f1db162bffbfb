use Rattle.sam_io.specs.Spans.{files_span}
use Rattle.parts.specs.Parts.{gives, reads}
use Rattle.parts.proofs.ChainLemmas.{comes_then}
use Rattle.verdicts.specs.Verifying.{graph_read}
use Rattle.verdicts.proofs.reading.graph.Goals as goal

pub returns-in-Ok-clause-comes : goal.returns-in-Ok-clause-comes
returns-in-Ok-clause-comes g c =
    comes_then (reads c.args.name.now) (λ text. gives (graph_read c.args.p.now text)) (files_span g.F.Files c.args.files.now c.read_file.new.files)
    c.in-Ok.text c.spelled_graph.result c.in-Ok.ensures.comes c.spelled_graph.ensures
