use Rattle.sam_io.specs.Spans.{files_span}
use Rattle.parts.specs.Parts.{reads, gives, followed}
use Rattle.parts.proofs.ChainLemmas.{comes_then}
use Rattle.inputs.specs.Programs.{chain_in, accepts}
use Rattle.inputs.proofs.programs.chain.Goals as goal

pub returns-in-Ok-clause-comes : goal.returns-in-Ok-clause-comes
returns-in-Ok-clause-comes g c =
    comes_then (reads c.args.name.now) (λ text. followed (gives (chain_in text)) accepts)
    (files_span g.F.Files c.args.files.now c.read_file.new.files) c.in-Ok.text c.spelled_chain.result c.in-Ok.ensures.comes
    c.spelled_chain.ensures.comes
