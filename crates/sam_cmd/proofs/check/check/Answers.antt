use Rattle.std.specs.Prelude.{Ok, codes}
use Rattle.sam_io.specs.Spans.{files_span}
use Rattle.parts.specs.Parts.{gives}
use Rattle.parts.proofs.ChainLemmas.{comes_then}
use Rattle.inputs.specs.Programs.{chain_part}
use Rattle.sam_cmd.proofs.check.check.Goals as goal

pub returns-clause-comes : goal.returns-clause-comes
returns-clause-comes g c =
    comes_then (chain_part c.args.name.now) (λ steps. gives (Ok (codes "accepted\n")))
    (files_span g.F.Files c.args.files.now c.chain.new.files) c.in-Ok.field-0 c.accepted_text.result c.in-Ok.ensures.comes
    c.accepted_text.ensures
