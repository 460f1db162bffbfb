use Rattle.sam_model.specs.Listing.{listing}
use Rattle.sam_model.specs.ResultText.{listing_text}
use Rattle.sam_model.proofs.AcceptedPrograms.{result-formed}
use Rattle.parts.proofs.DueLemmas.{ok_same}
use Rattle.sam_cmd.proofs.PassedLemmas.{none-behind, nowhere}
use Rattle.sam_cmd.proofs.chain.go_on.Goals as goal

pub print_result-requires-clause-formed : goal.print_result-requires-clause-formed
print_result-requires-clause-formed c = result-formed c.args.step.program.now c.requires.ready.follow.1.0

pub passed_on-requires-clause-formed : goal.passed_on-requires-clause-formed
passed_on-requires-clause-formed c = result-formed c.args.step.program.now c.requires.ready.follow.1.0

pub returns-in-Ok-clause-comes : goal.returns-in-Ok-clause-comes
returns-in-Ok-clause-comes c = λ es are.
    let listed = listing_text c.args.step.program.now.result.order (listing c.args.w) in
    (none-behind c.args.step.later.now c.in_default.ensures.cases, ok_same c.in-Ok.text listed (c.in-Ok.ensures nowhere))

pub returns-in-Err-passed_on-clause-comes : goal.returns-in-Err-passed_on-clause-comes
returns-in-Err-passed_on-clause-comes c = λ es are.
    rw c.in-Some.ensures.cases.0 (c.in-Err-passed_on.ensures c.args.step.program.now.tensors es are)
