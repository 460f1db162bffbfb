-- The line ends where its fields do.
use Rattle.tns_io.proofs.PlainLemmas.{line-there}
use Rattle.tns_io.proofs.plain.plain_line.Goals as goal

pub returns-in_ok-push-in-Some-clause-line : goal.returns-in_ok-push-in-Some-clause-line
returns-in_ok-push-in-Some-clause-line c = line-there c.args.text.now c.args.from c.in-Some.next c.requires c.in-Some.ensures.behind
