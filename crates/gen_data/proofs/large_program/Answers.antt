use Rattle.std.proofs.Common.{rules, ◌≡◌}
use Rattle.gen_data.specs.Workload.{workload_entries}
use Rattle.gen_data.proofs.FitLemmas.{made_accepted, made_stored}
use Rattle.gen_data.proofs.large_program.Goals as goal

pub returns-clause-accepted : goal.returns-clause-accepted
returns-clause-accepted c = made_accepted c.args.n c.requires.least c.requires.most c.in_ok-program.program c.in_ok-program.ensures

pub returns-clause-stored : goal.returns-clause-stored
returns-clause-stored c =
    let made : c.from_vec-entries.result ≡ workload_entries c.args.n = search rules in
    made_stored c.args.n c.requires.least c.requires.most c.in_ok-program.program c.in_ok-program.ensures c.from_vec-entries.result made
