use Rattle.inputs.proofs.ProgramNames.{read-named}
use Rattle.inputs.proofs.programs.spelled_chain.Goals as goal

pub returns-in-Ok-clause-read : goal.returns-in-Ok-clause-read
returns-in-Ok-clause-read c =
    let read = c.in-Ok.ensures in
    record {
      some = read.some;
      chained = read.follow;
      named = read-named c.as_bytes.result.now c.in-Ok.chain read.exact;
      each_line = read.each_line;
      lines = read.lines;
    }
