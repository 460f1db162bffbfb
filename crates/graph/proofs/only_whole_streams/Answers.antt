use Rattle.graph.proofs.Streams.{only-whole-streams}
use Rattle.graph.proofs.only_whole_streams.Goals as goal

pub returns : goal.returns
returns c = only-whole-streams
