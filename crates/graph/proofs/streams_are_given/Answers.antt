use Rattle.graph.proofs.Streams.{streams-are-given}
use Rattle.graph.proofs.streams_are_given.Goals as goal

pub returns : goal.returns
returns c = streams-are-given
