use Rattle.graph_reading.proofs.GraphRound as round
use Rattle.graph_reading.proofs.texts_are_read.Goals as goal

pub returns : goal.returns
returns c = round.texts_are_read
