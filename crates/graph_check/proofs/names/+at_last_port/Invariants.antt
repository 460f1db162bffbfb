use Rattle.std.proofs.Common.{length}
use Rattle.graph_check.proofs.names.+at_last_port.Given as goal

abbrev pub decreases-at_last_port : goal.decreases-at_last_port
decreases-at_last_port l = length l.labels.now
