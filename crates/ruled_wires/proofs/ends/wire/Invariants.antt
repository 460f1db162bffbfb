use Rattle.ruled_wires.specs.Ends.{wire_stream}
use Rattle.ruled_wires.proofs.ends.wire.Given as goal

abbrev pub ghosts-wire_for : goal.ghosts-wire_for
ghosts-wire_for g a = record { stream = wire_stream g.W.Streams.streams a.channel; capacity = a.capacity }
