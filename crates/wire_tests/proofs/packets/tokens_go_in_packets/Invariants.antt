use Rattle.std.proofs.Common.{[], ◌∷◌}
use Rattle.wire_tests.proofs.packets.tokens_go_in_packets.Given as goal

abbrev pub ghosts-through_a_wire : goal.ghosts-through_a_wire
ghosts-through_a_wire g a = record { streams = a.tokens.now ∷ [] }
