use Rattle.levels.specs.Reads.{children_at}
use Rattle.wire_tests.specs.Scanning.{scanned}
use Rattle.wire_tests.proofs.works.a_scanner_fills_its_packets.Given as goal

abbrev pub ghosts-messages_of : goal.ghosts-messages_of
ghosts-messages_of g a = record { streams = scanned (children_at a.storage.now 1) }
