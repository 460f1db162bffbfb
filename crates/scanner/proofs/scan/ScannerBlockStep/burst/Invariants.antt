use Rattle.std.proofs.Common.{◌≡◌}
use Rattle.block_core.specs.Bursts.{MayPour, Poured}
use Rattle.scanner.proofs.Going.{scanner_kind, scanner_stands}
use Rattle.scanner.proofs.scan.ScannerBlockStep.burst.Given as goal

abbrev pub invariant-loop-left : goal.invariant-loop-left
invariant-loop-left g l = record {
  same_kind : scanner_kind l.self ≡ scanner_kind l.fn.self;
  same_ends : g.P.Ports.same l.fn.ports l.ports;
  poured : Poured scanner_kind scanner_stands g.P.Ports.fed g.P.Ports.did l.fn.self l.fn.ports l.self l.ports l.went;
  may : MayPour scanner_kind scanner_stands g.P.Ports.fed l.self l.ports;
}

abbrev pub decreases-loop-left : goal.decreases-loop-left
decreases-loop-left g l = l.left
