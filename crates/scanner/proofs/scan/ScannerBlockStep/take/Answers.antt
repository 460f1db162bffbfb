use Rattle.block_core.proofs.Standing.{stands-take}
use Rattle.scanner.specs.ScanSteps.{scan_steps}
use Rattle.scanner.proofs.InRange.{may-take-scanned}
use Rattle.scanner.proofs.scan.ScannerBlockStep.take.Goals as goal

pub took-self-requires : goal.took-self-requires
took-self-requires c = may-take-scanned _ _ _ _ c.requires

pub returns-clause-moved : goal.returns-clause-moved
returns-clause-moved c = λ s n h at. stands-take (scan_steps _) _ _ _ s n _ _ c.took-self.ensures.steps at h
