use Rattle.block_core.proofs.Standing.{stands-put}
use Rattle.scanner.specs.ScanSteps.{scan_steps}
use Rattle.scanner.proofs.scan.ScannerBlockStep.did_put.Goals as goal

pub returns-clause-moved : goal.returns-clause-moved
returns-clause-moved c = λ s n port t h at. stands-put (scan_steps _) _ _ _ s n port t c.put-self.ensures at h
