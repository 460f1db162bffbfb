use Rattle.scanner.proofs.ScanRuns.{scan-starts}
use Rattle.scanner.proofs.scan.Scanner.new.Goals as goal

pub returns-clause-starts : goal.returns-clause-starts
returns-clause-starts c = scan-starts _
