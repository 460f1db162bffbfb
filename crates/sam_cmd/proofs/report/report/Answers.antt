use Rattle.std.proofs.Common.{inr, refl}
use Rattle.sam_base.specs.declared.faults.Fault.TheVariants.{OutOfMemory}
use Rattle.sam_cmd.proofs.report.report.Goals as goal

pub returns-in-Err : goal.returns-in-Err
returns-in-Err g c = record { told_fault = OutOfMemory; which = inr refl; is_status = refl; said = c.say-in-Err.ensures }
