use Rattle.block_core.proofs.All.{all-pass}
use Rattle.block_core.proofs.Arity.{fits-length, outputs-length, take-in-range, put-in-range}
use Rattle.block_core.proofs.moves_pass.Goals as goal

pub returns-clause-passes : goal.returns-clause-passes
returns-clause-passes c = all-pass

pub returns-clause-all_inputs : goal.returns-clause-all_inputs
returns-clause-all_inputs c = fits-length

pub returns-clause-all_outputs : goal.returns-clause-all_outputs
returns-clause-all_outputs c = outputs-length

pub returns-clause-takes_on_inputs : goal.returns-clause-takes_on_inputs
returns-clause-takes_on_inputs c = take-in-range

pub returns-clause-puts_on_outputs : goal.returns-clause-puts_on_outputs
returns-clause-puts_on_outputs c = put-in-range
