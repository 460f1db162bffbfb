use Rattle.runs.proofs.FormedTensors.{dims-fit}
use Rattle.runs.proofs.results.print_result.Goals as goal

pub result_text-requires-clause-dims : goal.result_text-requires-clause-dims
result_text-requires-clause-dims c = dims-fit c.args.declared.now c.requires.formed
