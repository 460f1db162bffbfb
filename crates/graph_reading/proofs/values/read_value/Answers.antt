use Rattle.std.proofs.Common.{◌∙◌}
use Rattle.graph_reading.proofs.ReadLemmas.{value_of_utf8, no_value}
use Rattle.graph_reading.proofs.values.read_value.Goals as goal

pub returns-in-Ok : goal.returns-in-Ok
returns-in-Ok c = value_of_utf8 c.args.text.now c.in-Ok.ensures.ok.0 ∙ c.in-Ok.ensures.ok.1

pub returns-else-is_memory : goal.returns-else-is_memory
returns-else-is_memory c = no_value c.args.text.now (c.in-Err.ensures.err (λ m. let t = c.is_memory.ensures.1 m in let f = c.if-is_memory.false in cc))
