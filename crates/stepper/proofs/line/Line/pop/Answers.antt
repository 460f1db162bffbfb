-- One token fewer lies behind the head.
use Rattle.std.proofs.Common.{drop, ap, sym, ◌∙◌}
use Rattle.std.proofs.lemmas.List.{drop-drop}
use Rattle.stepper.proofs.line.Line.pop.Goals as goal

pub returns-then-len-gt1 : goal.returns-then-len-gt1
returns-then-len-gt1 c = sym (drop-drop 1 c.self.inside.head c.self.inside.tokens.items) ∙ ap (drop 1) c.self.view_is
