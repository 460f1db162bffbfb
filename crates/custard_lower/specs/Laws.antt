-- What holds of the graph of every accepted program.
use Rattle.std.specs.Prelude.{◌≡◌, true}
use Rattle.sam_model.specs.declared.program.Program.{Program}
use Rattle.sam_model.specs.Program.{accepted}
use Rattle.label_rules.specs.Rules.{Allowed}
use Rattle.label_rules.specs.Holding.{RulesMet}
use Rattle.custard_lower.specs.Lowered.{low}

-- the labels at each of its blocks are allowed
abbrev pub LabelsAllowed : Type 0
LabelsAllowed = (p : Program) → accepted p ≡ true → RulesMet (Allowed p) (low p)
