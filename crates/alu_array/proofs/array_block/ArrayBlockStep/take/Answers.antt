use Rattle.std.proofs.Common.{◌∙◌, ap}
use Rattle.stream_tokens.specs.declared.Token.{Token}
use Rattle.block_core.specs.Change.{referenced_value}
use Rattle.block_core.proofs.Standing.{stands-take}
use Rattle.alu_array.specs.ChangeSteps.{change_steps, change_gives}
use Rattle.alu_array.proofs.InRange.{may-take-below}
use Rattle.alu_array.proofs.array_block.ArrayBlockStep.take.Goals as goal

pub changed-requires : goal.changed-requires
changed-requires c = may-take-below _ _ _ _ c.requires

pub returns-clause-moved : goal.returns-clause-moved
returns-clause-moved c = λ s n h at.
    stands-take (change_steps (referenced_value c.args.self.now.storage.now.values)) _ _ _ s n _ _
    (c.gives-self.ensures ∙ ap (λ (u : Token). change_gives c.args.self.now.state u) c.changed.ensures) at h
