use Rattle.std.proofs.Common.{◌∙◌, ap}
use Rattle.stream_tokens.specs.declared.Token.{Token}
use Rattle.block_core.proofs.Standing.{stands-take}
use Rattle.alu_array.specs.ChangeSteps.{change_steps, change_gives}
use Rattle.alu_array.proofs.constant_block.ConstantBlockStep.take.Goals as goal

pub returns-clause-moved : goal.returns-clause-moved
returns-clause-moved c = λ s n h at.
    stands-take (change_steps (λ _. c.args.self.now.value)) _ _ _ s n _ _
    (c.gives-self.ensures ∙ ap (λ (u : Token). change_gives c.args.self.now.state u) c.changed.ensures) at h
