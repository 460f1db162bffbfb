use Rattle.std.proofs.Common.{◌≡◌, rules, [], ◌∷◌, ◌++◌, Ok}
use Rattle.sam_model.specs.Chains.{and_result}
use Rattle.program_file.specs.Files.{file_with}
use Rattle.program_file.specs.Programs.{checked}
use Rattle.program_file.specs.Chains.{and_scalar, steps_of}
use Rattle.program_file.proofs.StepLemmas.{step-kept}
use Rattle.program_file.proofs.chains.steps_of.Goals as goal

pub loop-group-preserved : goal.loop-group-preserved
loop-group-preserved c =
    let l = c.loop-group in
    let f = c.in_ok-file.file in
    let g = c.in-Some.group in
    let p = c.in_ok-check_file.field-0 in
    let now = c.add.new.self in
    let left : l.group-iterator.rest.items ≡ g ∷ c.next.new.self.rest.items = search rules in
    let file : f ≡ file_with l.operands.tensors l.operands.scalars g = search rules in
    let passed : checked f ≡ Ok p = search rules in
    let tensors : now.tensors ≡ and_result f.result l.operands.tensors f.result = search rules in
    let scalars : now.scalars ≡ and_scalar f.result l.operands.scalars = search rules in
    let made : c.push.new.self ≡ l.steps ++ p ∷ [] = search rules in
    record {
      can_next = tt;
      is_finite = tt;
      len = search rules;
      whole = step-kept l.steps c.push.new.self p l.operands.tensors now.tensors l.operands.scalars now.scalars f g l.group-iterator.rest.items c.next.new.self.rest.items
          (steps_of c.args.tensors [] c.args.groups) left file passed tensors scalars made l.invariant.whole;
    }
