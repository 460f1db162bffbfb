use Rattle.std.proofs.Common.{◌≡◌, ◌∙◌, ◌+◌, [], length, drop, sym, ap, arith, length-append, ◌∷◌}
use Rattle.std.specs.Prelude.{Some, slice_get}
use Rattle.std.proofs.lemmas.Option.{slice_get_within}
use Rattle.plays.proofs.Lists.{same_some}
use Rattle.block_threads.specs.declared.nest.Task.TheVariants.{Ended}
use Rattle.block_threads.proofs.Gathering.{next_of, rest_of, back_more, ended_at_length}
use Rattle.block_threads.proofs.run.blocks_of.Goals as goal

pub unreachable-requires : goal.unreachable-requires
unreachable-requires g c =
    let i = c.loop-task.invariant in
    let n = length c.loop-task.blocks.items in
    let left = sym c.in-Some.ensures.steps.0 ∙ i.rest in
    let here : slice_get c.args.tasks.items n ≡ Some c.in-Some.task = next_of c.args.tasks.items n c.in-Some.task c.next.new.self.rest.items left in
    let e = c.requires.ended n (slice_get_within c.args.tasks.items n c.in-Some.task here) in
    c.in_default.not-Ended e.0 (same_some c.in-Some.task (Ended e.0) (sym here ∙ e.1))

pub loop-task-preserved : goal.loop-task-preserved
loop-task-preserved g c =
    let i = c.loop-task.invariant in
    let n = length c.loop-task.blocks.items in
    let steps = c.in-Some.ensures.steps in
    let left = sym steps.0 ∙ i.rest in
    let here : slice_get c.args.tasks.items n ≡ Some c.in-Some.task = next_of c.args.tasks.items n c.in-Some.task c.next.new.self.rest.items left in
    let grown : length c.push.new.self.items ≡ n + 1 = ap length c.in_ok-push.ensures.items ∙ length-append c.loop-task.blocks.items (c.in-Ended.worked.block ∷ []) in
    let number = ap length steps.0 in
    let len = i.len in
    record {
      can_next = tt;
      is_finite = tt;
      rest = rest_of c.args.tasks.items n c.in-Some.task c.next.new.self.rest.items left ∙ ap (λ k. drop k c.args.tasks.items) (sym grown);
      within = let less = slice_get_within c.args.tasks.items n c.in-Some.task (next_of c.args.tasks.items n c.in-Some.task c.next.new.self.rest.items left) in omega (arith, less, grown);
      len = omega (arith, steps.1, number, len);
      back = back_more c.args.tasks.items c.loop-task.blocks.items c.push.new.self.items c.in-Ended.worked i.back c.in_ok-push.ensures.items
          (here ∙ ap (λ z. Some z) c.in-Ended.is) c.if-worked.false;
    }

pub returns-clause-number : goal.returns-clause-number
returns-clause-number g c =
    let i = c.loop-task.invariant in
    let e = c.in-None.ensures.steps in
    let none : length c.loop-task.task-iterator.rest.items ≡ 0 = sym i.len ∙ e.0 in
    let all = ended_at_length c.args.tasks.items c.loop-task.task-iterator.rest.items (length c.loop-task.blocks.items) none i.rest in
    let most = i.within in
    omega (arith, all, most)

pub returns-clause-blocks : goal.returns-clause-blocks
returns-clause-blocks g c =
    let i = c.loop-task.invariant in
    let e = c.in-None.ensures.steps in
    let none : length c.loop-task.task-iterator.rest.items ≡ 0 = sym i.len ∙ e.0 in
    let all = ended_at_length c.args.tasks.items c.loop-task.task-iterator.rest.items (length c.loop-task.blocks.items) none i.rest in
    λ b w at. i.back b w (let less = slice_get_within c.args.tasks.items b _ at in omega (arith, less, all)) at
