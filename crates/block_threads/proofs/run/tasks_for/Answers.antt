use Rattle.std.proofs.Common.{◌≡◌, ◌∙◌, ◌+◌, [], length, drop, sym, ap, subst, arith, length-append, ◌∷◌}
use Rattle.std.proofs.lemmas.Option.{slice_get_within}
use Rattle.block_threads.specs.declared.nest.Task.TheVariants.{Ready}
use Rattle.block_threads.specs.Wires.{WaitFrom, HasWires}
use Rattle.block_threads.proofs.Gathering.{next_of, rest_of, ended_at_length, made_more}
use Rattle.block_threads.proofs.run.tasks_for.Goals as goal

pub loop-block-preserved : goal.loop-block-preserved
loop-block-preserved g c =
    let i = c.loop-block.invariant in
    let n = length c.loop-block.tasks.items in
    let steps = c.in-Some.ensures.steps in
    let left = sym steps.0 ∙ i.rest in
    let grown : length c.push.new.self.items ≡ n + 1 = ap length c.in_ok-push.ensures.items ∙ length-append c.loop-block.tasks.items (Ready c.in_ok-job.job ∷ []) in
    let number = ap length steps.0 in
    let len = i.len in
    let place : c.len-in-loop-block.result ≡ n = c.len-in-loop-block.ensures ∙ c.loop-block.tasks.ok.0 in
    record {
      can_next = tt;
      is_finite = tt;
      rest = rest_of c.args.blocks.items n c.in-Some.block c.next.new.self.rest.items left ∙ ap (λ k. drop k c.args.blocks.items) (sym grown);
      within = let less = slice_get_within c.args.blocks.items n c.in-Some.block (next_of c.args.blocks.items n c.in-Some.block c.next.new.self.rest.items left) in omega (arith, less, grown);
      len = omega (arith, steps.1, number, len);
      waits = subst (λ k. WaitFrom c.args.g.now k c.job.new.self.senders.items c.job.new.self.receivers.items) (ap (λ k. k + 1) place ∙ sym grown) c.in_ok-job.ensures.waits;
      made = made_more c.args.g.now c.args.blocks.items c.loop-block.tasks.items c.push.new.self.items c.in-Some.block c.in_ok-job.job i.made c.in_ok-push.ensures.items
          (next_of c.args.blocks.items n c.in-Some.block c.next.new.self.rest.items left) c.in_ok-job.ensures.block
          (subst (λ k. HasWires c.args.g.now k c.in_ok-job.job.ins.items c.in_ok-job.job.outs.items) place c.in_ok-job.ensures.wires);
    }

pub returns-clause-number : goal.returns-clause-number
returns-clause-number g c =
    let i = c.loop-block.invariant in
    let e = c.in-None.ensures.steps in
    let none : length c.loop-block.block-iterator.rest.items ≡ 0 = sym i.len ∙ e.0 in
    let all = ended_at_length c.args.blocks.items c.loop-block.block-iterator.rest.items (length c.loop-block.tasks.items) none i.rest in
    let most = i.within in
    omega (arith, all, most)

pub returns-clause-jobs : goal.returns-clause-jobs
returns-clause-jobs g c =
    let i = c.loop-block.invariant in
    let e = c.in-None.ensures.steps in
    let none : length c.loop-block.block-iterator.rest.items ≡ 0 = sym i.len ∙ e.0 in
    let all = ended_at_length c.args.blocks.items c.loop-block.block-iterator.rest.items (length c.loop-block.tasks.items) none i.rest in
    λ b x at. i.made b x (let less = slice_get_within c.args.blocks.items b _ at in omega (arith, less, all)) at
