use Rattle.std.proofs.Common.{◌≡◌, ◌∙◌, ◌<◌, ℕ, map, length, sym, ap, subst}
use Rattle.std.specs.List.{All, Contains}
use Rattle.block_threads.specs.Tasks.{AreReady, HaveRun}
use Rattle.block_threads.proofs.GraphRuns.{IfOk-both, wired_length, all_ready, all_ended, all_finished}
use Rattle.block_threads.proofs.run.run_on.Goals as goal

pub tasks_for-requires-clause-streams : goal.tasks_for-requires-clause-streams
tasks_for-requires-clause-streams g c = ap length c.requires.streams ∙ wired_length (map g.B.BlockStep.kind c.args.blocks.items) c.args.g.now

pub run_all-tasks-requires-clause-ready : goal.run_all-tasks-requires-clause-ready
run_all-tasks-requires-clause-ready g c κs within =
    let own = c.requires.own in
    subst (λ ss. AreReady g.B.BlockStep ss c.in_ok-tasks.tasks.items) (sym c.requires.streams)
    (all_ready g.B.BlockStep own.0 c.args.g.now c.requires.formed c.args.blocks.items own.2 c.in_ok-tasks.tasks.items own.1 c.in_ok-tasks.ensures.number c.in_ok-tasks.ensures.jobs)

pub run_all-tasks-requires-clause-in_range : goal.run_all-tasks-requires-clause-in_range
run_all-tasks-requires-clause-in_range g c κs within =
    let own = c.requires.own in
    let number : length c.args.g.now.blocks ≡ length c.in_ok-tasks.tasks.items = sym (c.in_ok-tasks.ensures.number ∙ own.2.number) in
    subst (All (λ b. b < length c.in_ok-tasks.tasks.items)) (sym c.as_slice.ensures.value)
    (subst (λ (n : ℕ). All (λ b. b < n) c.in_ok-order.order.items) number c.in_ok-order.ensures.blocks)

pub blocks_of-requires : goal.blocks_of-requires
blocks_of-requires g c =
    let own = c.requires.own in
    let e = c.in_ok-order.ensures in
    let ran = subst (λ ss. HaveRun g.B.BlockStep ss c.as_slice.result.now c.in_ok-tasks.tasks.items c.run_all-tasks.result.items) c.requires.streams c.run_all-tasks.ensures in
    record {
      ended = all_ended g.B.BlockStep own.0 c.args.g.now c.requires.formed c.args.blocks.items own.2 c.as_slice.result.now c.in_ok-tasks.tasks.items c.run_all-tasks.result.items
          c.in_ok-tasks.ensures.number c.in_ok-tasks.ensures.jobs (λ b less. subst (λ l. Contains l b) (sym c.as_slice.ensures.value) (e.whole b less)) ran;
    }

pub returns : goal.returns
returns g c =
    let e = c.in_ok-order.ensures in
    let ran = subst (λ ss. HaveRun g.B.BlockStep ss c.as_slice.result.now c.in_ok-tasks.tasks.items c.run_all-tasks.result.items) c.requires.streams c.run_all-tasks.ensures in
    record {
      finished = IfOk-both c.blocks_of.result _ _ _ c.blocks_of.ensures.number c.blocks_of.ensures.blocks (λ done number back storages consistent stand.
          all_finished g.B.BlockStep storages c.args.g.now c.requires.formed c.args.blocks.items stand c.as_slice.result.now c.in_ok-tasks.tasks.items c.run_all-tasks.result.items
          c.in_ok-tasks.ensures.number c.in_ok-tasks.ensures.jobs (λ b less. subst (λ l. Contains l b) (sym c.as_slice.ensures.value) (e.whole b less)) ran done.items number back);
    }
