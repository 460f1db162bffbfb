use Rattle.std.proofs.Common.{◌<◌, ◌∙◌, ap, subst, sym, length, length-set, ℕ}
use Rattle.std.specs.List.{All}
use Rattle.block_threads.specs.declared.nest.Task.TheVariants.{Running}
use Rattle.block_threads.specs.Tasks.{AreReady}
use Rattle.block_threads.proofs.Running.{all_first, all_rest, skipped, ready_but, one_more}
use Rattle.block_threads.proofs.nest.+works.Goals as goal

pub run_all-job_at-requires : goal.run_all-job_at-requires
run_all-job_at-requires g t c =
    all_first (λ b. b < length c.args.tasks.items) c.args.order.now c.in-Some.number.now c.in-Some.rest.now c.in-Some.ensures.cases.0 c.requires.in_range

pub run_all-run_all-requires-clause-ready : goal.run_all-run_all-requires-clause-ready
run_all-run_all-requires-clause-ready g t c κs within =
    subst (AreReady g.B.BlockStep g.W.Streams.streams) (sym c.in_default-job_at.ensures.none.0) c.requires.ready

pub run_all-run_all-requires-clause-in_range : goal.run_all-run_all-requires-clause-in_range
run_all-run_all-requires-clause-in_range g t c κs within =
    subst (λ (n : ℕ). All (λ b. b < n) c.in-Some.rest.now) (ap length (sym c.in_default-job_at.ensures.none.0))
    (all_rest (λ b. b < length c.args.tasks.items) c.args.order.now c.in-Some.number.now c.in-Some.rest.now c.in-Some.ensures.cases.0 c.requires.in_range)

pub run_all-returns-in_default-job_at : goal.run_all-returns-in_default-job_at
run_all-returns-in_default-job_at g t c =
    skipped g.B.BlockStep g.W.Streams.streams c.args.order.now c.in-Some.number.now c.in-Some.rest.now c.args.tasks.items c.job_at.new.tasks.items c.run_all.result.items
    c.in-Some.ensures.cases.0 c.in_default-job_at.ensures.none.0 c.in_default-job_at.ensures.none.1 c.run_all.ensures

pub run_all-run_both-tasks-requires-clause-job : goal.run_all-run_both-tasks-requires-clause-job
run_all-run_both-tasks-requires-clause-job g t c κs within =
    c.requires.ready c.in-Some.number.now c.in-Some-job_at.job c.in-Some-job_at.ensures.job.0

pub run_all-run_both-tasks-requires-clause-ready : goal.run_all-run_both-tasks-requires-clause-ready
run_all-run_both-tasks-requires-clause-ready g t c κs within =
    let less = all_first (λ b. b < length c.args.tasks.items) c.args.order.now c.in-Some.number.now c.in-Some.rest.now c.in-Some.ensures.cases.0 c.requires.in_range in
    ready_but g.B.BlockStep g.W.Streams.streams c.args.tasks.items c.job_at.new.tasks.items c.in-Some.number.now less c.in-Some-job_at.ensures.job.1 c.requires.ready

pub run_all-run_both-tasks-requires-clause-in_range : goal.run_all-run_both-tasks-requires-clause-in_range
run_all-run_both-tasks-requires-clause-in_range g t c κs within =
    subst (λ (n : ℕ). All (λ b. b < n) c.in-Some.rest.now) (sym (ap length c.in-Some-job_at.ensures.job.1 ∙ length-set c.args.tasks.items c.in-Some.number.now Running))
    (all_rest (λ b. b < length c.args.tasks.items) c.args.order.now c.in-Some.number.now c.in-Some.rest.now c.in-Some.ensures.cases.0 c.requires.in_range)

pub run_all-ended_at-requires : goal.run_all-ended_at-requires
run_all-ended_at-requires g t c =
    let less = all_first (λ b. b < length c.args.tasks.items) c.args.order.now c.in-Some.number.now c.in-Some.rest.now c.in-Some.ensures.cases.0 c.requires.in_range in
    let number = c.run_both-tasks.ensures.rest.number ∙ ap length c.in-Some-job_at.ensures.job.1 ∙ length-set c.args.tasks.items c.in-Some.number.now Running in
    subst (λ (n : ℕ). c.in-Some.number.now < n) (sym number) less

pub run_all-returns : goal.run_all-returns
run_all-returns g t c =
    one_more g.B.BlockStep g.W.Streams.streams c.args.order.now c.in-Some.number.now c.in-Some.rest.now c.args.tasks.items c.job_at.new.tasks.items
    c.run_both-tasks.result.0.items c.ended_at.result.items c.in-Some-job_at.job c.run_both-tasks.result.1
    c.in-Some.ensures.cases.0 c.in-Some-job_at.ensures.job.0 c.in-Some-job_at.ensures.job.1 c.run_both-tasks.ensures.rest c.run_both-tasks.ensures.job c.ended_at.ensures
