use Rattle.std.proofs.lemmas.Result.{IfOk-weaker}
use Rattle.thread_runs.proofs.running.run_writers.Goals as goal

pub returns : goal.returns
returns g c =
    let storages = c.args.storages.now in
    let consistent = c.requires.runnable.consistent in
    let finished = c.in_ok-finished.ensures.finished storages consistent (c.in_ok-blocks.ensures.starts consistent) in
    IfOk-weaker c.gather.result _ _ (λ written is. is storages (rw c.as_slice.ensures.value finished)) c.gather.ensures.written
