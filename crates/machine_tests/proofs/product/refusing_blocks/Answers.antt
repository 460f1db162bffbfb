use Rattle.std.proofs.lemmas.Result.{IfOk-weaker}
use Rattle.machine_tests.proofs.product.refusing_blocks.Goals as goal

pub returns : goal.returns
returns c =
    let starts = c.in_ok-blocks.ensures.starts c.requires.consistent in
    IfOk-weaker c.refusing.result _ _ (λ made stand. stand c.args.storages.now c.args.g.now starts) c.refusing.ensures
