use Rattle.sam_model.specs.Listing.{listing}
use Rattle.sam_cmd.proofs.PassedLemmas.{not-eqb, refused-passed, stored-passed}
use Rattle.sam_cmd.proofs.chain.passed_on.Goals as goal

pub returns-in-Err : goal.returns-in-Err
returns-in-Err c = λ ts es are.
    refused-passed c.args.declared.now ts es (listing c.args.w) c.args.storages are (not-eqb _ _ (rw c.len.ensures at c.if-len-eq0.false)) c.in-Err.fault
    c.in-Err.ensures

pub returns-in-Ok-push : goal.returns-in-Ok-push
returns-in-Ok-push c = λ ts es are.
    stored-passed c.args.declared.now ts es (listing c.args.w) c.args.storages are (not-eqb _ _ (rw c.len.ensures at c.if-len-eq0.false)) c.in-Ok.storage
    c.push.new.self c.in-Ok-push.ensures.ok c.in-Ok.ensures
