use Rattle.std.proofs.Common.{◌≡◌, sym, subst}
use Rattle.sam_model.specs.Expressions.{expanded_tops}
use Rattle.expand.specs.declared.faults.ExpandFault.TheVariants.{Terms, Factors}
use Rattle.expand.specs.Counting.{Refused}
use Rattle.expand.proofs.AcceptedTerms.{many-refused, long-refused}
use Rattle.expand.proofs.programs.accepted.Goals as goal

pub returns-in-Err-Terms : goal.returns-in-Err-Terms
returns-in-Err-Terms c =
    let is : c.in-Err-Terms.field-0 ≡ Terms = cc in
    sym (many-refused c.args.p.now (subst (Refused (expanded_tops c.args.p.now.var_sizes c.args.p.now.tops)) is c.in-Err-Terms.ensures.refused))

pub returns-in-Err-Factors : goal.returns-in-Err-Factors
returns-in-Err-Factors c =
    let is : c.in-Err-Factors.field-0 ≡ Factors = cc in
    sym (long-refused c.args.p.now (subst (Refused (expanded_tops c.args.p.now.var_sizes c.args.p.now.tops)) is c.in-Err-Factors.ensures.refused).1)
