use Rattle.std.proofs.Common.{◌∙◌, ap, refl, inl, inr, sym, subst, List, ℕ}
use Rattle.std.specs.Prelude.{Ok, Result}
use Rattle.sam_base.specs.declared.faults.Fault.{Fault}
use Rattle.sam_io.specs.Outside.{grown, GrewByPart}
use Rattle.sam_io.specs.Spans.{sink_span}
use Rattle.sam_cmd.specs.Answers.{Gives}
use Rattle.sam_cmd.proofs.ReportLemmas.{reported}
use Rattle.sam_cmd.proofs.report.give.Goals as goal

pub returns-in-Ok-write_whole-clause-gives : goal.returns-in-Ok-write_whole-clause-gives
returns-in-Ok-write_whole-clause-gives g c =
    let whole = c.in-Ok-write_whole.ensures.ok ∙ ap (grown (g.O.Sink.written c.args.out.now)) c.as_bytes.ensures in
    record {
      given = Ok c.in-Ok.text;
      which = inl (sym c.in-Ok.is);
      leaves = inl (record { is_status = refl; whole = whole; quiet = refl });
    }

pub returns-in-Err-write_whole-clause-gives : goal.returns-in-Err-write_whole-clause-gives
returns-in-Err-write_whole-clause-gives g c =
    let failed = c.in-Err-write_whole.ensures in
    let part =
    subst (GrewByPart (g.O.Sink.written c.args.out.now) (g.O.Sink.written c.write_whole.new.out)) c.as_bytes.ensures failed.part in
    record {
      given = Ok c.in-Ok.text;
      which = inl (sym c.in-Ok.is);
      leaves = inr (record { is_status = refl; cause = failed.cause.failed; part = part; said = c.say.ensures });
    }

pub returns-in-Err-clause-gives : goal.returns-in-Err-clause-gives
returns-in-Err-clause-gives g c =
    let out = sink_span g.O.Sink c.args.out.now c.args.out.now in
    let err = sink_span g.E.Sink c.args.err.now c.report.new.err in
    subst (λ (answer : Result (List ℕ) Fault). Gives answer out err c.report.result) (sym c.in-Err.is)
    (reported out err c.report.result c.in-Err.fault refl c.report.ensures)
