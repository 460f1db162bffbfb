use Rattle.std.proofs.Common.{map, string_bytes, subst, sym}
use Rattle.std.specs.Prelude.{Err}
use Rattle.sam_io.specs.Spans.{files_span, sink_span}
use Rattle.parts.specs.Parts.{gives}
use Rattle.parts.specs.Answers.{Comes}
use Rattle.parts.proofs.ChainLemmas.{comes_first, comes_from}
use Rattle.words.specs.declared.asking.Command.{Command}
use Rattle.words.specs.Asked.{asked_of}
use Rattle.sam_cmd.specs.Commands.{asked_or_usage, text_part, answer_part}
use Rattle.sam_cmd.proofs.CommandLemmas.{one_answer}
use Rattle.sam_cmd.proofs.ReportLemmas.{answered}
use Rattle.sam_cmd.proofs.SerialLemmas.{answered_here}
use Rattle.sam_cmd.proofs.sam.Goals as goal

pub returns-in-Run-clause-answered : goal.returns-in-Run-clause-answered
returns-in-Run-clause-answered g c =
    let words = map string_bytes c.args.words.now in
    let files = files_span g.F.Files c.args.files.now c.run-text.new.files in
    let out = sink_span g.O.Sink c.args.out.now c.give-in-Run.new.out in
    let err = sink_span g.E.Sink c.args.err.now c.give-in-Run.new.err in
    let ran = subst (λ (command : Command). Comes (text_part command) files c.run-text.result) (sym c.in-Run.is) c.run-text.ensures in
    answered out err c.give-in-Run.result (answer_part words) (one_answer words) files c.run-text.result
    (comes_from (gives (asked_or_usage (asked_of words))) text_part files c.in-Ok.command c.run-text.result c.in-Ok.ensures.comes ran)
    c.give-in-Run.ensures.gives

pub returns-in-Err-clause-answered : goal.returns-in-Err-clause-answered
returns-in-Err-clause-answered g c =
    let words = map string_bytes c.args.words.now in
    let files = files_span g.F.Files c.args.files.now c.args.files.now in
    let out = sink_span g.O.Sink c.args.out.now c.give.new.out in
    let err = sink_span g.E.Sink c.args.err.now c.give.new.err in
    answered out err c.give.result (answer_part words) (one_answer words) files (Err c.in-Err.fault)
    (comes_first (gives (asked_or_usage (asked_of words))) text_part files c.in-Err.fault (c.in-Err.ensures.comes files))
    c.give.ensures.gives

pub returns : goal.returns
returns g c =
    let words = map string_bytes c.args.words.now in
    let before = files_span g.F.Files c.args.files.now c.args.files.now in
    let files = files_span g.F.Files c.args.files.now c.sam_serial.new.files in
    let out = sink_span g.O.Sink c.args.out.now c.sam_serial.new.out in
    let err = sink_span g.E.Sink c.args.err.now c.sam_serial.new.err in
    let all = c.sam_serial.ensures in
    record {
      answered = answered_here words c.in-Ok.command (c.in-Ok.ensures.comes before) c.in_default.not-Run files out err
          c.sam_serial.result all.answered;
      quiet = all.quiet;
      untouched = all.untouched;
    }
