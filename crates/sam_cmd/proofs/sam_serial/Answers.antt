use Rattle.std.proofs.Common.{map, string_bytes}
use Rattle.sam_io.specs.Spans.{files_span, sink_span}
use Rattle.sam_cmd.specs.Commands.{serial_part}
use Rattle.sam_cmd.proofs.CommandLemmas.{one_serial}
use Rattle.sam_cmd.proofs.ReportLemmas.{answered}
use Rattle.sam_cmd.proofs.sam_serial.Goals as goal

pub returns-clause-answered : goal.returns-clause-answered
returns-clause-answered g c =
    let words = map string_bytes c.args.words.now in
    let files = files_span g.F.Files c.args.files.now c.answer-text.new.files in
    let out = sink_span g.O.Sink c.args.out.now c.give.new.out in
    let err = sink_span g.E.Sink c.args.err.now c.give.new.err in
    answered out err c.give.result (serial_part words) (one_serial words) files c.answer-text.result c.answer-text.ensures
    c.give.ensures.gives
