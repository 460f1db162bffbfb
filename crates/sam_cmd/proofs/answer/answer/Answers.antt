use Rattle.std.proofs.Common.{map, string_bytes}
use Rattle.sam_io.specs.Spans.{files_span}
use Rattle.parts.specs.Parts.{gives}
use Rattle.parts.proofs.ChainLemmas.{comes_first, comes_from}
use Rattle.words.specs.Asked.{asked_of}
use Rattle.sam_cmd.specs.Commands.{asked_or_usage, serial_text_part}
use Rattle.sam_cmd.proofs.answer.answer.Goals as goal

pub returns-in-Ok : goal.returns-in-Ok
returns-in-Ok g c =
    comes_from (gives (asked_or_usage (asked_of (map string_bytes c.args.words.now)))) serial_text_part
    (files_span g.F.Files c.args.files.now c.text.new.files) c.in-Ok.command c.text.result c.in-Ok.ensures.comes
    c.text.ensures

pub returns-in-Err : goal.returns-in-Err
returns-in-Err g c =
    let files = files_span g.F.Files c.args.files.now c.args.files.now in
    comes_first (gives (asked_or_usage (asked_of (map string_bytes c.args.words.now)))) serial_text_part files c.in-Err.fault
    (c.in-Err.ensures.comes files)
