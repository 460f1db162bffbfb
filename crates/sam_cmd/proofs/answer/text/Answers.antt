use Rattle.std.proofs.Common.{subst, sym}
use Rattle.sam_io.specs.Spans.{files_span}
use Rattle.parts.specs.Answers.{Comes}
use Rattle.words.specs.declared.asking.Command.{Command}
use Rattle.sam_cmd.specs.Commands.{serial_text_part}
use Rattle.sam_cmd.proofs.answer.text.Goals as goal

pub returns-in-Step : goal.returns-in-Step
returns-in-Step g c =
    let files = files_span g.F.Files c.args.files.now c.step.new.files in
    subst (λ (command : Command). Comes (serial_text_part command) files c.step.result) (sym c.in-Step.is) c.step.ensures

pub returns-in-Moment : goal.returns-in-Moment
returns-in-Moment g c =
    let files = files_span g.F.Files c.args.files.now c.moment.new.files in
    subst (λ (command : Command). Comes (serial_text_part command) files c.moment.result) (sym c.in-Moment.is) c.moment.ensures.comes

pub returns-in-Large : goal.returns-in-Large
returns-in-Large g c =
    let files = files_span g.F.Files c.args.files.now c.args.files.now in
    subst (λ (command : Command). Comes (serial_text_part command) files c.large.result) (sym c.in-Large.is) (c.large.ensures files)

pub returns-in-Verify : goal.returns-in-Verify
returns-in-Verify g c =
    let files = files_span g.F.Files c.args.files.now c.verify.new.files in
    subst (λ (command : Command). Comes (serial_text_part command) files c.verify.result) (sym c.in-Verify.is) c.verify.ensures.comes

pub returns-in-Size : goal.returns-in-Size
returns-in-Size g c =
    let files = files_span g.F.Files c.args.files.now c.size.new.files in
    subst (λ (command : Command). Comes (serial_text_part command) files c.size.result) (sym c.in-Size.is) c.size.ensures.comes
