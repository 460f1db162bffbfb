use Rattle.std.proofs.Common.{◌∷◌, [], ◌++◌, decimal}
use Rattle.sam_base.specs.Texts.{state_of}
use Rattle.sam_base.proofs.Lines.{grown-three}
use Rattle.sam_base.proofs.texts.waiting_line.Goals as goal

pub returns : goal.returns
returns c =
    let w = c.args.waiting in
    grown-three c.args.text.now (c.args.head.now ++ decimal w.block) (state_of w.full ++ decimal w.channel)
    _ _ _ (10 ∷ []) c.in_ok-numbered.ensures (rw c.state_text.ensures at c.in_ok-numbered-2.ensures) c.in_ok-push.ensures.ok
