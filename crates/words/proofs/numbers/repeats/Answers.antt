use Rattle.words.proofs.RepeatLemmas.{past_none, found, seen_more}
use Rattle.words.proofs.numbers.repeats.Goals as goal

pub loop-pair-init : goal.loop-pair-init
loop-pair-init c = past_none c.new-channels.result c.args.pairs.now c.new-channels.ensures.empty

pub returns-then-not-branch : goal.returns-then-not-branch
returns-then-not-branch c =
    found c.args.pairs.now c.loop-pair.pair-index _ c.loop-pair-test.true c.loop-pair.channels c.loop-pair.invariant c.in_ok-insert.field-0 c.in_ok-insert.ensures.added c.if-not-branch.true

pub loop-pair-preserved : goal.loop-pair-preserved
loop-pair-preserved c =
    seen_more c.args.pairs.now c.loop-pair.pair-index _ c.loop-pair-test.true c.loop-pair.channels c.loop-pair.invariant c.in_ok-insert.field-0 c.in_ok-insert.ensures.added
    c.if-not-branch.false c.insert.new.self c.in_ok-insert.ensures.updates
