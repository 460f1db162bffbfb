-- The pair is the last, or it goes to the end.
use Rattle.std.proofs.Common.{◌≡◌, true, false, sym, arith}
use Rattle.std.proofs.lemmas.Grind.{common_steps}
use Rattle.levels.specs.Pairs.{ends_with}
use Rattle.levels.proofs.Growth.{with_pair-last, with_pair-new, ends_with-there, length-last, length-new}
use Rattle.levels.proofs.pairs.place_of.Goals as goal

pub returns-then-is_last-clause-added : goal.returns-then-is_last-clause-added
returns-then-is_last-clause-added c =
    let e : ends_with c.args.pairs.now.items c.args.pair ≡ true = cc (c.if-is_last.ensures) in
    sym (with_pair-last c.args.pairs.now.items c.args.pair e)

pub returns-then-is_last-clause-place : goal.returns-then-is_last-clause-place
returns-then-is_last-clause-place c =
    let e : ends_with c.args.pairs.now.items c.args.pair ≡ true = cc (c.if-is_last.ensures) in
    let long = length-last c.args.pairs.now.items c.args.pair e in
    let some = ends_with-there c.args.pairs.now.items c.args.pair e in
    grind (arith, common_steps, long, some)

pub returns-then-is_last-clause-few : goal.returns-then-is_last-clause-few
returns-then-is_last-clause-few c =
    let e : ends_with c.args.pairs.now.items c.args.pair ≡ true = cc (c.if-is_last.ensures) in
    let long = length-last c.args.pairs.now.items c.args.pair e in
    grind (arith, common_steps, long)

pub returns-then-place-ge-POSITIONS_MOST-clause-many : goal.returns-then-place-ge-POSITIONS_MOST-clause-many
returns-then-place-ge-POSITIONS_MOST-clause-many c =
    let e : ends_with c.args.pairs.now.items c.args.pair ≡ false = cc (c.if-is_last.ensures) in
    let long = length-new c.args.pairs.now.items c.args.pair e in
    λ _. grind (arith, common_steps, long)

pub returns-clause-added : goal.returns-clause-added
returns-clause-added c =
    let e : ends_with c.args.pairs.now.items c.args.pair ≡ false = cc (c.if-is_last.ensures) in
    let new = with_pair-new c.args.pairs.now.items c.args.pair e in
    grind (arith, common_steps, new)

pub returns-clause-place : goal.returns-clause-place
returns-clause-place c =
    let e : ends_with c.args.pairs.now.items c.args.pair ≡ false = cc (c.if-is_last.ensures) in
    let long = length-new c.args.pairs.now.items c.args.pair e in
    grind (arith, common_steps, long)

pub returns-clause-few : goal.returns-clause-few
returns-clause-few c =
    let e : ends_with c.args.pairs.now.items c.args.pair ≡ false = cc (c.if-is_last.ensures) in
    let long = length-new c.args.pairs.now.items c.args.pair e in
    grind (arith, common_steps, long)
