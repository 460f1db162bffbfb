-- Each row adds its pair to those of the rows before it.
use Rattle.std.proofs.Common.{◌≡◌, ◌<◌, ◌++◌, [], ◌∷◌, length, sym, arith, rules, ◌∙◌}
use Rattle.std.proofs.lemmas.List.{take_all}
use Rattle.std.proofs.lemmas.Grind.{common_steps}
use Rattle.sam_base.specs.declared.TheConstants.{POSITIONS_MOST}
use Rattle.levels.specs.Rows.{row_pairs}
use Rattle.levels.proofs.Growth.{grown-more, many-more, grown-all}
use Rattle.levels.proofs.RowLemmas.{length-row_pairs, row_pairs-at}
use Rattle.levels.proofs.pairs.distinct_pairs.Goals as goal

pub returns-in_err-place_of-clause-many : goal.returns-in_err-place_of-clause-many
returns-in_err-place_of-clause-many c =
    let long = length-row_pairs c.args.parents.now c.args.place c.args.rows.now c.requires.all in
    let inside : c.loop-n.n < length (row_pairs c.args.parents.now c.args.place c.args.rows.now) = omega arith in
    λ e. many-more (row_pairs c.args.parents.now c.args.place c.args.rows.now) c.loop-n.pairs.items c.loop-n.n POSITIONS_MOST _ inside
    (sym (row_pairs-at c.args.parents.now c.args.place c.args.rows.now c.loop-n.n _ c.requires.all (omega arith)))
    c.loop-n.invariant.pairs (c.in_err-place_of.ensures.many (search rules))

pub loop-n-preserved : goal.loop-n-preserved
loop-n-preserved c =
    let long = length-row_pairs c.args.parents.now c.args.place c.args.rows.now c.requires.all in
    let inside : c.loop-n.n < length (row_pairs c.args.parents.now c.args.place c.args.rows.now) = omega arith in
    let pushed : c.push.new.self.items ≡ c.loop-n.ranks.items ++ c.in_ok-place_of.field-0 ∷ [] = search rules in
    let grown = grown-more (row_pairs c.args.parents.now c.args.place c.args.rows.now) c.loop-n.pairs.items c.place_of.new.pairs.items c.loop-n.ranks.items c.push.new.self.items
    c.loop-n.n c.in_ok-place_of.field-0 _ inside
    (sym (row_pairs-at c.args.parents.now c.args.place c.args.rows.now c.loop-n.n _ c.requires.all (omega arith)))
    c.loop-n.invariant.pairs c.loop-n.invariant.ranks c.loop-n.invariant.placed c.in_ok-place_of.ensures.added c.in_ok-place_of.ensures.place pushed in
    let added = c.in_ok-place_of.ensures.added in
    let few = c.in_ok-place_of.ensures.few in
    record { pairs = grown.pairs; few = grind (arith, common_steps, added, few); ranks = grown.inside; placed = grown.placed }

pub returns-clause-pairs : goal.returns-clause-pairs
returns-clause-pairs c =
    let long = length-row_pairs c.args.parents.now c.args.place c.args.rows.now c.requires.all in
    grown-all (row_pairs c.args.parents.now c.args.place c.args.rows.now) c.loop-n.pairs.items c.loop-n.n (omega arith) c.loop-n.invariant.pairs

pub returns-clause-placed : goal.returns-clause-placed
returns-clause-placed c =
    let long = length-row_pairs c.args.parents.now c.args.place c.args.rows.now c.requires.all in
    c.loop-n.invariant.placed ∙ take_all c.loop-n.n (row_pairs c.args.parents.now c.args.place c.args.rows.now) (omega arith)
