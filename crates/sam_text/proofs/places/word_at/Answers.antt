use Rattle.std.proofs.Common.{arith, rules}
use Rattle.sam_text.proofs.PlaceLemmas.{gaps_within, word_there, no_word}
use Rattle.sam_text.proofs.places.word_at.Goals as goal

pub overflow_add-begin : goal.overflow_add-begin
overflow_add-begin c = let h = gaps_within c.args.text.now c.args.from c.args.to c.gap_length.result c.requires.ordered c.requires.in_text c.gap_length.ensures in omega arith

pub returns-then-begin-to-clause-words : goal.returns-then-begin-to-clause-words
returns-then-begin-to-clause-words c = no_word c.args.text.now c.args.from c.args.to c.gap_length.result c.requires.ordered c.requires.in_text c.gap_length.ensures (omega arith)

pub slice_bounds-word_length-count : goal.slice_bounds-word_length-count
slice_bounds-word_length-count c = gaps_within c.args.text.now c.args.from c.args.to c.gap_length.result c.requires.ordered c.requires.in_text c.gap_length.ensures

pub overflow_add-end : goal.overflow_add-end
overflow_add-end c =
    let g = gaps_within c.args.text.now c.args.from c.args.to c.gap_length.result c.requires.ordered c.requires.in_text c.gap_length.ensures in
    let h = word_there c.args.text.now c.args.from c.args.to c.gap_length.result c.word_length.result c.requires.ordered c.requires.in_text c.gap_length.ensures (omega arith) c.word_length.ensures in
    omega arith

pub returns-clause-found : goal.returns-clause-found
returns-clause-found c = let g = gaps_within c.args.text.now c.args.from c.args.to c.gap_length.result c.requires.ordered c.requires.in_text c.gap_length.ensures in omega (arith, c.gap_length.ensures)

pub returns-clause-words : goal.returns-clause-words
returns-clause-words c =
    let g = gaps_within c.args.text.now c.args.from c.args.to c.gap_length.result c.requires.ordered c.requires.in_text c.gap_length.ensures in
    (word_there c.args.text.now c.args.from c.args.to c.gap_length.result c.word_length.result c.requires.ordered c.requires.in_text c.gap_length.ensures (omega arith) c.word_length.ensures).words

pub returns-clause-within : goal.returns-clause-within
returns-clause-within c =
    let g = gaps_within c.args.text.now c.args.from c.args.to c.gap_length.result c.requires.ordered c.requires.in_text c.gap_length.ensures in
    let h = word_there c.args.text.now c.args.from c.args.to c.gap_length.result c.word_length.result c.requires.ordered c.requires.in_text c.gap_length.ensures (omega arith) c.word_length.ensures in
    (omega arith, h.some, h.within)

pub slice_bounds-word_length-start : goal.slice_bounds-word_length-start
slice_bounds-word_length-start c = let h = gaps_within c.args.text.now c.args.from c.args.to c.gap_length.result c.requires.ordered c.requires.in_text c.gap_length.ensures in search rules
