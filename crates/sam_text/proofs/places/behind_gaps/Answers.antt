-- The gaps are within the line.
use Rattle.std.proofs.Common.{◌≤◌, length, arith, rules}
use Rattle.std.proofs.lemmas.List.Sums.{prefix_len-le-length}
use Rattle.sam_text.specs.Bytes.{is_gap}
use Rattle.sam_text.proofs.places.behind_gaps.Goals as goal

pub slice_bounds-result-count : goal.slice_bounds-result-count
slice_bounds-result-count c = omega (arith, c.gap_length.ensures, prefix_len-le-length is_gap c.args.line.now)

pub slice_bounds-result-start : goal.slice_bounds-result-start
slice_bounds-result-start c =
    let within : c.gap_length.result ≤ length c.args.line.now = omega (arith, c.gap_length.ensures, prefix_len-le-length is_gap c.args.line.now) in
    search rules
