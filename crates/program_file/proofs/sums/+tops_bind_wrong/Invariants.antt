use Rattle.std.proofs.Common.{length}
use Rattle.program_file.proofs.sums.+tops_bind_wrong.Given as goal

abbrev pub decreases-tops_bind_wrong : goal.decreases-tops_bind_wrong
decreases-tops_bind_wrong l = length l.tops.now
