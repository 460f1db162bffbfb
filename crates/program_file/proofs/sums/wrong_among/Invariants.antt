use Rattle.std.proofs.Common.{◌≡◌, drop}
use Rattle.sam_model.specs.Trees.{tree_of}
use Rattle.program_file.specs.Checks.{wrong_among}
use Rattle.program_file.proofs.sums.wrong_among.Given as goal

abbrev pub invariant-loop-var : goal.invariant-loop-var
invariant-loop-var l =
    wrong_among l.names l.left (tree_of l.e) (drop l.var-index l.vars) ≡ wrong_among l.names l.left (tree_of l.e) l.vars
