use Rattle.std.proofs.Common.{◌≡◌, ◌<◌, ◌^◌, take}
use Rattle.std.specs.List.{All}
use Rattle.program_file.specs.Chains.{lines_of}
use Rattle.program_file.proofs.chains.lines_of.Given as goal

abbrev pub invariant-loop-group : goal.invariant-loop-group
invariant-loop-group l = record {
  lines : l.lines ≡ lines_of (take l.group-index l.groups);
  small : All (λ line. line < 2 ^ 32) l.lines;
}
