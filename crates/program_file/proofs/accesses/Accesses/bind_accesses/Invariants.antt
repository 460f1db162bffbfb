use Rattle.std.proofs.Common.{◌≡◌, drop}
use mathlib.Core.List.{map}
use Rattle.program_file.specs.Accesses.{bind_accesses}
use Rattle.program_file.proofs.accesses.Accesses.bind_accesses.Given as goal

-- the accesses that are left give, with the variables so far, what all of them give
abbrev pub invariant-loop-access : goal.invariant-loop-access
invariant-loop-access l =
    bind_accesses l.self.line l.self.tensors.now l.self.scalars.now l.self.result.now l.vars (map (λ a. a.now) (drop l.access-index l.accesses))
    ≡ bind_accesses l.self.line l.self.tensors.now l.self.scalars.now l.self.result.now l.initial.vars (map (λ a. a.now) l.accesses)
