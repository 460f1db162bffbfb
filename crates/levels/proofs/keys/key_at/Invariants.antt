use Rattle.std.proofs.Common.{◌≡◌, ◌*◌, take, drop}
use Rattle.sam_model.specs.Lists.{items_at}
use Rattle.levels.specs.Keys.{packed}
use Rattle.levels.proofs.keys.key_at.Given as goal

-- the digits so far, with those of the levels that are left
abbrev pub invariant-loop-stored : goal.invariant-loop-stored
invariant-loop-stored l =
    packed l.number (items_at l.t.dims (drop l.stored-index l.t.order)) (items_at (take l.entries.arity (drop (l.n * l.entries.arity) l.entries.coords)) (drop l.stored-index l.t.order))
    ≡ packed 0 (items_at l.t.dims l.t.order) (items_at (take l.entries.arity (drop (l.n * l.entries.arity) l.entries.coords)) l.t.order)
