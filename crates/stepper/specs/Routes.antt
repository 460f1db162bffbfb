-- The routes of a machine's plan, and what the machine holds.
use Rattle.std.specs.Prelude.{ℕ, List}
use Rattle.stepper.specs.declared.routes.Ports.{Ports}
use Rattle.stepper.specs.declared.routes.Plan.{Plan}
use Rattle.plays.specs.Held.{Table, Routes, Queued, Held}

abbrev pub table_of : Ports → Table
table_of p = record { first = p.first.items; channels = p.channels.items }

abbrev pub routes_of : Plan → Routes
routes_of p = record { ins = table_of p.ins; outs = table_of p.outs; order = p.order.items }

abbrev pub held_of : {B : Type 0} → List B → List Queued → ℕ → Plan → Held B
held_of blocks queues moves plan = record { blocks = blocks; queues = queues; moves = moves; routes = routes_of plan }
