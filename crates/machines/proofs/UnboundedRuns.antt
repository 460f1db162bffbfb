-- A run whose channels have no limit.
use Rattle.std.specs.Prelude.{◌≡◌, ℕ, zero, suc, List, length, replicate, Option, Some, None, refl}
use Rattle.std.proofs.Common.{sym, subst, ap, ◌∙◌}
use Rattle.sam_model.specs.Children.{Ranked}
use Rattle.graph.specs.declared.graphs.Graph.{Graph}
use Rattle.graph.specs.Wiring.{WellFormed}
use Rattle.graph.specs.WholeStreams.{whole_stream, Consistent}
use Rattle.plays.specs.Net.{State, Reached, Stuck, Finished, AtMost}
use Rattle.stepper.specs.NetOf.{net_of, rooms_of}
use Rattle.stepper.proofs.GraphLaws.{room-suffices}

no_limit : (n c : ℕ) → rooms_of (replicate n None) c ≡ None
no_limit zero c = refl
no_limit (suc n) zero = refl
no_limit (suc n) (suc c) = no_limit n c

within_none : (n : ℕ) (room : Option ℕ) → room ≡ None → AtMost (Some n) room
within_none n room none = subst (AtMost (Some n)) (sym none) tt

-- where no channel has a limit, a run that ends stuck is finished
pub never-stalls :
    (storages : List Ranked) (g : Graph) (caps : List (Option ℕ)) (channels : ℕ) (s : State) → WellFormed g → Consistent storages g →
    caps ≡ replicate channels None → Reached (net_of storages g) (rooms_of caps) s → Stuck (net_of storages g) (rooms_of caps) s →
    Finished (net_of storages g) s
never-stalls storages g caps channels s formed consistent none =
    room-suffices storages g caps s formed consistent
    (λ c l. within_none (length (whole_stream storages g c)) _ (ap (λ list. rooms_of list c) none ∙ no_limit channels c))
