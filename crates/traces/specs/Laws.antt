-- What is sent is a beginning of what passes in all.
use Rattle.std.specs.Prelude.{◌≡◌, ℕ, List, Option}
use Rattle.sam_model.specs.Children.{Ranked}
use Rattle.graph.specs.declared.graphs.Graph.{Graph}
use Rattle.machines.specs.Runnable.{Runnable}
use Rattle.traces.specs.Traces.{moment_text, beginnings_text}

abbrev pub MomentsAreBeginnings : Type 0
MomentsAreBeginnings = (storages : List Ranked) (g : Graph) (caps : List (Option ℕ)) (schedule : List ℕ) → Runnable storages g
    → moment_text storages g caps schedule ≡ beginnings_text storages g caps schedule
