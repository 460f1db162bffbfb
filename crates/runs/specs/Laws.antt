-- The laws of runs of a graph that computes a program's tensor.
use Rattle.std.specs.Prelude.{◌≡◌, ◌<◌, ℕ, List, [], length, Option, Some, None, Result, Ok}
use Rattle.sam_base.specs.declared.TheConstants.{CAPACITY_MOST}
use Rattle.sam_base.specs.declared.faults.Fault.{Fault}
use Rattle.sam_base.specs.declared.faults.Waiting.{Waiting}
use Rattle.sam_model.specs.declared.tensors.Entries.{Entries}
use Rattle.sam_model.specs.declared.program.Program.{Program}
use Rattle.graph.specs.declared.graphs.Graph.{Graph}
use Rattle.graph.specs.WholeStreams.{whole_stream}
use Rattle.plays.specs.Net.{AtMost, Suffices}
use Rattle.stepper.specs.NetOf.{net_of, rooms_of}
use Rattle.custard_lower.specs.Lowered.{Computes, storages_of}
use Rattle.runs.specs.Capacities.{capacities_of}
use Rattle.runs.specs.Results.{Entry, result_of}
use Rattle.runs.specs.Runs.{RunsTo}
use Rattle.runs.specs.Sizes.{SizesTo, size_text}

-- A run has one answer, whatever is played first.
abbrev pub RunsToOneAnswer : Type 0
RunsToOneAnswer =
    (p : Program) (g : Graph) (es : List Entries) (caps : List (Option ℕ)) (a b : Result (List Entry) Fault) →
    RunsTo p g es caps a → RunsTo p g es caps b → a ≡ b

-- It has an answer.
abbrev pub RunsToSomeAnswer : Type 0
RunsToSomeAnswer =
    (p : Program) (g : Graph) (es : List Entries) (caps : List (Option ℕ)) → Computes p g → length es ≡ length p.tensors →
    (a : Result (List Entry) Fault) × RunsTo p g es caps a

-- each capacity is at least as large as its channel's stream is long
abbrev pub AmpleRoom : Program → Graph → List Entries → List (Option ℕ) → Type 0
AmpleRoom p g es caps =
    (c : ℕ) → c < length g.channels →
    AtMost (Some (length (whole_stream (storages_of p es) g c))) (rooms_of caps c)

-- With ample room a run answers the tensor that the program denotes: it never stalls.
abbrev pub AmpleRoomFinishes : Type 0
AmpleRoomFinishes =
    (p : Program) (g : Graph) (es : List Entries) (caps : List (Option ℕ)) (a : Result (List Entry) Fault) → AmpleRoom p g es caps →
    RunsTo p g es caps a → a ≡ result_of p es

-- So does one for which no capacity is given.
abbrev pub UnlimitedFinishes : Type 0
UnlimitedFinishes =
    (p : Program) (g : Graph) (es : List Entries) (caps : List (Option ℕ)) (a : Result (List Entry) Fault) →
    capacities_of (length g.channels) None [] ≡ Ok caps → RunsTo p g es caps a → a ≡ result_of p es

-- Of the room that a run needs there is one answer.
abbrev pub SizesToOneAnswer : Type 0
SizesToOneAnswer =
    (p : Program) (g : Graph) (es : List Entries) (a b : Result (List ℕ) Fault) → SizesTo p g es a → SizesTo p g es b → a ≡ b

-- Where the largest capacity suffices, the answer is the least one.
abbrev pub SufficingIsSized : Type 0
SufficingIsSized =
    (p : Program) (g : Graph) (es : List Entries) → Computes p g → length es ≡ length p.tensors →
    Suffices (net_of (storages_of p es) g) CAPACITY_MOST →
    (capacity : ℕ) × (below : List Waiting) × SizesTo p g es (Ok (size_text capacity below))
