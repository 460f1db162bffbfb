-- The statements of a file, one after another.
use Rattle.std.specs.Prelude.{◌&&◌, not, ℕ, Bool, List, [], ◌∷◌, ◌++◌, length, eqb, is_none, if◌then◌else◌, Result, Ok, Err, nat_lt}
use Rattle.sam_base.specs.declared.faults.Fault.{Fault}
use Rattle.sam_model.specs.declared.tensors.Tensor.{Tensor}
use Rattle.sam_model.specs.declared.tensors.Entries.{Entries}
use Rattle.sam_model.specs.declared.program.Program.{Program}
use Rattle.sam_model.specs.declared.program.Chain.{Chain}
use Rattle.sam_model.specs.Chains.{entries_as}
use Rattle.sam_model.specs.ResultText.{listing_text}
use Rattle.graph.specs.declared.graphs.Graph.{Graph}
use Rattle.parts.specs.Parts.{Part, gives, followed}
use Rattle.inputs.specs.Programs.{many_statements}
use Rattle.inputs.specs.Tensors.{storable}
use Rattle.words.specs.declared.asking.Lowering.{Lowering}
use Rattle.words.specs.declared.asking.Options.{Options}
use Rattle.runs.specs.Results.{Entry, result_of}
use Rattle.runs.specs.Runs.{run_part}
use Rattle.runs.specs.Setups.{given_to, setup_part}
use Rattle.thread_runs.specs.ThreadsFor.{threads_for}
use Rattle.sam_cmd.specs.Chosen.{chosen}

-- ---- a result as a tensor of the statements behind it

-- with these entries, where they may be stored
abbrev pub and_stored : List Entries → Result Entries Fault → Result (List Entries) Fault
and_stored es (Ok e) = Ok (es ++ e ∷ [])
and_stored es (Err fault) = Err fault

-- The entries of the tensors behind a statement: with what its result lists, where that has dimensions. One of which too many
-- prefixes would be stored is refused by its name.
abbrev pub passed_on : Tensor → List Entries → List Entry → Result (List Entries) Fault
passed_on t es listed =
    if eqb (length t.dims) 0 then Ok es else and_stored es (storable t.name t (entries_as t listed))

-- ---- statement after statement

-- the text of a program's result
abbrev pub printed : Program → List Entry → Part (List ℕ)
printed p listed = gives (Ok (listing_text p.result.order listed))

-- the text of the last one's result, where this is answered of each over its entries
abbrev pub steps_part : (Program → List Entries → Part (List Entry)) → List Program → List Entries → Part (List ℕ)
steps_part answers [] es = gives (Ok [])
steps_part answers (p ∷ []) es = followed (answers p es) (printed p)
steps_part answers (p ∷ q ∷ steps) es =
    followed (answers p es) (λ listed.
    followed (gives (passed_on p.result es listed)) (steps_part answers (q ∷ steps)))

-- ---- under options, and by threads

-- a run of a graph under the capacities that the options give its channels
abbrev pub under_options : Options → Program → Graph → List Entries → Part (List Entry)
under_options options p g es = followed (gives (given_to g options)) (run_part p g es)

-- what threads compute of a program
abbrev pub by_threads : Program → List Entries → Part (List Entry)
by_threads p es = gives (result_of p es)

-- the options hold for every graph: they name no channel and no schedule
abbrev pub hold_for_each : Options → Bool
hold_for_each options = eqb (length options.own) 0 && is_none options.schedule

-- options that name a channel or a schedule are those of one statement alone
abbrev pub under_which : Options → Chain → Result (List Program) Fault
under_which options c =
    if nat_lt 1 (length c.steps) && not (hold_for_each options) then Err (many_statements c.lines) else Ok c.steps

-- the schedule that the options name, of the first program's graph; first the capacities of its channels are those that it has
abbrev pub options_part : Options → List Program → Part (List ℕ)
options_part options [] = gives (Ok [])
options_part options (p ∷ later) = followed (setup_part (chosen options.lowering p) options) (λ setup. gives (Ok setup.schedule))

-- no graph has too many blocks for a thread each; the first that has is refused
abbrev pub if_few : Result Graph Fault → Result (Unit {0}) Fault → Result (Unit {0}) Fault
if_few (Ok g) rest = rest
if_few (Err fault) rest = Err fault

abbrev pub few_blocks : Lowering → List Program → Result (Unit {0}) Fault
few_blocks lowering [] = Ok tt
few_blocks lowering (p ∷ steps) = if_few (threads_for (chosen lowering p)) (few_blocks lowering steps)
