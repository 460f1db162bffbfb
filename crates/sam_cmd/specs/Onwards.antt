-- What is known of a statement that is run next, and of what comes behind it.
use Rattle.std.specs.Prelude.{◌≡◌, List, [], ◌∷◌, Result, Ok, Err}
use Rattle.sam_base.specs.declared.faults.Fault.{Fault}
use Rattle.sam_model.specs.declared.tensors.Tensor.{Tensor}
use Rattle.sam_model.specs.declared.tensors.Entries.{Entries}
use Rattle.sam_model.specs.declared.program.Program.{Program}
use Rattle.sam_model.specs.Chains.{and_result, StepsFollow}
use Rattle.sam_model.specs.Children.{Ranked}
use Rattle.sam_model.specs.ResultText.{listing_text}
use Rattle.parts.specs.Parts.{gives}
use Rattle.parts.specs.Answers.{ComesAlways}
use Rattle.inputs.specs.Tensors.{AreStored}
use Rattle.words.specs.declared.asking.Lowering.{Lowering}
use Rattle.runs.specs.Results.{Entry}
use Rattle.sam_cmd.specs.Chosen.{IsChosen}
use Rattle.sam_cmd.specs.declared.chain.Step.{Step}
use Rattle.sam_cmd.specs.declared.chain.Onwards.{Onwards}
use Rattle.sam_cmd.specs.declared.chain.Onwards.TheVariants.{Text, Next}
use Rattle.sam_cmd.specs.Steps.{passed_on, printed}

-- the programs follow one another, its graph is the chosen one, and its tensors are stored
pub record IsReady (lowering : Lowering) (step : Step) : Type 0 where
  pub follow : StepsFollow step.program.now.tensors (step.program.now ∷ step.later.now)
  pub chosen : IsChosen lowering step.program.now step.graph
  pub stored : (entries : List Entries) × AreStored step.program.now.tensors entries step.storages

abbrev pub IsReadyOnwards : Lowering → Onwards → Type 0
IsReadyOnwards lowering (Text text) = Unit {0}
IsReadyOnwards lowering (Next step) = IsReady lowering step

-- the tensors behind a statement, as they are stored, or a refusal
abbrev pub IsPassedOn : Tensor → List Tensor → List Entries → List Entry → Result (List Ranked) Fault → Type 0
IsPassedOn t ts es listed (Ok more) = (next : List Entries) × (Ok next ≡ passed_on t es listed) × AreStored (and_result t ts t) next more
IsPassedOn t ts es listed (Err fault) = ComesAlways {A = List Entries} (gives (passed_on t es listed)) (Err fault)

-- a refusal behind a statement
abbrev pub IsRefusedBehind : Program → List Program → List Entries → List Entry → Fault → Type 0
IsRefusedBehind p [] es listed fault = ComesAlways (printed p listed) (Err fault)
IsRefusedBehind p (q ∷ steps) es listed fault = ComesAlways {A = List Entries} (gives (passed_on p.result es listed)) (Err fault)

-- what comes behind a program whose result lists this
abbrev pub GoesOn : Program → List Program → List Entries → List Entry → Result Onwards Fault → Type 0
GoesOn p later es listed (Ok (Text text)) = (later ≡ []) × (text ≡ listing_text p.result.order listed)
GoesOn p later es listed (Ok (Next step)) =
    (later ≡ step.program.now ∷ step.later.now) × IsPassedOn p.result p.tensors es listed (Ok step.storages)
GoesOn p later es listed (Err fault) = IsRefusedBehind p later es listed fault
