-- What is answered of the statements of a file is the text that the last one denotes.
use Rattle.std.proofs.Common.{◌≡◌, ◌∙◌, ℕ, List, [], ◌∷◌, ◌++◌, Bool, true, false, not, ◌&&◌, cond, eqb, length, ap, inl, inr}
use Rattle.std.specs.Prelude.{Option, Ok, Err, nat_lt, if◌then◌else◌}
use Rattle.sam_base.specs.declared.faults.Fault.TheVariants.{ResultTooLarge, Tensor}
use Rattle.sam_base.specs.declared.faults.TnsKind.TheVariants.{TooManyPositions}
use Rattle.sam_io.specs.Outside.{Told}
use Rattle.sam_model.specs.declared.tensors.Entries.{Entries}
use Rattle.sam_model.specs.declared.program.Program.{Program}
use Rattle.sam_model.specs.declared.program.Chain.{Chain}
use Rattle.sam_model.specs.Chains.{entries_as, entries_after, chain_text}
use Rattle.sam_model.specs.Pattern.{is_too_large}
use Rattle.sam_model.specs.ResultText.{listing_text}
use Rattle.sam_model.specs.Statement.{statement_entries}
use Rattle.graph.specs.declared.graphs.Graph.{Graph}
use Rattle.plays.specs.Net.{Net, State}
use Rattle.stepper.specs.NetOf.{net_of}
use Rattle.custard_lower.specs.Lowered.{storages_of}
use Rattle.parts.specs.Parts.{Part}
use Rattle.parts.proofs.DueLemmas.{ok_same}
use Rattle.inputs.specs.Programs.{many_statements}
use Rattle.inputs.specs.Tensors.{is_storable, storable}
use Rattle.words.specs.declared.asking.Options.{Options}
use Rattle.runs.specs.Results.{Entry, result_of}
use Rattle.runs.specs.Runs.{AnsweredAt}
use Rattle.sam_cmd.specs.Chosen.{chosen}
use Rattle.sam_cmd.specs.Steps.{and_stored, passed_on, steps_part, under_options, by_threads, hold_for_each, under_which}
use Rattle.sam_cmd.specs.Laws.{StepDenotes, RunDenotes}

result-listed : (p : Program) (es : List Entries) (listed : List Entry) → Ok listed ≡ result_of p es → listed ≡ statement_entries p es
result-listed p es listed = by_case (is_too_large p.result (statement_entries p es))
  where
    by_case : (b : Bool) → Ok listed ≡ (if b then Err ResultTooLarge else Ok (statement_entries p es)) → listed ≡ statement_entries p es
    by_case true is = absurd (cc)
    by_case false is = ok_same listed (statement_entries p es) is

passed-after : (p : Program) (es next : List Entries) → Ok next ≡ passed_on p.result es (statement_entries p es) → next ≡ entries_after p es
passed-after p es next = by_case (eqb (length p.result.dims) 0) (is_storable p.result e)
  where
    e : Entries
    e = entries_as p.result (statement_entries p es)

    by_case : (scalar storable : Bool) →
        Ok next ≡ (if scalar then Ok es else and_stored es (if storable then Ok e else Err (Tensor p.result.name TooManyPositions 0))) →
        next ≡ cond scalar es (es ++ e ∷ [])
    by_case true storable is = ok_same next es is
    by_case false true is = ok_same next (es ++ e ∷ []) is
    by_case false false is = absurd (cc)

module _ (told : Option Told) (answers : Program → List Entries → Part (List Entry))
    (each : (p : Program) (es : List Entries) (listed : List Entry) → answers p es told (Ok listed) → Ok listed ≡ result_of p es) where
  steps-denote : (steps : List Program) (es : List Entries) (text : List ℕ) → steps_part answers steps es told (Ok text) → text ≡ chain_text steps es
  steps-denote [] es text is = ok_same text [] is
  steps-denote (p ∷ []) es text (listed, answered, is) =
      ok_same text (listing_text p.result.order listed) is ∙ ap (listing_text p.result.order) (result-listed p es listed (each p es listed answered))
  steps-denote (p ∷ q ∷ steps) es text (listed, answered, (next, passed, rest)) =
      let same = result-listed p es listed (each p es listed answered) in
      let after = passed-after p es next (passed ∙ ap (passed_on p.result es) same) in
      steps-denote (q ∷ steps) next text rest ∙ ap (chain_text (q ∷ steps)) after

finished-answer : (p : Program) (es : List Entries) (net : Net) (end : State) (listed : List Entry) → AnsweredAt p es net end (Ok listed) → Ok listed ≡ result_of p es
finished-answer p es net end listed (inl (finished, is)) = is
finished-answer p es net end listed (inr (unfinished, is)) = absurd (cc)

under_options-denotes : (told : Option Told) (options : Options) (p : Program) (g : Graph) (es : List Entries) (listed : List Entry) → under_options options p g es told (Ok listed)
    → Ok listed ≡ result_of p es
under_options-denotes told options p g es listed (caps, given, run) = finished-answer p es (net_of (storages_of p es) g) run.end listed run.answered

pub which-all : (options : Options) (c : Chain) (steps : List Program) → Ok steps ≡ under_which options c → steps ≡ c.steps
which-all options c steps = by_case (nat_lt 1 (length c.steps) && not (hold_for_each options))
  where
    by_case : (b : Bool) → Ok steps ≡ (if b then Err (many_statements c.lines) else Ok c.steps) → steps ≡ c.steps
    by_case true is = absurd (cc)
    by_case false is = ok_same steps c.steps is

pub step-denotes : StepDenotes
step-denotes told program options text (c, read, (steps, which, (schedule, set, (entries, files, ends)))) =
    let same = which-all options c steps which in
    let answers = λ (p : Program). under_options options p (chosen options.lowering p) in
    record {
      chain = c;
      entries = entries;
      read = read;
      files = rw same at files;
      denoted =
          steps-denote told answers (λ p. under_options-denotes told options p (chosen options.lowering p)) c.steps entries text (rw same at ends);
    }

pub run-denotes : RunDenotes
run-denotes told program lowering text (c, read, (few, are_few, (entries, files, ends))) =
    record {
      chain = c;
      entries = entries;
      read = read;
      files = files;
      denoted = steps-denote told by_threads (λ p es listed is. is) c.steps entries text ends;
    }
