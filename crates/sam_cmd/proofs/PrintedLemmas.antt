-- The result of a run, as it is answered and then printed.
use Rattle.std.proofs.Common.{◌≡◌, ◌⊎◌, ℕ, List, Bool, true, false, inl, inr, refl, subst}
use Rattle.std.specs.Prelude.{Option, Result, Ok, Err, if◌then◌else◌}
use Rattle.sam_base.specs.declared.faults.Fault.{Fault}
use Rattle.sam_base.specs.declared.faults.Fault.TheVariants.{OutOfMemory, ResultTooLarge, Stalled}
use Rattle.sam_io.specs.Spans.{FilesSpan}
use Rattle.sam_model.specs.declared.tensors.Entries.{Entries}
use Rattle.sam_model.specs.declared.tensors.Written.{Written}
use Rattle.sam_model.specs.declared.program.Program.{Program}
use Rattle.sam_model.specs.Pattern.{is_too_large}
use Rattle.sam_model.specs.Statement.{statement_entries}
use Rattle.graph.specs.declared.graphs.Graph.{Graph}
use Rattle.plays.specs.Net.{Net, State}
use Rattle.stepper.specs.NetOf.{net_of}
use Rattle.custard_lower.specs.Lowered.{storages_of}
use Rattle.parts.specs.Parts.{gives}
use Rattle.parts.specs.Answers.{Counted, ComesAlways}
use Rattle.runs.specs.Results.{Entry, as_listed, result_of}
use Rattle.runs.specs.Runs.{AnsweredAt, RunsTo, run_part}

abbrev refused : Fault → Result (List Entry) Fault
refused fault = Err fault

-- no count rises with a result that is too large, or with a run that stalls
module _ (files : FilesSpan) (fault : Fault) where
  is_counted : (is : Fault) → Counted files is → refused fault ≡ refused is → Counted files fault
  is_counted is counted same = subst (Counted files) (let e : is ≡ fault = cc in e) counted

  counted_result : (p : Program) (es : List Entries) → Err fault ≡ result_of p es → Counted files fault
  counted_result p es = by_case (is_too_large p.result (statement_entries p es))
    where
      by_case : (b : Bool) → Err fault ≡ (if b then Err ResultTooLarge else Ok (statement_entries p es)) → Counted files fault
      by_case true is = is_counted ResultTooLarge tt is
      by_case false is = absurd (cc)

  counted_run : (p : Program) (es : List Entries) (net : Net) (end : State) → AnsweredAt p es net end (Err fault) → Counted files fault
  counted_run p es net end (inl (finished, is)) = counted_result p es is
  counted_run p es net end (inr (unfinished, is)) = is_counted (Stalled _) tt is

is_free : (r : Result Written Fault) (fault : Fault) → r ≡ Err fault → r ≡ Err OutOfMemory → fault ≡ OutOfMemory
is_free r fault is same = cc

-- what a run answers
pub comes_run : (p : Program) (g : Graph) (es : List Entries) (caps : List (Option ℕ)) (r : Result Written Fault) →
    RunsTo p g es caps (as_listed r) ⊎ (r ≡ Err OutOfMemory) → ComesAlways (run_part p g es caps) (as_listed r)
comes_run p g es caps (Ok w) (inl run) = λ files. run
comes_run p g es caps (Ok w) (inr none) = absurd (cc)
comes_run p g es caps (Err fault) (inl run) = λ files. inr (run, counted_run files fault p es (net_of (storages_of p es) g) run.end run.answered)
comes_run p g es caps (Err fault) (inr none) = λ files. inl (is_free (Err fault) fault refl none)

-- what a statement denotes
pub comes_result : (p : Program) (es : List Entries) (r : Result Written Fault) →
    (as_listed r ≡ result_of p es) ⊎ (r ≡ Err OutOfMemory) → ComesAlways (gives (result_of p es)) (as_listed r)
comes_result p es (Ok w) (inl is) = λ files. is
comes_result p es (Ok w) (inr none) = absurd (cc)
comes_result p es (Err fault) (inl is) = λ files. inr (is, counted_result files fault p es is)
comes_result p es (Err fault) (inr none) = λ files. inl (is_free (Err fault) fault refl none)
