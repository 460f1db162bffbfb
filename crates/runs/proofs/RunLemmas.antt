-- What a run of a graph that computes a program's tensor answers, from what the machine leaves.
use Rattle.std.proofs.Common.{◌≡◌, ◌∙◌, ℕ, List, ap, sym, subst, inl, inr, Err}
use Rattle.std.specs.Prelude.{Option, Result}
use Rattle.sam_base.specs.declared.faults.Fault.{Fault}
use Rattle.sam_base.specs.declared.faults.Fault.TheVariants.{Stalled}
use Rattle.sam_base.specs.declared.faults.Waiting.{Waiting}
use Rattle.sam_model.specs.declared.tensors.Entries.{Entries}
use Rattle.sam_model.specs.declared.tensors.Written.{Written}
use Rattle.sam_model.specs.declared.program.Program.{Program}
use Rattle.sam_model.specs.Children.{Ranked}
use Rattle.graph.specs.declared.graphs.Graph.{Graph}
use Rattle.plays.specs.Net.{Net, State, Finished}
use Rattle.stepper.specs.NetOf.{net_of, rooms_of}
use Rattle.stepper.specs.Endings.{waiting_list, EndsAt, StallsAt}
use Rattle.custard_lower.specs.Lowered.{Computes, storages_of}
use Rattle.inputs.specs.Tensors.{AreStored}
use Rattle.machines.proofs.ProgramMachines.{same-net}
use Rattle.runs.specs.Results.{Entry, result_of}
use Rattle.runs.specs.Runs.{RunsTo, LeavesListing}

module _ (p : Program) (g : Graph) (computes : Computes p g) (es : List Entries)
    (storages : List Ranked) (are : AreStored p.tensors es storages) (caps : List (Option ℕ)) where
  abbrev same : net_of storages g ≡ net_of (storages_of p es) g
  same = same-net p g computes es storages are

  ends_alike : (end : State) → EndsAt (net_of storages g) (rooms_of caps) end →
      EndsAt (net_of (storages_of p es) g) (rooms_of caps) end
  ends_alike end ends = subst (λ (net : Net). EndsAt net (rooms_of caps) end) same ends

  -- it stalls
  pub stalls_with : (list : List Waiting) → StallsAt (net_of storages g) (rooms_of caps) list → RunsTo p g es caps (Err (Stalled list))
  stalls_with list left = record {
    computes = computes;
    each = are.each;
    end = left.end;
    ends = ends_alike left.end left.ends;
    answered =
        inr (
          λ finished. left.unfinished (subst (λ (net : Net). Finished net left.end) (sym same) finished),
          ap (λ (waits : List Waiting). Err (Stalled waits)) (left.waiting ∙ ap (λ (net : Net). waiting_list net left.end) same),
        );
  }

  -- it finishes
  pub finishes_with : (levels : ℕ) (w : Written) (answer : Result (List Entry) Fault) → LeavesListing storages g caps levels w →
      answer ≡ result_of p es → RunsTo p g es caps answer
  finishes_with levels w answer left is = record {
    computes = computes;
    each = are.each;
    end = left.end;
    ends = ends_alike left.end left.ends;
    answered = inl (subst (λ (net : Net). Finished net left.end) same left.finished, is);
  }
