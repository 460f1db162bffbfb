-- The laws of runs, from the laws of plays.
use Rattle.std.proofs.Common.{◌≡◌, ◌∙◌, ℕ, List, [], ◌∷◌, length, sym, subst, refl, inl, inr, Err}
use Rattle.std.specs.Prelude.{Option, None, Result}
use mathlib.Core.List.{map}
use Rattle.sam_base.specs.declared.faults.Fault.{Fault}
use Rattle.sam_base.specs.declared.faults.Fault.TheVariants.{Stalled}
use Rattle.sam_base.specs.declared.faults.Waiting.{Waiting}
use Rattle.sam_model.specs.declared.tensors.Entries.{Entries}
use Rattle.sam_model.specs.declared.program.Program.{Program}
use Rattle.sam_model.specs.Children.{Ranked}
use Rattle.sam_model.specs.Lists.{below}
use Rattle.graph.specs.declared.graphs.Graph.{Graph}
use Rattle.graph.specs.Wiring.{WellFormed}
use Rattle.graph.specs.WholeStreams.{Consistent}
use Rattle.plays.specs.Net.{Net, State, Finished, Reached}
use Rattle.plays.proofs.Always.{always-kept}
use Rattle.stepper.specs.NetOf.{net_of, rooms_of}
use Rattle.stepper.specs.Endings.{waiting_list, EndsAt}
use Rattle.stepper.proofs.GraphLaws.{one-end-of-graphs, room-suffices, graphs-are-wired}
use Rattle.stepper.proofs.Stalling.{none_waiting, some_waiting}
use Rattle.custard_lower.specs.Lowered.{Computes, storages_of}
use Rattle.machines.proofs.UnboundedRuns.{never-stalls}
use Rattle.runs.proofs.CapacityLemmas.{unlimited}
use Rattle.runs.specs.Capacities.{capacity_at}
use Rattle.runs.specs.Results.{Entry, result_of}
use Rattle.runs.specs.Runs.{AnsweredAt}
use Rattle.runs.specs.Laws.{RunsToOneAnswer, RunsToSomeAnswer, AmpleRoomFinishes, UnlimitedFinishes}

module _ (p : Program) (es : List Entries) (storages : List Ranked) (g : Graph) (caps : List (Option ℕ)) (formed : WellFormed g)
    (consistent : Consistent storages g) where
  abbrev net : Net
  net = net_of storages g

  -- runs end in one state
  same_end : (s t : State) → EndsAt net (rooms_of caps) s → EndsAt net (rooms_of caps) t → s ≡ t
  same_end s t ends other =
      let one = one-end-of-graphs storages g caps formed consistent in
      one.3 s ends.reached ends.stuck ∙ sym (one.3 t other.reached other.stuck)

  -- where one answer is given
  same_at : (end : State) (a b : Result (List Entry) Fault) → AnsweredAt p es net end a → AnsweredAt p es net end b → a ≡ b
  same_at end a b (inl (finished, is)) (inl (other, so)) = is ∙ sym so
  same_at end a b (inl (finished, is)) (inr (unfinished, so)) = absurd (unfinished finished)
  same_at end a b (inr (unfinished, is)) (inl (finished, so)) = absurd (unfinished finished)
  same_at end a b (inr (unfinished, is)) (inr (other, so)) = is ∙ sym so

  -- and some answer is
  some_at : (end : State) → Reached net (rooms_of caps) end → (list : List Waiting) → waiting_list net end ≡ list →
      (a : Result (List Entry) Fault) × AnsweredAt p es net end a
  some_at end reached [] none =
      let kept = always-kept net (rooms_of caps) end (graphs-are-wired storages g formed consistent) reached in
      (result_of p es, inl (none_waiting net (rooms_of caps) end kept none, refl))
  some_at end reached (w ∷ list) waits =
      (Err (Stalled (waiting_list net end)), inr (some_waiting net end (λ none. cc), refl))

  -- at a finished state the tensor is answered
  finished_at : (end : State) (a : Result (List Entry) Fault) → Finished net end → AnsweredAt p es net end a → a ≡ result_of p es
  finished_at end a finished (inl (other, is)) = is
  finished_at end a finished (inr (unfinished, is)) = absurd (unfinished finished)

-- ---- over the entries of a program

module _ (p : Program) (g : Graph) (es : List Entries) (computes : Computes p g) (each : length es ≡ length p.tensors) where
  pub consistent-over : Consistent (storages_of p es) g
  consistent-over = (computes.carries es each).consistent

pub runs-to-one-answer : RunsToOneAnswer
runs-to-one-answer p g es caps a b ra rb =
    let formed = ra.computes.formed in
    let consistent = consistent-over p g es ra.computes ra.each in
    let same = same_end p es (storages_of p es) g caps formed consistent ra.end rb.end ra.ends rb.ends in
    same_at p es (storages_of p es) g caps formed consistent rb.end a b
    (subst (λ end. AnsweredAt p es (net_of (storages_of p es) g) end a) same ra.answered) rb.answered

pub runs-to-some-answer : RunsToSomeAnswer
runs-to-some-answer p g es caps computes each =
    let formed = computes.formed in
    let consistent = consistent-over p g es computes each in
    let end = one-end-of-graphs (storages_of p es) g caps formed consistent in
    let answer = some_at p es (storages_of p es) g caps formed consistent end.0 end.1 _ refl in (
      answer.0,
      record {
        computes = computes;
        each = each;
        end = end.0;
        ends = record { reached = end.1; stuck = end.2 };
        answered = answer.1;
      },
    )

pub ample-room-finishes : AmpleRoomFinishes
ample-room-finishes p g es caps a ample run =
    let formed = run.computes.formed in
    let consistent = consistent-over p g es run.computes run.each in
    finished_at p es (storages_of p es) g caps formed consistent run.end a
    (room-suffices (storages_of p es) g caps run.end formed consistent ample run.ends.reached run.ends.stuck) run.answered

pub unlimited-finishes : UnlimitedFinishes
unlimited-finishes p g es caps a given run =
    let channels = length g.channels in
    let formed = run.computes.formed in
    let consistent = consistent-over p g es run.computes run.each in
    let alike : map (capacity_at None []) (below channels) ≡ caps = cc in
    finished_at p es (storages_of p es) g caps formed consistent run.end a
    (never-stalls (storages_of p es) g caps channels run.end formed consistent (sym alike ∙ sym (unlimited None 0 channels))
    run.ends.reached run.ends.stuck) run.answered
