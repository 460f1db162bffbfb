-- The first statement of a file, and what is asked before it is run.
use Rattle.std.proofs.Common.{◌≡◌, ◌∙◌, ℕ, List, [], ◌∷◌, Bool, true, false, not, ◌&&◌, length, refl, ap, subst, inl, inr}
use Rattle.std.specs.Prelude.{Option, Some, None, Result, Ok, Err, is_none, nat_lt, if◌then◌else◌}
use Rattle.std.proofs.lemmas.Bool.{and_parts}
use Rattle.sam_base.specs.Each.{Each}
use Rattle.sam_base.specs.declared.faults.Fault.{Fault}
use Rattle.sam_io.specs.Outside.{Told}
use Rattle.sam_io.specs.Spans.{FilesSpan}
use Rattle.sam_model.specs.declared.tensors.Tensor.{Tensor}
use Rattle.sam_model.specs.declared.program.Program.{Program}
use Rattle.sam_model.specs.declared.program.Chain.{Chain}
use Rattle.sam_model.specs.Chains.{and_result, StepsFollow}
use Rattle.sam_model.specs.Program.{accepted}
use Rattle.graph.specs.declared.graphs.Graph.{Graph}
use Rattle.parts.specs.Parts.{Part, gives, followed, each_part}
use Rattle.parts.specs.Answers.{Comes, ComesAlways, Counted, IsRest}
use Rattle.parts.proofs.ChainLemmas.{comes_first, comes_next}
use Rattle.parts.proofs.DueLemmas.{ok_same}
use Rattle.inputs.specs.Programs.{many_statements}
use Rattle.inputs.specs.Tensors.{tensor_part}
use Rattle.words.specs.declared.asking.Lowering.{Lowering}
use Rattle.words.specs.declared.asking.Options.{Options}
use Rattle.runs.specs.declared.setup.Setup.{Setup}
use Rattle.runs.specs.Setups.{schedule_part, setup_part}
use Rattle.thread_runs.specs.ThreadsFor.{threads_for}
use Rattle.sam_cmd.specs.Chosen.{chosen}
use Rattle.sam_cmd.specs.Steps.{options_part, steps_part, under_options, hold_for_each, under_which, if_few, few_blocks}
use Rattle.sam_cmd.specs.Commands.{stepped_part}

-- each of the statements is accepted
pub all-accepted : (steps : List Program) (ts : List Tensor) → StepsFollow ts steps → Each (λ p. accepted p ≡ true) steps
all-accepted [] ts follow = tt
all-accepted (p ∷ steps) ts follow = (follow.1.0, all-accepted steps (and_result p.result ts p.result) follow.1.1)

-- ---- options

none-scheduled : (blocks : ℕ) (name : Option (List ℕ)) (told : Option Told) (schedule : List ℕ) → is_none name ≡ true → schedule_part blocks name told (Ok schedule) →
    schedule ≡ []
none-scheduled blocks None told schedule none is = ok_same schedule [] is
none-scheduled blocks (Some name) told schedule none is = absurd (cc)

-- where the options hold for each graph they name no schedule
pub no-schedule : (g : Graph) (options : Options) (told : Option Told) (setup : Setup) → hold_for_each options ≡ true → setup_part g options told (Ok setup) →
    setup.schedule ≡ []
no-schedule g options told setup hold (each, given, (schedule, named, is)) =
    ap (λ (s : Setup). s.schedule) (ok_same setup (record { capacities = record { each = each }; schedule = schedule }) is)
    ∙ none-scheduled (length g.blocks) options.schedule told schedule (and_parts _ _ hold).1 named

same-fault : (f is : Fault) → ◌≡◌ {A = Result (List Program) Fault} (Err f) (Err is) → is ≡ f
same-fault f is e = cc

-- no count rises with a second statement
pub which-refused : (options : Options) (c : Chain) (f : Fault) → Err f ≡ under_which options c → ComesAlways (gives (under_which options c)) (Err f)
which-refused options c f is = λ files. inr (is, by_case files (nat_lt 1 (length c.steps) && not (hold_for_each options)) is)
  where
    by_case : (files : FilesSpan) (b : Bool) → Err f ≡ (if b then Err (many_statements c.lines) else Ok c.steps) → Counted files f
    by_case files true e = subst (Counted files) (same-fault f (many_statements c.lines) e) tt
    by_case files false e = absurd (cc)

module _ (options : Options) (p : Program) (later : List Program) where
  abbrev over : List ℕ → Part (List ℕ)
  over schedule = followed (each_part tensor_part p.tensors) (steps_part (λ q. under_options options q (chosen options.lowering q)) (p ∷ later))

  pub setup-refused : (files : FilesSpan) (f : Fault) → Comes (setup_part (chosen options.lowering p) options) files (Err f) →
      Comes (stepped_part options (p ∷ later)) files (Err f)
  setup-refused files f refused =
      comes_first (options_part options (p ∷ later)) over files f
      (comes_first (setup_part (chosen options.lowering p) options) (λ (setup : Setup). gives (Ok setup.schedule)) files f refused)

  pub setup-then : (whole rest : FilesSpan) → IsRest whole rest → (setup : Setup) (r : Result (List ℕ) Fault) →
      setup_part (chosen options.lowering p) options whole.told (Ok setup) → Comes (over setup.schedule) rest r → Comes (stepped_part options (p ∷ later)) whole r
  setup-then whole rest is setup r made next =
      comes_next (options_part options (p ∷ later)) over whole rest is setup.schedule r (setup, made, refl) next

-- ---- threads

module _ (lowering : Lowering) (p : Program) (later : List Program) where
  pub few-refused : (f : Fault) → ComesAlways (gives (threads_for (chosen lowering p))) (Err f) → ComesAlways (gives (few_blocks lowering (p ∷ later))) (Err f)
  few-refused f refused = λ files. first files (refused files)
    where
      first : (files : FilesSpan) → Comes (gives (threads_for (chosen lowering p))) files (Err f) → Comes (gives (few_blocks lowering (p ∷ later))) files (Err f)
      first files (inl free) = inl free
      first files (inr (is, counted)) = inr (ap (λ (r : Result Graph Fault). if_few r (few_blocks lowering later)) is, counted)

  pub few-first : (g : Graph) → Ok g ≡ threads_for (chosen lowering p) → few_blocks lowering later ≡ few_blocks lowering (p ∷ later)
  few-first g is = ap (λ (r : Result Graph Fault). if_few r (few_blocks lowering later)) is
