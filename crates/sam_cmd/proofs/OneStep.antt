-- Of the statements of a file at most one answer is due.
use Rattle.std.proofs.Common.{List, [], ◌∷◌}
use Rattle.std.specs.Prelude.{Ok}
use Rattle.sam_model.specs.declared.tensors.Entries.{Entries}
use Rattle.sam_model.specs.declared.program.Program.{Program}
use Rattle.sam_model.specs.ResultText.{listing_text}
use Rattle.graph.specs.declared.graphs.Graph.{Graph}
use Rattle.parts.specs.Parts.{Part, followed, gives}
use Rattle.parts.specs.Answers.{AtMostOne}
use Rattle.parts.proofs.DueLemmas.{one_gives, one_followed}
use Rattle.words.specs.declared.asking.Options.{Options}
use Rattle.runs.specs.declared.setup.Setup.{Setup}
use Rattle.runs.specs.Results.{Entry}
use Rattle.runs.specs.Runs.{run_part}
use Rattle.runs.specs.Setups.{given_to, setup_part}
use Rattle.runs.proofs.OneRun.{one_setup, one_run}
use Rattle.sam_cmd.specs.Chosen.{chosen}
use Rattle.sam_cmd.specs.Steps.{options_part, passed_on, printed, steps_part, under_options}

pub one_options : (options : Options) (steps : List Program) → AtMostOne (options_part options steps)
one_options options [] = one_gives (Ok [])
one_options options (p ∷ later) =
    one_followed (setup_part (chosen options.lowering p) options) (λ setup. gives (Ok setup.schedule)) (one_setup (chosen options.lowering p) options)
    (λ (setup : Setup). one_gives (Ok setup.schedule))

pub one_under_options : (options : Options) (p : Program) (g : Graph) (es : List Entries) → AtMostOne (under_options options p g es)
one_under_options options p g es = one_followed (gives (given_to g options)) (run_part p g es) (one_gives (given_to g options)) (one_run p g es)

module _ (answers : Program → List Entries → Part (List Entry)) (one : (p : Program) (es : List Entries) → AtMostOne (answers p es)) where
  pub one_steps : (steps : List Program) (es : List Entries) → AtMostOne (steps_part answers steps es)
  one_steps [] es = one_gives (Ok [])
  one_steps (p ∷ []) es =
      one_followed (answers p es) (printed p) (one p es) (λ listed. one_gives (Ok (listing_text p.result.order listed)))
  one_steps (p ∷ q ∷ steps) es =
      one_followed (answers p es) (λ listed. followed (gives (passed_on p.result es listed)) (steps_part answers (q ∷ steps))) (one p es) (λ listed.
      one_followed (gives (passed_on p.result es listed)) (steps_part answers (q ∷ steps)) (one_gives (passed_on p.result es listed)) (one_steps (q ∷ steps)))
