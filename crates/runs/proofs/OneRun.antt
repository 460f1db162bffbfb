-- Of a setup and of a run at most one answer is due.
use Rattle.std.proofs.Common.{ℕ, List, [], length}
use Rattle.std.specs.Prelude.{Option, Some, None, Ok}
use Rattle.sam_model.specs.declared.tensors.Entries.{Entries}
use Rattle.sam_model.specs.declared.program.Program.{Program}
use Rattle.graph.specs.declared.graphs.Graph.{Graph}
use Rattle.parts.specs.Parts.{gives, reads}
use Rattle.parts.specs.Answers.{AtMostOne}
use Rattle.parts.proofs.DueLemmas.{one_gives, one_followed, one_reads}
use Rattle.schedules.specs.Schedules.{schedule_in}
use Rattle.words.specs.declared.asking.Options.{Options}
use Rattle.runs.specs.declared.setup.Setup.{Setup}
use Rattle.runs.specs.Capacities.{capacities_of}
use Rattle.runs.specs.Setups.{schedule_part, with_schedule, setup_part}
use Rattle.runs.specs.Runs.{run_part}
use Rattle.runs.specs.Sizes.{size_part}
use Rattle.runs.proofs.RunLaws.{runs-to-one-answer}
use Rattle.runs.proofs.SizeLaws.{sizes-to-one-answer}

one_schedule : (blocks : ℕ) (name : Option (List ℕ)) → AtMostOne (schedule_part blocks name)
one_schedule blocks None = one_gives (Ok [])
one_schedule blocks (Some name) =
    one_followed (reads name) (λ text. gives (schedule_in blocks text)) (one_reads name) (λ text. one_gives (schedule_in blocks text))

module _ (blocks : ℕ) (name : Option (List ℕ)) (each : List (Option ℕ)) where
  abbrev setup_with : List ℕ → Setup
  setup_with schedule = record { capacities = record { each = each }; schedule = schedule }

  one_with_schedule : AtMostOne (with_schedule blocks name each)
  one_with_schedule =
      one_followed (schedule_part blocks name) (λ schedule. gives (Ok (setup_with schedule))) (one_schedule blocks name)
      (λ schedule. one_gives (Ok (setup_with schedule)))

pub one_setup : (g : Graph) (options : Options) → AtMostOne (setup_part g options)
one_setup g options =
    let capacities = capacities_of (length g.channels) options.capacity options.own in
    one_followed (gives capacities) (with_schedule (length g.blocks) options.schedule) (one_gives capacities)
    (one_with_schedule (length g.blocks) options.schedule)

pub one_run : (p : Program) (g : Graph) (es : List Entries) (caps : List (Option ℕ)) → AtMostOne (run_part p g es caps)
one_run p g es caps m a b due other ra rb = runs-to-one-answer p g es caps a b ra rb

pub one_size : (p : Program) (g : Graph) (es : List Entries) → AtMostOne (size_part p g es)
one_size p g es m a b due other sa sb = sizes-to-one-answer p g es a b sa sb
