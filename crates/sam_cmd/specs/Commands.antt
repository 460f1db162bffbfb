-- The commands as chains of parts: what each answers, in the order in which it may be refused.
use Rattle.std.specs.Prelude.{ℕ, List, codes, Option, Some, None, Result, Ok, Err}
use Rattle.sam_base.specs.declared.faults.Fault.{Fault}
use Rattle.sam_base.specs.declared.faults.Fault.TheVariants.{Usage}
use Rattle.sam_model.specs.declared.program.Program.{Program}
use Rattle.sam_model.specs.Chains.{declared_tensors}
use Rattle.graph.specs.declared.graphs.Graph.{Graph}
use Rattle.graph_json.specs.Spelled.{graph_text}
use Rattle.traces.specs.Traces.{streams_of, moment_of}
use Rattle.large.specs.Summaries.{large_text}
use Rattle.parts.specs.Parts.{Part, gives, followed, each_part}
use Rattle.inputs.specs.Programs.{chain_part, program_part}
use Rattle.inputs.specs.Tensors.{tensor_part}
use Rattle.words.specs.declared.asking.Lowering.{Lowering}
use Rattle.words.specs.declared.asking.Command.{Command}
use Rattle.words.specs.declared.asking.Command.TheVariants.{Check, Lower, Streams, Step, Moment, Run, Size, Verify, Large}
use Rattle.words.specs.declared.asking.Options.{Options}
use Rattle.words.specs.Asked.{asked_of}
use Rattle.runs.specs.declared.setup.Setup.{Setup}
use Rattle.runs.specs.Setups.{setup_part}
use Rattle.runs.specs.Sizes.{size_part}
use Rattle.verdicts.specs.Verifying.{verification_part}
use Rattle.sam_cmd.specs.Chosen.{chosen}
use Rattle.sam_cmd.specs.Steps.{options_part, steps_part, under_options, by_threads, under_which, few_blocks}

-- the command that is asked; words that ask for none are answered by the usage
abbrev pub asked_or_usage : Option Command → Result Command Fault
asked_or_usage None = Err Usage
asked_or_usage (Some command) = Ok command

-- ---- the commands

abbrev pub check_part : List ℕ → Part (List ℕ)
check_part program = followed (chain_part program) (λ c. gives (Ok (codes "accepted\n")))

abbrev pub lower_part : List ℕ → Lowering → Part (List ℕ)
lower_part program lowering = followed (program_part program) (λ p. gives (Ok (graph_text p (chosen lowering p))))

abbrev pub streams_part : List ℕ → Lowering → Part (List ℕ)
streams_part program lowering =
    followed (program_part program) (λ p.
    followed (each_part tensor_part p.tensors) (λ entries.
    gives (Ok (streams_of p (chosen lowering p) entries))))

-- what was sent on each channel of a program's graph when the schedule of a setup ends
abbrev pub sent_part : Program → Graph → Setup → Part (List ℕ)
sent_part p g setup =
    followed (each_part tensor_part p.tensors) (λ entries.
    gives (Ok (moment_of p g entries setup.capacities.each setup.schedule)))

abbrev pub moment_part : List ℕ → Options → Part (List ℕ)
moment_part program options =
    followed (program_part program) (λ p.
    followed (setup_part (chosen options.lowering p) options) (sent_part p (chosen options.lowering p)))

-- Of several statements each under its capacities, over the results of those before it.
abbrev pub stepped_part : Options → List Program → Part (List ℕ)
stepped_part options steps =
    followed (options_part options steps) (λ schedule.
    followed (each_part tensor_part (declared_tensors steps))
    (steps_part (λ p. under_options options p (chosen options.lowering p)) steps))

abbrev pub step_part : List ℕ → Options → Part (List ℕ)
step_part program options =
    followed (chain_part program) (λ c.
    followed (gives (under_which options c)) (stepped_part options))

-- The tensor, whatever the capacity of the wires: the work of threads has no other text.
abbrev pub threaded_part : Lowering → List Program → Part (List ℕ)
threaded_part lowering steps =
    followed (gives (few_blocks lowering steps)) (λ few.
    followed (each_part tensor_part (declared_tensors steps)) (steps_part by_threads steps))

abbrev pub threads_part : List ℕ → Lowering → Part (List ℕ)
threads_part program lowering = followed (chain_part program) (λ c. threaded_part lowering c.steps)

-- The least capacity of the program's graph.
abbrev pub sizing_part : List ℕ → Lowering → Part (List ℕ)
sizing_part program lowering =
    followed (program_part program) (λ p.
    followed (each_part tensor_part p.tensors) (size_part p (chosen lowering p)))

-- Whether a graph computes the program's tensor.
abbrev pub verify_part : List ℕ → List ℕ → Part (List ℕ)
verify_part program graph = followed (program_part program) (verification_part graph)

abbrev pub large_part : ℕ → Part (List ℕ)
large_part number = gives (Ok (large_text number))

-- the text of a command
abbrev pub text_part : Command → Part (List ℕ)
text_part (Check program) = check_part program
text_part (Lower program lowering) = lower_part program lowering
text_part (Streams program lowering) = streams_part program lowering
text_part (Step program options) = step_part program options
text_part (Moment program options) = moment_part program options
text_part (Run program lowering capacity) = threads_part program lowering
text_part (Size program lowering) = sizing_part program lowering
text_part (Verify program graph) = verify_part program graph
text_part (Large number) = large_part number

-- what the words answer
abbrev pub answer_part : List (List ℕ) → Part (List ℕ)
answer_part words = followed (gives (asked_or_usage (asked_of words))) text_part

-- ---- without threads

-- the text of a command for which no thread is made; `run` is answered by the usage
abbrev pub serial_text_part : Command → Part (List ℕ)
serial_text_part (Run program lowering capacity) = gives (Err Usage)
serial_text_part command = text_part command

abbrev pub serial_part : List (List ℕ) → Part (List ℕ)
serial_part words = followed (gives (asked_or_usage (asked_of words))) serial_text_part
