-- Of each command at most one answer is due.
use Rattle.std.proofs.Common.{ℕ, List}
use Rattle.std.specs.Prelude.{codes, Ok, Err}
use Rattle.sam_base.specs.declared.faults.Fault.TheVariants.{Usage}
use Rattle.sam_model.specs.declared.tensors.Entries.{Entries}
use Rattle.sam_model.specs.declared.program.Program.{Program}
use Rattle.sam_model.specs.Chains.{declared_tensors}
use Rattle.graph_json.specs.Spelled.{graph_text}
use Rattle.traces.specs.Traces.{streams_of, moment_of}
use Rattle.large.specs.Summaries.{large_text}
use Rattle.parts.specs.Parts.{followed, gives, each_part}
use Rattle.parts.specs.Answers.{AtMostOne}
use Rattle.parts.proofs.DueLemmas.{one_gives, one_followed}
use Rattle.inputs.specs.Programs.{chain_part, program_part}
use Rattle.inputs.specs.Tensors.{tensor_part}
use Rattle.inputs.proofs.OneInput.{one_chain, one_program}
use Rattle.words.specs.declared.asking.Lowering.{Lowering}
use Rattle.words.specs.declared.asking.Command.{Command}
use Rattle.words.specs.declared.asking.Command.TheVariants.{Check, Lower, Streams, Step, Moment, Run, Size, Verify, Large}
use Rattle.words.specs.declared.asking.Options.{Options}
use Rattle.words.specs.Asked.{asked_of}
use Rattle.runs.specs.declared.setup.Setup.{Setup}
use Rattle.runs.specs.Setups.{setup_part}
use Rattle.runs.specs.Results.{result_of}
use Rattle.runs.specs.Sizes.{size_part}
use Rattle.runs.proofs.OneRun.{one_setup, one_size}
use Rattle.verdicts.specs.Verifying.{verification_part}
use Rattle.verdicts.proofs.OneVerdict.{one_verification}
use Rattle.sam_cmd.specs.Chosen.{chosen}
use Rattle.sam_cmd.specs.Steps.{options_part, steps_part, under_options, by_threads, under_which, few_blocks}
use Rattle.sam_cmd.specs.Commands.{asked_or_usage, check_part, lower_part, streams_part, sent_part, moment_part, stepped_part, step_part, threaded_part, threads_part}
use Rattle.sam_cmd.specs.Commands.{sizing_part, verify_part}
use Rattle.sam_cmd.specs.Commands.{text_part, answer_part, serial_text_part, serial_part}
use Rattle.sam_cmd.proofs.OneStep.{one_options, one_under_options, one_steps}
use Rattle.sam_cmd.proofs.TensorLemmas.{one_over}

one_check : (program : List ℕ) → AtMostOne (check_part program)
one_check program =
    one_followed (chain_part program) (λ c. gives (Ok (codes "accepted\n"))) (one_chain program)
    (λ c. one_gives (Ok (codes "accepted\n")))

one_lower : (program : List ℕ) (lowering : Lowering) → AtMostOne (lower_part program lowering)
one_lower program lowering =
    one_followed (program_part program) (λ p. gives (Ok (graph_text p (chosen lowering p)))) (one_program program)
    (λ p. one_gives (Ok (graph_text p (chosen lowering p))))

one_streams : (program : List ℕ) (lowering : Lowering) → AtMostOne (streams_part program lowering)
one_streams program lowering =
    one_followed (program_part program)
    (λ p. followed (each_part tensor_part p.tensors) (λ entries. gives (Ok (streams_of p (chosen lowering p) entries))))
    (one_program program) (λ p.
    one_over p.tensors (λ entries. gives (Ok (streams_of p (chosen lowering p) entries)))
    (λ entries. one_gives (Ok (streams_of p (chosen lowering p) entries))))

one_moment : (program : List ℕ) (options : Options) → AtMostOne (moment_part program options)
one_moment program options =
    let text = λ (p : Program) (setup : Setup) (entries : List Entries). moment_of p (chosen options.lowering p) entries setup.capacities.each setup.schedule in
    one_followed (program_part program) (λ p. followed (setup_part (chosen options.lowering p) options) (sent_part p (chosen options.lowering p)))
    (one_program program) (λ p.
    one_followed (setup_part (chosen options.lowering p) options) (sent_part p (chosen options.lowering p)) (one_setup (chosen options.lowering p) options)
    (λ setup. one_over p.tensors (λ entries. gives (Ok (text p setup entries))) (λ entries. one_gives (Ok (text p setup entries)))))

one_step : (program : List ℕ) (options : Options) → AtMostOne (step_part program options)
one_step program options =
    let answers = λ (p : Program). under_options options p (chosen options.lowering p) in
    let over = λ (steps : List Program) (schedule : List ℕ). followed (each_part tensor_part (declared_tensors steps)) (steps_part answers steps) in
    one_followed (chain_part program) (λ c. followed (gives (under_which options c)) (stepped_part options)) (one_chain program) (λ c.
    one_followed (gives (under_which options c)) (stepped_part options) (one_gives (under_which options c)) (λ steps.
    one_followed (options_part options steps) (over steps) (one_options options steps) (λ schedule.
    one_over (declared_tensors steps) (steps_part answers steps)
    (one_steps answers (λ p. one_under_options options p (chosen options.lowering p)) steps))))

one_threads : (program : List ℕ) (lowering : Lowering) → AtMostOne (threads_part program lowering)
one_threads program lowering =
    one_followed (chain_part program) (λ c. threaded_part lowering c.steps) (one_chain program) (λ c.
    one_followed (gives (few_blocks lowering c.steps)) (λ few. followed (each_part tensor_part (declared_tensors c.steps)) (steps_part by_threads c.steps))
    (one_gives (few_blocks lowering c.steps)) (λ few.
    one_over (declared_tensors c.steps) (steps_part by_threads c.steps) (one_steps by_threads (λ p es. one_gives (result_of p es)) c.steps)))

one_sizing : (program : List ℕ) (lowering : Lowering) → AtMostOne (sizing_part program lowering)
one_sizing program lowering =
    one_followed (program_part program) (λ p. followed (each_part tensor_part p.tensors) (size_part p (chosen lowering p)))
    (one_program program) (λ p. one_over p.tensors (size_part p (chosen lowering p)) (one_size p (chosen lowering p)))

one_verify : (program graph : List ℕ) → AtMostOne (verify_part program graph)
one_verify program graph = one_followed (program_part program) (verification_part graph) (one_program program) (one_verification graph)

one_text : (command : Command) → AtMostOne (text_part command)
one_text (Check program) = one_check program
one_text (Lower program lowering) = one_lower program lowering
one_text (Streams program lowering) = one_streams program lowering
one_text (Step program options) = one_step program options
one_text (Moment program options) = one_moment program options
one_text (Run program lowering capacity) = one_threads program lowering
one_text (Size program lowering) = one_sizing program lowering
one_text (Verify program graph) = one_verify program graph
one_text (Large number) = one_gives (Ok (large_text number))

pub one_answer : (words : List (List ℕ)) → AtMostOne (answer_part words)
one_answer words =
    let asked = asked_or_usage (asked_of words) in one_followed (gives asked) text_part (one_gives asked) one_text

one_serial_text : (command : Command) → AtMostOne (serial_text_part command)
one_serial_text (Run program lowering capacity) = one_gives (Err Usage)
one_serial_text command = one_text command

pub one_serial : (words : List (List ℕ)) → AtMostOne (serial_part words)
one_serial words =
    let asked = asked_or_usage (asked_of words) in one_followed (gives asked) serial_text_part (one_gives asked) one_serial_text
