-- Where all that a command reads is accepted, it has its text.
use Rattle.std.specs.Prelude.{◌≡◌, ◌≤◌, ℕ, true, false, codes, List, [], ◌∷◌, Option, Ok, length}
use Rattle.sam_base.specs.Each.{Each}
use Rattle.sam_base.specs.declared.TheConstants.{CAPACITY_MOST}
use Rattle.sam_base.specs.declared.faults.Waiting.{Waiting}
use Rattle.sam_io.specs.Outside.{Told}
use Rattle.sam_model.specs.declared.tensors.Entries.{Entries}
use Rattle.sam_model.specs.declared.program.Program.{Program}
use Rattle.sam_model.specs.declared.program.Chain.{Chain}
use Rattle.sam_model.specs.Chains.{entries_as, declared_tensors, entries_after, chain_text}
use Rattle.sam_model.specs.Pattern.{is_too_large}
use Rattle.sam_model.specs.Program.{accepted}
use Rattle.sam_model.specs.Statement.{statement_entries}
use Rattle.plays.specs.Net.{Suffices}
use Rattle.stepper.specs.NetOf.{net_of}
use Rattle.graph.specs.declared.graphs.Graph.{Graph}
use Rattle.custard_lower.specs.Lowered.{low, storages_of}
use Rattle.parts.specs.Parts.{each_part}
use Rattle.inputs.specs.Programs.{chain_part, program_part}
use Rattle.inputs.specs.Tensors.{is_storable, tensor_part}
use Rattle.words.specs.declared.asking.Lowering.{Lowering}
use Rattle.words.specs.declared.asking.Options.{Options}
use Rattle.runs.specs.Setups.{given_to}
use Rattle.runs.specs.Laws.{AmpleRoom}
use Rattle.runs.specs.Sizes.{size_text}
use Rattle.thread_runs.specs.declared.TheConstants.{THREADS_MOST}
use Rattle.verdicts.specs.Verifying.{graph_part, IsVerified}
use Rattle.sam_cmd.specs.Chosen.{chosen}
use Rattle.sam_cmd.specs.Steps.{options_part, under_which}
use Rattle.sam_cmd.specs.Commands.{step_part, threads_part, sizing_part, verify_part}

-- ---- several statements

-- the text that a file's last statement denotes, each over the results of those before it
pub record IsDenoted (told : Option Told) (program text : List ℕ) : Type 0 where
  pub chain : Chain
  pub entries : List Entries
  pub read : chain_part program told (Ok chain)
  pub files : each_part tensor_part (declared_tensors chain.steps) told (Ok entries)
  pub denoted : text ≡ chain_text chain.steps entries

-- Whatever `step` answers is that text, and so is whatever `run` answers.
abbrev pub StepDenotes : Type 0
StepDenotes =
    (told : Option Told) (program : List ℕ) (options : Options) (text : List ℕ) → step_part program options told (Ok text) →
    IsDenoted told program text

abbrev pub RunDenotes : Type 0
RunDenotes =
    (told : Option Told) (program : List ℕ) (lowering : Lowering) (text : List ℕ) → threads_part program lowering told (Ok text) →
    IsDenoted told program text

-- this holds of each program over its entries, no result is too large, and none that is passed on has too many positions
abbrev pub EachEnds : (Program → List Entries → Type 0) → List Program → List Entries → Type 0
EachEnds P [] es = Unit {0}
EachEnds P (p ∷ []) es = P p es × (is_too_large p.result (statement_entries p es) ≡ false)
EachEnds P (p ∷ q ∷ steps) es =
    (P p es × (is_too_large p.result (statement_entries p es) ≡ false)) ×
    ((is_storable p.result (entries_as p.result (statement_entries p es)) ≡ true) × EachEnds P (q ∷ steps) (entries_after p es))

-- each capacity that the options give is at least as large as its channel's stream is long
pub record HasRoom (options : Options) (p : Program) (es : List Entries) : Type 0 where
  pub capacities : List (Option ℕ)
  pub given : Ok capacities ≡ given_to (chosen options.lowering p) options
  pub ample : AmpleRoom p (chosen options.lowering p) es capacities

-- With such room `step` answers the text.
abbrev pub StepCompletes : Type 0
StepCompletes =
    (told : Option Told) (program : List ℕ) (options : Options) (c : Chain) (schedule : List ℕ) (entries : List Entries) →
    chain_part program told (Ok c) → under_which options c ≡ Ok c.steps → options_part options c.steps told (Ok schedule) →
    each_part tensor_part (declared_tensors c.steps) told (Ok entries) → EachEnds (HasRoom options) c.steps entries →
    step_part program options told (Ok (chain_text c.steps entries))

-- `run` answers it where no graph has too many blocks.
abbrev pub RunCompletes : Type 0
RunCompletes =
    (told : Option Told) (program : List ℕ) (lowering : Lowering) (c : Chain) (entries : List Entries) →
    chain_part program told (Ok c) → Each (λ p. length (chosen lowering p).blocks ≤ THREADS_MOST) c.steps →
    each_part tensor_part (declared_tensors c.steps) told (Ok entries) → EachEnds (λ p es. Unit {0}) c.steps entries →
    threads_part program lowering told (Ok (chain_text c.steps entries))

-- ---- one statement

-- `verify` answers that a graph is verified where it is, and the graph that a program is lowered to is.
abbrev pub VerifyCompletes : Type 0
VerifyCompletes =
    (told : Option Told) (program graph : List ℕ) (p : Program) (g : Graph) →
    program_part program told (Ok p) → graph_part graph p told (Ok g) → IsVerified p g → verify_part program graph told (Ok (codes "verified\n"))

abbrev pub PlainGraphsAreVerified : Type 0
PlainGraphsAreVerified = (p : Program) → accepted p ≡ true → IsVerified p (low p)

-- `size` answers the least capacity where the largest one suffices.
abbrev pub SizeCompletes : Type 0
SizeCompletes =
    (told : Option Told) (program : List ℕ) (lowering : Lowering) (p : Program) (entries : List Entries) →
    program_part program told (Ok p) → each_part tensor_part p.tensors told (Ok entries) →
    Suffices (net_of (storages_of p entries) (chosen lowering p)) CAPACITY_MOST →
    (capacity : ℕ) × (below : List Waiting) × sizing_part program lowering told (Ok (size_text capacity below))
