-- The programs of a program file, as parts.
use Rattle.std.specs.Prelude.{◌≡◌, ◌≤◌, ◌<◌, ◌^◌, true, ℕ, All, List, [], ◌∷◌, length, Option, Some, None, IfSome, Result, Ok, Err, slice_get}
use Rattle.std.specs.List.{list_all}
use Rattle.sam_base.specs.declared.faults.Fault.{Fault}
use Rattle.sam_base.specs.declared.faults.Fault.TheVariants as fault
use Rattle.sam_base.specs.declared.faults.ProgramKind.TheVariants.{FileTooLong, ManyStatements}
use Rattle.sam_text.specs.Names.{is_name}
use Rattle.sam_model.specs.declared.tensors.Tensor.{Tensor}
use Rattle.sam_model.specs.declared.program.Program.{Program}
use Rattle.sam_model.specs.declared.program.Chain.{Chain}
use Rattle.sam_model.specs.Chains.{AreChained}
use Rattle.program_file.specs.Refusals.{ProgramRefusal}
use Rattle.program_file.specs.Chains.{chain_reading}
use Rattle.parts.specs.Parts.{Part, gives, followed, reads}

-- the statements of a file, or its first fault
abbrev pub with_program_fault : Result Chain ProgramRefusal → Result Chain Fault
with_program_fault (Ok c) = Ok c
with_program_fault (Err refusal) = Err (fault.Program refusal.kind refusal.line)

-- the statements that a file spells; none are the bytes of a file that is too long
abbrev pub chain_in : Option (List ℕ) → Result Chain Fault
chain_in None = Err (fault.Program FileTooLong 0)
chain_in (Some bytes) = with_program_fault (chain_reading bytes)

-- statements that are accepted, each over the tensors and results before it
abbrev pub accepts : Chain → Part Chain
accepts c told answer = (answer ≡ Ok c) × AreChained c.steps

abbrev pub chain_part : List ℕ → Part Chain
chain_part name = followed (reads name) (λ text. followed (gives (chain_in text)) accepts)

-- ---- one statement alone

-- the line of the second statement
abbrev pub second_line : List ℕ → ℕ
second_line (first ∷ second ∷ lines) = second
second_line lines = 0

-- a second statement stands where there is to be one alone
abbrev pub many_statements : List ℕ → Fault
many_statements lines = fault.Program ManyStatements (second_line lines)

-- the one program of these, whose statements stand at these lines
abbrev pub only_of : List Program → List ℕ → Result Program Fault
only_of (p ∷ []) lines = Ok p
only_of steps lines = Err (many_statements lines)

abbrev pub program_part : List ℕ → Part Program
program_part name = followed (chain_part name) (λ c. gives (only_of c.steps c.lines))

-- ---- what is known of them

-- the names of the tensors and of the result are names
pub record HasNames (p : Program) : Type 0 where
  pub tensors : list_all (λ (t : Tensor). is_name t.name) p.tensors ≡ true
  pub result : is_name p.result.name ≡ true

-- there is one at least, each is accepted over the tensors and results before it, and stands at a line
pub record IsRead (c : Chain) : Type 0 where
  pub some : 1 ≤ length c.steps
  pub chained : AreChained c.steps
  pub named : IfSome (slice_get c.steps 0) HasNames
  pub each_line : length c.lines ≡ length c.steps
  pub lines : All (λ line. line < 2 ^ 32) c.lines
