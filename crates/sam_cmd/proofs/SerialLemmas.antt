-- What is answered in one thread is what is answered, for every command but `run`.
use Rattle.std.proofs.Common.{◌≡◌, ◌∙◌, ℕ, inl, inr, refl, subst, sym, List}
use Rattle.std.specs.Prelude.{Option, Result, Ok, Err}
use Rattle.sam_base.specs.declared.faults.Fault.{Fault}
use Rattle.sam_io.specs.Outside.{Told}
use Rattle.sam_io.specs.Spans.{FilesSpan, SinkSpan}
use Rattle.parts.specs.Answers.{Comes}
use Rattle.parts.proofs.DueLemmas.{ok_same, settled}
use Rattle.words.specs.declared.asking.Lowering.{Lowering}
use Rattle.words.specs.declared.asking.Command.{Command}
use Rattle.words.specs.declared.asking.Command.TheVariants.{Run}
use Rattle.words.specs.Asked.{asked_of}
use Rattle.sam_cmd.specs.Commands.{asked_or_usage, text_part, answer_part, serial_text_part, serial_part}
use Rattle.sam_cmd.specs.Answers.{Answered}
use Rattle.sam_cmd.proofs.CommandLemmas.{one_answer}

abbrev IsOther : Command → Type 0
IsOther command = (program : List ℕ) (lowering : Lowering) (capacity : Option ℕ) → command ≡ Run program lowering capacity → ⊥

same_text : (command : Command) → IsOther command → (told : Option Told) (r : Result (List ℕ) Fault) →
    serial_text_part command told r → text_part command told r
same_text (Run program lowering capacity) other told r there = absurd (other program lowering capacity refl)
same_text _ other told r there = there

module _ (words : List (List ℕ)) (command : Command) (asked : Ok command ≡ asked_or_usage (asked_of words)) (other : IsOther command) where
  abbrev first : Result Command Fault
  first = asked_or_usage (asked_of words)

  this_text : (a : Command) → Ok a ≡ first → (told : Option Told) (r : Result (List ℕ) Fault) → serial_text_part a told r → text_part a told r
  this_text a is =
      let same : command ≡ a = ok_same command a (asked ∙ sym is) in
      same_text a (subst IsOther same other)

  here : (told : Option Told) (r : Result (List ℕ) Fault) → serial_part words told r → answer_part words told r
  here told (Ok text) (a, is, there) = (a, is, this_text a is told (Ok text) there)
  here told (Err f) (inl refused) = inl refused
  here told (Err f) (inr (a, is, there)) = inr (a, is, this_text a is told (Err f) there)

  comes_here : (files : FilesSpan) (r : Result (List ℕ) Fault) → Comes (serial_part words) files r → Comes (answer_part words) files r
  comes_here files (Ok text) there = here files.told (Ok text) there
  comes_here files (Err f) (inl free) = inl free
  comes_here files (Err f) (inr (there, counted)) = inr (here files.told (Err f) there, counted)

  pub answered_here : (files : FilesSpan) (out err : SinkSpan) (status : ℕ) → Answered (serial_part words) files out err status → Answered (answer_part words) files out err status
  answered_here files out err status serial =
      let came = comes_here files serial.answer serial.comes in
      record {
        answer = serial.answer;
        comes = came;
        settles = settled (answer_part words) (one_answer words) files serial.answer came;
        leaves = serial.leaves;
      }
