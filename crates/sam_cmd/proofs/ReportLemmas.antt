-- What was given of an answer.
use Rattle.std.proofs.Common.{◌≡◌, ℕ, inl, inr, refl, List, sym, ap, subst}
use Rattle.std.specs.Prelude.{Result, Err}
use Rattle.sam_base.specs.declared.faults.Fault.{Fault}
use Rattle.sam_io.specs.Spans.{FilesSpan, SinkSpan}
use Rattle.parts.specs.Parts.{Part}
use Rattle.parts.specs.Answers.{AtMostOne, Comes}
use Rattle.parts.proofs.DueLemmas.{settled}
use Rattle.sam_cmd.specs.Answers.{Refused, Answered, ReportsFault, Gives}

module _ (out err : SinkSpan) (status : ℕ) where
  -- a fault that was reported was given, or that there is no memory for its text
  pub reported : (fault : Fault) → out.now ≡ out.before → ReportsFault fault err status → Gives (Err fault) out err status
  reported fault nothing report =
      let left : Refused report.told_fault out err status
      = record { is_status = report.is_status; nothing = nothing; said = report.said } in
      elim report.which [
        | inl same ↦ record { given = Err report.told_fault; which = inl (ap Err same); leaves = left }
        | inr memory ↦ record { given = Err report.told_fault; which = inr (ap Err memory); leaves = left }
      ]

  -- an answer that came by its cause was given
  module _ (answers : Part (List ℕ)) (one : AtMostOne answers) (files : FilesSpan) (answer : Result (List ℕ) Fault) where
    pub answered : Comes answers files answer → Gives answer out err status → Answered answers files out err status
    answered comes gave =
        let came : Comes answers files gave.given =
        elim gave.which [
          | inl same ↦ subst (Comes answers files) (sym same) comes
          | inr memory ↦ subst (Comes answers files) (sym memory) (inl refl)
        ] in
        record { answer = gave.given; comes = came; settles = settled answers one files gave.given came; leaves = gave.leaves }
