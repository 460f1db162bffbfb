-- What is found of a program, closed, is its result.
use Rattle.std.proofs.Common.{◌≡◌, ◌∙◌, true, false, Bool, ap, sym, refl, Ok, Err}
use Rattle.std.specs.Prelude.{List, if◌then◌else◌}
use Rattle.sam_base.specs.declared.faults.Fault.TheVariants.{ResultTooLarge}
use Rattle.sam_model.specs.declared.tensors.Entries.{Entries}
use Rattle.sam_model.specs.declared.program.Program.{Program}
use Rattle.sam_model.specs.Pattern.{closed, ends_dense, is_too_large}
use Rattle.sam_model.specs.Program.{accepted}
use Rattle.sam_model.specs.Statement.{found_entries, statement_entries}
use Rattle.sam_model.proofs.AcceptedPrograms.{result-formed}
use Rattle.expand.proofs.Closing.{closed-is-listed}
use Rattle.tns_io.proofs.FoundEntries.{found-stays}
use Rattle.runs.specs.Results.{Entry, result_of}

module _ (p : Program) (is_accepted : accepted p ≡ true) (es : List Entries) (found : List Entry) (is : found ≡ found_entries p es) where
  closes : closed p.result found ≡ statement_entries p es
  closes = ap (closed p.result) is ∙ closed-is-listed p es is_accepted

  -- where it is so large or not
  answered : (b : Bool) → is_too_large p.result (closed p.result found) ≡ b →
      result_of p es ≡ (if b then Err ResultTooLarge else Ok (statement_entries p es))
  answered b e = ap (λ (b : Bool). if b then Err ResultTooLarge else Ok (statement_entries p es)) (sym (ap (is_too_large p.result) closes) ∙ e)

  -- what is listed where the last level is dense, and where it isn't
  pub listed-is : (listed : List Entry) → (ends_dense p.result ≡ true → listed ≡ closed p.result found) → (ends_dense p.result ≡ false → listed ≡ found) →
      is_too_large p.result (closed p.result found) ≡ false → Ok listed ≡ result_of p es
  listed-is listed filled kept fits = ap Ok (by_case (ends_dense p.result) refl ∙ closes) ∙ sym (answered false fits)
    where
      by_case : (b : Bool) → ends_dense p.result ≡ b → listed ≡ closed p.result found
      by_case true e = filled e
      by_case false e =
          kept e ∙ is ∙ sym (found-stays p es (result-formed p is_accepted) e) ∙ sym (ap (closed p.result) is)

  pub too-large-is : is_too_large p.result (closed p.result found) ≡ true → Err ResultTooLarge ≡ result_of p es
  too-large-is large = sym (answered true large)
