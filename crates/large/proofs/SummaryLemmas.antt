-- What is told of a run is told of the program's result and streams.
use Rattle.std.proofs.Common.{◌≡◌, true, false, ◌∙◌, ◌+◌, ◌%◌, ◌^◌, ℕ, ap, sym, refl, List, [], ◌∷◌, length}
use Rattle.std.specs.Prelude.{sum}
use Rattle.std.specs.List.{enumerate_from}
use Rattle.std.proofs.lemmas.List.{length-map}
use Rattle.std.proofs.lemmas.List.Sums.{sum-map}
use mathlib.Core.List.{map}
use Rattle.sam_model.specs.declared.tensors.Entries.{Entries}
use Rattle.sam_model.specs.declared.program.Program.{Program}
use Rattle.sam_model.specs.Children.{Ranked}
use Rattle.sam_model.specs.Program.{accepted}
use Rattle.sam_model.specs.Pattern.{ends_dense}
use Rattle.sam_model.specs.Statement.{found_entries, statement_entries}
use Rattle.sam_model.specs.Listing.{path_of}
use Rattle.sam_model.proofs.AcceptedPrograms.{result-formed}
use Rattle.expand.proofs.AcceptedTerms.{terms-tell}
use Rattle.expand.proofs.Closing.{closed-is-listed}
use Rattle.tns_io.proofs.FoundEntries.{found-stays}
use Rattle.block_core.specs.Written.{vals_of}
use Rattle.graph.specs.declared.graphs.Graph.{Graph}
use Rattle.graph.specs.Writers.{value_stream}
use Rattle.custard_lower.specs.Lowered.{Carries, Lowered, low, storages_of, written_of}
use Rattle.inputs.specs.Tensors.{AreStored}
use Rattle.large.specs.Summaries.{value_sum, moves_of, summary_text, summary_of}

abbrev number_of : List ℕ × ℕ → ℕ
number_of entry = entry.1

-- the values of a listing
listed : (path : ℕ → List ℕ) (n : ℕ) (vals : List ℕ)
    → map number_of (map (λ (numbered : ℕ × ℕ). (path numbered.0, numbered.1)) (enumerate_from n vals)) ≡ vals
listed path n [] = refl
listed path n (v ∷ vals) = ap (λ (vs : List ℕ). v ∷ vs) (listed path (n + 1) vals)

module _ (p : Program) (ok : accepted p ≡ true) (last : ends_dense p.result ≡ false) (g : Graph) (lowered : Lowered p g) (es : List Entries) (storages : List Ranked)
    (are : AreStored p.tensors es storages) where
  abbrev values : List ℕ
  values = vals_of (value_stream storages g)

  -- the last level isn't dense, so the result lists what is found
  lists-found : statement_entries p es ≡ found_entries p es
  lists-found = sym (closed-is-listed p es ok) ∙ found-stays p es (result-formed p ok) last

  entry_values : map number_of (statement_entries p es) ≡ values
  entry_values =
      let carries : Carries p g es = lowered.computes.carries es are.each in
      let w = written_of p g es in
      ap (map number_of) (lists-found ∙ sym (terms-tell p es ok) ∙ sym carries.written_tensor)
      ∙ listed (path_of w.segs w.crds) 0 w.vals
      ∙ ap (λ (s : List Ranked). vals_of (value_stream s g)) (sym are.are_stored)

  entries_told : length values ≡ length (statement_entries p es)
  entries_told = ap (λ (vs : List ℕ). length vs) (sym entry_values) ∙ length-map (statement_entries p es) number_of

  values_told : sum values % 2 ^ 64 ≡ value_sum (statement_entries p es)
  values_told =
      ap (λ (vs : List ℕ). sum vs % 2 ^ 64) (sym entry_values) ∙ ap (λ (n : ℕ). n % 2 ^ 64) (sum-map number_of (statement_entries p es))

  moves_told : moves_of storages g ≡ moves_of (storages_of p es) (low p)
  moves_told = ap (λ (s : List Ranked). moves_of s g) are.are_stored ∙ ap (moves_of (storages_of p es)) lowered.is_low

  pub summary-told : (entries total moves : ℕ) → entries ≡ length values → total ≡ sum values % 2 ^ 64 → moves ≡ moves_of storages g
      → summary_text entries total moves ≡ summary_of p es
  summary-told entries total moves a b c =
      ap (λ (n : ℕ). summary_text n total moves) (a ∙ entries_told)
      ∙ ap (λ (n : ℕ). summary_text (length (statement_entries p es)) n moves) (b ∙ values_told)
      ∙ ap (summary_text (length (statement_entries p es)) (value_sum (statement_entries p es))) (c ∙ moves_told)
