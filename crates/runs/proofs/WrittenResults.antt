-- What a graph that computes a program's tensor leaves, as closing it and its text ask for it.
use Rattle.std.proofs.Common.{◌≡◌, ℕ, true, List, length, sym, ap, subst, ◌∙◌}
use Rattle.std.specs.List.{filter, list_all}
use Rattle.std.proofs.lemmas.List.{length-map}
use Rattle.sam_model.specs.declared.tensors.Entries.{Entries}
use Rattle.sam_model.specs.declared.program.Program.{Program}
use Rattle.sam_model.specs.Children.{Ranked}
use Rattle.sam_model.specs.Lists.{tuples, within, items_at}
use Rattle.sam_model.specs.Denote.{den, pat, result_entries}
use Rattle.sam_model.specs.Program.{accepted}
use Rattle.sam_model.specs.Statement.{found_entries}
use Rattle.sam_model.proofs.Lists.{Each-filter, Each-mapped}
use Rattle.expand.proofs.AcceptedTerms.{terms-tell}
use Rattle.tns_io.proofs.FoundEntries.{all-pass, tuples-within}
use Rattle.sam_model.specs.Listing.{InRange, listing}
use Rattle.stream_model.specs.Labels.{result_sizes}
use Rattle.graph.specs.declared.graphs.Graph.{Graph}
use Rattle.graph.specs.Writers.{written_listing}
use Rattle.custard_lower.specs.Lowered.{Carries, Computes, storages_of, written_of}
use Rattle.inputs.specs.Tensors.{AreStored}
use Rattle.runs.specs.Results.{IsOf}

-- ---- the entries of a result

-- the coordinates of each are below the sizes of the result
entries_within : (p : Program) (es : List Entries) → list_all (λ entry. within (result_sizes p) entry.0) (result_entries p es) ≡ true
entries_within p es =
    all-pass {A = List ℕ × ℕ} (λ entry. within (result_sizes p) entry.0) (result_entries p es)
    (Each-mapped (λ entry. within (result_sizes p) entry.0 ≡ true) (λ x. (x, den p es x)) (filter (pat p es) (tuples (result_sizes p)))
    (Each-filter (λ x. within (result_sizes p) x ≡ true) (pat p es) (tuples (result_sizes p)) (tuples-within (result_sizes p))))

-- ---- such a graph over the stored tensors

module _ (p : Program) (g : Graph) (computes : Computes p g) (es : List Entries) (stored : List Ranked) (are : AreStored p.tensors es stored) where
  carries : Carries p g es
  carries = computes.carries es are.each

  same : written_listing stored g (length p.result.order) ≡ written_of p g es
  same =
      ap (λ s. written_listing s g (length p.result.order)) are.are_stored
      ∙ ap (λ levels. written_listing (storages_of p es) g levels) (sym (length-map p.result.order _))

  -- what its writers leave is in range
  pub written-in-range : InRange (length p.result.order) (written_listing stored g (length p.result.order))
  written-in-range =
      subst (λ w. InRange (length p.result.order) w) (sym same)
      (subst (λ levels. InRange levels (written_of p g es)) (length-map p.result.order _) carries.written_in_range)

  -- it is the tensor that the program denotes
  pub written-tensor : listing (written_listing stored g (length p.result.order)) ≡ result_entries p es
  written-tensor = ap listing same ∙ carries.written_tensor

  -- its coordinates are below the sizes of the result
  pub written-within :
      list_all (λ entry. within (items_at p.result.dims p.result.order) entry.0) (listing (written_listing stored g (length p.result.order)))
      ≡ true
  written-within = ap (list_all (λ entry. within (result_sizes p) entry.0)) written-tensor ∙ entries_within p es

  -- it is what is found of the statement
  pub written-found : accepted p ≡ true → listing (written_listing stored g (length p.result.order)) ≡ found_entries p es
  written-found is_accepted = written-tensor ∙ terms-tell p es is_accepted

  pub written-is-of : IsOf p.result (written_listing stored g (length p.result.order))
  written-is-of = record { in_range = written-in-range; below = written-within }
