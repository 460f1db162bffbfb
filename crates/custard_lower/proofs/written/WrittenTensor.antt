-- What the writers leave of the streams of a program's only term is its result.
use Rattle.std.specs.Prelude.{◌≡◌, ◌<◌, ◌≤◌, ℕ, suc, Bool, true, List, [], ◌∷◌, length, refl}
use Rattle.std.specs.List.{filter, range_with_len}
use mathlib.Core.List.{map}
use Rattle.std.proofs.Common.{arith, sym, ◌∙◌, ap, subst, ◌⊎◌, inl, inr}
use Rattle.std.proofs.lemmas.Bool.{cases_lt}
use Rattle.sam_model.specs.declared.tensors.Entries.{Entries}
use Rattle.sam_model.specs.declared.tensors.Written.{Written}
use Rattle.sam_model.specs.declared.program.Term.{Term}
use Rattle.sam_model.specs.declared.program.Program.{Program}
use Rattle.sam_model.specs.Lists.{tuples}
use Rattle.sam_model.specs.Denote.{loop_list, den, pat, result_entries}
use Rattle.sam_model.specs.Program.{accepted}
use Rattle.sam_model.specs.Listing.{InRange, listing}
use Rattle.stream_tokens.specs.declared.Token.{Token}
use Rattle.stream_tokens.specs.Shapes.{on_tokens}
use Rattle.block_core.specs.Written.{segs_of, crds_of, vals_of}
use Rattle.stream_model.specs.declared.labels.Attr.TheVariants.{Coordinate, Value}
use Rattle.stream_model.specs.Grow.{path_fibers}
use Rattle.stream_model.specs.Terms.{TermData, term_data, summands_of}
use Rattle.stream_model.specs.Trees.{free_count, reduced_sizes, in_reduced, in_pruned, value_reduced, value_term}
use Rattle.stream_model.proofs.Reduced.{reduced-closed, value-begins}
use Rattle.stream_model.specs.Labels.{reduced_shape, result_sizes, stream_at}
use Rattle.stream_model.proofs.Denoted.{term-denotes}
use Rattle.stream_model.proofs.Flat.{in_order}
use Rattle.stream_model.proofs.Results.{EachSized, accepted-sized, term-paths, term-values}
use Rattle.custard_lower.proofs.written.WrittenLevels.{prefixes_at, level_ends, level_coordinates, tree_written}
use Rattle.custard_lower.proofs.written.WrittenEntries.{ListsResult, streams-tree, entries-values, tree-entries, leaf-entries}
use Rattle.custard_lower.proofs.written.WrittenPruned.{pruned-ends, pruned-coordinates}

-- the tree of a term without so many loops that is pruned from the first level on
abbrev pub pruned_tree : TermData → ℕ → List ℕ → Bool
pruned_tree d g p = in_pruned d g 1 p

-- each of r levels, counted from 1, is pruned from its own level on or earlier
abbrev pub PrunedInTime : ℕ → (ℕ → ℕ) → Type 0
PrunedInTime r prune = (k : ℕ) → 0 < k → k ≤ r → (0 < prune k) × (prune k ≤ k)

-- and so is the tree of the values; where there is no level, nothing is asked
abbrev pub ValuesInTime : ℕ → ℕ → Type 0
ValuesInTime r f = 0 < r → (0 < f) × (f ≤ r)

-- what the writers leave of the streams of a term without its free loops, whose level k is pruned from level prune k on, and
-- whose values are pruned from level f on
abbrev pub pruned_written : TermData → ℕ → ℕ → (ℕ → ℕ) → ℕ → Written
pruned_written d g r prune f = record {
  segs = map (λ k. segs_of k (stream_at (reduced_shape d g (prune k) k) Coordinate)) (range_with_len 1 r);
  crds = map (λ k. crds_of (stream_at (reduced_shape d g (prune k) k) Coordinate)) (range_with_len 1 r);
  vals = vals_of (stream_at (reduced_shape d g f r) Value);
}

-- its levels are those of the tree that is pruned from the first level on
pub pruned-levels : (d : TermData) (g r : ℕ) (prune : ℕ → ℕ) (f : ℕ) (value : List ℕ → ℕ) → r ≡ length (reduced_sizes d g)
    → PrunedInTime r prune
    → vals_of (stream_at (reduced_shape d g f r) Value) ≡ map value (prefixes_at (pruned_tree d g) (reduced_sizes d g) r)
    → pruned_written d g r prune f ≡ tree_written (pruned_tree d g) (reduced_sizes d g) r value
pruned-levels d g r prune f value e h v =
    streams-tree (pruned_tree d g) (reduced_sizes d g) coordinates r (vals_of (stream_at (reduced_shape d g f r) Value)) value
    ends last_ones v
  where
    coordinates : ℕ → List Token
    coordinates k = stream_at (reduced_shape d g (prune k) k) Coordinate

    ends : (j : ℕ) → j < r → segs_of (suc j) (coordinates (suc j)) ≡ level_ends (pruned_tree d g) (reduced_sizes d g) j
    ends j less =
        let in_time = h (suc j) (omega arith) less in
        pruned-ends (in_reduced d g) (value_reduced d g) (reduced_sizes d g) refl (λ q r l. value-begins d g q r)
        (λ q c l. reduced-closed d g q (c ∷ [])) (prune (suc j)) j in_time.0 in_time.1 (omega (arith, e, less))

    last_ones : (j : ℕ) → j < r → crds_of (coordinates (suc j)) ≡ level_coordinates (pruned_tree d g) (reduced_sizes d g) j
    last_ones j less =
        let in_time = h (suc j) (omega arith) less in
        pruned-coordinates (in_reduced d g) (value_reduced d g) (reduced_sizes d g) refl (λ q r l. value-begins d g q r)
        (λ q c l. reduced-closed d g q (c ∷ [])) (prune (suc j)) j in_time.0 in_time.1 (omega (arith, e, less))

-- a program whose only term is t
module _ (p : Program) (es : List Entries) (t : Term)
    (holds : accepted p ≡ true) (given : length es ≡ length p.tensors) (only : p.terms ≡ t ∷ []) where
  abbrev d : TermData
  d = term_data p es true t

  abbrev gone : ℕ
  gone = free_count (loop_list p t)

  abbrev levels : ℕ
  levels = length (result_sizes p)

  same_sizes : reduced_sizes d gone ≡ result_sizes p
  same_sizes = (subst (λ ts. EachSized (result_sizes p) (summands_of p es ts)) only (accepted-sized p es holds)).0

  -- the full prefixes of its tree are the pattern
  full_prefixes : 0 < levels
      → prefixes_at (pruned_tree d gone) (reduced_sizes d gone) levels ≡ filter (pat p es) (tuples (result_sizes p))
  full_prefixes h =
      ap (λ (sizes : List ℕ). prefixes_at (pruned_tree d gone) sizes levels) same_sizes
      ∙ term-paths p es t 1 holds given only (omega arith) h

  -- and the values that are written are the numbers that the program denotes there
  full_values : (f : ℕ) → 0 < f → f ≤ levels
      → vals_of (stream_at (reduced_shape d gone f levels) Value)
      ≡ map (den p es) (prefixes_at (pruned_tree d gone) (reduced_sizes d gone) levels)
  full_values f h k =
      entries-values p es (reduced_shape d gone f levels)
      (ap (λ (sizes : List ℕ). in_order (on_tokens (value_term d) (path_fibers (in_pruned d gone f) sizes levels))) same_sizes
      ∙ term-values p es t f holds given only h k)
      ∙ ap (map (den p es)) (sym (full_prefixes (omega (arith, h, k))))

  -- so some levels list the result
  some_level : (prune : ℕ → ℕ) (f : ℕ) → 0 < levels → PrunedInTime levels prune → ValuesInTime levels f
      → ListsResult p es levels (pruned_written d gone levels prune f)
  some_level prune f l h k =
      let tree : List ℕ → Bool = pruned_tree d gone in
      let sizes : List ℕ = reduced_sizes d gone in
      let same : pruned_written d gone levels prune f ≡ tree_written tree sizes levels (den p es) =
      pruned-levels d gone levels prune f (den p es) (ap (λ (xs : List ℕ). length xs) (sym same_sizes)) h
      (full_values f (k l).0 (k l).1) in
      subst (ListsResult p es levels) (sym same) (tree-entries p es tree sizes levels l (full_prefixes l))

  -- with no level the value is there where the pattern is
  no_level : (prune : ℕ → ℕ) (f : ℕ) → levels ≡ 0 → ListsResult p es 0 (pruned_written d gone 0 prune f)
  no_level prune f e = leaf-entries p es (value_term d []) e (term-denotes p es t [] holds given only)

  -- the arrays that the writers leave of the streams of the term are in range, and list the entries of the result
  pub written-tensor : (prune : ℕ → ℕ) (f : ℕ) → PrunedInTime (length (result_sizes p)) prune
      → ValuesInTime (length (result_sizes p)) f
      → let w : Written = pruned_written (term_data p es true t) (free_count (loop_list p t)) (length (result_sizes p)) prune f in
      InRange (length (result_sizes p)) w × (listing w ≡ result_entries p es)
  written-tensor prune f h k = by_case (cases_lt 0 levels)
    where
      by_case : (0 < levels) ⊎ (levels ≤ 0) → ListsResult p es levels (pruned_written d gone levels prune f)
      by_case (inl some) = some_level prune f some h k
      by_case (inr none) =
          let zero_levels : levels ≡ 0 = omega arith in
          subst (λ (r : ℕ). ListsResult p es r (pruned_written d gone r prune f)) (sym zero_levels) (no_level prune f zero_levels)
