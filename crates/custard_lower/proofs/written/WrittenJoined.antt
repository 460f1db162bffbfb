-- What the writers leave of the streams of the join of all terms of a program is its result.
use Rattle.std.specs.Prelude.{◌≡◌, ◌<◌, ◌≤◌, ℕ, zero, suc, true, List, [], ◌∷◌, ◌++◌, length, slice_index, refl}
use Rattle.std.specs.List.{filter, list_any, range_with_len}
use mathlib.Core.List.{map}
use Rattle.std.proofs.Common.{arith, sym, ◌∙◌, ap, subst, ◌⊎◌, inl, inr}
use Rattle.std.proofs.lemmas.Bool.{cases_lt}
use Rattle.sam_model.specs.declared.tensors.Entries.{Entries}
use Rattle.sam_model.specs.declared.tensors.Written.{Written}
use Rattle.sam_model.specs.declared.program.Program.{Program}
use Rattle.sam_model.specs.Lists.{below, tuples}
use Rattle.sam_model.specs.Denote.{den, pat, result_entries}
use Rattle.sam_model.specs.Program.{accepted}
use Rattle.sam_model.specs.Listing.{InRange, listing}
use Rattle.block_core.specs.Written.{segs_of, crds_of, vals_of}
use Rattle.stream_model.specs.declared.labels.Attr.TheVariants.{Coordinate, Value}
use Rattle.stream_model.specs.Terms.{Summand, summands}
use Rattle.stream_model.specs.Joins.{Part, join_of, join_upto}
use Rattle.stream_model.specs.Labels.{joined_shape, result_sizes, stream_at}
use Rattle.stream_model.proofs.Denoted.{join-denotes}
use Rattle.stream_model.proofs.Sides.{joined-all}
use Rattle.stream_model.proofs.Results.{accepted-sized, length-summands, result-paths, result-values}
use Rattle.stream_model.proofs.Fills.{join-goes-on}
use Rattle.label_rules.proofs.laws.JoinSides.{joined-root}
use Rattle.custard_lower.proofs.written.WrittenLevels.{prefixes_at, level_ends, tree_written}
use Rattle.custard_lower.proofs.written.WrittenStreams.{coordinates-listed, GoesOn, first-ends, full-ends}
use Rattle.custard_lower.proofs.written.WrittenEntries.{ListsResult, streams-tree, entries-values, tree-entries, leaf-entries}

-- ---- the join of all terms

-- what the writers leave of the streams of the terms up to number last, joined, where the result has r levels
abbrev pub joined_written : List ℕ → List Summand → ℕ → ℕ → Written
joined_written sizes ss last r = record {
  segs = map (λ k. segs_of k (stream_at (joined_shape sizes ss last k) Coordinate)) (range_with_len 1 r);
  crds = map (λ k. crds_of (stream_at (joined_shape sizes ss last k) Coordinate)) (range_with_len 1 r);
  vals = vals_of (stream_at (joined_shape sizes ss last r) Value);
}

-- a program whose last term is number n
module _ (p : Program) (es : List Entries) (n : ℕ)
    (holds : accepted p ≡ true) (given : length es ≡ length p.tensors) (all : suc n ≡ length p.terms) where
  abbrev sizes : List ℕ
  sizes = result_sizes p

  abbrev levels : ℕ
  levels = length (result_sizes p)

  abbrev ss : List Summand
  ss = summands p es

  -- the join of all terms
  abbrev join : Part
  join = join_upto ss n

  same_count : suc n ≡ length ss
  same_count = all ∙ sym (length-summands p es p.terms)

  same_join : join ≡ join_of ss
  same_join = joined-all ss n same_count

  goes_on : (d : ℕ) → 0 < d → d < levels → GoesOn join.has sizes d
  goes_on d h k x i =
      subst (λ (part : Part). part.has x ≡ true
      → list_any (λ c. part.has (x ++ c ∷ [])) (below (slice_index sizes (length x))) ≡ true) (sym same_join)
      (join-goes-on sizes ss (accepted-sized p es holds) x (omega (arith, i.count, h)) (omega (arith, i.count, k))) i.passes

  -- the ends that are written of its streams are those of its tree
  joined_ends : (k : ℕ) → k < levels
      → segs_of (suc k) (stream_at (joined_shape sizes ss n (suc k)) Coordinate) ≡ level_ends join.has sizes k
  joined_ends zero h = first-ends (joined_shape sizes ss n 1) refl
  joined_ends (suc k) h =
      full-ends (joined_shape sizes ss n (suc (suc k))) k refl (joined-root ss n (omega (arith, same_count)))
      (goes_on (suc k) (omega arith) h)

  -- the full prefixes of its tree are the pattern
  pub joined-prefixes : 0 < levels → prefixes_at join.has sizes levels ≡ filter (pat p es) (tuples sizes)
  joined-prefixes h =
      ap (λ (part : Part). prefixes_at part.has sizes levels) same_join
      ∙ result-paths p es holds given (omega (arith, all)) h

  -- and the values that are written are the numbers that the program denotes there
  pub joined-values : 0 < levels
      → vals_of (stream_at (joined_shape sizes ss n levels) Value) ≡ map (den p es) (prefixes_at join.has sizes levels)
  joined-values h =
      entries-values p es (joined_shape sizes ss n levels) (result-values p es n holds given all h)
      ∙ ap (map (den p es)) (sym (joined-prefixes h))

  -- so some levels list the result
  some_level : 0 < levels → ListsResult p es levels (joined_written sizes ss n levels)
  some_level h =
      let same : joined_written sizes ss n levels ≡ tree_written join.has sizes levels (den p es) =
      streams-tree join.has sizes (λ k. stream_at (joined_shape sizes ss n k) Coordinate) levels
      (vals_of (stream_at (joined_shape sizes ss n levels) Value)) (den p es) joined_ends
      (λ k less. coordinates-listed (joined_shape sizes ss n (suc k))) (joined-values h)
      in
      subst (ListsResult p es levels) (sym same) (tree-entries p es join.has sizes levels h (joined-prefixes h))

  -- with no level the value is there where the pattern is
  no_level : levels ≡ 0 → ListsResult p es 0 (joined_written sizes ss n 0)
  no_level e =
      leaf-entries p es (join.value []) e (ap (λ (part : Part). part.value []) same_join ∙ join-denotes p es [] holds given)

  -- the arrays that the writers leave of the streams of all terms, joined, are in range, and list the entries of the result
  pub joined-tensor : let w : Written = joined_written (result_sizes p) (summands p es) n (length (result_sizes p)) in
      InRange (length (result_sizes p)) w × (listing w ≡ result_entries p es)
  joined-tensor = by_case (cases_lt 0 levels)
    where
      by_case : (0 < levels) ⊎ (levels ≤ 0) → ListsResult p es levels (joined_written sizes ss n levels)
      by_case (inl some) = some_level some
      by_case (inr none) =
          let zero_levels : levels ≡ 0 = omega arith in
          subst (λ (r : ℕ). ListsResult p es r (joined_written sizes ss n r)) (sym zero_levels) (no_level zero_levels)
