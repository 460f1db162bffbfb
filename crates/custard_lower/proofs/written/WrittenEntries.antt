-- Written arrays that list the result of a program: those of a tree whose full prefixes are its pattern, and a single value.
use Rattle.std.specs.Prelude.{◌≡◌, ◌<◌, ℕ, suc, Bool, true, false, cond, List, [], ◌∷◌, length, Some, None, refl}
use Rattle.std.specs.List.{filter, range_with_len}
use mathlib.Core.List.{map}
use Rattle.std.proofs.Common.{arith, sym, ◌∙◌, ap, subst}
use Rattle.std.proofs.lemmas.List.{nil_from_length}
use Rattle.sam_model.specs.declared.tensors.Entries.{Entries}
use Rattle.sam_model.specs.declared.tensors.Written.{Written}
use Rattle.sam_model.specs.declared.program.Program.{Program}
use Rattle.sam_model.specs.Lists.{tuples}
use Rattle.sam_model.specs.Denote.{den, pat, result_entries}
use Rattle.sam_model.specs.Listing.{InRange, listing}
use Rattle.stream_tokens.specs.declared.Token.{Token}
use Rattle.stream_tokens.specs.declared.Token.TheVariants.{Done}
use Rattle.stream_tokens.specs.Nest.{Leaf, leaf}
use Rattle.stream_tokens.proofs.Algebra.{map-map}
use Rattle.block_core.specs.Written.{items_in, numbers_among, segs_of, crds_of, vals_of}
use Rattle.stream_model.specs.declared.labels.Attr.TheVariants.{Value}
use Rattle.stream_model.specs.Labels.{Shape, result_sizes, stream_at, fibers_at}
use Rattle.stream_model.proofs.Flat.{in_order}
use Rattle.custard_lower.proofs.written.WrittenLevels.{levels-in-turn, prefixes_at, level_ends, level_coordinates, tree_written, tree-range, tree-listing}
use Rattle.custard_lower.proofs.written.WrittenStreams.{numbers-of-all, values-listed}

-- the arrays are in range for r levels, and list the entries of the program's result
abbrev pub ListsResult : Program → List Entries → ℕ → Written → Type 0
ListsResult p es r w = InRange r w × (listing w ≡ result_entries p es)

-- ---- some level

-- what the writers leave of a stream of coordinates for each of r levels, counted from 1, with these values
abbrev pub streams_written : (ℕ → List Token) → ℕ → List ℕ → Written
streams_written coordinates r vals = record {
  segs = map (λ k. segs_of k (coordinates k)) (range_with_len 1 r);
  crds = map (λ k. crds_of (coordinates k)) (range_with_len 1 r);
  vals = vals;
}

same_arrays : (s s' c c' : List (List ℕ)) (v v' : List ℕ) → s ≡ s' → c ≡ c' → v ≡ v'
    → ◌≡◌ {A = Written} (record { segs = s; crds = c; vals = v }) (record { segs = s'; crds = c'; vals = v' })
same_arrays s s' c c' v v' e h k = rw (e, h, k) refl

-- where each stream has the ends and coordinates of a level of a tree, these are the arrays of the tree
pub streams-tree : (ok : List ℕ → Bool) (sizes : List ℕ) (coordinates : ℕ → List Token) (r : ℕ) (vals : List ℕ)
    (value : List ℕ → ℕ)
    → ((j : ℕ) → j < r → segs_of (suc j) (coordinates (suc j)) ≡ level_ends ok sizes j)
    → ((j : ℕ) → j < r → crds_of (coordinates (suc j)) ≡ level_coordinates ok sizes j)
    → vals ≡ map value (prefixes_at ok sizes r)
    → streams_written coordinates r vals ≡ tree_written ok sizes r value
streams-tree ok sizes coordinates r vals value ends last_ones v =
    same_arrays _ _ _ _ _ _
    (levels-in-turn (λ k. segs_of k (coordinates k)) (level_ends ok sizes) 0 r r (omega arith) ends)
    (levels-in-turn (λ k. crds_of (coordinates k)) (level_coordinates ok sizes) 0 r r (omega arith) last_ones)
    v

-- where the values of a tree, in order, are the numbers of the result's entries, those that are written are what the program
-- denotes over its pattern
pub entries-values : (p : Program) (es : List Entries) (s : Shape)
    → in_order (fibers_at s Value) ≡ map (λ entry. Some entry.1) (result_entries p es)
    → vals_of (stream_at s Value) ≡ map (den p es) (filter (pat p es) (tuples (result_sizes p)))
entries-values p es s e =
    values-listed s
    ∙ ap numbers_among e
    ∙ numbers-of-all (λ (entry : List ℕ × ℕ). entry.1) (result_entries p es)
    ∙ map-map (λ (entry : List ℕ × ℕ). entry.1) (λ x. (x, den p es x)) (filter (pat p es) (tuples (result_sizes p)))

-- the arrays of a tree list the result, where its prefixes of length r are the pattern and the values are the numbers that the
-- program denotes
pub tree-entries : (p : Program) (es : List Entries) (ok : List ℕ → Bool) (sizes : List ℕ) (r : ℕ) → 0 < r
    → prefixes_at ok sizes r ≡ filter (pat p es) (tuples (result_sizes p))
    → ListsResult p es r (tree_written ok sizes r (den p es))
tree-entries p es ok sizes r h e = (
  tree-range ok sizes r (den p es) h,
  tree-listing ok sizes r (den p es) ∙ ap (map (λ x. (x, den p es x))) e,
)

-- ---- no level

-- what the writers leave of a stream that is one leaf
abbrev pub leaf_written : Leaf → Written
leaf_written value = record { segs = []; crds = []; vals = items_in (leaf value ∷ Done ∷ []) }

leaf_listed : (there : Bool) (value : List ℕ → ℕ)
    → let w : Written = leaf_written (cond there (Some (value [])) None) in
    InRange 0 w × (listing w ≡ map (λ x. (x, value x)) (cond there ([] ∷ []) []))
leaf_listed true value = (record { segs = refl; crds = refl; levels = tt; vals = omega arith }, refl)
leaf_listed false value = (record { segs = refl; crds = refl; levels = tt; vals = omega arith }, refl)

-- a result without levels is listed, where the leaf is the number that the program denotes if the pattern has it
pub leaf-entries : (p : Program) (es : List Entries) (value : Leaf) → length (result_sizes p) ≡ 0
    → value ≡ cond (pat p es []) (Some (den p es [])) None
    → ListsResult p es 0 (leaf_written value)
leaf-entries p es value e v =
    let listed = leaf_listed (pat p es []) (den p es) in
    subst (λ (o : Leaf). ListsResult p es 0 (leaf_written o)) (sym v) (
      listed.0,
      listed.1
          ∙ ap (λ (sizes : List ℕ). map (λ x. (x, den p es x)) (filter (pat p es) (tuples sizes)))
          (sym (nil_from_length (result_sizes p) e)),
    )
