-- The trees of one term: its product trees, and these without loops that are reduced and without what has no value.
use Rattle.std.specs.Prelude.{ℕ, zero, suc, ◌+◌, ◌%◌, ◌^◌, Bool, true, false, cond, ◌&&◌, ◌||◌, not, List, [], ◌∷◌, ◌++◌, length, drop, get_or, eqb, ltb, leb, Some, None, is_some}
use Rattle.std.specs.List.{list_any, list_all}
use mathlib.Core.List.{map}
use Rattle.stream_tokens.specs.Nest.{Leaf}
use Rattle.sam_model.specs.Lists.{tuples}
use Rattle.sam_model.specs.Tensors.{is_stored}
use Rattle.sam_model.specs.Denote.{Loop, fill}
use Rattle.stream_model.specs.Terms.{Operand, TermData, restricted, whole_product}

-- ---- product trees

-- an access lets c follow u where it lacks the loop, or where its coordinates are then stored
abbrev pub admits : Operand → List ℕ → ℕ → Bool
admits a u c = not (get_or a.has (length u) false) || is_stored a.tensor (restricted a (u ++ c ∷ []))

-- the accesses of a mask let c follow u
abbrev pub all_admit : List Bool → List Operand → List ℕ → ℕ → Bool
all_admit [] accesses u c = true
all_admit (b ∷ mask) [] u c = true
all_admit (b ∷ mask) (a ∷ accesses) u c = (not b || admits a u c) && all_admit mask accesses u c

abbrev pub everyone : List Operand → List Bool
everyone accesses = map (λ _. true) accesses

-- each coordinate of p may follow those before it, after u; ask says which accesses are asked after so many
abbrev pub grows : List Operand → (ℕ → List Bool) → List ℕ → List ℕ → Bool
grows accesses ask u [] = true
grows accesses ask u (c ∷ p) = all_admit (ask (length u)) accesses u c && grows accesses ask (u ++ c ∷ []) p

-- at the level the accesses of the mask, and before it all
abbrev pub asked_at : List Operand → ℕ → List Bool → ℕ → List Bool
asked_at accesses level mask n = cond (eqb (suc n) level) mask (everyone accesses)

abbrev pub in_product : TermData → ℕ → List Bool → List ℕ → Bool
in_product t level mask p = grows t.accesses (asked_at t.accesses level mask) [] p

-- all accesses are asked at every level
abbrev pub in_whole : TermData → List ℕ → Bool
in_whole t p = grows t.accesses (λ _. everyone t.accesses) [] p

-- the coordinates of every access are stored at u
abbrev pub all_stored : TermData → List ℕ → Bool
all_stored t u = list_all (λ a. is_stored a.tensor (restricted a u)) t.accesses

-- ---- reduced trees

-- the loops that aren't on the left
abbrev pub free_count : List Loop → ℕ
free_count [] = 0
free_count (l ∷ loops) = cond l.1 (free_count loops) (suc (free_count loops))

-- the innermost g of them taken away: the loops that are kept are marked as those on the left are
abbrev pub kept_loops : ℕ → List Loop → List Loop
kept_loops g [] = []
kept_loops g (l ∷ loops) = (l.0, l.1 || leb g (free_count loops)) ∷ kept_loops g loops

-- the sizes of the marked loops
abbrev pub kept_sizes : List Loop → List ℕ
kept_sizes [] = []
kept_sizes (l ∷ loops) = cond l.1 (l.0 ∷ kept_sizes loops) (kept_sizes loops)

-- the loops up to the k-th marked one
abbrev pub until : ℕ → List Loop → List Loop
until zero loops = []
until (suc k) [] = []
until (suc k) ((s, true) ∷ loops) = (s, true) ∷ until k loops
until (suc k) ((s, false) ∷ loops) = (s, false) ∷ until (suc k) loops

-- the sum modulo 2^64 of those there are
abbrev pub plus_there : Leaf → Leaf → Leaf
plus_there None b = b
plus_there (Some a) None = Some a
plus_there (Some a) (Some b) = Some ((a + b) % 2 ^ 64)

abbrev pub sum_there : List Leaf → Leaf
sum_there [] = None
sum_there (o ∷ os) = plus_there o (sum_there os)

-- p has the kept coordinates of some prefix of the product tree
abbrev pub in_reduced : TermData → ℕ → List ℕ → Bool
in_reduced t g p = list_any (in_whole t) (fill (until (length p) (kept_loops g t.loops)) p)

abbrev pub value_whole : TermData → List ℕ → Leaf
value_whole t u = cond (in_whole t u) (Some (whole_product t u)) None

-- the sum over all tuples of the product tree that have these coordinates
abbrev pub value_reduced : TermData → ℕ → List ℕ → Leaf
value_reduced t g p = sum_there (map (value_whole t) (fill (kept_loops g t.loops) p))

-- ---- pruned trees

-- p begins a full list that has a value
abbrev pub begins_value : (List ℕ → Leaf) → List ℕ → List ℕ → Bool
begins_value value sizes p = list_any (λ rest. is_some (value (p ++ rest))) (tuples (drop (length p) sizes))

abbrev pub reduced_sizes : TermData → ℕ → List ℕ
reduced_sizes t g = kept_sizes (kept_loops g t.loops)

-- a prefix of length f or more stays only where it begins a value
abbrev pub pruned_from : (List ℕ → Bool) → (List ℕ → Leaf) → List ℕ → ℕ → List ℕ → Bool
pruned_from has value sizes f p = has p && (ltb (length p) f || begins_value value sizes p)

abbrev pub in_pruned : TermData → ℕ → ℕ → List ℕ → Bool
in_pruned t g f p = pruned_from (in_reduced t g) (value_reduced t g) (reduced_sizes t g) f p

-- ---- all loops that aren't on the left taken away

abbrev pub in_term : TermData → List ℕ → Bool
in_term t p = in_pruned t (free_count t.loops) 1 p

abbrev pub value_term : TermData → List ℕ → Leaf
value_term t p = value_reduced t (free_count t.loops) p
