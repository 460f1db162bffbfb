-- The loops of a term, from the innermost outwards: those that have been passed, of which the ones that aren't on the left
-- are gone, and the levels of the tree that is left.
use Rattle.std.specs.Prelude.{◌≡◌, ◌<◌, ◌≤◌, ℕ, suc, ◌+◌, true, false, List, [], ◌∷◌, ◌++◌, length, slice_index, refl}
use Rattle.std.proofs.Common.{arith, sym, ◌∙◌, ap, append-nil, length-append}
use Rattle.std.proofs.lemmas.List.{length-map, get_or-append-add}
use Rattle.sam_model.specs.Denote.{Loop}
use Rattle.stream_model.specs.Terms.{TermData}
use Rattle.stream_model.specs.Trees.{free_count, kept_loops, kept_sizes, reduced_sizes}
use Rattle.stream_model.specs.Labels.{loop_sizes}
use Rattle.stream_model.specs.Reduction.{Reduces}
use Rattle.stream_model.proofs.TermLaw.{kept-none}
use Rattle.stream_model.proofs.Reduced.{all_kept, kept-front, kept-before, kept-all}

-- ---- the loops that have been passed

-- The loops of a term in two parts: those after have been passed, and g of them, which aren't on the left, are gone.
pub record Passed (t : TermData) (before after : List Loop) (g : ℕ) : Type 0 where
  pub loops_are : t.loops ≡ before ++ after
  pub gone : free_count after ≡ g
  pub few : length t.loops < 9

-- and then it has been passed, and one more is gone
pub reduced-passed : (t : TermData) (before : List Loop) (s : ℕ) (after : List Loop) (g : ℕ) → Reduces t before s after g
    → Passed t before ((s, false) ∷ after) (suc g)
reduced-passed t before s after g r = record { loops_are = r.loops_are; gone = ap suc r.gone; few = r.few }

-- ---- the sizes of the levels

-- the sizes of loops that are all kept, before others
pub sizes-kept : (front rest : List Loop) → kept_sizes (all_kept front ++ rest) ≡ loop_sizes front ++ kept_sizes rest
sizes-kept [] rest = refl
sizes-kept (l ∷ front) rest = ap (λ (xs : List ℕ). l.0 ∷ xs) (sizes-kept front rest)

-- the levels that are left are the loops before, and those after that are on the left
pub sizes-passed : (t : TermData) (before after : List Loop) (g : ℕ) → Passed t before after g
    → reduced_sizes t g ≡ loop_sizes before ++ kept_sizes after
sizes-passed t before after g h =
    ap (λ (ls : List Loop). kept_sizes (kept_loops g ls)) h.loops_are
    ∙ ap kept_sizes (kept-front g before after (omega (arith, h.gone))
    ∙ ap (λ (ls : List Loop). all_kept before ++ ls) (kept-none g after (omega (arith, h.gone))))
    ∙ sizes-kept before after

-- the loop that is reduced next is a level
pub sizes-before : (t : TermData) (before : List Loop) (s : ℕ) (after : List Loop) (g : ℕ) → Reduces t before s after g
    → reduced_sizes t g ≡ loop_sizes before ++ s ∷ kept_sizes after
sizes-before t before s after g r = ap kept_sizes (kept-before t before s after g r) ∙ sizes-kept before ((s, true) ∷ after)

-- and is none any more, once it has been reduced
pub sizes-after : (t : TermData) (before : List Loop) (s : ℕ) (after : List Loop) (g : ℕ) → Reduces t before s after g
    → reduced_sizes t (suc g) ≡ loop_sizes before ++ kept_sizes after
sizes-after t before s after g r = sizes-passed t before ((s, false) ∷ after) (suc g) (reduced-passed t before s after g r)

-- where no loop is gone, each is a level
pub sizes-whole : (t : TermData) → reduced_sizes t 0 ≡ loop_sizes t.loops
sizes-whole t = ap kept_sizes (kept-all t.loops) ∙ sizes-kept t.loops [] ∙ append-nil (loop_sizes t.loops)

-- ---- how many levels there are

length_sizes : (loops : List Loop) → length (loop_sizes loops) ≡ length loops
length_sizes loops = length-map loops (λ l. l.0)

-- the loops before, and those after that are on the left
pub levels-passed : (t : TermData) (before after : List Loop) (g : ℕ) → Passed t before after g
    → length (reduced_sizes t g) ≡ length before + length (kept_sizes after)
levels-passed t before after g h =
    ap (λ (xs : List ℕ). length xs) (sizes-passed t before after g h) ∙ length-append (loop_sizes before) (kept_sizes after)
    ∙ ap (λ (n : ℕ). n + length (kept_sizes after)) (length_sizes before)

-- before a loop is reduced it is a level, beneath those of the loops before it
pub levels-before : (t : TermData) (before : List Loop) (s : ℕ) (after : List Loop) (g : ℕ) → Reduces t before s after g
    → length (reduced_sizes t g) ≡ length before + 1 + length (kept_sizes after)
levels-before t before s after g r =
    let e : length (reduced_sizes t g) ≡ length (loop_sizes before ++ s ∷ kept_sizes after) =
    ap (λ (xs : List ℕ). length xs) (sizes-before t before s after g r) in
    omega (arith, e, length-append (loop_sizes before) (s ∷ kept_sizes after), length_sizes before)

-- and afterwards it is none
pub levels-after : (t : TermData) (before : List Loop) (s : ℕ) (after : List Loop) (g : ℕ) → Reduces t before s after g
    → length (reduced_sizes t (suc g)) ≡ length before + length (kept_sizes after)
levels-after t before s after g r = levels-passed t before ((s, false) ∷ after) (suc g) (reduced-passed t before s after g r)

-- where no loop is gone, as many as there are loops
pub levels-whole : (t : TermData) → length (reduced_sizes t 0) ≡ length t.loops
levels-whole t = ap (λ (xs : List ℕ). length xs) (sizes-whole t) ∙ length_sizes t.loops

kept_few : (loops : List Loop) → length (kept_sizes loops) ≤ length loops
kept_few [] = omega arith
kept_few ((s, true) ∷ loops) = let h = kept_few loops in omega (arith, h)
kept_few ((s, false) ∷ loops) = let h = kept_few loops in omega (arith, h)

kept_length : (g : ℕ) (loops : List Loop) → length (kept_loops g loops) ≡ length loops
kept_length g [] = refl
kept_length g (l ∷ loops) = ap suc (kept_length g loops)

-- there are at most as many levels as loops
pub levels-few : (t : TermData) (g : ℕ) → length (reduced_sizes t g) ≤ length t.loops
levels-few t g = let h = kept_few (kept_loops g t.loops) in omega (arith, h, kept_length g t.loops)

-- the levels while a loop is reduced
pub levels-reduced : (t : TermData) (before : List Loop) (s : ℕ) (after : List Loop) (g : ℕ) → Reduces t before s after g
    → length before + 1 + length (kept_sizes after) < 9
levels-reduced t before s after g r = omega (arith, levels-before t before s after g r, levels-few t g, r.few)

-- ---- the size of a level

-- the loop that is reduced is the level after those before it
pub size-reduced : (t : TermData) (before : List Loop) (s : ℕ) (after : List Loop) (g : ℕ) → Reduces t before s after g
    → (p : List ℕ) → length p ≡ length before → slice_index (reduced_sizes t g) (length p) ≡ s
size-reduced t before s after g r p h =
    ap (λ (xs : List ℕ). slice_index xs (length p)) (sizes-before t before s after g r)
    ∙ ap (slice_index (loop_sizes before ++ s ∷ kept_sizes after)) e
    ∙ get_or-append-add (loop_sizes before) (s ∷ kept_sizes after) 0 0
  where
    e : length p ≡ length (loop_sizes before) + 0
    e = omega (arith, h, length_sizes before)

-- beneath it each level keeps its size
pub size-beneath : (t : TermData) (before : List Loop) (s : ℕ) (after : List Loop) (g : ℕ) → Reduces t before s after g
    → (p : List ℕ) (c : ℕ) (q : List ℕ) → length p ≡ length before
    → slice_index (reduced_sizes t g) (length (p ++ c ∷ q)) ≡ slice_index (reduced_sizes t (suc g)) (length (p ++ q))
size-beneath t before s after g r p c q h =
    ap (λ (xs : List ℕ). slice_index xs (length (p ++ c ∷ q))) (sizes-before t before s after g r)
    ∙ ap (slice_index (loop_sizes before ++ s ∷ kept_sizes after)) here
    ∙ get_or-append-add (loop_sizes before) (s ∷ kept_sizes after) (suc (length q)) 0
    ∙ sym
    (ap (λ (xs : List ℕ). slice_index xs (length (p ++ q))) (sizes-after t before s after g r)
    ∙ ap (slice_index (loop_sizes before ++ kept_sizes after)) there
    ∙ get_or-append-add (loop_sizes before) (kept_sizes after) (length q) 0)
  where
    here : length (p ++ c ∷ q) ≡ length (loop_sizes before) + suc (length q)
    here = omega (arith, h, length_sizes before, length-append p (c ∷ q))

    there : length (p ++ q) ≡ length (loop_sizes before) + length q
    there = omega (arith, h, length_sizes before, length-append p q)
