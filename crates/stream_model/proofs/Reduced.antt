-- Reduced trees: a reduced loop is summed over, and the levels above the first one are those of the product tree.
use Rattle.std.specs.Prelude.{◌≡◌, ◌<◌, ◌≤◌, ℕ, zero, suc, Bool, true, false, cond, ◌||◌, List, [], ◌∷◌, ◌++◌, length, slice_index, leb, Some, None, is_some, refl}
use Rattle.std.specs.List.{filter, list_any}
use mathlib.Core.List.{map}
use Rattle.std.proofs.Common.{arith, sym, ◌∙◌, ap, append-nil}
use Rattle.std.proofs.lemmas.Bool.{and_parts, or_right}
use Rattle.std.proofs.lemmas.Bool.Decides.{nat_tests}
use Rattle.std.proofs.lemmas.List.{length_push}
use Rattle.sam_model.specs.Lists.{below}
use Rattle.sam_model.specs.Denote.{Loop, fill}
use Rattle.stream_tokens.specs.Nest.{Leaf}
use Rattle.stream_tokens.proofs.Algebra.{map-map, map-same}
use Rattle.stream_model.specs.Grow.{longer, path_fibers}
use Rattle.stream_model.specs.Terms.{TermData, whole_product}
use Rattle.stream_model.specs.Trees.{grows, everyone, in_whole, free_count, kept_loops, kept_sizes, until, plus_there, sum_there, in_reduced, value_whole, value_reduced, reduced_sizes}
use Rattle.stream_model.specs.Labels.{loop_sizes}
use Rattle.stream_model.specs.Reduction.{Reduces}
use Rattle.sam_model.proofs.Lists.{or-false, not-true, map-ext, filter-ext-each, Each-always, list_any-ext, list_any-map, list_any-flat_map, list_any-gives, list_any-mono}
use Rattle.stream_model.proofs.Grown.{InTree, paths-same}
use Rattle.stream_model.proofs.Products.{grows-append}
use Rattle.stream_model.proofs.Sums.{sum-flat_map, is_some-sum}
use Rattle.stream_model.proofs.TermLaw.{kept-none}

-- ---- which loops are kept

-- the loops as if all were on the left
abbrev pub all_kept : List Loop → List Loop
all_kept loops = map (λ l. (l.0, true)) loops

free_front : (front rest : List Loop) → free_count rest ≤ free_count (front ++ rest)
free_front [] rest = omega arith
free_front ((s, true) ∷ front) rest = free_front front rest
free_front ((s, false) ∷ front) rest = let h = free_front front rest in omega (arith, h)

is_kept : (g n : ℕ) (b : Bool) → g ≤ n → (b || leb g n) ≡ true
is_kept g n b h = let e : leb g n ≡ true = grind (arith, nat_tests) in ap (λ x. b || x) e ∙ or_right b true refl

-- the loops before enough free ones are all kept
pub kept-front : (g : ℕ) (front rest : List Loop) → g ≤ free_count rest → kept_loops g (front ++ rest) ≡ all_kept front ++ kept_loops g rest
kept-front g [] rest h = refl
kept-front g (l ∷ front) rest h =
    let n : free_count rest ≤ free_count (front ++ rest) = free_front front rest in
    ap (λ b. (l.0, b) ∷ kept_loops g (front ++ rest)) (is_kept g (free_count (front ++ rest)) l.1 (omega (arith, n, h)))
    ∙ ap (λ (ls : List Loop). (l.0, true) ∷ ls) (kept-front g front rest h)

not_yet : (g : ℕ) → leb g g ≡ true
not_yet g = grind (arith, nat_tests)

taken : (g : ℕ) → leb (suc g) g ≡ false
taken g = grind (arith, nat_tests)

-- before a loop is taken away, and after
pub kept-before : (t : TermData) (before : List Loop) (s : ℕ) (after : List Loop) (g : ℕ) → Reduces t before s after g
    → kept_loops g t.loops ≡ all_kept before ++ (s, true) ∷ after
kept-before t before s after g r =
    ap (kept_loops g) r.loops_are
    ∙ kept-front g before ((s, false) ∷ after) (omega (arith, r.gone))
    ∙ ap (λ (ls : List Loop). all_kept before ++ ls)
    (ap (λ (n : ℕ). (s, leb g n) ∷ kept_loops g after) r.gone ∙ ap (λ b. (s, b) ∷ kept_loops g after) (not_yet g)
    ∙ ap (λ (ls : List Loop). (s, true) ∷ ls) (kept-none g after (omega (arith, r.gone))))

pub kept-after : (t : TermData) (before : List Loop) (s : ℕ) (after : List Loop) (g : ℕ) → Reduces t before s after g
    → kept_loops (suc g) t.loops ≡ all_kept before ++ (s, false) ∷ after
kept-after t before s after g r =
    ap (kept_loops (suc g)) r.loops_are
    ∙ kept-front (suc g) before ((s, false) ∷ after) (omega (arith, r.gone))
    ∙ ap (λ (ls : List Loop). all_kept before ++ ls)
    (ap (λ (n : ℕ). (s, leb (suc g) n) ∷ kept_loops (suc g) after) r.gone ∙ ap (λ b. (s, b) ∷ kept_loops (suc g) after) (taken g)
    ∙ ap (λ (ls : List Loop). (s, false) ∷ ls) (kept-none (suc g) after (omega (arith, r.gone))))

-- ---- kept loops have the coordinates that are given

pub fill-kept : (before rest : List Loop) (p q : List ℕ) → length p ≡ length before
    → fill (all_kept before ++ rest) (p ++ q) ≡ map (λ u. p ++ u) (fill rest q)
fill-kept [] rest [] q h = sym (map-same (fill rest q))
fill-kept [] rest (c ∷ p) q h = absurd (omega (arith, h))
fill-kept (l ∷ before) rest [] q h = absurd (omega (arith, h))
fill-kept (l ∷ before) rest (c ∷ p) q h =
    ap (λ (us : List (List ℕ)). map (λ u. c ∷ u) us) (fill-kept before rest p q (omega (arith, h)))
    ∙ map-map (λ (u : List ℕ). c ∷ u) (λ (u : List ℕ). p ++ u) (fill rest q)

pub until-kept : (before rest : List Loop) (p q : List ℕ) → length p ≡ length before
    → until (length (p ++ q)) (all_kept before ++ rest) ≡ all_kept before ++ until (length q) rest
until-kept [] rest [] q h = refl
until-kept [] rest (c ∷ p) q h = absurd (omega (arith, h))
until-kept (l ∷ before) rest [] q h = absurd (omega (arith, h))
until-kept (l ∷ before) rest (c ∷ p) q h = ap (λ (ls : List Loop). (l.0, true) ∷ ls) (until-kept before rest p q (omega (arith, h)))

-- a prefix of kept loops alone is the one tuple that has its coordinates
pub fill-short : (front rest : List Loop) (p : List ℕ) → length p ≤ length front → fill (until (length p) (all_kept front ++ rest)) p ≡ p ∷ []
fill-short front rest [] h = refl
fill-short [] rest (c ∷ p) h = absurd (omega (arith, h))
fill-short (l ∷ front) rest (c ∷ p) h = ap (λ (us : List (List ℕ)). map (λ u. c ∷ u) us) (fill-short front rest p (omega (arith, h)))

-- ---- a loop taken away

pub value-split : (t : TermData) (before : List Loop) (s : ℕ) (after : List Loop) (g : ℕ) → Reduces t before s after g → (p q : List ℕ)
    → length p ≡ length before → value_reduced t (suc g) (p ++ q) ≡ sum_there (map (λ c. value_reduced t g (p ++ c ∷ q)) (below s))
value-split t before s after g r p q h =
    ap (λ (ls : List Loop). sum_there (map (value_whole t) (fill ls (p ++ q)))) (kept-after t before s after g r)
    ∙ ap (λ (us : List (List ℕ)). sum_there (map (value_whole t) us)) (fill-kept before ((s, false) ∷ after) p q h)
    ∙ ap sum_there (map-map (value_whole t) (λ (u : List ℕ). p ++ u) (fill ((s, false) ∷ after) q))
    ∙ sum-flat_map (λ (u : List ℕ). value_whole t (p ++ u)) (λ c. map (λ u. c ∷ u) (fill after q)) (below s)
    ∙ ap sum_there (map-ext (λ c. sum_there (map (λ (u : List ℕ). value_whole t (p ++ u)) (map (λ u. c ∷ u) (fill after q)))) (λ c. value_reduced t g (p ++ c ∷ q)) one (below s))
  where
    one : (c : ℕ) → sum_there (map (λ (u : List ℕ). value_whole t (p ++ u)) (map (λ u. c ∷ u) (fill after q))) ≡ value_reduced t g (p ++ c ∷ q)
    one c =
        sym
        (ap (λ (ls : List Loop). sum_there (map (value_whole t) (fill ls (p ++ c ∷ q)))) (kept-before t before s after g r)
        ∙ ap (λ (us : List (List ℕ)). sum_there (map (value_whole t) us)) (fill-kept before ((s, true) ∷ after) p (c ∷ q) h)
        ∙ ap sum_there (map-map (value_whole t) (λ (u : List ℕ). p ++ u) (fill ((s, true) ∷ after) (c ∷ q))))

pub any-split : (t : TermData) (before : List Loop) (s : ℕ) (after : List Loop) (g : ℕ) → Reduces t before s after g → (p : List ℕ) (b : ℕ) (q : List ℕ)
    → length p ≡ length before → in_reduced t (suc g) (p ++ b ∷ q) ≡ list_any (λ c. in_reduced t g (p ++ c ∷ b ∷ q)) (below s)
any-split t before s after g r p b q h =
    ap (λ (ls : List Loop). list_any (in_whole t) (fill (until (length (p ++ b ∷ q)) ls) (p ++ b ∷ q))) (kept-after t before s after g r)
    ∙ ap (λ (ls : List Loop). list_any (in_whole t) (fill ls (p ++ b ∷ q))) (until-kept before ((s, false) ∷ after) p (b ∷ q) h)
    ∙ ap (list_any (in_whole t)) (fill-kept before ((s, false) ∷ until (suc (length q)) after) p (b ∷ q) h)
    ∙ list_any-map (in_whole t) (λ (u : List ℕ). p ++ u) (fill ((s, false) ∷ until (suc (length q)) after) (b ∷ q))
    ∙ list_any-flat_map (λ (u : List ℕ). in_whole t (p ++ u)) (λ c. map (λ u. c ∷ u) (fill (until (suc (length q)) after) (b ∷ q))) (below s)
    ∙ list_any-ext (λ c. list_any (λ (u : List ℕ). in_whole t (p ++ u)) (map (λ u. c ∷ u) (fill (until (suc (length q)) after) (b ∷ q))))
    (λ c. in_reduced t g (p ++ c ∷ b ∷ q)) one (below s)
  where
    one : (c : ℕ) → list_any (λ (u : List ℕ). in_whole t (p ++ u)) (map (λ u. c ∷ u) (fill (until (suc (length q)) after) (b ∷ q)))
        ≡ in_reduced t g (p ++ c ∷ b ∷ q)
    one c =
        sym
        (ap (λ (ls : List Loop). list_any (in_whole t) (fill (until (length (p ++ c ∷ b ∷ q)) ls) (p ++ c ∷ b ∷ q))) (kept-before t before s after g r)
        ∙ ap (λ (ls : List Loop). list_any (in_whole t) (fill ls (p ++ c ∷ b ∷ q))) (until-kept before ((s, true) ∷ after) p (c ∷ b ∷ q) h)
        ∙ ap (list_any (in_whole t)) (fill-kept before ((s, true) ∷ until (suc (length q)) after) p (c ∷ b ∷ q) h)
        ∙ list_any-map (in_whole t) (λ (u : List ℕ). p ++ u) (fill ((s, true) ∷ until (suc (length q)) after) (c ∷ b ∷ q)))

-- ---- above the first loop taken away

pub reduced-front : (t : TermData) (g : ℕ) (front rest : List Loop) (p : List ℕ) → kept_loops g t.loops ≡ all_kept front ++ rest → length p ≤ length front
    → in_reduced t g p ≡ in_whole t p
reduced-front t g front rest p e h =
    ap (λ (ls : List Loop). list_any (in_whole t) (fill (until (length p) ls) p)) e
    ∙ ap (list_any (in_whole t)) (fill-short front rest p h) ∙ or-false (in_whole t p)

sizes_kept : (g : ℕ) (loops : List Loop) → loop_sizes (kept_loops g loops) ≡ loop_sizes loops
sizes_kept g [] = refl
sizes_kept g (l ∷ loops) = ap (λ (x : List ℕ). l.0 ∷ x) (sizes_kept g loops)

size_front : (front rest : List Loop) (n : ℕ) → n < length front
    → slice_index (kept_sizes (all_kept front ++ rest)) n ≡ slice_index (loop_sizes (all_kept front ++ rest)) n
size_front [] rest n h = absurd (omega (arith, h))
size_front (l ∷ front) rest zero h = refl
size_front (l ∷ front) rest (suc n) h = size_front front rest n (omega (arith, h))

pub sizes-front : (t : TermData) (g : ℕ) (front rest : List Loop) (n : ℕ) → kept_loops g t.loops ≡ all_kept front ++ rest → n < length front
    → slice_index (reduced_sizes t g) n ≡ slice_index (loop_sizes t.loops) n
sizes-front t g front rest n e h =
    ap (λ (ls : List Loop). slice_index (kept_sizes ls) n) e ∙ size_front front rest n h
    ∙ ap (λ (ls : List Loop). slice_index (loop_sizes ls) n) (sym e) ∙ ap (λ (x : List ℕ). slice_index x n) (sizes_kept g t.loops)

-- down to the last of these loops the tree is the product tree
pub same-paths : (t : TermData) (g : ℕ) (front rest : List Loop) (d : ℕ) → kept_loops g t.loops ≡ all_kept front ++ rest → d ≤ length front
    → path_fibers (in_reduced t g) (reduced_sizes t g) d ≡ path_fibers (in_whole t) (loop_sizes t.loops) d
same-paths t g front rest d e h = paths-same (in_reduced t g) (in_whole t) (reduced_sizes t g) (loop_sizes t.loops) refl d step
  where
    step : (n : ℕ) (p : List ℕ) → n < d → InTree (in_reduced t g) (reduced_sizes t g) n p
        → longer (in_reduced t g) (reduced_sizes t g) p ≡ longer (in_whole t) (loop_sizes t.loops) p
    step n p k i =
        let few : length p < length front = omega (arith, i.count, k, h) in
        ap (λ (x : ℕ). map (λ c. p ++ c ∷ []) (filter (λ c. in_reduced t g (p ++ c ∷ [])) (below x))) (sizes-front t g front rest (length p) e few)
        ∙ ap (λ (cs : List ℕ). map (λ c. p ++ c ∷ []) cs)
        (filter-ext-each (λ (c : ℕ). Unit {0}) (λ c. in_reduced t g (p ++ c ∷ [])) (λ c. in_whole t (p ++ c ∷ []))
        (λ c u. reduced-front t g front rest (p ++ c ∷ []) e (omega (arith, length_push p c, few)))
        (below (slice_index (loop_sizes t.loops) (length p))) (Each-always (λ (c : ℕ). Unit {0}) (λ c. tt) (below (slice_index (loop_sizes t.loops) (length p)))))

pub same-before : (t : TermData) (before : List Loop) (s : ℕ) (after : List Loop) (g d : ℕ) → Reduces t before s after g → d ≤ length before
    → path_fibers (in_reduced t g) (reduced_sizes t g) d ≡ path_fibers (in_whole t) (loop_sizes t.loops) d
same-before t before s after g d r h = same-paths t g before ((s, true) ∷ after) d (kept-before t before s after g r) h

pub same-after : (t : TermData) (before : List Loop) (s : ℕ) (after : List Loop) (g d : ℕ) → Reduces t before s after g → d ≤ length before
    → path_fibers (in_reduced t (suc g)) (reduced_sizes t (suc g)) d ≡ path_fibers (in_whole t) (loop_sizes t.loops) d
same-after t before s after g d r h = same-paths t (suc g) before ((s, false) ∷ after) d (kept-after t before s after g r) h

-- ---- where no loop is taken away

pub kept-all : (loops : List Loop) → kept_loops 0 loops ≡ all_kept loops ++ []
kept-all loops = ap (kept_loops 0) (sym (append-nil loops)) ∙ kept-front 0 loops [] (omega arith)

pub same-whole : (t : TermData) (d : ℕ) → d ≤ length t.loops
    → path_fibers (in_reduced t 0) (reduced_sizes t 0) d ≡ path_fibers (in_whole t) (loop_sizes t.loops) d
same-whole t d h = same-paths t 0 t.loops [] d (kept-all t.loops) h

-- at full length there is the one tuple
pub value-full : (t : TermData) (u : List ℕ) → length u ≡ length t.loops → value_reduced t 0 u ≡ value_whole t u
value-full t u h =
    ap (λ (ls : List Loop). sum_there (map (value_whole t) (fill ls u))) (kept-all t.loops)
    ∙ ap (λ (x : List ℕ). sum_there (map (value_whole t) (fill (all_kept t.loops ++ []) x))) (sym (append-nil u))
    ∙ ap (λ (us : List (List ℕ)). sum_there (map (value_whole t) us)) (fill-kept t.loops [] u [] h)
    ∙ ap (λ (x : List ℕ). plus_there (value_whole t x) None) (append-nil u)
    ∙ alone (value_whole t u)
  where
    alone : (o : Leaf) → plus_there o None ≡ o
    alone None = refl
    alone (Some n) = refl

-- ---- what isn't in a tree has nothing below it

-- a test that holds of each beginning of what it holds of
abbrev Closed : (List ℕ → Bool) → Type 0
Closed test = (u v : List ℕ) → test (u ++ v) ≡ true → test u ≡ true

whole_closed : (t : TermData) → Closed (in_whole t)
whole_closed t u v h =
    (and_parts (in_whole t u) (grows t.accesses (λ _. everyone t.accesses) u v) (sym (grows-append t.accesses (λ _. everyone t.accesses) [] u v) ∙ h)).0

at_start : (test : List ℕ → Bool) → Closed test → (us : List (List ℕ)) → list_any test us ≡ true → (test [] || false) ≡ true
at_start test closed us h = or-false (test []) ∙ list_any-gives test (test []) (λ u k. closed [] u k) us h

after_one : (test : List ℕ → Bool) (c : ℕ) → Closed test → Closed (λ u. test (c ∷ u))
after_one test c closed u v h = closed (c ∷ u) v h

-- of some tuples in which x is filled, and some in which p, the beginning of x, is
shorter_fill : (test : List ℕ → Bool) → Closed test → (loops : List Loop) (p q : List ℕ)
    → list_any test (fill (until (length (p ++ q)) loops) (p ++ q)) ≡ true → list_any test (fill (until (length p) loops) p) ≡ true
shorter_fill test closed loops [] q h = at_start test closed (fill (until (length q) loops) q) h
shorter_fill test closed [] (a ∷ p) q h = h
shorter_fill test closed ((s, true) ∷ loops) (a ∷ p) q h =
    list_any-map test (λ (u : List ℕ). a ∷ u) (fill (until (length p) loops) p)
    ∙ shorter_fill (λ u. test (a ∷ u)) (after_one test a closed) loops p q
    (sym (list_any-map test (λ (u : List ℕ). a ∷ u) (fill (until (length (p ++ q)) loops) (p ++ q))) ∙ h)
shorter_fill test closed ((s, false) ∷ loops) (a ∷ p) q h =
    list_any-flat_map test (λ c. map (λ u. c ∷ u) (fill (until (suc (length p)) loops) (a ∷ p))) (below s)
    ∙ list_any-mono (λ c. list_any test (map (λ u. c ∷ u) (fill (until (suc (length (p ++ q))) loops) (a ∷ (p ++ q)))))
    (λ c. list_any test (map (λ u. c ∷ u) (fill (until (suc (length p)) loops) (a ∷ p))))
    (λ c k.
    list_any-map test (λ (u : List ℕ). c ∷ u) (fill (until (suc (length p)) loops) (a ∷ p))
    ∙ shorter_fill (λ u. test (c ∷ u)) (after_one test c closed) loops (a ∷ p) q
    (sym (list_any-map test (λ (u : List ℕ). c ∷ u) (fill (until (suc (length (p ++ q))) loops) (a ∷ (p ++ q)))) ∙ k))
    (below s)
    (sym (list_any-flat_map test (λ c. map (λ u. c ∷ u) (fill (until (suc (length (p ++ q))) loops) (a ∷ (p ++ q)))) (below s)) ∙ h)

full_fill : (test : List ℕ → Bool) → Closed test → (loops : List Loop) (p q : List ℕ)
    → list_any test (fill loops (p ++ q)) ≡ true → list_any test (fill (until (length p) loops) p) ≡ true
full_fill test closed loops [] q h = at_start test closed (fill loops q) h
full_fill test closed [] (a ∷ p) q h = h
full_fill test closed ((s, true) ∷ loops) (a ∷ p) q h =
    list_any-map test (λ (u : List ℕ). a ∷ u) (fill (until (length p) loops) p)
    ∙ full_fill (λ u. test (a ∷ u)) (after_one test a closed) loops p q
    (sym (list_any-map test (λ (u : List ℕ). a ∷ u) (fill loops (p ++ q))) ∙ h)
full_fill test closed ((s, false) ∷ loops) (a ∷ p) q h =
    list_any-flat_map test (λ c. map (λ u. c ∷ u) (fill (until (suc (length p)) loops) (a ∷ p))) (below s)
    ∙ list_any-mono (λ c. list_any test (map (λ u. c ∷ u) (fill loops (a ∷ (p ++ q)))))
    (λ c. list_any test (map (λ u. c ∷ u) (fill (until (suc (length p)) loops) (a ∷ p))))
    (λ c k.
    list_any-map test (λ (u : List ℕ). c ∷ u) (fill (until (suc (length p)) loops) (a ∷ p))
    ∙ full_fill (λ u. test (c ∷ u)) (after_one test c closed) loops (a ∷ p) q
    (sym (list_any-map test (λ (u : List ℕ). c ∷ u) (fill loops (a ∷ (p ++ q)))) ∙ k))
    (below s)
    (sym (list_any-flat_map test (λ c. map (λ u. c ∷ u) (fill loops (a ∷ (p ++ q)))) (below s)) ∙ h)

pub reduced-begins : (t : TermData) (g : ℕ) (p q : List ℕ) → in_reduced t g (p ++ q) ≡ true → in_reduced t g p ≡ true
reduced-begins t g p q h = shorter_fill (in_whole t) (whole_closed t) (kept_loops g t.loops) p q h

pub reduced-closed : (t : TermData) (g : ℕ) (p q : List ℕ) → in_reduced t g p ≡ false → in_reduced t g (p ++ q) ≡ false
reduced-closed t g p q h = not-true (in_reduced t g (p ++ q)) (λ k. sym h ∙ reduced-begins t g p q k)

there : (t : TermData) (u : List ℕ) → is_some (value_whole t u) ≡ in_whole t u
there t u = by_case (in_whole t u)
  where
    by_case : (b : Bool) → is_some (cond b (Some (whole_product t u)) None) ≡ b
    by_case true = refl
    by_case false = refl

-- a value is there where some tuple of the product tree has its coordinates
pub value-there : (t : TermData) (g : ℕ) (p : List ℕ) → is_some (value_reduced t g p) ≡ list_any (in_whole t) (fill (kept_loops g t.loops) p)
value-there t g p =
    is_some-sum (map (value_whole t) (fill (kept_loops g t.loops) p))
    ∙ list_any-map is_some (value_whole t) (fill (kept_loops g t.loops) p)
    ∙ list_any-ext (λ u. is_some (value_whole t u)) (in_whole t) (there t) (fill (kept_loops g t.loops) p)

-- only what is in the tree begins a value
pub value-begins : (t : TermData) (g : ℕ) (p q : List ℕ) → is_some (value_reduced t g (p ++ q)) ≡ true → in_reduced t g p ≡ true
value-begins t g p q h = full_fill (in_whole t) (whole_closed t) (kept_loops g t.loops) p q (sym (value-there t g (p ++ q)) ∙ h)

no_value : (o : Leaf) → is_some o ≡ false → o ≡ None
no_value None h = refl
no_value (Some n) h = absurd (cc)

pub value-outside : (t : TermData) (g : ℕ) (p q : List ℕ) → in_reduced t g p ≡ false → value_reduced t g (p ++ q) ≡ None
value-outside t g p q h =
    no_value (value_reduced t g (p ++ q)) (not-true (is_some (value_reduced t g (p ++ q))) (λ k. sym h ∙ value-begins t g p q k))
