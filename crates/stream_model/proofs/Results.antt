-- The full prefixes of a program's last tree, in order, are its pattern, with the numbers that it denotes.
use Rattle.std.specs.Prelude.{◌≡◌, ◌<◌, ◌≤◌, ℕ, zero, suc, Bool, true, false, cond, ◌&&◌, ◌||◌, List, [], ◌∷◌, ◌++◌, length, take, slice_index, Some, None, is_some, refl}
use Rattle.std.specs.List.{filter, list_any, list_all}
use mathlib.Core.List.{map}
use Rattle.std.proofs.Common.{arith, sym, ◌∙◌, ap}
use Rattle.std.proofs.lemmas.Bool.{and_parts, or_left, or_right}
use Rattle.std.proofs.lemmas.List.{length-map, take_all}
use Rattle.sam_model.specs.declared.tensors.Entries.{Entries}
use Rattle.sam_model.specs.declared.program.Term.{Term}
use Rattle.sam_model.specs.declared.program.Program.{Program}
use Rattle.sam_model.specs.Lists.{tuples}
use Rattle.sam_model.specs.Denote.{loop_list, term_at, den, pat, result_entries}
use Rattle.sam_model.specs.Accepted.{term_fits}
use Rattle.sam_model.specs.Program.{accepted}
use Rattle.stream_tokens.specs.Shapes.{on_tokens, Each}
use Rattle.stream_tokens.proofs.Algebra.{map-map, Each-imp}
use Rattle.stream_model.specs.declared.labels.Attr.TheVariants.{Value}
use Rattle.stream_model.specs.Grow.{path_fibers}
use Rattle.stream_model.specs.Terms.{TermData, Summand, term_data, further_summand, summands_of, summands}
use Rattle.stream_model.specs.Trees.{free_count, value_reduced, reduced_sizes, begins_value, in_pruned, in_term, value_term}
use Rattle.stream_model.specs.Joins.{join_of}
use Rattle.stream_model.specs.Labels.{Shape, result_sizes, joined_shape, fibers_at}
use Rattle.sam_model.proofs.Lists.{not-true, map-ext-each, filter-ext, filter-ext-each}
use Rattle.stream_model.proofs.Places.{AllPlaced, accepted-terms, term-sizes}
use Rattle.stream_model.proofs.Pruned.{late-test, begins-full}
use Rattle.stream_model.proofs.Denoted.{has_stored, signed_number, EachPlaced, accepted-placed, term-value, join-denotes, term-denotes}
use Rattle.sam_model.proofs.Tuples.{tuples-long}
use Rattle.stream_model.proofs.Flat.{in_order, in_order-tokens, ClosedUnder, flat-paths}
use Rattle.stream_model.proofs.Sides.{pruned-root, pruned-shorter, pruned-closed, term-full, joined-all}

-- ---- lists

passed : (test : List ℕ → Bool) (xs : List (List ℕ)) → Each (λ x. test x ≡ true) (filter test xs)
passed test [] = tt
passed test (x ∷ xs) = by_case (test x) refl (passed test xs)
  where
    by_case : (b : Bool) → test x ≡ b → Each (λ x. test x ≡ true) (filter test xs) → Each (λ x. test x ≡ true) (cond b (x ∷ filter test xs) (filter test xs))
    by_case true e r = (e, r)
    by_case false e r = r

front_long : (sizes : List ℕ) (d : ℕ) → d ≤ length sizes → Each (λ p. length p ≡ d) (tuples (take d sizes))
front_long sizes d h =
    Each-imp (λ p. length p ≡ length (take d sizes)) (λ p. length p ≡ d) (λ p e. e ∙ count sizes d h) (tuples (take d sizes)) (tuples-long (take d sizes))
  where
    count : (sizes : List ℕ) (d : ℕ) → d ≤ length sizes → length (take d sizes) ≡ d
    count [] zero h = refl
    count [] (suc d) h = absurd (omega (arith, h))
    count (s ∷ sizes) zero h = refl
    count (s ∷ sizes) (suc d) h = ap suc (count sizes d (omega (arith, h)))

-- ---- pruned trees in order

-- below the level of pruning they have what begins a value
pub pruned-flat : (t : TermData) (g f d : ℕ) → 0 < f → f ≤ d → d ≤ length (reduced_sizes t g)
    → in_order (path_fibers (in_pruned t g f) (reduced_sizes t g) d)
    ≡ filter (begins_value (value_reduced t g) (reduced_sizes t g)) (tuples (take d (reduced_sizes t g)))
pruned-flat t g f d h k m =
    flat-paths (in_pruned t g f) (reduced_sizes t g) (pruned-root t g f h) (pruned-closed t g f) d m
    ∙ filter-ext-each (λ p. length p ≡ d) (in_pruned t g f) (begins_value (value_reduced t g) (reduced_sizes t g))
    (λ p e. late-test t g f p (omega (arith, e, k))) (tuples (take d (reduced_sizes t g))) (front_long (reduced_sizes t g) d m)

-- at full length what has a value
pub pruned-full : (t : TermData) (g f : ℕ) → 0 < f → f ≤ length (reduced_sizes t g)
    → in_order (path_fibers (in_pruned t g f) (reduced_sizes t g) (length (reduced_sizes t g))) ≡ filter (λ x. is_some (value_reduced t g x)) (tuples (reduced_sizes t g))
pruned-full t g f h k =
    pruned-flat t g f (length (reduced_sizes t g)) h k (omega arith)
    ∙ ap (λ (xs : List ℕ). filter (begins_value (value_reduced t g) (reduced_sizes t g)) (tuples xs)) (take_all (length (reduced_sizes t g)) (reduced_sizes t g) (omega arith))
    ∙ filter-ext-each (λ x. length x ≡ length (reduced_sizes t g)) (begins_value (value_reduced t g) (reduced_sizes t g)) (λ x. is_some (value_reduced t g x))
    (λ x e. begins-full (value_reduced t g) (reduced_sizes t g) x (omega (arith, e))) (tuples (reduced_sizes t g)) (tuples-long (reduced_sizes t g))

-- ---- the terms of a program

-- each summand has the sizes of the result
abbrev pub EachSized : List ℕ → List Summand → Type 0
EachSized sizes ss = Each (λ s. reduced_sizes s.term (free_count s.term.loops) ≡ sizes) ss

further_sized : (p : Program) (es : List Entries) (ts : List Term) → accepted p ≡ true → list_all (term_fits p.tensors p.var_sizes p.left) ts ≡ true
    → EachSized (result_sizes p) (map (further_summand p es) ts)
further_sized p es [] h k = tt
further_sized p es (t ∷ ts) h k =
    let f = and_parts (term_fits p.tensors p.var_sizes p.left t) (list_all (term_fits p.tensors p.var_sizes p.left) ts) k in
    (term-sizes p es false t h f.0, further_sized p es ts h f.1)

all_sized : (p : Program) (es : List Entries) (ts : List Term) → accepted p ≡ true → list_all (term_fits p.tensors p.var_sizes p.left) ts ≡ true
    → EachSized (result_sizes p) (summands_of p es ts)
all_sized p es [] h k = tt
all_sized p es (t ∷ ts) h k =
    let f = and_parts (term_fits p.tensors p.var_sizes p.left t) (list_all (term_fits p.tensors p.var_sizes p.left) ts) k in
    (term-sizes p es true t h f.0, further_sized p es ts h f.1)

pub accepted-sized : (p : Program) (es : List Entries) → accepted p ≡ true → EachSized (result_sizes p) (summands p es)
accepted-sized p es h = all_sized p es p.terms h (accepted-terms p h)

there : (b : Bool) (n : ℕ) → is_some (cond b (Some n) None) ≡ b
there true n = refl
there false n = refl

full_term : (p : Program) (es : List Entries) (first : Bool) (t : Term) (x : List ℕ) → AllPlaced p es t t.factors
    → reduced_sizes (term_data p es first t) (free_count (loop_list p t)) ≡ result_sizes p → 0 < length x → length x ≡ length (result_sizes p)
    → in_term (term_data p es first t) x ≡ has_stored p es x t
full_term p es first t x h e k l =
    term-full (term_data p es first t) x k (omega (arith, ap (λ (xs : List ℕ). length xs) e, l))
    ∙ ap is_some (term-value p es first t x h)
    ∙ there (has_stored p es x t) (signed_number (first && t.minus) (term_at p es t x))

further_has : (p : Program) (es : List Entries) (ts : List Term) (x : List ℕ) → EachPlaced p es ts → EachSized (result_sizes p) (map (further_summand p es) ts)
    → 0 < length x → length x ≡ length (result_sizes p)
    → list_any (λ s. in_term s.term x) (map (further_summand p es) ts) ≡ list_any (has_stored p es x) ts
further_has p es [] x h e k l = refl
further_has p es (t ∷ ts) x h e k l =
    let here : in_term (term_data p es false t) x ≡ has_stored p es x t = full_term p es false t x h.0 e.0 k l in
    rw (here, further_has p es ts x h.1 e.1 k l) refl

all_have : (p : Program) (es : List Entries) (ts : List Term) (x : List ℕ) → EachPlaced p es ts → EachSized (result_sizes p) (summands_of p es ts)
    → 0 < length x → length x ≡ length (result_sizes p)
    → list_any (λ s. in_term s.term x) (summands_of p es ts) ≡ list_any (has_stored p es x) ts
all_have p es [] x h e k l = refl
all_have p es (t ∷ ts) x h e k l =
    let here : in_term (term_data p es true t) x ≡ has_stored p es x t = full_term p es true t x h.0 e.0 k l in
    rw (here, further_has p es ts x h.1 e.1 k l) refl

-- a full list is in the join of all terms where it is in the pattern
pub join-pattern : (p : Program) (es : List Entries) (x : List ℕ) → accepted p ≡ true → length es ≡ length p.tensors → 0 < length x
    → length x ≡ length (result_sizes p) → (join_of (summands p es)).has x ≡ pat p es x
join-pattern p es x h e k l = all_have p es p.terms x (accepted-placed p es h e) (accepted-sized p es h) k l

-- ---- joins are closed

join_shorter : (sizes : List ℕ) (ss : List Summand) → EachSized sizes ss → (p : List ℕ) (c : ℕ) → c < slice_index sizes (length p)
    → (join_of ss).has (p ++ c ∷ []) ≡ true → (join_of ss).has p ≡ true
join_shorter sizes [] e p c l h = h
join_shorter sizes (s ∷ ss) e p c l h = by_case (in_term s.term (p ++ c ∷ [])) refl h (join_shorter sizes ss e.1 p c l)
  where
    by_case : (b : Bool) → in_term s.term (p ++ c ∷ []) ≡ b → (b || (join_of ss).has (p ++ c ∷ [])) ≡ true
        → ((join_of ss).has (p ++ c ∷ []) ≡ true → (join_of ss).has p ≡ true) → (in_term s.term p || (join_of ss).has p) ≡ true
    by_case true k m r =
        let inside : c < slice_index (reduced_sizes s.term (free_count s.term.loops)) (length p) = omega (arith, l, ap (λ (xs : List ℕ). slice_index xs (length p)) e.0) in
        or_left (in_term s.term p) ((join_of ss).has p) (pruned-shorter s.term (free_count s.term.loops) 1 p c inside k)
    by_case false k m r = or_right (in_term s.term p) ((join_of ss).has p) (r m)

pub join-closed : (sizes : List ℕ) (ss : List Summand) → EachSized sizes ss → ClosedUnder (join_of ss).has sizes
join-closed sizes ss e p c l h = not-true ((join_of ss).has (p ++ c ∷ [])) (λ k. sym h ∙ join_shorter sizes ss e p c l k)

summands_root : (p : Program) (es : List Entries) (ts : List Term) → 0 < length ts → (join_of (summands_of p es ts)).has [] ≡ true
summands_root p es [] h = absurd (omega (arith, h))
summands_root p es (t ∷ ts) h =
    or_left (in_term (term_data p es true t) []) ((join_of (map (further_summand p es) ts)).has [])
    (pruned-root (term_data p es true t) (free_count (loop_list p t)) 1 (omega arith))

-- ---- the results in order

-- the full prefixes of the join of all terms
pub result-paths : (p : Program) (es : List Entries) → accepted p ≡ true → length es ≡ length p.tensors → 0 < length p.terms → 0 < length (result_sizes p)
    → in_order (path_fibers (join_of (summands p es)).has (result_sizes p) (length (result_sizes p))) ≡ filter (pat p es) (tuples (result_sizes p))
result-paths p es h e k m =
    flat-paths (join_of (summands p es)).has (result_sizes p) (summands_root p es p.terms k) (join-closed (result_sizes p) (summands p es) (accepted-sized p es h))
    (length (result_sizes p)) (omega arith)
    ∙ ap (λ (xs : List ℕ). filter (join_of (summands p es)).has (tuples xs)) (take_all (length (result_sizes p)) (result_sizes p) (omega arith))
    ∙ filter-ext-each (λ x. length x ≡ length (result_sizes p)) (join_of (summands p es)).has (pat p es)
    (λ x l. join-pattern p es x h e (omega (arith, l, m)) l) (tuples (result_sizes p)) (tuples-long (result_sizes p))

pub length-summands : (p : Program) (es : List Entries) (ts : List Term) → length (summands_of p es ts) ≡ length ts
length-summands p es [] = refl
length-summands p es (t ∷ ts) = ap suc (length-map ts (further_summand p es))

module _ (p : Program) (es : List Entries) (n : ℕ) where
  -- the tree of the join of all terms, at full length
  abbrev last_shape : Shape
  last_shape = joined_shape (result_sizes p) (summands p es) n (length (result_sizes p))

  last_paths : accepted p ≡ true → length es ≡ length p.tensors → suc n ≡ length p.terms → 0 < length (result_sizes p)
      → in_order (path_fibers last_shape.ok (result_sizes p) (length (result_sizes p))) ≡ filter (pat p es) (tuples (result_sizes p))
  last_paths h e k m =
      ap (λ part. in_order (path_fibers part.has (result_sizes p) (length (result_sizes p))))
      (joined-all (summands p es) n (omega (arith, k, length-summands p es p.terms)))
      ∙ result-paths p es h e (omega (arith, k)) m

  -- and the values, in order, are theirs
  pub result-values : accepted p ≡ true → length es ≡ length p.tensors → suc n ≡ length p.terms → 0 < length (result_sizes p)
      → in_order (fibers_at (joined_shape (result_sizes p) (summands p es) n (length (result_sizes p))) Value)
      ≡ map (λ entry. Some entry.1) (result_entries p es)
  result-values h e k m =
      in_order-tokens last_shape.value (path_fibers last_shape.ok (result_sizes p) (length (result_sizes p)))
      ∙ ap (map last_shape.value) (last_paths h e k m)
      ∙ ap (λ part. map part.value (filter (pat p es) (tuples (result_sizes p)))) (joined-all (summands p es) n (omega (arith, k, length-summands p es p.terms)))
      ∙ map-ext-each (λ x. pat p es x ≡ true) (join_of (summands p es)).value (λ x. Some (den p es x))
      (λ x i. join-denotes p es x h e ∙ ap (λ b. cond b (Some (den p es x)) None) i) (filter (pat p es) (tuples (result_sizes p)))
      (passed (pat p es) (tuples (result_sizes p)))
      ∙ sym (map-map (λ (entry : List ℕ × ℕ). Some entry.1) (λ x. (x, den p es x)) (filter (pat p es) (tuples (result_sizes p))))

-- ---- a program of one term

-- its term fits
pub only-fits : (p : Program) (t : Term) → accepted p ≡ true → p.terms ≡ t ∷ [] → term_fits p.tensors p.var_sizes p.left t ≡ true
only-fits p t h k =
    (and_parts (term_fits p.tensors p.var_sizes p.left t) true
    (ap (list_all (term_fits p.tensors p.var_sizes p.left)) (sym k) ∙ accepted-terms p h)).0

-- the full prefixes of its tree, pruned from any level on, are the pattern
pub term-paths : (p : Program) (es : List Entries) (t : Term) (f : ℕ) → accepted p ≡ true → length es ≡ length p.tensors → p.terms ≡ t ∷ []
    → 0 < f → f ≤ length (result_sizes p)
    → in_order (path_fibers (in_pruned (term_data p es true t) (free_count (loop_list p t)) f) (result_sizes p) (length (result_sizes p)))
    ≡ filter (pat p es) (tuples (result_sizes p))
term-paths p es t f h e k l m =
    let d : TermData = term_data p es true t in
    let g : ℕ = free_count (loop_list p t) in
    let same : reduced_sizes d g ≡ result_sizes p = term-sizes p es true t h (only-fits p t h k) in
    ap (λ (xs : List ℕ). in_order (path_fibers (in_pruned d g f) xs (length xs))) (sym same)
    ∙ pruned-full d g f l (omega (arith, m, ap (λ (xs : List ℕ). length xs) same))
    ∙ ap (λ (xs : List ℕ). filter (λ x. is_some (value_reduced d g x)) (tuples xs)) same
    ∙ filter-ext (λ x. is_some (value_reduced d g x)) (pat p es) (λ x. ap is_some (term-denotes p es t x h e k) ∙ there (pat p es x) (den p es x)) (tuples (result_sizes p))

-- and their values are the numbers of the result's entries
pub term-values : (p : Program) (es : List Entries) (t : Term) (f : ℕ) → accepted p ≡ true → length es ≡ length p.tensors → p.terms ≡ t ∷ []
    → 0 < f → f ≤ length (result_sizes p)
    → in_order (on_tokens (value_term (term_data p es true t))
    (path_fibers (in_pruned (term_data p es true t) (free_count (loop_list p t)) f) (result_sizes p) (length (result_sizes p))))
    ≡ map (λ entry. Some entry.1) (result_entries p es)
term-values p es t f h e k l m =
    in_order-tokens (value_term (term_data p es true t))
    (path_fibers (in_pruned (term_data p es true t) (free_count (loop_list p t)) f) (result_sizes p) (length (result_sizes p)))
    ∙ ap (map (value_term (term_data p es true t))) (term-paths p es t f h e k l m)
    ∙ map-ext-each (λ x. pat p es x ≡ true) (value_term (term_data p es true t)) (λ x. Some (den p es x))
    (λ x i. term-denotes p es t x h e k ∙ ap (λ b. cond b (Some (den p es x)) None) i) (filter (pat p es) (tuples (result_sizes p)))
    (passed (pat p es) (tuples (result_sizes p)))
    ∙ sym (map-map (λ (entry : List ℕ × ℕ). Some entry.1) (λ x. (x, den p es x)) (filter (pat p es) (tuples (result_sizes p))))
