-- The two sides of a join: what is in them, and the streams of their first level, which a term or an earlier join has too.
use Rattle.std.specs.Prelude.{◌≡◌, ◌<◌, ℕ, suc, Bool, true, false, cond, List, [], ◌∷◌, ◌++◌, length, take, slice_index, Some, None, is_some, refl}
use Rattle.std.specs.List.{list_any}
use mathlib.Core.List.{map}
use Rattle.std.proofs.Common.{arith, sym, ◌∙◌, ap, subst, length-take-le}
use Rattle.std.proofs.Math.Path.{fun_ext}
use Rattle.std.proofs.lemmas.Bool.{or_left, or_right}
use Rattle.levels.proofs.Growth.{Each-get, Each-take}
use Rattle.sam_model.specs.Lists.{below}
use Rattle.stream_tokens.specs.Nest.{Leaf, leaf}
use Rattle.stream_tokens.specs.Flat.{flat}
use Rattle.stream_tokens.specs.Shapes.{on_tokens}
use Rattle.stream_model.specs.declared.labels.Side.{Side}
use Rattle.stream_model.specs.declared.labels.Side.TheVariants.{Left, Right}
use Rattle.stream_model.specs.declared.labels.Attr.TheVariants.{Coordinate, Value}
use Rattle.stream_model.specs.Grow.{path_fibers}
use Rattle.stream_model.specs.Terms.{TermData, Summand, no_summand, summand_at}
use Rattle.stream_model.specs.Trees.{free_count, reduced_sizes, in_term, value_term}
use Rattle.stream_model.specs.Joins.{Part, negated, signed, join_of, join_upto, side_part, in_beside}
use Rattle.stream_model.specs.Labels.{Shape, last, reduced_shape, joined_shape, beside_shape, stream_at}
use Rattle.sam_model.proofs.Lists.{or-false, list_any-ext-each, list_any-map}
use Rattle.stream_model.proofs.Grown.{tokens-suc}
use Rattle.stream_model.proofs.Flat.{ClosedUnder}
use Rattle.stream_model.proofs.Sums.{plus-none, is_some-sum}
use Rattle.stream_model.proofs.Sides.{pruned-root, pruned-closed, pruned-goes-on, term-full, joined-has, beside-tokens}
use Rattle.stream_model.proofs.Results.{EachSized, join-closed}
use Rattle.stream_model.proofs.Fills.{join-goes-on}
use Rattle.stream_model.proofs.Streams.{stream_at-flat}

-- ---- the terms of a join

-- the term at a place has the sizes of the result
pub sized-at : (sizes : List ℕ) (ss : List Summand) (n : ℕ) → EachSized sizes ss → n < length ss
    → reduced_sizes (summand_at ss n).term (free_count (summand_at ss n).term.loops) ≡ sizes
sized-at sizes ss n e h = Each-get (λ s. reduced_sizes s.term (free_count s.term.loops) ≡ sizes) ss n no_summand h e

-- and so have the first of the terms
pub sized-before : (sizes : List ℕ) (ss : List Summand) (n : ℕ) → EachSized sizes ss → EachSized sizes (take n ss)
sized-before sizes ss n e = Each-take (λ s. reduced_sizes s.term (free_count s.term.loops) ≡ sizes) n ss e

-- ---- joins

-- the join of some terms has the empty prefix
pub join-root : (ss : List Summand) → 0 < length ss → (join_of ss).has [] ≡ true
join-root [] h = absurd (omega (arith, h))
join-root (s ∷ ss) h =
    or_left (in_term s.term []) ((join_of ss).has []) (pruned-root s.term (free_count s.term.loops) 1 (omega arith))

-- so a join up to a term has it
pub joined-root : (ss : List Summand) (last : ℕ) → last < length ss → (join_upto ss last).has [] ≡ true
joined-root ss last h = join-root (take (suc last) ss) (omega (arith, h, length-take-le (suc last) ss (omega (arith, h))))

signed_there : (s : Summand) (p : List ℕ) → is_some (signed s p) ≡ is_some (value_term s.term p)
signed_there s p = by_case s.minus (value_term s.term p)
  where
    by_case : (b : Bool) (o : Leaf) → is_some (cond b (negated o) o) ≡ is_some o
    by_case true None = refl
    by_case true (Some n) = refl
    by_case false o = refl

-- a full prefix is in a join where it has a value there
pub join-full : (sizes : List ℕ) (ss : List Summand) → EachSized sizes ss → (p : List ℕ) → 0 < length p → length p ≡ length sizes
    → (join_of ss).has p ≡ is_some ((join_of ss).value p)
join-full sizes ss e p h k =
    sym (is_some-sum (map (λ s. signed s p) ss)
    ∙ list_any-map is_some (λ s. signed s p) ss
    ∙ list_any-ext-each (λ s. reduced_sizes s.term (free_count s.term.loops) ≡ sizes) (λ s. is_some (signed s p))
    (λ s. in_term s.term p) one ss e)
  where
    one : (s : Summand) → reduced_sizes s.term (free_count s.term.loops) ≡ sizes → is_some (signed s p) ≡ in_term s.term p
    one s i = signed_there s p ∙ sym (term-full s.term p h (omega (arith, k, ap (λ (xs : List ℕ). length xs) i)))

-- ---- sides

-- a side has the beginnings of what it has
pub side-closed : (sizes : List ℕ) (ss : List Summand) (last : ℕ) (side : Side) → EachSized sizes ss → last < length ss
    → ClosedUnder (side_part ss last side).has sizes
side-closed sizes ss last Left e h = join-closed sizes (take last ss) (sized-before sizes ss last e)
side-closed sizes ss last Right e h =
    let t : TermData = (summand_at ss last).term in
    subst (ClosedUnder (in_term t)) (sized-at sizes ss last e h) (pruned-closed t (free_count t.loops) 1)

-- what a side has, the join has
pub side-within : (ss : List Summand) (last : ℕ) (side : Side) → last < length ss → (p : List ℕ)
    → (side_part ss last side).has p ≡ true → (join_upto ss last).has p ≡ true
side-within ss last Left h p k =
    joined-has ss last p h ∙ or_left ((side_part ss last Left).has p) ((side_part ss last Right).has p) k
side-within ss last Right h p k =
    joined-has ss last p h ∙ or_right ((side_part ss last Left).has p) ((side_part ss last Right).has p) k

-- each prefix of a side that isn't empty or full goes on
pub side-goes-on : (sizes : List ℕ) (ss : List Summand) (last : ℕ) (side : Side) → EachSized sizes ss → last < length ss
    → (p : List ℕ) → 0 < length p → length p < length sizes → (side_part ss last side).has p ≡ true
    → list_any (λ c. (side_part ss last side).has (p ++ c ∷ [])) (below (slice_index sizes (length p))) ≡ true
side-goes-on sizes ss last Left e h p some above k =
    join-goes-on sizes (take last ss) (sized-before sizes ss last e) p some above k
side-goes-on sizes ss last Right e h p some above k =
    let t : TermData = (summand_at ss last).term in
    let size : reduced_sizes t (free_count t.loops) ≡ sizes = sized-at sizes ss last e h in
    subst (λ (xs : List ℕ). list_any (λ c. in_term t (p ++ c ∷ [])) (below (slice_index xs (length p))) ≡ true) size
    (pruned-goes-on t (free_count t.loops) 1 p (omega (arith, some))
    (omega (arith, above, ap (λ (xs : List ℕ). length xs) size)) k)

-- a full prefix is in a side where it has a value there
pub side-full : (sizes : List ℕ) (ss : List Summand) (last : ℕ) (side : Side) → EachSized sizes ss → last < length ss
    → (p : List ℕ) → 0 < length p → length p ≡ length sizes
    → (side_part ss last side).has p ≡ is_some ((side_part ss last side).value p)
side-full sizes ss last Left e h p some full = join-full sizes (take last ss) (sized-before sizes ss last e) p some full
side-full sizes ss last Right e h p some full =
    let t : TermData = (summand_at ss last).term in
    term-full t p some (omega (arith, full, ap (λ (xs : List ℕ). length xs) (sized-at sizes ss last e h)))

-- the left side of the second term is the first term alone, which is added
pub side-first : (ss : List Summand) → 0 < length ss → (summand_at ss 0).minus ≡ false
    → side_part ss 1 Left ≡ side_part ss 0 Right
side-first [] h m = absurd (omega (arith, h))
side-first (s ∷ ss) h m =
    ap (λ (has : List ℕ → Bool). record { has = has; value = (join_of (s ∷ [])).value })
    (fun_ext (λ p. or-false (in_term s.term p)))
    ∙ ap (λ (value : List ℕ → Leaf). record { has = in_term s.term; value = value })
    (fun_ext (λ p. plus-none (signed s p) ∙ ap (λ b. cond b (negated (value_term s.term p)) (value_term s.term p)) m))

-- ---- the first level

-- both streams of a level: its coordinates, and its values
abbrev pub SameLevel : Shape → Shape → Type 0
SameLevel a b = (stream_at a Coordinate ≡ stream_at b Coordinate) × (stream_at a Value ≡ stream_at b Value)

module _ (sizes : List ℕ) (ss : List Summand) where
  -- what is told of a part's prefixes of length 1 is told beside a join of which it is a side
  first_beside : (n : ℕ) (side : Side) (part : Part) (tok : List ℕ → Leaf) → n < length ss → side_part ss n side ≡ part
      → flat leaf (on_tokens tok (path_fibers part.has sizes 1))
      ≡ flat leaf (on_tokens tok (path_fibers (in_beside ss n side 1) sizes 1))
  first_beside n side part tok h same =
      ap (λ (x : Part). flat leaf (on_tokens tok (path_fibers x.has sizes 1))) (sym same)
      ∙ ap (flat leaf)
      (tokens-suc (side_part ss n side).has sizes 0 tok ∙ sym (beside-tokens sizes ss n side 0 tok (joined-root ss n h)))

  term_beside : (t : TermData) (n : ℕ) (side : Side) → n < length ss → reduced_sizes t (free_count t.loops) ≡ sizes
      → side_part ss n side ≡ record { has = in_term t; value = value_term t }
      → SameLevel (reduced_shape t (free_count t.loops) 1 1) (beside_shape sizes ss n side 1)
  term_beside t n side h size same = (
    stream_at-flat (reduced_shape t (free_count t.loops) 1 1) Coordinate
        ∙ ap (λ (xs : List ℕ). flat leaf (on_tokens (λ p. Some (last p)) (path_fibers (in_term t) xs 1))) size
        ∙ first_beside n side term (λ p. Some (last p)) h same
        ∙ sym (stream_at-flat (beside_shape sizes ss n side 1) Coordinate),
    stream_at-flat (reduced_shape t (free_count t.loops) 1 1) Value
        ∙ ap (λ (xs : List ℕ). flat leaf (on_tokens (value_term t) (path_fibers (in_term t) xs 1))) size
        ∙ first_beside n side term (value_term t) h same
        ∙ ap (λ (x : Part). flat leaf (on_tokens x.value (path_fibers (in_beside ss n side 1) sizes 1))) (sym same)
        ∙ sym (stream_at-flat (beside_shape sizes ss n side 1) Value),
  )
    where
      term : Part
      term = record { has = in_term t; value = value_term t }

  -- a term's first level, pruned, is the one beside the join that it ends
  pub right-first : (n : ℕ) → EachSized sizes ss → n < length ss
      → let t : TermData = (summand_at ss n).term in
      SameLevel (reduced_shape t (free_count t.loops) 1 1) (beside_shape sizes ss n Right 1)
  right-first n e h = term_beside (summand_at ss n).term n Right h (sized-at sizes ss n e h) refl

  -- the first term's is also the one beside the first join, on the left, where the term is added
  pub left-first : EachSized sizes ss → 1 < length ss → (summand_at ss 0).minus ≡ false
      → let t : TermData = (summand_at ss 0).term in
      SameLevel (reduced_shape t (free_count t.loops) 1 1) (beside_shape sizes ss 1 Left 1)
  left-first e h m =
      term_beside (summand_at ss 0).term 1 Left h (sized-at sizes ss 0 e (omega (arith, h))) (side-first ss (omega (arith, h)) m)

  -- and that of a join is the one beside the next join, on the left
  pub join-first : (n : ℕ) → suc n < length ss → SameLevel (joined_shape sizes ss n 1) (beside_shape sizes ss (suc n) Left 1)
  join-first n h = (
    stream_at-flat (joined_shape sizes ss n 1) Coordinate
        ∙ first_beside (suc n) Left (join_upto ss n) (λ p. Some (last p)) h refl
        ∙ sym (stream_at-flat (beside_shape sizes ss (suc n) Left 1) Coordinate),
    stream_at-flat (joined_shape sizes ss n 1) Value
        ∙ first_beside (suc n) Left (join_upto ss n) (join_upto ss n).value h refl
        ∙ sym (stream_at-flat (beside_shape sizes ss (suc n) Left 1) Value),
  )
