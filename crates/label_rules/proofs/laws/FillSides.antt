-- What fill gives of the sides of a join: its last term, pruned; the first term, pruned, where that is the left side; and
-- the join before it.
use Rattle.std.specs.Prelude.{◌≡◌, ◌<◌, ◌≤◌, ℕ, suc, false, List, [], ◌∷◌, length, take, refl}
use Rattle.std.proofs.Common.{arith, sym, ap, subst}
use Rattle.stream_model.specs.declared.labels.Side.TheVariants.{Left, Right}
use Rattle.stream_model.specs.declared.labels.Attr.TheVariants.{Coordinate, Value, Present}
use Rattle.stream_model.specs.Grow.{next}
use Rattle.stream_model.specs.Terms.{TermData, Summand, summand_at}
use Rattle.stream_model.specs.Trees.{free_count, reduced_sizes, in_pruned, in_term}
use Rattle.stream_model.specs.Joins.{Part, side_part}
use Rattle.stream_model.specs.Labels.{Shape, reduced_shape, joined_shape, beside_shape, stream_at}
use Rattle.stream_model.proofs.Flat.{ClosedUnder}
use Rattle.stream_model.proofs.Sides.{pruned-root, pruned-closed}
use Rattle.stream_model.proofs.Results.{EachSized, join-closed}
use Rattle.stream_model.proofs.Fills.{pruned-alike}
use Rattle.block_core.specs.Kind.{FillKind}
use Rattle.block_core.proofs.Given.{Gives}
use Rattle.label_rules.proofs.laws.JoinSides.{sized-at, sized-before, joined-root, side-first}
use Rattle.label_rules.proofs.laws.FillLaw.{Widens, fill-coordinates, fill-values}

-- the n-th term, pruned from level f on, down to depth d
abbrev pub term_shape : List Summand → ℕ → ℕ → ℕ → Shape
term_shape ss n f d = let t : TermData = (summand_at ss n).term in reduced_shape t (free_count t.loops) f d

module _ (sizes : List ℕ) (ss : List Summand) (sized : EachSized sizes ss) (e : ℕ) where
  -- ---- trees that widen the sides

  -- a term widens itself, whatever level up to the last it is pruned from
  pub term-widens : (n f : ℕ) → n < length ss → 0 < f → f ≤ suc e
      → Widens (side_part ss n Right) sizes e (term_shape ss n f (suc e))
  term-widens n f inside some low = record {
    depth_is = refl;
    sizes_are = size;
    root = pruned-root t g f some;
    closed = subst (ClosedUnder (in_pruned t g f)) size (pruned-closed t g f);
    alike =
        λ p k.
        subst (λ (xs : List ℕ). next (in_pruned t g f) xs p ≡ next (in_term t) xs p) size
        (pruned-alike t g f 1 p (omega (arith, k, low)) (omega arith));
  }
    where
      t : TermData
      t = (summand_at ss n).term

      g : ℕ
      g = free_count t.loops

      size : reduced_sizes t g ≡ sizes
      size = sized-at sizes ss n sized inside

  -- the first term widens the left side of the first join, where it is added
  pub first-widens : (f : ℕ) → 1 < length ss → (summand_at ss 0).minus ≡ false → 0 < f → f ≤ suc e
      → Widens (side_part ss 1 Left) sizes e (term_shape ss 0 f (suc e))
  first-widens f inside plus some low =
      subst (λ (part : Part). Widens part sizes e (term_shape ss 0 f (suc e))) (sym (side-first ss (omega (arith, inside)) plus))
      (term-widens 0 f (omega (arith, inside)) some low)

  -- a join widens the left side of the next join, which it is
  pub join-widens : (n : ℕ) → n < length ss → Widens (side_part ss (suc n) Left) sizes e (joined_shape sizes ss n (suc e))
  join-widens n inside = record {
    depth_is = refl;
    sizes_are = refl;
    root = joined-root ss n inside;
    closed = join-closed sizes (take (suc n) ss) (sized-before sizes ss (suc n) sized);
    alike = λ p k. refl;
  }

  -- ---- coordinates

  module _ (some : 0 < e) (above : e < length sizes) (few : length sizes < 9) where
    -- of the n-th term beside the join that it ends
    pub right-fill-coordinates : (n f : ℕ) → n < length ss → 0 < f → f ≤ suc e
        → Gives (FillKind 0)
        (stream_at (joined_shape sizes ss n e) (Present Right) ∷ stream_at (term_shape ss n f (suc e)) Coordinate ∷ [])
        (stream_at (beside_shape sizes ss n Right (suc e)) Coordinate ∷ [])
    right-fill-coordinates n f inside deep low =
        fill-coordinates sizes ss n Right e sized inside some above few (term_shape ss n f (suc e))
        (term-widens n f inside deep low)

    -- of the first term beside the first join, where it is added
    pub first-fill-coordinates : (f : ℕ) → 1 < length ss → (summand_at ss 0).minus ≡ false → 0 < f → f ≤ suc e
        → Gives (FillKind 0)
        (stream_at (joined_shape sizes ss 1 e) (Present Left) ∷ stream_at (term_shape ss 0 f (suc e)) Coordinate ∷ [])
        (stream_at (beside_shape sizes ss 1 Left (suc e)) Coordinate ∷ [])
    first-fill-coordinates f inside plus deep low =
        fill-coordinates sizes ss 1 Left e sized inside some above few (term_shape ss 0 f (suc e))
        (first-widens f inside plus deep low)

    -- of a join beside the next join
    pub left-fill-coordinates : (n : ℕ) → suc n < length ss
        → Gives (FillKind 0)
        (stream_at (joined_shape sizes ss (suc n) e) (Present Left) ∷ stream_at (joined_shape sizes ss n (suc e)) Coordinate ∷ [])
        (stream_at (beside_shape sizes ss (suc n) Left (suc e)) Coordinate ∷ [])
    left-fill-coordinates n inside =
        fill-coordinates sizes ss (suc n) Left e sized inside some above few (joined_shape sizes ss n (suc e))
        (join-widens n (omega (arith, inside)))

  -- ---- coordinates and values, on the last level

  module _ (some : 0 < e) (full : suc e ≡ length sizes) (few : length sizes < 9) where
    -- of the n-th term beside the join that it ends
    pub right-fill-values : (n f f' : ℕ) → n < length ss → 0 < f → f ≤ suc e → 0 < f' → f' ≤ suc e
        → Gives (FillKind 1)
        (stream_at (joined_shape sizes ss n e) (Present Right) ∷ stream_at (term_shape ss n f (suc e)) Coordinate
        ∷ stream_at (term_shape ss n f' (suc e)) Value ∷ [])
        (stream_at (beside_shape sizes ss n Right (suc e)) Coordinate
        ∷ stream_at (beside_shape sizes ss n Right (suc e)) Value ∷ [])
    right-fill-values n f f' inside deep low deep' low' =
        fill-values sizes ss n Right e sized inside some (omega (arith, full)) few full
        (term_shape ss n f (suc e)) (term_shape ss n f' (suc e))
        (term-widens n f inside deep low) (term-widens n f' inside deep' low') (λ p k h. refl)

    -- of the first term beside the first join, where it is added
    pub first-fill-values : (f f' : ℕ) → 1 < length ss → (summand_at ss 0).minus ≡ false → 0 < f → f ≤ suc e → 0 < f' → f' ≤ suc e
        → Gives (FillKind 1)
        (stream_at (joined_shape sizes ss 1 e) (Present Left) ∷ stream_at (term_shape ss 0 f (suc e)) Coordinate
        ∷ stream_at (term_shape ss 0 f' (suc e)) Value ∷ [])
        (stream_at (beside_shape sizes ss 1 Left (suc e)) Coordinate
        ∷ stream_at (beside_shape sizes ss 1 Left (suc e)) Value ∷ [])
    first-fill-values f f' inside plus deep low deep' low' =
        fill-values sizes ss 1 Left e sized inside some (omega (arith, full)) few full
        (term_shape ss 0 f (suc e)) (term_shape ss 0 f' (suc e))
        (first-widens f inside plus deep low) (first-widens f' inside plus deep' low')
        (λ p k h. ap (λ (part : Part). part.value p) (sym (side-first ss (omega (arith, inside)) plus)))

    -- of a join beside the next join
    pub left-fill-values : (n : ℕ) → suc n < length ss
        → Gives (FillKind 1)
        (stream_at (joined_shape sizes ss (suc n) e) (Present Left) ∷ stream_at (joined_shape sizes ss n (suc e)) Coordinate
        ∷ stream_at (joined_shape sizes ss n (suc e)) Value ∷ [])
        (stream_at (beside_shape sizes ss (suc n) Left (suc e)) Coordinate
        ∷ stream_at (beside_shape sizes ss (suc n) Left (suc e)) Value ∷ [])
    left-fill-values n inside =
        fill-values sizes ss (suc n) Left e sized inside some (omega (arith, full)) few full
        (joined_shape sizes ss n (suc e)) (joined_shape sizes ss n (suc e))
        (join-widens n (omega (arith, inside))) (join-widens n (omega (arith, inside))) (λ p k h. refl)
