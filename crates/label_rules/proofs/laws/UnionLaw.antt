-- A union of the two sides of a join gives the coordinates of the join, with what is told of the side that has each.
use Rattle.std.specs.Prelude.{◌≡◌, ◌<◌, ◌≤◌, ℕ, zero, suc, Bool, cond, ◌||◌, List, [], ◌∷◌, ◌++◌, length, None, refl}
use Rattle.std.proofs.Common.{arith, ◌∙◌, ap}
use Rattle.stream_tokens.specs.declared.Token.{Token}
use Rattle.block_core.specs.Kind.{UnionKind}
use Rattle.block_core.proofs.Given.{Gives}
use Rattle.stream_model.specs.declared.labels.Side.{Side}
use Rattle.stream_model.specs.declared.labels.Side.TheVariants.{Left, Right}
use Rattle.stream_model.specs.declared.labels.Attr.{Attr}
use Rattle.stream_model.specs.declared.labels.Attr.TheVariants.{Coordinate, Present, Literal}
use Rattle.stream_model.specs.Grow.{path_fibers}
use Rattle.stream_model.specs.Terms.{Summand}
use Rattle.stream_model.specs.Joins.{join_upto, side_part}
use Rattle.stream_model.specs.Labels.{only_where, joined_shape, beside_shape, token, stream_at}
use Rattle.stream_model.specs.Tellings.{Prefixes, Telling, coordinate, told, deeper}
use Rattle.stream_model.proofs.Grown.{InTree, path_fibers-suc, paths-InTree}
use Rattle.stream_model.proofs.Levels.{stream-over, told-same, level-beneath, deeper-same}
use Rattle.stream_model.proofs.Sides.{joined-has}
use Rattle.label_rules.proofs.laws.ItemStreams.{gives-same}
use Rattle.label_rules.proofs.laws.JoinSides.{joined-root}
use Rattle.label_rules.proofs.laws.MergeLaws.{unite-law}

-- ---- the terms up to number n, joined

module _ (sizes : List ℕ) (ss : List Summand) (n : ℕ) where
  -- the streams of the join, and those of a side beneath it
  abbrev pub joined_stream : ℕ → Attr → List Token
  joined_stream d a = stream_at (joined_shape sizes ss n d) a

  abbrev pub beside_stream : Side → ℕ → Attr → List Token
  beside_stream side d a = stream_at (beside_shape sizes ss n side d) a

  -- At the prefixes of length d, attribute o of the join tells what attribute a of a side does where the side has the
  -- prefix, and nothing elsewhere.
  abbrev pub TellsSide : ℕ → Side → Attr → Attr → Type 0
  TellsSide d side a o = (p : List ℕ) → length p ≡ d
      → token (joined_shape sizes ss n d) o p
      ≡ cond ((side_part ss n side).has p) (token (beside_shape sizes ss n side d) a p) None

-- where there are so many terms
module _ (sizes : List ℕ) (ss : List Summand) (n : ℕ) (inside : n < length ss) where
  abbrev has : Side → List ℕ → Bool
  has side = (side_part ss n side).has

  abbrev above : ℕ → Prefixes
  above d = path_fibers (join_upto ss n).has sizes d

  beside_beneath : (s : Side) (d : ℕ) (a : Attr)
      → beside_stream sizes ss n s (suc d) a ≡ told (token (beside_shape sizes ss n s (suc d)) a) (deeper (has s) sizes (above d))
  beside_beneath s d a =
      stream-over (beside_shape sizes ss n s (suc d)) a
      ∙ ap (told (token (beside_shape sizes ss n s (suc d)) a))
      (level-beneath (join_upto ss n).has (has s) sizes d (joined-root ss n inside))

  join_beneath : (d : ℕ) (a : Attr) (x : Telling) → ((p : List ℕ) → length p ≡ suc d → token (joined_shape sizes ss n (suc d)) a p ≡ x p)
      → joined_stream sizes ss n (suc d) a ≡ told x (deeper (λ q. has Left q || has Right q) sizes (above d))
  join_beneath d a x h =
      stream-over (joined_shape sizes ss n (suc d)) a
      ∙ told-same (token (joined_shape sizes ss n (suc d)) a) x (join_upto ss n).has sizes (suc d) (joined-root ss n inside)
      (λ p i. h p i.count)
      ∙ ap (told x)
      (path_fibers-suc (join_upto ss n).has sizes d
      ∙ deeper-same (InTree (join_upto ss n).has sizes d) (join_upto ss n).has (λ q. has Left q || has Right q) sizes sizes (above d)
      (paths-InTree (join_upto ss n).has sizes (joined-root ss n inside) d) (λ p i. refl) (λ p c i. joined-has ss n (p ++ c ∷ []) inside))

  -- The coordinates of both sides with one payload each give those of the join, with the payload of each side where the
  -- side has the coordinate.
  pub union-law : (d : ℕ) (a b l r : Attr) → 0 < d → d ≤ 200 → TellsSide sizes ss n d Left a l → TellsSide sizes ss n d Right b r
      → Gives (UnionKind 1 1)
      (beside_stream sizes ss n Left d Coordinate ∷ beside_stream sizes ss n Left d a
      ∷ beside_stream sizes ss n Right d Coordinate ∷ beside_stream sizes ss n Right d b ∷ [])
      (joined_stream sizes ss n d Coordinate ∷ joined_stream sizes ss n d l ∷ joined_stream sizes ss n d r ∷ [])
  union-law zero a b l r h k left right = absurd (omega (arith, h))
  union-law (suc d) a b l r h k left right =
      let x = token (beside_shape sizes ss n Left (suc d)) a in
      let y = token (beside_shape sizes ss n Right (suc d)) b in
      gives-same (UnionKind 1 1) _ _ _ _
      (rw (
        beside_beneath Left d Coordinate,
        beside_beneath Left d a,
        beside_beneath Right d Coordinate,
        beside_beneath Right d b,
      ) refl)
      (rw (
        join_beneath d Coordinate coordinate (λ p e. refl),
        join_beneath d l (only_where (has Left) x) left,
        join_beneath d r (only_where (has Right) y) right,
      ) refl)
      (unite-law (join_upto ss n).has (has Left) (has Right) sizes d (joined-root ss n inside) k (x ∷ []) (y ∷ []))

  -- Coordinates of both sides with ones give those of the join, with a one for each side that has the coordinate.
  pub union-presence : (d : ℕ) → 0 < d → d ≤ 200
      → Gives (UnionKind 1 1)
      (beside_stream sizes ss n Left d Coordinate ∷ beside_stream sizes ss n Left d (Literal 1)
      ∷ beside_stream sizes ss n Right d Coordinate ∷ beside_stream sizes ss n Right d (Literal 1) ∷ [])
      (joined_stream sizes ss n d Coordinate
      ∷ joined_stream sizes ss n d (Present Left) ∷ joined_stream sizes ss n d (Present Right) ∷ [])
  union-presence d h k = union-law d (Literal 1) (Literal 1) (Present Left) (Present Right) h k (λ p e. refl) (λ p e. refl)
