-- The values of a join: a side has a full prefix where it has a value there, and the values of both sides added, or the
-- right's taken from the left's.
use Rattle.std.specs.Prelude.{◌≡◌, ◌<◌, ◌≤◌, ℕ, ◌-◌, ◌^◌, Bool, true, false, cond, List, [], ◌∷◌, length, Some, None, is_some, refl}
use Rattle.std.proofs.Common.{arith, sym, ◌∙◌, ap, subst}
use Rattle.std.proofs.Math.Nat.{add-mod-mod}
use Rattle.stream_tokens.specs.Nest.{Leaf}
use Rattle.block_core.specs.Arithmetic.{Operation, Plus, Minus, combined_leaf}
use Rattle.block_core.specs.Kind.{UnionKind, AluKind}
use Rattle.block_core.proofs.Given.{Gives}
use Rattle.stream_model.specs.declared.labels.Side.{Side}
use Rattle.stream_model.specs.declared.labels.Side.TheVariants.{Left, Right}
use Rattle.stream_model.specs.declared.labels.Attr.TheVariants.{Coordinate, Value, SideValue}
use Rattle.stream_model.specs.Terms.{Summand, summand_at}
use Rattle.stream_model.specs.Trees.{plus_there}
use Rattle.stream_model.specs.Joins.{negated, join_upto, side_part}
use Rattle.stream_model.specs.Labels.{joined_shape}
use Rattle.stream_model.proofs.Sides.{joined-value}
use Rattle.stream_model.proofs.Results.{EachSized}
use Rattle.label_rules.proofs.laws.Totals.{plus-combined}
use Rattle.label_rules.proofs.laws.ValueLaws.{combined-gives}
use Rattle.label_rules.proofs.laws.JoinSides.{side-full}
use Rattle.label_rules.proofs.laws.UnionLaw.{joined_stream, beside_stream, union-law}

-- ---- full prefixes have values

there_alone : (o : Leaf) (b : Bool) → is_some o ≡ b → o ≡ cond b o None
there_alone None true e = refl
there_alone None false e = refl
there_alone (Some v) true e = refl
there_alone (Some v) false e = absurd (cc)

-- ---- the terms up to number n, joined

-- a difference adds what is negated
minus_negated : (a b : Leaf) → combined_leaf Minus a b ≡ plus_there a (negated b)
minus_negated None None = refl
minus_negated None (Some b) = refl
minus_negated (Some a) None = refl
minus_negated (Some a) (Some b) = ap (λ (v : ℕ). Some v) (sym (add-mod-mod a (2 ^ 64 - b) (2 ^ 64)))

-- what joins a term to those before it
abbrev pub joining : Bool → Operation
joining minus = cond minus Minus Plus

joining_is : (minus : Bool) (a b : Leaf) → combined_leaf (joining minus) a b ≡ plus_there a (cond minus (negated b) b)
joining_is true a b = minus_negated a b
joining_is false a b = plus-combined a b

-- the value of a join, from those of its sides
pub joined-combined : (ss : List Summand) (n : ℕ) → n < length ss → (p : List ℕ)
    → combined_leaf (joining (summand_at ss n).minus) ((side_part ss n Left).value p) ((side_part ss n Right).value p)
    ≡ (join_upto ss n).value p
joined-combined ss n inside p =
    joining_is (summand_at ss n).minus ((side_part ss n Left).value p) ((side_part ss n Right).value p)
    ∙ sym (joined-value ss n p inside)

module _ (sizes : List ℕ) (ss : List Summand) (n : ℕ) (inside : n < length ss) where
  -- ---- unions

  side_value : EachSized sizes ss → (side : Side) (p : List ℕ) → 0 < length p → length p ≡ length sizes
      → (side_part ss n side).value p ≡ cond ((side_part ss n side).has p) ((side_part ss n side).value p) None
  side_value each Left p h k =
      there_alone ((side_part ss n Left).value p) ((side_part ss n Left).has p)
      (sym (side-full sizes ss n Left each inside p h k))
  side_value each Right p h k =
      there_alone ((side_part ss n Right).value p) ((side_part ss n Right).has p)
      (sym (side-full sizes ss n Right each inside p h k))

  -- The last coordinates of both sides with their values give those of the join, with the value of each side.
  pub union-values : (d : ℕ) → EachSized sizes ss → d ≡ length sizes → 0 < d → d ≤ 200
      → Gives (UnionKind 1 1)
      (beside_stream sizes ss n Left d Coordinate ∷ beside_stream sizes ss n Left d Value
      ∷ beside_stream sizes ss n Right d Coordinate ∷ beside_stream sizes ss n Right d Value ∷ [])
      (joined_stream sizes ss n d Coordinate
      ∷ joined_stream sizes ss n d (SideValue Left) ∷ joined_stream sizes ss n d (SideValue Right) ∷ [])
  union-values d each full h k =
      union-law sizes ss n inside d Value Value (SideValue Left) (SideValue Right) h k
      (λ p e. side_value each Left p (omega (arith, e, h)) (e ∙ full))
      (λ p e. side_value each Right p (omega (arith, e, h)) (e ∙ full))

  -- ---- sums

  -- an operation gives the values of the join of those of its sides
  abbrev Joins : ℕ → Operation → Type 0
  Joins d op =
      Gives (AluKind op)
      (joined_stream sizes ss n d (SideValue Left) ∷ joined_stream sizes ss n d (SideValue Right) ∷ [])
      (joined_stream sizes ss n d Value ∷ [])

  joins : (d : ℕ) → d ≤ 200 → Joins d (joining (summand_at ss n).minus)
  joins d h =
      combined-gives (joining (summand_at ss n).minus) (joined_shape sizes ss n d) (SideValue Left) (SideValue Right) Value h
      (joined-combined ss n inside)

  -- the values of both sides give those of the join by a sum, where the last term is added
  pub sum-gives : (d : ℕ) → d ≤ 200 → (summand_at ss n).minus ≡ false
      → Gives (AluKind Plus)
      (joined_stream sizes ss n d (SideValue Left) ∷ joined_stream sizes ss n d (SideValue Right) ∷ [])
      (joined_stream sizes ss n d Value ∷ [])
  sum-gives d h m = subst (λ b. Joins d (joining b)) m (joins d h)

  -- and by a difference, where it is taken away
  pub difference-gives : (d : ℕ) → d ≤ 200 → (summand_at ss n).minus ≡ true
      → Gives (AluKind Minus)
      (joined_stream sizes ss n d (SideValue Left) ∷ joined_stream sizes ss n d (SideValue Right) ∷ [])
      (joined_stream sizes ss n d Value ∷ [])
  difference-gives d h m = subst (λ b. Joins d (joining b)) m (joins d h)
