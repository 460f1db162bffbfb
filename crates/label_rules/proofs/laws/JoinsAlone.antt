-- Joins of results without levels, where each term has one value: what a sum or a difference gives of the terms before one
-- and of its own value.
use Rattle.std.specs.Prelude.{◌≡◌, ◌<◌, ℕ, suc, ◌-◌, true, false, cond, List, [], ◌∷◌, length, take, refl}
use Rattle.std.proofs.Common.{arith, inr, sym, ◌∙◌, ap, subst}
use Rattle.stream_tokens.specs.declared.Token.{Token}
use Rattle.stream_tokens.specs.declared.Token.TheVariants.{Done}
use Rattle.stream_tokens.specs.Nest.{Leaf, leaf}
use Rattle.block_core.specs.Arithmetic.{Operation, Plus, Minus, combined_leaf}
use Rattle.block_core.specs.Kind.{AluKind}
use Rattle.block_core.proofs.Given.{Gives, alu-over}
use Rattle.stream_model.specs.declared.labels.Side.TheVariants.{Left}
use Rattle.stream_model.specs.declared.labels.Attr.TheVariants.{Value}
use Rattle.stream_model.specs.Terms.{TermData, Summand, summand_at}
use Rattle.stream_model.specs.Trees.{free_count, value_term}
use Rattle.stream_model.specs.Joins.{negated, join_of, join_upto, side_part}
use Rattle.stream_model.specs.Labels.{reduced_shape, joined_shape, stream_at}
use Rattle.stream_model.proofs.Sides.{joined-first}
use Rattle.label_rules.proofs.laws.ItemStreams.{gives-same}
use Rattle.label_rules.proofs.laws.JoinValues.{joining, joined-combined}

-- the stream of one value
abbrev alone : Leaf → List Token
alone x = leaf x ∷ Done ∷ []

alone_gives : (op : Operation) (x y z : Leaf) → combined_leaf op x y ≡ z → Gives (AluKind op) (alone x ∷ alone y ∷ []) (alone z ∷ [])
alone_gives op x y z e =
    gives-same (AluKind op) _ _ _ _ refl (ap (λ (o : Leaf). alone o ∷ []) e)
    (alu-over op (λ (u : Unit {0}). x) (λ u. y) ((tt ∷ [], 0) ∷ []) (inr (tt, refl))
    ((0, omega arith, x, refl), ((0, omega arith, y, refl), tt)))

-- the value of a term whose loops are all gone
abbrev pub term_alone : TermData → List Token
term_alone t = stream_at (reduced_shape t (free_count t.loops) 9 0) Value

-- and that of the terms up to number n, joined
abbrev pub joined_alone : List Summand → ℕ → List Token
joined_alone ss n = stream_at (joined_shape [] ss n 0) Value

-- a first term that is added is joined already
pub first-alone : (ss : List Summand) → 0 < length ss → (summand_at ss 0).minus ≡ false
    → term_alone (summand_at ss 0).term ≡ joined_alone ss 0
first-alone [] h m = absurd (omega (arith, h))
first-alone (s ∷ ss) h m =
    ap alone (ap (λ b. cond b (negated (value_term s.term [])) (value_term s.term [])) (sym m) ∙ sym (joined-first s ss []).1)

-- ---- one term more

module _ (ss : List Summand) (n : ℕ) (later : 0 < n) (inside : n < length ss) where
  -- an operation gives the terms up to number n of those before it and of its own
  abbrev Joins : Operation → Type 0
  Joins op = Gives (AluKind op) (joined_alone ss (n - 1) ∷ term_alone (summand_at ss n).term ∷ []) (joined_alone ss n ∷ [])

  value_before : (join_upto ss (n - 1)).value [] ≡ (side_part ss n Left).value []
  value_before = let e : suc (n - 1) ≡ n = omega (arith, later) in ap (λ (k : ℕ). (join_of (take k ss)).value []) e

  joins : Joins (joining (summand_at ss n).minus)
  joins =
      let op : Operation = joining (summand_at ss n).minus in
      let own : Leaf = value_term (summand_at ss n).term [] in
      alone_gives op ((join_upto ss (n - 1)).value []) own ((join_upto ss n).value [])
      (ap (λ (o : Leaf). combined_leaf op o own) value_before ∙ joined-combined ss n inside [])

  -- the values of the terms before one and its own give theirs together by a sum, where it is added
  pub sum-alone : (summand_at ss n).minus ≡ false
      → Gives (AluKind Plus) (joined_alone ss (n - 1) ∷ term_alone (summand_at ss n).term ∷ []) (joined_alone ss n ∷ [])
  sum-alone m = subst (λ b. Joins (joining b)) m joins

  -- and by a difference, where it is taken away
  pub difference-alone : (summand_at ss n).minus ≡ true
      → Gives (AluKind Minus) (joined_alone ss (n - 1) ∷ term_alone (summand_at ss n).term ∷ []) (joined_alone ss n ∷ [])
  difference-alone m = subst (λ b. Joins (joining b)) m joins
