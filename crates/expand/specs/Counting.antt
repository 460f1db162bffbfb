-- How many terms expressions have, and which terms are too long.
use Rattle.std.specs.Prelude.{◌≡◌, ◌<◌, ◌≤◌, ℕ, ◌+◌, ◌*◌, Bool, true, false, List, [], ◌∷◌, length, nat_lt}
use Rattle.std.specs.List.{list_any}
use Rattle.sam_base.specs.declared.TheConstants.{FACTORS_MOST, TERMS_MOST}
use Rattle.sam_model.specs.declared.program.Term.{Term}
use Rattle.sam_model.specs.Trees.{ExprTree, Access, Literal, Times, Plus, Minus, Negate, Sum, TopTree}
use Rattle.sam_model.specs.Expressions.{expanded, summed_over, with_sign}
use Rattle.expand.specs.declared.faults.ExpandFault.{ExpandFault}
use Rattle.expand.specs.declared.faults.ExpandFault.TheVariants.{Terms, Factors, OutOfMemory}

-- the number of terms of an expression
abbrev pub term_count : ExprTree → ℕ
term_count (Access n vars) = 1
term_count (Literal n) = 1
term_count (Times a b) = term_count a * term_count b
term_count (Plus a b) = term_count a + term_count b
term_count (Minus a b) = term_count a + term_count b
term_count (Negate a) = term_count a
term_count (Sum k a) = term_count a

abbrev pub terms_count : List TopTree → ℕ
terms_count [] = 0
terms_count (t ∷ tops) = term_count t.body + terms_count tops

-- the terms of a top-level term
abbrev pub top_terms : List ℕ → TopTree → List Term
top_terms sizes t = with_sign sizes t.minus (summed_over sizes t.implied (expanded sizes t.body))

-- a term has too many factors
abbrev pub is_long : Term → Bool
is_long t = nat_lt FACTORS_MOST (length t.factors)

abbrev pub have_long : List Term → Bool
have_long terms = list_any is_long terms

-- at most 16 terms, none of them too long
pub record IsShort (terms : List Term) : Type 0 where
  pub few : length terms ≤ TERMS_MOST
  pub short : have_long terms ≡ false

-- what a refusal says of the terms
abbrev pub Refused : List Term → ExpandFault → Type 0
Refused terms Terms = TERMS_MOST < length terms
Refused terms Factors = (length terms ≤ TERMS_MOST) × (have_long terms ≡ true)
Refused terms OutOfMemory = Unit {0}
