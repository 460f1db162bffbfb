-- How statements are written: expressions with their parentheses, what each means, and how its tokens stand.
use Rattle.std.specs.Prelude.{ℕ, ◌+◌, Bool, true, false, ◌&&◌, List, [], ◌∷◌, ◌++◌, nat_le, max}
use Rattle.notation.specs.declared.statement.AccessText.{AccessText}
use Rattle.notation.specs.declared.tokens.Token.TheVariants as t
use Rattle.notation.specs.Trees.{TextTree, Access, Literal, Sum, TopTextTree, product_of, sum_of}
use Rattle.notation.specs.Marks.{Mark, bare_mark, placed_mark, access_marks}

mutual
  pub data FactorForm : Type 0 where
    access : AccessText → FactorForm
    literal : ℕ → FactorForm
    group : ExprForm → FactorForm
    sum : (var : List ℕ) (place : ℕ) → ExprForm → FactorForm

  pub data TermForm : Type 0 where
    one : FactorForm → TermForm
    times : TermForm → FactorForm → TermForm

  pub data ExprForm : Type 0 where
    first : (minus : Bool) → TermForm → ExprForm
    more : ExprForm → (minus : Bool) → TermForm → ExprForm

-- ---- what they mean

abbrev mutual
  pub factor_tree : FactorForm → TextTree
  factor_tree (access a) = Access a
  factor_tree (literal n) = Literal n
  factor_tree (group e) = sum_of (expr_terms e)
  factor_tree (sum v place e) = Sum v place (sum_of (expr_terms e))

  pub term_factors : TermForm → List TextTree
  term_factors (one f) = factor_tree f ∷ []
  term_factors (times x f) = term_factors x ++ factor_tree f ∷ []

  pub expr_terms : ExprForm → List TopTextTree
  expr_terms (first minus x) = (record { minus = minus; body = product_of (term_factors x) }) ∷ []
  expr_terms (more e minus x) = expr_terms e ++ (record { minus = minus; body = product_of (term_factors x) }) ∷ []

-- ---- how they are spelled

-- what stands before a first term, and between terms
abbrev pub first_sign : Bool → List Mark
first_sign true = bare_mark t.Minus ∷ []
first_sign false = []

abbrev pub sign : Bool → Mark
sign true = bare_mark t.Minus
sign false = bare_mark t.Plus

abbrev mutual
  pub factor_marks : FactorForm → List Mark
  factor_marks (access a) = access_marks a
  factor_marks (literal n) = bare_mark (t.Number n) ∷ []
  factor_marks (group e) = bare_mark t.Open ∷ (expr_marks e ++ bare_mark t.Close ∷ [])
  factor_marks (sum v place e) =
      placed_mark t.Sum place ∷ bare_mark t.Open ∷ bare_mark (t.Name v) ∷ bare_mark t.Comma ∷ (expr_marks e ++ bare_mark t.Close ∷ [])

  pub term_marks : TermForm → List Mark
  term_marks (one f) = factor_marks f
  term_marks (times x f) = term_marks x ++ bare_mark t.Star ∷ factor_marks f

  pub expr_marks : ExprForm → List Mark
  expr_marks (first minus x) = first_sign minus ++ term_marks x
  expr_marks (more e minus x) = expr_marks e ++ sign minus ∷ term_marks x

-- ---- how many terms and factors there are, and how deep it is

abbrev pub factor_count : TermForm → ℕ
factor_count (one f) = 1
factor_count (times x f) = factor_count x + 1

abbrev pub term_count : ExprForm → ℕ
term_count (first minus x) = 1
term_count (more e minus x) = term_count e + 1

-- each expression in it has at most 16 terms, and each term at most 8 factors
abbrev mutual
  pub factor_fits : FactorForm → Bool
  factor_fits (access a) = true
  factor_fits (literal n) = true
  factor_fits (group e) = expr_fits e
  factor_fits (sum v place e) = expr_fits e

  pub term_fits : TermForm → Bool
  term_fits (one f) = factor_fits f
  term_fits (times x f) = nat_le (factor_count (times x f)) 8 && (term_fits x && factor_fits f)

  pub expr_fits : ExprForm → Bool
  expr_fits (first minus x) = term_fits x
  expr_fits (more e minus x) = nat_le (term_count (more e minus x)) 16 && (expr_fits e && term_fits x)

-- how many parentheses and sums lie within one another
abbrev mutual
  pub factor_depth : FactorForm → ℕ
  factor_depth (access a) = 0
  factor_depth (literal n) = 0
  factor_depth (group e) = expr_depth e + 1
  factor_depth (sum v place e) = expr_depth e + 1

  pub term_depth : TermForm → ℕ
  term_depth (one f) = factor_depth f
  term_depth (times x f) = max (term_depth x) (factor_depth f)

  pub expr_depth : ExprForm → ℕ
  expr_depth (first minus x) = term_depth x
  expr_depth (more e minus x) = max (expr_depth e) (term_depth x)
