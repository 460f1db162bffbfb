-- The table of positions: what each token does where it stands.
use Rattle.std.specs.Prelude.{ℕ, List, [], ◌∷◌, ◌++◌, length, Bool, true, false, Result, Ok, Err, nat_lt, if◌then◌else◌}
use Rattle.sam_base.specs.declared.faults.NoteKind.{NoteKind}
use Rattle.sam_base.specs.declared.faults.NoteKind.TheVariants as k
use Rattle.notation.specs.declared.tokens.Token.{Token}
use Rattle.notation.specs.declared.tokens.Token.TheVariants as t
use Rattle.notation.specs.declared.tokens.Placed.{Placed}
use Rattle.notation.specs.declared.statement.AccessText.{AccessText}
use Rattle.notation.specs.declared.statement.Statement.{Statement}
use Rattle.notation.specs.Trees.{TextTree, Access, Literal, Sum, TopTextTree, product_of, sum_of}
use Rattle.notation.specs.Refusals.{NoteRefusal}
use Rattle.notation.specs.Tokens.{tokens_of}
use Rattle.notation.specs.declared.state.Opened.{Opened}
use Rattle.notation.specs.declared.state.Opened.TheVariants as o
use Rattle.notation.specs.declared.state.Level.{Level}
use Rattle.notation.specs.declared.state.Reading.{Reading}
use Rattle.notation.specs.declared.state.State.{State}
use Rattle.notation.specs.declared.state.State.TheVariants as s

-- ---- refusals

-- A byte that begins no token is BadChar wherever it is met.
abbrev pub token_kind : Token → NoteKind → NoteKind
token_kind t.Bad kind = k.BadChar
token_kind _ kind = kind

abbrev pub refused_at : {Y : Type 0} → NoteKind → ℕ → Result Y NoteRefusal
refused_at kind place = Err (record { kind = kind; place = place })

abbrev pub note_refused : {Y : Type 0} → Token → NoteKind → ℕ → Result Y NoteRefusal
note_refused token kind place = refused_at (token_kind token kind) place

-- ---- what was read

abbrev pub named_access : List ℕ → ℕ → AccessText
named_access name place = record { name = name; vars = []; place = place }

abbrev pub with_var : AccessText → List ℕ → AccessText
with_var a var = record { name = a.name; vars = a.vars ++ var ∷ []; place = a.place }

-- an expression of which nothing was read
abbrev pub opened_level : Opened → Level
opened_level opened = record { opened = opened; terms = []; minus = false; factors = [] }

-- right behind the `=`
abbrev pub begun : AccessText → Reading
begun left = record { left = left; outer = []; level = opened_level o.Equals }

abbrev pub with_factor : Reading → TextTree → Reading
with_factor r x = record r { level = record r.level { factors = r.level.factors ++ x ∷ [] } }

abbrev pub negated : Reading → Reading
negated r = record r { level = record r.level { minus = true } }

-- the terms, with the one that was read
abbrev pub closed_term : Level → List TopTextTree
closed_term l = l.terms ++ (record { minus = l.minus; body = product_of l.factors }) ∷ []

abbrev pub next_term : Reading → Bool → Reading
next_term r minus = record r { level = record { opened = r.level.opened; terms = closed_term r.level; minus = minus; factors = [] } }

-- within an expression that is opened
abbrev pub deeper : Reading → Opened → Reading
deeper r opened = record { left = r.left; outer = r.level ∷ r.outer; level = opened_level opened }

abbrev pub factor_of : Opened → TextTree → TextTree
factor_of o.Equals e = e
factor_of o.Parenthesis e = e
factor_of (o.Sum v place) e = Sum v place e

-- the factor that an expression is, behind its `)`
abbrev pub closed_tree : Level → TextTree
closed_tree l = factor_of l.opened (sum_of (closed_term l))

abbrev pub whole_statement : Reading → Statement
whole_statement r = record { left = r.left; tops = closed_term r.level }

-- ---- what each token does

abbrev pub opens : Reading → Opened → ℕ → Result State NoteRefusal
opens r opened place = if nat_lt (length r.outer) 32 then Ok (s.First (deeper r opened)) else refused_at k.TooDeep place

-- where a factor is expected
unfoldable pub at_factor : Reading → Token → ℕ → Result State NoteRefusal
at_factor r (t.Name n) place = Ok (s.Named r (named_access n place))
at_factor r (t.Number n) place = Ok (s.Operator (with_factor r (Literal n)))
at_factor r t.Open place = opens r o.Parenthesis place
at_factor r t.Sum place = Ok (s.SumOpen r place)
at_factor r t.TooLarge place = refused_at k.NumberTooLarge place
at_factor r token place = note_refused token k.ExpectedFactor place

abbrev pub more_terms : Reading → Bool → ℕ → Result State NoteRefusal
more_terms r minus place = if nat_lt (length r.level.terms) 15 then Ok (s.Factor (next_term r minus)) else refused_at k.TooManyTerms place

-- within the expressions that stand open, the innermost first
abbrev pub closes : AccessText → List Level → Level → ℕ → Result State NoteRefusal
closes left [] level place = refused_at k.ExpectedOperator place
closes left (l ∷ ls) level place = Ok (s.Operator (with_factor (record { left = left; outer = ls; level = l }) (closed_tree level)))

-- behind a factor
unfoldable pub at_operator : Reading → Token → ℕ → Result State NoteRefusal
at_operator r t.Plus place = more_terms r false place
at_operator r t.Minus place = more_terms r true place
at_operator r t.Star place = if nat_lt (length r.level.factors) 8 then Ok (s.Factor r) else refused_at k.TooManyFactors place
at_operator r t.Close place = closes r.left r.outer r.level place
at_operator r token place = note_refused token k.ExpectedOperator place

unfoldable pub step_of : State → Token → ℕ → Result State NoteRefusal
step_of s.Start (t.Name n) place = Ok (s.LeftName (named_access n place))
step_of s.Start token place = note_refused token k.ExpectedName place
step_of (s.LeftName a) t.Open place = Ok (s.LeftVar a)
step_of (s.LeftName a) t.Equals place = Ok (s.First (begun a))
step_of (s.LeftName a) token place = note_refused token k.ExpectedEquals place
step_of (s.LeftVar a) (t.Name n) place = Ok (s.LeftNext (with_var a n))
step_of (s.LeftVar a) token place = note_refused token k.ExpectedName place
step_of (s.LeftNext a) t.Comma place = Ok (s.LeftVar a)
step_of (s.LeftNext a) t.Close place = Ok (s.LeftDone a)
step_of (s.LeftNext a) token place = note_refused token k.ExpectedComma place
step_of (s.LeftDone a) t.Equals place = Ok (s.First (begun a))
step_of (s.LeftDone a) token place = note_refused token k.ExpectedEquals place
step_of (s.First r) t.Minus place = Ok (s.Factor (negated r))
step_of (s.First r) token place = at_factor r token place
step_of (s.Factor r) token place = at_factor r token place
step_of (s.Named r a) t.Open place = Ok (s.Var r a)
step_of (s.Named r a) token place = at_operator (with_factor r (Access a)) token place
step_of (s.Var r a) (t.Name n) place = Ok (s.Next r (with_var a n))
step_of (s.Var r a) token place = note_refused token k.ExpectedName place
step_of (s.Next r a) t.Comma place = Ok (s.Var r a)
step_of (s.Next r a) t.Close place = Ok (s.Operator (with_factor r (Access a)))
step_of (s.Next r a) token place = note_refused token k.ExpectedComma place
step_of (s.SumOpen r at) t.Open place = if nat_lt (length r.outer) 32 then Ok (s.SumVar r at) else refused_at k.TooDeep place
step_of (s.SumOpen r at) token place = note_refused token k.ExpectedOpen place
step_of (s.SumVar r at) (t.Name n) place = Ok (s.SumComma r at n)
step_of (s.SumVar r at) token place = note_refused token k.ExpectedName place
step_of (s.SumComma r at n) t.Comma place = Ok (s.First (deeper r (o.Sum n at)))
step_of (s.SumComma r at n) token place = note_refused token k.ExpectedComma place
step_of (s.Operator r) token place = at_operator r token place

-- the end behind a factor
abbrev pub ends : Reading → List Level → ℕ → Result Statement NoteRefusal
ends r [] place = Ok (whole_statement r)
ends r (l ∷ ls) place = refused_at k.ExpectedOperator place

-- the end of the text
unfoldable pub end_of : State → ℕ → Result Statement NoteRefusal
end_of (s.LeftName a) place = refused_at k.ExpectedEquals place
end_of (s.LeftNext a) place = refused_at k.ExpectedComma place
end_of (s.LeftDone a) place = refused_at k.ExpectedEquals place
end_of (s.First r) place = refused_at k.ExpectedFactor place
end_of (s.Factor r) place = refused_at k.ExpectedFactor place
end_of (s.Named r a) place = ends (with_factor r (Access a)) r.outer place
end_of (s.Next r a) place = refused_at k.ExpectedComma place
end_of (s.SumOpen r at) place = refused_at k.ExpectedOpen place
end_of (s.SumComma r at n) place = refused_at k.ExpectedComma place
end_of (s.Operator r) place = ends r r.outer place
end_of _ place = refused_at k.ExpectedName place

-- from a position on, with the place of the end
unfoldable pub go : {Y Z : Type 0} → Result Y NoteRefusal → (Y → Result Z NoteRefusal) → Result Z NoteRefusal
go (Ok x) f = f x
go (Err e) f = Err e

unfoldable pub run : ℕ → State → List Placed → Result Statement NoteRefusal
run end state [] = end_of state end
run end state (x ∷ xs) = go (step_of state x.token x.place) (λ next. run end next xs)

-- what a text is read as
abbrev pub statement_reading : List ℕ → Result Statement NoteRefusal
statement_reading text = run (length text) s.Start (tokens_of text)
