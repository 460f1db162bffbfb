-- The definitions, tried on cases by hand.
use Rattle.std.proofs.Common.{◌≡◌, ℕ, List, [], ◌∷◌, ◌++◌, replicate, true, false, Result, Ok, Err, refl, codes}
use Rattle.sam_base.specs.declared.faults.NoteKind.TheVariants as k
use Rattle.notation.specs.declared.tokens.Token.TheVariants as t
use Rattle.notation.specs.declared.tokens.Placed.{Placed}
use Rattle.notation.specs.declared.statement.Statement.{Statement}
use Rattle.notation.specs.declared.statement.AccessText.{AccessText}
use Rattle.notation.specs.Refusals.{NoteRefusal}
use Rattle.notation.specs.Tokens.{tokens_of}
use Rattle.notation.specs.Trees.{TextTree, Access, Literal, Times, Plus, Minus, Negate, Sum, TopTextTree}
use Rattle.notation.specs.Positions.{statement_reading, run, go, step_of, at_factor, at_operator, end_of}

abbrev at : t.the_data → ℕ → Placed
at token place = record { token = token; place = place }

longest_tokens : tokens_of (codes "2b sum sums 07,18446744073709551616=")
    ≡ at (t.Number 2) 0 ∷ at (t.Name (codes "b")) 1 ∷ at t.Sum 3 ∷ at (t.Name (codes "sums")) 7 ∷ at
    (t.Number 7) 12 ∷ at t.Comma 14 ∷ at t.TooLarge 15 ∷ at t.Equals 35 ∷ []
longest_tokens = refl

-- a newline stands between no tokens
newline : tokens_of (codes "a" ++ 9 ∷ 13 ∷ 10 ∷ []) ≡ at (t.Name (codes "a")) 0 ∷ at t.Bad 3 ∷ []
newline = refl

-- ---- what is read

abbrev access : List ℕ → List (List ℕ) → ℕ → TextTree
access name vars place = Access (record { name = name; vars = vars; place = place })

abbrev read : AccessText → List TopTextTree → Result Statement NoteRefusal
read left tops = Ok (record { left = left; tops = tops })

abbrev x_alone : AccessText
x_alone = record { name = codes "x"; vars = []; place = 0 }

abbrev x_of_i : AccessText
x_of_i = record { name = codes "x"; vars = codes "i" ∷ []; place = 0 }

abbrev plus : TextTree → TopTextTree
plus body = record { minus = false; body = body }

abbrev less : TextTree → TopTextTree
less body = record { minus = true; body = body }

product_read : statement_reading (codes "x(i) = -b(i) *07 +c")
    ≡ read x_of_i (less (Times (access (codes "b") (codes "i" ∷ []) 8) (Literal 7)) ∷ plus (access (codes "c") [] 18) ∷ [])
unfolding run go step_of at_factor at_operator end_of
product_read = refl

-- a product of a sum and a difference
factored : statement_reading (codes "x(i)=(b(i)+c(i))*(b(i)-c(i))")
    ≡ read x_of_i (plus (Times (Plus (access (codes "b") (codes "i" ∷ []) 6) (access (codes "c") (codes "i" ∷ []) 11))
    (Minus (access (codes "b") (codes "i" ∷ []) 18) (access (codes "c") (codes "i" ∷ []) 23))) ∷ [])
unfolding run go step_of at_factor at_operator end_of
factored = refl

-- operators of one rank group from the left
from_the_left : statement_reading (codes "x=(-a-b+c)*2*3")
    ≡ read x_alone (plus (Times (Times (Plus (Minus (Negate (access (codes "a") [] 4)) (access (codes "b") [] 6))
    (access (codes "c") [] 8)) (Literal 2)) (Literal 3)) ∷ [])
unfolding run go step_of at_factor at_operator end_of
from_the_left = refl

-- a parenthesis leaves no trace but the grouping
no_trace : statement_reading (codes "x=((a))") ≡ read x_alone (plus (access (codes "a") [] 4) ∷ [])
unfolding run go step_of at_factor at_operator end_of
no_trace = refl

sums_within : statement_reading (codes "x = 2*sum(i, sum(j, B(i,j)) - sum)")
    ≡ Err (record { kind = k.ExpectedOpen; place = 33 })
unfolding run go step_of at_factor at_operator end_of
sums_within = refl

nested_sums : statement_reading (codes "x=sum(i,sum(j,B(i,j))*2)-sum(k,-c(k))")
    ≡ read x_alone (plus (Sum (codes "i") 2 (Times (Sum (codes "j") 8 (access (codes "B") (codes "i" ∷ codes "j" ∷ []) 14)) (Literal 2)))
    ∷ less (Sum (codes "k") 25 (Negate (access (codes "c") (codes "k" ∷ []) 32))) ∷ [])
unfolding run go step_of at_factor at_operator end_of
nested_sums = refl

-- ---- what is refused

abbrev refused : k.the_data → ℕ → Result Statement NoteRefusal
refused kind place = Err (record { kind = kind; place = place })

empty : statement_reading [] ≡ refused k.ExpectedName 0
unfolding run go step_of at_factor at_operator end_of
empty = refl

no_equals : statement_reading (codes "x(i) b") ≡ refused k.ExpectedEquals 5
unfolding run go step_of at_factor at_operator end_of
no_equals = refl

no_comma : statement_reading (codes "x(i j)") ≡ refused k.ExpectedComma 4
unfolding run go step_of at_factor at_operator end_of
no_comma = refl

number_too_large : statement_reading (codes "x=18446744073709551616%") ≡ refused k.NumberTooLarge 2
unfolding run go step_of at_factor at_operator end_of
number_too_large = refl

bad_char : statement_reading (codes "x=b.") ≡ refused k.BadChar 3
unfolding run go step_of at_factor at_operator end_of
bad_char = refl

no_operator : statement_reading (codes "x=2b(i)") ≡ refused k.ExpectedOperator 3
unfolding run go step_of at_factor at_operator end_of
no_operator = refl

no_factor : statement_reading (codes "x==%") ≡ refused k.ExpectedFactor 2
unfolding run go step_of at_factor at_operator end_of
no_factor = refl

-- a `-` stands at the beginning of an expression alone
second_minus : statement_reading (codes "x=-(a - -b)") ≡ refused k.ExpectedFactor 8
unfolding run go step_of at_factor at_operator end_of
second_minus = refl

nothing_within : statement_reading (codes "x=()") ≡ refused k.ExpectedFactor 3
unfolding run go step_of at_factor at_operator end_of
nothing_within = refl

sum_alone : statement_reading (codes "x=sum") ≡ refused k.ExpectedOpen 5
unfolding run go step_of at_factor at_operator end_of
sum_alone = refl

sum_of_number : statement_reading (codes "x=sum(2,b)") ≡ refused k.ExpectedName 6
unfolding run go step_of at_factor at_operator end_of
sum_of_number = refl

sum_of_nothing : statement_reading (codes "x=sum(") ≡ refused k.ExpectedName 6
unfolding run go step_of at_factor at_operator end_of
sum_of_nothing = refl

sum_without_comma : statement_reading (codes "x=sum(i)") ≡ refused k.ExpectedComma 7
unfolding run go step_of at_factor at_operator end_of
sum_without_comma = refl

sum_without_body : statement_reading (codes "x=sum(i,)") ≡ refused k.ExpectedFactor 8
unfolding run go step_of at_factor at_operator end_of
sum_without_body = refl

not_closed : statement_reading (codes "x=(b+c") ≡ refused k.ExpectedOperator 6
unfolding run go step_of at_factor at_operator end_of
not_closed = refl

closed_twice : statement_reading (codes "x=(b))") ≡ refused k.ExpectedOperator 5
unfolding run go step_of at_factor at_operator end_of
closed_twice = refl

two_parentheses : statement_reading (codes "x=b(i)(c)") ≡ refused k.ExpectedOperator 6
unfolding run go step_of at_factor at_operator end_of
two_parentheses = refl

ninth_factor : statement_reading (codes "x=1*1*1*1*1*1*1*1*1+") ≡ refused k.TooManyFactors 17
unfolding run go step_of at_factor at_operator end_of
ninth_factor = refl

seventeenth_term : statement_reading (codes "x=b+b+b+b+b+b+b+b+b+b+b+b+b+b+b+b+%") ≡ refused k.TooManyTerms 33
unfolding run go step_of at_factor at_operator end_of
seventeenth_term = refl

-- each expression and each term counts by itself
counted_apart : statement_reading (codes "x=1*1*1*1*1*1*1*(1*1*1*1*1*1*1*1*1)") ≡ refused k.TooManyFactors 32
unfolding run go step_of at_factor at_operator end_of
counted_apart = refl

deep : statement_reading (codes "x=" ++ replicate 32 40 ++ codes "b" ++ replicate 32 41)
    ≡ read x_alone (plus (access (codes "b") [] 34) ∷ [])
unfolding run go step_of at_factor at_operator end_of
deep = refl

too_deep : statement_reading (codes "x=" ++ replicate 33 40 ++ codes "%") ≡ refused k.TooDeep 34
unfolding run go step_of at_factor at_operator end_of
too_deep = refl

-- of a sum that is too deep its `(` is told, and what else stands behind the word is told there
too_deep_sum : statement_reading (codes "x=" ++ replicate 32 40 ++ codes "sum (") ≡ refused k.TooDeep 38
unfolding run go step_of at_factor at_operator end_of
too_deep_sum = refl

deep_sum_alone : statement_reading (codes "x=" ++ replicate 32 40 ++ codes "sum )") ≡ refused k.ExpectedOpen 38
unfolding run go step_of at_factor at_operator end_of
deep_sum_alone = refl
