-- The checks and the program of a file, tried on files by hand.
use Rattle.std.proofs.Common.{◌≡◌, ℕ, List, [], ◌∷◌, true, false, Ok, refl, codes}
use mathlib.Core.List.{map}
use Rattle.sam_base.specs.declared.faults.ProgramKind.TheVariants.{UnusedSum, BoundVariable, ExpandedTerms, ExpandedFactors, NoAccess}
use Rattle.sam_base.specs.declared.faults.ProgramKind.TheVariants.{MissingResultVariable, TooManyVariables, LoopsMismatch, Discordant}
use Rattle.sam_base.specs.declared.faults.ProgramKind.TheVariants.{ReducerTooDeep}
use Rattle.sam_model.specs.declared.tensors.Format.TheVariants.{Compressed}
use Rattle.sam_model.specs.declared.tensors.Tensor.{Tensor}
use Rattle.sam_model.specs.declared.program.Factor.TheVariants as factor
use Rattle.sam_model.specs.declared.program.Program.{Program}
use Rattle.sam_model.specs.Trees as tree
use Rattle.notation.specs.declared.statement.AccessText.{AccessText}
use Rattle.notation.specs.Trees.{TextTree, TopTextTree}
use Rattle.notation.specs.Trees as text
use Rattle.program_file.specs.declared.files.File.{File}
use Rattle.program_file.specs.declared.accesses.Variable.{Variable}
use Rattle.program_file.specs.Refusals.{program_refused}
use Rattle.program_file.specs.Numbers.{numbering}
use Rattle.program_file.specs.Statements.{body_of, tops_of}
use Rattle.program_file.specs.Checks.{has_named}
use Rattle.program_file.specs.Programs.{checked}

abbrev i : List ℕ
i = codes "i"

abbrev j : List ℕ
j = codes "j"

abbrev k : List ℕ
k = codes "k"

abbrev l : List ℕ
l = codes "l"

abbrev var : List ℕ → ℕ → Variable
var name size = record { name = name; size = size }

-- ---- numbers

by_right_loops : numbering (var i 2 ∷ var j 3 ∷ []) (j ∷ i ∷ []) ≡ j ∷ i ∷ []
by_right_loops = refl

by_first_places : numbering (var i 2 ∷ var j 3 ∷ []) (j ∷ k ∷ []) ≡ i ∷ j ∷ []
by_first_places = refl

-- ---- files: B is 2 by 3, D is 2 by 2 by 2 by 2, d is a vector of 2

abbrev tensor : List ℕ → List ℕ → List ℕ → Tensor
tensor name dims order = record { name = name; dims = dims; formats = map (λ _. Compressed) dims; order = order; file = [] }

abbrev tensors : List Tensor
tensors = tensor (codes "B") (2 ∷ 3 ∷ []) (0 ∷ 1 ∷ []) ∷ tensor (codes "D") (2 ∷ 2 ∷ 2 ∷ 2 ∷ []) (0 ∷ 1 ∷ 2 ∷ 3 ∷ []) ∷ tensor (codes "d")
    (2 ∷ []) (0 ∷ []) ∷ []

abbrev access : List ℕ → List (List ℕ) → AccessText
access name vars = record { name = name; vars = vars; place = 0 }

abbrev of : List ℕ → List (List ℕ) → TextTree
of name vars = text.Access (access name vars)

abbrev sum : List ℕ → TextTree → TextTree
sum v body = text.Sum v 0 body

abbrev plus : TextTree → TopTextTree
plus body = record { minus = false; body = body }

abbrev minus : TextTree → TopTextTree
minus body = record { minus = true; body = body }

-- x over these dimensions and variables is the sum of these terms, with the loops
abbrev file : List ℕ → List ℕ → List (List ℕ) → List TopTextTree → List (List ℕ) → File
file dims order left tops loops = record {
  tensors = tensors;
  scalars = [];
  result = tensor (codes "x") dims order;
  statement = record { left = access (codes "x") left; tops = tops };
  loops = loops;
  statement_line = 5;
  loops_line = 6;
}

-- an expression by numbers
grouped :
    body_of tensors (i ∷ j ∷ []) (text.Times (text.Times (of (codes "B") (i ∷ j ∷ [])) (text.Literal 7)) (of (codes "d") (i ∷ [])))
    ≡ tree.Times (tree.Times (tree.Access 0 (0 ∷ 1 ∷ [])) (tree.Literal 7)) (tree.Access 2 (0 ∷ []))
grouped = refl

-- x(j) = -D(l,k,i,j), whose implied variables ascend whatever the order of the text
implied :
    tops_of tensors (i ∷ j ∷ k ∷ l ∷ []) (1 ∷ []) (record {
      left = access (codes "x") (j ∷ []);
      tops =
          minus (of (codes "D") (l ∷ k ∷ i ∷ j ∷ [])) ∷ [];
    })
    ≡ record { minus = true; body = tree.Access 1 (3 ∷ 2 ∷ 0 ∷ 1 ∷ []); implied = 0 ∷ 2 ∷ 3 ∷ [] } ∷ []
implied = refl

-- x(i) = B(i,j) * 7 - d(i), with the loops i and j
abbrev difference : List (List ℕ) → File
difference loops = file (2 ∷ []) (0 ∷ []) (i ∷ []) (plus (text.Times (of (codes "B") (i ∷ j ∷ [])) (text.Literal 7)) ∷ minus
    (of (codes "d") (i ∷ [])) ∷ []) loops

abbrev difference_program : Program
difference_program = record {
  tensors = tensors;
  result = tensor (codes "x") (2 ∷ []) (0 ∷ []);
  left = 0 ∷ [];
  terms = (record { minus = false; factors = factor.Access 0 (0 ∷ 1 ∷ []) ∷ factor.Literal 7 ∷ [] }) ∷ (record {
    minus = true;
    factors =
        factor.Access 2 (0 ∷ []) ∷ [];
  }) ∷ [];
  tops = (record { minus = false; body = tree.Times (tree.Access 0 (0 ∷ 1 ∷ [])) (tree.Literal 7); implied = 1 ∷ [] })
      ∷ (record { minus = true; body = tree.Access 2 (0 ∷ []); implied = [] }) ∷ [];
  var_names = i ∷ j ∷ [];
  var_sizes = 2 ∷ 3 ∷ [];
}

difference-read : checked (difference (i ∷ j ∷ [])) ≡ Ok difference_program
unfolding has_named
difference-read = refl

-- B is against these loops, and these loops lack j
against_loops : checked (difference (j ∷ i ∷ [])) ≡ program_refused (Discordant (codes "B")) 6
unfolding has_named
against_loops = refl

wrong_loops : checked (difference (i ∷ i ∷ [])) ≡ program_refused LoopsMismatch 6
unfolding has_named
wrong_loops = refl

-- what a term lacks is told before the loops, by its name
lacking : checked (file (2 ∷ 3 ∷ []) (0 ∷ 1 ∷ []) (i ∷ j ∷ [])
    (plus (of (codes "B") (i ∷ j ∷ [])) ∷ plus (of (codes "d") (i ∷ [])) ∷ []) [])
    ≡ program_refused (MissingResultVariable j) 5
unfolding has_named
lacking = refl

no_access : checked (file [] [] [] (plus (text.Literal 2) ∷ []) []) ≡ program_refused NoAccess 5
no_access = refl

-- nine variables, by their first places: the first term lacks one of the left
nine_variables : checked
    (file (2 ∷ []) (0 ∷ []) (i ∷ [])
    (plus (text.Times (of (codes "D") (j ∷ k ∷ l ∷ codes "m" ∷ []))
    (of (codes "D") (codes "n" ∷ codes "o" ∷ codes "p" ∷ codes "q" ∷ []))) ∷ []) [])
    ≡ program_refused (MissingResultVariable i) 5
unfolding has_named
nine_variables = refl

too_many : checked
    (file (2 ∷ []) (0 ∷ []) (i ∷ [])
    (plus (text.Times (text.Times (of (codes "d") (i ∷ [])) (of (codes "D") (j ∷ k ∷ l ∷ codes "m" ∷ [])))
    (of (codes "D") (codes "n" ∷ codes "o" ∷ codes "p" ∷ codes "q" ∷ []))) ∷ []) [])
    ≡ program_refused TooManyVariables 5
unfolding has_named
too_many = refl

-- three variables of the left come after k
too_deep : checked (file (2 ∷ 2 ∷ 2 ∷ []) (0 ∷ 1 ∷ 2 ∷ []) (i ∷ j ∷ l ∷ []) (plus (of (codes "D") (k ∷ i ∷ j ∷ l ∷ [])) ∷ [])
    (k ∷ i ∷ j ∷ l ∷ []))
    ≡ program_refused (ReducerTooDeep k) 6
unfolding has_named
too_deep = refl

-- ---- sums

abbrev over_i : TextTree → File
over_i body = file (2 ∷ []) (0 ∷ []) (i ∷ []) (plus body ∷ []) (i ∷ j ∷ [])

-- x(i) = sum(j, B(i,j) + d(i)): a term without j gets its size
summed-read : checked (over_i (sum j (text.Plus (of (codes "B") (i ∷ j ∷ [])) (of (codes "d") (i ∷ []))))) ≡ Ok (record {
  tensors = tensors;
  result = tensor (codes "x") (2 ∷ []) (0 ∷ []);
  left = 0 ∷ [];
  terms = (record { minus = false; factors = factor.Access 0 (0 ∷ 1 ∷ []) ∷ [] }) ∷ (record {
    minus = false;
    factors =
        factor.Access 2 (0 ∷ []) ∷ factor.Literal 3 ∷ [];
  }) ∷ [];
  tops = (record { minus = false; body = tree.Sum 1 (tree.Plus (tree.Access 0 (0 ∷ 1 ∷ [])) (tree.Access 2 (0 ∷ []))); implied = [] }) ∷ [];
  var_names = i ∷ j ∷ [];
  var_sizes = 2 ∷ 3 ∷ [];
})
unfolding has_named
summed-read = refl

-- no access has k
unused_sum : checked (over_i (text.Times (of (codes "B") (i ∷ j ∷ [])) (sum k (of (codes "d") (i ∷ []))))) ≡ program_refused (UnusedSum k) 5
unused_sum = refl

-- that a variable stands nowhere is told before an earlier sum over a variable of the left
unused_first : checked (over_i (text.Times (sum i (of (codes "B") (i ∷ j ∷ []))) (sum k (of (codes "d") (i ∷ [])))))
    ≡ program_refused (UnusedSum k) 5
unused_first = refl

-- an outer sum is told before the one within it
outer_first : checked (over_i (sum l (sum k (of (codes "B") (i ∷ j ∷ []))))) ≡ program_refused (UnusedSum l) 5
outer_first = refl

over_the_left : checked (over_i (sum i (of (codes "B") (i ∷ j ∷ [])))) ≡ program_refused (BoundVariable i) 5
over_the_left = refl

summed_twice : checked (over_i (text.Times (sum j (of (codes "B") (i ∷ j ∷ []))) (sum j (of (codes "B") (i ∷ j ∷ [])))))
    ≡ program_refused (BoundVariable j) 5
summed_twice = refl

outside : checked (over_i (text.Times (sum j (of (codes "B") (i ∷ j ∷ []))) (of (codes "B") (i ∷ j ∷ []))))
    ≡ program_refused (BoundVariable j) 5
outside = refl

-- the same variable may be that of a sum in each of two top-level terms
in_two_terms : checked (file [] [] [] (plus (sum i (of (codes "d") (i ∷ []))) ∷ minus (sum i (of (codes "d") (i ∷ []))) ∷ []) (j ∷ []))
    ≡ program_refused LoopsMismatch 6
in_two_terms = refl

-- ---- what an expression expands to

abbrev two : TextTree
two = text.Plus (of (codes "d") (i ∷ [])) (of (codes "d") (i ∷ []))

abbrev squared : TextTree → TextTree
squared e = text.Times e e

too_many_terms : checked (over_i (text.Times (squared (squared two)) two)) ≡ program_refused ExpandedTerms 5
too_many_terms = refl

too_many_factors : checked (over_i (text.Times (squared (squared (squared (of (codes "d") (i ∷ []))))) (text.Literal 2)))
    ≡ program_refused ExpandedFactors 5
too_many_factors = refl
