-- Trees as lists of numbers that give them back, so that a proof tells them apart: a tree is written behind its parts.
use Rattle.std.specs.Prelude.{◌≡◌, ℕ, Bool, cond, List, [], ◌∷◌, eqb, refl}
use Rattle.std.specs.Coded.{Coded, code_by, coded×, coded_list, coded_ℕ, coded_bool}
use Rattle.sam_model.specs.Trees.{ExprTree, Access, Literal, Times, Plus, Minus, Negate, Sum, TopTree}

-- a kind of tree, with its numbers
abbrev pub Mark : Type 0
Mark = ℕ × List ℕ

-- the marks of a tree, and then others
abbrev pub marks : ExprTree → List Mark → List Mark
marks (Access n vars) rest = (0, n ∷ vars) ∷ rest
marks (Literal n) rest = (1, n ∷ []) ∷ rest
marks (Times a b) rest = marks a (marks b ((2, []) ∷ rest))
marks (Plus a b) rest = marks a (marks b ((3, []) ∷ rest))
marks (Minus a b) rest = marks a (marks b ((4, []) ∷ rest))
marks (Negate a) rest = marks a ((5, []) ∷ rest)
marks (Sum k a) rest = marks a ((6, k ∷ []) ∷ rest)

abbrev pub first_number : List ℕ → ℕ
first_number [] = 0
first_number (n ∷ ns) = n

abbrev pub other_numbers : List ℕ → List ℕ
other_numbers [] = []
other_numbers (n ∷ ns) = ns

abbrev pub first_tree : List ExprTree → ExprTree
first_tree [] = Literal 0
first_tree (t ∷ ts) = t

abbrev pub other_trees : List ExprTree → List ExprTree
other_trees [] = []
other_trees (t ∷ ts) = ts

-- a tree of the last two parts, and of the last one, in place of these
abbrev pub of_two : (ExprTree → ExprTree → ExprTree) → List ExprTree → List ExprTree
of_two f ts = f (first_tree (other_trees ts)) (first_tree ts) ∷ other_trees (other_trees ts)

abbrev pub of_one : (ExprTree → ExprTree) → List ExprTree → List ExprTree
of_one f ts = f (first_tree ts) ∷ other_trees ts

-- the parts so far, the last one first, with the tree that a mark ends
abbrev pub with_mark : Mark → List ExprTree → List ExprTree
with_mark m ts =
    cond (eqb m.0 0) (Access (first_number m.1) (other_numbers m.1) ∷ ts)
    (cond (eqb m.0 1) (Literal (first_number m.1) ∷ ts)
    (cond (eqb m.0 2) (of_two Times ts)
    (cond (eqb m.0 3) (of_two Plus ts)
    (cond (eqb m.0 4) (of_two Minus ts)
    (cond (eqb m.0 5) (of_one Negate ts)
    (of_one (Sum (first_number m.1)) ts))))))

abbrev pub trees : List Mark → List ExprTree → List ExprTree
trees [] ts = ts
trees (m ∷ ms) ts = trees ms (with_mark m ts)

pub trees-marks : (e : ExprTree) (rest : List Mark) (ts : List ExprTree) → trees (marks e rest) ts ≡ trees rest (e ∷ ts)
trees-marks (Access n vars) rest ts = refl
trees-marks (Literal n) rest ts = refl
trees-marks (Times a b) rest ts = rw (trees-marks a (marks b ((2, []) ∷ rest)) ts, trees-marks b ((2, []) ∷ rest) (a ∷ ts)) refl
trees-marks (Plus a b) rest ts = rw (trees-marks a (marks b ((3, []) ∷ rest)) ts, trees-marks b ((3, []) ∷ rest) (a ∷ ts)) refl
trees-marks (Minus a b) rest ts = rw (trees-marks a (marks b ((4, []) ∷ rest)) ts, trees-marks b ((4, []) ∷ rest) (a ∷ ts)) refl
trees-marks (Negate a) rest ts = rw (trees-marks a ((5, []) ∷ rest) ts) refl
trees-marks (Sum k a) rest ts = rw (trees-marks a ((6, k ∷ []) ∷ rest) ts) refl

abbrev pub top_parts : TopTree → Bool × (List Mark × List ℕ)
top_parts t = (t.minus, (marks t.body [], t.implied))

abbrev pub top_from : Bool × (List Mark × List ℕ) → TopTree
top_from p = record { minus = p.0; body = first_tree (trees p.1.0 []); implied = p.1.1 }

pub top_same : (t : TopTree) → top_from (top_parts t) ≡ t
top_same t = rw (trees-marks t.body [] []) refl

abbrev pub top_code : Coded TopTree
top_code =
    code_by (Bool × (List Mark × List ℕ)) (coded× coded_bool (coded× (coded_list (coded× coded_ℕ (coded_list coded_ℕ))) (coded_list coded_ℕ)))
    top_parts top_from top_same
