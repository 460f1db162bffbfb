-- Trees of texts as lists of numbers that give them back, so that a proof tells them apart: a tree is written behind its parts.
use Rattle.std.specs.Prelude.{◌≡◌, ℕ, Bool, cond, List, [], ◌∷◌, eqb, refl}
use Rattle.std.specs.Coded.{Coded, code_by, coded×, coded_list, coded_ℕ, coded_bool}
use Rattle.notation.specs.Trees.{TextTree, Access, Literal, Times, Plus, Minus, Negate, Sum, TopTextTree}

-- a kind of tree, with a number, a name and a list of names
abbrev pub Mark : Type 0
Mark = ℕ × (ℕ × (List ℕ × List (List ℕ)))

abbrev pub plain : ℕ → Mark
plain kind = (kind, (0, ([], [])))

-- the marks of a tree, and then others
abbrev pub marks : TextTree → List Mark → List Mark
marks (Access a) rest = (0, (a.place, (a.name, a.vars))) ∷ rest
marks (Literal n) rest = (1, (n, ([], []))) ∷ rest
marks (Times a b) rest = marks a (marks b (plain 2 ∷ rest))
marks (Plus a b) rest = marks a (marks b (plain 3 ∷ rest))
marks (Minus a b) rest = marks a (marks b (plain 4 ∷ rest))
marks (Negate a) rest = marks a (plain 5 ∷ rest)
marks (Sum v k a) rest = marks a ((6, (k, (v, []))) ∷ rest)

abbrev pub first_tree : List TextTree → TextTree
first_tree [] = Literal 0
first_tree (t ∷ ts) = t

abbrev pub other_trees : List TextTree → List TextTree
other_trees [] = []
other_trees (t ∷ ts) = ts

-- a tree of the last two parts, and of the last one, in place of these
abbrev pub of_two : (TextTree → TextTree → TextTree) → List TextTree → List TextTree
of_two f ts = f (first_tree (other_trees ts)) (first_tree ts) ∷ other_trees (other_trees ts)

abbrev pub of_one : (TextTree → TextTree) → List TextTree → List TextTree
of_one f ts = f (first_tree ts) ∷ other_trees ts

-- the parts so far, the last one first, with the tree that a mark ends
abbrev pub with_mark : Mark → List TextTree → List TextTree
with_mark m ts =
    cond (eqb m.0 0) (Access (record { name = m.1.1.0; vars = m.1.1.1; place = m.1.0 }) ∷ ts)
    (cond (eqb m.0 1) (Literal m.1.0 ∷ ts)
    (cond (eqb m.0 2) (of_two Times ts)
    (cond (eqb m.0 3) (of_two Plus ts)
    (cond (eqb m.0 4) (of_two Minus ts)
    (cond (eqb m.0 5) (of_one Negate ts)
    (of_one (Sum m.1.1.0 m.1.0) ts))))))

abbrev pub trees : List Mark → List TextTree → List TextTree
trees [] ts = ts
trees (m ∷ ms) ts = trees ms (with_mark m ts)

pub trees-marks : (e : TextTree) (rest : List Mark) (ts : List TextTree) → trees (marks e rest) ts ≡ trees rest (e ∷ ts)
trees-marks (Access a) rest ts = refl
trees-marks (Literal n) rest ts = refl
trees-marks (Times a b) rest ts = rw (trees-marks a (marks b (plain 2 ∷ rest)) ts, trees-marks b (plain 2 ∷ rest) (a ∷ ts)) refl
trees-marks (Plus a b) rest ts = rw (trees-marks a (marks b (plain 3 ∷ rest)) ts, trees-marks b (plain 3 ∷ rest) (a ∷ ts)) refl
trees-marks (Minus a b) rest ts = rw (trees-marks a (marks b (plain 4 ∷ rest)) ts, trees-marks b (plain 4 ∷ rest) (a ∷ ts)) refl
trees-marks (Negate a) rest ts = rw (trees-marks a (plain 5 ∷ rest) ts) refl
trees-marks (Sum v k a) rest ts = rw (trees-marks a ((6, (k, (v, []))) ∷ rest) ts) refl

abbrev pub tree_from : List Mark → TextTree
tree_from ms = first_tree (trees ms [])

pub tree_same : (e : TextTree) → tree_from (marks e []) ≡ e
tree_same e = rw (trees-marks e [] []) refl

abbrev pub coded_marks : Coded (List Mark)
coded_marks = coded_list (coded× coded_ℕ (coded× coded_ℕ (coded× (coded_list coded_ℕ) (coded_list (coded_list coded_ℕ)))))

abbrev pub text_code : Coded TextTree
text_code = code_by (List Mark) coded_marks (λ e. marks e []) tree_from tree_same

abbrev pub top_text_parts : TopTextTree → Bool × List Mark
top_text_parts t = (t.minus, marks t.body [])

abbrev pub top_text_from : Bool × List Mark → TopTextTree
top_text_from p = record { minus = p.0; body = tree_from p.1 }

pub top_text_same : (t : TopTextTree) → top_text_from (top_text_parts t) ≡ t
top_text_same t = rw (trees-marks t.body [] []) refl

abbrev pub top_text_code : Coded TopTextTree
top_text_code = code_by (Bool × List Mark) (coded× coded_bool coded_marks) top_text_parts top_text_from top_text_same
