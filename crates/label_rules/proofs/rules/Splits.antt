-- The loop of a term that is taken away next, found by the marks of the loops.
use Rattle.std.specs.Prelude.{◌≡◌, ◌<◌, ℕ, Bool, true, false, cond, List, [], ◌∷◌, ◌++◌, eqb, refl}
use Rattle.std.proofs.Common.{arith, sym, ◌∙◌, ap}
use Rattle.std.proofs.lemmas.Bool.Decides.{nat_tests}
use Rattle.sam_model.specs.Denote.{Loop}
use Rattle.stream_model.specs.Trees.{free_count}
use Rattle.label_rules.specs.Plans.{left_marks, free_marks}
use Rattle.label_rules.specs.TermLabels.{left_after}
use Rattle.label_rules.proofs.term.Marks.{marks, free-marks}

-- a loop that isn't on the left, g such loops after it, and k others
pub record Split (g k : ℕ) (ls : List Loop) : Type 0 where
  pub before : List Loop
  pub size : ℕ
  pub after : List Loop
  pub loops_are : ls ≡ before ++ (size, false) ∷ after
  pub gone : free_count after ≡ g
  pub left : left_marks (marks after) ≡ k

pub split : (g k : ℕ) (ls : List Loop) → g < free_count ls → left_after g (marks ls) ≡ k → Split g k ls
split g k [] l e = absurd (omega (arith, l))
split g k ((s, true) ∷ ls) l e =
    let r = split g k ls l e in
    record {
      before = (s, true) ∷ r.before;
      size = r.size;
      after = r.after;
      loops_are = ap (λ (x : List Loop). (s, true) ∷ x) r.loops_are;
      gone = r.gone;
      left = r.left;
    }
split g k ((s, false) ∷ ls) l e = by_case (eqb (free_marks (marks ls)) g) refl e (split g k ls)
  where
    by_case : (b : Bool) → eqb (free_marks (marks ls)) g ≡ b → cond b (left_marks (marks ls)) (left_after g (marks ls)) ≡ k
        → (g < free_count ls → left_after g (marks ls) ≡ k → Split g k ls) → Split g k ((s, false) ∷ ls)
    by_case true f h r =
        let same : free_marks (marks ls) ≡ g = grind (arith, nat_tests, f) in
        record { before = []; size = s; after = ls; loops_are = refl; gone = sym (free-marks ls) ∙ same; left = h }
    by_case false f h r =
        let other : free_marks (marks ls) ≡ g → ⊥ = λ j. grind (arith, nat_tests, f, j) in
        let n = free-marks ls in
        let more : g < free_count ls = omega (arith, l, n, other) in
        let x = r more h in
        record {
          before = (s, false) ∷ x.before;
          size = x.size;
          after = x.after;
          loops_are = ap (λ (y : List Loop). (s, false) ∷ y) x.loops_are;
          gone = x.gone;
          left = x.left;
        }
