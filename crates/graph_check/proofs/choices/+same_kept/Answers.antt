use Rattle.std.specs.Prelude.{ℕ, suc, true, false, ◌||◌, get_or, leb}
use Rattle.std.proofs.Common.{arith, sym, ◌∙◌, ap}
use Rattle.graph_check.proofs.Kept.{kept-step, not-empty, rest_of}
use Rattle.graph_check.proofs.choices.+same_kept.Goals as goal

pub returns-then-second : goal.returns-then-second
returns-then-second m c = λ p t n.
    let marks = c.args.marks.now in let b = get_or marks 0 false in
    c.same_kept.ensures p t (suc n)
    ∙ sym (kept-step p t c.args.g c.args.h c.args.d n b (rest_of marks) marks true true
    (not-empty marks c.in-len1-up.len_at_least) (omega arith)
    (ap (λ (k : ℕ). b || leb c.args.g k) (sym c.free_marks-free.ensures.count) ∙ c.if-first.true)
    (ap (λ (k : ℕ). b || leb c.args.h k) (sym c.free_marks-free.ensures.count) ∙ c.if-second.true))

pub returns-else-second : goal.returns-else-second
returns-else-second m c = λ p t n.
    let marks = c.args.marks.now in let b = get_or marks 0 false in
    sym (kept-step p t c.args.g c.args.h c.args.d n b (rest_of marks) marks true false
    (not-empty marks c.in-len1-up.len_at_least) (omega arith)
    (ap (λ (k : ℕ). b || leb c.args.g k) (sym c.free_marks-free.ensures.count) ∙ c.if-first.true)
    (ap (λ (k : ℕ). b || leb c.args.h k) (sym c.free_marks-free.ensures.count) ∙ c.if-second.false))

pub returns-then-second-2 : goal.returns-then-second-2
returns-then-second-2 m c = λ p t n.
    let marks = c.args.marks.now in let b = get_or marks 0 false in
    sym (kept-step p t c.args.g c.args.h c.args.d n b (rest_of marks) marks false true
    (not-empty marks c.in-len1-up.len_at_least) (omega arith)
    (ap (λ (k : ℕ). b || leb c.args.g k) (sym c.free_marks-free.ensures.count) ∙ c.if-first.false)
    (ap (λ (k : ℕ). b || leb c.args.h k) (sym c.free_marks-free.ensures.count) ∙ c.if-second-2.true))

pub returns-else-second-2 : goal.returns-else-second-2
returns-else-second-2 m c = λ p t n.
    let marks = c.args.marks.now in let b = get_or marks 0 false in
    c.same_kept-else-second-2.ensures p t (suc n)
    ∙ sym (kept-step p t c.args.g c.args.h c.args.d n b (rest_of marks) marks false false
    (not-empty marks c.in-len1-up.len_at_least) (omega arith)
    (ap (λ (k : ℕ). b || leb c.args.g k) (sym c.free_marks-free.ensures.count) ∙ c.if-first.false)
    (ap (λ (k : ℕ). b || leb c.args.h k) (sym c.free_marks-free.ensures.count) ∙ c.if-second-2.false))
