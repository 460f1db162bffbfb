-- What is read is spelled so.
use Rattle.std.proofs.Common.{◌≡◌, ℕ, ◌<◌, ◌≤◌, List, [], ◌∷◌, ◌++◌, length, Bool, true, false, cond, ltb, Some, None, Result, Ok}
use Rattle.std.proofs.Common.{Err}
use Rattle.std.proofs.Common.{refl, sym, ap, subst, ◌∙◌, append_assoc, arith, length-append}
use Rattle.std.proofs.lemmas.Bool.{ltb-true}
use Rattle.std.proofs.lemmas.List.{append-nil}
use Rattle.sam_base.specs.declared.faults.NoteKind.TheVariants as k
use Rattle.notation.specs.declared.tokens.Token.{Token}
use Rattle.notation.specs.declared.tokens.Token.TheVariants as t
use Rattle.notation.specs.declared.tokens.Placed.{Placed}
use Rattle.notation.specs.declared.statement.AccessText.{AccessText}
use Rattle.notation.specs.declared.statement.Statement.{Statement}
use Rattle.notation.specs.declared.state.Opened.{Opened}
use Rattle.notation.specs.declared.state.Opened.TheVariants as o
use Rattle.notation.specs.declared.state.Level.{Level}
use Rattle.notation.specs.declared.state.Reading.{Reading}
use Rattle.notation.specs.declared.state.State.{State}
use Rattle.notation.specs.declared.state.State.TheVariants as s
use Rattle.notation.specs.Refusals.{NoteRefusal}
use Rattle.notation.specs.Trees.{TextTree, Access, TopTextTree, product_of, sum_of}
use Rattle.notation.specs.Marks.{Mark, bare_mark, placed_mark, separated, var, variables, name, access_marks, At, Marked}
use Rattle.notation.specs.Forms.{TermForm, ExprForm, sign, term_factors, factor_marks}
use Rattle.notation.specs.Forms.{term_marks, expr_marks}
use Rattle.notation.specs.Positions.{with_factor, next_term, deeper, factor_of, whole_statement, begun}
use Rattle.notation.specs.Positions.{named_access}
use Rattle.notation.specs.Positions.{at_factor, at_operator, more_terms, closes, step_of, ends, end_of, run, go}
use Rattle.notation.specs.Spelling.{Spells}
use Rattle.notation.proofs.OpenForms.{OpenForm, ReadForm, terms_of, levels_of, reading_of, lead, opening}
use Rattle.notation.proofs.OpenForms.{own, around, all_before}
use Rattle.notation.proofs.OpenForms.{next_form, form_in, next_form-terms}
use Rattle.notation.proofs.OpenForms.{next_form-marks, form_in-tree}
use Rattle.notation.proofs.OpenForms.{FitsExpr, IsInner, Within, fits-next_form}
use Rattle.notation.proofs.OpenForms.{fits-form_in}
use Rattle.notation.proofs.ReachedForms.{listed, separated-push, listed-is, variables-is, vars_listed, vars_separated, ReadyAt, with_term}
use Rattle.notation.proofs.ReachedForms.{BehindAt, FirstAt, sum_marks, Reached, Lands, push, push_to, along, with_mark, three, take_factor}
use Rattle.notation.proofs.ReachedForms.{take_access, take_literal, enter, first-ready, first-negated}

-- ---- what each token does

abbrev at : Token → ℕ → Placed
at token place = record { token = token; place = place }

cond_lands : (b : Bool) (ok : State) (r : NoteRefusal) (read : List Placed) → (b ≡ true → Reached ok read)
    → Lands (cond b (Ok ok) (Err r)) read
cond_lands true ok r read h = h refl
cond_lands false ok r read h = tt

at_factor-lands : (r : Reading) (token : Token) (place : ℕ) (read : List Placed) → ReadyAt r [] read
    → Lands (at_factor r token place) (read ++ at token place ∷ [])
unfolding at_factor
at_factor-lands r (t.Name n) place read h = (
  refl,
  with_mark r [] (name (named_access n place) ∷ []) read (at (t.Name n) place) (name (named_access n place)) h (refl, refl) refl,
)
at_factor-lands r (t.Number n) place read h =
    take_literal r n (read ++ at (t.Number n) place ∷ []) (with_mark r [] (bare_mark (t.Number n) ∷ []) read (at (t.Number n) place)
    (bare_mark (t.Number n)) h (refl, tt) refl)
at_factor-lands r t.Open place read h =
    cond_lands (ltb (length r.outer) 32) (s.First (deeper r o.Parenthesis)) (record { kind = k.TooDeep; place = place })
    (read ++ at t.Open place ∷ []) (λ e.
    enter r o.Parenthesis (read ++ at t.Open place ∷ []) tt (ltb-true _ _ e)
    (with_mark r [] (opening o.Parenthesis) read (at t.Open place) (bare_mark t.Open) h (refl, tt) refl))
at_factor-lands r t.Sum place read h = with_mark r [] (sum_marks place []) read (at t.Sum place) (placed_mark t.Sum place) h
    (refl, refl) refl
at_factor-lands r _ place read h = tt

-- a reading with these terms, at a term of which nothing was read
abbrev with_terms : ReadForm → Bool → List TopTextTree → Reading
with_terms z minus ts = record {
  left = z.left;
  outer = levels_of z.outer;
  level = record { opened = z.level.opened; terms = ts; minus = minus; factors = [] };
}

abbrev with_form : ReadForm → Bool → ExprForm → ReadForm
with_form z minus e = record {
  left = z.left;
  outer = z.outer;
  level = record { opened = z.level.opened; terms = Some e; minus = minus; factors = None };
}

-- the terms, with the one that was read
abbrev form_of : (r : Reading) (read : List Placed) → BehindAt r read → ExprForm
form_of r read h = next_form h.form.level.terms h.form.level.minus h.term

form-fits : (r : Reading) (read : List Placed) (h : BehindAt r read) → FitsExpr (length h.form.outer) (form_of r read h)
form-fits r read h = fits-next_form (length h.form.outer) h.form.level.terms h.form.level.minus h.term h.few_terms h.terms_fit h.term_fits

next-shape : (a b c d e : List Mark) → e ≡ b ++ c → (a ++ (b ++ c)) ++ d ≡ (a ++ ((e ++ d) ++ [])) ++ []
next-shape a b c d e same =
    append_assoc a (b ++ c) d ∙ ap (λ l. a ++ (l ++ d)) (sym same) ∙ ap (λ l. a ++ l) (sym (append-nil (e ++ d)))
    ∙ sym (append-nil (a ++ ((e ++ d) ++ [])))

next-ready : (r : Reading) (minus : Bool) (x : Placed) (read : List Placed) → BehindAt r read → At x (sign minus)
    → length r.level.terms < 15
    → ReadyAt (next_term r minus) [] (read ++ x ∷ [])
next-ready r minus x read h here lt =
    let z : ReadForm = h.form in
    let e : ExprForm = form_of r read h in
    let terms = next_form-terms z.level.terms z.level.minus h.term in
    let n = ap (λ (ts : List TopTextTree). length ts) terms in
    let m = length-append (terms_of z.level.terms) ((record { minus = z.level.minus; body = product_of (term_factors h.term) }) ∷ []) in
    let d = ap (λ (q : Reading). length q.level.terms) h.same in
    record {
      form = with_form z minus e;
      same = ap (λ (q : Reading). next_term q minus) h.same ∙ ap (λ (ts : List TopTextTree). with_terms z minus ts) (sym terms);
      room = h.room;
      fits = record { few_terms = omega (arith, n, m, d, lt); few_factors = omega arith; terms_fit = form-fits r read h; factors_fit = tt };
      within = h.within;
      marked = push_to read (around z.left z.outer z.level.opened ++ (lead z.level.terms z.level.minus ++ term_marks h.term))
          (all_before (with_form z minus e) ++ [])
          x (sign minus) h.marked here
          (next-shape (around z.left z.outer z.level.opened) (lead z.level.terms z.level.minus) (term_marks h.term) (sign minus ∷ [])
          (expr_marks e)
          (next_form-marks z.level.terms z.level.minus h.term));
    }

more-lands : (r : Reading) (minus : Bool) (x : Placed) (read : List Placed) → BehindAt r read → At x (sign minus)
    → Lands (more_terms r minus x.place) (read ++ x ∷ [])
more-lands r minus x read h here =
    cond_lands (ltb (length r.level.terms) 15) (s.Factor (next_term r minus)) (record { kind = k.TooManyTerms; place = x.place })
    (read ++ x ∷ [])
    (λ e. next-ready r minus x read h here (ltb-true _ _ e))

star-ready : (r : Reading) (x : Placed) (read : List Placed) → BehindAt r read → At x (bare_mark t.Star) → length r.level.factors < 8
    → ReadyAt r [] (read ++ x ∷ [])
star-ready r x read h here lt =
    let z : ReadForm = h.form in
    let d = ap (λ (q : Reading). length q.level.factors) h.same in
    record {
      form = with_term z h.term;
      same = h.same;
      room = h.room;
      fits = record { few_terms = h.few_terms; few_factors = omega (arith, d, lt); terms_fit = h.terms_fit; factors_fit = h.term_fits };
      within = h.within;
      marked = push_to read (around z.left z.outer z.level.opened ++ (lead z.level.terms z.level.minus ++ term_marks h.term))
          (all_before (with_term z h.term) ++ [])
          x (bare_mark t.Star) h.marked here
          (three (around z.left z.outer z.level.opened) (lead z.level.terms z.level.minus) (term_marks h.term) (bare_mark t.Star ∷ [])
          ∙ sym (append-nil (all_before (with_term z h.term))));
    }

in-marks : (opened : Opened) (e : ExprForm) → IsInner opened
    → opening opened ++ (expr_marks e ++ bare_mark t.Close ∷ []) ≡ factor_marks (form_in opened e)
in-marks o.Equals e h = absurd h
in-marks o.Parenthesis e h = refl
in-marks (o.Sum v place) e h = refl

close-shape : (a b w c d g e : List Mark) → e ≡ c ++ d → ((a ++ (b ++ w)) ++ (c ++ d)) ++ g ≡ (a ++ b) ++ (w ++ (e ++ g))
close-shape a b w c d g e same =
    ap (λ l. ((a ++ (b ++ w)) ++ l) ++ g) (sym same) ∙ append_assoc (a ++ (b ++ w)) e g
    ∙ ap (λ l. l ++ (e ++ g)) (sym (append_assoc a b w)) ∙ append_assoc (a ++ b) w (e ++ g)

close-form : (left : AccessText) (outer : List OpenForm) (l : OpenForm) (x : TermForm) (y : Placed) (read : List Placed)
    → FitsExpr (length outer) (next_form l.terms l.minus x)
    → length outer ≤ 32 → Within outer l.opened → Marked read (around left outer l.opened ++ (lead l.terms l.minus ++ term_marks x))
    → At y (bare_mark t.Close)
    → Lands (closes left (levels_of outer) (record {
      opened = l.opened;
      terms = terms_of l.terms;
      minus = l.minus;
      factors =
          term_factors x;
    }) y.place) (read ++ y ∷ [])
close-form left [] l x y read fits room within marked here = tt
close-form left (w ∷ ws) l x y read fits room within marked here =
    let e : ExprForm = next_form l.terms l.minus x in
    let z : ReadForm = record { left = left; outer = ws; level = w } in
    let ms : List Mark = opening l.opened ++ (expr_marks e ++ bare_mark t.Close ∷ []) in
    let h : ReadyAt (reading_of z) ms (read ++ y ∷ []) = record {
      form = z;
      same = refl;
      room = omega (arith, room);
      fits = within.1;
      within = within.2;
      marked = push_to read (around left (w ∷ ws) l.opened ++ (lead l.terms l.minus ++ term_marks x)) (all_before z ++ ms) y
          (bare_mark t.Close) marked here
          (close-shape (around left ws w.opened) (own w) (opening l.opened) (lead l.terms l.minus) (term_marks x) (bare_mark t.Close ∷ [])
          (expr_marks e)
          (next_form-marks l.terms l.minus x));
    } in
    subst (λ (tree : TextTree). BehindAt (with_factor (reading_of z) tree) (read ++ y ∷ []))
    (form_in-tree l.opened e ∙ ap (λ (ts : List TopTextTree). factor_of l.opened (sum_of ts)) (next_form-terms l.terms l.minus x))
    (take_factor (reading_of z) (form_in l.opened e) ms (read ++ y ∷ []) h (in-marks l.opened e within.0)
    (fits-form_in w ws l.opened e fits))

close-lands : (r : Reading) (x : Placed) (read : List Placed) → BehindAt r read → At x (bare_mark t.Close)
    → Lands (closes r.left r.outer r.level x.place) (read ++ x ∷ [])
close-lands r x read h here =
    subst (λ (q : Reading). Lands (closes q.left q.outer q.level x.place) (read ++ x ∷ [])) (sym h.same)
    (close-form h.form.left h.form.outer h.form.level h.term x read (form-fits r read h) h.room h.within h.marked here)

at_operator-lands : (r : Reading) (token : Token) (place : ℕ) (read : List Placed) → BehindAt r read
    → Lands (at_operator r token place) (read ++ at token place ∷ [])
unfolding at_operator
at_operator-lands r t.Plus place read h = more-lands r false (at t.Plus place) read h (refl, tt)
at_operator-lands r t.Minus place read h = more-lands r true (at t.Minus place) read h (refl, tt)
at_operator-lands r t.Star place read h =
    cond_lands (ltb (length r.level.factors) 8) (s.Factor r) (record { kind = k.TooManyFactors; place = place })
    (read ++ at t.Star place ∷ [])
    (λ e. star-ready r (at t.Star place) read h (refl, tt) (ltb-true _ _ e))
at_operator-lands r t.Close place read h = close-lands r (at t.Close place) read h (refl, tt)
at_operator-lands r _ place read h = tt

pub named-settles : (r : Reading) (a : AccessText) (read : List Placed) → Reached (s.Named r a) read
    → BehindAt (with_factor r (Access a)) read
named-settles r a read h = take_access r a (name a ∷ []) read h.1 (ap (λ (vs : List (List ℕ)). name a ∷ variables vs) (sym h.0))

begins : (a : AccessText) (read : List Placed) → Marked read (access_marks a ++ bare_mark t.Equals ∷ []) → FirstAt (begun a) read
begins a read h = record { left = a; outer = []; opened = o.Equals; same = refl; room = omega arith; within = tt; marked = h }

var-push : (a : AccessText) (n : List ℕ) → vars_listed a ++ bare_mark (t.Name n) ∷ []
    ≡ name a ∷ bare_mark t.Open ∷ separated (bare_mark t.Comma) var (a.vars ++ n ∷ [])
var-push a n = ap (λ ms. name a ∷ bare_mark t.Open ∷ ms) (sym (separated-push (bare_mark t.Comma) var a.vars n))

comma-push : (a : AccessText) → 0 < length a.vars → vars_separated a ++ bare_mark t.Comma ∷ [] ≡ vars_listed a
comma-push a h = ap (λ ms. name a ∷ bare_mark t.Open ∷ ms) (sym (listed-is (bare_mark t.Comma) var a.vars h))

close-push : (a : AccessText) → 0 < length a.vars → vars_separated a ++ bare_mark t.Close ∷ [] ≡ access_marks a
close-push a h = ap (λ ms. name a ∷ ms) (sym (variables-is a.vars h))

open-push : (a : AccessText) → a.vars ≡ [] → name a ∷ bare_mark t.Open ∷ [] ≡ vars_listed a
open-push a e = ap (λ (vs : List (List ℕ)). name a ∷ bare_mark t.Open ∷ listed (bare_mark t.Comma) var vs) (sym e)

vars-some : (vs : List (List ℕ)) (n : List ℕ) → 0 < length (vs ++ n ∷ [])
vars-some vs n = let m = length-append vs (n ∷ []) in omega (arith, m)

step-at : (state : State) (token : Token) (place : ℕ) (read : List Placed) → Reached state read
    → Lands (step_of state token place) (read ++ at token place ∷ [])
unfolding step_of
step-at s.Start (t.Name n) place read h = (refl, push read [] (at (t.Name n) place) (name (named_access n place)) h (refl, refl))
step-at s.Start _ place read h = tt
step-at (s.LeftName a) t.Open place read h = push_to read (name a ∷ []) (vars_listed a) (at t.Open place) (bare_mark t.Open) h.1 (refl, tt)
    (open-push a h.0)
step-at (s.LeftName a) t.Equals place read h =
    begins a (read ++ at t.Equals place ∷ []) (push_to read (name a ∷ []) (access_marks a ++ bare_mark t.Equals ∷ []) (at t.Equals place)
    (bare_mark t.Equals) h.1 (refl, tt)
    (ap (λ (vs : List (List ℕ)). name a ∷ (variables vs ++ bare_mark t.Equals ∷ [])) (sym h.0)))
step-at (s.LeftName a) _ place read h = tt
step-at (s.LeftVar a) (t.Name n) place read h = (
  vars-some a.vars n,
  push_to read (vars_listed a) (name a ∷ bare_mark t.Open ∷ separated (bare_mark t.Comma) var (a.vars ++ n ∷ [])) (at (t.Name n) place)
      (bare_mark (t.Name n)) h (refl, tt) (var-push a n),
)
step-at (s.LeftVar a) _ place read h = tt
step-at (s.LeftNext a) t.Comma place read h = push_to read (vars_separated a) (vars_listed a) (at t.Comma place) (bare_mark t.Comma) h.1
    (refl, tt) (comma-push a h.0)
step-at (s.LeftNext a) t.Close place read h = push_to read (vars_separated a) (access_marks a) (at t.Close place) (bare_mark t.Close) h.1
    (refl, tt) (close-push a h.0)
step-at (s.LeftNext a) _ place read h = tt
step-at (s.LeftDone a) t.Equals place read h = begins a (read ++ at t.Equals place ∷ [])
    (push read (access_marks a) (at t.Equals place) (bare_mark t.Equals) h (refl, tt))
step-at (s.LeftDone a) _ place read h = tt
step-at (s.First r) t.Minus place read h = first-negated r read (at t.Minus place) h (refl, tt)
step-at (s.First r) token place read h = at_factor-lands r token place read (first-ready r read h)
step-at (s.Factor r) token place read h = at_factor-lands r token place read h
step-at (s.Named r a) t.Open place read h = with_mark r (name a ∷ []) (vars_listed a) read (at t.Open place) (bare_mark t.Open) h.1
    (refl, tt) (open-push a h.0)
step-at (s.Named r a) token place read h = at_operator-lands (with_factor r (Access a)) token place read (named-settles r a read h)
step-at (s.Var r a) (t.Name n) place read h = (
  vars-some a.vars n,
  with_mark r (vars_listed a) (name a ∷ bare_mark t.Open ∷ separated (bare_mark t.Comma) var (a.vars ++ n ∷ [])) read (at (t.Name n) place)
      (bare_mark (t.Name n)) h (refl, tt) (var-push a n),
)
step-at (s.Var r a) _ place read h = tt
step-at (s.Next r a) t.Comma place read h = with_mark r (vars_separated a) (vars_listed a) read (at t.Comma place) (bare_mark t.Comma) h.1
    (refl, tt) (comma-push a h.0)
step-at (s.Next r a) t.Close place read h =
    take_access r a (access_marks a) (read ++ at t.Close place ∷ [])
    (with_mark r (vars_separated a) (access_marks a) read (at t.Close place) (bare_mark t.Close) h.1 (refl, tt) (close-push a h.0)) refl
step-at (s.Next r a) _ place read h = tt
step-at (s.SumOpen r begin) t.Open place read h =
    cond_lands (ltb (length r.outer) 32) (s.SumVar r begin) (record { kind = k.TooDeep; place = place }) (read ++ at t.Open place ∷ [])
    (λ e. (
      ltb-true _ _ e,
      with_mark r (sum_marks begin []) (sum_marks begin (bare_mark t.Open ∷ [])) read (at t.Open place) (bare_mark t.Open) h
          (refl, tt) refl,
    ))
step-at (s.SumOpen r begin) _ place read h = tt
step-at (s.SumVar r begin) (t.Name n) place read h = (
  h.0,
  with_mark r (sum_marks begin (bare_mark t.Open ∷ [])) (sum_marks begin (bare_mark t.Open ∷ bare_mark (t.Name n) ∷ [])) read
      (at (t.Name n) place) (bare_mark (t.Name n)) h.1 (refl, tt) refl,
)
step-at (s.SumVar r begin) _ place read h = tt
step-at (s.SumComma r begin n) t.Comma place read h =
    enter r (o.Sum n begin) (read ++ at t.Comma place ∷ []) tt h.0
    (with_mark r (sum_marks begin (bare_mark t.Open ∷ bare_mark (t.Name n) ∷ [])) (opening (o.Sum n begin)) read (at t.Comma place)
    (bare_mark t.Comma) h.1 (refl, tt) refl)
step-at (s.SumComma r begin n) _ place read h = tt
step-at (s.Operator r) token place read h = at_operator-lands r token place read h

pub step-lands : (state : State) (x : Placed) (read : List Placed) → Reached state read
    → Lands (step_of state x.token x.place) (read ++ x ∷ [])
step-lands state x read h = step-at state x.token x.place read h

-- ---- the end

abbrev pub Finds : Result Statement NoteRefusal → List Placed → Type 0
Finds (Ok x) read = Spells read x
Finds (Err r) read = Unit {0}

whole-form : (left : AccessText) (outer : List OpenForm) (l : OpenForm) (x : TermForm) (read : List Placed) → levels_of outer ≡ []
    → FitsExpr (length outer) (next_form l.terms l.minus x)
    → Marked read (around left outer l.opened ++ (lead l.terms l.minus ++ term_marks x))
    → Spells read (record { left = left; tops = terms_of l.terms ++ (record { minus = l.minus; body = product_of (term_factors x) }) ∷ [] })
whole-form left [] l x read none fits marked =
    let n = fits.shallow in
    record {
      form = next_form l.terms l.minus x;
      fits = fits.fits;
      shallow = omega (arith, n);
      means = sym (next_form-terms l.terms l.minus x);
      marked = along read ((access_marks left ++ bare_mark t.Equals ∷ []) ++ (lead l.terms l.minus ++ term_marks x))
          (access_marks left ++ bare_mark t.Equals ∷ expr_marks (next_form l.terms l.minus x)) marked
          (append_assoc (access_marks left) (bare_mark t.Equals ∷ []) (lead l.terms l.minus ++ term_marks x)
          ∙ ap (λ ms. access_marks left ++ bare_mark t.Equals ∷ ms) (sym (next_form-marks l.terms l.minus x)));
    }
whole-form left (w ∷ ws) l x read none fits marked = absurd cc

whole-found : (r : Reading) (read : List Placed) → r.outer ≡ [] → BehindAt r read → Spells read (whole_statement r)
whole-found r read none h =
    subst (λ (q : Reading). Spells read (whole_statement q)) (sym h.same)
    (whole-form h.form.left h.form.outer h.form.level h.term read (sym (ap (λ (q : Reading). q.outer) h.same)
    ∙ none) (form-fits r read h) h.marked)

ends-found : (r : Reading) (ls : List Level) (end : ℕ) (read : List Placed) → r.outer ≡ ls → BehindAt r read → Finds (ends r ls end) read
ends-found r [] end read e h = whole-found r read e h
ends-found r (l ∷ ls) end read e h = tt

end-found : (state : State) (end : ℕ) (read : List Placed) → Reached state read → Finds (end_of state end) read
unfolding end_of
end-found (s.Named r a) end read h = ends-found (with_factor r (Access a)) r.outer end read refl (named-settles r a read h)
end-found (s.Operator r) end read h = ends-found r r.outer end read refl h
end-found _ end read h = tt

go-finds : (end : ℕ) (r : Result State NoteRefusal) (xs read all : List Placed) → Lands r read
    → ((state : State) → Reached state read → Finds (run end state xs) all)
    → Finds (go r (λ next. run end next xs)) all
unfolding go
go-finds end (Ok state) xs read all h rest = rest state h
go-finds end (Err r) xs read all h rest = tt

pub run-found : (end : ℕ) (state : State) (xs read : List Placed) → Reached state read → Finds (run end state xs) (read ++ xs)
unfolding run
run-found end state [] read h = subst (λ l. Finds (end_of state end) l) (sym (append-nil read)) (end-found state end read h)
run-found end state (x ∷ xs) read h =
    go-finds end (step_of state x.token x.place) xs (read ++ x ∷ []) (read ++ x ∷ xs) (step-lands state x read h)
    (λ next reached. subst (λ l. Finds (run end next xs) l) (append_assoc read (x ∷ []) xs)
    (run-found end next xs (read ++ x ∷ []) reached))
