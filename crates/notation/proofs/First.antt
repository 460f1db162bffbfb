-- A refusal is the first fault.
use Rattle.std.proofs.Common.{◌≡◌, ℕ, List, [], ◌∷◌, ◌++◌, length, Bool, true, false, cond, ltb, Result, Ok, Err, IfOk}
use Rattle.std.proofs.Common.{refl, sym, ap, subst}
use Rattle.std.proofs.Common.{◌∙◌, append_assoc, inl, inr, ◌⊎◌, ⊎_elim}
use Rattle.std.proofs.lemmas.Bool.{cases_Bool}
use Rattle.std.proofs.lemmas.List.{append-nil}
use Rattle.sam_base.specs.declared.faults.NoteKind.TheVariants as k
use Rattle.notation.specs.declared.tokens.Token.{Token}
use Rattle.notation.specs.declared.tokens.Token.TheVariants as t
use Rattle.notation.specs.declared.tokens.Placed.{Placed}
use Rattle.notation.specs.declared.statement.AccessText.{AccessText}
use Rattle.notation.specs.declared.statement.Statement.{Statement}
use Rattle.notation.specs.declared.statement.NoteFault.{NoteFault}
use Rattle.notation.specs.declared.statement.NoteFault.TheVariants as faults
use Rattle.notation.specs.declared.state.Opened.TheVariants as o
use Rattle.notation.specs.declared.state.Level.{Level}
use Rattle.notation.specs.declared.state.Reading.{Reading}
use Rattle.notation.specs.declared.state.State.{State}
use Rattle.notation.specs.declared.state.State.TheVariants as s
use Rattle.notation.specs.Refusals.{NoteRefusal, GivesNote, FailsNote, IfNoteRefused}
use Rattle.notation.specs.Trees.{Access, Literal}
use Rattle.notation.specs.Positions.{token_kind, with_factor, with_var, deeper, closed_tree, next_term, at_factor, at_operator, closes}
use Rattle.notation.specs.Positions.{step_of, ends, end_of, run, go}
use Rattle.notation.specs.Spelling.{Spells, Viable, place_of, FirstFault}
use Rattle.notation.proofs.ReachedForms.{Reached, Lands}
use Rattle.notation.proofs.Found.{Finds, step-lands, run-found}
use Rattle.notation.proofs.Again.{run-again}

-- ---- what was read can be gone on with

abbrev is_read : Result Statement NoteRefusal → Bool
is_read (Ok x) = true
is_read (Err r) = false

read_spelled : (r : Result Statement NoteRefusal) (all : List Placed) → is_read r ≡ true → Finds r all → (x : Statement) × Spells all x
read_spelled (Ok x) all e h = (x, h)
read_spelled (Err r) all e h = absurd cc

made : (state : State) (read more : List Placed) → Reached state read → is_read (run 0 state more) ≡ true → Viable read
made state read more h e = let w = read_spelled (run 0 state more) (read ++ more) e (run-found 0 state more read h) in (more, w.0, w.1)

abbrev at : Token → Placed
at token = record { token = token; place = 0 }

abbrev a_name : Placed
a_name = at (t.Name (97 ∷ []))

abbrev a_number : Placed
a_number = at (t.Number 0)

-- a `)` for each expression that stands open
abbrev closers : List Level → List Placed
closers [] = []
closers (l ∷ ls) = at t.Close ∷ closers ls

abbrev reading : AccessText → List Level → Level → Reading
reading left outer level = record { left = left; outer = outer; level = level }

operator-ends : (left : AccessText) (ls : List Level) (level : Level)
    → is_read (run 0 (s.Operator (reading left ls level)) (closers ls)) ≡ true
unfolding run go step_of at_operator end_of
operator-ends left [] level = refl
operator-ends left (l ∷ ls) level = operator-ends left ls (with_factor (reading left ls l) (closed_tree level)).level

named-ends : (left : AccessText) (ls : List Level) (level : Level) (a : AccessText)
    → is_read (run 0 (s.Named (reading left ls level) a) (closers ls)) ≡ true
unfolding run go step_of at_operator end_of
named-ends left [] level a = refl
named-ends left (l ∷ ls) level a = operator-ends left ls (with_factor (reading left ls l)
    (closed_tree (with_factor (reading left (l ∷ ls) level) (Access a)).level)).level

first-ends : (r : Reading) → is_read (run 0 (s.First r) (a_number ∷ closers r.outer)) ≡ true
unfolding run go step_of at_factor
first-ends r = operator-ends r.left r.outer (with_factor r (Literal 0)).level

factor-ends : (r : Reading) → is_read (run 0 (s.Factor r) (a_number ∷ closers r.outer)) ≡ true
unfolding run go step_of at_factor
factor-ends r = operator-ends r.left r.outer (with_factor r (Literal 0)).level

next-ends : (r : Reading) (a : AccessText) → is_read (run 0 (s.Next r a) (at t.Close ∷ closers r.outer)) ≡ true
unfolding run go step_of
next-ends r a = operator-ends r.left r.outer (with_factor r (Access a)).level

var-ends : (r : Reading) (a : AccessText) → is_read (run 0 (s.Var r a) (a_name ∷ at t.Close ∷ closers r.outer)) ≡ true
unfolding run go step_of
var-ends r a = next-ends r (with_var a (97 ∷ []))

comma-ends : (r : Reading) (place : ℕ) (n : List ℕ) → is_read
    (run 0 (s.SumComma r place n) (at t.Comma ∷ a_number ∷ closers (r.level ∷ r.outer))) ≡ true
unfolding run go step_of
comma-ends r place n = first-ends (deeper r (o.Sum n place))

sum_var-ends : (r : Reading) (place : ℕ) → is_read (run 0 (s.SumVar r place)
    (a_name ∷ at t.Comma ∷ a_number ∷ closers (r.level ∷ r.outer))) ≡ true
unfolding run go step_of
sum_var-ends r place = comma-ends r place (97 ∷ [])

sum_open-ends : (r : Reading) (place : ℕ) → ltb (length r.outer) 32 ≡ true
    → is_read (run 0 (s.SumOpen r place) (at t.Open ∷ a_name ∷ at t.Comma ∷ a_number ∷ closers (r.level ∷ r.outer))) ≡ true
unfolding run go step_of
sum_open-ends r place e = rw e (sum_var-ends r place)

-- the word `sum` at the deepest place can't be gone on with
abbrev CanGoOn : State → Type 0
CanGoOn (s.SumOpen r place) = ltb (length r.outer) 32 ≡ true
CanGoOn _ = Unit {0}

viable : (state : State) (read : List Placed) → Reached state read → CanGoOn state → Viable read
unfolding run go step_of at_factor at_operator end_of
viable s.Start read h c = made s.Start read (a_name ∷ at t.Equals ∷ a_number ∷ []) h refl
viable (s.LeftName a) read h c = made (s.LeftName a) read (at t.Equals ∷ a_number ∷ []) h refl
viable (s.LeftVar a) read h c = made (s.LeftVar a) read (a_name ∷ at t.Close ∷ at t.Equals ∷ a_number ∷ []) h refl
viable (s.LeftNext a) read h c = made (s.LeftNext a) read (at t.Close ∷ at t.Equals ∷ a_number ∷ []) h refl
viable (s.LeftDone a) read h c = made (s.LeftDone a) read (at t.Equals ∷ a_number ∷ []) h refl
viable (s.First r) read h c = made (s.First r) read (a_number ∷ closers r.outer) h (first-ends r)
viable (s.Factor r) read h c = made (s.Factor r) read (a_number ∷ closers r.outer) h (factor-ends r)
viable (s.Named r a) read h c = made (s.Named r a) read (closers r.outer) h (named-ends r.left r.outer r.level a)
viable (s.Var r a) read h c = made (s.Var r a) read (a_name ∷ at t.Close ∷ closers r.outer) h (var-ends r a)
viable (s.Next r a) read h c = made (s.Next r a) read (at t.Close ∷ closers r.outer) h (next-ends r a)
viable (s.SumOpen r place) read h c =
    made (s.SumOpen r place) read (at t.Open ∷ a_name ∷ at t.Comma ∷ a_number ∷ closers (r.level ∷ r.outer)) h (sum_open-ends r place c)
viable (s.SumVar r place) read h c = made (s.SumVar r place) read (a_name ∷ at t.Comma ∷ a_number ∷ closers (r.level ∷ r.outer)) h
    (sum_var-ends r place)
viable (s.SumComma r place n) read h c = made (s.SumComma r place n) read (at t.Comma ∷ a_number ∷ closers (r.level ∷ r.outer)) h
    (comma-ends r place n)
viable (s.Operator r) read h c = made (s.Operator r) read (closers r.outer) h (operator-ends r.left r.outer r.level)

-- ---- where a refusal stands, and that a word `sum` leads behind a word `sum`

abbrev Told : Result State NoteRefusal → Token → ℕ → Type 0
Told (Err r) token place = r.place ≡ place
Told (Ok (s.SumOpen r begin)) token place = token ≡ t.Sum
Told (Ok _) token place = Unit {0}

cond_told : (b : Bool) (state : State) (r : NoteRefusal) (token : Token) (place : ℕ) → Told (Ok state) token place → r.place ≡ place
    → Told (cond b (Ok state) (Err r)) token place
cond_told true state r token place h g = h
cond_told false state r token place h g = g

closes_told : (left : AccessText) (ls : List Level) (level : Level) (token : Token) (place : ℕ)
    → Told (closes left ls level place) token place
closes_told left [] level token place = refl
closes_told left (l ∷ ls) level token place = tt

factor_told : (r : Reading) (token : Token) (place : ℕ) → Told (at_factor r token place) token place
unfolding at_factor
factor_told r (t.Name n) place = tt
factor_told r (t.Number n) place = tt
factor_told r t.Open place = cond_told (ltb (length r.outer) 32) (s.First (deeper r o.Parenthesis))
    (record { kind = k.TooDeep; place = place }) t.Open place tt refl
factor_told r t.Sum place = refl
factor_told r _ place = refl

operator_told : (r : Reading) (token : Token) (place : ℕ) → Told (at_operator r token place) token place
unfolding at_operator
operator_told r t.Plus place = cond_told (ltb (length r.level.terms) 15) (s.Factor (next_term r false))
    (record { kind = k.TooManyTerms; place = place }) t.Plus place tt refl
operator_told r t.Minus place = cond_told (ltb (length r.level.terms) 15) (s.Factor (next_term r true))
    (record { kind = k.TooManyTerms; place = place }) t.Minus place tt refl
operator_told r t.Star place = cond_told (ltb (length r.level.factors) 8) (s.Factor r)
    (record { kind = k.TooManyFactors; place = place }) t.Star place tt refl
operator_told r t.Close place = closes_told r.left r.outer r.level t.Close place
operator_told r _ place = refl

step_told : (state : State) (token : Token) (place : ℕ) → Told (step_of state token place) token place
unfolding step_of
step_told s.Start (t.Name n) place = tt
step_told s.Start _ place = refl
step_told (s.LeftName a) t.Open place = tt
step_told (s.LeftName a) t.Equals place = tt
step_told (s.LeftName a) _ place = refl
step_told (s.LeftVar a) (t.Name n) place = tt
step_told (s.LeftVar a) _ place = refl
step_told (s.LeftNext a) t.Comma place = tt
step_told (s.LeftNext a) t.Close place = tt
step_told (s.LeftNext a) _ place = refl
step_told (s.LeftDone a) t.Equals place = tt
step_told (s.LeftDone a) _ place = refl
step_told (s.First r) t.Minus place = tt
step_told (s.First r) token place = factor_told r token place
step_told (s.Factor r) token place = factor_told r token place
step_told (s.Named r a) t.Open place = tt
step_told (s.Named r a) token place = operator_told (with_factor r (Access a)) token place
step_told (s.Var r a) (t.Name n) place = tt
step_told (s.Var r a) _ place = refl
step_told (s.Next r a) t.Comma place = tt
step_told (s.Next r a) t.Close place = tt
step_told (s.Next r a) _ place = refl
step_told (s.SumOpen r begin) t.Open place = cond_told (ltb (length r.outer) 32) (s.SumVar r begin)
    (record { kind = k.TooDeep; place = place }) t.Open place tt refl
step_told (s.SumOpen r begin) _ place = refl
step_told (s.SumVar r begin) (t.Name n) place = tt
step_told (s.SumVar r begin) _ place = refl
step_told (s.SumComma r begin n) t.Comma place = tt
step_told (s.SumComma r begin n) _ place = refl
step_told (s.Operator r) token place = operator_told r token place

abbrev StandsAt : Result Statement NoteRefusal → ℕ → Type 0
StandsAt (Ok x) place = Unit {0}
StandsAt (Err r) place = r.place ≡ place

ends_stand : (r : Reading) (ls : List Level) (end : ℕ) → StandsAt (ends r ls end) end
ends_stand r [] end = tt
ends_stand r (l ∷ ls) end = refl

end_stands : (state : State) (end : ℕ) → StandsAt (end_of state end) end
unfolding end_of
end_stands (s.Named r a) end = ends_stand (with_factor r (Access a)) r.outer end
end_stands (s.Operator r) end = ends_stand r r.outer end
end_stands _ end = refl

end-place : (q : Result Statement NoteRefusal) (r : NoteRefusal) (place : ℕ) → StandsAt q place → q ≡ Err r → r.place ≡ place
end-place (Ok x) r place h e = absurd cc
end-place (Err d) r place h e = let same : d ≡ r = cc in sym (ap (λ (z : NoteRefusal). z.place) same) ∙ h

same_refusal : (q : Result Statement NoteRefusal) (a b : NoteRefusal) → q ≡ Err a → q ≡ Err b → a ≡ b
same_refusal (Ok y) a b e d = absurd cc
same_refusal (Err y) a b e d = cc

no_both : (q : Result Statement NoteRefusal) (x : Statement) (r : NoteRefusal) → q ≡ Ok x → q ≡ Err r → ⊥
no_both (Ok y) x r e d = absurd cc
no_both (Err y) x r e d = absurd cc

pub run-ok : (end : ℕ) (state next : State) (x : Placed) (xs : List Placed) → step_of state x.token x.place ≡ Ok next
    → run end state (x ∷ xs) ≡ run end next xs
unfolding run go
run-ok end state next x xs e = rw e refl

pub run-err : (end : ℕ) (state : State) (r : NoteRefusal) (x : Placed) (xs : List Placed) → step_of state x.token x.place ≡ Err r
    → run end state (x ∷ xs) ≡ Err r
unfolding run go
run-err end state r x xs e = rw e refl

pub run-nil : (end : ℕ) (state : State) → run end state [] ≡ end_of state end
unfolding run
run-nil end state = refl

-- ---- the word `sum` at the deepest place

record Deepest (state : State) : Type 0 where
  r : Reading
  begin : ℕ
  is : state ≡ s.SumOpen r begin
  full : ltb (length r.outer) 32 ≡ false

goes_or_deepest : (state : State) → CanGoOn state ⊎ Deepest state
goes_or_deepest (s.SumOpen r begin) =
    ⊎_elim (λ e. inl e) (λ e. inr (record { r = r; begin = begin; is = refl; full = e })) (cases_Bool (ltb (length r.outer) 32))
goes_or_deepest _ = inl tt

record RefusedAt (q : Result Statement NoteRefusal) (place : ℕ) : Type 0 where
  r : NoteRefusal
  refused : q ≡ Err r
  stands : r.place ≡ place

record StepRefusedAt (q : Result State NoteRefusal) (place : ℕ) : Type 0 where
  r : NoteRefusal
  refused : q ≡ Err r
  stands : r.place ≡ place

deepest-step : (r : Reading) (begin : ℕ) (token : Token) (place : ℕ) → ltb (length r.outer) 32 ≡ false
    → StepRefusedAt (step_of (s.SumOpen r begin) token place) place
unfolding step_of
deepest-step r begin t.Open place e = record { r = record { kind = k.TooDeep; place = place }; refused = rw e refl; stands = refl }
deepest-step r begin token place e = record {
  r = record { kind = token_kind token k.ExpectedOpen; place = place };
  refused = refl;
  stands = refl;
}

deepest-refused : (end : ℕ) (r : Reading) (begin : ℕ) (xs : List Placed) → ltb (length r.outer) 32 ≡ false
    → RefusedAt (run end (s.SumOpen r begin) xs) (place_of end xs)
unfolding run end_of
deepest-refused end r begin [] e = record { r = record { kind = k.ExpectedOpen; place = end }; refused = refl; stands = refl }
deepest-refused end r begin (x ∷ xs) e =
    let d = deepest-step r begin x.token x.place e in
    record { r = d.r; refused = run-err end (s.SumOpen r begin) d.r x xs d.refused; stands = d.stands }

-- ---- the first fault

abbrev Leads : State → List Placed → Type 0
Leads state read = (end : ℕ) (xs : List Placed) → run end s.Start (read ++ xs) ≡ run end state xs

leads-on : (state next : State) (read : List Placed) (x : Placed) → step_of state x.token x.place ≡ Ok next → Leads state read
    → Leads next (read ++ x ∷ [])
leads-on state next read x e leads = λ n ys. ap (λ zs. run n s.Start zs) (append_assoc read (x ∷ []) ys) ∙ leads n (x ∷ ys)
    ∙ run-ok n state next x ys e

-- where the word `sum` leads to the deepest place
deepest-fault : (end : ℕ) (state next : State) (read : List Placed) (x : Placed) (xs all : List Placed) (r : NoteRefusal)
    → step_of state x.token x.place ≡ Ok next
    → Reached state read → CanGoOn state → Leads state read → all ≡ read ++ x ∷ xs → run end state (x ∷ xs) ≡ Err r → Deepest next
    → FirstFault end all r
deepest-fault end state next read x xs all r e h c leads is err d =
    let here = deepest-refused end d.r d.begin xs d.full in
    let there : run end state (x ∷ xs) ≡ Err here.r =
    run-ok end state next x xs e ∙ ap (λ (q : State). run end q xs) d.is ∙ here.refused in
    let place : r.place ≡ place_of end xs = ap (λ (z : NoteRefusal). z.place) (same_refusal (run end state (x ∷ xs)) r here.r err there)
    ∙ here.stands in
    let word : x.token ≡ t.Sum = subst (λ (q : Result State NoteRefusal). Told q x.token x.place) (e
    ∙ ap Ok d.is) (step_told state x.token x.place) in
    record {
      before = read;
      viable = viable state read h c;
      here = inl (
        x,
        xs,
        is,
        inr (word, place),
        λ v.
            let q = deepest-refused 0 d.r d.begin v.0 d.full in
            no_both (run 0 s.Start ((read ++ x ∷ []) ++ v.0)) v.1 q.r (run-again 0 v.1 ((read ++ x ∷ []) ++ v.0) v.2)
            (leads-on state next read x e leads 0 v.0 ∙ ap (λ (w : State). run 0 w v.0) d.is ∙ q.refused),
      );
    }

first-step : (end : ℕ) (state : State) (read : List Placed) (x : Placed) (xs all : List Placed) (r : NoteRefusal)
    (q : Result State NoteRefusal) → step_of state x.token x.place ≡ q
    → Reached state read → CanGoOn state → Leads state read → all ≡ read ++ x ∷ xs → run end state (x ∷ xs) ≡ Err r
    → ((next : State) → Reached next (read ++ x ∷ []) → CanGoOn next → Leads next (read ++ x ∷ []) → all ≡ (read ++ x ∷ []) ++ xs
    → run end next xs ≡ Err r → FirstFault end all r)
    → FirstFault end all r
first-step end state read x xs all r (Ok next) e h c leads is err rest =
    ⊎_elim
    (λ (can : CanGoOn next). rest next (subst (λ q. Lands q (read ++ x ∷ [])) e (step-lands state x read h)) can
    (leads-on state next read x e leads)
    (is ∙ sym (append_assoc read (x ∷ []) xs)) (sym (run-ok end state next x xs e) ∙ err))
    (λ (d : Deepest next). deepest-fault end state next read x xs all r e h c leads is err d)
    (goes_or_deepest next)
first-step end state read x xs all r (Err d) e h c leads is err rest =
    let told : d.place ≡ x.place = subst (λ (q : Result State NoteRefusal). Told q x.token x.place) e (step_told state x.token x.place) in
    let same = same_refusal (run end state (x ∷ xs)) r d err (run-err end state d x xs e) in
    record {
      before = read;
      viable = viable state read h c;
      here = inl (
        x,
        xs,
        is,
        inl (ap (λ (z : NoteRefusal). z.place) same ∙ told),
        λ v. no_both (run 0 s.Start ((read ++ x ∷ []) ++ v.0)) v.1 d (run-again 0 v.1 ((read ++ x ∷ []) ++ v.0) v.2)
            (ap (λ zs. run 0 s.Start zs) (append_assoc read (x ∷ []) v.0) ∙ leads 0 (x ∷ v.0) ∙ run-err 0 state d x v.0 e),
      );
    }

first-fault : (end : ℕ) (state : State) (read xs all : List Placed) (r : NoteRefusal) → Reached state read → CanGoOn state
    → Leads state read → all ≡ read ++ xs → run end state xs ≡ Err r
    → FirstFault end all r
first-fault end state read [] all r h c leads is err = record {
  before = read;
  viable = viable state read h c;
  here = inr (
    is ∙ append-nil read,
    end-place (end_of state end) r end (end_stands state end) (sym (run-nil end state) ∙ err),
    λ x sp. no_both (run end s.Start all) x r (run-again end x all sp) (ap (λ zs. run end s.Start zs) is ∙ leads end [] ∙ err),
  );
}
first-fault end state read (x ∷ xs) all r h c leads is err =
    first-step end state read x xs all r (step_of state x.token x.place) refl h c leads is err
    (λ next. first-fault end next (read ++ x ∷ []) xs all r)

refused_first : (end : ℕ) (xs : List Placed) (r : NoteRefusal) → run end s.Start xs ≡ Err r → FirstFault end xs r
refused_first end xs r e = first-fault end s.Start [] xs xs r tt tt (λ n ys. refl) refl e

pub ok_spells : (end : ℕ) (xs : List Placed) (x : Statement) → run end s.Start xs ≡ Ok x → Spells xs x
ok_spells end xs x e = subst (λ q. Finds q xs) e (run-found end s.Start xs [] tt)

-- ---- what the reading answers

pub fault_goes : (e : NoteFault) (end : ℕ) (state : State) (x : Placed) (xs : List Placed) (total : Result Statement NoteRefusal)
    → FailsNote e (step_of state x.token x.place)
    → run end state (x ∷ xs) ≡ total → FailsNote e total
fault_goes faults.OutOfMemory end state x xs total h so_far = tt
fault_goes (faults.Refused kind place) end state x xs total h so_far = sym so_far
    ∙ run-err end state (record { kind = kind; place = place }) x xs h

pub is_found : (end : ℕ) (xs : List Placed) (res : Result Statement NoteFault) → GivesNote res (run end s.Start xs)
    → IfOk res (λ x. Spells xs x)
is_found end xs (Ok x) h = ok_spells end xs x h
is_found end xs (Err e) h = tt

pub is_first : (end : ℕ) (xs : List Placed) (res : Result Statement NoteFault) → GivesNote res (run end s.Start xs)
    → IfNoteRefused res (FirstFault end xs)
is_first end xs (Ok x) h = tt
is_first end xs (Err faults.OutOfMemory) h = tt
is_first end xs (Err (faults.Refused kind place)) h = refused_first end xs (record { kind = kind; place = place }) h
