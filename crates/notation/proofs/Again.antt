-- What is spelled so is read again.
use Rattle.std.proofs.Common.{◌≡◌, ℕ, ◌<◌, ◌≤◌, List, [], ◌∷◌, ◌++◌, length, Bool, true, false, Ok, refl, sym, ap, subst, ◌∙◌}
use Rattle.std.proofs.Common.{append_assoc, arith, inl, inr, ◌⊎◌}
use Rattle.std.proofs.lemmas.Bool.{lt-ltb}
use Rattle.std.proofs.lemmas.List.{append-nil}
use Rattle.notation.specs.declared.tokens.Token.{Token}
use Rattle.notation.specs.declared.tokens.Token.TheVariants as t
use Rattle.notation.specs.declared.tokens.Placed.{Placed}
use Rattle.notation.specs.declared.statement.AccessText.{AccessText}
use Rattle.notation.specs.declared.statement.Statement.{Statement}
use Rattle.notation.specs.declared.state.Opened.{Opened}
use Rattle.notation.specs.declared.state.Opened.TheVariants as o
use Rattle.notation.specs.declared.state.Level.{Level}
use Rattle.notation.specs.declared.state.Reading.{Reading}
use Rattle.notation.specs.declared.state.State.{State}
use Rattle.notation.specs.declared.state.State.TheVariants as s
use Rattle.notation.specs.Trees.{TextTree, Access, Literal, TopTextTree, sum_of}
use Rattle.notation.specs.Marks.{Mark, bare_mark, placed_mark, separated, var, variables, access_marks, Marked}
use Rattle.notation.specs.Forms.{FactorForm, TermForm, ExprForm, access, literal, group, sum, one, times, first, more, sign, factor_tree}
use Rattle.notation.specs.Forms.{term_factors, expr_terms, factor_marks, term_marks, expr_marks, term_count}
use Rattle.notation.specs.Positions.{with_factor, with_var, opened_level, begun, negated, closed_term, closed_tree, next_term, deeper}
use Rattle.notation.specs.Positions.{factor_of, whole_statement, named_access}
use Rattle.notation.specs.Positions.{at_factor, at_operator, step_of, ends, end_of, run, go}
use Rattle.notation.specs.Spelling.{Spells}
use Rattle.notation.proofs.OpenForms.{FitsFactor, FitsTerm, FitsExpr, times-parts, more-parts, term_count-is}

token-read : (end : ℕ) (here there : State) (x : Placed) (xs : List Placed) (token : Token) → x.token ≡ token
    → step_of here token x.place ≡ Ok there
    → run end here (x ∷ xs) ≡ run end there xs
unfolding run go
token-read end here there x xs token e h = rw (e, h) refl

-- from one state to another the marks before these are read
record Goes (end : ℕ) (here : State) (xs : List Placed) (there : State) (ms : List Mark) : Type 0 where
  rest : List Placed
  marked : Marked rest ms
  same : run end here xs ≡ run end there rest

-- a token of which no place is told
moves : (end : ℕ) (here there : State) (token : Token) (xs : List Placed) (ms : List Mark)
    → ((place : ℕ) → step_of here token place ≡ Ok there)
    → Marked xs (bare_mark token ∷ ms) → Goes end here xs there ms
moves end here there token [] ms e h = absurd h
moves end here there token (x ∷ xs) ms e h = record {
  rest = xs;
  marked = h.1;
  same =
      token-read end here there x xs token h.0.0 (e x.place);
}

-- a token of which the place is told
moves_at : (end : ℕ) (here : State) (there : ℕ → State) (token : Token) (place : ℕ) (xs : List Placed) (ms : List Mark)
    → ((p : ℕ) → step_of here token p ≡ Ok (there p)) → Marked xs (placed_mark token place ∷ ms) → Goes end here xs (there place) ms
moves_at end here there token place [] ms e h = absurd h
moves_at end here there token place (x ∷ xs) ms e h = record {
  rest = xs;
  marked = h.1;
  same = token-read end here (there x.place) x xs token h.0.0 (e x.place) ∙ ap (λ p. run end (there p) xs) h.0.1;
}

remark : (xs : List Placed) (ms to : List Mark) → ms ≡ to → Marked xs ms → Marked xs to
remark xs ms to e h = subst (λ l. Marked xs l) e h

-- ---- variables

abbrev with_vars : AccessText → List (List ℕ) → AccessText
with_vars a vs = record { name = a.name; vars = a.vars ++ vs; place = a.place }

vars-again : (V N D : AccessText → State) → ((a : AccessText) (n : List ℕ) (p : ℕ) → step_of (V a) (t.Name n) p ≡ Ok (N (with_var a n)))
    → ((a : AccessText) (p : ℕ) → step_of (N a) t.Comma p ≡ Ok (V a)) → ((a : AccessText) (p : ℕ) → step_of (N a) t.Close p ≡ Ok (D a))
    → (end : ℕ) (a : AccessText) (v : List ℕ) (vs : List (List ℕ)) (xs : List Placed) (ms : List Mark)
    → Marked xs (separated (bare_mark t.Comma) var (v ∷ vs) ++ bare_mark t.Close ∷ ms) → Goes end (V a) xs (D (with_vars a (v ∷ vs))) ms
vars-again V N D hv hc hd end a v [] xs ms h =
    let p = moves end (V a) (N (with_var a v)) (t.Name v) xs (bare_mark t.Close ∷ ms) (hv a v) h in
    let q = moves end (N (with_var a v)) (D (with_var a v)) t.Close p.rest ms (hd (with_var a v)) p.marked in
    record { rest = q.rest; marked = q.marked; same = p.same ∙ q.same }
vars-again V N D hv hc hd end a v (w ∷ ws) xs ms h =
    let p = moves end (V a) (N (with_var a v)) (t.Name v) xs
    (bare_mark t.Comma ∷ (separated (bare_mark t.Comma) var (w ∷ ws) ++ bare_mark t.Close ∷ ms)) (hv a v) h in
    let q = moves end (N (with_var a v)) (V (with_var a v)) t.Comma p.rest
    (separated (bare_mark t.Comma) var (w ∷ ws) ++ bare_mark t.Close ∷ ms) (hc (with_var a v)) p.marked in
    let r = vars-again V N D hv hc hd end (with_var a v) w ws q.rest ms q.marked in
    record {
      rest = r.rest;
      marked = r.marked;
      same = p.same ∙ q.same ∙ r.same
          ∙ ap (λ (us : List (List ℕ)). run end (D (record { name = a.name; vars = us; place = a.place })) r.rest)
          (append_assoc a.vars (v ∷ []) (w ∷ ws));
    }

-- ---- steps

step-var : (r : Reading) (a : AccessText) (n : List ℕ) (place : ℕ) → step_of (s.Var r a) (t.Name n) place ≡ Ok (s.Next r (with_var a n))
unfolding step_of
step-var r a n place = refl

step-comma : (r : Reading) (a : AccessText) (place : ℕ) → step_of (s.Next r a) t.Comma place ≡ Ok (s.Var r a)
unfolding step_of
step-comma r a place = refl

step-close : (r : Reading) (a : AccessText) (place : ℕ) → step_of (s.Next r a) t.Close place ≡ Ok (s.Operator (with_factor r (Access a)))
unfolding step_of
step-close r a place = refl

step-name : (r : Reading) (n : List ℕ) (place : ℕ) → step_of (s.Factor r) (t.Name n) place ≡ Ok (s.Named r (named_access n place))
unfolding step_of at_factor
step-name r n place = refl

step-number : (r : Reading) (n place : ℕ) → step_of (s.Factor r) (t.Number n) place ≡ Ok (s.Operator (with_factor r (Literal n)))
unfolding step_of at_factor
step-number r n place = refl

step-open : (r : Reading) (a : AccessText) (place : ℕ) → step_of (s.Named r a) t.Open place ≡ Ok (s.Var r a)
unfolding step_of
step-open r a place = refl

step-group : (r : Reading) (place : ℕ) → length r.outer < 32 → step_of (s.Factor r) t.Open place ≡ Ok (s.First (deeper r o.Parenthesis))
unfolding step_of at_factor
step-group r place lt = rw (lt-ltb _ _ lt) refl

step-sum : (r : Reading) (place : ℕ) → step_of (s.Factor r) t.Sum place ≡ Ok (s.SumOpen r place)
unfolding step_of at_factor
step-sum r place = refl

step-sum_open : (r : Reading) (begin place : ℕ) → length r.outer < 32 → step_of (s.SumOpen r begin) t.Open place ≡ Ok (s.SumVar r begin)
unfolding step_of
step-sum_open r begin place lt = rw (lt-ltb _ _ lt) refl

step-sum_var : (r : Reading) (begin : ℕ) (n : List ℕ) (place : ℕ) → step_of (s.SumVar r begin) (t.Name n) place ≡ Ok (s.SumComma r begin n)
unfolding step_of
step-sum_var r begin n place = refl

step-sum_comma : (r : Reading) (begin : ℕ) (n : List ℕ) (place : ℕ)
    → step_of (s.SumComma r begin n) t.Comma place ≡ Ok (s.First (deeper r (o.Sum n begin)))
unfolding step_of
step-sum_comma r begin n place = refl

step-closed : (r : Reading) (level : Level) (place : ℕ)
    → step_of (s.Operator (record { left = r.left; outer = r.level ∷ r.outer; level = level })) t.Close place
    ≡ Ok (s.Operator (with_factor r (closed_tree level)))
unfolding step_of at_operator
step-closed r level place = refl

step-star : (r : Reading) (place : ℕ) → length r.level.factors < 8 → step_of (s.Operator r) t.Star place ≡ Ok (s.Factor r)
unfolding step_of at_operator
step-star r place lt = rw (lt-ltb _ _ lt) refl

step-minus : (r : Reading) (place : ℕ) → step_of (s.First r) t.Minus place ≡ Ok (s.Factor (negated r))
unfolding step_of
step-minus r place = refl

step-less : (r : Reading) (place : ℕ) → length r.level.terms < 15 → step_of (s.Operator r) t.Minus place ≡ Ok (s.Factor (next_term r true))
unfolding step_of at_operator
step-less r place lt = rw (lt-ltb _ _ lt) refl

step-plus : (r : Reading) (place : ℕ) → length r.level.terms < 15 → step_of (s.Operator r) t.Plus place ≡ Ok (s.Factor (next_term r false))
unfolding step_of at_operator
step-plus r place lt = rw (lt-ltb _ _ lt) refl

-- ---- what may stand behind a factor

abbrev EndsFactor : List Mark → Type 0
EndsFactor [] = Unit {0}
EndsFactor (m ∷ ms) = (m.token ≡ t.Star) ⊎ ((m.token ≡ t.Plus) ⊎ ((m.token ≡ t.Minus) ⊎ (m.token ≡ t.Close)))

sign_ends : (minus : Bool) (ms : List Mark) → EndsFactor (sign minus ∷ ms)
sign_ends true ms = inr (inr (inl refl))
sign_ends false ms = inr (inl refl)

close_ends : (ms : List Mark) → EndsFactor (bare_mark t.Close ∷ ms)
close_ends ms = inr (inr (inr refl))

-- a name with no variables, behind which stands what may stand behind a factor
settles : (end : ℕ) (r : Reading) (a : AccessText) (xs : List Placed) (ms : List Mark) → Marked xs ms → EndsFactor ms
    → run end (s.Named r a) xs ≡ run end (s.Operator (with_factor r (Access a))) xs
unfolding run go step_of end_of
settles end r a [] ms h e = refl
settles end r a (x ∷ xs) [] h e = absurd h
settles end r a (x ∷ xs) (m ∷ ms) h (inl e) = rw (h.0.0, e) refl
settles end r a (x ∷ xs) (m ∷ ms) h (inr (inl e)) = rw (h.0.0, e) refl
settles end r a (x ∷ xs) (m ∷ ms) h (inr (inr (inl e))) = rw (h.0.0, e) refl
settles end r a (x ∷ xs) (m ∷ ms) h (inr (inr (inr e))) = rw (h.0.0, e) refl

access-again : (end : ℕ) (r : Reading) (n : List ℕ) (vs : List (List ℕ)) (place : ℕ) (xs : List Placed) (ms : List Mark)
    → let a : AccessText = record { name = n; vars = vs; place = place } in
    Marked xs (access_marks a ++ ms) → EndsFactor ms → Goes end (s.Factor r) xs (s.Operator (with_factor r (Access a))) ms
access-again end r n [] place xs ms h e =
    let p = moves_at end (s.Factor r) (λ k. s.Named r (named_access n k)) (t.Name n) place xs ms (step-name r n) h in
    record { rest = p.rest; marked = p.marked; same = p.same ∙ settles end r (named_access n place) p.rest ms p.marked e }
access-again end r n (v ∷ vs) place xs ms h e =
    let p = moves_at end (s.Factor r) (λ k. s.Named r (named_access n k)) (t.Name n) place xs (variables (v ∷ vs) ++ ms)
    (step-name r n) h in
    let q = moves end (s.Named r (named_access n place)) (s.Var r (named_access n place)) t.Open p.rest
    ((separated (bare_mark t.Comma) var (v ∷ vs) ++ bare_mark t.Close ∷ []) ++ ms) (step-open r (named_access n place)) p.marked in
    let m = remark q.rest ((separated (bare_mark t.Comma) var (v ∷ vs) ++ bare_mark t.Close ∷ []) ++ ms)
    (separated (bare_mark t.Comma) var (v ∷ vs) ++ bare_mark t.Close ∷ ms)
    (append_assoc (separated (bare_mark t.Comma) var (v ∷ vs)) (bare_mark t.Close ∷ []) ms) q.marked in
    let d = vars-again (s.Var r) (s.Next r) (λ a. s.Operator (with_factor r (Access a))) (step-var r) (step-comma r) (step-close r) end
    (named_access n place) v vs q.rest ms m in
    record { rest = d.rest; marked = d.marked; same = p.same ∙ q.same ∙ d.same }

-- ---- factors, terms and expressions

-- an expression as far as these terms and factors
abbrev read_to : AccessText → List Level → Opened → List TopTextTree → Bool → List TextTree → Reading
read_to left outer opened terms minus factors =
    record { left = left; outer = outer; level = record { opened = opened; terms = terms; minus = minus; factors = factors } }

-- an expression as far as its last factor
abbrev ended : AccessText → List Level → Opened → ExprForm → Reading
ended left outer opened (first minus x) = read_to left outer opened [] minus (term_factors x)
ended left outer opened (more e minus x) = read_to left outer opened (expr_terms e) minus (term_factors x)

ended-terms : (left : AccessText) (outer : List Level) (opened : Opened) (e : ExprForm)
    → closed_term (ended left outer opened e).level ≡ expr_terms e
ended-terms left outer opened (first minus x) = refl
ended-terms left outer opened (more e minus x) = refl

ended-within : (left : AccessText) (outer : List Level) (opened : Opened) (e : ExprForm)
    → ended left outer opened e ≡ record { left = left; outer = outer; level = (ended left outer opened e).level }
ended-within left outer opened (first minus x) = refl
ended-within left outer opened (more e minus x) = refl

ended-tree : (left : AccessText) (outer : List Level) (opened : Opened) (e : ExprForm)
    → closed_tree (ended left outer opened e).level ≡ factor_of opened (sum_of (expr_terms e))
ended-tree left outer opened (first minus x) = refl
ended-tree left outer opened (more e minus x) = refl

ended-few : (left : AccessText) (outer : List Level) (opened : Opened) (e : ExprForm) → term_count e ≤ 15
    → length (ended left outer opened e).level.terms < 15
ended-few left outer opened (first minus x) h = omega arith
ended-few left outer opened (more e minus x) h = let n = term_count-is e in omega (arith, n, h)

ended-next : (left : AccessText) (outer : List Level) (opened : Opened) (e : ExprForm) (minus : Bool)
    → next_term (ended left outer opened e) minus ≡ read_to left outer opened (expr_terms e) minus []
ended-next left outer opened (first m x) minus = refl
ended-next left outer opened (more e m x) minus = refl

-- the sign before a term
next_sign : (end : ℕ) (r : Reading) (minus : Bool) (xs : List Placed) (ms : List Mark) → length r.level.terms < 15
    → Marked xs (sign minus ∷ ms)
    → Goes end (s.Operator r) xs (s.Factor (next_term r minus)) ms
next_sign end r true xs ms lt h = moves end (s.Operator r) (s.Factor (next_term r true)) t.Minus xs ms (λ p. step-less r p lt) h
next_sign end r false xs ms lt h = moves end (s.Operator r) (s.Factor (next_term r false)) t.Plus xs ms (λ p. step-plus r p lt) h

-- an expression that begins with no sign begins with a factor
plain_factor : (end : ℕ) (r : Reading) (f : FactorForm) (xs : List Placed) (ms : List Mark) → Marked xs (factor_marks f ++ ms)
    → run end (s.First r) xs ≡ run end (s.Factor r) xs
unfolding run go step_of
plain_factor end r (access a) [] ms h = absurd h
plain_factor end r (literal n) [] ms h = absurd h
plain_factor end r (group e) [] ms h = absurd h
plain_factor end r (sum v place e) [] ms h = absurd h
plain_factor end r (access a) (x ∷ xs) ms h = rw h.0.0 refl
plain_factor end r (literal n) (x ∷ xs) ms h = rw h.0.0 refl
plain_factor end r (group e) (x ∷ xs) ms h = rw h.0.0 refl
plain_factor end r (sum v place e) (x ∷ xs) ms h = rw h.0.0 refl

plain_term : (end : ℕ) (r : Reading) (x : TermForm) (xs : List Placed) (ms : List Mark) → Marked xs (term_marks x ++ ms)
    → run end (s.First r) xs ≡ run end (s.Factor r) xs
plain_term end r (one f) xs ms h = plain_factor end r f xs ms h
plain_term end r (times x f) xs ms h =
    plain_term end r x xs (bare_mark t.Star ∷ (factor_marks f ++ ms))
    (remark xs ((term_marks x ++ bare_mark t.Star ∷ factor_marks f) ++ ms) (term_marks x ++ bare_mark t.Star ∷ (factor_marks f ++ ms))
    (append_assoc (term_marks x) (bare_mark t.Star ∷ factor_marks f) ms) h)

-- behind the `)` of an expression
closed : (end : ℕ) (r : Reading) (opened : Opened) (e : ExprForm) (xs : List Placed) (ms : List Mark) → Marked xs (bare_mark t.Close ∷ ms)
    → Goes end (s.Operator (ended r.left (r.level ∷ r.outer) opened e)) xs
    (s.Operator (with_factor r (factor_of opened (sum_of (expr_terms e))))) ms
closed end r opened e xs ms h =
    let l : Level = (ended r.left (r.level ∷ r.outer) opened e).level in
    let p = moves end (s.Operator (record { left = r.left; outer = r.level ∷ r.outer; level = l }))
    (s.Operator (with_factor r (closed_tree l))) t.Close xs ms (step-closed r l) h in
    record {
      rest = p.rest;
      marked = p.marked;
      same = ap (λ (q : Reading). run end (s.Operator q) xs) (ended-within r.left (r.level ∷ r.outer) opened e) ∙ p.same
          ∙ ap (λ (tree : TextTree). run end (s.Operator (with_factor r tree)) p.rest) (ended-tree r.left (r.level ∷ r.outer) opened e);
    }

group-fits : (l : Level) (ls : List Level) (e : ExprForm) → FitsFactor (length ls) (group e) → FitsExpr (length (l ∷ ls)) e
group-fits l ls e h = let n = h.shallow in record { fits = h.fits; shallow = omega (arith, n) }

group-room : (ls : List Level) (e : ExprForm) → FitsFactor (length ls) (group e) → length ls < 32
group-room ls e h = let n = h.shallow in omega (arith, n)

mutual
  factor-again : (f : FactorForm) (end : ℕ) (r : Reading) (xs : List Placed) (ms : List Mark) → FitsFactor (length r.outer) f
      → Marked xs (factor_marks f ++ ms) → EndsFactor ms
      → Goes end (s.Factor r) xs (s.Operator (with_factor r (factor_tree f))) ms
  factor-again (access a) end r xs ms fits h ends = access-again end r a.name a.vars a.place xs ms h ends
  factor-again (literal n) end r xs ms fits h ends = moves end (s.Factor r) (s.Operator (with_factor r (Literal n))) (t.Number n) xs ms
      (step-number r n) h
  factor-again (group e) end r xs ms fits h ends =
      let p = moves end (s.Factor r) (s.First (deeper r o.Parenthesis)) t.Open xs ((expr_marks e ++ bare_mark t.Close ∷ []) ++ ms)
      (λ k. step-group r k (group-room r.outer e fits)) h in
      let m = remark p.rest ((expr_marks e ++ bare_mark t.Close ∷ []) ++ ms) (expr_marks e ++ bare_mark t.Close ∷ ms)
      (append_assoc (expr_marks e) (bare_mark t.Close ∷ []) ms) p.marked in
      let q = expr-again e end r.left (r.level ∷ r.outer) o.Parenthesis p.rest (bare_mark t.Close ∷ ms)
      (group-fits r.level r.outer e fits) m (close_ends ms) in
      let d = closed end r o.Parenthesis e q.rest ms q.marked in
      record { rest = d.rest; marked = d.marked; same = p.same ∙ q.same ∙ d.same }
  factor-again (sum v place e) end r xs ms fits h ends =
      let inner : FitsFactor (length r.outer) (group e) = record { fits = fits.fits; shallow = fits.shallow } in
      let to = (expr_marks e ++ bare_mark t.Close ∷ []) ++ ms in
      let p = moves_at end (s.Factor r) (λ k. s.SumOpen r k) t.Sum place xs
      (bare_mark t.Open ∷ bare_mark (t.Name v) ∷ bare_mark t.Comma ∷ to) (step-sum r) h in
      let a = moves end (s.SumOpen r place) (s.SumVar r place) t.Open p.rest (bare_mark (t.Name v) ∷ bare_mark t.Comma ∷ to)
      (λ k. step-sum_open r place k (group-room r.outer e inner)) p.marked in
      let b = moves end (s.SumVar r place) (s.SumComma r place v) (t.Name v) a.rest (bare_mark t.Comma ∷ to)
      (step-sum_var r place v) a.marked in
      let c = moves end (s.SumComma r place v) (s.First (deeper r (o.Sum v place))) t.Comma b.rest to (step-sum_comma r place v) b.marked in
      let m = remark c.rest to (expr_marks e ++ bare_mark t.Close ∷ ms)
      (append_assoc (expr_marks e) (bare_mark t.Close ∷ []) ms) c.marked in
      let q = expr-again e end r.left (r.level ∷ r.outer) (o.Sum v place) c.rest (bare_mark t.Close ∷ ms)
      (group-fits r.level r.outer e inner) m (close_ends ms) in
      let d = closed end r (o.Sum v place) e q.rest ms q.marked in
      record { rest = d.rest; marked = d.marked; same = p.same ∙ a.same ∙ b.same ∙ c.same ∙ q.same ∙ d.same }

  term-again : (x : TermForm) (end : ℕ) (left : AccessText) (outer : List Level) (opened : Opened) (terms : List TopTextTree)
      (minus : Bool) (xs : List Placed) (ms : List Mark)
      → FitsTerm (length outer) x → Marked xs (term_marks x ++ ms) → EndsFactor ms
      → Goes end (s.Factor (read_to left outer opened terms minus [])) xs
      (s.Operator (read_to left outer opened terms minus (term_factors x))) ms
  term-again (one f) end left outer opened terms minus xs ms fits h ends =
      factor-again f end (read_to left outer opened terms minus []) xs ms (record { fits = fits.fits; shallow = fits.shallow }) h ends
  term-again (times x f) end left outer opened terms minus xs ms fits h ends =
      let parts = times-parts (length outer) x f fits in
      let r : Reading = read_to left outer opened terms minus (term_factors x) in
      let m = remark xs ((term_marks x ++ bare_mark t.Star ∷ factor_marks f) ++ ms)
      (term_marks x ++ bare_mark t.Star ∷ (factor_marks f ++ ms))
      (append_assoc (term_marks x) (bare_mark t.Star ∷ factor_marks f) ms) h in
      let p = term-again x end left outer opened terms minus xs (bare_mark t.Star ∷ (factor_marks f ++ ms)) parts.term m (inl refl) in
      let q = moves end (s.Operator r) (s.Factor r) t.Star p.rest (factor_marks f ++ ms) (λ k. step-star r k parts.few) p.marked in
      let d = factor-again f end r q.rest ms parts.factor q.marked ends in
      record { rest = d.rest; marked = d.marked; same = p.same ∙ q.same ∙ d.same }

  expr-again : (e : ExprForm) (end : ℕ) (left : AccessText) (outer : List Level) (opened : Opened) (xs : List Placed) (ms : List Mark)
      → FitsExpr (length outer) e → Marked xs (expr_marks e ++ ms) → EndsFactor ms
      → Goes end (s.First (record { left = left; outer = outer; level = opened_level opened })) xs
      (s.Operator (ended left outer opened e)) ms
  expr-again (first true x) end left outer opened xs ms fits h ends =
      let r : Reading = record { left = left; outer = outer; level = opened_level opened } in
      let p = moves end (s.First r) (s.Factor (negated r)) t.Minus xs (term_marks x ++ ms) (step-minus r) h in
      let q = term-again x end left outer opened [] true p.rest ms (record { fits = fits.fits; shallow = fits.shallow }) p.marked ends in
      record { rest = q.rest; marked = q.marked; same = p.same ∙ q.same }
  expr-again (first false x) end left outer opened xs ms fits h ends =
      let r : Reading = record { left = left; outer = outer; level = opened_level opened } in
      let q = term-again x end left outer opened [] false xs ms (record { fits = fits.fits; shallow = fits.shallow }) h ends in
      record { rest = q.rest; marked = q.marked; same = plain_term end r x xs ms h ∙ q.same }
  expr-again (more e minus x) end left outer opened xs ms fits h ends =
      let parts = more-parts (length outer) e minus x fits in
      let m = remark xs ((expr_marks e ++ sign minus ∷ term_marks x) ++ ms) (expr_marks e ++ sign minus ∷ (term_marks x ++ ms))
      (append_assoc (expr_marks e) (sign minus ∷ term_marks x) ms) h in
      let p = expr-again e end left outer opened xs (sign minus ∷ (term_marks x ++ ms)) parts.form m
      (sign_ends minus (term_marks x ++ ms)) in
      let q = next_sign end (ended left outer opened e) minus p.rest (term_marks x ++ ms)
      (ended-few left outer opened e parts.few) p.marked in
      let d = term-again x end left outer opened (expr_terms e) minus q.rest ms parts.term q.marked ends in
      record {
        rest = d.rest;
        marked = d.marked;
        same = p.same ∙ q.same ∙ ap (λ (r : Reading). run end (s.Factor r) q.rest) (ended-next left outer opened e minus) ∙ d.same;
      }

-- ---- whole statements

ends-whole : (r : Reading) (ls : List Level) (end : ℕ) → ls ≡ [] → ends r ls end ≡ Ok (whole_statement r)
ends-whole r [] end e = refl
ends-whole r (l ∷ ls) end e = absurd cc

whole : (end : ℕ) (r : Reading) (xs : List Placed) → r.outer ≡ [] → Marked xs [] → run end (s.Operator r) xs ≡ Ok (whole_statement r)
unfolding run end_of
whole end r [] e h = ends-whole r r.outer end e
whole end r (x ∷ xs) e h = absurd h

ended-outer : (left : AccessText) (opened : Opened) (e : ExprForm) → (ended left [] opened e).outer ≡ []
ended-outer left opened (first minus x) = refl
ended-outer left opened (more e minus x) = refl

ended-whole : (left : AccessText) (opened : Opened) (e : ExprForm)
    → whole_statement (ended left [] opened e) ≡ record { left = left; tops = expr_terms e }
ended-whole left opened (first minus x) = refl
ended-whole left opened (more e minus x) = refl

left-var : (a : AccessText) (n : List ℕ) (place : ℕ) → step_of (s.LeftVar a) (t.Name n) place ≡ Ok (s.LeftNext (with_var a n))
unfolding step_of
left-var a n place = refl

left-comma : (a : AccessText) (place : ℕ) → step_of (s.LeftNext a) t.Comma place ≡ Ok (s.LeftVar a)
unfolding step_of
left-comma a place = refl

left-close : (a : AccessText) (place : ℕ) → step_of (s.LeftNext a) t.Close place ≡ Ok (s.LeftDone a)
unfolding step_of
left-close a place = refl

left-open : (a : AccessText) (place : ℕ) → step_of (s.LeftName a) t.Open place ≡ Ok (s.LeftVar a)
unfolding step_of
left-open a place = refl

left-none : (a : AccessText) (place : ℕ) → step_of (s.LeftName a) t.Equals place ≡ Ok (s.First (begun a))
unfolding step_of
left-none a place = refl

left-done : (a : AccessText) (place : ℕ) → step_of (s.LeftDone a) t.Equals place ≡ Ok (s.First (begun a))
unfolding step_of
left-done a place = refl

starts : (n : List ℕ) (place : ℕ) → step_of s.Start (t.Name n) place ≡ Ok (s.LeftName (named_access n place))
unfolding step_of
starts n place = refl

left-again : (end : ℕ) (n : List ℕ) (vs : List (List ℕ)) (place : ℕ) (xs : List Placed) (ms : List Mark)
    → let a : AccessText = record { name = n; vars = vs; place = place } in
    Marked xs (access_marks a ++ bare_mark t.Equals ∷ ms) → Goes end s.Start xs (s.First (begun a)) ms
left-again end n [] place xs ms h =
    let a : AccessText = named_access n place in
    let p = moves_at end s.Start (λ k. s.LeftName (named_access n k)) (t.Name n) place xs (bare_mark t.Equals ∷ ms) (starts n) h in
    let q = moves end (s.LeftName a) (s.First (begun a)) t.Equals p.rest ms (left-none a) p.marked in
    record { rest = q.rest; marked = q.marked; same = p.same ∙ q.same }
left-again end n (v ∷ vs) place xs ms h =
    let a : AccessText = named_access n place in
    let all : AccessText = with_vars a (v ∷ vs) in
    let p = moves_at end s.Start (λ k. s.LeftName (named_access n k)) (t.Name n) place xs (variables (v ∷ vs) ++ bare_mark t.Equals ∷ ms)
    (starts n) h in
    let q = moves end (s.LeftName a) (s.LeftVar a) t.Open p.rest
    ((separated (bare_mark t.Comma) var (v ∷ vs) ++ bare_mark t.Close ∷ []) ++ bare_mark t.Equals ∷ ms) (left-open a) p.marked in
    let m = remark q.rest ((separated (bare_mark t.Comma) var (v ∷ vs) ++ bare_mark t.Close ∷ []) ++ bare_mark t.Equals ∷ ms)
    (separated (bare_mark t.Comma) var (v ∷ vs) ++ bare_mark t.Close ∷ bare_mark t.Equals ∷ ms)
    (append_assoc (separated (bare_mark t.Comma) var (v ∷ vs)) (bare_mark t.Close ∷ []) (bare_mark t.Equals ∷ ms)) q.marked in
    let d = vars-again s.LeftVar s.LeftNext s.LeftDone left-var left-comma left-close end a v vs q.rest (bare_mark t.Equals ∷ ms) m in
    let b = moves end (s.LeftDone all) (s.First (begun all)) t.Equals d.rest ms (left-done all) d.marked in
    record { rest = b.rest; marked = b.marked; same = p.same ∙ q.same ∙ d.same ∙ b.same }

pub run-again : (end : ℕ) (x : Statement) (ts : List Placed) → Spells ts x → run end s.Start ts ≡ Ok x
run-again end x ts h =
    let e : ExprForm = h.form in
    let n = h.shallow in
    let p = left-again end x.left.name x.left.vars x.left.place ts (expr_marks e) h.marked in
    let q = expr-again e end x.left [] o.Equals p.rest [] (record { fits = h.fits; shallow = omega (arith, n) })
    (remark p.rest (expr_marks e) (expr_marks e ++ []) (sym (append-nil (expr_marks e))) p.marked) tt in
    p.same ∙ q.same ∙ whole end (ended x.left [] o.Equals e) q.rest (ended-outer x.left o.Equals e) q.marked
    ∙ ap Ok (ended-whole x.left o.Equals e) ∙ ap (λ (tops : List TopTextTree). Ok (record { left = x.left; tops = tops })) (sym h.means)
