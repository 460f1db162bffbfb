-- Where the reading stands, by the forms of what was read, and what a mark, a factor and an expression within add to that.
use Rattle.std.proofs.Common.{◌≡◌, ℕ, ◌<◌, ◌≤◌, List, [], ◌∷◌, ◌++◌, length, Bool, true, false, Some, None, IfSome, Result, Ok}
use Rattle.std.proofs.Common.{Err}
use Rattle.std.proofs.Common.{refl, sym, ap, subst, ◌∙◌, append_assoc, arith, length-append}
use Rattle.std.proofs.lemmas.List.{append-nil}
use Rattle.notation.specs.declared.tokens.Token.TheVariants as t
use Rattle.notation.specs.declared.tokens.Placed.{Placed}
use Rattle.notation.specs.declared.statement.AccessText.{AccessText}
use Rattle.notation.specs.declared.state.Opened.{Opened}
use Rattle.notation.specs.declared.state.Reading.{Reading}
use Rattle.notation.specs.declared.state.State.{State}
use Rattle.notation.specs.declared.state.State.TheVariants as s
use Rattle.notation.specs.Refusals.{NoteRefusal}
use Rattle.notation.specs.Trees.{TextTree, Access, Literal}
use Rattle.notation.specs.Marks.{Mark, bare_mark, placed_mark, separated, var, variables, name, access_marks, At, Marked}
use Rattle.notation.specs.Forms.{FactorForm, TermForm, access, literal, factor_tree, term_factors, factor_marks}
use Rattle.notation.specs.Forms.{term_marks}
use Rattle.notation.specs.Positions.{with_factor, negated, deeper}
use Rattle.notation.proofs.OpenForms.{OpenForm, ReadForm, terms_of, levels_of, reading_of, levels-length, lead, before, opening}
use Rattle.notation.proofs.OpenForms.{own, around, all_before}
use Rattle.notation.proofs.OpenForms.{next_factor, next_factor-trees, next_factor-marks}
use Rattle.notation.proofs.OpenForms.{FitsFactor, FitsTerm, FitsExpr, FitsOpen, IsInner, Within, fits-next_factor}
use Rattle.notation.proofs.OpenForms.{factors_of}

-- ---- variables with commas between

-- all of them, each with a mark behind it
abbrev pub listed : {A : Type 0} → Mark → (A → List Mark) → List A → List Mark
listed between f [] = []
listed between f (x ∷ xs) = f x ++ between ∷ listed between f xs

pub separated-push : {A : Type 0} (b : Mark) (f : A → List Mark) (xs : List A) (y : A) → separated b f (xs ++ y ∷ []) ≡ listed b f xs ++ f y
separated-push b f [] y = refl
separated-push b f (x ∷ []) y = sym (append_assoc (f x) (b ∷ []) (f y))
separated-push b f (x ∷ w ∷ ws) y =
    ap (λ ms. f x ++ b ∷ ms) (separated-push b f (w ∷ ws) y) ∙ sym (append_assoc (f x) (b ∷ listed b f (w ∷ ws)) (f y))

-- where there is one, each with a mark behind it is all with marks between, and one more
pub listed-is : {A : Type 0} (b : Mark) (f : A → List Mark) (xs : List A) → 0 < length xs → listed b f xs ≡ separated b f xs ++ b ∷ []
listed-is b f [] h = absurd (omega (arith, h))
listed-is b f (x ∷ []) h = refl
listed-is b f (x ∷ w ∷ ws) h =
    ap (λ ms. f x ++ b ∷ ms) (listed-is b f (w ∷ ws) (omega arith)) ∙ sym (append_assoc (f x) (b ∷ separated b f (w ∷ ws)) (b ∷ []))

pub variables-is : (vs : List (List ℕ)) → 0 < length vs → variables vs
    ≡ bare_mark t.Open ∷ (separated (bare_mark t.Comma) var vs ++ bare_mark t.Close ∷ [])
variables-is [] h = absurd (omega (arith, h))
variables-is (v ∷ vs) h = refl

abbrev pub vars_listed : AccessText → List Mark
vars_listed a = name a ∷ bare_mark t.Open ∷ listed (bare_mark t.Comma) var a.vars

abbrev pub vars_separated : AccessText → List Mark
vars_separated a = name a ∷ bare_mark t.Open ∷ separated (bare_mark t.Comma) var a.vars

-- ---- where the reading stands, by what was read

-- where a factor is expected, and these marks behind that
pub record ReadyAt (r : Reading) (ms : List Mark) (read : List Placed) : Type 0 where
  pub form : ReadForm
  pub same : r ≡ reading_of form
  pub room : length form.outer ≤ 32
  pub fits : FitsOpen 7 (length form.outer) form.level
  pub within : Within form.outer form.level.opened
  pub marked : Marked read (all_before form ++ ms)

abbrev pub with_term : ReadForm → TermForm → ReadForm
with_term z x = record {
  left = z.left;
  outer = z.outer;
  level = record { opened = z.level.opened; terms = z.level.terms; minus = z.level.minus; factors = Some x };
}

-- behind a factor, the last of a term
pub record BehindAt (r : Reading) (read : List Placed) : Type 0 where
  pub form : ReadForm
  pub term : TermForm
  pub same : r ≡ reading_of (with_term form term)
  pub room : length form.outer ≤ 32
  pub few_terms : length (terms_of form.level.terms) ≤ 15
  pub few_factors : length (term_factors term) ≤ 8
  pub terms_fit : IfSome form.level.terms (FitsExpr (length form.outer))
  pub term_fits : FitsTerm (length form.outer) term
  pub within : Within form.outer form.level.opened
  pub marked : Marked read (around form.left form.outer form.level.opened ++ (lead form.level.terms form.level.minus ++ term_marks term))

abbrev pub fresh : AccessText → List OpenForm → Opened → Bool → ReadForm
fresh left outer opened minus = record {
  left = left;
  outer = outer;
  level = record { opened = opened; terms = None; minus = minus; factors = None };
}

-- where an expression begins
pub record FirstAt (r : Reading) (read : List Placed) : Type 0 where
  pub left : AccessText
  pub outer : List OpenForm
  pub opened : Opened
  pub same : r ≡ reading_of (fresh left outer opened false)
  pub room : length outer ≤ 32
  pub within : Within outer opened
  pub marked : Marked read (around left outer opened)

abbrev pub sum_marks : ℕ → List Mark → List Mark
sum_marks at ms = placed_mark t.Sum at ∷ ms

abbrev pub Reached : State → List Placed → Type 0
Reached s.Start read = Marked read []
Reached (s.LeftName a) read = (a.vars ≡ []) × Marked read (name a ∷ [])
Reached (s.LeftVar a) read = Marked read (vars_listed a)
Reached (s.LeftNext a) read = (0 < length a.vars) × Marked read (vars_separated a)
Reached (s.LeftDone a) read = Marked read (access_marks a)
Reached (s.First r) read = FirstAt r read
Reached (s.Factor r) read = ReadyAt r [] read
Reached (s.Named r a) read = (a.vars ≡ []) × ReadyAt r (name a ∷ []) read
Reached (s.Var r a) read = ReadyAt r (vars_listed a) read
Reached (s.Next r a) read = (0 < length a.vars) × ReadyAt r (vars_separated a) read
Reached (s.SumOpen r at) read = ReadyAt r (sum_marks at []) read
Reached (s.SumVar r at) read = (length r.outer < 32) × ReadyAt r (sum_marks at (bare_mark t.Open ∷ [])) read
Reached (s.SumComma r at n) read = (length r.outer < 32) × ReadyAt r (sum_marks at (bare_mark t.Open ∷ bare_mark (t.Name n) ∷ [])) read
Reached (s.Operator r) read = BehindAt r read

abbrev pub Lands : Result State NoteRefusal → List Placed → Type 0
Lands (Ok state) read = Reached state read
Lands (Err r) read = Unit {0}

-- ---- one more mark

pub push : (read : List Placed) (ms : List Mark) (x : Placed) (m : Mark) → Marked read ms → At x m → Marked (read ++ x ∷ []) (ms ++ m ∷ [])
push [] [] x m h here = (here, tt)
push [] (n ∷ ms) x m h here = absurd h
push (y ∷ read) [] x m h here = absurd h
push (y ∷ read) (n ∷ ms) x m h here = (h.0, push read ms x m h.1 here)

pub push_to : (read : List Placed) (ms to : List Mark) (x : Placed) (m : Mark) → Marked read ms → At x m → ms ++ m ∷ [] ≡ to
    → Marked (read ++ x ∷ []) to
push_to read ms to x m h here e = subst (λ l. Marked (read ++ x ∷ []) l) e (push read ms x m h here)

pub along : (read : List Placed) (ms to : List Mark) → Marked read ms → ms ≡ to → Marked read to
along read ms to h e = subst (λ l. Marked read l) e h

pub with_mark : (r : Reading) (ms to : List Mark) (read : List Placed) (x : Placed) (m : Mark) → ReadyAt r ms read → At x m → ms ++ m ∷ [] ≡ to
    → ReadyAt r to (read ++ x ∷ [])
with_mark r ms to read x m h here e = record {
  form = h.form;
  same = h.same;
  room = h.room;
  fits = h.fits;
  within = h.within;
  marked = push_to read (all_before h.form ++ ms) (all_before h.form ++ to) x m h.marked here
      (append_assoc (all_before h.form) ms (m ∷ []) ∙ ap (λ l. all_before h.form ++ l) e);
}

-- ---- a factor

pub three : (a b c d : List Mark) → (a ++ (b ++ c)) ++ d ≡ a ++ (b ++ (c ++ d))
three a b c d = append_assoc a (b ++ c) d ∙ ap (λ l. a ++ l) (append_assoc b c d)

-- a reading with these factors in the term that is read
abbrev with_factors : ReadForm → List TextTree → Reading
with_factors z fs = record {
  left = z.left;
  outer = levels_of z.outer;
  level = record { opened = z.level.opened; terms = terms_of z.level.terms; minus = z.level.minus; factors = fs };
}

pub take_factor : (r : Reading) (f : FactorForm) (ms : List Mark) (read : List Placed) (h : ReadyAt r ms read) → ms ≡ factor_marks f
    → FitsFactor (length h.form.outer) f
    → BehindAt (with_factor r (factor_tree f)) read
take_factor r f ms read h e hf =
    let z : ReadForm = h.form in
    let n = ap (λ (fs : List TextTree). length fs) (next_factor-trees z.level.factors f) in
    let m = length-append (factors_of z.level.factors) (factor_tree f ∷ []) in
    let few = h.fits.few_factors in
    record {
      form = z;
      term = next_factor z.level.factors f;
      same = ap (λ (q : Reading). with_factor q (factor_tree f)) h.same
          ∙ ap (λ (fs : List TextTree). with_factors z fs) (sym (next_factor-trees z.level.factors f));
      room = h.room;
      few_terms = h.fits.few_terms;
      few_factors = omega (arith, n, m, few);
      terms_fit = h.fits.terms_fit;
      term_fits = fits-next_factor (length z.outer) z.level.factors f few h.fits.factors_fit hf;
      within = h.within;
      marked = along read (all_before z ++ ms)
          (around z.left z.outer z.level.opened ++ (lead z.level.terms z.level.minus ++ term_marks (next_factor z.level.factors f))) h.marked
          (ap (λ l. all_before z ++ l) e
          ∙ three (around z.left z.outer z.level.opened) (lead z.level.terms z.level.minus) (before z.level.factors) (factor_marks f)
          ∙ ap (λ l. around z.left z.outer z.level.opened ++ (lead z.level.terms z.level.minus ++ l))
          (sym (next_factor-marks z.level.factors f)));
    }

pub take_access : (r : Reading) (a : AccessText) (ms : List Mark) (read : List Placed) → ReadyAt r ms read → ms ≡ access_marks a
    → BehindAt (with_factor r (Access a)) read
take_access r a ms read h e = let n = h.room in take_factor r (access a) ms read h e (record { fits = refl; shallow = omega (arith, n) })

pub take_literal : (r : Reading) (n : ℕ) (read : List Placed) → ReadyAt r (bare_mark (t.Number n) ∷ []) read
    → BehindAt (with_factor r (Literal n)) read
take_literal r n read h =
    let m = h.room in
    take_factor r (literal n) (bare_mark (t.Number n) ∷ []) read h refl (record { fits = refl; shallow = omega (arith, m) })

-- ---- an expression within

outer-length : (r : Reading) (ms : List Mark) (read : List Placed) (h : ReadyAt r ms read) → length r.outer ≡ length h.form.outer
outer-length r ms read h = ap (λ (q : Reading). length q.outer) h.same ∙ levels-length h.form.outer

pub enter : (r : Reading) (opened : Opened) (read : List Placed) → IsInner opened → length r.outer < 32 → ReadyAt r (opening opened) read
    → FirstAt (deeper r opened) read
enter r opened read inner lt h =
    let z : ReadForm = h.form in
    let n = outer-length r (opening opened) read h in
    record {
      left = z.left;
      outer = z.level ∷ z.outer;
      opened = opened;
      same = ap (λ (q : Reading). deeper q opened) h.same;
      room = omega (arith, lt, n);
      within = (inner, h.fits, h.within);
      marked = along read (all_before z ++ opening opened) (around z.left (z.level ∷ z.outer) opened) h.marked
          (append_assoc (around z.left z.outer z.level.opened) (own z.level) (opening opened));
    }

pub first-ready : (r : Reading) (read : List Placed) → FirstAt r read → ReadyAt r [] read
first-ready r read h = record {
  form = fresh h.left h.outer h.opened false;
  same = h.same;
  room = h.room;
  fits = record { few_terms = omega arith; few_factors = omega arith; terms_fit = tt; factors_fit = tt };
  within = h.within;
  marked = along read (around h.left h.outer h.opened) (all_before (fresh h.left h.outer h.opened false) ++ []) h.marked
      (sym (append-nil (around h.left h.outer h.opened)) ∙ sym (append-nil (around h.left h.outer h.opened ++ [])));
}

pub first-negated : (r : Reading) (read : List Placed) (x : Placed) → FirstAt r read → At x (bare_mark t.Minus)
    → ReadyAt (negated r) [] (read ++ x ∷ [])
first-negated r read x h here = record {
  form = fresh h.left h.outer h.opened true;
  same = ap negated h.same;
  room = h.room;
  fits = record { few_terms = omega arith; few_factors = omega arith; terms_fit = tt; factors_fit = tt };
  within = h.within;
  marked = push_to read (around h.left h.outer h.opened) (all_before (fresh h.left h.outer h.opened true) ++ []) x
      (bare_mark t.Minus) h.marked here
      (sym (append-nil (around h.left h.outer h.opened ++ bare_mark t.Minus ∷ [])));
}
