-- What was read behind the `=`, as forms: each expression that stands open, as far as it was read.
use Rattle.std.proofs.Common.{◌≡◌, ℕ, ◌+◌, ◌-◌, ◌<◌, ◌≤◌, max, List, [], ◌∷◌, ◌++◌, length, Bool, true, ◌&&◌, nat_le, Option, Some}
use Rattle.std.proofs.Common.{None, IfSome}
use Rattle.std.proofs.Common.{refl, sym, append_assoc, arith, length-append}
use Rattle.std.proofs.Math.Nat.{le-max_left, le-max_right, max-le}
use Rattle.std.proofs.lemmas.Bool.{and_from, and_parts, le-leb, leb-true}
use Rattle.notation.specs.declared.tokens.Token.TheVariants as t
use Rattle.notation.specs.declared.statement.AccessText.{AccessText}
use Rattle.notation.specs.declared.state.Opened.{Opened}
use Rattle.notation.specs.declared.state.Opened.TheVariants as o
use Rattle.notation.specs.declared.state.Level.{Level}
use Rattle.notation.specs.declared.state.Reading.{Reading}
use Rattle.notation.specs.Trees.{TextTree, TopTextTree, product_of, sum_of}
use Rattle.notation.specs.Marks.{Mark, bare_mark, placed_mark, access_marks}
use Rattle.notation.specs.Forms.{FactorForm, TermForm, ExprForm, group, sum, one, times, first, more, factor_tree, term_factors, expr_terms}
use Rattle.notation.specs.Forms.{first_sign, sign, factor_marks, term_marks, expr_marks, factor_count, term_count, factor_fits, term_fits}
use Rattle.notation.specs.Forms.{expr_fits, factor_depth, term_depth, expr_depth}
use Rattle.notation.specs.Positions.{factor_of}

-- an expression that stands open: its terms so far, and the factors so far of the term that is read
pub record OpenForm : Type 0 where
  pub opened : Opened
  pub terms : Option ExprForm
  pub minus : Bool
  pub factors : Option TermForm

-- the expression that is read, and those around it, the innermost first
pub record ReadForm : Type 0 where
  pub left : AccessText
  pub outer : List OpenForm
  pub level : OpenForm

-- ---- what they mean

abbrev pub terms_of : Option ExprForm → List TopTextTree
terms_of None = []
terms_of (Some e) = expr_terms e

abbrev pub factors_of : Option TermForm → List TextTree
factors_of None = []
factors_of (Some x) = term_factors x

abbrev pub level_of : OpenForm → Level
level_of l = record { opened = l.opened; terms = terms_of l.terms; minus = l.minus; factors = factors_of l.factors }

abbrev pub levels_of : List OpenForm → List Level
levels_of [] = []
levels_of (l ∷ ls) = level_of l ∷ levels_of ls

abbrev pub reading_of : ReadForm → Reading
reading_of z = record { left = z.left; outer = levels_of z.outer; level = level_of z.level }

pub levels-length : (ls : List OpenForm) → length (levels_of ls) ≡ length ls
levels-length [] = refl
levels-length (l ∷ ls) = let n = levels-length ls in omega (arith, n)

-- ---- how they are spelled

-- what stands before the term that is read
abbrev pub lead : Option ExprForm → Bool → List Mark
lead None minus = first_sign minus
lead (Some e) minus = expr_marks e ++ sign minus ∷ []

-- the factors so far, each with a `*` behind it
abbrev pub before : Option TermForm → List Mark
before None = []
before (Some x) = term_marks x ++ bare_mark t.Star ∷ []

abbrev pub opening : Opened → List Mark
opening o.Equals = []
opening o.Parenthesis = bare_mark t.Open ∷ []
opening (o.Sum v place) = placed_mark t.Sum place ∷ bare_mark t.Open ∷ bare_mark (t.Name v) ∷ bare_mark t.Comma ∷ []

abbrev pub own : OpenForm → List Mark
own l = lead l.terms l.minus ++ before l.factors

-- what stands before the expression that is read
abbrev pub around : AccessText → List OpenForm → Opened → List Mark
around left [] opened = access_marks left ++ bare_mark t.Equals ∷ []
around left (l ∷ ls) opened = around left ls l.opened ++ (own l ++ opening opened)

abbrev pub all_before : ReadForm → List Mark
all_before z = around z.left z.outer z.level.opened ++ own z.level

-- ---- one more factor, one more term, and the factor that an expression is

abbrev pub next_factor : Option TermForm → FactorForm → TermForm
next_factor None f = one f
next_factor (Some x) f = times x f

abbrev pub next_form : Option ExprForm → Bool → TermForm → ExprForm
next_form None minus x = first minus x
next_form (Some e) minus x = more e minus x

abbrev pub form_in : Opened → ExprForm → FactorForm
form_in o.Equals e = group e
form_in o.Parenthesis e = group e
form_in (o.Sum v place) e = sum v place e

pub next_factor-trees : (x : Option TermForm) (f : FactorForm) → term_factors (next_factor x f) ≡ factors_of x ++ factor_tree f ∷ []
next_factor-trees None f = refl
next_factor-trees (Some x) f = refl

pub next_factor-marks : (x : Option TermForm) (f : FactorForm) → term_marks (next_factor x f) ≡ before x ++ factor_marks f
next_factor-marks None f = refl
next_factor-marks (Some x) f = sym (append_assoc (term_marks x) (bare_mark t.Star ∷ []) (factor_marks f))

pub next_form-terms : (e : Option ExprForm) (minus : Bool) (x : TermForm)
    → expr_terms (next_form e minus x) ≡ terms_of e ++ (record { minus = minus; body = product_of (term_factors x) }) ∷ []
next_form-terms None minus x = refl
next_form-terms (Some e) minus x = refl

pub next_form-marks : (e : Option ExprForm) (minus : Bool) (x : TermForm) → expr_marks (next_form e minus x) ≡ lead e minus ++ term_marks x
next_form-marks None minus x = refl
next_form-marks (Some e) minus x = sym (append_assoc (expr_marks e) (sign minus ∷ []) (term_marks x))

pub form_in-tree : (opened : Opened) (e : ExprForm) → factor_tree (form_in opened e) ≡ factor_of opened (sum_of (expr_terms e))
form_in-tree o.Equals e = refl
form_in-tree o.Parenthesis e = refl
form_in-tree (o.Sum v place) e = refl

-- ---- what fits where so many expressions stand open around it

pub record FitsFactor (n : ℕ) (f : FactorForm) : Type 0 where
  pub fits : factor_fits f ≡ true
  pub shallow : factor_depth f + n ≤ 32

pub record FitsTerm (n : ℕ) (x : TermForm) : Type 0 where
  pub fits : term_fits x ≡ true
  pub shallow : term_depth x + n ≤ 32

pub record FitsExpr (n : ℕ) (e : ExprForm) : Type 0 where
  pub fits : expr_fits e ≡ true
  pub shallow : expr_depth e + n ≤ 32

pub record FitsOpen (most n : ℕ) (l : OpenForm) : Type 0 where
  pub few_terms : length (terms_of l.terms) ≤ 15
  pub few_factors : length (factors_of l.factors) ≤ most
  pub terms_fit : IfSome l.terms (FitsExpr n)
  pub factors_fit : IfSome l.factors (FitsTerm n)

abbrev pub IsInner : Opened → Type 0
IsInner o.Equals = ⊥
IsInner o.Parenthesis = Unit {0}
IsInner (o.Sum v place) = Unit {0}

-- what stands around an expression that is opened so
abbrev pub Within : List OpenForm → Opened → Type 0
Within [] opened = Unit {0}
Within (l ∷ ls) opened = IsInner opened × FitsOpen 7 (length ls) l × Within ls l.opened

max-shallow : (a b n : ℕ) → a + n ≤ 32 → b + n ≤ 32 → max a b + n ≤ 32
max-shallow a b n p q =
    let m : max a b ≤ 32 - n = max-le (omega (arith, p)) (omega (arith, q)) in
    omega (arith, m, p)

pub factor_count-is : (x : TermForm) → factor_count x ≡ length (term_factors x)
factor_count-is (one f) = refl
factor_count-is (times x f) =
    let n = factor_count-is x in
    let m = length-append (term_factors x) (factor_tree f ∷ []) in
    omega (arith, n, m)

abbrev term_tree : Bool → TermForm → TopTextTree
term_tree minus x = record { minus = minus; body = product_of (term_factors x) }

pub term_count-is : (e : ExprForm) → term_count e ≡ length (expr_terms e)
term_count-is (first minus x) = refl
term_count-is (more e minus x) =
    let n = term_count-is e in
    let m = length-append (expr_terms e) (term_tree minus x ∷ []) in
    omega (arith, n, m)

pub some-terms : (e : ExprForm) → 0 < length (expr_terms e)
some-terms (first minus x) = omega arith
some-terms (more e minus x) =
    let m = length-append (expr_terms e) (term_tree minus x ∷ []) in
    omega (arith, m)

pub fits-next_factor : (n : ℕ) (x : Option TermForm) (f : FactorForm) → length (factors_of x) ≤ 7 → IfSome x (FitsTerm n) → FitsFactor n f
    → FitsTerm n (next_factor x f)
fits-next_factor n None f few h hf = record { fits = hf.fits; shallow = hf.shallow }
fits-next_factor n (Some x) f few h hf =
    let c = factor_count-is x in
    record {
      fits = and_from (nat_le (factor_count x + 1) 8) (term_fits x && factor_fits f) (le-leb (factor_count x + 1) 8 (omega (arith, c, few)))
          (and_from (term_fits x) (factor_fits f) h.fits hf.fits);
      shallow = max-shallow (term_depth x) (factor_depth f) n h.shallow hf.shallow;
    }

pub fits-next_form : (n : ℕ) (e : Option ExprForm) (minus : Bool) (x : TermForm) → length (terms_of e) ≤ 15 → IfSome e (FitsExpr n)
    → FitsTerm n x
    → FitsExpr n (next_form e minus x)
fits-next_form n None minus x few h hx = record { fits = hx.fits; shallow = hx.shallow }
fits-next_form n (Some e) minus x few h hx =
    let c = term_count-is e in
    record {
      fits = and_from (nat_le (term_count e + 1) 16) (expr_fits e && term_fits x) (le-leb (term_count e + 1) 16 (omega (arith, c, few)))
          (and_from (expr_fits e) (term_fits x) h.fits hx.fits);
      shallow = max-shallow (expr_depth e) (term_depth x) n h.shallow hx.shallow;
    }

pub fits-form_in : (l : OpenForm) (ls : List OpenForm) (opened : Opened) (e : ExprForm) → FitsExpr (length (l ∷ ls)) e
    → FitsFactor (length ls) (form_in opened e)
fits-form_in l ls o.Equals e h = let s = h.shallow in record { fits = h.fits; shallow = omega (arith, s) }
fits-form_in l ls o.Parenthesis e h = let s = h.shallow in record { fits = h.fits; shallow = omega (arith, s) }
fits-form_in l ls (o.Sum v place) e h = let s = h.shallow in record { fits = h.fits; shallow = omega (arith, s) }

-- ---- the parts of what fits

pub record TimesParts (n : ℕ) (x : TermForm) (f : FactorForm) : Type 0 where
  pub few : length (term_factors x) < 8
  pub term : FitsTerm n x
  pub factor : FitsFactor n f

pub times-parts : (n : ℕ) (x : TermForm) (f : FactorForm) → FitsTerm n (times x f) → TimesParts n x f
times-parts n x f h =
    let a = and_parts (nat_le (factor_count x + 1) 8) (term_fits x && factor_fits f) h.fits in
    let b = and_parts (term_fits x) (factor_fits f) a.1 in
    let le : factor_count x + 1 ≤ 8 = leb-true (factor_count x + 1) 8 a.0 in
    let c = factor_count-is x in
    let s = h.shallow in
    let p = le-max_left (term_depth x) (factor_depth f) in
    let q = le-max_right (term_depth x) (factor_depth f) in
    record {
      few = omega (arith, le, c);
      term = record { fits = b.0; shallow = omega (arith, s, p) };
      factor = record { fits = b.1; shallow = omega (arith, s, q) };
    }

pub record MoreParts (n : ℕ) (e : ExprForm) (x : TermForm) : Type 0 where
  pub few : term_count e ≤ 15
  pub form : FitsExpr n e
  pub term : FitsTerm n x

pub more-parts : (n : ℕ) (e : ExprForm) (minus : Bool) (x : TermForm) → FitsExpr n (more e minus x) → MoreParts n e x
more-parts n e minus x h =
    let a = and_parts (nat_le (term_count e + 1) 16) (expr_fits e && term_fits x) h.fits in
    let b = and_parts (expr_fits e) (term_fits x) a.1 in
    let le : term_count e + 1 ≤ 16 = leb-true (term_count e + 1) 16 a.0 in
    let s = h.shallow in
    let p = le-max_left (expr_depth e) (term_depth x) in
    let q = le-max_right (expr_depth e) (term_depth x) in
    record {
      few = omega (arith, le);
      form = record { fits = b.0; shallow = omega (arith, s, p) };
      term = record { fits = b.1; shallow = omega (arith, s, q) };
    }
