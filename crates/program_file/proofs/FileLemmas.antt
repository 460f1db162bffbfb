-- A text that is read writes an accepted program.
use Rattle.std.proofs.Common.{◌≡◌, ℕ, suc, ◌+◌, ◌<◌, ◌≤◌, ◌^◌, List, [], ◌∷◌, ◌++◌, length, Bool, true, false, not, cond, Option, Some}
use Rattle.std.proofs.Common.{None, Result, Ok, Err, refl, sym, ap, ap₂, subst, ◌∙◌, arith, inl, inr, nat_lt, IfOk, length-append}
use Rattle.std.specs.List.{onto_first}
use Rattle.std.proofs.lemmas.Bool.{and_from, not-false, ltb-false, cond-true}
use Rattle.sam_base.specs.declared.TheConstants.{FILE_MOST, VARIABLES_MOST}
use Rattle.sam_base.specs.declared.faults.ProgramKind.{ProgramKind}
use Rattle.sam_base.specs.declared.faults.ProgramKind.TheVariants.{ExpandedTerms, ExpandedFactors, TooManyVariables}
use Rattle.sam_text.specs.Bytes.{is_newline}
use Rattle.sam_text.specs.Lines.{lines}
use Rattle.sam_text.specs.Words.{words, is_skipped, behind_word}
use Rattle.sam_text.specs.Counted.{NumberedLine, counted_lines}
use Rattle.sam_model.specs.declared.tensors.Tensor.{Tensor}
use Rattle.sam_model.specs.declared.program.Program.{Program}
use Rattle.sam_model.specs.declared.program.Term.{Term}
use Rattle.sam_model.specs.Trees.{TopTree}
use Rattle.sam_model.specs.Accepted.{declarations_fit}
use Rattle.sam_model.specs.Program.{accepted}
use Rattle.expand.specs.Counting.{have_long}
use Rattle.notation.specs.declared.statement.Statement.{Statement}
use Rattle.notation.specs.Refusals.{NoteRefusal}
use Rattle.notation.specs.Positions.{statement_reading}
use Rattle.notation.specs.Tokens.{tokens_of}
use Rattle.notation.proofs.OpenForms.{some-terms}
use Rattle.notation.proofs.First.{ok_spells}
use Rattle.program_file.specs.declared.files.File.{File}
use Rattle.program_file.specs.declared.files.Group.{Group}
use Rattle.program_file.specs.declared.faults.ProgramFault.{ProgramFault}
use Rattle.program_file.specs.Refusals.{ProgramRefusal, program_refused, and_then, GivesProgram}
use Rattle.program_file.specs.Keywords.{tensor_word, compute_word, starts, others}
use Rattle.program_file.specs.Declarations.{declared, tensor_of}
use Rattle.program_file.specs.Files.{noted, result_declared, declarations_in, compute_in, file_reading}
use Rattle.program_file.specs.Accesses.{unless}
use Rattle.program_file.specs.declared.accesses.Variable.{Variable}
use Rattle.program_file.specs.Numbers.{are_loops, numbering}
use Rattle.program_file.specs.Checks.{expansion_fault, terms_fault}
use Rattle.program_file.specs.Programs.{left_of, file_tops, sizes_of, terms_of, program_with, program_of, order_fault, loops_checked}
use Rattle.program_file.specs.Programs.{terms_checked, expansion_checked, sums_fault, sums_checked, checked_with, numbered_reading}
use Rattle.program_file.specs.Programs.{statement_checked, bound_of, checked}
use Rattle.program_file.proofs.DeclaredLemmas.{then-ok, if-ok, ok-same, no_refusal, IsGroup, group-ok, IsRead, parts-ok, file-fits, unless-ok}
use Rattle.program_file.proofs.FitLemmas.{Checked, file-binds, statement-fits, each-fits}

onto-count : (b : ℕ) (ls : List (List ℕ)) (n : ℕ) → length ls ≤ n → length (onto_first b ls) ≤ suc n
onto-count b [] n h = omega arith
onto-count b (l ∷ ls) n h = omega (arith, h)

lines-step : (t : Bool) (b : ℕ) (ls : List (List ℕ)) (n : ℕ) → length ls ≤ n → length (cond t ([] ∷ ls) (onto_first b ls)) ≤ suc n
lines-step true b ls n h = omega (arith, h)
lines-step false b ls n h = onto-count b ls n h

pub lines-count : (bs : List ℕ) → length (lines bs) ≤ length bs
lines-count [] = omega arith
lines-count (b ∷ bs) = lines-step (is_newline b) b (lines bs) (length bs) (lines-count bs)

kept-step : (t : Bool) (l : NumberedLine) (ks : List NumberedLine) (n : ℕ) → length ks ≤ n → length (cond t ks (l ∷ ks)) ≤ suc n
kept-step true l ks n h = omega (arith, h)
kept-step false l ks n h = omega (arith, h)

pub kept-count : (number : ℕ) (ls : List (List ℕ)) → length (counted_lines number ls) ≤ length ls
kept-count number [] = omega arith
kept-count number (l ∷ ls) = kept-step (is_skipped (words l)) (record { number = number; text = l }) (counted_lines (number + 1) ls) (length ls) (kept-count (number + 1) ls)

pub tensors-count : (past : ℕ) (tensors : List Tensor) (ls : List NumberedLine) (found : (List Tensor × (Tensor × ℕ)) × List NumberedLine) → declarations_in past tensors ls ≡ Ok found
    → length found.0.0 ≤ length tensors + length ls
tensors-count past tensors [] found e = absurd (no_refusal _ _ found refl e)
tensors-count past tensors (l ∷ ls) found e = elim (if-ok (starts tensor_word (words l.text)) _ _ found e) [
  | inl k ↦
      let a = then-ok (declared tensors l.number (tensor_of (others (words l.text)))) (λ t. declarations_in past (tensors ++ t ∷ []) ls) found k.1 in
      let h = tensors-count past (tensors ++ a.value ∷ []) ls found a.next in
      let more = length-append tensors (a.value ∷ []) in
      omega (arith, h, more)
  | inr k ↦
      let a = then-ok (result_declared tensors l) (λ result. Ok ((tensors, (result, l.number)), ls)) found k.1 in
      let same = ok-same ((tensors, (a.value, l.number)), ls) found a.next in
      let h : length tensors ≡ length found.0.0 = ap (λ (x : (List Tensor × (Tensor × ℕ)) × List NumberedLine). length x.0.0) same in
      omega (arith, h)
]

noted-ok : (line : ℕ) (r : Result Statement NoteRefusal) (s : Statement) → noted line r ≡ Ok s → r ≡ Ok s
noted-ok line (Ok x) s e = cc
noted-ok line (Err r) s e = absurd cc

-- the statement of a file that is read has a top-level term
statement-fit : (past : ℕ) (ls : List NumberedLine) (found : (Statement × ℕ) × List NumberedLine) → compute_in past ls ≡ Ok found
    → 0 < length found.0.0.tops
statement-fit past [] found e = absurd (no_refusal _ _ found refl e)
statement-fit past (l ∷ ls) found e = elim (if-ok (starts compute_word (words l.text)) _ _ found e) [
  | inl h ↦
      let text = behind_word l.text in
      let a = then-ok (noted l.number (statement_reading text)) (λ statement. Ok ((statement, l.number), ls)) found h.1 in
      let read : statement_reading text ≡ Ok a.value = noted-ok l.number (statement_reading text) a.value a.was in
      let same = ok-same ((a.value, l.number), ls) found a.next in
      let F : (Statement × ℕ) × List NumberedLine → Type 0 = λ x. 0 < length x.0.0.tops in
      let spelled = ok_spells (length text) (tokens_of text) a.value read in
      subst F same (subst (λ tops. 0 < length tops) (sym spelled.means) (some-terms spelled.form))
  | inr h ↦ absurd (no_refusal _ _ found refl h.1)
]

unless-none : {Y : Type 0} (line : ℕ) (o : Option ProgramKind) (x z : Y) → unless line o x ≡ Ok z → o ≡ None
unless-none line None x z e = refl
unless-none line (Some kind) x z e = absurd cc

pub few-tensors : (text : List ℕ) (f : File) → length text ≤ FILE_MOST → IsRead (1 + length (lines text)) (counted_lines 1 (lines text)) f → length f.tensors < 2 ^ 32
few-tensors text f short r =
    let n = tensors-count (1 + length (lines text)) [] (counted_lines 1 (lines text)) r.declared r.declared_in in
    let m = kept-count 1 (lines text) in
    let k = lines-count text in
    let F : File → Type 0 = λ g. length g.tensors < 2 ^ 32 in
    subst F r.is (omega arith)

-- the statement of a group that is read has a top-level term
pub group-tops : (past : ℕ) (r : Tensor × ℕ) (ls : List NumberedLine) (g : Group) → IsGroup past r ls g → 0 < length g.statement.tops
group-tops past r ls g k =
    let G : Group → Type 0 = λ h. 0 < length h.statement.tops in
    subst G k.is (statement-fit past ls k.statement k.statement_in)

fit-statement : (past : ℕ) (ls : List NumberedLine) (f : File) → IsRead past ls f → 0 < length f.statement.tops
fit-statement past ls f r =
    let F : File → Type 0 = λ h. 0 < length h.statement.tops in
    subst F r.is (group-tops past r.declared.0.1 r.declared.1 r.group.0 (group-ok past r.declared.0.1 r.declared.1 r.group r.grouped))

-- ---- the checks

record Kept (terms found : List Term) : Type 0 where
  same : terms ≡ found
  few : length terms ≤ 16
  short : have_long terms ≡ false

kept : (line : ℕ) (terms found : List Term) → expansion_checked line terms ≡ Ok found → Kept terms found
kept line terms found e =
    let none = unless-none line (expansion_fault terms) terms found e in
    let p = none-if (nat_lt 16 (length terms)) ExpandedTerms _ none in
    let q = none-if (have_long terms) ExpandedFactors None p.1 in
    record { same = unless-ok line (expansion_fault terms) terms found e; few = ltb-false 16 (length terms) p.0; short = q.0 }
  where
    none-if : {A : Type 0} (b : Bool) (x : A) (o : Option A) → cond b (Some x) o ≡ None → (b ≡ false) × (o ≡ None)
    none-if true x o e = absurd cc
    none-if false x o e = (refl, e)

-- what holds where the checks behind the expansion find no fault
record TermsChecked (names : List (List ℕ)) (f : File) (vars : List Variable) (terms : List Term) : Type 0 where
  loops : are_loops vars f.loops ≡ true
  fault : terms_fault names f.statement.left.vars terms ≡ None
  most : nat_lt 8 (length vars) ≡ false
  order : order_fault f terms ≡ None

terms-ok : (names : List (List ℕ)) (f : File) (vars : List Variable) (terms : List Term) (u : Unit {0}) → terms_checked names f vars terms ≡ Ok u → TermsChecked names f vars terms
terms-ok names f vars terms u e =
    let fault = terms_fault names f.statement.left.vars terms in
    let c = then-ok (unless f.statement_line fault (tt {0}))
    (λ _. cond (nat_lt VARIABLES_MOST (length vars)) (program_refused TooManyVariables f.statement_line) (loops_checked f vars terms)) u e in
    let none = unless-none f.statement_line fault (tt {0}) c.value c.was in
    elim (if-ok (nat_lt VARIABLES_MOST (length vars)) _ _ u c.next) [
      | inl k ↦ absurd (no_refusal _ _ u refl k.1)
      | inr k ↦ elim (if-ok (not (are_loops vars f.loops)) _ _ u k.1) [
        | inl j ↦ absurd (no_refusal _ _ u refl j.1)
        | inr j ↦ record { loops = not-false _ j.0; fault = none; most = k.0; order = unless-none f.loops_line (order_fault f terms) (tt {0}) u j.1 }
      ]
    ]

-- variables are numbered by the loops where these are right
pub by-loops : (vars : List Variable) (loops : List (List ℕ)) → are_loops vars loops ≡ true → numbering vars loops ≡ loops
by-loops vars loops e = cond-true (are_loops vars loops) _ _ e

statement-ok : (f : File) (vars : List Variable) (u : Unit {0}) → statement_checked f vars ≡ Ok u → Checked f vars
statement-ok f vars u e =
    let names = numbering vars f.loops in
    let sums = sums_fault names f vars (left_of names f) (file_tops names f) in
    let z = then-ok (unless f.statement_line sums (tt {0}))
    (λ _. and_then (expansion_checked f.statement_line (terms_of names f vars)) (λ terms. terms_checked names f vars terms)) u e in
    let right : sums ≡ None = unless-none f.statement_line sums (tt {0}) z.value z.was in
    let s = then-ok (expansion_checked f.statement_line (terms_of names f vars)) (λ terms. terms_checked names f vars terms) u z.next in
    let k = kept f.statement_line (terms_of names f vars) s.value s.was in
    let t = terms-ok names f vars s.value u s.next in
    let by = by-loops vars f.loops t.loops in
    let F : List (List ℕ) → List Term → Type 0 = λ ns ts. terms_fault ns f.statement.left.vars ts ≡ None in
    let fault = subst (λ ts. F names ts) (sym k.same) t.fault in
    record {
      loops = t.loops;
      sums = subst (λ ns. sums_fault ns f vars (left_of ns f) (file_tops ns f) ≡ None) by right;
      few = subst (λ ns. length (terms_of ns f vars) ≤ 16) by k.few;
      short = subst (λ ns. have_long (terms_of ns f vars) ≡ false) by k.short;
      fault = subst (λ ns. F ns (terms_of ns f vars)) by fault;
      most = t.most;
      order = subst (λ ns. order_fault f (terms_of ns f vars) ≡ None) by (subst (λ ts. order_fault f ts ≡ None) (sym k.same) t.order);
    }

-- a file's statement by numbers gives the program of the file
numbered-program : (f : File) (vars : List Variable) (names : List (List ℕ)) → names ≡ numbering vars f.loops
    → numbered_reading names f vars (left_of names f) (file_tops names f) (sizes_of names f vars) ≡ and_then (statement_checked f vars) (λ _. Ok (program_of f vars))
numbered-program f vars names by =
    by_sums (sums_checked names f vars (left_of names f) (file_tops names f))
    ∙ ap (λ ns. and_then (checked_with ns f vars) (λ _. Ok (program_of f vars))) by
  where
    program : List Term → Program
    program terms = program_with f (left_of names f) terms (file_tops names f) (sizes_of names f vars)

    last : (terms : List Term) (r : Result (Unit {0}) ProgramRefusal) → terms ≡ terms_of names f vars → terms_checked names f vars terms ≡ r
        → and_then r (λ _. Ok (program terms)) ≡ and_then r (λ _. Ok (program_of f vars))
    last terms (Ok u) same fine =
        let loops : names ≡ f.loops = by ∙ by-loops vars f.loops (terms-ok names f vars terms u fine).loops in
        ap (λ ts. Ok (program ts)) same
        ∙ ap (λ ns. Ok (program_with f (left_of ns f) (terms_of ns f vars) (file_tops ns f) (sizes_of ns f vars))) loops
    last terms (Err r) same fine = refl

    by_case : (r : Result (List Term) ProgramRefusal) → expansion_checked f.statement_line (terms_of names f vars) ≡ r
        → and_then r (λ ts. and_then (terms_checked names f vars ts) (λ _. Ok (program ts)))
        ≡ and_then (and_then r (λ ts. terms_checked names f vars ts)) (λ _. Ok (program_of f vars))
    by_case (Ok terms) e = last terms (terms_checked names f vars terms) (sym (kept f.statement_line (terms_of names f vars) terms e).same) refl
    by_case (Err r) e = refl

    by_sums : (r : Result (Unit {0}) ProgramRefusal)
        → and_then r (λ _. and_then (expansion_checked f.statement_line (terms_of names f vars))
        (λ ts. and_then (terms_checked names f vars ts) (λ _. Ok (program ts))))
        ≡ and_then
        (and_then r (λ _. and_then (expansion_checked f.statement_line (terms_of names f vars)) (λ ts. terms_checked names f vars ts)))
        (λ _. Ok (program_of f vars))
    by_sums (Ok u) = by_case (expansion_checked f.statement_line (terms_of names f vars)) refl
    by_sums (Err r) = refl

pub file-numbered : (f : File) (vars : List Variable) (names : List (List ℕ)) (left : List ℕ) (tops : List TopTree) (sizes : List ℕ) → bound_of f ≡ Ok vars → names ≡ numbering vars f.loops
    → left ≡ left_of names f → tops ≡ file_tops names f → sizes ≡ sizes_of names f vars → numbered_reading names f vars left tops sizes ≡ checked f
file-numbered f vars names left tops sizes bound by left-is tops-is sizes-is =
    ap (λ l. numbered_reading names f vars l tops sizes) left-is
    ∙ ap₂ (λ ts ss. numbered_reading names f vars (left_of names f) ts ss) tops-is sizes-is
    ∙ numbered-program f vars names by
    ∙ ap (λ r. and_then r (λ vars. and_then (statement_checked f vars) (λ _. Ok (program_of f vars)))) (sym bound)

-- a file of few tensors that passes the checks makes an accepted program, where it declares what fits
pub fits-accepted : (f : File) (p : Program) → length f.tensors < 2 ^ 32 → 0 < length f.statement.tops → declarations_fit f.tensors f.result ≡ true → checked f ≡ Ok p
    → accepted p ≡ true
fits-accepted f p few fit declared h =
    let a = then-ok (bound_of f) (λ vars. and_then (statement_checked f vars) (λ _. Ok (program_of f vars))) p h in
    let b = then-ok (statement_checked f a.value) (λ _. Ok (program_of f a.value)) p a.next in
    let is : program_of f a.value ≡ p = ok-same (program_of f a.value) p b.next in
    let c = statement-ok f a.value b.value b.was in
    let binds = file-binds f a.value a.was in
    let A : Program → Type 0 = λ q. accepted q ≡ true in
    subst A is (and_from _ _ (and_from _ _ declared (statement-fits f a.value few fit binds c)) (each-fits f a.value binds c))

-- a file that passes the checks makes an accepted program
pub checked-accepted : (text : List ℕ) (f : File) (p : Program) → length text ≤ FILE_MOST → file_reading text ≡ Ok f → checked f ≡ Ok p → accepted p ≡ true
checked-accepted text f p short e h =
    let past = 1 + length (lines text) in
    let ls = counted_lines 1 (lines text) in
    let r = parts-ok past ls f e in
    fits-accepted f p (few-tensors text f short r) (fit-statement past ls f r) (file-fits past ls f r) h

pub if-accepted : (text : List ℕ) (f : File) (res : Result Program ProgramFault) → length text ≤ FILE_MOST → file_reading text ≡ Ok f → GivesProgram res (checked f) → IfOk res (λ p. accepted p ≡ true)
if-accepted text f (Ok p) short e h = checked-accepted text f p short e h
if-accepted text f (Err r) short e h = tt
