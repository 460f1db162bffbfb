-- A text that writes an accepted program is read as that program.
use Rattle.std.proofs.Common.{◌≡◌, ℕ, ◌+◌, ◌<◌, ◌≤◌, ◌^◌, List, [], ◌∷◌, inl, inr, length, true, false, not, cond, None, Result, Ok}
use Rattle.std.proofs.Common.{refl, sym, ap, subst, ◌∙◌, arith, nat_lt}
use Rattle.std.specs.List.{list_all}
use Rattle.std.specs.Str.{bytes_eq}
use Rattle.std.proofs.lemmas.Bool.{and_parts, or_cases, eqb-true, le-ltb, cond-false}
use Rattle.std.proofs.lemmas.List.{length-map}
use Rattle.sam_base.specs.declared.TheConstants.{FILE_MOST, TERMS_MOST, VARIABLES_MOST}
use Rattle.sam_base.specs.declared.faults.ProgramKind.TheVariants.{UnusedSum, TooManyVariables}
use Rattle.sam_text.specs.Lines.{lines}
use Rattle.sam_text.specs.Counted.{counted_lines}
use Rattle.sam_model.specs.Lists.{below}
use Rattle.sam_model.specs.declared.program.Program.{Program}
use Rattle.sam_model.specs.Accepted.{factor_fits, stands, is_named}
use Rattle.sam_model.specs.Scopes.{top_fits}
use Rattle.sam_model.specs.Program.{accepted}
use Rattle.sam_model.proofs.AcceptedPrograms.{accepted-parts}
use Rattle.expand.specs.Counting.{have_long}
use Rattle.program_file.specs.declared.files.File.{File}
use Rattle.program_file.specs.declared.faults.ProgramFault.{ProgramFault}
use Rattle.program_file.specs.Refusals.{and_then, program_refused, GivesProgram}
use Rattle.program_file.specs.declared.accesses.Variable.{Variable}
use Rattle.program_file.specs.Accesses.{is_known, named_kind, unless}
use Rattle.program_file.specs.Numbers.{are_loops, place_of}
use Rattle.program_file.specs.Statements.{right_accesses}
use Rattle.program_file.specs.Checks.{first_of, tops_bind_wrong, expansion_fault, accesses_discordant, terms_deep}
use Rattle.program_file.specs.Programs.{left_of, file_tops, terms_of, program_of, bound_of, sums_fault, order_fault, loops_checked}
use Rattle.program_file.specs.Programs.{terms_checked, expansion_checked, checked_with, statement_checked, checked, program_reading}
use Rattle.program_file.specs.Files.{file_reading}
use Rattle.program_file.specs.Written.{variables_of, Writes}
use Rattle.program_file.proofs.DeclaredLemmas.{parts-ok}
use Rattle.program_file.proofs.FitLemmas.{file-binds}
use Rattle.program_file.proofs.StatementLemmas.{numbered_access, terms-pass}
use Rattle.program_file.proofs.SumFits.{all-right, right-unused}
use Rattle.program_file.proofs.BoundLemmas.{same-name}
use Rattle.program_file.proofs.FileLemmas.{few-tensors, by-loops}
use Rattle.program_file.proofs.CompleteBinds.{sizes, file-bound, place-named}
use Rattle.program_file.proofs.CompleteChecks.{terms-fit, in-loop-order, accesses-concordant, loops-match, variables-distinct, known-loops}

-- a name of the loops is that of a variable, where each loop is one
named-known : (vars : List Variable) (loops : List (List ℕ)) → list_all (λ n. is_known n vars) loops ≡ true
    → (n : List ℕ) → is_named n loops ≡ true → is_known n vars ≡ true
named-known vars [] h n e = absurd cc
named-known vars (m ∷ loops) h n e =
    let p = and_parts (is_known m vars) (list_all (λ n. is_known n vars) loops) h in
    elim (or_cases (bytes_eq n m) (is_named n loops) e) [
      | inl s ↦ subst (λ k. is_known k vars ≡ true) (sym (same-name n m s)) p.0
      | inr s ↦ named-known vars loops p.1 n s
    ]

file-checked : (f : File) → length f.tensors < 2 ^ 32 → bytes_eq f.statement.left.name f.result.name ≡ true → accepted (program_of f (variables_of f)) ≡ true → checked f ≡ Ok (program_of f (variables_of f))
file-checked f few left e =
    let all = variables_of f in
    let line = f.statement_line in
    let terms = terms_of f.loops f all in
    let right = right_accesses f.statement in
    let a = accepted-parts (program_of f all) e in
    let t = terms-fit f.tensors (sizes all f.loops) f.loops f.statement.left.vars terms a.terms in
    let accesses : list_all (λ a. factor_fits f.tensors (sizes all f.loops) (numbered_access f.tensors f.loops a)) right ≡ true =
    sym (terms-pass (factor_fits f.tensors (sizes all f.loops)) (λ n. refl) f.loops f all) ∙ t.factors in
    let bound : bound_of f ≡ Ok all = file-bound f few a.free left a.left accesses in
    let binds = file-binds f all bound in
    let named = known-loops f all few binds all a.left accesses in
    let same : length (sizes all f.loops) ≡ length f.loops = length-map f.loops _ in
    let stood : list_all (stands (left_of f.loops f) terms) (below (length f.loops)) ≡ true = subst (λ n. list_all (stands (left_of f.loops f) terms) (below n) ≡ true) same a.stood in
    let loops : are_loops all f.loops ≡ true = loops-match f all binds (variables-distinct f) a.apart named stood in
    let count : length f.loops ≡ length all = eqb-true _ _ (and_parts _ _ loops).0 in
    let eight : length (sizes all f.loops) ≤ 8 = a.few in
    let few_vars : nat_lt VARIABLES_MOST (length all) ≡ false = le-ltb 8 (length all) (omega arith) in
    let order : order_fault f terms ≡ None =
    ap (λ o. first_of o (first_of (accesses_discordant f.tensors f.loops right) (terms_deep f.loops (left_of f.loops f) terms))) (in-loop-order f.tensors few all f.loops f.statement.left f.result a.left)
    ∙ ap (λ o. first_of o (terms_deep f.loops (left_of f.loops f) terms)) (accesses-concordant f.tensors few all f.loops right accesses)
    ∙ t.shallow in
    let loops_ok : loops_checked f all terms ≡ Ok (tt {0}) =
    cond-false (not (are_loops all f.loops)) _ _ (ap not loops) ∙ ap (λ o. unless f.loops_line o (tt {0})) order in
    let terms_ok : terms_checked f.loops f all terms ≡ Ok (tt {0}) =
    ap (λ o. and_then (unless line o (tt {0})) (λ _. cond (nat_lt VARIABLES_MOST (length all)) (program_refused TooManyVariables line) (loops_checked f all terms))) t.fault
    ∙ cond-false (nat_lt VARIABLES_MOST (length all)) _ _ few_vars ∙ loops_ok in
    let short : expansion_fault terms ≡ None =
    cond-false (nat_lt TERMS_MOST (length terms)) _ _ (le-ltb 16 (length terms) a.short) ∙ cond-false (have_long terms) _ _ t.short in
    let left_vars = left_of f.loops f in
    let tops = file_tops f.loops f in
    let are_known = (and_parts _ _ (and_parts _ _ loops).1).0 in
    let fit : list_all (top_fits (length f.loops) left_vars) tops ≡ true =
    subst (λ n. list_all (top_fits n left_vars) tops ≡ true) same (and_parts _ _ (and_parts _ _ e).1).1 in
    let number : (n : List ℕ) → place_of f.loops n < length f.loops → is_known n all ≡ true =
    λ n h. named-known all f.loops are_known n (place-named n f.loops h) in
    let few_loops : length f.loops ≤ 8 = subst (λ n. n ≤ 8) same eight in
    let sums : sums_fault f.loops f all left_vars tops ≡ None =
    ap (λ o. named_kind UnusedSum o (tops_bind_wrong f.loops left_vars tops))
    (right-unused f.tensors all f.loops few_loops number left_vars f.statement.tops fit)
    ∙ all-right f.tensors all f.loops few_loops number left_vars f.statement.tops fit in
    let ok : statement_checked f all ≡ Ok (tt {0}) =
    ap (λ ns. checked_with ns f all) (by-loops all f.loops loops)
    ∙ ap (λ o. and_then (unless line o (tt {0})) (λ _. and_then (expansion_checked line terms) (λ ts. terms_checked f.loops f all ts))) sums
    ∙ ap (λ o. and_then (unless line o terms) (λ ts. terms_checked f.loops f all ts)) short ∙ terms_ok in
    ap (λ r. and_then r (λ vars. and_then (statement_checked f vars) (λ _. Ok (program_of f vars)))) bound
    ∙ ap (λ r. and_then r (λ _. Ok (program_of f all))) ok

pub complete : (text : List ℕ) (p : Program) → length text ≤ FILE_MOST → Writes text p → accepted p ≡ true → program_reading text ≡ Ok p
complete text p short w e =
    let r = parts-ok (1 + length (lines text)) (counted_lines 1 (lines text)) w.file w.read in
    let few = few-tensors text w.file short r in
    ap (λ r. and_then r checked) w.read
    ∙ file-checked w.file few w.left (subst (λ q. accepted q ≡ true) (sym w.is) e)
    ∙ ap (λ q. Ok q) w.is

pub if-complete : (text : List ℕ) (res : Result Program ProgramFault) → length text ≤ FILE_MOST → GivesProgram res (program_reading text) → (p : Program) → Writes text p → accepted p ≡ true → GivesProgram res (Ok p)
if-complete text res short h p w e = subst (λ q. GivesProgram res q) (complete text p short w e) h

-- what a file is read as, its text is read as
pub file-read : (text : List ℕ) (f : File) (res : Result Program ProgramFault) → file_reading text ≡ Ok f → GivesProgram res (checked f) → GivesProgram res (program_reading text)
file-read text f res e h = subst (λ q. GivesProgram res q) (sym (ap (λ r. and_then r checked) e)) h
