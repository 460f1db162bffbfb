-- Where all that a command reads is accepted, it has its text.
use Rattle.std.proofs.Common.{◌≡◌, ◌∙◌, ◌≤◌, ℕ, suc, true, false, cond, eqb, Bool, refl, arith, List, [], ◌∷◌, ◌++◌, length, ap, sym, subst}
use Rattle.std.proofs.lemmas.Bool.Decides.{nat_tests}
use Rattle.std.specs.Prelude.{Option, Result, Ok, Err, nat_lt, if◌then◌else◌}
use Rattle.sam_base.specs.Each.{Each}
use Rattle.sam_base.specs.declared.faults.Fault.{Fault}
use Rattle.sam_base.specs.declared.faults.Fault.TheVariants as fault
use Rattle.sam_base.specs.declared.faults.TnsKind.TheVariants.{TooManyPositions}
use Rattle.sam_io.specs.Outside.{Told}
use Rattle.sam_model.specs.declared.tensors.Entries.{Entries}
use Rattle.sam_model.specs.declared.tensors.Tensor.{Tensor}
use Rattle.sam_model.specs.declared.program.Program.{Program}
use Rattle.sam_model.specs.declared.program.Chain.{Chain}
use Rattle.sam_model.specs.Chains.{entries_as, and_result, StepsFollow, AreChained, declared_tensors, entries_after, chain_text}
use Rattle.sam_model.specs.Pattern.{is_too_large}
use Rattle.sam_model.specs.Statement.{statement_entries}
use Rattle.sam_model.specs.Program.{accepted}
use Rattle.parts.specs.Parts.{Part, each_part}
use Rattle.parts.proofs.DueLemmas.{ok_same}
use Rattle.inputs.specs.Programs.{chain_part, program_part, only_of}
use Rattle.inputs.specs.Tensors.{is_storable, storable, tensor_part}
use Rattle.runs.specs.Results.{Entry, result_of}
use Rattle.runs.specs.Runs.{RunsTo}
use Rattle.runs.proofs.RunLaws.{runs-to-some-answer, ample-room-finishes}
use Rattle.graph.specs.declared.graphs.Graph.{Graph}
use Rattle.words.specs.declared.asking.Lowering.{Lowering}
use Rattle.words.specs.declared.asking.Options.{Options}
use Rattle.thread_runs.specs.declared.TheConstants.{THREADS_MOST}
use Rattle.thread_runs.specs.ThreadsFor.{threads_for}
use Rattle.runs.proofs.SizeLaws.{sufficing-is-sized}
use Rattle.graph_check.specs.declared.verdict.Verdict.TheVariants.{Yes}
use Rattle.sam_cmd.specs.Chosen.{chosen}
use Rattle.sam_cmd.specs.Steps.{and_stored, passed_on, steps_part, under_options, by_threads, if_few, few_blocks}
use Rattle.sam_cmd.specs.Laws.{EachEnds, HasRoom, StepCompletes, RunCompletes, SizeCompletes, VerifyCompletes}
use Rattle.sam_cmd.proofs.ChosenGraphs.{chosen-computes}
use Rattle.sam_cmd.proofs.PassedLemmas.{as-many-with}

-- a list of parts gives as many
each_length : {A B : Type 0} (f : A → Part B) (told : Option Told) (xs : List A) (ys : List B) → each_part f xs told (Ok ys) →
    length ys ≡ length xs
each_length f told [] ys is = ap length (ok_same ys [] is)
each_length f told (x ∷ xs) ys (y, one, (zs, more, is)) = ap length (ok_same ys (y ∷ zs) is) ∙ ap suc (each_length f told xs zs more)

-- a program that is read is accepted
only : (steps : List Program) (lines : List ℕ) (p : Program) → Ok p ≡ only_of steps lines → AreChained steps → accepted p ≡ true
only [] lines p is chained = absurd (cc)
only (q ∷ []) lines p is chained = subst (λ (r : Program). accepted r ≡ true) (sym (ok_same p q is)) chained.1.0
only (q ∷ r ∷ steps) lines p is chained = absurd (cc)

read_accepted : (told : Option Told) (name : List ℕ) (p : Program) → program_part name told (Ok p) → accepted p ≡ true
read_accepted told name p (c, (text, read, (d, spelled, (is, chained))), alone) =
    only c.steps c.lines p alone (subst (λ (x : Chain). AreChained x.steps) (sym (ok_same c d is)) chained)

chain_follows : (told : Option Told) (name : List ℕ) (c : Chain) → chain_part name told (Ok c) → AreChained c.steps
chain_follows told name c (text, read, (d, spelled, (is, chained))) = subst (λ (x : Chain). AreChained x.steps) (sym (ok_same c d is)) chained

-- a tensor that isn't too large is answered
not_too_large : (p : Program) (es : List Entries) → is_too_large p.result (statement_entries p es) ≡ false → Ok (statement_entries p es) ≡ result_of p es
not_too_large p es fits = sym (ap (λ (b : Bool). if b then Err fault.ResultTooLarge else Ok (statement_entries p es)) fits)

-- a result of which few prefixes would be stored is passed on
few_passed : (p : Program) (es : List Entries) → is_storable p.result (entries_as p.result (statement_entries p es)) ≡ true →
    Ok (entries_after p es) ≡ passed_on p.result es (statement_entries p es)
few_passed p es few = by_case (eqb (length p.result.dims) 0)
  where
    e : Entries
    e = entries_as p.result (statement_entries p es)

    by_case : (b : Bool) → Ok (cond b es (es ++ e ∷ [])) ≡ (if b then Ok es else and_stored es (storable p.result.name p.result e))
    by_case true = refl
    by_case false = sym (ap (λ (b : Bool). and_stored es (if b then Ok e else Err (fault.Tensor p.result.name TooManyPositions 0))) few)

-- ---- where each program of a file ends with its result, the text is that of the last

module _ (told : Option Told) (answers : Program → List Entries → Part (List Entry)) (P : Program → List Entries → Type 0)
    (ends : (p : Program) (es : List Entries) → accepted p ≡ true → length es ≡ length p.tensors → P p es →
    is_too_large p.result (statement_entries p es) ≡ false → answers p es told (Ok (statement_entries p es))) where
  pub steps-end : (steps : List Program) (es : List Entries) (ts : List Tensor) → StepsFollow ts steps → length es ≡ length ts → EachEnds P steps es →
      steps_part answers steps es told (Ok (chain_text steps es))
  steps-end [] es ts follow long h = refl
  steps-end (p ∷ []) es ts follow long h =
      (statement_entries p es, ends p es follow.1.0 (long ∙ ap length (sym follow.0)) h.0 h.1, refl)
  steps-end (p ∷ q ∷ steps) es ts follow long h = (
    statement_entries p es,
    ends p es follow.1.0 (long ∙ ap length (sym follow.0)) h.0.0 h.0.1,
    (
      entries_after p es,
      few_passed p es h.1.0,
      steps-end (q ∷ steps) (entries_after p es) (and_result p.result ts p.result) follow.1.1 (as-many-with p.result ts es (entries_as p.result (statement_entries p es)) long) h.1.1,
    ),
  )

under_options_ends : (told : Option Told) (options : Options) (p : Program) (es : List Entries) → accepted p ≡ true → length es ≡ length p.tensors → HasRoom options p es →
    is_too_large p.result (statement_entries p es) ≡ false → under_options options p (chosen options.lowering p) es told (Ok (statement_entries p es))
under_options_ends told options p es ok long room fits =
    let caps = room.capacities in
    let g = chosen options.lowering p in
    let some = runs-to-some-answer p g es caps (chosen-computes p ok options.lowering) long in
    let answer = ample-room-finishes p g es caps some.0 room.ample some.1 ∙ sym (not_too_large p es fits) in
    (caps, room.given, subst (λ (a : Result (List Entry) Fault). RunsTo p g es caps a) answer some.1)

pub step-completes : StepCompletes
step-completes told program options c schedule entries read which set stored each =
    let follow = chain_follows told program c read in (
      c,
      read,
      (
        c.steps,
        sym which,
        (
          schedule,
          set,
          (
            entries,
            stored,
            steps-end told (λ p. under_options options p (chosen options.lowering p)) (HasRoom options) (under_options_ends told options) c.steps entries (declared_tensors c.steps) follow
                (each_length tensor_part told (declared_tensors c.steps) entries stored) each,
          ),
        ),
      ),
    )

not_past : (n : ℕ) → n ≤ THREADS_MOST → nat_lt THREADS_MOST n ≡ false
not_past n few = grind (arith, nat_tests)

few_threads : (g : Graph) → length g.blocks ≤ THREADS_MOST → threads_for g ≡ Ok g
few_threads g few =
    ap (λ (past : Bool). if past then Err (fault.TooManyBlocks (length g.blocks)) else Ok g) (not_past (length g.blocks) few)

all_few : (lowering : Lowering) (steps : List Program) → Each (λ p. length (chosen lowering p).blocks ≤ THREADS_MOST) steps → Ok tt ≡ few_blocks lowering steps
all_few lowering [] few = refl
all_few lowering (p ∷ steps) few =
    all_few lowering steps few.1 ∙ sym (ap (λ r. if_few r (few_blocks lowering steps)) (few_threads (chosen lowering p) few.0))

pub run-completes : RunCompletes
run-completes told program lowering c entries read few stored each = (
  c,
  read,
  (
    tt,
    all_few lowering c.steps few,
    (
      entries,
      stored,
      steps-end told by_threads (λ p es. Unit {0}) (λ p es ok long h fits. not_too_large p es fits) c.steps entries (declared_tensors c.steps) (chain_follows told program c read)
          (each_length tensor_part told (declared_tensors c.steps) entries stored) each,
    ),
  ),
)

pub verify-completes : VerifyCompletes
verify-completes told program graph p g read spelled verified =
    (p, read, (g, spelled, record { verdict = Yes; exact = verified.exact; fulfils = λ is. verified.fulfils; answered = refl }))

pub size-completes : SizeCompletes
size-completes told program lowering p entries read stored enough =
    let computes = chosen-computes p (read_accepted told program p read) lowering in
    let sized =
    sufficing-is-sized p (chosen lowering p) entries computes (each_length tensor_part told p.tensors entries stored) enough in
    (sized.0, sized.1, (p, read, (entries, stored, sized.2)))
