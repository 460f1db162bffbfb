-- What is known of the chain that is read.
use Rattle.std.proofs.Common.{◌≡◌, ℕ, suc, ◌+◌, ◌<◌, ◌≤◌, ◌^◌, List, [], ◌∷◌, ◌++◌, length, true, Result, Ok, Err, refl, sym, ap, ap₂, subst, ◌∙◌, arith, IfOk, append_assoc, slice_get}
use Rattle.std.specs.Option.{IfSome}
use Rattle.std.proofs.lemmas.Bool.{and_from, not_from_false}
use Rattle.std.proofs.lemmas.List.{length-map}
use Rattle.std.proofs.lemmas.Option.{IfSome_then}
use Rattle.sam_base.specs.declared.TheConstants.{FILE_MOST}
use Rattle.sam_text.specs.Lines.{lines}
use Rattle.sam_text.specs.Counted.{NumberedLine, counted_lines}
use Rattle.sam_model.specs.declared.tensors.Tensor.{Tensor}
use Rattle.sam_model.specs.declared.program.Program.{Program}
use Rattle.sam_model.specs.declared.program.Chain.{Chain}
use Rattle.sam_model.specs.Accepted.{declarations_fit}
use Rattle.sam_model.specs.Chains.{and_result, StepsFollow, AreChained}
use Rattle.program_file.specs.declared.files.File.{File}
use Rattle.program_file.specs.declared.files.Group.{Group}
use Rattle.program_file.specs.declared.groups.ChainFile.{ChainFile}
use Rattle.program_file.specs.declared.faults.ProgramFault.{ProgramFault}
use Rattle.program_file.specs.Refusals.{ProgramRefusal, and_then, GivesProgram}
use Rattle.program_file.specs.Files.{declarations_in, file_with}
use Rattle.program_file.specs.Programs.{program_of, bound_of, statement_checked, checked}
use Rattle.program_file.specs.Chains.{chain_file_reading, and_scalar, steps_of, lines_of, chain_of, chain_reading}
use Rattle.program_file.proofs.DeclaredLemmas.{then-ok, read_as, ok-same, Declared, declarations-fit, group-ok, group-result}
use Rattle.program_file.proofs.FileLemmas.{fits-accepted, lines-count, kept-count, tensors-count}
use Rattle.program_file.proofs.GroupLemmas.{GroupsFit, declared-behind, length-behind, declared-from, group-fits, groups-fit, groups-count}
use Rattle.program_file.proofs.GroupLemmas.{groups-first, chain_parts-ok}

-- ---- steps

-- a program has the tensors and the result of its file
checked-parts : (f : File) (p : Program) → checked f ≡ Ok p → (p.tensors ≡ f.tensors) × (p.result ≡ f.result)
checked-parts f p e =
    let a = then-ok (bound_of f) (λ vars. and_then (statement_checked f vars) (λ _. Ok (program_of f vars))) p e in
    let b = then-ok (statement_checked f a.value) (λ _. Ok (program_of f a.value)) p a.next in
    let same : p ≡ program_of f a.value = sym (ok-same (program_of f a.value) p b.next) in
    (ap (λ (q : Program). q.tensors) same, ap (λ (q : Program). q.result) same)

-- the step of a group, and those of the groups behind it
record IsStep (ts : List Tensor) (scalars : List (List ℕ)) (g : Group) (groups : List Group) (steps : List Program) : Type 0 where
  step : Program
  others : List Program
  passed : checked (file_with ts scalars g) ≡ Ok step
  tensors : step.tensors ≡ ts
  result : step.result ≡ g.result
  rest : steps_of (and_result g.result ts g.result) (and_scalar g.result scalars) groups ≡ Ok others
  is : step ∷ others ≡ steps

step-ok :
    (ts : List Tensor) (scalars : List (List ℕ)) (g : Group) (groups : List Group) (steps : List Program) →
    steps_of ts scalars (g ∷ groups) ≡ Ok steps → IsStep ts scalars g groups steps
step-ok ts scalars g groups steps e =
    let rest = steps_of (and_result g.result ts g.result) (and_scalar g.result scalars) groups in
    let a = then-ok (checked (file_with ts scalars g)) (λ p. and_then rest (λ steps. Ok (p ∷ steps))) steps e in
    let b = then-ok rest (λ steps. Ok (a.value ∷ steps)) steps a.next in
    let own = checked-parts (file_with ts scalars g) a.value a.was in
    record {
      step = a.value;
      others = b.value;
      passed = a.was;
      tensors = own.0;
      result = own.1;
      rest = b.was;
      is = ok-same (a.value ∷ b.value) steps b.next;
    }

steps-follow :
    (ts : List Tensor) (scalars : List (List ℕ)) (groups : List Group) (steps : List Program) → Declared ts →
    length ts + length groups < 2 ^ 32 → GroupsFit ts groups → steps_of ts scalars groups ≡ Ok steps → StepsFollow ts steps
steps-follow ts scalars [] steps d few h e = subst (λ ps. StepsFollow ts ps) (ok-same [] steps e) tt
steps-follow ts scalars (g ∷ groups) steps d few h e =
    let more = and_result g.result ts g.result in
    let s = step-ok ts scalars g groups steps e in
    let declared : declarations_fit ts g.result ≡ true =
    and_from _ _ d.each (and_from _ _ h.0.formed (and_from _ _ d.apart (not_from_false _ h.0.new))) in
    let ok = fits-accepted (file_with ts scalars g) s.step (omega (arith, few)) h.0.tops declared s.passed in
    let n = length-behind ts g.result in
    let follow = steps-follow more (and_scalar g.result scalars) groups s.others (declared-behind ts g d h.0) (omega (arith, few, n)) h.1 s.rest in
    subst (λ ps. StepsFollow ts ps) s.is
    (s.tensors, (ok, subst (λ t. StepsFollow (and_result t ts t) s.others) (sym s.result) follow))

steps-count :
    (ts : List Tensor) (scalars : List (List ℕ)) (groups : List Group) (steps : List Program) → steps_of ts scalars groups ≡ Ok steps →
    length steps ≡ length groups
steps-count ts scalars [] steps e = sym (ap (λ (ps : List Program). length ps) (ok-same [] steps e))
steps-count ts scalars (g ∷ groups) steps e =
    let s = step-ok ts scalars g groups steps e in
    sym (ap (λ (ps : List Program). length ps) s.is)
    ∙ ap (λ n. suc n) (steps-count (and_result g.result ts g.result) (and_scalar g.result scalars) groups s.others s.rest)

-- the first step reads what is declared
own-tensors : (ts : List Tensor) (steps : List Program) → StepsFollow ts steps → AreChained steps
own-tensors ts [] h = tt
own-tensors ts (p ∷ steps) h = subst (λ us. StepsFollow us (p ∷ steps)) (sym h.0) h

-- what was made so far, then what the rest gives
abbrev pub made_then : List Program → Result (List Program) ProgramRefusal → Result (List Program) ProgramRefusal
made_then made r = and_then r (λ steps. Ok (made ++ steps))

made_then-more : (made : List Program) (p : Program) (r : Result (List Program) ProgramRefusal) → made_then made (and_then r (λ steps. Ok (p ∷ steps))) ≡ made_then (made ++ p ∷ []) r
made_then-more made p (Ok steps) = ap (λ ps. Ok ps) (sym (append_assoc made (p ∷ []) steps))
made_then-more made p (Err e) = refl

-- one more step is made
step-made : (made : List Program) (p : Program) (ts : List Tensor) (scalars : List (List ℕ)) (g : Group) (groups : List Group) → checked (file_with ts scalars g) ≡ Ok p
    → made_then (made ++ p ∷ []) (steps_of (and_result g.result ts g.result) (and_scalar g.result scalars) groups) ≡ made_then made (steps_of ts scalars (g ∷ groups))
step-made made p ts scalars g groups e =
    let rest = steps_of (and_result g.result ts g.result) (and_scalar g.result scalars) groups in
    sym (made_then-more made p rest) ∙ ap (λ r. made_then made (and_then r (λ q. and_then rest (λ steps. Ok (q ∷ steps))))) (sym e)

-- where this file was checked
pub step-kept : (made more : List Program) (p : Program) (ts new-ts : List Tensor) (scalars new-scalars : List (List ℕ)) (f : File) (g : Group) (left groups : List Group) (all : Result (List Program) ProgramRefusal)
    → left ≡ g ∷ groups → f ≡ file_with ts scalars g → checked f ≡ Ok p → new-ts ≡ and_result f.result ts f.result → new-scalars ≡ and_scalar f.result scalars → more ≡ made ++ p ∷ []
    → made_then made (steps_of ts scalars left) ≡ all → made_then more (steps_of new-ts new-scalars groups) ≡ all
step-kept made more p ts new-ts scalars new-scalars f g left groups all left-is file-is passed ts-are scalars-are made-is h =
    let ts-now : new-ts ≡ and_result g.result ts g.result = ts-are ∙ ap (λ (x : File). and_result x.result ts x.result) file-is in
    let scalars-now : new-scalars ≡ and_scalar g.result scalars = scalars-are ∙ ap (λ (x : File). and_scalar x.result scalars) file-is in
    ap (λ m. made_then m (steps_of new-ts new-scalars groups)) made-is
    ∙ ap₂ (λ us ss. made_then (made ++ p ∷ []) (steps_of us ss groups)) ts-now scalars-now
    ∙ step-made made p ts scalars g groups (subst (λ x. checked x ≡ Ok p) file-is passed)
    ∙ ap (λ gs. made_then made (steps_of ts scalars gs)) (sym left-is)
    ∙ h

-- ---- files

-- what is known of a chain that is read
pub record IsChain (c : Chain) : Type 0 where
  pub follow : AreChained c.steps
  pub some : 1 ≤ length c.steps
  pub few : length c.steps ≤ 8
  pub each_line : length c.lines ≡ length c.steps

-- what is known of the tensors and groups that are read
record IsChainFile (f : ChainFile) : Type 0 where
  declared : Declared f.tensors
  fits : GroupsFit f.tensors f.groups
  tensors : length f.tensors ≤ FILE_MOST
  some : 1 ≤ length f.groups
  few : length f.groups ≤ 8

file-ok : (text : List ℕ) (f : ChainFile) → length text ≤ FILE_MOST → chain_file_reading text ≡ Ok f → IsChainFile f
file-ok text f short e =
    let past = 1 + length (lines text) in
    let ls = counted_lines 1 (lines text) in
    let r = chain_parts-ok past ls f e in
    let ts = r.declared.0.0 in
    let first = r.declared.0.1 in
    let fit = declarations-fit past [] ls r.declared (record { each = refl; apart = refl }) r.declared_in in
    let declared = declared-from ts first.0 fit in
    let fits = group-fits past ts first r.declared.1 r.group.0 fit (group-ok past first r.declared.1 r.group r.grouped) in
    let count = groups-count past ts 7 (r.group.0 ∷ []) r.group.1 f.groups r.groups in
    let n = tensors-count past [] ls r.declared r.declared_in in
    let m = kept-count 1 (lines text) in
    let k = lines-count text in
    record {
      declared = subst Declared r.tensors declared;
      fits =
          subst (λ us. GroupsFit us f.groups) r.tensors
          (groups-fit past ts 7 (r.group.0 ∷ []) r.group.1 f.groups declared (fits, tt) r.groups);
      tensors = subst (λ (us : List Tensor). length us ≤ FILE_MOST) r.tensors (omega (arith, n, m, k, short));
      some = omega (arith, count.0);
      few = omega (arith, count.1);
    }

-- the file and the steps of a chain that is read
record ChainParts (text : List ℕ) (c : Chain) : Type 0 where
  file : ChainFile
  read : chain_file_reading text ≡ Ok file
  steps : steps_of file.tensors [] file.groups ≡ Ok c.steps
  lines : lines_of file.groups ≡ c.lines

chain-parts : (text : List ℕ) (c : Chain) → chain_reading text ≡ Ok c → ChainParts text c
chain-parts text c e =
    let f = then-ok (chain_file_reading text) chain_of c e in
    let made : List Program → Chain = λ steps. record { steps = steps; lines = lines_of f.value.groups } in
    let s = then-ok (steps_of f.value.tensors [] f.value.groups) (λ steps. Ok (made steps)) c f.next in
    let is = ok-same (made s.value) c s.next in
    record {
      file = f.value;
      read = f.was;
      steps = s.was ∙ ap (λ (x : Chain). read_as x.steps) is;
      lines = ap (λ (x : Chain). x.lines) is;
    }

chain-ok : (text : List ℕ) (c : Chain) → length text ≤ FILE_MOST → chain_reading text ≡ Ok c → IsChain c
chain-ok text c short e =
    let p = chain-parts text c e in
    let f = p.file in
    let k = file-ok text f short p.read in
    let n = steps-count f.tensors [] f.groups c.steps p.steps in
    record {
      follow =
          own-tensors f.tensors c.steps
          (steps-follow f.tensors [] f.groups c.steps k.declared (omega (arith, k.tensors, k.few)) k.fits p.steps);
      some = omega (arith, n, k.some);
      few = omega (arith, n, k.few);
      each_line = sym (ap (λ (ls : List ℕ). length ls) p.lines) ∙ length-map f.groups (λ g. g.result_line) ∙ sym n;
    }

-- the first step of a chain that is read has the tensors and the result that the file declares first
pub record Begins (text : List ℕ) (c : Chain) : Type 0 where
  pub declared : (List Tensor × (Tensor × ℕ)) × List NumberedLine
  pub declared_in : declarations_in (1 + length (lines text)) [] (counted_lines 1 (lines text)) ≡ Ok declared
  pub first : IfSome (slice_get c.steps 0) (λ p. (p.tensors ≡ declared.0.0) × (p.result ≡ declared.0.1.0))

first-of :
    (ts : List Tensor) (g : Group) (groups : List Group) (steps : List Program) → steps_of ts [] (g ∷ groups) ≡ Ok steps →
    IfSome (slice_get steps 0) (λ p. (p.tensors ≡ ts) × (p.result ≡ g.result))
first-of ts g groups steps e =
    let s = step-ok ts [] g groups steps e in
    subst (λ ps. IfSome (slice_get ps 0) (λ p. (p.tensors ≡ ts) × (p.result ≡ g.result))) s.is (s.tensors, s.result)

pub chain-begins : (text : List ℕ) (c : Chain) → chain_reading text ≡ Ok c → Begins text c
chain-begins text c e =
    let past = 1 + length (lines text) in
    let ls = counted_lines 1 (lines text) in
    let p = chain-parts text c e in
    let f = p.file in
    let r = chain_parts-ok past ls f p.read in
    let d = r.declared in
    let g = r.group.0 in
    let more = groups-first past d.0.0 7 g [] r.group.1 f.groups r.groups in
    let steps = subst (λ gs. steps_of f.tensors [] gs ≡ Ok c.steps) (sym more.1) p.steps in
    let own = group-result past d.0.1 d.1 g (group-ok past d.0.1 d.1 r.group r.grouped) in
    record {
      declared = d;
      declared_in = r.declared_in;
      first = IfSome_then (slice_get c.steps 0) (first-of f.tensors g more.0 c.steps steps) (λ p h. (h.0 ∙ sym r.tensors, h.1 ∙ own));
    }

-- ---- what is read

-- what a file's chain is read as, its text is read as
pub chain-read : (text : List ℕ) (f : ChainFile) (res : Result Chain ProgramFault) → chain_file_reading text ≡ Ok f → GivesProgram res (chain_of f) → GivesProgram res (chain_reading text)
chain-read text f res e h = subst (λ q. GivesProgram res q) (sym (ap (λ r. and_then r chain_of) e)) h

-- a chain that is read is known to be one
pub if-chain :
    (text : List ℕ) (f : ChainFile) (res : Result Chain ProgramFault) → length text ≤ FILE_MOST → chain_file_reading text ≡ Ok f →
    GivesProgram res (chain_of f) → IfOk res IsChain
if-chain text f (Ok c) short e h = chain-ok text c short (chain-read text f (Ok c) e h)
if-chain text f (Err r) short e h = tt
