-- What a file that is read declares fits.
use Rattle.std.proofs.Common.{◌≡◌, ℕ, List, [], ◌∷◌, ◌++◌, length, Bool, true, false, not, ◌&&◌, ◌==◌, cond, Option, Some, None, Result, Ok, Err, refl, sym, ap, subst, ◌∙◌, arith, ◌⊎◌, inl, inr, nat_le}
use Rattle.std.specs.List.{list_all}
use Rattle.std.proofs.lemmas.Bool.{and_parts, and_from, or_parts, le-leb, not-true, not-false, not_from_false, or_from, both_ways, false_from_ne_true}
use Rattle.std.proofs.lemmas.Slice.Eq.{bytes_eq-Decides}
use Rattle.std.specs.Str.{bytes_eq}
use Rattle.std.proofs.lemmas.List.{length-map}
use Rattle.std.proofs.lemmas.List.Splits.{length-slice_split}
use Rattle.sam_text.specs.Counted.{NumberedLine}
use Rattle.sam_text.specs.Words.{words}
use Rattle.sam_text.specs.Names.{is_name}
use Rattle.sam_model.specs.declared.tensors.Tensor.{Tensor}
use Rattle.sam_model.specs.Accepted.{is_operand, is_well_formed, is_dimension, is_taken, distinct_tensors, declarations_fit}
use Rattle.notation.specs.declared.statement.Statement.{Statement}
use Rattle.program_file.specs.declared.files.File.{File}
use Rattle.program_file.specs.declared.files.Group.{Group}
use Rattle.program_file.specs.Refusals.{ProgramRefusal, and_then}
use Rattle.program_file.specs.Keywords.{tensor_word, result_word, starts, others}
use Rattle.program_file.specs.Declarations.{parts, numbers, capped, format_of, is_shape, tensor_with, scalar, tensor_of, result_of, declared, is_printable}
use Rattle.program_file.specs.Files.{result_declared, declarations_in, compute_in, loops_in, group_with, group_in, end_in, file_with, parts_in}
use Rattle.sam_base.specs.declared.faults.ProgramKind.{ProgramKind}
use Rattle.program_file.specs.Accesses.{unless}

pub record Then {Y Z : Type 0} (r : Result Y ProgramRefusal) (f : Y → Result Z ProgramRefusal) (z : Z) : Type 0 where
  pub value : Y
  pub was : r ≡ Ok value
  pub next : f value ≡ Ok z

pub then-ok : {Y Z : Type 0} (r : Result Y ProgramRefusal) (next : Y → Result Z ProgramRefusal) (z : Z) → and_then r next ≡ Ok z → Then r next z
then-ok (Ok y) next z e = record { value = y; was = refl; next = e }
then-ok (Err r) next z e = absurd cc

abbrev pub read_as : {Y : Type 0} → Y → Result Y ProgramRefusal
read_as x = Ok x

pub ok-same : {Y : Type 0} (x y : Y) → read_as x ≡ read_as y → x ≡ y
ok-same x y e = cc

pub if-ok : {Y : Type 0} (b : Bool) (x y : Result Y ProgramRefusal) (z : Y) → cond b x y ≡ Ok z → ((b ≡ true) × (x ≡ Ok z)) ⊎ ((b ≡ false) × (y ≡ Ok z))
if-ok true x y z e = inl (refl, e)
if-ok false x y z e = inr (refl, e)

pub no_refusal : {Y : Type 0} (x : Result Y ProgramRefusal) (r : ProgramRefusal) (z : Y) → x ≡ Err r → x ≡ Ok z → ⊥
no_refusal (Ok y) r z h e = absurd cc
no_refusal (Err y) r z h e = absurd cc

shape-fits : (name dims formats order file : List ℕ) → is_shape dims formats order ≡ true → list_all is_dimension (numbers 120 dims) ≡ true → is_well_formed (tensor_with name dims formats order file) ≡ true
shape-fits name dims formats order file h k =
    let a = and_parts _ _ h in
    let b = and_parts _ _ a.1 in
    let c = and_parts _ _ b.1 in
    let d = and_parts _ _ c.1 in
    let e = and_parts _ _ d.1 in
    let f = and_parts _ _ e.1 in
    and_from _ _ b.0 (and_from _ _ k (and_from _ _ (ap (λ n. n == length (numbers 120 dims)) (length-map formats format_of) ∙ d.0) f.1))

some-dims : (dims : List ℕ) → nat_le 1 (length (numbers 120 dims)) ≡ true
some-dims dims =
    let p : ℕ → Bool = λ b. b == 120 in
    le-leb 1 (length (numbers 120 dims)) (omega (arith, length-map (parts 120 dims) capped, length-slice_split p dims))

-- what a declared tensor is
abbrev Fits : Tensor → Type 0
Fits t = list_all is_dimension t.dims ≡ true → is_operand t ≡ true

abbrev FitsResult : Tensor → Type 0
FitsResult t = list_all is_dimension t.dims ≡ true → is_well_formed t ≡ true

pick : (P : Tensor → Type 0) (b : Bool) (x t : Tensor) → (b ≡ true → P x) → cond b (Some x) None ≡ Some t → P t
pick P true x t h e = let same : x ≡ t = cc in subst P same (h refl)
pick P false x t h e = absurd cc

tensor-fits : (ws : List (List ℕ)) (t : Tensor) → tensor_of ws ≡ Some t → Fits t
tensor-fits (name ∷ dims ∷ formats ∷ order ∷ file ∷ []) t e =
    pick Fits (is_name name && (list_all is_printable file && is_shape dims formats order)) (tensor_with name dims formats order file) t
    (λ h k. and_from _ _ (some-dims dims) (shape-fits name dims formats order file (and_parts _ _ (and_parts _ _ h).1).1 k)) e
tensor-fits _ t e = absurd cc

result-fits : (ws : List (List ℕ)) (t : Tensor) → result_of ws ≡ Some t → FitsResult t
result-fits (name ∷ []) t e = pick FitsResult (is_name name) (scalar name) t (λ h k. refl) e
result-fits (name ∷ dims ∷ formats ∷ order ∷ []) t e =
    pick FitsResult (is_name name && is_shape dims formats order) (tensor_with name dims formats order []) t (λ h k. shape-fits name dims formats order [] (and_parts _ _ h).1 k) e
result-fits _ t e = absurd cc

record IsDeclared (tensors : List Tensor) (o : Option Tensor) (t : Tensor) : Type 0 where
  is : o ≡ Some t
  dims : list_all is_dimension t.dims ≡ true
  new : is_taken t.name tensors ≡ false

declared-ok : (tensors : List Tensor) (line : ℕ) (o : Option Tensor) (t : Tensor) → declared tensors line o ≡ Ok t → IsDeclared tensors o t
declared-ok tensors line None t e = absurd cc
declared-ok tensors line (Some x) t e = elim (if-ok (not (list_all is_dimension x.dims)) _ _ t e) [
  | inl h ↦ absurd (no_refusal _ _ t refl h.1)
  | inr h ↦ elim (if-ok (is_taken x.name tensors) _ _ t h.1) [
    | inl k ↦ absurd (no_refusal _ _ t refl k.1)
    | inr k ↦ let same : x ≡ t = cc in record {
      is = ap Some same;
      dims = subst (λ (y : Tensor). list_all is_dimension y.dims ≡ true) same (not-false _ h.0);
      new = subst (λ (y : Tensor). is_taken y.name tensors ≡ false) same k.0;
    }
  ]
]

-- so many tensors that fit, with names that differ
pub record Declared (tensors : List Tensor) : Type 0 where
  pub each : list_all is_operand tensors ≡ true
  pub apart : distinct_tensors tensors ≡ true

all-push : (ts : List Tensor) (t : Tensor) → list_all is_operand ts ≡ true → is_operand t ≡ true → list_all is_operand (ts ++ t ∷ []) ≡ true
all-push [] t h k = and_from _ _ k refl
all-push (x ∷ xs) t h k = let p = and_parts _ _ h in and_from _ _ p.0 (all-push xs t p.1 k)

pub taken-push : (name : List ℕ) (ts : List Tensor) (t : Tensor) → is_taken name ts ≡ false → bytes_eq name t.name ≡ false → is_taken name (ts ++ t ∷ []) ≡ false
taken-push name [] t h k = or_from _ _ k refl
taken-push name (x ∷ xs) t h k = let p = or_parts _ _ h in or_from _ _ p.0 (taken-push name xs t p.1 k)

other-way : (a b : List ℕ) → bytes_eq a b ≡ false → bytes_eq b a ≡ false
other-way a b h = false_from_ne_true (bytes_eq b a) (λ e. both_ways (bytes_eq a b) h ((bytes_eq-Decides a b).1 (sym ((bytes_eq-Decides b a).0 e))))

apart-push : (ts : List Tensor) (t : Tensor) → distinct_tensors ts ≡ true → is_taken t.name ts ≡ false → distinct_tensors (ts ++ t ∷ []) ≡ true
apart-push [] t h k = refl
apart-push (x ∷ xs) t h k =
    let p = and_parts _ _ h in
    let q = or_parts _ _ k in
    and_from _ _ (not_from_false _ (taken-push x.name xs t (not-true _ p.0) (other-way t.name x.name q.0))) (apart-push xs t p.1 q.1)

pub push-declared : (ts : List Tensor) (t : Tensor) → Declared ts → is_operand t ≡ true → is_taken t.name ts ≡ false → Declared (ts ++ t ∷ [])
push-declared ts t h k new = record { each = all-push ts t h.each k; apart = apart-push ts t h.apart new }

option-if : (b : Bool) (o : Option Tensor) (t : Tensor) → cond b o None ≡ Some t → o ≡ Some t
option-if true o t e = e
option-if false o t e = absurd cc

pub result-ok : (tensors : List Tensor) (l : NumberedLine) (t : Tensor) → Declared tensors → result_declared tensors l ≡ Ok t → declarations_fit tensors t ≡ true
result-ok tensors l t h e =
    let found = cond (starts result_word (words l.text)) (result_of (others (words l.text))) None in
    let d = declared-ok tensors l.number found t e in
    let fits = result-fits (others (words l.text)) t (option-if (starts result_word (words l.text)) _ _ d.is) d.dims in
    and_from _ _ h.each (and_from _ _ fits (and_from _ _ h.apart (not_from_false _ d.new)))

pub declarations-fit : (past : ℕ) (tensors : List Tensor) (ls : List NumberedLine) (found : (List Tensor × (Tensor × ℕ)) × List NumberedLine) → Declared tensors
    → declarations_in past tensors ls ≡ Ok found → declarations_fit found.0.0 found.0.1.0 ≡ true
declarations-fit past tensors [] found h e = absurd (no_refusal _ _ found refl e)
declarations-fit past tensors (l ∷ ls) found h e = elim (if-ok (starts tensor_word (words l.text)) _ _ found e) [
  | inl k ↦
      let a = then-ok (declared tensors l.number (tensor_of (others (words l.text)))) (λ t. declarations_in past (tensors ++ t ∷ []) ls) found k.1 in
      let d = declared-ok tensors l.number (tensor_of (others (words l.text))) a.value a.was in
      declarations-fit past (tensors ++ a.value ∷ []) ls found (push-declared tensors a.value h (tensor-fits (others (words l.text)) a.value d.is d.dims) d.new) a.next
  | inr k ↦
      let a = then-ok (result_declared tensors l) (λ result. Ok ((tensors, (result, l.number)), ls)) found k.1 in
      let same : ((tensors, (a.value, l.number)), ls) ≡ found = ok-same ((tensors, (a.value, l.number)), ls) found a.next in
      let F : (List Tensor × (Tensor × ℕ)) × List NumberedLine → Type 0 = λ x. declarations_fit x.0.0 x.0.1.0 ≡ true in
      subst F same (result-ok tensors l a.value h a.was)
]

-- the parts of a group that is read
pub record IsGroup (past : ℕ) (r : Tensor × ℕ) (ls : List NumberedLine) (g : Group) : Type 0 where
  pub statement : (Statement × ℕ) × List NumberedLine
  pub loops : (List (List ℕ) × ℕ) × List NumberedLine
  pub statement_in : compute_in past ls ≡ Ok statement
  pub is : group_with r statement.0 loops.0 ≡ g

pub group-ok : (past : ℕ) (r : Tensor × ℕ) (ls : List NumberedLine) (found : Group × List NumberedLine) → group_in past r ls ≡ Ok found → IsGroup past r ls found.0
group-ok past r ls found e =
    let s = then-ok (compute_in past ls) (λ s. and_then (loops_in past s.1) (λ l. Ok (group_with r s.0 l.0, l.1))) found e in
    let l = then-ok (loops_in past s.value.1) (λ l. Ok (group_with r s.value.0 l.0, l.1)) found s.next in
    let same = ok-same (group_with r s.value.0 l.value.0, l.value.1) found l.next in
    record {
      statement = s.value;
      loops = l.value;
      statement_in = s.was;
      is = ap (λ (x : Group × List NumberedLine). x.0) same;
    }

pub group-result : (past : ℕ) (r : Tensor × ℕ) (ls : List NumberedLine) (g : Group) → IsGroup past r ls g → g.result ≡ r.0
group-result past r ls g k = ap (λ (x : Group). x.result) (sym k.is)

-- the parts of a file that is read
pub record IsRead (past : ℕ) (ls : List NumberedLine) (f : File) : Type 0 where
  pub declared : (List Tensor × (Tensor × ℕ)) × List NumberedLine
  pub group : Group × List NumberedLine
  pub declared_in : declarations_in past [] ls ≡ Ok declared
  pub grouped : group_in past declared.0.1 declared.1 ≡ Ok group
  pub is : file_with declared.0.0 [] group.0 ≡ f

pub parts-ok : (past : ℕ) (ls : List NumberedLine) (f : File) → parts_in past ls ≡ Ok f → IsRead past ls f
parts-ok past ls f e =
    let d = then-ok (declarations_in past [] ls) (λ d. and_then (group_in past d.0.1 d.1) (λ g. and_then (end_in g.1) (λ _. Ok (file_with d.0.0 [] g.0)))) f e in
    let g = then-ok (group_in past d.value.0.1 d.value.1) (λ g. and_then (end_in g.1) (λ _. Ok (file_with d.value.0.0 [] g.0))) f d.next in
    let n = then-ok (end_in g.value.1) (λ _. Ok (file_with d.value.0.0 [] g.value.0)) f g.next in
    record {
      declared = d.value;
      group = g.value;
      declared_in = d.was;
      grouped = g.was;
      is = ok-same (file_with d.value.0.0 [] g.value.0) f n.next;
    }

pub file-fits : (past : ℕ) (ls : List NumberedLine) (f : File) → IsRead past ls f → declarations_fit f.tensors f.result ≡ true
file-fits past ls f r =
    let F : File → Type 0 = λ g. declarations_fit g.tensors g.result ≡ true in
    let g = group-ok past r.declared.0.1 r.declared.1 r.group r.grouped in
    let D : Tensor → Type 0 = λ t. declarations_fit r.declared.0.0 t ≡ true in
    let same = group-result past r.declared.0.1 r.declared.1 r.group.0 g in
    subst F r.is (subst D (sym same) (declarations-fit past [] ls r.declared (record { each = refl; apart = refl }) r.declared_in))

pub unless-ok : {Y : Type 0} (line : ℕ) (o : Option ProgramKind) (x z : Y) → unless line o x ≡ Ok z → x ≡ z
unless-ok line None x z e = cc
unless-ok line (Some kind) x z e = absurd cc
