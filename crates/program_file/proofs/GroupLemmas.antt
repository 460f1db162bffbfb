-- What is known of the groups of a program file that is read.
use Rattle.std.proofs.Common.{◌≡◌, ℕ, zero, suc, ◌+◌, ◌-◌, ◌<◌, ◌≤◌, List, [], ◌∷◌, ◌++◌, length, Bool, true, false, cond, Result, Ok, refl, sym, ap, subst, ◌∙◌, arith, inl, inr, eqb}
use Rattle.std.proofs.Common.{length-append}
use Rattle.std.specs.Str.{bytes_eq}
use Rattle.std.proofs.lemmas.Bool.{and_parts, and_from, or_parts, not-true, le-leb}
use Rattle.sam_text.specs.Counted.{NumberedLine}
use Rattle.sam_model.specs.declared.tensors.Tensor.{Tensor}
use Rattle.sam_model.specs.Accepted.{is_well_formed, is_taken, declarations_fit}
use Rattle.sam_model.specs.Chains.{and_result}
use Rattle.program_file.specs.declared.files.Group.{Group}
use Rattle.program_file.specs.declared.groups.ChainFile.{ChainFile}
use Rattle.program_file.specs.declared.faults.ProgramFault.{ProgramFault}
use Rattle.program_file.specs.declared.faults.ProgramFault.TheVariants.{OutOfMemory, Refused}
use Rattle.program_file.specs.Refusals.{ProgramRefusal, and_then, FailsProgram}
use Rattle.program_file.specs.Files.{result_declared, declarations_in, group_in}
use Rattle.program_file.specs.Chains.{is_result, later_result, later_group, last_in, groups_in, chain_parts_in}
use Rattle.program_file.proofs.DeclaredLemmas.{then-ok, if-ok, read_as, ok-same, no_refusal, Declared, push-declared, taken-push, result-ok, IsGroup}
use Rattle.program_file.proofs.DeclaredLemmas.{group-ok, group-result}
use Rattle.program_file.proofs.FileLemmas.{group-tops}

-- a group may stand behind these tensors
pub record GroupFits (tensors : List Tensor) (g : Group) : Type 0 where
  pub formed : is_well_formed g.result ≡ true
  pub new : is_taken g.result.name tensors ≡ false
  pub tops : 0 < length g.statement.tops

-- each group may stand behind the tensors and the results before it
abbrev pub GroupsFit : List Tensor → List Group → Type 0
GroupsFit tensors [] = Unit {0}
GroupsFit tensors (g ∷ groups) = GroupFits tensors g × GroupsFit (and_result g.result tensors g.result) groups

-- ---- tensors with one more result

taken-if : (b : Bool) (name : List ℕ) (ts : List Tensor) (t : Tensor) → is_taken name ts ≡ false → bytes_eq name t.name ≡ false → is_taken name (cond b ts (ts ++ t ∷ [])) ≡ false
taken-if true name ts t h k = h
taken-if false name ts t h k = taken-push name ts t h k

taken-behind : (name : List ℕ) (ts : List Tensor) (t : Tensor) → is_taken name ts ≡ false → bytes_eq name t.name ≡ false → is_taken name (and_result t ts t) ≡ false
taken-behind name ts t h k = taken-if (eqb (length t.dims) 0) name ts t h k

some-if : (n : ℕ) → eqb n 0 ≡ false → 1 ≤ n
some-if zero e = absurd cc
some-if (suc n) e = omega arith

declared-if : (b : Bool) (ts : List Tensor) (g : Group) → eqb (length g.result.dims) 0 ≡ b → Declared ts → GroupFits ts g → Declared (cond b ts (ts ++ g.result ∷ []))
declared-if true ts g e d h = d
declared-if false ts g e d h = push-declared ts g.result d (and_from _ _ (le-leb 1 (length g.result.dims) (some-if (length g.result.dims) e)) h.formed) h.new

-- they still fit together with that of a group
pub declared-behind : (ts : List Tensor) (g : Group) → Declared ts → GroupFits ts g → Declared (and_result g.result ts g.result)
declared-behind ts g d h = declared-if (eqb (length g.result.dims) 0) ts g refl d h

length-if : (b : Bool) (ts : List Tensor) (t : Tensor) → length (cond b ts (ts ++ t ∷ [])) ≤ length ts + 1
length-if true ts t = omega arith
length-if false ts t = omega (arith, length-append ts (t ∷ []))

pub length-behind : (ts : List Tensor) (t : Tensor) → length (and_result t ts t) ≤ length ts + 1
length-behind ts t = length-if (eqb (length t.dims) 0) ts t

-- ---- groups

push-fits : (ts : List Tensor) (groups : List Group) (g : Group) → GroupsFit ts groups → GroupFits ts g → is_result g.result.name groups ≡ false → GroupsFit ts (groups ++ g ∷ [])
push-fits ts [] g h k new = (k, tt)
push-fits ts (x ∷ xs) g h k new =
    let p = or_parts _ _ new in
    let more : GroupFits (and_result x.result ts x.result) g = record { formed = k.formed; new = taken-behind g.result.name ts x.result k.new p.0; tops = k.tops } in
    (h.0, push-fits (and_result x.result ts x.result) xs g h.1 more p.1)

-- what fits as declarations
pub declared-from : (ts : List Tensor) (t : Tensor) → declarations_fit ts t ≡ true → Declared ts
declared-from ts t h =
    let p = and_parts _ _ h in
    let q = and_parts _ _ p.1 in
    record { each = p.0; apart = (and_parts _ _ q.1).0 }

pub group-fits : (past : ℕ) (ts : List Tensor) (r : Tensor × ℕ) (ls : List NumberedLine) (g : Group) → declarations_fit ts r.0 ≡ true → IsGroup past r ls g → GroupFits ts g
group-fits past ts r ls g h k =
    let p = and_parts _ _ (and_parts _ _ h).1 in
    let same : r.0 ≡ g.result = sym (group-result past r ls g k) in
    record {
      formed = subst (λ t. is_well_formed t ≡ true) same p.0;
      new = subst (λ (t : Tensor). is_taken t.name ts ≡ false) same (not-true _ (and_parts _ _ p.1).1);
      tops = group-tops past r ls g k;
    }

record IsLater (ts : List Tensor) (groups : List Group) (l : NumberedLine) (t : Tensor) : Type 0 where
  was : result_declared ts l ≡ Ok t
  new : is_result t.name groups ≡ false

later-ok : (ts : List Tensor) (groups : List Group) (l : NumberedLine) (t : Tensor) → later_result ts groups l ≡ Ok t → IsLater ts groups l t
later-ok ts groups l t e =
    let a = then-ok (result_declared ts l) _ t e in
    elim (if-ok (is_result a.value.name groups) _ _ t a.next) [
      | inl h ↦ absurd (no_refusal _ _ t refl h.1)
      | inr h ↦
          let same : a.value ≡ t = ok-same a.value t h.1 in
          record { was = subst (λ x. result_declared ts l ≡ Ok x) same a.was; new = subst (λ (x : Tensor). is_result x.name groups ≡ false) same h.0 }
    ]

-- what is read of one more group
record IsMore (past : ℕ) (ts : List Tensor) (room : ℕ) (groups : List Group) (l : NumberedLine) (ls : List NumberedLine) (found : List Group) : Type 0 where
  result : Tensor
  group : Group × List NumberedLine
  later : IsLater ts groups l result
  is : IsGroup past (result, l.number) ls group.0
  rest : groups_in past ts room (groups ++ group.0 ∷ []) group.1 ≡ Ok found

more-ok : (past : ℕ) (ts : List Tensor) (room : ℕ) (groups : List Group) (l : NumberedLine) (ls : List NumberedLine) (found : List Group) → groups_in past ts (suc room) groups (l ∷ ls) ≡ Ok found → IsMore past ts room groups l ls found
more-ok past ts room groups l ls found e =
    let b = then-ok (later_group past ts groups l ls) (λ g. groups_in past ts room (groups ++ g.0 ∷ []) g.1) found e in
    let a = then-ok (later_result ts groups l) (λ t. group_in past (t, l.number) ls) b.value b.was in
    record {
      result = a.value;
      group = b.value;
      later = later-ok ts groups l a.value a.was;
      is = group-ok past (a.value, l.number) ls b.value a.next;
      rest = b.next;
    }

-- the groups that are read may stand one behind another
pub groups-fit : (past : ℕ) (ts : List Tensor) (room : ℕ) (groups : List Group) (ls : List NumberedLine) (found : List Group) → Declared ts → GroupsFit ts groups → groups_in past ts room groups ls ≡ Ok found → GroupsFit ts found
groups-fit past ts zero groups ls found d h e =
    let a = then-ok (last_in ls) (λ _. Ok groups) found e in
    subst (λ gs. GroupsFit ts gs) (ok-same groups found a.next) h
groups-fit past ts (suc room) groups [] found d h e = subst (λ gs. GroupsFit ts gs) (ok-same groups found e) h
groups-fit past ts (suc room) groups (l ∷ ls) found d h e =
    let m = more-ok past ts room groups l ls found e in
    let fit = group-fits past ts (m.result, l.number) ls m.group.0 (result-ok ts l m.result d m.later.was) m.is in
    let same = sym (group-result past (m.result, l.number) ls m.group.0 m.is) in
    let new = subst (λ (t : Tensor). is_result t.name groups ≡ false) same m.later.new in
    groups-fit past ts room (groups ++ m.group.0 ∷ []) m.group.1 found d (push-fits ts groups m.group.0 h fit new) m.rest

-- the first of them stays the first
pub groups-first :
    (past : ℕ) (ts : List Tensor) (room : ℕ) (g : Group) (groups : List Group) (ls : List NumberedLine) (found : List Group) →
    groups_in past ts room (g ∷ groups) ls ≡ Ok found → (more : List Group) × (g ∷ more ≡ found)
groups-first past ts zero g groups ls found e =
    (groups, ok-same (g ∷ groups) found (then-ok (last_in ls) (λ _. Ok (g ∷ groups)) found e).next)
groups-first past ts (suc room) g groups [] found e = (groups, ok-same (g ∷ groups) found e)
groups-first past ts (suc room) g groups (l ∷ ls) found e =
    let m = more-ok past ts room (g ∷ groups) l ls found e in
    groups-first past ts room g (groups ++ m.group.0 ∷ []) m.group.1 found m.rest

-- how many groups are read
pub groups-count : (past : ℕ) (ts : List Tensor) (room : ℕ) (groups : List Group) (ls : List NumberedLine) (found : List Group) → groups_in past ts room groups ls ≡ Ok found
    → (length groups ≤ length found) × (length found ≤ length groups + room)
groups-count past ts zero groups ls found e =
    let a = then-ok (last_in ls) (λ _. Ok groups) found e in
    let same : length groups ≡ length found = ap (λ (gs : List Group). length gs) (ok-same groups found a.next) in
    (omega (arith, same), omega (arith, same))
groups-count past ts (suc room) groups [] found e =
    let same : length groups ≡ length found = ap (λ (gs : List Group). length gs) (ok-same groups found e) in
    (omega (arith, same), omega (arith, same))
groups-count past ts (suc room) groups (l ∷ ls) found e =
    let m = more-ok past ts room groups l ls found e in
    let h = groups-count past ts room (groups ++ m.group.0 ∷ []) m.group.1 found m.rest in
    let more = length-append groups (m.group.0 ∷ []) in
    (omega (arith, h.0, more), omega (arith, h.1, more))

-- ---- files

-- the parts of a file of several statements that is read
pub record IsChainRead (past : ℕ) (ls : List NumberedLine) (f : ChainFile) : Type 0 where
  pub declared : (List Tensor × (Tensor × ℕ)) × List NumberedLine
  pub group : Group × List NumberedLine
  pub declared_in : declarations_in past [] ls ≡ Ok declared
  pub grouped : group_in past declared.0.1 declared.1 ≡ Ok group
  pub groups : groups_in past declared.0.0 7 (group.0 ∷ []) group.1 ≡ Ok f.groups
  pub tensors : declared.0.0 ≡ f.tensors

abbrev chain_file : List Tensor → List Group → ChainFile
chain_file tensors groups = record { tensors = tensors; groups = groups }

abbrev and_groups : ℕ → List Tensor → Group × List NumberedLine → Result ChainFile ProgramRefusal
and_groups past ts g = and_then (groups_in past ts 7 (g.0 ∷ []) g.1) (λ groups. Ok (chain_file ts groups))

pub chain_parts-ok : (past : ℕ) (ls : List NumberedLine) (f : ChainFile) → chain_parts_in past ls ≡ Ok f → IsChainRead past ls f
chain_parts-ok past ls f e =
    let d = then-ok (declarations_in past [] ls) (λ d. and_then (group_in past d.0.1 d.1) (and_groups past d.0.0)) f e in
    let ts = d.value.0.0 in
    let g = then-ok (group_in past d.value.0.1 d.value.1) (and_groups past ts) f d.next in
    let r = then-ok (groups_in past ts 7 (g.value.0 ∷ []) g.value.1) (λ groups. Ok (chain_file ts groups)) f g.next in
    let is = ok-same (chain_file ts r.value) f r.next in
    record {
      declared = d.value;
      group = g.value;
      declared_in = d.was;
      grouped = g.was;
      groups = r.was ∙ ap (λ (x : ChainFile). read_as x.groups) is;
      tensors = ap (λ (x : ChainFile). x.tensors) is;
    }

-- ---- what is read

-- where more groups may follow and a line is left, it begins a group
pub groups-more : (past : ℕ) (ts : List Tensor) (room : ℕ) (groups : List Group) (left : List NumberedLine) (l : NumberedLine) (ls : List NumberedLine) → eqb room 0 ≡ false → left ≡ l ∷ ls
    → groups_in past ts room groups left ≡ and_then (later_group past ts groups l ls) (λ g. groups_in past ts (room - 1) (groups ++ g.0 ∷ []) g.1)
groups-more past ts zero groups left l ls some e = absurd cc
groups-more past ts (suc room) groups left l ls some e =
    let one : suc room - 1 ≡ room = omega arith in
    ap (λ ks. groups_in past ts (suc room) groups ks) e
    ∙ ap (λ n. and_then (later_group past ts groups l ls) (λ g. groups_in past ts n (groups ++ g.0 ∷ []) g.1)) (sym one)

-- what is refused stays refused whatever was to follow
pub fails-then : {Y Z : Type 0} (f : ProgramFault) (r : Result Y ProgramRefusal) (next : Y → Result Z ProgramRefusal) → FailsProgram f r → FailsProgram f (and_then r next)
fails-then OutOfMemory r next h = tt
fails-then (Refused kind line) r next h = ap (λ q. and_then q next) h

-- the first group and those behind it make the file
pub parts-made :
    (past : ℕ) (ls : List NumberedLine) (d : (List Tensor × (Tensor × ℕ)) × List NumberedLine) (g : Group × List NumberedLine) →
    declarations_in past [] ls ≡ Ok d → group_in past d.0.1 d.1 ≡ Ok g → chain_parts_in past ls ≡ and_groups past d.0.0 g
parts-made past ls d g e h =
    ap (λ r. and_then r (λ d. and_then (group_in past d.0.1 d.1) (and_groups past d.0.0))) e
    ∙ ap (λ r. and_then r (and_groups past d.0.0)) h
