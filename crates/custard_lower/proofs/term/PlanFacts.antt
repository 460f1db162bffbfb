-- What holds of the plan of each term of an accepted program.
use Rattle.std.specs.Prelude.{◌≡◌, ◌<◌, ◌≤◌, ℕ, true, false, Bool, List, [], ◌∷◌, ◌++◌, length}
use mathlib.Core.List.{map}
use Rattle.std.proofs.Common.{arith, sym, ◌∙◌, ap}
use Rattle.std.proofs.lemmas.List.{length-map}
use Rattle.sam_model.specs.declared.tensors.Tensor.{Tensor}
use Rattle.sam_model.specs.declared.tensors.Entries.{Entries}
use Rattle.sam_model.specs.declared.program.Program.{Program}
use Rattle.sam_model.specs.Program.{accepted}
use Rattle.sam_model.specs.Denote.{Loop}
use Rattle.stream_model.specs.Labels.{result_sizes, term_at}
use Rattle.label_rules.specs.declared.plans.Plan.{Plan}
use Rattle.label_rules.specs.Plans.{asked, left_marks, PlanIsSmall}
use Rattle.label_rules.specs.Storages.{storages_of}
use Rattle.label_rules.specs.TermLabels.{plan_at}
use Rattle.label_rules.proofs.term.Matching.{Matches}
use Rattle.label_rules.proofs.term.Marks.{left-marks}
use Rattle.label_rules.proofs.term.Asked.{asked-some}
use Rattle.label_rules.proofs.rules.TermRules.{matched}
use Rattle.label_rules.proofs.rules.DropRules.{as_many}
use Rattle.custard_lower.proofs.term.ReducedSound.{marks-counted}

-- no entries, and none for each tensor
abbrev pub empty : Tensor → Entries
empty t = record { arity = 0; coords = []; values = [] }

abbrev pub no_entries : List Tensor → List Entries
no_entries tensors = map empty tensors

pub none-given : (p : Program) → length (no_entries p.tensors) ≡ length p.tensors
none-given p = length-map p.tensors empty

-- a loop among the marks of loops
record Unmapped (ls : List Loop) (after : List Bool) : Type 0 where
  front : List Loop
  size : ℕ
  back : List Loop
  are : ls ≡ front ++ (size, false) ∷ back
  marks_are : map (λ (l : Loop). l.1) back ≡ after

unmapped : (ls : List Loop) (before after : List Bool) → map (λ (l : Loop). l.1) ls ≡ before ++ false ∷ after → Unmapped ls after
unmapped [] [] after e = absurd (cc)
unmapped [] (b ∷ before) after e = absurd (cc)
unmapped ((s, b) ∷ ls) [] after e =
    let first : b ≡ false = cc in
    let rest : map (λ (l : Loop). l.1) ls ≡ after = cc in
    record { front = []; size = s; back = ls; are = ap (λ (c : Bool). (s, c) ∷ ls) first; marks_are = rest }
unmapped ((s, b) ∷ ls) (c ∷ before) after e =
    let rest : map (λ (l : Loop). l.1) ls ≡ before ++ false ∷ after = cc in
    let x = unmapped ls before after rest in
    record { front = (s, b) ∷ x.front; size = x.size; back = x.back; are = ap (λ (xs : List Loop). (s, b) ∷ xs) x.are; marks_are = x.marks_are }

module _ (p : Program) (ok : accepted p ≡ true) (n : ℕ) (inside : n < length p.terms) where
  abbrev plan : Plan
  plan = plan_at p n

  m : Matches (storages_of p (no_entries p.tensors)) (term_at p (no_entries p.tensors) n) plan
  m = matched p (no_entries p.tensors) ok (none-given p) n inside

  loops_are : length plan.on_left ≡ length (term_at p (no_entries p.tensors) n).loops
  loops_are = ap length m.marks ∙ length-map (term_at p (no_entries p.tensors) n).loops (λ (l : Loop). l.1)

  pub is-small : PlanIsSmall plan
  is-small =
      let a = m.few_loops in
      let b = m.few_accesses in
      let c = m.number in
      record { loops = omega (arith, a, loops_are); accesses = omega (arith, b, c) }

  pub some-access : 0 < length plan.accesses
  some-access = let a = m.some_access in let b = m.number in omega (arith, a, b)

  pub some-loop : 0 < length plan.on_left
  some-loop = let a = m.some_loop in omega (arith, a, loops_are)

  -- each loop has an access
  pub loop-asked : (d : ℕ) → d < length plan.on_left → 0 < length (asked plan d)
  loop-asked d l =
      asked-some (storages_of p (no_entries p.tensors)) (term_at p (no_entries p.tensors) n) plan m d (omega (arith, l, loops_are))

  -- at most two loops of the left come after one that isn't
  pub few-after : (before after : List Bool) → plan.on_left ≡ before ++ false ∷ after → left_marks after ≤ 2
  few-after before after e =
      let x = unmapped (term_at p (no_entries p.tensors) n).loops before after (sym m.marks ∙ e) in
      let few = m.shallow x.front x.size x.back x.are in
      let same : left_marks after ≡ left_marks (map (λ (l : Loop). l.1) x.back) = ap left_marks (sym x.marks_are) in
      let count = left-marks x.back in
      omega (arith, few, same, count)

  -- as many are on the left as the result has levels
  pub levels-are : left_marks plan.on_left ≡ length (result_sizes p)
  levels-are =
      let a = as_many p (no_entries p.tensors) ok (none-given p) n inside in
      let b = marks-counted plan.on_left in
      omega (arith, a, b)
