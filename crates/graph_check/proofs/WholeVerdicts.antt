-- A graph has one verdict, and that of a lowered graph is yes.
use Rattle.std.proofs.Common.{◌≡◌, ◌∙◌, ℕ, zero, suc, ◌<◌, ◌≤◌, Bool, true, false, ap, ap₂, refl, sym, subst, arith, ltb}
use Rattle.std.proofs.lemmas.Bool.Decides.{nat_tests}
use Rattle.std.specs.Prelude.{Option, Some, None}
use Rattle.sam_base.specs.declared.faults.Rule.TheVariants as rule
use Rattle.sam_model.specs.declared.program.Program.{Program}
use Rattle.sam_model.specs.Program.{accepted}
use Rattle.graph.specs.declared.graphs.Graph.{Graph}
use Rattle.graph.specs.Wiring.{WellFormed, channel}
use Rattle.custard_lower.specs.Lowering.{program_draft}
use Rattle.custard_lower.specs.Lowered.{Computes, low}
use Rattle.custard_lower.proofs.draft.SmallGraphs.{small-blocks, small-channels}
use Rattle.custard_lower.proofs.join.SmallDraft.{small-draft}
use Rattle.custard_lower.proofs.written.LowGraph.{low-lowered}
use Rattle.graph_wiring.specs.declared.faults.WiringFault.{WiringFault}
use Rattle.graph_wiring.specs.declared.faults.WiringFault.TheVariants as wiring
use Rattle.graph_wiring.specs.Faults.{AllBlocksFit, AllChannelsFit, IsWiringFault}
use Rattle.graph_wiring.specs.Leading.{LeadsBy, OnCycle}
use Rattle.graph_check.specs.declared.verdict.Verdict.{Verdict}
use Rattle.graph_check.specs.declared.verdict.Verdict.TheVariants.{Yes, No}
use Rattle.graph_check.specs.Faults.{writers_fault, labels_fault}
use Rattle.graph_check.specs.Laws.{Fulfils}
use Rattle.graph_check.specs.Verdicts.{IsFormedVerdict, IsVerdict, IsVerdictBehind}
use Rattle.graph_check.proofs.LowerMeets.{lowered-meets}

-- ---- the first place

-- two first places at which something fails are one
first-alike : (Holds : ℕ → Type 0) (a b : ℕ) → (Holds a → ⊥) → ((i : ℕ) → i < a → Holds i) → (Holds b → ⊥) → ((i : ℕ) → i < b → Holds i) → a ≡ b
first-alike Holds a b fails before fails_too before_too = by_case (ltb a b) (ltb b a) refl refl
  where
    by_case : (less more : Bool) → ltb a b ≡ less → ltb b a ≡ more → a ≡ b
    by_case true more l m = absurd (fails (before_too a (grind (arith, nat_tests, l))))
    by_case false true l m = absurd (fails_too (before b (grind (arith, nat_tests, m))))
    by_case false false l m = grind (arith, nat_tests, l, m)

-- ---- a well formed graph breaks no rule on its wiring

module _ (g : Graph) (formed : WellFormed g) where
  rises-along : (n a b : ℕ) → LeadsBy g n a b → formed.forwards.0 a ≤ formed.forwards.0 b
  rises-along zero a b same = rw same (omega arith)
  rises-along (suc n) a b (c, inside, from, rest) =
      let here = formed.forwards.1 c inside in
      let more = rises-along n (channel g c).to_block b rest in
      let start = ap formed.forwards.0 from in
      omega (arith, here, more, start)

  no-cycle : (b : ℕ) → OnCycle g b → ⊥
  no-cycle b (n, (c, inside, from, rest)) =
      let here = formed.forwards.1 c inside in
      let more = rises-along n (channel g c).to_block b rest in
      let start = ap formed.forwards.0 from in
      omega (arith, here, more, start)

  blocks-fit : AllBlocksFit g
  blocks-fit b inside = record {
    ins_number = formed.ins_number b inside;
    outs_number = formed.outs_number b inside;
    in_named = λ p there. formed.in_named b p inside there;
    out_named = λ p there. formed.out_named b p inside there;
  }

  channels-fit : AllChannelsFit g
  channels-fit c inside = record { received = formed.received c inside; came = formed.came c inside }

  pub formed-is-wired : IsWiringFault g None
  formed-is-wired = (blocks-fit, channels-fit, no-cycle)

-- ---- one fault of the wiring

module _ (g : Graph) where
  pub one-wiring-fault : (a b : Option WiringFault) → IsWiringFault g a → IsWiringFault g b → a ≡ b
  one-wiring-fault None None h k = refl
  one-wiring-fault None (Some (wiring.Ports b)) h (inside, fails, before) = absurd (fails (h.0 b inside))
  one-wiring-fault None (Some (wiring.Stray c)) h (blocks, (inside, fails, before)) = absurd (fails (h.1 c inside))
  one-wiring-fault None (Some (wiring.Cycle b)) h (blocks, channels, (inside, on, before)) = absurd (h.2 b on)
  one-wiring-fault (Some (wiring.Ports b)) None (inside, fails, before) k = absurd (fails (k.0 b inside))
  one-wiring-fault (Some (wiring.Stray c)) None (blocks, (inside, fails, before)) k = absurd (fails (k.1 c inside))
  one-wiring-fault (Some (wiring.Cycle b)) None (blocks, channels, (inside, on, before)) k = absurd (k.2 b on)
  one-wiring-fault (Some (wiring.Ports a)) (Some (wiring.Ports b)) (inside, fails, before) (there, fails_too, before_too) =
      ap (λ n. Some (wiring.Ports n)) (first-alike _ a b fails before fails_too before_too)
  one-wiring-fault (Some (wiring.Ports a)) (Some (wiring.Stray c)) (inside, fails, before) k = absurd (fails (k.0 a inside))
  one-wiring-fault (Some (wiring.Ports a)) (Some (wiring.Cycle b)) (inside, fails, before) k = absurd (fails (k.0 a inside))
  one-wiring-fault (Some (wiring.Stray c)) (Some (wiring.Ports b)) h (inside, fails, before) = absurd (fails (h.0 b inside))
  one-wiring-fault (Some (wiring.Cycle a)) (Some (wiring.Ports b)) h (inside, fails, before) = absurd (fails (h.0 b inside))
  one-wiring-fault (Some (wiring.Stray a)) (Some (wiring.Stray b)) (blocks, (inside, fails, before)) (blocks_too, (there, fails_too, before_too)) =
      ap (λ n. Some (wiring.Stray n)) (first-alike _ a b fails before fails_too before_too)
  one-wiring-fault (Some (wiring.Stray c)) (Some (wiring.Cycle b)) (blocks, (inside, fails, before)) k = absurd (fails (k.1 c inside))
  one-wiring-fault (Some (wiring.Cycle b)) (Some (wiring.Stray c)) h (blocks, (inside, fails, before)) = absurd (fails (h.1 c inside))
  one-wiring-fault (Some (wiring.Cycle a)) (Some (wiring.Cycle b)) (blocks, channels, (inside, on, before)) (blocks_too, channels_too, (there, on_too, before_too)) =
      ap (λ n. Some (wiring.Cycle n)) (first-alike (λ i. OnCycle g i → ⊥) a b (λ none. none on) before (λ none. none on_too) before_too)

-- ---- one verdict

-- the verdict by two rules, of which the first comes first
abbrev formed_by : Option ℕ → Option ℕ → Verdict
formed_by None None = Yes
formed_by None (Some at) = No rule.Labels at
formed_by (Some at) labels = No rule.Writers at

module _ (p : Program) (g : Graph) where
  formed-is : (verdict : Verdict) → IsFormedVerdict p g verdict → verdict ≡ formed_by (writers_fault p g) (labels_fault p g)
  formed-is Yes (writers, labels) = sym (ap₂ formed_by writers labels)
  formed-is (No rule.Writers at) writers = sym (ap (λ fault. formed_by fault (labels_fault p g)) writers)
  formed-is (No rule.Labels at) (writers, labels) = sym (ap₂ formed_by writers labels)
  formed-is (No rule.Ports at) none = absurd none
  formed-is (No rule.Stray at) none = absurd none
  formed-is (No rule.Cycle at) none = absurd none

  one-behind : (fault : Option WiringFault) (v w : Verdict) → IsVerdictBehind p g fault v → IsVerdictBehind p g fault w → v ≡ w
  one-behind None v w h k = formed-is v h ∙ sym (formed-is w k)
  one-behind (Some fault) v w h k = h ∙ sym k

  pub one-verdict : (v w : Verdict) → IsVerdict p g v → IsVerdict p g w → v ≡ w
  one-verdict v w (a, wired, h) (b, wired_too, k) =
      one-behind b v w (subst (λ fault. IsVerdictBehind p g fault v) (one-wiring-fault g a b wired wired_too) h) k

-- ---- of a lowered graph

module _ (p : Program) (ok : accepted p ≡ true) where
  low-computes : Computes p (low p)
  low-computes =
      let small = small-draft p ok in
      (low-lowered p ok (low p) refl (small-blocks (program_draft p) small) (small-channels (program_draft p) small)).computes

  pub lowered-fulfils : Fulfils p (low p)
  lowered-fulfils = record { formed = low-computes.formed; carries = low-computes.carries }

  -- its wiring breaks no rule
  pub lowered-is-wired : (g : Graph) (fault : WiringFault) → IsWiringFault g (Some fault) → g ≡ low p → ⊥
  lowered-is-wired g fault wired same =
      let none : None ≡ Some fault =
      one-wiring-fault (low p) None (Some fault) (formed-is-wired (low p) low-computes.formed) (subst (λ g. IsWiringFault g (Some fault)) same wired) in
      cc

  pub lowered-verdict : IsVerdict p (low p) Yes
  lowered-verdict = (None, formed-is-wired (low p) low-computes.formed, lowered-meets p ok)
