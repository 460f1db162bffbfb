-- The tables of ports, and the queues before the first event.
use Rattle.std.specs.Prelude.{◌≡◌, ◌<◌, ℕ, ◌+◌, ◌-◌, ◌^◌, min, List, [], ◌∷◌, ◌++◌, length, slice_get, get_or, Option}
use Rattle.std.specs.Prelude.{Some, None}
use Rattle.std.proofs.Common.{arith, sym, ◌∙◌, ap, subst, inl, inr, length-append}
use Rattle.std.proofs.lemmas.Bool.{cases_lt}
use Rattle.std.proofs.lemmas.List.{get_or_append_left, get_or-append-add}
use Rattle.sam_model.specs.Children.{Ranked}
use Rattle.block_core.specs.declared.BlockStep.{Ghosts}
use Rattle.graph.specs.declared.graphs.Graph.{Graph}
use Rattle.graph.specs.Wiring.{WellFormed}
use Rattle.graph.specs.WholeStreams.{Consistent}
use Rattle.graph.specs.Standing.{StandAt, start_position}
use Rattle.plays.specs.Net.{Waits, start}
use Rattle.plays.proofs.Waiting.{waits_start}
use Rattle.plays.proofs.Sums.{sum_zero}
use Rattle.plays.proofs.Always.{start_kept}
use Rattle.plays.specs.Held.{Table, Queued, Held}
use Rattle.stepper.specs.NetOf.{net_of, rooms_of}
use Rattle.stepper.specs.AtState.{PortsListed, Routed, AtState}

-- a block more
pub lists_more : (t u : Table) (n : ℕ) (row : ℕ → List ℕ) (cs : List ℕ) → PortsListed t n row → cs ≡ row n
    → u.first ≡ t.first ++ length t.channels ∷ [] → u.channels ≡ t.channels ++ cs → PortsListed u (n + 1) row
lists_more t u n row cs h e first channels =
    let old : (b : ℕ) → b < n → get_or u.first b 0 ≡ get_or t.first b 0 =
    λ b l. ap (λ (z : List ℕ). get_or z b 0) first ∙ get_or_append_left t.first (length t.channels ∷ []) 0 b (omega (arith, l, h.blocks)) in
    let new : get_or u.first n 0 ≡ length t.channels =
    ap (λ (z : List ℕ). get_or z n 0) first
    ∙ ap (λ k. get_or (t.first ++ length t.channels ∷ []) k 0) (let b = h.blocks in omega (arith, b))
    ∙ get_or-append-add t.first (length t.channels ∷ []) 0 0 in
    let long : length u.channels ≡ length t.channels + length cs = ap (λ (z : List ℕ). length z) channels ∙ length-append t.channels cs in
    record {
      blocks = let l = ap (λ (z : List ℕ). length z) first in let k = length-append t.first (length t.channels ∷ []) in omega (arith, l, k, h.blocks);
      within = λ b p l k. elim (cases_lt b n) [
        | inl below ↦ let w = h.within b p below k in let o = old b below in omega (arith, w, o, long)
        | inr past ↦
            let at : b ≡ n = omega (arith, l, past) in
            let r : p < length cs = subst (λ (z : List ℕ). p < length z) (ap row at ∙ sym e) k in
            let m : get_or u.first b 0 ≡ length t.channels = ap (λ x. get_or u.first x 0) at ∙ new in
            omega (arith, r, m, long)
      ];
      same = λ b p l k. elim (cases_lt b n) [
        | inl below ↦
            let w = h.within b p below k in
            ap (λ x. get_or u.channels (x + p) 0) (old b below)
            ∙ ap (λ (z : List ℕ). get_or z (get_or t.first b 0 + p) 0) channels
            ∙ get_or_append_left t.channels cs 0 (get_or t.first b 0 + p) w
            ∙ h.same b p below k
        | inr past ↦
            let at : b ≡ n = omega (arith, l, past) in
            let m : get_or u.first b 0 ≡ length t.channels = ap (λ x. get_or u.first x 0) at ∙ new in
            ap (λ x. get_or u.channels (x + p) 0) m
            ∙ ap (λ (z : List ℕ). get_or z (length t.channels + p) 0) channels
            ∙ get_or-append-add t.channels cs p 0
            ∙ ap (λ (z : List ℕ). get_or z p 0) (e ∙ ap row (sym at))
      ];
    }

-- a machine whose queues are empty stands at the start
pub starts_at : {B : Type 0} (step : Ghosts B) (storages : List Ranked) (g : Graph) (caps : List (Option ℕ)) (m : Held B)
    → WellFormed g → Consistent storages g → StandAt step.kind step.stands storages g start_position m.blocks
    → length caps ≡ length g.channels → length m.queues ≡ length caps
    → ((c : ℕ) (q : Queued) → slice_get m.queues c ≡ Some q → (q.tokens ≡ []) × (q.room ≡ get_or caps c None))
    → m.moves ≡ 0 → Routed g m.routes → AtState step storages g caps start m
starts_at step storages g caps m w k own number queues empty none routed =
    let zero = sum_zero (length g.blocks) in
    record {
      well_formed = w;
      consistent = k;
      standing = own;
      kept = start_kept (net_of storages g) (rooms_of caps);
      queues_number = queues ∙ number;
      queues = λ c q at.
          let e = empty c q at in
          (e.1, subst (Waits (net_of storages g) start c) (sym e.0) (waits_start (net_of storages g) c));
      counted = none ∙ sym (ap (λ n. min n (2 ^ 64 - 1)) zero);
      routed = routed;
    }
