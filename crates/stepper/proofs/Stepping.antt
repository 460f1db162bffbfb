-- What a step answers.
use Rattle.std.specs.Prelude.{◌≡◌, ℕ, List, Bool, false, slice_get, Option, Some, None, Result, Ok, IsSome, refl}
use Rattle.std.proofs.Common.{arith, sym, ◌∙◌, ap, subst}
use Rattle.std.proofs.Math.Bool.{Bool-set}
use Rattle.std.proofs.Math.Logic.{∥∥₁_elim, ∥∥₁_map}
use Rattle.stream_tokens.specs.declared.Token.{Token}
use Rattle.sam_model.specs.Children.{Ranked}
use Rattle.block_core.specs.declared.BlockStep.{Ghosts}
use Rattle.block_core.specs.declared.Wish.TheVariants.{Take, Put}
use Rattle.block_core.specs.Move.{Move, Taking, Putting}
use Rattle.graph.specs.declared.graphs.Graph.{Graph}
use Rattle.graph.specs.Wiring.{out_of}
use Rattle.graph.specs.Standing.{block_moves}
use Rattle.plays.specs.Net.{State}
use Rattle.plays.specs.Held.{Queued, Held, at_port}
use Rattle.plays.proofs.Lists.{some_in}
use Rattle.stepper.specs.NetOf.{rooms_of}
use Rattle.stepper.specs.AtState.{AtState}
use Rattle.stepper.specs.Steps.{Wishes, IsInPlace, NeverRefuses, InPlaceSomewhere, MovesInPlace}
use Rattle.stepper.proofs.Wires.{move_within, put_port}
use Rattle.stepper.proofs.Moving.{take_facts, put_facts}
use Rattle.std.specs.declared.alloc.AllocError.{AllocError}
use Rattle.sam_base.specs.declared.faults.Waiting.{Waiting}
use Rattle.stepper.specs.declared.machine.finish.Ending.{Ending}
use Rattle.stepper.specs.declared.machine.finish.Ending.TheVariants.{Stalled}
use Rattle.stepper.specs.declared.machine.Stepped.{Stepped}
use Rattle.stepper.specs.declared.machine.Stepped.TheVariants.{Blocked}

pub same_blocked : (c d : ℕ) (e f : Bool) → ◌≡◌ {A = Result Stepped AllocError} (Ok (Blocked c e)) (Ok (Blocked d f)) → ◌≡◌ {A = Option (ℕ × Bool)} (Some (c, e)) (Some (d, f))
same_blocked c d e f h = let p : c ≡ d = cc in let q : e ≡ f = cc in cc

pub same_stalled : (xs ys : List Waiting) → ◌≡◌ {A = Result Ending AllocError} (Ok (Stalled xs)) (Ok (Stalled ys)) → ys ≡ xs
same_stalled xs ys h = cc

-- ---- a move that takes no memory

module _ {B : Type 0} (step : Ghosts B) (b : ℕ) (tap_may : Bool) (m : Held B) where
  pub take_sure : (p : ℕ) → Wishes step b (Take p) m → ∥ (InPlaceSomewhere step b tap_may m) ∥₁ → NeverRefuses step b m
  take_sure p wishes may x at = ∥∥₁_elim may (Bool-set _ _) (λ r.
      let f = take_facts step r.0 r.1 r.2 r.3 m r.4 b p wishes in
      subst (IsInPlace (rooms_of r.2) (out_of r.1 b) (NeverRefuses step b m) tap_may) f.1 r.5 x at)

  pub put_sure : (p : ℕ) (t : Token) → Wishes step b (Put p t) m → ∥ (InPlaceSomewhere step b tap_may m) ∥₁
      → (q : Queued) → slice_get m.queues (at_port m.routes.outs b p) ≡ Some q → IsSome q.room
  put_sure p t wishes may q at = ∥∥₁_elim may (Bool-set _ _) (λ r.
      let h = r.4 in
      let f = put_facts step r.0 r.1 r.2 r.3 m h b p t wishes in
      let limited = (subst (IsInPlace (rooms_of r.2) (out_of r.1 b) (NeverRefuses step b m) tap_may) f.0 r.5).0 in
      let room : q.room ≡ rooms_of r.2 (out_of r.1 b p) = (h.queues (at_port m.routes.outs b p) q at).0 ∙ ap (rooms_of r.2) f.3 in
      subst IsSome (sym room) limited)

  pub put_told : (p : ℕ) (t : Token) → Wishes step b (Put p t) m → ∥ (InPlaceSomewhere step b tap_may m) ∥₁ → tap_may ≡ false
  put_told p t wishes may = ∥∥₁_elim may (Bool-set _ _) (λ r.
      let f = put_facts step r.0 r.1 r.2 r.3 m r.4 b p t wishes in
      (subst (IsInPlace (rooms_of r.2) (out_of r.1 b) (NeverRefuses step b m) tap_may) f.0 r.5).1)

-- on limited channels, with a block and a tap that never want memory, every move is one
pub limited_in_place : {B : Type 0} (step : Ghosts B) (b : ℕ) (m : Held B) → NeverRefuses step b m
    → ((c : ℕ) (q : Queued) → slice_get m.queues c ≡ Some q → IsSome q.room) → MovesInPlace step b false m
limited_in_place step b m never limited sits = ∥∥₁_map sits (λ r.
    (r.0, r.1, r.2, r.3, r.4, each r.0 r.1 r.2 r.3 r.4 (slice_get (block_moves r.0 r.1 b) (r.3 b)) refl))
  where
    each : (storages : List Ranked) (g : Graph) (caps : List (Option ℕ)) (s : State) → AtState step storages g caps s m
        → (o : Option Move) → slice_get (block_moves storages g b) (s b) ≡ o → IsInPlace (rooms_of caps) (out_of g b) (NeverRefuses step b m) false o
    each storages g caps s h None e = tt
    each storages g caps s h (Some (Taking p t)) e = never
    each storages g caps s h (Some (Putting p t)) e =
        let l = move_within storages g b (s b) (Putting p t) e in
        let n = h.well_formed.out_named b p l (put_port storages g b (s b) p t h.well_formed h.consistent e) in
        let q = some_in m.queues (out_of g b p) (let i = n.0 in omega (arith, i, h.queues_number)) in
        (subst IsSome (h.queues (out_of g b p) q.0 q.1).0 (limited (out_of g b p) q.0 q.1), refl)
