-- Worked cases: a source is placed, and then the sink to which it leads.
use Rattle.std.specs.Prelude.{◌≡◌, ◌<◌, ℕ, zero, suc, List, [], ◌∷◌, length, get_or, take, refl}
use Rattle.std.proofs.Common.{arith, subst, sym}
use Rattle.std.specs.List.{Contains}
use Rattle.graph.specs.declared.graphs.Kind.TheVariants.{Root, Drain}
use Rattle.graph.specs.declared.graphs.Graph.{Graph}
use Rattle.graph.specs.declared.order.Progress.{Progress}
use Rattle.graph.specs.declared.order.Progress.TheVariants.{WaitsAt, Placed}
use Rattle.graph.specs.Wiring.{block}
use Rattle.graph.specs.Placing.{sender, reached, BlockPlaced, IsPlacing, Later, AllWait}
use Rattle.graph.proofs.Vectors.{leads}

abbrev chain : Graph
chain = record {
  blocks = record { kind = Root; ins = []; outs = 0 ∷ [] } ∷ record { kind = Drain; ins = 0 ∷ []; outs = [] } ∷ [];
  channels = leads 0 0 1 0 ∷ [];
}

abbrev source_placed : List Progress
source_placed = Placed ∷ WaitsAt 0 ∷ []

abbrev both_placed : List Progress
both_placed = Placed ∷ Placed ∷ []

-- ---- the source alone is placed

one_blocks : (i : ℕ) → i < 1 → (get_or (0 ∷ []) i 0 < 2) × BlockPlaced source_placed (get_or (0 ∷ []) i 0)
one_blocks zero l = (omega arith, refl)
one_blocks (suc i) l = absurd (omega (arith, l))

one_whole : (b : ℕ) → b < 2 → BlockPlaced source_placed b → Contains (0 ∷ []) b
one_whole zero l h = (0, omega arith, refl)
one_whole (suc zero) l h = absurd (cc)
one_whole (suc (suc b)) l h = absurd (omega (arith, l))

one_after : (i p : ℕ) → i < 1 → p < length (block chain (get_or (0 ∷ []) i 0)).ins → Contains (take i (0 ∷ [])) (sender chain (get_or (0 ∷ []) i 0) p)
one_after zero p l m = absurd (omega (arith, m))
one_after (suc i) p l m = absurd (omega (arith, l))

-- the sink waits at its one port
one_waits : (b q : ℕ) → b < 2 → reached source_placed b ≡ WaitsAt q → (b ≡ 1) × (q ≡ 0)
one_waits zero q l h = absurd (cc)
one_waits (suc zero) q l h = (refl, cc)
one_waits (suc (suc b)) q l h = absurd (omega (arith, l))

one_wait : AllWait chain source_placed
one_wait b q l h =
    let at = one_waits b q l h in
    subst (λ (n : ℕ). q < length (block chain n).ins) (sym at.0) (omega (arith, at.1))

one_kept : IsPlacing chain (0 ∷ []) source_placed
one_kept = record {
  number = refl;
  counted = refl;
  blocks = one_blocks;
  whole = one_whole;
  after = one_after;
  past = λ b p q l m h. absurd (omega (arith, m, (one_waits b q l h).1));
  within = λ b q l h. let less = one_wait b q l h in omega (arith, less);
}

-- ---- the sink is placed after it

both_blocks : (i : ℕ) → i < 2 → (get_or (0 ∷ 1 ∷ []) i 0 < 2) × BlockPlaced both_placed (get_or (0 ∷ 1 ∷ []) i 0)
both_blocks zero l = (omega arith, refl)
both_blocks (suc zero) l = (omega arith, refl)
both_blocks (suc (suc i)) l = absurd (omega (arith, l))

both_whole : (b : ℕ) → b < 2 → Contains (0 ∷ 1 ∷ []) b
both_whole zero l = (0, omega arith, refl)
both_whole (suc zero) l = (1, omega arith, refl)
both_whole (suc (suc b)) l = absurd (omega (arith, l))

both_after : (i p : ℕ) → i < 2 → p < length (block chain (get_or (0 ∷ 1 ∷ []) i 0)).ins
    → Contains (take i (0 ∷ 1 ∷ [])) (sender chain (get_or (0 ∷ 1 ∷ []) i 0) p)
both_after zero p l m = absurd (omega (arith, m))
both_after (suc zero) zero l m = (0, omega arith, refl)
both_after (suc zero) (suc p) l m = absurd (omega (arith, m))
both_after (suc (suc i)) p l m = absurd (omega (arith, l))

none_waits : (b q : ℕ) → b < 2 → reached both_placed b ≡ WaitsAt q → ⊥
none_waits zero q l h = absurd (cc)
none_waits (suc zero) q l h = absurd (cc)
none_waits (suc (suc b)) q l h = absurd (omega (arith, l))

both_kept : IsPlacing chain (0 ∷ 1 ∷ []) both_placed
both_kept = record {
  number = refl;
  counted = refl;
  blocks = both_blocks;
  whole = λ b l h. both_whole b l;
  after = both_after;
  past = λ b p q l m h. absurd (none_waits b q l h);
  within = λ b q l h. absurd (none_waits b q l h);
}

same_front : (i : ℕ) → i < 1 → ◌≡◌ {A = ℕ} (get_or (0 ∷ 1 ∷ []) i 0) (get_or (0 ∷ []) i 0)
same_front zero l = refl
same_front (suc i) l = absurd (omega (arith, l))

stays : (b : ℕ) → BlockPlaced source_placed b → BlockPlaced both_placed b
stays zero h = refl
stays (suc zero) h = refl
stays (suc (suc b)) h = absurd (cc)

next : Later chain (0 ∷ []) source_placed (0 ∷ 1 ∷ []) both_placed
next = record {
  longer = omega arith;
  front = same_front;
  stay = stays;
  waits = λ b q l h. absurd (none_waits b q l h);
}
