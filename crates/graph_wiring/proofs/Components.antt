-- Which blocks have the same top.
use Rattle.std.specs.Prelude.{◌≡◌, ◌<◌, ◌≤◌, ◌-◌, ℕ, zero, suc, Option, List, length, get_or}
use Rattle.std.proofs.Common.{inl, inr, arith, ap, sym, subst, ◌∙◌}
use Rattle.std.proofs.lemmas.Bool.{cases_lt}
use Rattle.graph.specs.declared.graphs.Graph.{Graph}
use Rattle.graph.specs.Wiring.{block, channel, out_of, Rises}
use Rattle.graph.specs.Joined.{IsJoined}
use Rattle.graph_wiring.specs.Leading.{LeadsBy, Reaches, OnCycle}
use Rattle.graph_wiring.specs.Searching.{receiver, IsClosing}
use Rattle.graph_wiring.specs.Topping.{top, KeepsTop, IsTops}
use Rattle.graph_wiring.proofs.Reaching.{reaches-itself, reaches-on, receiver-of}

-- The top falls along ways.
top-falls : (g : Graph) (order : List ℕ) (tops : List (Option ℕ)) → IsTops g order tops
    → (n a b : ℕ) → LeadsBy g n a b → top tops b ≤ top tops a
top-falls g order tops t zero a b e = rw e (omega arith)
top-falls g order tops t (suc n) a b way =
    let here : top tops (channel g way.0).to_block ≤ top tops a = subst (λ (x : ℕ). top tops (channel g way.0).to_block ≤ top tops x) way.2 (t.falls way.0 way.1) in
    let on = top-falls g order tops t n (channel g way.0).to_block b way.3 in
    omega (arith, here, on)

-- The block at the top reaches all that stand from a block that it is the top of to its own place.
back : (g : Graph) (order : List ℕ) (tops : List (Option ℕ)) → IsJoined g → IsClosing g order → IsTops g order tops → (q : ℕ) → q < length order
    → (n i : ℕ) → i < length order → top tops (get_or order i 0) ≤ suc q → LeadsBy g n (get_or order i 0) (get_or order q 0)
    → (k : ℕ) → i ≤ k → k ≤ q → Reaches g (get_or order q 0) (get_or order k 0)
back g order tops joined o t q lq zero i li low e k lk kq =
    let same : i ≡ q = o.once i q li lq e in
    let at : q ≡ k = omega (arith, same, lk, kq) in
    subst (λ (x : ℕ). Reaches g (get_or order q 0) (get_or order x 0)) at (reaches-itself g (get_or order q 0))
back g order tops joined o t q lq (suc n) i li low way k lk kq =
    let c : ℕ = way.0 in
    let sent = (joined.channels c way.1).came in
    let received = (joined.channels c way.1).received in
    let there = o.whole (channel g c).to_block received.0 in
    let j : ℕ = there.0 in
    let falls : top tops (channel g c).to_block ≤ top tops (get_or order i 0) =
    subst (λ (x : ℕ). top tops (channel g c).to_block ≤ top tops x) way.2 (t.falls c way.1) in
    let above : j < top tops (channel g c).to_block = subst (λ (x : ℕ). j < top tops x) there.2 (t.above j there.1) in
    let jq : j ≤ q = omega (arith, falls, above, low) in
    let on : (k' : ℕ) → j ≤ k' → k' ≤ q → Reaches g (get_or order q 0) (get_or order k' 0) =
    back g order tops joined o t q lq n j there.1
    (subst (λ (x : ℕ). top tops x ≤ suc q) (sym there.2) (omega (arith, falls, low)))
    (subst (λ (x : ℕ). LeadsBy g n x (get_or order q 0)) (sym there.2) way.3) in
    elim (cases_lt k j) [
      | inl before ↦
          let r : receiver g (get_or order i 0) (channel g c).from_port ≡ (channel g c).to_block =
          subst (λ (x : ℕ). receiver g x (channel g c).from_port ≡ (channel g c).to_block) way.2 (receiver-of g c joined way.1) in
          let port : (channel g c).from_port < length (block g (get_or order i 0)).outs =
          subst (λ (x : ℕ). (channel g c).from_port < length (block g x).outs) way.2 sent.1 in
          elim (o.closes i (channel g c).from_port k li port lk (omega (arith, before, there.1))) [
            | inl among ↦ let twice : among.0 ≡ j = o.once among.0 j (omega (arith, among.1, before, there.1)) there.1 (among.2 ∙ r ∙ sym there.2) in
                absurd (omega (arith, twice, among.1, before))
            | inr reaches ↦ reaches-on g (get_or order q 0) (channel g c).to_block (get_or order k 0)
                (subst (λ (x : ℕ). Reaches g (get_or order q 0) x) there.2 (on j (omega arith) jq))
                (subst (λ (x : ℕ). Reaches g x (get_or order k 0)) r reaches)
          ]
      | inr past ↦ on k past kq
    ]

-- A block on a cycle keeps its top along the first channel of the cycle.
pub cycle-keeps : (g : Graph) (order : List ℕ) (tops : List (Option ℕ)) → IsJoined g → IsTops g order tops → (b : ℕ) → OnCycle g b → KeepsTop g tops b
cycle-keeps g order tops joined t b cycle =
    let way = cycle.1 in
    let c : ℕ = way.0 in
    let sent = (joined.channels c way.1).came in
    let r : receiver g b (channel g c).from_port ≡ (channel g c).to_block =
    subst (λ (x : ℕ). receiver g x (channel g c).from_port ≡ (channel g c).to_block) way.2 (receiver-of g c joined way.1) in
    let falls : top tops (channel g c).to_block ≤ top tops b =
    subst (λ (x : ℕ). top tops (channel g c).to_block ≤ top tops x) way.2 (t.falls c way.1) in
    let round : top tops b ≤ top tops (channel g c).to_block = top-falls g order tops t cycle.0 (channel g c).to_block b way.3 in
    let same : top tops (channel g c).to_block ≡ top tops b = omega (arith, falls, round) in
    ((channel g c).from_port, subst (λ (x : ℕ). (channel g c).from_port < length (block g x).outs) way.2 sent.1, ap (top tops) r ∙ same)

-- And one that keeps its top is on a cycle.
pub keeps-cycle : (g : Graph) (order : List ℕ) (tops : List (Option ℕ)) → IsJoined g → IsClosing g order → IsTops g order tops
    → (b : ℕ) → b < length g.blocks → KeepsTop g tops b → OnCycle g b
keeps-cycle g order tops joined o t b lb keeps =
    let p : ℕ = keeps.0 in
    let r : ℕ = receiver g b p in
    let q : ℕ = top tops b - 1 in
    let named = (joined.blocks b lb).out_named p keeps.1 in
    let lr : r < length g.blocks = (joined.channels (out_of g b p) named.0).received.0 in
    let given = t.given b lb in
    let lq : q < length order = omega (arith, given.0, given.1) in
    let there = o.whole b lb in
    let above : there.0 < top tops b = subst (λ (x : ℕ). there.0 < top tops x) there.2 (t.above there.0 there.1) in
    let up : Reaches g (get_or order there.0 0) (get_or order q 0) =
    subst (λ (x : ℕ). Reaches g x (get_or order q 0)) (sym there.2) (t.reaches b lb) in
    let low : top tops (get_or order there.0 0) ≤ suc q = subst (λ (x : ℕ). top tops x ≤ suc q) (sym there.2) (omega arith) in
    let down : Reaches g (get_or order q 0) b =
    subst (λ (x : ℕ). Reaches g (get_or order q 0) x) there.2
    (back g order tops joined o t q lq up.0 there.0 there.1 low up.1 there.0 (omega arith) (omega (arith, above))) in
    let on : Reaches g r (get_or order q 0) = subst (λ (x : ℕ). Reaches g r (get_or order (x - 1) 0)) keeps.2 (t.reaches r lr) in
    let round : Reaches g r b = reaches-on g r (get_or order q 0) b on down in
    (round.0, (out_of g b p, named.0, named.1, round.1))

-- Where no block keeps its top, the numbers of places above the tops rise along every channel.
pub none-keeps : (g : Graph) (order : List ℕ) (tops : List (Option ℕ)) → IsJoined g → IsTops g order tops
    → ((b : ℕ) → b < length g.blocks → KeepsTop g tops b → ⊥) → (rank : ℕ → ℕ) × Rises g rank
none-keeps g order tops joined t none = (
  λ b. length order - top tops b,
  λ c l.
      let sent = (joined.channels c l).came in
      let received = (joined.channels c l).received in
      let falls = t.falls c l in
      let given = t.given (channel g c).from_block sent.0 in
      let less : top tops (channel g c).to_block < top tops (channel g c).from_block =
      elim (cases_lt (top tops (channel g c).to_block) (top tops (channel g c).from_block)) [
        | inl less ↦ less
        | inr not ↦ absurd (none (channel g c).from_block sent.0 (
          (channel g c).from_port,
          sent.1,
          ap (top tops) (receiver-of g c joined l) ∙ (omega (arith, falls, not)),
        ))
      ] in
      omega (arith, less, given.1),
)

-- a block that stands in no order isn't on a cycle
pub cycle-there : (g : Graph) (b : ℕ) → IsJoined g → OnCycle g b → b < length g.blocks
cycle-there g b joined cycle =
    let way = cycle.1 in
    subst (λ (x : ℕ). x < length g.blocks) way.2 ((joined.channels way.0 way.1).came).0
