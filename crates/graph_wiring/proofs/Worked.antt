-- Worked cases: small graphs, each with the rule that it breaks first and where, or with none.
use Rattle.std.specs.Prelude.{◌≡◌, ◌<◌, ◌≤◌, ◌+◌, ℕ, zero, suc, Bool, cond, Some, None, List, [], ◌∷◌, eqb, leb, refl}
use Rattle.std.proofs.Common.{arith, subst}
use Rattle.std.proofs.lemmas.Bool.{leb-true}
use Rattle.stream_model.specs.declared.labels.Tree.TheVariants as tree
use Rattle.stream_model.specs.declared.labels.Attr.TheVariants as attr
use Rattle.graph.specs.declared.graphs.Kind.{Kind}
use Rattle.graph.specs.declared.graphs.Kind.TheVariants as kind
use Rattle.graph.specs.declared.graphs.Block.{Block}
use Rattle.graph.specs.declared.graphs.Channel.{Channel}
use Rattle.graph.specs.declared.graphs.Graph.{Graph}
use Rattle.graph.specs.Wiring.{channel, Rises}
use Rattle.graph.specs.Joined.{IsJoined}
use Rattle.graph.proofs.ByTest.{below-all, joined-from, rises-from}
use Rattle.graph_wiring.specs.Leading.{LeadsBy, OnCycle}
use Rattle.graph_wiring.specs.Faults.{IsWiringFault}
use Rattle.graph_wiring.specs.declared.faults.WiringFault.TheVariants.{Ports, Stray, Cycle}

abbrev block_of : Kind → List ℕ → List ℕ → Block
block_of kind ins outs = record { kind = kind; ins = ins; outs = outs }

abbrev leads : ℕ → ℕ → ℕ → ℕ → Channel
leads from_block from_port to_block to_port = record {
  from_block = from_block;
  from_port = from_port;
  to_block = to_block;
  to_port = to_port;
  label = record { tree = tree.Root; attr = attr.Literal 0 };
}

-- ---- a root without its output

abbrev without_output : Graph
without_output = record { blocks = block_of kind.Root [] [] ∷ []; channels = [] }

breaks_ports : IsWiringFault without_output (Some (Ports 0))
breaks_ports = (omega arith, λ fits. absurd (let none : 0 ≡ 1 = fits.outs_number in omega (arith, none)), λ i l. absurd (omega (arith, l)))

-- ---- a channel without blocks

abbrev without_blocks : Graph
without_blocks = record { blocks = []; channels = leads 0 0 0 0 ∷ [] }

breaks_stray : IsWiringFault without_blocks (Some (Stray 0))
breaks_stray = (
  λ b l. absurd (omega (arith, l)),
  (omega arith, λ fits. absurd (let none : 0 < 0 = fits.received.0 in omega (arith, none)), λ i l. absurd (omega (arith, l))),
)

-- ---- a root that leads to a drain

abbrev line : Graph
line = record {
  blocks = block_of kind.Root [] (0 ∷ []) ∷ block_of kind.Drain (0 ∷ []) [] ∷ [];
  channels = leads 0 0 1 0 ∷ [];
}

joined_line : IsJoined line
joined_line = joined-from line refl refl refl

rises_line : Rises line (λ b. b)
rises_line = rises-from line (λ b. b) refl

-- along channels a rank rises by as many as there are
rises-by : (g : Graph) (rank : ℕ → ℕ) → Rises g rank → (n a b : ℕ) → LeadsBy g n a b → rank a + n ≤ rank b
rises-by g rank rises zero a b e = subst (λ (x : ℕ). rank a + 0 ≤ rank x) e (omega arith)
rises-by g rank rises (suc n) a b way =
    let first : rank a < rank (channel g way.0).to_block = subst (λ (x : ℕ). rank x < rank (channel g way.0).to_block) way.2 (rises way.0 way.1) in
    let rest = rises-by g rank rises n (channel g way.0).to_block b way.3 in
    omega (arith, first, rest)

breaks_none : IsWiringFault line None
breaks_none = (
  joined_line.blocks,
  joined_line.channels,
  λ b cycle. let up = rises-by line (λ x. x) rises_line (suc cycle.0) b b cycle.1 in omega (arith, up),
)

-- ---- a block between two that each lead to themselves

abbrev between : Graph
between = record {
  blocks =
      block_of (kind.Cast 1) (1 ∷ []) (2 ∷ [])
      ∷ block_of (kind.Cast 2) (0 ∷ []) (0 ∷ 1 ∷ [])
      ∷ block_of kind.Mul (2 ∷ 3 ∷ []) (3 ∷ [])
      ∷ [];
  channels = leads 1 0 1 0 ∷ leads 1 1 0 0 ∷ leads 0 0 2 0 ∷ leads 2 0 2 1 ∷ [];
}

joined_between : IsJoined between
joined_between = joined-from between refl refl refl

-- channels never lead down, and up from block 0, where block 1 is lowest
abbrev height : ℕ → ℕ
height zero = 1
height (suc zero) = 0
height (suc (suc n)) = 2

abbrev climbs : ℕ → Bool
climbs c =
    leb (height (channel between c).from_block + cond (eqb (channel between c).from_block 0) 1 0) (height (channel between c).to_block)

never_down : (c : ℕ) → c < 4
    → height (channel between c).from_block + cond (eqb (channel between c).from_block 0) 1 0 ≤ height (channel between c).to_block
never_down c l = leb-true _ _ (below-all 4 climbs refl c l)

stays_up : (n a b : ℕ) → LeadsBy between n a b → height a ≤ height b
stays_up zero a b e = subst (λ (x : ℕ). height a ≤ height x) e (omega arith)
stays_up (suc n) a b way =
    let up = never_down way.0 way.1 in
    let first : height a ≤ height (channel between way.0).to_block =
    subst (λ (x : ℕ). height x ≤ height (channel between way.0).to_block) way.2 (omega (arith, up)) in
    let rest = stays_up n (channel between way.0).to_block b way.3 in
    omega (arith, first, rest)

off_cycles : OnCycle between 0 → ⊥
off_cycles cycle =
    let way = cycle.1 in
    let up : height 0 + 1 ≤ height (channel between way.0).to_block =
    subst (λ (x : ℕ). height x + cond (eqb x 0) 1 0 ≤ height (channel between way.0).to_block) way.2 (never_down way.0 way.1) in
    let back = stays_up cycle.0 (channel between way.0).to_block 0 way.3 in
    omega (arith, up, back)

only-zero : (a : ℕ) → a < 1 → OnCycle between a → ⊥
only-zero a l cycle = let e : a ≡ 0 = omega (arith, l) in off_cycles (subst (λ (x : ℕ). OnCycle between x) e cycle)

breaks_cycle : IsWiringFault between (Some (Cycle 1))
breaks_cycle =
    (joined_between.blocks, joined_between.channels, (omega arith, (0, (0, omega arith, refl, refl)), only-zero))
