-- The net of a well formed graph over stored tensors that fit it.
use Rattle.std.specs.Prelude.{◌≡◌, ◌<◌, ◌≤◌, ℕ, zero, suc, List, [], ◌∷◌, length, slice_get, get_or, Some, refl}
use mathlib.Core.List.{map}
use Rattle.std.proofs.Common.{arith, sym, ◌∙◌, ap, subst, inl, inr}
use Rattle.std.proofs.lemmas.Bool.{cases_lt}
use Rattle.std.proofs.lemmas.List.{get_or_past}
use Rattle.stream_tokens.specs.declared.Token.{Token}
use Rattle.sam_model.specs.Children.{Ranked}
use Rattle.block_core.specs.Move.{Move, Taking, Putting, takes, puts}
use Rattle.block_core.specs.Ports.{port}
use Rattle.block_core.specs.Kind.{moves}
use Rattle.block_core.proofs.All.{all-pass}
use Rattle.block_core.proofs.Arity.{take-in-range, put-in-range}
use Rattle.graph.specs.declared.graphs.Graph.{Graph}
use Rattle.graph.specs.declared.graphs.Block.{Block}
use Rattle.graph.specs.Meaning.{meaning}
use Rattle.graph.specs.Wiring.{block, channel, no_block, WellFormed}
use Rattle.graph.specs.WholeStreams.{whole_stream, whole_inputs, Consistent}
use Rattle.graph.specs.Standing.{block_moves}
use Rattle.graph.proofs.Streams.{streams-are-given}
use Rattle.graph.proofs.Arity.{same-ins, same-outs}
use Rattle.plays.specs.Net.{Wired}
use Rattle.stepper.specs.NetOf.{net_of}

-- past the blocks there is no move
past-none : (storages : List Ranked) (g : Graph) (b : ℕ) → length g.blocks ≤ b → block_moves storages g b ≡ []
past-none storages g b l =
    let e : block g b ≡ no_block = get_or_past g.blocks b no_block l in
    ap (λ (x : Block). moves (meaning storages x.kind) (map (whole_stream storages g) x.ins)) e

none_there : (m : Move) (n : ℕ) (ms : List Move) → ms ≡ [] → slice_get ms n ≡ Some m → ⊥
none_there m n ms e k = let f : slice_get {X = Move} [] n ≡ Some m = subst (λ (z : List Move). slice_get z n ≡ Some m) e k in absurd (cc)

pub move_within : (storages : List Ranked) (g : Graph) (b n : ℕ) (m : Move) → slice_get (block_moves storages g b) n ≡ Some m → b < length g.blocks
move_within storages g b n m e = elim (cases_lt b (length g.blocks)) [
  | inl l ↦ l
  | inr past ↦ absurd (none_there m n (block_moves storages g b) (past-none storages g b past) e)
]

-- a move is on one of its block's own ports
pub take_port : (storages : List Ranked) (g : Graph) (b n p : ℕ) (t : Token) → WellFormed g → Consistent storages g
    → slice_get (block_moves storages g b) n ≡ Some (Taking p t) → p < length (block g b).ins
take_port storages g b n p t w k e =
    let l = move_within storages g b n (Taking p t) e in
    let r = take-in-range (meaning storages (block g b).kind) (whole_inputs storages g b) n p t (k b l) e in
    omega (arith, r, same-ins storages (block g b).kind, w.ins_number b l)

pub put_port : (storages : List Ranked) (g : Graph) (b n p : ℕ) (t : Token) → WellFormed g → Consistent storages g
    → slice_get (block_moves storages g b) n ≡ Some (Putting p t) → p < length (block g b).outs
put_port storages g b n p t w k e =
    let l = move_within storages g b n (Putting p t) e in
    let r = put-in-range (meaning storages (block g b).kind) (whole_inputs storages g b) n p t (k b l) e in
    omega (arith, r, same-outs storages (block g b).kind, w.outs_number b l)

-- the stream at a port is that of its channel
port_of : (f : ℕ → List Token) (p : ℕ) (cs : List ℕ) → p < length cs → port p (map f cs) ≡ f (get_or cs p 0)
port_of f p cs l = port_of_at f p cs l
  where
    port_of_at : (f : ℕ → List Token) (p : ℕ) (cs : List ℕ) → p < length cs → port p (map f cs) ≡ f (get_or cs p 0)
    port_of_at f p [] l = absurd (omega (arith, l))
    port_of_at f zero (c ∷ cs) l = refl
    port_of_at f (suc p) (c ∷ cs) l = port_of_at f p cs (omega (arith, l))

-- what a block puts on a channel is the channel's whole stream, and so is what the block at the other end takes
pub put_whole : (storages : List Ranked) (g : Graph) (c : ℕ) → WellFormed g → Consistent storages g → c < length g.channels
    → puts (channel g c).from_port (block_moves storages g (channel g c).from_block) ≡ whole_stream storages g c
put_whole storages g c w k l =
    let b : ℕ = (channel g c).from_block in
    (all-pass (meaning storages (block g b).kind) (whole_inputs storages g b) (k b (w.came c l).0)).through.put (channel g c).from_port
    ∙ sym (streams-are-given storages g w c l)

pub taken_whole : (storages : List Ranked) (g : Graph) (c : ℕ) → WellFormed g → Consistent storages g → c < length g.channels
    → takes (channel g c).to_port (block_moves storages g (channel g c).to_block) ≡ whole_stream storages g c
taken_whole storages g c w k l =
    let b : ℕ = (channel g c).to_block in
    let at = w.received c l in
    (all-pass (meaning storages (block g b).kind) (whole_inputs storages g b) (k b at.0)).through.taken (channel g c).to_port
    ∙ port_of (whole_stream storages g) (channel g c).to_port (block g b).ins at.1
    ∙ ap (whole_stream storages g) at.2

pub wired : (storages : List Ranked) (g : Graph) → WellFormed g → Consistent storages g → Wired (net_of storages g)
wired storages g w k = record {
  none = past-none storages g;
  taken = λ b n p t e.
      let l = move_within storages g b n (Taking p t) e in
      let i = w.in_named b p l (take_port storages g b n p t w k e) in
      (i.1, i.2, i.0);
  put = λ b n p t e.
      let l = move_within storages g b n (Putting p t) e in
      let i = w.out_named b p l (put_port storages g b n p t w k e) in
      (i.1, i.2, i.0);
  received = λ c l. ((w.received c l).2, (w.received c l).0);
  came = λ c l. ((w.came c l).2, (w.came c l).0);
  same = λ c l. put_whole storages g c w k l ∙ sym (taken_whole storages g c w k l);
}
