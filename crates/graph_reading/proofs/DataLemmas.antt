-- The data of a graph isn't deep.
use Rattle.std.proofs.Common.{◌≤◌, ℕ, List, [], ◌∷◌, map, arith}
use Rattle.serde_json.specs.Data.{Data, depth, items_depth}
use Rattle.serde_json.specs.View.{items_of}
use Rattle.sam_model.specs.declared.program.Program.{Program}
use Rattle.graph.specs.declared.graphs.Block.{Block}
use Rattle.graph.specs.declared.graphs.Channel.{Channel}
use Rattle.graph.specs.declared.graphs.Graph.{Graph}
use Rattle.graph_json.specs.Tables.{kind_numbers}
use Rattle.graph_json.specs.Spelled.{number_data, numbers_data, block_data, channel_data, graph_data}

pub shallow : {A : Type 0} (f : A → Data) (k : ℕ) → ((x : A) → depth (f x) ≤ k) → (xs : List A) → items_depth (items_of (map f xs)) ≤ k
shallow f k most [] = omega arith
shallow f k most (x ∷ xs) = let here = most x in let there = shallow f k most xs in omega arith

numbers_shallow : (ns : List ℕ) → depth (numbers_data ns) ≤ 1
numbers_shallow ns = let h = shallow number_data 0 (λ n. omega arith) ns in omega arith

block_shallow : (p : Program) (b : Block) → depth (block_data p b) ≤ 2
block_shallow p b =
    let numbers = numbers_shallow (kind_numbers b.kind) in let ins = numbers_shallow b.ins in let outs = numbers_shallow b.outs in omega arith

channel_shallow : (c : Channel) → depth (channel_data c) ≤ 2
channel_shallow c = let from = numbers_shallow (c.from_block ∷ c.from_port ∷ []) in let to = numbers_shallow (c.to_block ∷ c.to_port ∷ []) in omega arith

pub graph_shallow : (p : Program) (g : Graph) → depth (graph_data p g) ≤ 4
graph_shallow p g =
    let blocks = shallow (block_data p) 2 (block_shallow p) g.blocks in let channels = shallow channel_data 2 channel_shallow g.channels in omega arith
