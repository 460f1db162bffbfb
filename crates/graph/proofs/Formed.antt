-- A graph is well formed where its ports and channels fit and a rank rises along its channels.
use Rattle.std.specs.Prelude.{ℕ}
use Rattle.graph.specs.declared.graphs.Graph.{Graph}
use Rattle.graph.specs.Wiring.{Rises, WellFormed}
use Rattle.graph.specs.Joined.{IsJoined}

pub well-formed : (g : Graph) → IsJoined g → (rank : ℕ → ℕ) → Rises g rank → WellFormed g
well-formed g joined rank rises = record {
  ins_number = λ b l. (joined.blocks b l).ins_number;
  outs_number = λ b l. (joined.blocks b l).outs_number;
  in_named = λ b p l. (joined.blocks b l).in_named p;
  out_named = λ b p l. (joined.blocks b l).out_named p;
  received = λ c l. (joined.channels c l).received;
  came = λ c l. (joined.channels c l).came;
  forwards = (rank, rises);
}
