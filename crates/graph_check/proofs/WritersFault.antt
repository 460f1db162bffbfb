-- What the code finds of the writers is where the rule fails.
use Rattle.std.specs.Prelude.{◌≡◌, ℕ, Bool, true, false, ◌&&◌, Option, Some, None, if◌then◌else◌, length, leb, refl}
use Rattle.std.proofs.lemmas.List.{length-map}
use Rattle.sam_model.specs.declared.program.Program.{Program}
use Rattle.stream_model.specs.Labels.{result_sizes}
use Rattle.graph.specs.declared.graphs.Graph.{Graph}
use Rattle.graph.specs.Wiring.{block}
use Rattle.graph_check.specs.Writers.{writes_first, all_written}
use Rattle.graph_check.specs.Faults.{first_failing, writers_fault}

pub fault-is : (p : Program) (g h : Graph) (r b : ℕ) (all m : Bool) → h ≡ g → r ≡ length (result_sizes p)
    → b ≡ first_failing (λ b. writes_first r h b (block h b).kind) (length h.blocks) → all ≡ all_written r h
    → m ≡ (leb (length g.blocks) b && all) → ◌≡◌ {A = Option ℕ} (if m then None else Some b) (writers_fault p g)
fault-is p g h r b all m e f k l t = rw (t, l, k, e, f) refl

pub met : (b : ℕ) (m : Bool) → m ≡ true → ◌≡◌ {A = Option ℕ} None (if m then None else Some b)
met b m e = rw e refl

pub unmet : (b : ℕ) (m : Bool) → m ≡ false → ◌≡◌ {A = Option ℕ} (Some b) (if m then None else Some b)
unmet b m e = rw e refl

pub levels-number : (p : Program) → length (result_sizes p) ≡ length p.result.order
levels-number p = length-map p.result.order _
