-- Where the rule on labels first fails.
use Rattle.std.specs.Prelude.{◌≡◌, ◌<◌, ℕ, Bool, true, false, Option, Some, None, if◌then◌else◌, length, ltb}
use Rattle.std.proofs.Common.{arith, ◌∙◌, ap}
use Rattle.std.proofs.lemmas.Bool.{lt-ltb}
use Rattle.std.proofs.lemmas.Bool.Decides.{nat_tests}
use Rattle.sam_model.specs.declared.program.Program.{Program}
use Rattle.graph.specs.declared.graphs.Graph.{Graph}
use Rattle.graph_check.specs.Faults.{labels_allowed, labels_fault}
use Rattle.graph_check.proofs.FirstFailing.{first-is, all-pass}

abbrev at-place : (b n : ℕ) → Option ℕ
at-place b n = if ltb b n then Some b else None

-- at a block that fails, where those before it pass
pub fails-there : (p : Program) (g : Graph) (b : ℕ) → b < length g.blocks → ((k : ℕ) → k < b → labels_allowed p g k ≡ true)
    → labels_allowed p g b ≡ false → labels_fault p g ≡ Some b
fails-there p g b l before fails =
    ap (λ (k : ℕ). at-place k (length g.blocks)) (first-is (labels_allowed p g) (length g.blocks) b l before fails)
    ∙ ap (λ (t : Bool). if t then Some b else None) (lt-ltb b (length g.blocks) l)

-- nowhere, where all pass
pub fails-nowhere : (p : Program) (g : Graph) → ((k : ℕ) → k < length g.blocks → labels_allowed p g k ≡ true)
    → labels_fault p g ≡ None
fails-nowhere p g all =
    let n = length g.blocks in
    let past : ltb n n ≡ false = grind (arith, nat_tests) in
    ap (λ (k : ℕ). at-place k n) (all-pass (labels_allowed p g) n all)
    ∙ ap (λ (t : Bool). if t then Some n else None) past
