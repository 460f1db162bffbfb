-- Of an accepted program each lowering's graph computes the tensor.
use Rattle.std.specs.Prelude.{◌≡◌, Bool, true, false, cond, refl}
use Rattle.std.proofs.Common.{sym, ap, subst}
use Rattle.sam_model.specs.declared.program.Program.{Program}
use Rattle.sam_model.specs.Program.{accepted}
use Rattle.custard_lower.specs.DraftGraph.{graph_of}
use Rattle.custard_lower.specs.Lowering.{program_draft}
use Rattle.custard_lower.specs.Lowered.{Computes, low}
use Rattle.custard_lower.proofs.draft.SmallGraphs.{small-blocks, small-channels}
use Rattle.custard_lower.proofs.join.SmallDraft.{small-draft}
use Rattle.custard_lower.proofs.written.LowGraph.{low-lowered}
use Rattle.custard_fuse.specs.Fusing.{is_fused, fused_draft, fus}
use Rattle.custard_fuse.proofs.FusedGraph.{fused-carries}
use Rattle.words.specs.declared.asking.Lowering.{Lowering}
use Rattle.words.specs.declared.asking.Lowering.TheVariants.{Plain, Fused}
use Rattle.sam_cmd.specs.Chosen.{chosen}

module _ (p : Program) (ok : accepted p ≡ true) where
  low-computes : Computes p (low p)
  low-computes =
      let small = small-draft p ok in
      (low-lowered p ok (low p) refl (small-blocks (program_draft p) small) (small-channels (program_draft p) small)).computes

  -- where the terms aren't fused, the fused graph is the plain one
  fus-by : (b : Bool) → is_fused p ≡ b → Computes p (fus p)
  fus-by true fused = (fused-carries p ok fused).computes
  fus-by false plain =
      subst (Computes p) (sym (ap (λ (b : Bool). cond b (graph_of (fused_draft p)) (low p)) plain)) low-computes

  pub chosen-computes : (lowering : Lowering) → Computes p (chosen lowering p)
  chosen-computes Plain = low-computes
  chosen-computes Fused = fus-by (is_fused p) refl
