-- The graph of a program whose terms are fused: its labels are allowed, so it carries what the plain graph does.
use Rattle.std.specs.Prelude.{◌≡◌, ◌<◌, ◌^◌, Bool, true, cond, length}
use Rattle.std.proofs.Common.{sym, ap, subst, ◌∙◌}
use Rattle.sam_model.specs.declared.program.Program.{Program}
use Rattle.sam_model.specs.Program.{accepted}
use Rattle.stream_model.specs.Fused.{shared_levels}
use Rattle.graph.specs.declared.graphs.Graph.{Graph}
use Rattle.graph.specs.Wiring.{WellFormed}
use Rattle.graph.specs.Assembly.{FewPayloads}
use Rattle.label_rules.specs.Holding.{RulesMet}
use Rattle.custard_lower.specs.declared.reductions.Levels.{Levels}
use Rattle.custard_lower.specs.DraftGraph.{ReadsWithin, graph_of}
use Rattle.custard_lower.specs.Lowered.{low, Carries, Computes}
use Rattle.custard_lower.proofs.draft.SmallGraphs.{small-blocks, small-channels}
use Rattle.custard_lower.proofs.written.ResultGraph.{RulesServe, ResultStands, result-formed, result-allowed, result-few, result-reads, result-carries}
use Rattle.custard_fuse.specs.Fusing.{plans_of, is_fused, fused_levels, fused_draft, fus}
use Rattle.custard_fuse.specs.FusedRules.{last_term, FusedAllowed, Deep}
use Rattle.custard_fuse.specs.Fused.{Fused}
use Rattle.custard_fuse.specs.Laws.{FusedCarries}
use Rattle.custard_fuse.proofs.FusedAllows.{FusedRules}
use Rattle.custard_fuse.proofs.FusedServes.{fused-serves}
use Rattle.custard_fuse.proofs.ResultWalk.{fused-result}
use Rattle.custard_fuse.proofs.SmallFused.{small-fused}

module _ (p : Program) (ok : accepted p ≡ true) (fused : is_fused p ≡ true) where
  abbrev levels : Levels
  levels = fused_levels p (last_term p) (shared_levels p) (plans_of p)

  serves : RulesServe p Deep (FusedRules p)
  serves = fused-serves p ok fused

  result : ResultStands p (FusedRules p) levels
  result = fused-result p ok fused

  graph : graph_of (fused_draft p) ≡ fus p
  graph = ap (λ (b : Bool). cond b (graph_of (fused_draft p)) (low p)) (sym fused)

  pub fused-carries : FusedCarries p
  fused-carries = record {
    allowed =
        subst (λ (g : Graph). RulesMet (FusedAllowed p) g) graph
        (λ b i. (result-allowed p Deep (FusedRules p) serves levels result b i).allowed);
    computes = record {
      formed = subst WellFormed graph (result-formed p Deep (FusedRules p) serves levels result);
      few_payloads = subst FewPayloads graph (result-few p Deep (FusedRules p) serves levels result);
      few_blocks = subst (λ (g : Graph). length g.blocks < 2 ^ 32) graph (small-blocks (fused_draft p) (small-fused p ok fused));
      few_channels = subst (λ (g : Graph). length g.channels < 2 ^ 32) graph (small-channels (fused_draft p) (small-fused p ok fused));
      carries = λ es same.
          subst (λ (g : Graph). Carries p g es) graph (result-carries p Deep (FusedRules p) serves levels result es same);
    };
  }

  -- its draft reads outputs that are there
  pub fused-reads : ReadsWithin (fused_draft p)
  fused-reads = result-reads p Deep (FusedRules p) serves levels result

  -- the graph of the draft
  pub draft-fused : (g : Graph) → g ≡ graph_of (fused_draft p) → Fused p g
  draft-fused g is = record { is_fus = is ∙ graph; computes = subst (Computes p) (sym (is ∙ graph)) fused-carries.computes }
