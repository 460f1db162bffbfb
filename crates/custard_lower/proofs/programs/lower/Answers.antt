use Rattle.std.proofs.Common.{◌≡◌, ◌<◌, ◌^◌, ◌∙◌, ap, sym, subst, length}
use Rattle.std.proofs.lemmas.Result.{IfOk-weaker}
use Rattle.graph.specs.declared.graphs.Graph.{Graph}
use Rattle.custard_lower.specs.DraftGraph.{ReadsWithin, DraftIsSmall, graph_of}
use Rattle.custard_lower.specs.Lowered.{Lowered}
use Rattle.custard_lower.proofs.draft.SmallGraphs.{small-blocks, small-channels}
use Rattle.custard_lower.proofs.join.SmallDraft.{small-draft}
use Rattle.custard_lower.proofs.written.LowGraph.{low-lowered, low-reads}
use Rattle.custard_lower.proofs.programs.lower.Goals as goal

pub graph_of-requires-clause-within : goal.graph_of-requires-clause-within
graph_of-requires-clause-within c =
    subst ReadsWithin (sym c.in_ok-made.ensures) (low-reads c.args.p.now c.requires)

pub graph_of-requires-clause-small : goal.graph_of-requires-clause-small
graph_of-requires-clause-small c = subst DraftIsSmall (sym c.in_ok-made.ensures) (small-draft c.args.p.now c.requires)

pub returns : goal.returns
returns c =
    let made = c.in_ok-made.made in
    let small : DraftIsSmall made = subst DraftIsSmall (sym c.in_ok-made.ensures) (small-draft c.args.p.now c.requires) in
    IfOk-weaker c.graph_of.result (λ g. g ≡ graph_of made) (λ g. Lowered c.args.p.now g)
    (λ g same.
    low-lowered c.args.p.now c.requires g (same ∙ ap graph_of c.in_ok-made.ensures)
    (subst (λ (g : Graph). length g.blocks < 2 ^ 32) (sym same) (small-blocks made small))
    (subst (λ (g : Graph). length g.channels < 2 ^ 32) (sym same) (small-channels made small)))
    c.graph_of.ensures
