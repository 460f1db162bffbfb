use Rattle.std.proofs.Common.{◌≡◌, ◌∙◌, ap, sym, subst, true}
use Rattle.std.proofs.lemmas.Result.{IfOk-weaker}
use Rattle.custard_lower.specs.DraftGraph.{ReadsWithin, DraftIsSmall, graph_of}
use Rattle.custard_fuse.specs.Fused.{Fused}
use Rattle.custard_fuse.specs.Fusing.{is_fused}
use Rattle.custard_fuse.proofs.SmallFused.{small-fused}
use Rattle.custard_fuse.proofs.FusedGraph.{fused-reads, draft-fused}
use Rattle.custard_fuse.proofs.programs.fuse.Goals as goal

pub graph_of-requires-clause-within : goal.graph_of-requires-clause-within
graph_of-requires-clause-within c =
    let fused : is_fused c.args.p.now ≡ true = sym c.is_fused.ensures ∙ c.if-not-is_fused.false in
    subst ReadsWithin (sym c.in_ok-made.ensures) (fused-reads c.args.p.now c.requires fused)

pub graph_of-requires-clause-small : goal.graph_of-requires-clause-small
graph_of-requires-clause-small c =
    let fused : is_fused c.args.p.now ≡ true = sym c.is_fused.ensures ∙ c.if-not-is_fused.false in
    subst DraftIsSmall (sym c.in_ok-made.ensures) (small-fused c.args.p.now c.requires fused)

pub returns : goal.returns
returns c =
    let fused : is_fused c.args.p.now ≡ true = sym c.is_fused.ensures ∙ c.if-not-is_fused.false in
    IfOk-weaker c.graph_of.result (λ g. g ≡ graph_of c.in_ok-made.made) (λ g. Fused c.args.p.now g)
    (λ g same. draft-fused c.args.p.now c.requires fused g (same ∙ ap graph_of c.in_ok-made.ensures)) c.graph_of.ensures
