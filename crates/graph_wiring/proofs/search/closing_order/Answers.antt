use Rattle.std.proofs.Common.{◌≡◌, replicate, arith, rules}
use Rattle.std.proofs.lemmas.Bool.{both_ways}
use Rattle.graph_wiring.specs.declared.search.Progress.TheVariants.{Fresh}
use Rattle.graph_wiring.proofs.Searching.{begun, ended, met-more}
use Rattle.graph_wiring.proofs.search.closing_order.Goals as goal
use Rattle.graph_wiring.proofs.search.closing_order.Goals.{then-is_fresh+in_ok-enter+in_ok-close, else-is_fresh}

pub loop-b-init : goal.loop-b-init
loop-b-init c =
    let fresh : c.in_ok-vec.field-0.items ≡ replicate c.len.result Fresh = search rules in
    record {
      kept = begun c.args.g.now c.new.result.items c.new-2.result.items c.in_ok-vec.field-0.items c.len.result
          c.new.ensures.items c.new-2.ensures.items fresh c.len.ensures;
      closed = c.new.ensures.items;
      met = λ b l. absurd (omega (arith, l));
    }

pub loop-b-preserved : goal.loop-b-preserved
loop-b-preserved c =
    elim c.if-is_fresh.branch [
      | then-is_fresh+in_ok-enter+in_ok-close w ↦
          rw w.search-is (record {
            kept = w.in_ok-close.ensures.kept;
            closed = w.in_ok-close.ensures.closed;
            met = met-more c.loop-b.search.progress.items w.close.new.self.progress.items c.loop-b.b c.loop-b.invariant.met
                (λ a h. w.in_ok-close.ensures.met a (w.in_ok-enter.ensures.met a h)) (w.in_ok-close.ensures.met c.loop-b.b w.in_ok-enter.ensures.here);
          })
      | else-is_fresh w ↦
          rw w.search-is (record {
            kept = c.loop-b.invariant.kept;
            closed = c.loop-b.invariant.closed;
            met = met-more c.loop-b.search.progress.items c.loop-b.search.progress.items c.loop-b.b c.loop-b.invariant.met
                (λ a h. h) (λ fresh. both_ways c.is_fresh.result w.if-is_fresh.false (c.is_fresh.ensures.1 fresh));
          })
    ]

pub returns : goal.returns
returns c =
    ended c.args.g.now c.loop-b.search.stack.items c.loop-b.search.order.items c.loop-b.search.progress.items c.loop-b.invariant.kept c.loop-b.invariant.closed
    (λ b l. c.loop-b.invariant.met b (omega (arith, l, c.loop-b-test.false, c.len-b-end.ensures)))
