use Rattle.std.proofs.Common.{◌≡◌, ◌≤◌, ℕ, List, length, ◌∙◌, arith, sym, subst, ap}
use Rattle.graph.specs.declared.order.Progress.TheVariants.{WaitsAt}
use Rattle.graph.specs.declared.graphs.Block.{Block}
use Rattle.graph.specs.Wiring.{block, channel, out_of}
use Rattle.graph.specs.Placing.{sender, reached, BlockPlaced}
use Rattle.graph.proofs.Placing.{later-later, all-wait, port-more, all-ports}
use Rattle.graph.proofs.order.Placing.pass_on.Goals as goal

pub loop-channel-preserved : goal.loop-channel-preserved
loop-channel-preserved c =
    let wait = all-wait c.args.g.now c.args.self.now.order.items c.loop-channel.self.order.items c.args.self.now.progress.items c.loop-channel.self.progress.items
    c.loop-channel.invariant.later c.requires.wait in
    let ports = c.as_slice-channel-items.ensures in
    let x = c.channel.ensures in
    let there : c.channel.result.now.to_block ≡ (channel c.args.g.now (out_of c.args.g.now c.args.b c.loop-channel.channel-index)).to_block = cc in
    record {
      kept = c.in_ok-advance.ensures.kept;
      later = later-later c.args.g.now c.args.self.now.order.items c.loop-channel.self.order.items c.advance.new.self.order.items
          c.args.self.now.progress.items c.loop-channel.self.progress.items c.advance.new.self.progress.items
          c.loop-channel.invariant.later c.in_ok-advance.ensures.later;
      past = port-more c.args.g.now c.loop-channel.self.order.items c.advance.new.self.order.items c.loop-channel.self.progress.items c.advance.new.self.progress.items
          c.args.b c.loop-channel.channel-index c.requires.joined c.in_ok-advance.ensures.later wait
          (c.loop-channel.invariant.later.stay c.args.b c.requires.placed)
          (λ q h p. (c.in_ok-advance.ensures.waits q (subst (λ (n : ℕ). reached c.advance.new.self.progress.items n ≡ WaitsAt q) (sym there) h)).1
          (subst (λ (n : ℕ). BlockPlaced c.loop-channel.self.progress.items (sender c.args.g.now n q)) (sym there) p))
          c.loop-channel.invariant.past;
    }

pub returns-clause-past : goal.returns-clause-past
returns-clause-past c =
    let wait = all-wait c.args.g.now c.args.self.now.order.items c.loop-channel.self.order.items c.args.self.now.progress.items c.loop-channel.self.progress.items
    c.loop-channel.invariant.later c.requires.wait in
    let most : length (block c.args.g.now c.args.b).outs ≤ c.loop-channel.channel-index =
    let same : length c.as_slice-channel-items.result.now ≡ length (block c.args.g.now c.args.b).outs =
    ap (λ (ports : List ℕ). length ports) c.as_slice-channel-items.ensures ∙ ap (λ (x : Block). length x.outs) c.block.ensures in
    omega (arith, same, c.loop-channel-test.false) in
    all-ports c.args.g.now c.loop-channel.self.progress.items c.args.b c.loop-channel.channel-index c.requires.joined wait most c.loop-channel.invariant.past
