use Rattle.std.proofs.Common.{◌≡◌, length, vec_len, arith}
use Rattle.std.proofs.lemmas.Grind.{common_steps}
use Rattle.std.proofs.lemmas.Bool.{eqb-true, eq-eqb}
use Rattle.graph.specs.Order.{place_in}
use Rattle.graph.proofs.Formed.{well-formed}
use Rattle.graph.proofs.wiring.well_formed.Goals as goal

pub returns : goal.returns
returns c =
    let joined = c.is_joined.ensures.0 c.if-not-is_joined.false in
    let long : vec_len c.in_ok-placed.placed ≡ length c.in_ok-placed.placed.items = grind (arith, common_steps) in (
      λ same.
          let all : c.len.result ≡ c.len-2.result = eqb-true c.len.result c.len-2.result same in
          well-formed c.args.g.now joined (place_in c.in_ok-placed.placed.items)
          (c.in_ok-placed.ensures.forward (omega (arith, all, long, c.len.ensures, c.len-2.ensures))).forwards,
      λ formed.
          let all = c.in_ok-placed.ensures.all formed.forwards.0 formed.forwards.1 in
          eq-eqb c.len.result c.len-2.result (omega (arith, all, long, c.len.ensures, c.len-2.ensures)),
    )
