-- Ways along channels joined to one another.
use Rattle.std.specs.Prelude.{◌≡◌, ◌<◌, ℕ, zero, suc, length, refl}
use Rattle.std.proofs.Common.{sym, subst}
use Rattle.graph.specs.declared.graphs.Graph.{Graph}
use Rattle.graph.specs.Wiring.{block, channel, out_of}
use Rattle.graph.specs.Joined.{IsJoined}
use Rattle.graph_wiring.specs.Leading.{LeadsBy, Reaches}
use Rattle.graph_wiring.specs.Searching.{receiver}

pub reaches-itself : (g : Graph) (a : ℕ) → Reaches g a a
reaches-itself g a = (0, refl)

pub reaches-by : (g : Graph) (c b : ℕ) → c < length g.channels → Reaches g (channel g c).to_block b → Reaches g (channel g c).from_block b
reaches-by g c b l way = (suc way.0, (c, l, refl, way.1))

leads_by-on : (g : Graph) (n a b d : ℕ) → LeadsBy g n a b → Reaches g b d → Reaches g a d
leads_by-on g zero a b d e on = subst (λ (x : ℕ). Reaches g x d) (sym e) on
leads_by-on g (suc n) a b d way on =
    let more = leads_by-on g n (channel g way.0).to_block b d way.3 on in
    (suc more.0, (way.0, way.1, way.2, more.1))

pub reaches-on : (g : Graph) (a b d : ℕ) → Reaches g a b → Reaches g b d → Reaches g a d
reaches-on g a b d way on = leads_by-on g way.0 a b d way.1 on

-- a block leads to the receiver at each of its ports
pub reaches-receiver : (g : Graph) (b p : ℕ) → IsJoined g → b < length g.blocks → p < length (block g b).outs → Reaches g b (receiver g b p)
reaches-receiver g b p joined lb lp =
    let named = (joined.blocks b lb).out_named p lp in
    (1, (out_of g b p, named.0, named.1, refl))

-- the receiver of a channel is the one at its sender's port
pub receiver-of : (g : Graph) (c : ℕ) → IsJoined g → c < length g.channels
    → receiver g (channel g c).from_block (channel g c).from_port ≡ (channel g c).to_block
receiver-of g c joined l = let sent = (joined.channels c l).came in rw (receiver, sent.2) refl
