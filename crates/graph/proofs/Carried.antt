-- Streams that every block gives at its outputs from those at its inputs are the whole streams, and each block's fit.
use Rattle.std.specs.Prelude.{◌≡◌, ◌<◌, ℕ, zero, suc, List, [], ◌∷◌, length, get_or, refl}
use mathlib.Core.List.{map}
use Rattle.std.proofs.Common.{arith, sym, ◌∙◌, ap, subst}
use Rattle.stream_tokens.specs.declared.Token.{Token}
use Rattle.sam_model.specs.Children.{Ranked}
use Rattle.block_core.specs.Ports.{port}
use Rattle.block_core.specs.Kind.{Fits}
use Rattle.graph.specs.declared.graphs.Graph.{Graph}
use Rattle.graph.specs.Meaning.{meaning}
use Rattle.graph.specs.Wiring.{WellFormed, block, channel}
use Rattle.graph.specs.WholeStreams.{whole_stream, whole_inputs, Consistent}
use Rattle.graph.specs.Laws.{Given, Carried, CarriedAreWhole, CarriedAreConsistent}
use Rattle.graph.proofs.Streams.{map-agree, only-whole-streams}

port_mapped : (streams : ℕ → List Token) (cs : List ℕ) (p : ℕ) → p < length cs → port p (map streams cs) ≡ streams (get_or cs p 0)
port_mapped streams [] p l = absurd (omega (arith, l))
port_mapped streams (c ∷ cs) zero l = refl
port_mapped streams (c ∷ cs) (suc p) l = port_mapped streams cs p (omega (arith, l))

module _ (storages : List Ranked) (g : Graph) (streams : ℕ → List Token) (w : WellFormed g) (carried : Carried storages g streams) where
  given : Given storages g streams
  given c l =
      let came = w.came c l in
      let b = (channel g c).from_block in
      let p = (channel g c).from_port in
      sym (ap (port p) ((carried b came.0).puts_them) ∙ port_mapped streams (block g b).outs p came.1 ∙ ap streams came.2)

  whole_at : (c : ℕ) → c < length g.channels → streams c ≡ whole_stream storages g c
  whole_at = only-whole-streams storages g streams w given

  pub carried-inputs : (b : ℕ) → b < length g.blocks → map streams (block g b).ins ≡ whole_inputs storages g b
  carried-inputs b l = map-agree streams (whole_stream storages g) (block g b).ins (λ p m. whole_at _ ((w.in_named b p l m).0))

  consistent : Consistent storages g
  consistent b l = subst (Fits (meaning storages (block g b).kind)) (carried-inputs b l) ((carried b l).fits)

pub carried-whole : CarriedAreWhole
carried-whole = whole_at

pub carried-consistent : CarriedAreConsistent
carried-consistent = consistent
