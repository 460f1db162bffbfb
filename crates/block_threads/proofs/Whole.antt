-- The streams of a graph's wires are its whole streams.
use Rattle.std.proofs.Common.{◌≡◌, ℕ, zero, suc, ◌+◌, ◌<◌, List, [], ◌∷◌, map, length, get_or, refl, sym, ap, ap₂, ◌∙◌, subst, arith}
use Rattle.std.proofs.lemmas.Option.{get_or_from_slice_get}
use Rattle.stream_tokens.specs.declared.Token.{Token}
use Rattle.stream_tokens.specs.Nest.{IsStream}
use Rattle.sam_model.specs.Children.{Ranked}
use Rattle.block_core.specs.Ports.{Streams, port, AllStreams}
use Rattle.block_core.specs.Kind.{Kind, outputs}
use Rattle.block_core.proofs.Arity.{outputs-length}
use Rattle.levels.proofs.ReadLemmas.{ranged_item}
use Rattle.graph.specs.declared.graphs.Graph.{Graph}
use Rattle.graph.specs.Meaning.{meaning}
use Rattle.graph.specs.Wiring.{block, channel, out_of, WellFormed}
use Rattle.graph.specs.WholeStreams.{stream_after, whole_stream, whole_inputs, Consistent}
use Rattle.graph.proofs.Arity.{same-outs}
use Rattle.graph.proofs.Streams.{map-agree, streams-are-given}
use Rattle.stepper.specs.AllMoves.{kind_at}
use Rattle.ruled_wires.specs.Ends.{wire_stream, fresh_end}
use Rattle.block_threads.specs.Ports.{streams_of}
use Rattle.block_threads.specs.Wires.{wired_stream_after, wired_streams}

port_of_map : (f : ℕ → List Token) (cs : List ℕ) (p : ℕ) → p < length cs → port p (map f cs) ≡ f (get_or cs p 0)
port_of_map f [] p less = absurd (omega arith)
port_of_map f (c ∷ cs) zero less = refl
port_of_map f (c ∷ cs) (suc p) less = port_of_map f cs p (omega arith)

same_ports : (xs ys : Streams) → length xs ≡ length ys → ((p : ℕ) → p < length xs → port p xs ≡ port p ys) → xs ≡ ys
same_ports [] [] n each = refl
same_ports [] (y ∷ ys) n each = absurd (omega arith)
same_ports (x ∷ xs) [] n each = absurd (omega arith)
same_ports (x ∷ xs) (y ∷ ys) n each = ap₂ (λ z zs. z ∷ zs) (each 0 (omega arith)) (same_ports xs ys (omega arith) (λ p less. each (suc p) (omega arith)))

length_of_map : (f : ℕ → List Token) (cs : List ℕ) → length (map f cs) ≡ length cs
length_of_map f [] = refl
length_of_map f (c ∷ cs) = ap suc (length_of_map f cs)

streams_of_fresh : (streams : List (List Token)) (cs : List ℕ) → streams_of streams (map fresh_end cs) ≡ map (wire_stream streams) cs
streams_of_fresh streams [] = refl
streams_of_fresh streams (c ∷ cs) = ap (λ l. wire_stream streams c ∷ l) (streams_of_fresh streams cs)

all_streams : (ss : Streams) → ((p : ℕ) → p < length ss → IsStream (port p ss)) → AllStreams ss
all_streams [] each = tt
all_streams (s ∷ ss) each = (each 0 (omega arith), all_streams ss (λ p less. each (suc p) (omega arith)))

stream_at_port : (ss : Streams) (p : ℕ) → p < length ss → AllStreams ss → IsStream (port p ss)
stream_at_port [] p less all = absurd (omega arith)
stream_at_port (s ∷ ss) zero less all = all.0
stream_at_port (s ∷ ss) (suc p) less all = stream_at_port ss p (omega arith) all.1

module _ (storages : List Ranked) (g : Graph) (kinds : List Kind) (w : WellFormed g)
    (are : (b : ℕ) → b < length g.blocks → kind_at kinds b ≡ meaning storages (block g b).kind) where
  after_is : (n c : ℕ) → c < length g.channels → wired_stream_after kinds g n c ≡ stream_after storages g n c
  after_is zero c less = refl
  after_is (suc n) c less =
      let from = w.came c less in
      let b : ℕ = (channel g c).from_block in
      let inputs : map (wired_stream_after kinds g n) (block g b).ins ≡ map (stream_after storages g n) (block g b).ins =
      map-agree (wired_stream_after kinds g n) (stream_after storages g n) (block g b).ins (λ p lp. after_is n (get_or (block g b).ins p 0) (w.in_named b p from.0 lp).0) in
      ap (λ z. port (channel g c).from_port (outputs (kind_at kinds b) z)) inputs
      ∙ ap (λ k. port (channel g c).from_port (outputs k (map (stream_after storages g n) (block g b).ins))) (are b from.0)

  pub wire_is : (c : ℕ) → c < length g.channels → wire_stream (wired_streams kinds g) c ≡ whole_stream storages g c
  wire_is c less =
      let zero_plus : 0 + c ≡ c = omega arith in
      get_or_from_slice_get (wired_streams kinds g) c (wired_stream_after kinds g (length g.blocks) c) []
      (ranged_item (wired_stream_after kinds g (length g.blocks)) 0 (length g.channels) c c less zero_plus)
      ∙ after_is (length g.blocks) c less

  module _ (b : ℕ) (lb : b < length g.blocks) where
    pub ins_are : streams_of (wired_streams kinds g) (map fresh_end (block g b).ins) ≡ whole_inputs storages g b
    ins_are =
        streams_of_fresh (wired_streams kinds g) (block g b).ins
        ∙ map-agree (wire_stream (wired_streams kinds g)) (whole_stream storages g) (block g b).ins (λ p lp. wire_is (get_or (block g b).ins p 0) (w.in_named b p lb lp).0)

    outs_are : streams_of (wired_streams kinds g) (map fresh_end (block g b).outs) ≡ map (whole_stream storages g) (block g b).outs
    outs_are =
        streams_of_fresh (wired_streams kinds g) (block g b).outs
        ∙ map-agree (wire_stream (wired_streams kinds g)) (whole_stream storages g) (block g b).outs (λ p lp. wire_is (get_or (block g b).outs p 0) (w.out_named b p lb lp).0)

    out_given : (p : ℕ) → p < length (block g b).outs
        → port p (map (whole_stream storages g) (block g b).outs) ≡ port p (outputs (meaning storages (block g b).kind) (whole_inputs storages g b))
    out_given p less =
        let named = w.out_named b p lb less in
        let given = streams-are-given storages g w (out_of g b p) named.0 in
        port_of_map (whole_stream storages g) (block g b).outs p less ∙ given
        ∙ ap (λ (q : ℕ × ℕ). port q.1 (outputs (meaning storages (block g q.0).kind) (map (whole_stream storages g) (block g q.0).ins))) (λ i. (named.1 i, named.2 i))

    whole_outs : map (whole_stream storages g) (block g b).outs ≡ outputs (meaning storages (block g b).kind) (whole_inputs storages g b)
    whole_outs =
        let mapped = length_of_map (whole_stream storages g) (block g b).outs in
        let ports = w.outs_number b lb in
        let kinds_same = same-outs storages (block g b).kind in
        let made = outputs-length (meaning storages (block g b).kind) (whole_inputs storages g b) in
        same_ports (map (whole_stream storages g) (block g b).outs) (outputs (meaning storages (block g b).kind) (whole_inputs storages g b))
        (omega (arith, mapped, ports, kinds_same, made)) (λ p less. out_given p (omega (arith, less, mapped)))

    pub outs_given : streams_of (wired_streams kinds g) (map fresh_end (block g b).outs) ≡ outputs (meaning storages (block g b).kind) (whole_inputs storages g b)
    outs_given = outs_are ∙ whole_outs

    pub outs_streams : Consistent storages g → AllStreams (streams_of (wired_streams kinds g) (map fresh_end (block g b).outs))
    outs_streams consistent =
        subst AllStreams (sym outs_are)
        (all_streams (map (whole_stream storages g) (block g b).outs) (λ p less0.
        let less : p < length (block g b).outs = let mapped = length_of_map (whole_stream storages g) (block g b).outs in omega (arith, less0, mapped) in
        let named = w.out_named b p lb less in
        let c : ℕ = out_of g b p in
        let to = w.received c named.0 in
        let fits = consistent (channel g c).to_block to.0 in
        let here : IsStream (port (channel g c).to_port (whole_inputs storages g (channel g c).to_block)) =
        stream_at_port (whole_inputs storages g (channel g c).to_block) (channel g c).to_port
        (let mapped = length_of_map (whole_stream storages g) (block g (channel g c).to_block).ins in let within = to.1 in omega (arith, mapped, within)) fits.streams in
        subst IsStream
        (port_of_map (whole_stream storages g) (block g (channel g c).to_block).ins (channel g c).to_port to.1 ∙ ap (whole_stream storages g) to.2
        ∙ sym (port_of_map (whole_stream storages g) (block g b).outs p less)) here))
