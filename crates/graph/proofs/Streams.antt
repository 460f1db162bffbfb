-- The whole streams of a well formed graph are given by its blocks, and no other streams are.
use Rattle.std.specs.Prelude.{◌≡◌, ◌<◌, ℕ, zero, suc, List, [], ◌∷◌, length, get_or, refl}
use mathlib.Core.List.{map}
use Rattle.std.proofs.Common.{arith, ap, sym, ◌∙◌}
use Rattle.stream_tokens.specs.declared.Token.{Token}
use Rattle.sam_model.specs.Children.{Ranked}
use Rattle.block_core.specs.Ports.{Streams, port}
use Rattle.block_core.specs.Kind.{outputs}
use Rattle.graph.specs.declared.graphs.Graph.{Graph}
use Rattle.graph.specs.Meaning.{meaning}
use Rattle.graph.specs.Wiring.{block, channel, into, Rises, WellFormed}
use Rattle.graph.specs.WholeStreams.{stream_after}
use Rattle.graph.specs.Laws.{StreamsAreGiven, OnlyWholeStreams}
use Rattle.graph.proofs.Ranks.{place, place-below, place-rises}

-- two functions that agree at each place of a list
pub map-agree : {A : Type 0} (f h : ℕ → A) (ds : List ℕ) → ((p : ℕ) → p < length ds → f (get_or ds p 0) ≡ h (get_or ds p 0)) → map f ds ≡ map h ds
map-agree f h [] same = refl
map-agree f h (d ∷ ds) same =
    let first : f d ≡ h d = same 0 (omega arith) in
    let rest = map-agree f h ds (λ p l. same (suc p) (omega (arith, l))) in
    cc

-- the stream of a channel, as its block gives it from these
abbrev given_stream : List Ranked → Graph → (ℕ → List Token) → ℕ → List Token
given_stream storages g streams c =
    port (channel g c).from_port
    (outputs (meaning storages (block g (channel g c).from_block).kind)
    (map streams (block g (channel g c).from_block).ins))

-- each is given by the one before
abbrev Steps : List Ranked → Graph → (ℕ → ℕ → List Token) → Type 0
Steps storages g f = (n c : ℕ) → c < length g.channels → f (suc n) c ≡ given_stream storages g (f n) c

-- After more steps than its block's rank the stream of a channel is settled.
settled : (storages : List Ranked) (g : Graph) (rank : ℕ → ℕ) → WellFormed g → Rises g rank
    → (f h : ℕ → ℕ → List Token) → Steps storages g f → Steps storages g h
    → (n m c : ℕ) → c < length g.channels → rank (channel g c).from_block < n → rank (channel g c).from_block < m → f n c ≡ h m c
settled storages g rank w rises f h sf sh zero m c l ln lm = absurd (omega (arith, ln))
settled storages g rank w rises f h sf sh (suc n) zero c l ln lm = absurd (omega (arith, lm))
settled storages g rank w rises f h sf sh (suc n) (suc m) c l ln lm =
    let b : ℕ = (channel g c).from_block in
    let inputs : map (f n) (block g b).ins ≡ map (h m) (block g b).ins =
    map-agree (f n) (h m) (block g b).ins
    (λ p lp.
    let named = w.in_named b p (w.came c l).0 lp in
    let up : rank (channel g (into g b p)).from_block < rank (channel g (into g b p)).to_block = rises (into g b p) named.0 in
    let here : rank (channel g (into g b p)).to_block ≡ rank b = ap rank named.1 in
    settled storages g rank w rises f h sf sh n m (into g b p) named.0 (omega (arith, up, here, ln)) (omega (arith, up, here, lm)))
    in
    sf n c l
    ∙ ap (λ (ss : Streams). port (channel g c).from_port (outputs (meaning storages (block g b).kind) ss)) inputs
    ∙ sym (sh m c l)

pub streams-are-given : StreamsAreGiven
streams-are-given storages g w c l =
    let rises = place-rises g w w.forwards.0 w.forwards.1 in
    let short = place-below g w.forwards.0 (channel g c).from_block (w.came c l).0 in
    settled storages g (place g w.forwards.0) w rises (stream_after storages g) (stream_after storages g) (λ n d k. refl) (λ n d k. refl)
    (length g.blocks) (suc (length g.blocks)) c l short (omega (arith, short))

pub only-whole-streams : OnlyWholeStreams
only-whole-streams storages g streams w given c l =
    let rises = place-rises g w w.forwards.0 w.forwards.1 in
    let short = place-below g w.forwards.0 (channel g c).from_block (w.came c l).0 in
    settled storages g (place g w.forwards.0) w rises (λ n. streams) (stream_after storages g) (λ n. given) (λ n d k. refl)
    (length g.blocks) (length g.blocks) c l short short
