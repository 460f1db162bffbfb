-- Worked cases: a graph that is well formed, an order in which its channels lead forwards, and a ring.
use Rattle.std.specs.Prelude.{◌<◌, ℕ, List, [], ◌∷◌, get_or, eqb, ltb, refl}
use Rattle.std.proofs.Common.{arith}
use Rattle.std.proofs.lemmas.Bool.{eqb-true, ltb-true}
use Rattle.std.proofs.lemmas.List.Elements.{All-from_get_or}
use Rattle.graph.specs.declared.graphs.Kind.TheVariants.{Cast}
use Rattle.graph.specs.declared.graphs.Graph.{Graph}
use Rattle.graph.specs.Wiring.{Rises, WellFormed}
use Rattle.graph.specs.Joined.{IsJoined}
use Rattle.graph.specs.Order.{place_in, IsForwardOrder}
use Rattle.graph.proofs.ByTest.{below-all, joined-from, rises-from, formed-from}
use Rattle.graph.proofs.Vectors.{leads, vectors}

-- ---- the product of two vectors

abbrev order : List ℕ
order = 0 ∷ 10 ∷ 1 ∷ 2 ∷ 3 ∷ 4 ∷ 5 ∷ 6 ∷ 7 ∷ 8 ∷ 9 ∷ []

rises : Rises vectors (place_in order)
rises = rises-from vectors (place_in order) refl

leads_forwards : IsForwardOrder vectors order
leads_forwards = record {
  number = refl;
  blocks = All-from_get_or (λ b. b < 11) order 0 (λ i l. ltb-true _ _ (below-all 11 (λ k. ltb (get_or order k 0) 11) refl i l));
  whole = λ b l. (
    place_in order b,
    ltb-true _ _ (below-all 11 (λ a. ltb (place_in order a) 11) refl b l),
    eqb-true _ _ (below-all 11 (λ a. eqb (get_or order (place_in order a) a) a) refl b l),
  );
  forwards = rises;
}

is_formed : WellFormed vectors
is_formed = formed-from vectors (place_in order) refl refl refl refl

-- ---- two blocks in a ring, whose ports and channels fit

abbrev ring : Graph
ring = record {
  blocks =
      record { kind = Cast 1; ins = 1 ∷ []; outs = 0 ∷ [] }
      ∷ record { kind = Cast 1; ins = 0 ∷ []; outs = 1 ∷ [] }
      ∷ [];
  channels = leads 0 0 1 0 ∷ leads 1 0 0 0 ∷ [];
}

joined_ring : IsJoined ring
joined_ring = joined-from ring refl refl refl

unformed_ring : WellFormed ring → ⊥
unformed_ring w =
    let first = w.forwards.1 0 (omega arith) in
    let second = w.forwards.1 1 (omega arith) in
    omega (arith, first, second)
