-- A graph that is written out is well formed where tests of its blocks and channels say so.
use Rattle.std.specs.Prelude.{◌≡◌, ◌<◌, ℕ, zero, suc, Bool, true, ◌&&◌, [], length, eqb, ltb}
use Rattle.std.proofs.Common.{inl, inr, arith, subst}
use Rattle.std.proofs.lemmas.Bool.{and_parts, cases_lt, eqb-true, ltb-true}
use Rattle.block_core.specs.Kind.{ins_of, outs_of}
use Rattle.graph.specs.declared.graphs.Graph.{Graph}
use Rattle.graph.specs.Meaning.{meaning}
use Rattle.graph.specs.Wiring.{block, channel, into, out_of, Rises, WellFormed}
use Rattle.graph.specs.Joined.{IsJoined}
use Rattle.graph.proofs.Formed.{well-formed}

-- a test of each number below n
abbrev pub all_below : ℕ → (ℕ → Bool) → Bool
all_below zero test = true
all_below (suc n) test = test n && all_below n test

pub below-all : (n : ℕ) (test : ℕ → Bool) → all_below n test ≡ true → (k : ℕ) → k < n → test k ≡ true
below-all zero test e k l = absurd (omega (arith, l))
below-all (suc n) test e k l =
    let parts = and_parts (test n) (all_below n test) e in
    elim (cases_lt k n) [
      | inl less ↦ below-all n test parts.1 k less
      | inr top ↦ let same : n ≡ k = omega (arith, l, top) in
          subst (λ (m : ℕ). test m ≡ true) same parts.0
    ]

-- the conditions as tests
abbrev pub names_in : Graph → ℕ → ℕ → Bool
names_in g b p =
    let c = into g b p in
    ltb c (length g.channels) && (eqb (channel g c).to_block b && eqb (channel g c).to_port p)

abbrev pub names_out : Graph → ℕ → ℕ → Bool
names_out g b p =
    let c = out_of g b p in
    ltb c (length g.channels) && (eqb (channel g c).from_block b && eqb (channel g c).from_port p)

abbrev pub fits : Graph → ℕ → Bool
fits g b =
    eqb (length (block g b).ins) (ins_of (meaning [] (block g b).kind))
    && (eqb (length (block g b).outs) (outs_of (meaning [] (block g b).kind))
    && (all_below (length (block g b).ins) (names_in g b) && all_below (length (block g b).outs) (names_out g b)))

abbrev pub is_received : Graph → ℕ → Bool
is_received g c =
    let b = (channel g c).to_block in
    ltb b (length g.blocks) && (ltb (channel g c).to_port (length (block g b).ins) && eqb (into g b (channel g c).to_port) c)

abbrev pub is_sent : Graph → ℕ → Bool
is_sent g c =
    let b = (channel g c).from_block in
    ltb b (length g.blocks) && (ltb (channel g c).from_port (length (block g b).outs) && eqb (out_of g b (channel g c).from_port) c)

tested : (a b c : Bool) → (a && (b && c)) ≡ true → (a ≡ true) × (b ≡ true) × (c ≡ true)
tested a b c e =
    let parts = and_parts a (b && c) e in
    let more = and_parts b c parts.1 in
    (parts.0, more.0, more.1)

pub joined-from : (g : Graph) → all_below (length g.blocks) (fits g) ≡ true → all_below (length g.channels) (is_received g) ≡ true
    → all_below (length g.channels) (is_sent g) ≡ true → IsJoined g
joined-from g e r s = record {
  blocks = λ b l.
      let t = tested _ _ _ (below-all (length g.blocks) (fits g) e b l) in
      let named = and_parts _ _ t.2 in
      record {
        ins_number = eqb-true _ _ t.0;
        outs_number = eqb-true _ _ t.1;
        in_named = λ p lp.
            let u = tested _ _ _ (below-all (length (block g b).ins) (names_in g b) named.0 p lp) in
            (ltb-true _ _ u.0, eqb-true _ _ u.1, eqb-true _ _ u.2);
        out_named = λ p lp.
            let u = tested _ _ _ (below-all (length (block g b).outs) (names_out g b) named.1 p lp) in
            (ltb-true _ _ u.0, eqb-true _ _ u.1, eqb-true _ _ u.2);
      };
  channels = λ c l.
      let t = tested _ _ _ (below-all (length g.channels) (is_received g) r c l) in
      let u = tested _ _ _ (below-all (length g.channels) (is_sent g) s c l) in
      record {
        received = (ltb-true _ _ t.0, ltb-true _ _ t.1, eqb-true _ _ t.2);
        came = (ltb-true _ _ u.0, ltb-true _ _ u.1, eqb-true _ _ u.2);
      };
}

-- the ranks rise along every channel
abbrev pub is_risen : Graph → (ℕ → ℕ) → ℕ → Bool
is_risen g rank c = ltb (rank (channel g c).from_block) (rank (channel g c).to_block)

pub rises-from : (g : Graph) (rank : ℕ → ℕ) → all_below (length g.channels) (is_risen g rank) ≡ true → Rises g rank
rises-from g rank e c l = ltb-true _ _ (below-all (length g.channels) (is_risen g rank) e c l)

pub formed-from : (g : Graph) (rank : ℕ → ℕ) → all_below (length g.blocks) (fits g) ≡ true → all_below (length g.channels) (is_received g) ≡ true
    → all_below (length g.channels) (is_sent g) ≡ true → all_below (length g.channels) (is_risen g rank) ≡ true → WellFormed g
formed-from g rank e r s t = well-formed g (joined-from g e r s) rank (rises-from g rank t)
