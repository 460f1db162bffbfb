-- What the writers of a graph take whose blocks have allowed labels.
use Rattle.std.specs.Prelude.{◌≡◌, ◌<◌, ◌≤◌, ℕ, zero, suc, ◌+◌, Bool, true, List, [], ◌∷◌, length, get_or, refl}
use Rattle.std.specs.List.{list_all, range_with_len}
use mathlib.Core.List.{map}
use Rattle.std.proofs.Common.{arith, ◌∙◌, ap, subst, ◌⊎◌, inl, inr}
use Rattle.std.proofs.lemmas.Bool.{and_parts, eqb-true, ltb-true, cases_eq}
use Rattle.std.proofs.lemmas.List.Sums.{passes_at_first}
use Rattle.stream_tokens.specs.declared.Token.{Token}
use Rattle.sam_model.specs.declared.program.Program.{Program}
use Rattle.sam_model.specs.Children.{Ranked}
use Rattle.stream_model.specs.declared.labels.Label.{Label}
use Rattle.block_core.specs.Ports.{port}
use Rattle.graph.specs.declared.graphs.Block.{Block}
use Rattle.graph.specs.declared.graphs.Kind.{Kind}
use Rattle.graph.specs.declared.graphs.Kind.TheVariants as kind
use Rattle.graph.specs.declared.graphs.Graph.{Graph}
use Rattle.graph.specs.Wiring.{block, into, no_block, WellFormed}
use Rattle.graph.specs.WholeStreams.{whole_stream}
use Rattle.graph.specs.Writers.{writes_level, writes_values, first_block, level_stream, value_stream}
use Rattle.label_rules.specs.Labels.{IsOneOf, PortsAllow}
use Rattle.label_rules.specs.Rules.{Allowed, written_labels, written_value_labels}
use Rattle.label_rules.specs.Holding.{label_on, RulesMet}
use Rattle.graph_check.specs.Writers.{is_written}

is-level-writer : (d : ℕ) (k : Kind) → writes_level d k ≡ true → k ≡ kind.WriteLevel d
is-level-writer d (kind.WriteLevel level) e = ap kind.WriteLevel (eqb-true level d e)
is-level-writer d other e = absurd (cc)

is-values-writer : (k : Kind) → writes_values k ≡ true → k ≡ kind.WriteValue
is-values-writer kind.WriteValue e = refl
is-values-writer other e = absurd (cc)

-- the one port of a block takes one of the labels that it may have
one-port : (label : ℕ → Label) (stream : ℕ → List Token) (c : List Label) (cs : List ℕ) → PortsAllow (c ∷ []) (map label cs)
    → IsOneOf (label (get_or cs 0 0)) c × (0 < length cs) × (port 0 (map stream cs) ≡ stream (get_or cs 0 0))
one-port label stream c [] x = absurd x
one-port label stream c (n ∷ ns) x = (x.0, omega arith, refl)

-- where a test holds of each number of a range it holds of one in it
pub in-range : (test : ℕ → Bool) (a n k : ℕ) → list_all test (range_with_len a n) ≡ true → a ≤ k → k < a + n → test k ≡ true
in-range test a zero k e low high = absurd (omega (arith, low, high))
in-range test a (suc n) k e low high =
    let both = and_parts (test a) (list_all test (range_with_len (a + 1) n)) e in
    by_place (cases_eq k a) (λ other. in-range test (a + 1) n k both.1 (omega (arith, low, other)) (omega (arith, high))) both.0
  where
    by_place : (k ≡ a) ⊎ (k ≡ a → ⊥) → ((k ≡ a → ⊥) → test k ≡ true) → test a ≡ true → test k ≡ true
    by_place (inl same) rest here = ap test same ∙ here
    by_place (inr other) rest here = rest other

module _ (p : Program) (g : Graph) (w : WellFormed g) (met : RulesMet (Allowed p) g) where
  -- the label at the writer of a level, and at that of the values
  abbrev pub level_label : ℕ → Label
  level_label d = label_on g (into g (first_block (writes_level d) g) 0)

  abbrev pub value_label : Label
  value_label = label_on g (into g (first_block writes_values g) 0)

  -- the first block of a kind has its labels
  first-allowed : (test : Kind → Bool) (k : Kind) → ((j : Kind) → test j ≡ true → j ≡ k) → is_written test g ≡ true
      → (first_block test g < length g.blocks)
      × Allowed p k (map (label_on g) (block g (first_block test g)).ins) (map (label_on g) (block g (first_block test g)).outs)
  first-allowed test k only e =
      let there : first_block test g < length g.blocks = ltb-true (first_block test g) (length g.blocks) e in
      let is = only (block g (first_block test g)).kind (passes_at_first (λ (b : Block). test b.kind) g.blocks no_block there) in (
        there,
        subst
            (λ (j : Kind). Allowed p j (map (label_on g) (block g (first_block test g)).ins) (map (label_on g) (block g (first_block test g)).outs))
            is (met (first_block test g) there),
      )

  abbrev port_of : (b : ℕ) (stream : ℕ → List Token) (c : List Label) → PortsAllow (c ∷ []) (map (label_on g) (block g b).ins)
      → IsOneOf (label_on g (into g b 0)) c × (0 < length (block g b).ins)
      × (port 0 (map stream (block g b).ins) ≡ stream (into g b 0))
  port_of b stream c x = one-port (label_on g) stream c (block g b).ins x

  pub level-takes : (d : ℕ) → is_written (writes_level d) g ≡ true → IsOneOf (level_label d) (written_labels p d)
  level-takes d e =
      let x = first-allowed (writes_level d) (kind.WriteLevel d) (is-level-writer d) e in
      (port_of (first_block (writes_level d) g) (λ _. []) (written_labels p d) x.1.ins_are).0

  pub value-takes : is_written writes_values g ≡ true → IsOneOf value_label (written_value_labels p)
  value-takes e =
      let x = first-allowed writes_values kind.WriteValue is-values-writer e in
      (port_of (first_block writes_values g) (λ _. []) (written_value_labels p) x.1.ins_are).0

  -- and the stream of that label
  module _ (storages : List Ranked) (stream : Label → List Token)
      (holds : (c : ℕ) → c < length g.channels → whole_stream storages g c ≡ stream (label_on g c)) where
    pub level-streams : (d : ℕ) → is_written (writes_level d) g ≡ true → level_stream storages g d ≡ stream (level_label d)
    level-streams d e =
        let b = first_block (writes_level d) g in
        let x = first-allowed (writes_level d) (kind.WriteLevel d) (is-level-writer d) e in
        let y = port_of b (whole_stream storages g) (written_labels p d) x.1.ins_are in
        y.2 ∙ holds (into g b 0) (w.in_named b 0 x.0 y.1).0

    pub value-streams : is_written writes_values g ≡ true → value_stream storages g ≡ stream value_label
    value-streams e =
        let b = first_block writes_values g in
        let x = first-allowed writes_values kind.WriteValue is-values-writer e in
        let y = port_of b (whole_stream storages g) (written_value_labels p) x.1.ins_are in
        y.2 ∙ holds (into g b 0) (w.in_named b 0 x.0 y.1).0
