-- The graph of a draft whose levels and values are the result's, by any rules that hold of labels: the writers leave the tensor.
use Rattle.std.specs.Prelude.{◌≡◌, ◌<◌, ◌≤◌, ℕ, zero, suc, ◌+◌, Bool, List, [], ◌∷◌, length, get_or, refl}
use Rattle.std.specs.List.{position_or_len, range_with_len}
use mathlib.Core.List.{map}
use Rattle.std.proofs.Common.{arith, sym, ◌∙◌, ap, subst}
use Rattle.stream_tokens.specs.declared.Token.{Token}
use Rattle.sam_model.specs.declared.tensors.Entries.{Entries}
use Rattle.sam_model.specs.declared.tensors.Written.{Written}
use Rattle.sam_model.specs.declared.program.Program.{Program}
use Rattle.sam_model.specs.Children.{Ranked}
use Rattle.stream_model.specs.declared.labels.Label.{Label}
use Rattle.stream_model.specs.Labels.{label_stream, result_sizes}
use Rattle.block_core.specs.Ports.{port}
use Rattle.block_core.specs.Written.{segs_of, crds_of, vals_of}
use Rattle.graph.specs.declared.graphs.Graph.{Graph}
use Rattle.graph.specs.declared.graphs.Kind.{Kind}
use Rattle.graph.specs.declared.graphs.Kind.TheVariants as kind
use Rattle.graph.specs.WholeStreams.{whole_inputs}
use Rattle.graph.specs.Wiring.{WellFormed}
use Rattle.graph.specs.Assembly.{KindInRange, FewPayloads, payloads_of}
use Rattle.graph.specs.Writers.{writes_level, writes_values, first_block, level_stream, value_stream, written_listing}
use Rattle.custard_lower.specs.declared.drafts.Made.{Made}
use Rattle.custard_lower.specs.Drafts.{label_at}
use Rattle.custard_lower.specs.DraftGraph.{graph_of, made_at, ReadsWithin}
use Rattle.custard_lower.proofs.draft.SmallGraphs.{reads-of-ruled}
use Rattle.custard_lower.specs.Reductions.{Levels}
use Rattle.custard_lower.specs.Lowering.{with_writers}
use Rattle.custard_lower.specs.Lowered.{Carries}
use Rattle.label_rules.specs.Storages.{storages_of}
use Rattle.label_rules.specs.Holding.{Rules, RulesMet, LabelsHold}
use Rattle.custard_lower.proofs.draft.Emitted.{Stands, Unwritten, Sound, stands-on}
use Rattle.custard_lower.proofs.draft.DraftRuled.{Arity, Ends, draft-formed, draft-allowed}
use Rattle.custard_lower.proofs.draft.DraftStreams.{draft-whole-inputs, first-block-of-draft}
use Rattle.custard_lower.proofs.written.WritersSound.{Writable, written-sound, level-block, value-block, written-number, level-first, value-first, written-extends}
use Rattle.custard_lower.proofs.written.WrittenEntries.{ListsResult, streams_written}

-- What rules have to give, over a program: as many labels as ports, drains and casts, tensors that are there, few payloads; and that
-- in a well formed graph that keeps to them each channel carries the stream of its label.
pub record RulesServe (p : Program) (good : Label → Type 0) (rules : Rules) : Type 0 where
  pub arity : Arity rules
  pub ends : Ends rules
  pub in_range : (es : List Entries) → length es ≡ length p.tensors → (k : Kind) (ins outs : List Label) → rules k ins outs
      → KindInRange (storages_of p es) k
  pub few : (k : Kind) (ins outs : List Label) → rules k ins outs → payloads_of k ≤ 8
  pub holds : (es : List Entries) → length es ≡ length p.tensors → (g : Graph) → WellFormed g → RulesMet rules g
      → LabelsHold (storages_of p es) (label_stream p es) good g

-- how many levels the result has
abbrev pub result_levels : Program → ℕ
result_levels p = length (result_sizes p)

-- The outputs of a draft on which the coordinates of each level of the result, counted from 1, and its values stand: the rules
-- allow its writers, and what is written of these streams is the result.
pub record ResultStands (p : Program) (rules : Rules) (l : Levels) : Type 0 where
  pub sound : Sound (Unwritten rules) l.made
  pub count : length l.coordinates ≡ result_levels p
  pub level : ℕ → Label
  pub values : Label
  pub levels_stand : (d : ℕ) → d < result_levels p → Stands l.made (get_or l.coordinates d 0) (level (suc d))
  pub levels_written : (d : ℕ) → d < result_levels p → rules (kind.WriteLevel (suc d)) (level (suc d) ∷ []) []
  pub values_stand : Stands l.made l.values values
  pub values_written : rules kind.WriteValue (values ∷ []) []
  pub lists : (es : List Entries) → length es ≡ length p.tensors
      → ListsResult p es (result_levels p)
      (streams_written (λ d. label_stream p es (level d)) (result_levels p) (vals_of (label_stream p es values)))

module _ (p : Program) (good : Label → Type 0) (rules : Rules) (serve : RulesServe p good rules) (l : Levels) (x : ResultStands p rules l) where
  abbrev made : List Made
  made = with_writers l

  abbrev g : Graph
  g = graph_of made

  each_writable : (d : ℕ) → d < length l.coordinates → Writable rules l x.sound l.made d
  each_writable d i =
      let n = x.count in
      let j : d < result_levels p = omega (arith, i, n) in
      (x.level (suc d), x.levels_stand d j, x.levels_written d j)

  checked : Sound rules made
  checked = written-sound rules l x.sound x.values x.values_stand x.values_written each_writable

  -- The graph is well formed.
  pub result-formed : WellFormed g
  result-formed = draft-formed rules serve.arity serve.ends made checked

  -- Its labels are allowed.
  pub result-allowed : RulesMet rules g
  result-allowed = draft-allowed rules serve.arity serve.ends made checked

  -- Its blocks bring few payloads together.
  pub result-few : FewPayloads g
  result-few b i = serve.few _ _ _ (result-allowed b i)

  -- The draft reads outputs that are there.
  pub result-reads : ReadsWithin made
  result-reads = reads-of-ruled rules (label_at made) made checked

  module _ (es : List Entries) (same : length es ≡ length p.tensors) where
    abbrev storages : List Ranked
    storages = storages_of p es

    abbrev stream : Label → List Token
    stream c = label_stream p es c

    holds : LabelsHold storages stream good g
    holds = serve.holds es same g result-formed result-allowed

    abbrev streams_of : ℕ → List Token
    streams_of d = stream (x.level d)

    abbrev value_stream_of : List Token
    value_stream_of = stream x.values

    -- ---- the streams that reach the writers

    reaches : (test : Kind → Bool) (b w : ℕ) (c : Label) → position_or_len (λ m. test m.kind) made ≡ b → b < length made
        → (made_at made b).ins ≡ w ∷ [] → Stands l.made w c → port 0 (whole_inputs storages g (first_block test g)) ≡ stream c
    reaches test b w c first i ins stand =
        let there : position_or_len (λ m. test m.kind) made < length made = omega (arith, first, i) in
        let here = stands-on l.made made w c (written-extends rules l x.sound) stand in
        ap (λ (x : ℕ). port 0 (whole_inputs storages g x)) (first-block-of-draft made test there ∙ first)
        ∙ ap (port 0) (draft-whole-inputs rules serve.arity serve.ends made checked storages stream good holds b i)
        ∙ ap (λ (ws : List ℕ). port 0 (map (λ w. stream (label_at made w)) ws)) ins
        ∙ ap stream here.label_is

    level_reached : (d : ℕ) → d < result_levels p → level_stream storages g (suc d) ≡ streams_of (suc d)
    level_reached d j =
        let n = x.count in
        let i : d < length l.coordinates = omega (arith, j, n) in
        let many = written-number rules l x.sound in
        reaches (writes_level (suc d)) (length l.made + d) (get_or l.coordinates d 0) (x.level (suc d))
        (level-first rules l x.sound d i) (omega (arith, i, many))
        (ap (λ (m : Made). m.ins) (level-block rules l x.sound d i)) (x.levels_stand d j)

    values_reached : value_stream storages g ≡ value_stream_of
    values_reached =
        let many = written-number rules l x.sound in
        reaches writes_values (length l.made + length l.coordinates) l.values x.values
        (value-first rules l x.sound) (omega (arith, many))
        (ap (λ (m : Made). m.ins) (value-block rules l x.sound)) x.values_stand

    -- ---- what the writers leave

    on_range : {A : Type 0} (f h : ℕ → A) (a n : ℕ) → ((k : ℕ) → a ≤ k → k < a + n → f k ≡ h k)
        → map f (range_with_len a n) ≡ map h (range_with_len a n)
    on_range f h a zero e = refl
    on_range f h a (suc n) e =
        rw (e a (omega arith) (omega arith), on_range f h (a + 1) n (λ k i j. e k (omega (arith, i)) (omega (arith, j)))) refl

    level_told : {A : Type 0} (f : ℕ → List Token → A) (k : ℕ) → 1 ≤ k → k < 1 + result_levels p
        → f k (level_stream storages g k) ≡ f k (streams_of k)
    level_told f zero i j = absurd (omega (arith, i))
    level_told f (suc d) i j = ap (f (suc d)) (level_reached d (omega (arith, j)))

    listed : written_listing storages g (result_levels p) ≡ streams_written streams_of (result_levels p) (vals_of value_stream_of)
    listed =
        let segs =
        on_range (λ k. segs_of k (level_stream storages g k)) (λ k. segs_of k (streams_of k)) 1 (result_levels p)
        (level_told segs_of) in
        let crds =
        on_range (λ k. crds_of (level_stream storages g k)) (λ k. crds_of (streams_of k)) 1 (result_levels p)
        (level_told (λ k s. crds_of s)) in
        rw (segs, crds, values_reached) refl

    tensor : ListsResult p es (result_levels p) (written_listing storages g (result_levels p))
    tensor = subst (λ (w : Written). ListsResult p es (result_levels p) w) (sym listed) (x.lists es same)

    -- The graph carries the program.
    pub result-carries : Carries p g es
    result-carries = record {
      in_range = λ b i. serve.in_range es same _ _ _ (result-allowed b i);
      consistent = holds.consistent;
      labels = holds.labels;
      written_in_range = tensor.0;
      written_tensor = tensor.1;
    }
