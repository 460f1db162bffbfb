-- The graph of a program meets the rules on writers and on labels.
use Rattle.std.specs.Prelude.{◌≡◌, ◌<◌, ◌≤◌, ℕ, zero, suc, ◌+◌, ◌-◌, Bool, true, false, None, List, [], ◌∷◌, length, ltb, leb, refl}
use Rattle.std.specs.List.{list_all, range_with_len}
use Rattle.std.proofs.Common.{arith, sym, ◌∙◌, ap, subst, ◌⊎◌, inl, inr}
use Rattle.std.proofs.lemmas.Bool.{and_parts, cases_lt, lt-ltb, le-leb, leb-true}
use Rattle.std.proofs.lemmas.Bool.Decides.{nat_tests}
use Rattle.sam_model.specs.declared.program.Term.{Term}
use Rattle.sam_model.specs.declared.program.Program.{Program}
use Rattle.sam_model.specs.Program.{accepted}
use Rattle.stream_model.specs.Labels.{result_sizes}
use Rattle.stream_model.specs.declared.labels.Label.{Label}
use Rattle.graph.specs.declared.graphs.Block.{Block}
use Rattle.graph.specs.declared.graphs.Kind.{Kind}
use Rattle.graph.specs.declared.graphs.Kind.TheVariants as kind
use Rattle.graph.specs.declared.graphs.Graph.{Graph}
use Rattle.graph.specs.Wiring.{block}
use Rattle.graph.specs.Writers.{writes_level, writes_values, first_block}
use Rattle.label_rules.specs.Rules.{Allowed}
use Rattle.label_rules.specs.Holding.{RulesMet}
use Rattle.label_rules.specs.Plans.{plan_of}
use Rattle.label_rules.proofs.rules.Exact.{gives-allowed}
use Rattle.label_rules.proofs.term.SmallPlans.{some_term}
use Rattle.custard_lower.specs.declared.drafts.Made.{Made}
use Rattle.custard_lower.specs.DraftGraph.{graph_of, made_at, fan_of}
use Rattle.custard_lower.specs.Fans.{ending_kind}
use Rattle.custard_lower.specs.declared.reductions.Levels.{Levels}
use Rattle.custard_lower.specs.Lowering.{root, term_levels, first_level_tree, with_terms, with_writers, draft_of}
use Rattle.custard_lower.specs.Lowered.{low}
use Rattle.custard_lower.proofs.draft.GraphPlaces.{draft-blocks-within, block-of-ending, ending-found}
use Rattle.custard_lower.proofs.draft.DraftStreams.{kind-of-draft, first-block-of-draft}
use Rattle.custard_lower.proofs.join.AllTerms.{terms-stand}
use Rattle.custard_lower.proofs.term.PlainRules.{PlainRules}
use Rattle.custard_lower.proofs.written.LowGraph.{low-allowed}
use Rattle.custard_lower.proofs.written.ResultGraph.{ResultStands}
use Rattle.custard_lower.proofs.written.WritersSound.{level-block, value-block, written-number, level-first, value-first}
use Rattle.graph_check.specs.Writers.{is_written, all_written, writes_first}
use Rattle.graph_check.specs.Faults.{first_failing, writers_fault, labels_allowed, labels_fault}
use Rattle.graph_check.specs.Laws.{LoweredGraphMeets}
use Rattle.graph_check.proofs.FirstFailing.{all-pass}

-- a test that holds of each number of a range
all-range : (test : ℕ → Bool) (a n : ℕ) → ((k : ℕ) → a ≤ k → k < a + n → test k ≡ true) → list_all test (range_with_len a n) ≡ true
all-range test a zero h = refl
all-range test a (suc n) h =
    rw (h a (omega arith) (omega arith), all-range test (a + 1) n (λ k low high. h k (omega (arith, low)) (omega (arith, high)))) refl

no-drain-fault : (r : ℕ) (g : Graph) (b n : ℕ) → writes_first r g b (ending_kind n) ≡ true
no-drain-fault r g b zero = refl
no-drain-fault r g b (suc n) = refl

-- ---- a draft that ends with the writers of the result

module _ (p : Program) (l : Levels) (x : ResultStands p (PlainRules p) l) (met : RulesMet (Allowed p) (graph_of (with_writers l))) where
  abbrev made : List Made
  made = with_writers l

  abbrev g : Graph
  g = graph_of made

  abbrev r : ℕ
  r = length (result_sizes p)

  abbrev n : ℕ
  n = length l.made

  many : length made ≡ n + length l.coordinates + 1
  many = written-number (PlainRules p) l x.sound

  first_level : (d : ℕ) → d < r → first_block (writes_level (suc d)) g ≡ n + d
  first_level d i =
      let count = x.count in
      let first = level-first (PlainRules p) l x.sound d (omega (arith, i, count)) in
      first-block-of-draft made (writes_level (suc d)) (omega (arith, first, many, count, i)) ∙ first

  first_value : first_block writes_values g ≡ n + r
  first_value =
      let count = x.count in
      let first = value-first (PlainRules p) l x.sound in
      first-block-of-draft made writes_values (omega (arith, first, many)) ∙ first ∙ ap (λ (k : ℕ). n + k) count

  -- a level that is written is one of the result's
  level_writes : (b d : ℕ) → ((some : 0 < d) → d ≤ r → b ≤ n + (d - 1)) → (ins outs : List Label) → Allowed p (kind.WriteLevel d) ins outs
      → writes_first r g b (kind.WriteLevel d) ≡ true
  level_writes b zero low ins outs a = let h : false ≡ true = a.holds in absurd (cc)
  level_writes b (suc d) low ins outs a =
      let most : suc d ≤ r = leb-true (suc d) r (and_parts (ltb 0 (suc d)) (leb (suc d) r) a.holds).1 in
      let first : first_block (writes_level (suc d)) g ≡ n + d = first_level d (omega (arith, most)) in
      let here : b ≤ n + (suc d - 1) = low (omega arith) most in
      rw (lt-ltb 0 (suc d) (omega arith), le-leb (suc d) r most)
      (le-leb b (first_block (writes_level (suc d)) g) (omega (arith, first, here)))

  -- before the writers
  early : (b : ℕ) → b ≤ n → (k : Kind) (ins outs : List Label) → Allowed p k ins outs → writes_first r g b k ≡ true
  early b i (kind.WriteLevel d) ins outs a = level_writes b d (λ some most. omega (arith, i)) ins outs a
  early b i kind.WriteValue ins outs a = le-leb b (first_block writes_values g) (omega (arith, first_value, i))
  early b i other ins outs a = refl

  -- a writer of a level, and that of the values
  at_level : (d : ℕ) → d < r → writes_first r g (n + d) (kind.WriteLevel (suc d)) ≡ true
  at_level d i =
      let first = first_level d i in
      rw (lt-ltb 0 (suc d) (omega arith), le-leb (suc d) r (omega (arith, i)))
      (le-leb (n + d) (first_block (writes_level (suc d)) g) (omega (arith, first)))

  at_values : writes_first r g (n + r) kind.WriteValue ≡ true
  at_values = le-leb (n + r) (first_block writes_values g) (omega (arith, first_value))

  each_first : (b : ℕ) → b < length g.blocks → writes_first r g b (block g b).kind ≡ true
  each_first b i = by_start (cases_lt b n)
    where
      count : length l.coordinates ≡ r
      count = x.count

      ended : length made ≤ b → writes_first r g b (block g b).kind ≡ true
      ended far =
          let e = ending-found made b far i in
          let is : (block g b).kind ≡ ending_kind (length (fan_of made e.output).readers) =
          ap (λ (c : ℕ). (block g c).kind) e.stands ∙ ap (λ (c : Block). c.kind) (block-of-ending made e.output e.output_in e.ended) in
          ap (writes_first r g b) is ∙ no-drain-fault r g b (length (fan_of made e.output).readers)

      by_end : (b < n + r + 1) ⊎ (n + r + 1 ≤ b) → n + r ≤ b → writes_first r g b (block g b).kind ≡ true
      by_end (inl near) far =
          let is : b ≡ n + r = omega (arith, near, far) in
          let kind_is : (block g (n + r)).kind ≡ kind.WriteValue =
          kind-of-draft made (n + r) (omega (arith, many, count))
          ∙ ap (λ (k : ℕ). (made_at made (n + k)).kind) (sym count)
          ∙ ap (λ (m : Made). m.kind) (value-block (PlainRules p) l x.sound) in
          ap (λ (c : ℕ). writes_first r g c (block g c).kind) is ∙ ap (writes_first r g (n + r)) kind_is ∙ at_values
      by_end (inr past) far = ended (omega (arith, past, many, count))

      by_levels : (b < n + r) ⊎ (n + r ≤ b) → n ≤ b → writes_first r g b (block g b).kind ≡ true
      by_levels (inl near) far =
          let d : ℕ = b - n in
          let is : b ≡ n + d = omega (arith, far) in
          let low : d < r = omega (arith, near, far) in
          let kind_is : (block g (n + d)).kind ≡ kind.WriteLevel (suc d) =
          kind-of-draft made (n + d) (omega (arith, many, count, low))
          ∙ ap (λ (m : Made). m.kind) (level-block (PlainRules p) l x.sound d (omega (arith, low, count))) in
          ap (λ (c : ℕ). writes_first r g c (block g c).kind) is ∙ ap (writes_first r g (n + d)) kind_is ∙ at_level d low
      by_levels (inr past) far = by_end (cases_lt b (n + r + 1)) past

      by_start : (b < n) ⊎ (n ≤ b) → writes_first r g b (block g b).kind ≡ true
      by_start (inl near) = early b (omega (arith, near)) (block g b).kind _ _ (met b i)
      by_start (inr far) = by_levels (cases_lt b (n + r)) far

  all_there : all_written r g ≡ true
  all_there =
      let count = x.count in
      let within = draft-blocks-within made in
      let levels = all-range (λ d. is_written (writes_level d) g) 1 r (level_there count within) in
      let values : is_written writes_values g ≡ true =
      lt-ltb (first_block writes_values g) (length g.blocks) (omega (arith, first_value, within, many, count)) in
      rw (levels, values) refl
    where
      level_there : length l.coordinates ≡ r → length made ≤ length g.blocks → (d : ℕ) → 1 ≤ d → d < 1 + r → is_written (writes_level d) g ≡ true
      level_there count within zero low high = absurd (omega (arith, low))
      level_there count within (suc d) low high =
          let first = first_level d (omega (arith, high)) in
          lt-ltb (first_block (writes_level (suc d)) g) (length g.blocks) (omega (arith, first, within, many, count, high))

  pub writers-meet : writers_fault p g ≡ None
  writers-meet =
      let all : first_failing (λ b. writes_first r g b (block g b).kind) (length g.blocks) ≡ length g.blocks =
      all-pass (λ b. writes_first r g b (block g b).kind) (length g.blocks) each_first in
      let far : leb (length g.blocks) (first_failing (λ b. writes_first r g b (block g b).kind) (length g.blocks)) ≡ true =
      le-leb (length g.blocks) (first_failing (λ b. writes_first r g b (block g b).kind) (length g.blocks)) (omega (arith, all)) in
      rw (far, all_there) refl

-- ---- the graph of a program

module _ (p : Program) (ok : accepted p ≡ true) where
  labels-meet : labels_fault p (low p) ≡ None
  labels-meet =
      let n : ℕ = length (low p).blocks in
      let all : first_failing (labels_allowed p (low p)) n ≡ n =
      all-pass (labels_allowed p (low p)) n (λ b i. gives-allowed p _ _ _ (low-allowed p ok b i)) in
      let far : ltb (first_failing (labels_allowed p (low p)) n) n ≡ false = grind (arith, nat_tests, all) in
      rw far refl

  writers-of-low : writers_fault p (low p) ≡ None
  writers-of-low = by_terms p.terms refl
    where
      by_terms : (ts : List Term) → p.terms ≡ ts → writers_fault p (low p) ≡ None
      by_terms [] e = let some = some_term p ok in let n = ap (λ (ts : List Term). length ts) e in absurd (omega (arith, some, n))
      by_terms (t ∷ ts) e =
          let l = with_terms p 1 (first_level_tree 0 (plan_of p true t)) (term_levels 0 (plan_of p true t) (root ∷ [])) ts in
          let is : low p ≡ graph_of (with_writers l) = ap graph_of (ap (draft_of p) e) in
          subst (λ (g : Graph). writers_fault p g ≡ None) (sym is)
          (writers-meet p l (terms-stand p ok t ts e) (subst (RulesMet (Allowed p)) is (low-allowed p ok)))

pub lowered-meets : LoweredGraphMeets
lowered-meets p ok = (writers-of-low p ok, labels-meet p ok)
