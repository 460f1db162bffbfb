-- The rules of the blocks that drop coordinates are sound.
use Rattle.std.specs.Prelude.{◌≡◌, ◌<◌, ◌≤◌, ℕ, suc, ◌-◌, true, List, [], ◌∷◌, length, refl}
use Rattle.std.proofs.Common.{arith, ◌∙◌, ap}
use Rattle.stream_tokens.specs.declared.Token.{Token}
use Rattle.sam_model.specs.declared.tensors.Entries.{Entries}
use Rattle.sam_model.specs.declared.program.Program.{Program}
use Rattle.sam_model.specs.Program.{accepted}
use Rattle.stream_model.specs.declared.labels.Attr.TheVariants.{Coordinate, Value}
use Rattle.stream_model.specs.declared.labels.Label.{Label}
use Rattle.stream_model.specs.Terms.{TermData, summands}
use Rattle.stream_model.specs.Trees.{free_count, reduced_sizes}
use Rattle.stream_model.specs.Labels.{result_sizes, reduced_shape, stream_at, label_stream, term_at}
use Rattle.stream_model.proofs.Results.{accepted-sized, length-summands}
use Rattle.graph.specs.declared.graphs.Kind.TheVariants as kind
use Rattle.label_rules.specs.Plans.{free_marks}
use Rattle.label_rules.specs.Storages.{storages_of}
use Rattle.label_rules.proofs.term.Matching.{Matches}
use Rattle.label_rules.proofs.laws.JoinSides.{sized-at}
use Rattle.label_rules.proofs.term.Loops.{levels-passed}
use Rattle.label_rules.proofs.term.Marks.{left-marks, free-marks, counted-marks}
use Rattle.label_rules.proofs.laws.DropLaws.{drop-value-gives, drop-fiber-gives}
use Rattle.label_rules.specs.Labels.{PortsAllow}
use Rattle.label_rules.specs.TermLabels.{plan_at, reduced_label, loop_count, coordinate_labels, value_labels, free_loop_count}
use Rattle.label_rules.specs.Holding.{Shallow, Keeps}
use Rattle.label_rules.proofs.rules.TermRules.{matched, keeps, one-alone}
use Rattle.label_rules.proofs.rules.SumRule.{long, coordinates-alike, values-alike, two}

module _ (p : Program) (es : List Entries) (ok : accepted p ≡ true) (same : length es ≡ length p.tensors) (t : ℕ) (inside : t < length p.terms) where
  abbrev stream : Label → List Token
  stream l = label_stream p es l

  abbrev d_t : TermData
  d_t = term_at p es t

  m : Matches (storages_of p es) d_t (plan_at p t)
  m = matched p es ok same t inside

  pub free-is : free_loop_count p t ≡ free_count d_t.loops
  free-is = ap free_marks m.marks ∙ free-marks d_t.loops

  -- what is left are the result's levels
  levels-are : length (reduced_sizes d_t (free_loop_count p t)) ≡ length (result_sizes p)
  levels-are =
      ap (λ (g : ℕ). length (reduced_sizes d_t g)) free-is
      ∙ ap (λ (xs : List ℕ). length xs)
      (sized-at (result_sizes p) (summands p es) t (accepted-sized p es ok) (let n = length-summands p es p.terms in omega (arith, n, inside)))

  pub as_many : loop_count p t - free_loop_count p t ≡ length (result_sizes p)
  as_many =
      let a = long p es ok same t inside in
      let b = free-is in
      let c = counted-marks d_t.loops in
      let d = left-marks d_t.loops in
      let e = levels-passed d_t [] d_t.loops (free_count d_t.loops) (record { loops_are = refl; gone = refl; few = m.few_loops }) in
      let f = levels-are in
      let g : length (reduced_sizes d_t (free_loop_count p t)) ≡ length (reduced_sizes d_t (free_count d_t.loops)) = ap (λ (n : ℕ). length (reduced_sizes d_t n)) free-is in
      omega (arith, a, b, c, d, e, f, g)

  pub few : length (result_sizes p) < 9
  few = let a = as_many in let b = long p es ok same t inside in let c = m.few_loops in omega (arith, a, b, c)

  deep : length (result_sizes p) ≤ length d_t.loops
  deep = let a = as_many in let b = long p es ok same t inside in omega (arith, a, b)

  pub dropvalue-keeps : (e : ℕ) (ins outs : List Label) → length (result_sizes p) ≡ suc e
      → PortsAllow (coordinate_labels p t (free_loop_count p t) (suc e) ∷ value_labels p t (free_loop_count p t) ∷ []) ins
      → outs ≡ reduced_label p t (free_loop_count p t) (suc e) (suc e) Coordinate ∷ reduced_label p t (free_loop_count p t) (suc e) (suc e) Value ∷ []
      → Keeps (storages_of p es) stream Shallow kind.DropValue ins outs
  dropvalue-keeps e ins outs size i o =
      let g = free_loop_count p t in
      let x = two p es ok same t inside (coordinate_labels p t g (suc e)) (value_labels p t g) ins i in
      let c = coordinates-alike p es ok same t inside g e x.0 (omega (arith, few, size)) (omega (arith, deep, size)) x.3 in
      let v : stream x.1 ≡ stream_at (reduced_shape d_t g 9 (suc e)) Value =
      values-alike p es ok same t inside g x.1 x.4 ∙ ap (λ (k : ℕ). stream_at (reduced_shape d_t g 9 k) Value) (as_many ∙ size) in
      let low : suc e ≤ 8 = omega (arith, few, size) in
      keeps p es ok same kind.DropValue ins outs (x.0 ∷ x.1 ∷ []) _ x.2 o ((low, tt), ((low, tt), tt))
      (rw (c, v) (drop-value-gives d_t g (suc e) (levels-are ∙ size) (omega arith) (omega (arith, low))))

  pub dropfiber-keeps : (e : ℕ) (ins outs : List Label) → suc e < length (result_sizes p)
      → PortsAllow (coordinate_labels p t (free_loop_count p t) (suc e) ∷ (reduced_label p t (free_loop_count p t) (suc (suc e)) (suc (suc e)) Coordinate ∷ []) ∷ []) ins
      → outs ≡ reduced_label p t (free_loop_count p t) (suc e) (suc e) Coordinate ∷ reduced_label p t (free_loop_count p t) (suc e) (suc (suc e)) Coordinate ∷ []
      → Keeps (storages_of p es) stream Shallow kind.DropFiber ins outs
  dropfiber-keeps e ins outs below i o =
      let g = free_loop_count p t in
      let x = two p es ok same t inside (coordinate_labels p t g (suc e)) (reduced_label p t g (suc (suc e)) (suc (suc e)) Coordinate ∷ []) ins i in
      let c = coordinates-alike p es ok same t inside g e x.0 (omega (arith, few, below)) (omega (arith, deep, below)) x.3 in
      let v : stream x.1 ≡ stream_at (reduced_shape d_t g (suc (suc e)) (suc (suc e))) Coordinate = ap stream (one-alone x.1 _ x.4) in
      let n = levels-are in
      keeps p es ok same kind.DropFiber ins outs (x.0 ∷ x.1 ∷ []) _ x.2 o
      ((omega (arith, few, below), tt), ((omega (arith, few, below), tt), tt))
      (rw (c, v) (drop-fiber-gives d_t g (suc e) (omega arith) (omega (arith, below, n)) (omega (arith, few, n))))
