-- The streams of the labels of a fused graph, told of the prefixes of the shared levels and of those beneath them.
use Rattle.std.specs.Prelude.{◌≡◌, ◌<◌, ◌≤◌, ℕ, zero, suc, ◌-◌, ◌%◌, ◌^◌, Bool, true, false, cond, List, [], ◌∷◌, length, take, eqb, ltb, Some, None, refl}
use Rattle.std.proofs.Math.Path.{fun_ext}
use Rattle.std.proofs.Math.Nat.{mod-mod}
use Rattle.std.proofs.Common.{arith, sym, ◌∙◌, ap, mul-one, take_all, inl, inr}
use Rattle.std.proofs.lemmas.Bool.{ltb-true}
use Rattle.std.proofs.lemmas.Bool.Decides.{nat_tests}
use Rattle.stream_tokens.specs.declared.Token.{Token}
use Rattle.sam_model.specs.Tensors.{value_at}
use Rattle.sam_model.specs.declared.tensors.Entries.{Entries}
use Rattle.sam_model.specs.declared.program.Program.{Program}
use Rattle.sam_model.specs.Program.{accepted}
use Rattle.stream_model.specs.declared.labels.Attr.{Attr}
use Rattle.stream_model.specs.declared.labels.Attr.TheVariants.{Coordinate, Rank, FactorValue, Partial, Whole, Literal}
use Rattle.stream_model.specs.declared.labels.Label.{Label}
use Rattle.stream_model.specs.declared.labels.Tree.TheVariants.{Across, Under}
use Rattle.stream_model.specs.Grow.{path_fibers}
use Rattle.stream_model.specs.Terms.{TermData, Operand, summands, restricted, access_at, partial_product, whole_product}
use Rattle.stream_model.specs.Trees.{in_whole, value_reduced, reduced_sizes}
use Rattle.stream_model.specs.Fused.{shared_levels, in_under_reduced}
use Rattle.stream_model.specs.Labels.{bits, only_where, token, product_shape, across_shape, under_shape, stream_at, label_stream, term_at}
use Rattle.stream_model.specs.Masks.{final}
use Rattle.stream_model.specs.Tellings.{Prefixes, Telling, told, coordinate}
use Rattle.stream_model.proofs.Levels.{told-stream, stream-over}
use Rattle.stream_model.proofs.Reduced.{kept-all}
use Rattle.stream_model.proofs.Bridges.{whole-plain}
use Rattle.label_rules.specs.Labels.{IsOneOf}
use Rattle.label_rules.specs.Storages.{storages_of}
use Rattle.label_rules.specs.TermLabels.{plan_at, loop_count, factor_count, plan_coefficient, full_mask}
use Rattle.label_rules.proofs.term.Matching.{Matches}
use Rattle.label_rules.proofs.term.Asked.{asked-mask}
use Rattle.label_rules.proofs.rules.TermRules.{matched, loops-are}
use Rattle.label_rules.proofs.rules.SumRule.{coefficient-is}
use Rattle.label_rules.proofs.laws.ScanLaw.{ranks}
use Rattle.label_rules.proofs.laws.ArrayLaw.{factors}
use Rattle.label_rules.proofs.laws.ValueLaws.{root-reference}
use Rattle.label_rules.proofs.shared.UnderLaws.{references, under-references, across-references}
use Rattle.label_rules.proofs.shared.FusedValues.{whole-values}
use Rattle.custard_fuse.specs.Fusing.{is_fused}
use Rattle.custard_fuse.specs.FusedRules.{fused_reference, level_label, fused_bottom, fused_products, fused_values}
use Rattle.custard_fuse.proofs.FusedPlans.{levels-within, some-levels}
use Rattle.custard_fuse.proofs.FusedTerms.{founded, all-terms, frame, frame-joint, reduced-frame, across-told, under-told, told-where}

-- what is told alike of each prefix makes the same stream
pub told-alike : (x y : Telling) (fs : Prefixes) → ((q : List ℕ) → x q ≡ y q) → told x fs ≡ told y fs
told-alike x y fs e = ap (λ (z : Telling). told z fs) (fun_ext e)

-- the products of one factor and of all
first_product : (accesses : List Operand) (q : List ℕ) → 0 < length accesses
    → value_at (access_at accesses 0).tensor (restricted (access_at accesses 0) q) ≡ partial_product (take 1 accesses) q
first_product [] q some = absurd (omega (arith, some))
first_product (a ∷ accesses) q some = sym (ap (λ (n : ℕ). n % 2 ^ 64) (mul-one _) ∙ mod-mod _ (2 ^ 64))

module _ (p : Program) (ok : accepted p ≡ true) (fused : is_fused p ≡ true) (es : List Entries) (same : length es ≡ length p.tensors)
    (n : ℕ) (inside : n < length p.terms) where
  abbrev stream : Label → List Token
  stream l = label_stream p es l

  abbrev t : TermData
  t = term_at p es n

  m : Matches (storages_of p es) t (plan_at p n)
  m = matched p es ok same n inside

  abbrev last : ℕ
  last = length p.terms - 1

  abbrev levels : ℕ
  levels = shared_levels p

  -- how many loops there are
  abbrev pub loops : ℕ
  loops = loop_count p n

  pub loops-long : loops ≡ length t.loops
  loops-long = loops-are p es ok same n inside

  first_term : 0 < length p.terms
  first_term = omega (arith, inside)

  -- the mask of all accesses that have a loop is the final one of its level
  pub mask-is : (d : ℕ) → bits (length t.accesses) (full_mask p n d) ≡ final t (suc d)
  mask-is d = asked-mask (storages_of p es) t (plan_at p n) m d

  abbrev pub fs : ℕ → Prefixes
  fs d = frame p ok fused es same n inside d

  -- ---- references and coordinates

  pub reference-is : (d f : ℕ) → stream (fused_reference p n d f) ≡ references levels (summands p es) (founded p ok fused es same) t d f
  reference-is zero f = sym (root-reference t (final t 0) f) ∙ stream-over (product_shape t 0 (final t 0)) (Rank f)
  reference-is (suc d) f = by_case (ltb d levels) refl
    where
      by_case : (b : Bool) → ltb d levels ≡ b
          → stream (cond b (record { tree = Across last n (suc d); attr = Rank f }) (record { tree = Under n (suc d) (full_mask p n d); attr = Rank f }))
          ≡ references levels (summands p es) (founded p ok fused es same) t (suc d) f
      by_case true e =
          let less = ltb-true d levels e in
          across-references levels (summands p es) last t (founded p ok fused es same) (suc d) f (omega (arith, less)) (all-terms p ok fused es same)
      by_case false e =
          let deep : levels ≤ d = grind (arith, nat_tests, e) in
          ap (λ (mask : List Bool). stream_at (under_shape levels (summands p es) t (suc d) mask) (Rank f)) (mask-is d)
          ∙ under-references levels (summands p es) (founded p ok fused es same) t d f deep

  -- the coordinates of a level, whichever terms have them
  pub level-is : (d : ℕ) → stream (level_label p n d) ≡ told coordinate (fs d)
  level-is zero = refl
  level-is (suc d) = by_case (ltb d levels) refl
    where
      by_case : (b : Bool) → ltb d levels ≡ b
          → stream (cond b (record { tree = Across last 0 (suc d); attr = Coordinate }) (record { tree = Under n (suc d) (full_mask p n d); attr = Coordinate }))
          ≡ told coordinate (fs (suc d))
      by_case true e =
          let less = ltb-true d levels e in
          across-told p ok fused es same 0 first_term (suc d) Coordinate (omega (arith, less))
          ∙ ap (told coordinate)
          (frame-joint p ok fused es same 0 first_term (suc d) (omega (arith, less))
          ∙ sym (frame-joint p ok fused es same n inside (suc d) (omega (arith, less))))
      by_case false e =
          let deep : levels ≤ d = grind (arith, nat_tests, e) in
          ap (λ (mask : List Bool). stream_at (under_shape levels (summands p es) t (suc d) mask) Coordinate) (mask-is d)
          ∙ under-told p ok fused es same n inside d Coordinate deep

  -- ---- below all loops

  -- what a term's factors tell
  pub bottom-is : (a : Attr) (x : Telling)
      → ((d : ℕ) (mask : List Bool) (q : List ℕ) → token (under_shape levels (summands p es) t d mask) a q ≡ x q)
      → ((q : List ℕ) → token (across_shape (summands p es) last t levels) a q ≡ only_where (in_whole t) x q)
      → stream (fused_bottom p n a) ≡ told (only_where (in_whole t) x) (fs loops)
  bottom-is a x under across = by_case (eqb loops levels) refl
    where
      many : levels ≤ loops
      many = levels-within p ok fused n inside

      beneath : (d : ℕ) → loops ≡ suc d → levels ≤ d
          → stream (record { tree = Under n loops (full_mask p n (loops - 1)); attr = a }) ≡ told (only_where (in_whole t) x) (fs loops)
      beneath d e deep =
          let back : loops - 1 ≡ d = omega (arith, e) in
          ap (λ (k : ℕ). stream (record { tree = Under n k (full_mask p n (loops - 1)); attr = a })) e
          ∙ ap (λ (k : ℕ). stream (record { tree = Under n (suc d) (full_mask p n k); attr = a })) back
          ∙ ap (λ (mask : List Bool). stream_at (under_shape levels (summands p es) t (suc d) mask) a) (mask-is d)
          ∙ under-told p ok fused es same n inside d a deep
          ∙ told-alike (token (under_shape levels (summands p es) t (suc d) (final t (suc d))) a) x (fs (suc d)) (under (suc d) (final t (suc d)))
          ∙ told-where p ok fused es same n inside (suc d) x (omega (arith, deep))
          ∙ ap (λ (k : ℕ). told (only_where (in_whole t) x) (fs k)) (sym e)

      by_case : (b : Bool) → eqb loops levels ≡ b
          → stream (record { tree = cond b (Across last n levels) (Under n loops (full_mask p n (loops - 1))); attr = a })
          ≡ told (only_where (in_whole t) x) (fs loops)
      by_case true e =
          let all : levels ≡ loops = grind (arith, nat_tests, e) in
          across-told p ok fused es same n inside levels a (omega arith)
          ∙ told-alike (token (across_shape (summands p es) last t levels) a) (only_where (in_whole t) x) (fs levels) across
          ∙ ap (λ (k : ℕ). told (only_where (in_whole t) x) (fs k)) all
      by_case false e =
          let more : loops ≡ levels → ⊥ = λ k. grind (arith, nat_tests, e, k) in
          let some = some-levels p ok fused in
          beneath (loops - 1) (omega (arith, many, more, some)) (omega (arith, many, more, some))

  abbrev pub of_factor : ℕ → Telling
  of_factor f = only_where (in_whole t) (factors t f)

  abbrev pub of_product : ℕ → Telling
  of_product k = only_where (in_whole t) (λ q. Some (partial_product (take k t.accesses) q))

  abbrev pub of_whole : Telling
  of_whole = only_where (in_whole t) (λ q. Some (whole_product t q))

  abbrev pub of_number : ℕ → Telling
  of_number c = only_where (in_whole t) (λ q. Some c)

  pub rank-is : (f : ℕ) → stream (fused_bottom p n (Rank f)) ≡ references levels (summands p es) (founded p ok fused es same) t (length t.loops) f
  rank-is f =
      bottom-is (Rank f) (ranks t f) (λ d mask q. refl) (λ q. refl)
      ∙ ap (λ (k : ℕ). references levels (summands p es) (founded p ok fused es same) t k f) loops-long

  pub factor-is : (f : ℕ) → stream (fused_bottom p n (FactorValue f)) ≡ told (of_factor f) (fs loops)
  factor-is f = bottom-is (FactorValue f) (factors t f) (λ d mask q. refl) (λ q. refl)

  partial_is : (k : ℕ) → stream (fused_bottom p n (Partial k)) ≡ told (of_product k) (fs loops)
  partial_is k = bottom-is (Partial k) (λ q. Some (partial_product (take k t.accesses) q)) (λ d mask q. refl) (λ q. refl)

  pub whole-is : stream (fused_bottom p n Whole) ≡ told of_whole (fs loops)
  whole-is = bottom-is Whole (λ q. Some (whole_product t q)) (λ d mask q. refl) (λ q. refl)

  pub number-is : (c : ℕ) → stream (fused_bottom p n (Literal c)) ≡ told (of_number c) (fs loops)
  number-is c = bottom-is (Literal c) (λ q. Some c) (λ d mask q. refl) (λ q. refl)

  -- what is alike where the term has the prefix
  where_alike : (x y : Telling) → ((q : List ℕ) → x q ≡ y q) → (q : List ℕ) → only_where (in_whole t) x q ≡ only_where (in_whole t) y q
  where_alike x y e q = ap (λ o. cond (in_whole t q) o None) (e q)

  -- all labels that the product of k factors may have name one stream
  pub products-alike : (k : ℕ) (l : Label) → IsOneOf l (fused_products p n k) → stream l ≡ told (of_product k) (fs loops)
  products-alike k l (inl e) = ap stream e ∙ partial_is k
  products-alike k l (inr x) = by_case (eqb k 1) refl x
    where
      by_case : (b : Bool) → eqb k 1 ≡ b → IsOneOf l (cond b (fused_bottom p n (FactorValue 0) ∷ []) []) → stream l ≡ told (of_product k) (fs loops)
      by_case true e (inl y) =
          let one : k ≡ 1 = grind (arith, nat_tests, e) in
          ap stream y ∙ factor-is 0
          ∙ told-alike (of_factor 0) (of_product 1) (fs loops)
          (where_alike (factors t 0) (λ q. Some (partial_product (take 1 t.accesses) q)) (λ q. ap Some (first_product t.accesses q m.some_access)))
          ∙ ap (λ (i : ℕ). told (of_product i) (fs loops)) (sym one)
      by_case true e (inr y) = absurd y
      by_case false e y = absurd y

  -- so do those of the values where nothing is gone, where the coefficient is 1
  plain_is : (l : Label) → IsOneOf l (cond (eqb (plan_coefficient p n) 1) (fused_products p n (factor_count p n)) []) → stream l ≡ told of_whole (fs loops)
  plain_is l x = by_case (eqb (plan_coefficient p n) 1) refl x
    where
      by_case : (b : Bool) → eqb (plan_coefficient p n) 1 ≡ b → IsOneOf l (cond b (fused_products p n (factor_count p n)) []) → stream l ≡ told of_whole (fs loops)
      by_case true e y =
          let one : plan_coefficient p n ≡ 1 = grind (arith, nat_tests, e) in
          products-alike (factor_count p n) l y
          ∙ told-alike (of_product (factor_count p n)) of_whole (fs loops)
          (where_alike (λ q. Some (partial_product (take (factor_count p n) t.accesses) q)) (λ q. Some (whole_product t q))
          (λ q. ap Some (ap (λ (xs : List Operand). partial_product xs q) (take_all (factor_count p n) t.accesses (let k = m.number in omega (arith, k)))
          ∙ sym (whole-plain t q (sym (coefficient-is p es ok same n inside) ∙ one)))))
      by_case false e y = absurd y

  -- the values where g loops are gone
  abbrev pub reduced_values : ℕ → ℕ → List Token
  reduced_values g d = told (value_reduced t g) (path_fibers (in_under_reduced levels (summands p es) t g) (reduced_sizes t g) d)

  pub values-alike : (g : ℕ) (l : Label) → IsOneOf l (fused_values p n g) → stream l ≡ reduced_values g (loops - g)
  values-alike zero l x =
      by_label x
      ∙ ap (λ (k : ℕ). told of_whole (fs k)) loops-long
      ∙ whole-values levels (summands p es) (founded p ok fused es same) t
      ∙ ap (told (value_reduced t 0)) (sym (reduced-frame p ok fused es same n inside 0 (length t.loops) t.loops [] (kept-all t.loops) (omega arith)))
      ∙ ap (reduced_values 0) all_loops
    where
      all_loops : length t.loops ≡ loops - 0
      all_loops = let k = loops-long in omega (arith, k)

      by_label : IsOneOf l (fused_values p n 0) → stream l ≡ told of_whole (fs loops)
      by_label (inl e) = ap stream e ∙ whole-is
      by_label (inr y) = plain_is l y
  values-alike (suc g) l (inl e) =
      ap stream e ∙ told-stream (value_reduced t (suc g)) (in_under_reduced levels (summands p es) t (suc g)) (reduced_sizes t (suc g)) (loops - suc g)
  values-alike (suc g) l (inr y) = absurd y
