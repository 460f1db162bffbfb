-- All blocks of a fused program keep to the rules, and what its writers leave is the result.
use Rattle.std.specs.Prelude.{◌≡◌, ◌<◌, ◌≤◌, ℕ, zero, suc, ◌+◌, ◌-◌, Bool, true, List, [], ◌∷◌, ◌++◌, length, take, drop, ltb, leb, Some, is_some, refl}
use Rattle.std.specs.List.{filter}
use mathlib.Core.List.{map}
use Rattle.std.proofs.Common.{arith, sym, ◌∙◌, ap, subst, inl}
use Rattle.std.proofs.lemmas.Bool.{and_parts}
use Rattle.std.proofs.lemmas.Bool.Decides.{nat_tests}
use Rattle.stream_tokens.specs.Nest.{Leaf, Fiber}
use Rattle.sam_model.specs.declared.tensors.Entries.{Entries}
use Rattle.sam_model.specs.declared.program.Program.{Program}
use Rattle.sam_model.specs.Program.{accepted}
use Rattle.sam_model.specs.Lists.{tuples}
use Rattle.sam_model.specs.Denote.{pat, den, result_entries}
use Rattle.sam_model.proofs.Lists.{list_any-mono, not-true}
use Rattle.stream_model.specs.declared.labels.Attr.TheVariants.{Coordinate, Value}
use Rattle.stream_model.specs.declared.labels.Label.{Label}
use Rattle.stream_model.specs.Fused.{shared_levels, in_any}
use Rattle.stream_model.specs.Grow.{path_fibers}
use Rattle.stream_model.specs.Joins.{join_upto}
use Rattle.stream_model.specs.Labels.{Shape, result_sizes, label_stream, stream_at, fibers_at, under_joined_shape}
use Rattle.stream_model.specs.Terms.{TermData, Summand, summands}
use Rattle.stream_model.specs.Trees.{everyone, grows, in_whole, pruned_from}
use Rattle.stream_model.proofs.Flat.{ClosedUnder, in_order, in_order-tokens}
use Rattle.stream_model.proofs.Products.{grows-append}
use Rattle.stream_model.proofs.Results.{accepted-sized, result-values}
use Rattle.block_core.specs.Written.{vals_of}
use Rattle.graph.specs.declared.graphs.Kind.TheVariants as kind
use Rattle.label_rules.specs.declared.plans.Plan.{Plan}
use Rattle.label_rules.specs.Holding.{Rules}
use Rattle.label_rules.specs.TermLabels.{plan_at, factor_count}
use Rattle.label_rules.proofs.shared.EndLaws.{joint-values}
use Rattle.label_rules.proofs.shared.UnitedTree.{united-tree}
use Rattle.custard_lower.specs.declared.trees.PrunedTrees.TheVariants.{OfAll}
use Rattle.custard_lower.specs.declared.nests.Nest.{Nest}
use Rattle.custard_lower.specs.declared.reductions.Levels.{Levels}
use Rattle.custard_lower.specs.Reductions.{pruned}
use Rattle.custard_lower.specs.Lowering.{root}
use Rattle.custard_lower.proofs.draft.Emitted.{AllStand, Sound, stands-on, all-stand-on, sound-emit}
use Rattle.custard_lower.proofs.term.PrunedSound.{PrunedStand, prune_level, pruned-stands}
use Rattle.custard_lower.proofs.term.ReducedSound.{LevelsStand}
use Rattle.custard_lower.proofs.term.TermSound.{root-stands}
use Rattle.custard_lower.proofs.join.OnlyTerm.{one-in-range, low-prune}
use Rattle.custard_lower.proofs.written.ResultGraph.{ResultStands}
use Rattle.custard_lower.proofs.written.WrittenEntries.{ListsResult, streams_written, streams-tree, entries-values, tree-entries}
use Rattle.custard_lower.proofs.written.WrittenJoined.{joined-prefixes}
use Rattle.custard_lower.proofs.written.WrittenLevels.{prefixes_at}
use Rattle.custard_lower.proofs.written.WrittenPruned.{same-prefixes, pruned-ends, pruned-coordinates}
use Rattle.custard_fuse.specs.Sharing.{shared_levels_of}
use Rattle.custard_fuse.specs.Fusing.{plans_of, is_fused, summed_term, added_terms, all_terms, fused_levels}
use Rattle.custard_fuse.specs.FusedRules.{last_term, level_label, values_upto, sum_label}
use Rattle.custard_fuse.proofs.FusedPlans.{several, some-levels, levels-shared}
use Rattle.custard_fuse.proofs.FusedTerms.{founded, all-terms, begins}
use Rattle.custard_fuse.proofs.FusedAllows.{FusedRules, Fusing, fusing, fused-drops-allowed}
use Rattle.custard_fuse.proofs.SharedWalk.{SharedStands, plans_from, plans-are, reference_labels, references-apart, shared-stands}
use Rattle.custard_fuse.proofs.TermsWalk.{TermStands, term-stands, AddedStands, added-stands}

-- ---- trees of all terms

whole_shorter : (t : TermData) (u : List ℕ) (c : ℕ) → in_whole t (u ++ c ∷ []) ≡ true → in_whole t u ≡ true
whole_shorter t u c h =
    (and_parts (in_whole t u) (grows t.accesses (λ _. everyone t.accesses) u (c ∷ []))
    (sym (grows-append t.accesses (λ _. everyone t.accesses) [] u (c ∷ [])) ∙ h)).0

any_closed : (ss : List Summand) (sizes : List ℕ) → ClosedUnder (in_any ss) sizes
any_closed ss sizes p c l e =
    not-true (in_any ss (p ++ c ∷ []))
    (λ k. sym e ∙ list_any-mono (λ s. in_whole s.term (p ++ c ∷ [])) (λ s. in_whole s.term p) (λ s i. whole_shorter s.term p c i) ss k)

module _ (p : Program) (ok : accepted p ≡ true) (fused : is_fused p ≡ true) where
  abbrev h : ℕ
  h = shared_levels p

  abbrev last : ℕ
  last = last_term p

  abbrev R : Rules
  R = Fusing p

  abbrev levels : ℕ
  levels = length (result_sizes p)

  same_levels : h ≡ levels
  same_levels = levels-shared p ok fused

  some : 0 < levels
  some = let a = some-levels p ok fused in let b = same_levels in omega (arith, a, b)

  -- ---- the blocks

  root_sound : Sound R (root ∷ [])
  root_sound = sound-emit R [] root [] tt tt (fusing p _ _ _ (omega arith) refl (record { holds = refl; ins_are = tt; outs_are = refl }))

  abbrev shared : Nest
  shared = shared_levels_of (plans_of p) last h h (root ∷ [])

  shared_stand : SharedStands p ok fused h shared
  shared_stand = shared-stands p ok fused (root ∷ []) root_sound root-stands h (omega arith)

  terms_stand : AddedStands p ok fused last (all_terms last h p (plans_of p) shared)
  terms_stand = by_terms (length p.terms - 2) (let k = several p ok fused in omega (arith, k))
    where
      by_terms : (j : ℕ) → length p.terms ≡ suc (suc j) → AddedStands p ok fused last (all_terms last h p (plans_of p) shared)
      by_terms j many =
          let n = shared in
          let x = shared_stand in
          let inside : 0 < length p.terms = omega (arith, many) in
          let ws = take (factor_count p 0) n.references in
          let one = summed_term last h 0 (plan_at p 0) (record { made = n.made; coordinates = n.coordinates; references = ws }) in
          let refs : AllStand n.made n.references (reference_labels p ok fused h 0 (suc (suc j))) =
          subst (λ (i : ℕ). AllStand n.made n.references (reference_labels p ok fused h 0 i)) many x.references_stand in
          let apart = references-apart p ok fused n.made h 0 (suc j) n.references refs in
          let y : TermStands p ok fused 0 inside n.made one =
          term-stands p ok fused 0 inside n.made n.coordinates ws x.sound x.root x.count x.coordinates_stand apart.0 in
          let start : Levels = record { made = one.made; coordinates = n.coordinates; values = one.values } in
          let begun : AddedStands p ok fused 0 start = record {
            sound = y.sound;
            root = stands-on n.made one.made _ _ y.extends x.root;
            count = x.count;
            coordinates_stand = λ k i. stands-on n.made one.made _ _ y.extends (x.coordinates_stand k i);
            values_stand = y.values_stand;
          } in
          let all = added_terms last h p 1 (plans_from p ok fused 1 (suc j)) (drop (factor_count p 0) n.references) start in
          let z = added-stands p ok fused 0 (suc j) (drop (factor_count p 0) n.references) start (omega (arith, many)) begun
          (all-stand-on n.made one.made _ _ y.extends apart.1) in
          let counted : 0 + suc j ≡ last = omega (arith, many) in
          let same : plans_of p ≡ plans_from p ok fused 0 (suc (suc j)) = plans-are p ok fused ∙ ap (plans_from p ok fused 0) many in
          subst (λ (ts : List Plan). AddedStands p ok fused last (all_terms last h p ts shared)) (sym same)
          (subst (λ (i : ℕ). AddedStands p ok fused i all) counted z)

  abbrev all_levels : Levels
  all_levels = all_terms last h p (plans_of p) shared

  levels_stand : LevelsStand R (λ d. level_label p 0 d ∷ []) (values_upto p last) h all_levels
  levels_stand =
      let x = terms_stand in
      record {
        sound = x.sound;
        root = x.root;
        count = x.count;
        coordinates_stand = λ k l. (level_label p 0 (suc k), x.coordinates_stand k l, inl refl);
        values_stand = x.values_stand;
      }

  ends_stand : PrunedStand R (OfAll last) h (λ d. level_label p 0 d ∷ []) (values_upto p last) (fused-drops-allowed p fused) (pruned (OfAll last) all_levels)
  ends_stand = pruned-stands R (OfAll last) h (λ d. level_label p 0 d ∷ []) (values_upto p last) (fused-drops-allowed p fused) all_levels levels_stand

  -- ---- what is written

  abbrev prune : ℕ → ℕ
  prune zero = 0
  prune (suc d) = prune_level d

  abbrev final_label : ℕ → Label
  final_label d = sum_label p (prune d) d Coordinate

  level_written : (d : ℕ) → d < levels → FusedRules p (kind.WriteLevel (suc d)) (final_label (suc d) ∷ []) []
  level_written d l =
      let e = same_levels in
      let a : ltb 0 (suc d) ≡ true = grind (arith, nat_tests) in
      let b : leb (suc d) h ≡ true = grind (arith, nat_tests, l, e) in
      record {
        allowed = record {
          holds = rw (a, b) refl;
          ins_are = (
            one-in-range (λ f. sum_label p f (suc d) Coordinate) 1 (suc d) (prune_level d) (low-prune d).0
                (let q = (low-prune d).1 in omega (arith, q)),
            tt,
          );
          outs_are = refl;
        };
        few = omega arith;
      }

  values_written : FusedRules p kind.WriteValue (sum_label p h h Value ∷ []) []
  values_written = record { allowed = record { holds = refl; ins_are = (inl refl, tt); outs_are = refl }; few = omega arith }

  module _ (es : List Entries) (same : length es ≡ length p.tensors) where
    abbrev ss : List Summand
    ss = summands p es

    abbrev sizes : List ℕ
    sizes = result_sizes p

    abbrev value : List ℕ → Leaf
    value = (join_upto ss last).value

    -- the tree that is pruned from the first level on
    abbrev tree : List ℕ → Bool
    tree q = pruned_from (in_any ss) value sizes 1 q

    there : in_any ss [] ≡ true
    there = founded p ok fused es same

    holds : (q r : List ℕ) → length q ≤ length sizes → is_some (value (q ++ r)) ≡ true → in_any ss q ≡ true
    holds = joint-values ss sizes there last (all-terms p ok fused es same) (begins p ok fused es same)

    counted : suc last ≡ length p.terms
    counted = let k = several p ok fused in omega (arith, k)

    united : path_fibers tree sizes levels ≡ path_fibers (join_upto ss last).has sizes levels
    united =
        united-tree ss sizes there last (all-terms p ok fused es same) (begins p ok fused es same) (accepted-sized p es ok) levels (omega arith)

    full_prefixes : prefixes_at tree sizes levels ≡ filter (pat p es) (tuples sizes)
    full_prefixes = ap in_order united ∙ joined-prefixes p es last ok same counted some

    abbrev end_shape : Shape
    end_shape = under_joined_shape sizes ss last levels levels

    values_listed : in_order (fibers_at end_shape Value) ≡ map (λ entry. Some entry.1) (result_entries p es)
    values_listed =
        in_order-tokens value (path_fibers end_shape.ok sizes levels)
        ∙ ap (map value) (same-prefixes (in_any ss) value sizes there holds (any_closed ss sizes) levels levels some (omega arith) (omega arith))
        ∙ ap (λ (fs : List (Fiber (List ℕ))). map value (in_order fs)) united
        ∙ sym (in_order-tokens value (path_fibers (join_upto ss last).has sizes levels))
        ∙ result-values p es last ok same counted some

    lists : ListsResult p es levels (streams_written (λ d. label_stream p es (final_label d)) levels (vals_of (label_stream p es (sum_label p levels levels Value))))
    lists =
        let written : vals_of (stream_at end_shape Value) ≡ map (den p es) (prefixes_at tree sizes levels) =
        entries-values p es end_shape values_listed ∙ ap (map (den p es)) (sym full_prefixes) in
        subst (ListsResult p es levels)
        (sym (streams-tree tree sizes (λ d. label_stream p es (final_label d)) levels (vals_of (stream_at end_shape Value)) (den p es)
        (λ j l. pruned-ends (in_any ss) value sizes there holds (any_closed ss sizes) (prune_level j) j (low-prune j).0 (low-prune j).1 l)
        (λ j l. pruned-coordinates (in_any ss) value sizes there holds (any_closed ss sizes) (prune_level j) j (low-prune j).0 (low-prune j).1 l)
        written))
        (tree-entries p es tree sizes levels some full_prefixes)

  -- the levels and the values of all terms are the result's
  pub fused-result : ResultStands p (FusedRules p) (fused_levels p last h (plans_of p))
  fused-result =
      let x = ends_stand in
      let e = same_levels in
      record {
        sound = x.sound;
        count = x.count ∙ e;
        level = final_label;
        values = sum_label p h h Value;
        levels_stand = λ d l. x.coordinates_stand d (omega (arith, l, e));
        levels_written = level_written;
        values_stand = x.values_stand (some-levels p ok fused);
        values_written = values_written;
        lists = λ es same.
            subst (λ (r : ℕ). ListsResult p es levels (streams_written (λ d. label_stream p es (final_label d)) levels (vals_of (label_stream p es (sum_label p r r Value)))))
            (sym e) (lists es same);
      }
