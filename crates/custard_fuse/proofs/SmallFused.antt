-- How large the draft of a fused program can be, from the most loops, factors and terms.
use Rattle.std.specs.Prelude.{◌≡◌, ◌<◌, ◌≤◌, ℕ, zero, suc, ◌+◌, ◌*◌, ◌-◌, true, List, [], ◌∷◌, ◌++◌, length, take, drop, get_or, refl}
use Rattle.std.specs.List.{range_with_len}
use Rattle.std.proofs.Common.{arith, sym, ◌∙◌, ap, subst, length-append}
use Rattle.std.proofs.lemmas.List.FromFn.{length-range_with_len}
use Rattle.sam_model.specs.declared.program.Program.{Program}
use Rattle.sam_model.specs.Program.{accepted}
use Rattle.stream_model.specs.Fused.{shared_levels}
use Rattle.label_rules.specs.declared.plans.Plan.{Plan}
use Rattle.label_rules.specs.TermLabels.{empty_term, plan_at, factor_count, loop_count}
use Rattle.label_rules.proofs.term.SmallPlans.{few_terms}
use Rattle.custard_lower.specs.declared.drafts.Made.{Made}
use Rattle.custard_lower.specs.declared.nests.Nest.{Nest}
use Rattle.custard_lower.specs.declared.reductions.Levels.{Levels}
use Rattle.custard_lower.specs.declared.trees.PrunedTrees.TheVariants.{OfAll}
use Rattle.custard_lower.specs.Drafts.{outputs_of}
use Rattle.custard_lower.specs.DraftGraph.{DraftIsSmall}
use Rattle.custard_lower.specs.Lowering.{root}
use Rattle.custard_lower.specs.Nests.{level}
use Rattle.custard_lower.specs.Values.{valued}
use Rattle.custard_lower.specs.Reductions.{pruned}
use Rattle.custard_lower.proofs.draft.SmallGraphs.{read-number}
use Rattle.custard_lower.proofs.term.Nesting.{references_kept, levels_counted}
use Rattle.custard_lower.proofs.term.PlanFacts.{is-small}
use Rattle.custard_lower.proofs.join.SmallDraft.{weight, weight-emit, blocks-weigh, outputs-weigh, reads-weigh, level-weighs, valued-weighs, reduced-weighs, pruned-weighs, writers-weigh}
use Rattle.custard_fuse.specs.Sharing.{all_factors, scanned_terms, union, united, shared_level, shared_levels_of}
use Rattle.custard_fuse.specs.Fusing.{plans_of, is_fused, deeper_levels, summed_term, addition, added_terms, all_terms, fused_draft}
use Rattle.custard_fuse.specs.FusedRules.{last_term, fused_trees}
use Rattle.custard_fuse.proofs.FusedPlans.{several, few-factors}
use Rattle.custard_fuse.proofs.FusedUnions.{ranks_counted}
use Rattle.custard_fuse.proofs.PlansFit.{few_levels}
use Rattle.custard_fuse.proofs.SharedWalk.{factors-before, plans_from, plans-are, level_of}

at_most : {A : Type 0} (n : ℕ) (xs : List A) → length (take n xs) ≤ n
at_most zero xs = omega arith
at_most (suc n) [] = omega arith
at_most (suc n) (x ∷ xs) = let r = at_most n xs in omega (arith, r)

module _ (p : Program) (ok : accepted p ≡ true) (fused : is_fused p ≡ true) where
  abbrev h : ℕ
  h = shared_levels p

  abbrev last : ℕ
  last = last_term p

  abbrev plans : ℕ → ℕ → List Plan
  plans n k = plans_from p ok fused n k

  -- ---- the shared levels

  scanned_weigh : (d n k : ℕ) (references : List ℕ) (s : Nest) → n + k ≤ length p.terms
      → (weight (scanned_terms last h d n (plans n k) references s).made ≤ weight s.made + 256 * k)
      × (length (scanned_terms last h d n (plans n k) references s).references ≤ length s.references + all_factors (plans n k))
      × (length (scanned_terms last h d n (plans n k) references s).coordinates ≤ length s.coordinates + k)
  scanned_weigh d n zero references s l = (omega arith, omega arith, omega arith)
  scanned_weigh d n (suc k) references s l =
      let inside : n < length p.terms = omega (arith, l) in
      let nest : Nest = record { made = s.made; coordinates = []; references = take (factor_count p n) references } in
      let one = level (fused_trees p n) (plan_at p n) d nest in
      let next : Nest = record { made = one.made; coordinates = s.coordinates ++ one.coordinates; references = s.references ++ one.references } in
      let a = level-weighs (fused_trees p n) (plan_at p n) (is-small p ok n inside) d nest in
      let b = references_kept (fused_trees p n) (plan_at p n) d nest in
      let c = at_most (factor_count p n) references in
      let e = length-append s.references one.references in
      let f = length-append s.coordinates one.coordinates in
      let g = levels_counted (fused_trees p n) (plan_at p n) d nest in
      let r = scanned_weigh d (suc n) k (drop (factor_count p n) references) next (omega (arith, l)) in
      let r0 = r.0 in
      let r1 = r.1 in
      let r2 = r.2 in
      (omega (arith, r0, a), omega (arith, r1, b, c, e), omega (arith, r2, f, g))

  united_weigh : (d e k : ℕ) (cs ws : List ℕ) (u : Nest) → length u.references + all_factors (plans e k) ≤ 8 → length u.coordinates ≤ 1
      → (weight (united (plans_of p) d e (plans e k) cs ws u).made ≤ weight u.made + 22 * k)
      × (length (united (plans_of p) d e (plans e k) cs ws u).coordinates ≤ 1)
  united_weigh d e zero cs ws u l one = (omega arith, one)
  united_weigh d e (suc k) cs ws u l one =
      let mine = take (factor_count p e) ws in
      let c = get_or cs 0 0 in
      let m = union (plans_of p) d e u c mine in
      let next : Nest = record {
        made = u.made ++ m ∷ [];
        coordinates = outputs_of u.made ∷ [];
        references = range_with_len (suc (outputs_of u.made)) (length u.references + length mine);
      } in
      let few = at_most (factor_count p e) ws in
      let a = weight-emit u.made m in
      let ins = length-append (get_or u.coordinates 0 0 ∷ u.references) (c ∷ mine) in
      let outs = ranks_counted e (suc d) 0 (take (suc e) (plans_of p)) in
      let early = factors-before (suc e) (plans_of p) in
      let all = few-factors p ok fused in
      let count = length-range_with_len (suc (outputs_of u.made)) (length u.references + length mine) in
      let r = united_weigh d (suc e) k (drop 1 cs) (drop (factor_count p e) ws) next (omega (arith, l, few, count)) (omega arith) in
      let r0 = r.0 in
      (omega (arith, r0, a, ins, outs, early, all, few, l), r.1)

  level_weighs : (d : ℕ) (n : Nest)
      → (weight (shared_level (plans_of p) last h d n).made ≤ weight n.made + 4448)
      × (length (shared_level (plans_of p) last h d n).coordinates ≤ length n.coordinates + 1)
  level_weighs d n = by_terms (length p.terms - 2) (let k = several p ok fused in omega (arith, k))
    where
      by_terms : (j : ℕ) → length p.terms ≡ suc (suc j)
          → (weight (shared_level (plans_of p) last h d n).made ≤ weight n.made + 4448)
          × (length (shared_level (plans_of p) last h d n).coordinates ≤ length n.coordinates + 1)
      by_terms j many =
          let same : plans_of p ≡ plans 0 (suc (suc j)) = plans-are p ok fused ∙ ap (plans_from p ok fused 0) many in
          let nothing : Nest = record { made = n.made; coordinates = []; references = [] } in
          let s = scanned_terms last h d 0 (plans 0 (suc (suc j))) n.references nothing in
          let a = scanned_weigh d 0 (suc (suc j)) n.references nothing (omega (arith, many)) in
          let first : Nest = record { made = s.made; coordinates = take 1 s.coordinates; references = take (factor_count p 0) s.references } in
          let few = few-factors p ok fused in
          let factors_same = ap all_factors same in
          let all = united (plans_of p) d 1 (plans 1 (suc j)) (drop 1 s.coordinates) (drop (factor_count p 0) s.references) first in
          let front = at_most (factor_count p 0) s.references in
          let b = united_weigh d 1 (suc j) (drop 1 s.coordinates) (drop (factor_count p 0) s.references) first (omega (arith, few, factors_same, front)) (at_most 1 s.coordinates) in
          let terms = few_terms p ok in
          let a0 = a.0 in
          let b0 = b.0 in
          let b1 = b.1 in
          let c = length-append n.coordinates all.coordinates in
          subst (λ (l : Nest). (weight l.made ≤ weight n.made + 4448) × (length l.coordinates ≤ length n.coordinates + 1))
          (sym (ap (level_of p ok fused d n) same)) (omega (arith, a0, b0, terms, many), omega (arith, b1, c))

  levels_weigh : (d : ℕ) (made : List Made)
      → (weight (shared_levels_of (plans_of p) last h d made).made ≤ weight made + 4448 * d)
      × (length (shared_levels_of (plans_of p) last h d made).coordinates ≤ d)
  levels_weigh zero made = (omega arith, omega arith)
  levels_weigh (suc d) made =
      let r = levels_weigh d made in
      let one = level_weighs d (shared_levels_of (plans_of p) last h d made) in
      let r0 = r.0 in
      let r1 = r.1 in
      let one0 = one.0 in
      let one1 = one.1 in
      (omega (arith, r0, one0), omega (arith, r1, one1))

  -- ---- the terms

  deeper_weigh : (n : ℕ) → n < length p.terms → (k : ℕ) (nest : Nest)
      → weight (deeper_levels last h (fused_trees p n) (plan_at p n) k nest).made ≤ weight nest.made + 256 * k
  deeper_weigh n inside zero nest = omega arith
  deeper_weigh n inside (suc k) nest =
      let before = deeper_levels last h (fused_trees p n) (plan_at p n) k nest in
      let a = level-weighs (fused_trees p n) (plan_at p n) (is-small p ok n inside) (h + k) before in
      let r = deeper_weigh n inside k nest in
      omega (arith, a, r)

  term_weighs : (n : ℕ) → n < length p.terms → (nest : Nest)
      → weight (summed_term last h n (plan_at p n) nest).made ≤ weight nest.made + 2168
  term_weighs n inside nest =
      let small = is-small p ok n inside in
      let deep = deeper_levels last h (fused_trees p n) (plan_at p n) (loop_count p n - h) nest in
      let v = valued (fused_trees p n) (plan_at p n) deep.made deep.references in
      let levels : Levels = record { made = v.made; coordinates = deep.coordinates; values = v.values } in
      let loops = small.loops in
      let a = deeper_weigh n inside (loop_count p n - h) nest in
      let b = valued-weighs (fused_trees p n) (plan_at p n) small deep.made deep.references in
      let c = (reduced-weighs (fused_trees p n) (plan_at p n) small (plan_at p n).on_left levels).0 in
      omega (arith, loops, a, b, c)

  added_weigh : (n k : ℕ) (references : List ℕ) (l : Levels) → n + k ≤ length p.terms
      → (weight (added_terms last h p n (plans n k) references l).made ≤ weight l.made + 2172 * k)
      × (length (added_terms last h p n (plans n k) references l).coordinates ≡ length l.coordinates)
  added_weigh n zero references l few = (omega arith, refl)
  added_weigh n (suc k) references l few =
      let nest : Nest = record { made = l.made; coordinates = l.coordinates; references = take (factor_count p n) references } in
      let one = summed_term last h n (plan_at p n) nest in
      let m = addition last h n (get_or p.terms n empty_term).minus l.values one.values in
      let next : Levels = record { made = one.made ++ m ∷ []; coordinates = l.coordinates; values = outputs_of one.made } in
      let a = term_weighs n (omega (arith, few)) nest in
      let b = weight-emit one.made m in
      let r = added_weigh (suc n) k (drop (factor_count p n) references) next (omega (arith, few)) in
      let r0 = r.0 in
      (omega (arith, a, b, r0), r.1)

  terms_weigh : (n : Nest)
      → (weight (all_terms last h p (plans_of p) n).made ≤ weight n.made + 34752)
      × (length (all_terms last h p (plans_of p) n).coordinates ≡ length n.coordinates)
  terms_weigh n = by_terms (length p.terms - 2) (let k = several p ok fused in omega (arith, k))
    where
      by_terms : (j : ℕ) → length p.terms ≡ suc (suc j)
          → (weight (all_terms last h p (plans_of p) n).made ≤ weight n.made + 34752)
          × (length (all_terms last h p (plans_of p) n).coordinates ≡ length n.coordinates)
      by_terms j many =
          let same : plans_of p ≡ plans 0 (suc (suc j)) = plans-are p ok fused ∙ ap (plans_from p ok fused 0) many in
          let nest : Nest = record { made = n.made; coordinates = n.coordinates; references = take (factor_count p 0) n.references } in
          let one = summed_term last h 0 (plan_at p 0) nest in
          let start : Levels = record { made = one.made; coordinates = n.coordinates; values = one.values } in
          let a = term_weighs 0 (omega (arith, many)) nest in
          let b = added_weigh 1 (suc j) (drop (factor_count p 0) n.references) start (omega (arith, many)) in
          let b0 = b.0 in
          let terms = few_terms p ok in
          subst (λ (ts : List Plan). (weight (all_terms last h p ts n).made ≤ weight n.made + 34752) × (length (all_terms last h p ts n).coordinates ≡ length n.coordinates))
          (sym same) (omega (arith, a, b0, terms, many), b.1)

  draft_weighs : weight (fused_draft p) ≤ 71000
  draft_weighs =
      let nest = shared_levels_of (plans_of p) last h h (root ∷ []) in
      let all = all_terms last h p (plans_of p) nest in
      let a = levels_weigh h (root ∷ []) in
      let b = terms_weigh nest in
      let c = pruned-weighs (OfAll last) (length all.coordinates) all in
      let few = few_levels p ok fused in
      let a0 = a.0 in
      let a1 = a.1 in
      let b0 = b.0 in
      let b1 = b.1 in
      let c0 = c.0 in
      let c1 = c.1 in
      let d = writers-weigh (pruned (OfAll last) all) (omega (arith, a1, b1, c1, few)) in
      omega (arith, a0, a1, b0, b1, c0, d, few)

  -- The fused draft has few blocks, outputs and reads.
  pub small-fused : DraftIsSmall (fused_draft p)
  small-fused =
      let made = fused_draft p in
      let few = draft_weighs in
      let a = blocks-weigh made in
      let b = outputs-weigh made in
      let c = read-number made in
      let d = reads-weigh made in
      record { blocks = omega (arith, few, a); outputs = omega (arith, few, b); reads = omega (arith, few, c, d) }
