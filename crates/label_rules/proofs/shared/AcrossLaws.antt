-- A union at a shared level gives the lists of the terms so far, with the ranks of each term where it has the list.
use Rattle.std.specs.Prelude.{◌≡◌, ◌<◌, ◌≤◌, ℕ, zero, suc, Bool, true, false, cond, ◌||◌, List, [], ◌∷◌, ◌++◌, length, take, slice_index, None, refl}
use Rattle.std.specs.List.{list_any, filter}
use mathlib.Core.List.{map}
use Rattle.std.proofs.Math.Path.{fun_ext}
use Rattle.std.proofs.Common.{arith, sym, ◌∙◌, ap, subst}
use Rattle.std.proofs.Math.Seq.{take-suc}
use Rattle.std.proofs.lemmas.List.{length-map, map-append}
use Rattle.std.proofs.lemmas.List.Folds.{list_any-append}
use Rattle.sam_model.specs.Lists.{below}
use Rattle.stream_tokens.specs.Nest.{Leaf}
use Rattle.stream_tokens.specs.Shapes.{Each}
use Rattle.stream_tokens.proofs.Algebra.{map-map}
use Rattle.block_core.specs.Ports.{Streams}
use Rattle.block_core.specs.Kind.{UnionKind}
use Rattle.block_core.proofs.Given.{Gives}
use Rattle.stream_model.specs.declared.labels.Attr.{Attr}
use Rattle.stream_model.specs.declared.labels.Attr.TheVariants.{Coordinate, Rank}
use Rattle.stream_model.specs.Grow.{path_fibers}
use Rattle.stream_model.specs.Terms.{TermData, Summand, summand_at, no_summand}
use Rattle.stream_model.specs.Trees.{in_whole}
use Rattle.stream_model.specs.Labels.{loop_sizes, only_where, under_shape, across_shape, token, stream_at}
use Rattle.stream_model.specs.Masks.{final}
use Rattle.sam_model.proofs.Lists.{or-false, map-ext, map-ext-each}
use Rattle.stream_model.proofs.Grown.{InTree, paths-InTree, paths-same}
use Rattle.label_rules.proofs.laws.ItemStreams.{gives-same}
use Rattle.stream_model.specs.Tellings.{Prefixes, Telling, told, deeper}
use Rattle.stream_model.specs.Fused.{in_any, in_across}
use Rattle.stream_model.proofs.Levels.{level-beneath, deeper-same, told-stream}
use Rattle.label_rules.proofs.laws.MergeSides.{side}
use Rattle.label_rules.proofs.laws.ScanLaw.{ranks}
use Rattle.label_rules.proofs.laws.MergeLaws.{unite-law}
use Rattle.label_rules.proofs.shared.UnderLaws.{under_stream, under-beneath, final-level, shared-level}

-- a tree is the same for sizes that are the same above
resized : (ok : List ℕ → Bool) (sizes sizes' : List ℕ) (d : ℕ) → ok [] ≡ true → ((n : ℕ) → n < d → slice_index sizes n ≡ slice_index sizes' n)
    → path_fibers ok sizes d ≡ path_fibers ok sizes' d
resized ok sizes sizes' d root h =
    paths-same ok ok sizes sizes' root d
    (λ e p less i. ap (λ (n : ℕ). map (λ c. p ++ c ∷ []) (filter (λ c. ok (p ++ c ∷ [])) (below n))) (h (length p) (omega (arith, i.count, less))))

-- a list of a term is one of the first terms that have it
any-member : (ss : List Summand) (n i : ℕ) (p : List ℕ) → i < n → i < length ss → in_whole (summand_at ss i).term p ≡ true
    → in_any (take n ss) p ≡ true
any-member [] n i p l k e = absurd (omega (arith, k))
any-member (s ∷ ss) zero i p l k e = absurd (omega (arith, l))
any-member (s ∷ ss) (suc n) zero p l k e = rw e refl
any-member (s ∷ ss) (suc n) (suc i) p l k e = by_case (in_whole s.term p) (any-member ss n i p (omega (arith, l)) (omega (arith, k)) e)
  where
    by_case : (b : Bool) → in_any (take n ss) p ≡ true → (b || in_any (take n ss) p) ≡ true
    by_case true r = refl
    by_case false r = r

-- the sizes of a term's first levels
abbrev pub Sized : List ℕ → ℕ → TermData → Type 0
Sized sizes h t = (n : ℕ) → n < h → slice_index (loop_sizes t.loops) n ≡ slice_index sizes n

module _ (h : ℕ) (ss : List Summand) (founded : in_any ss [] ≡ true) (sizes : List ℕ) (sized : (i : ℕ) → i < length ss → Sized sizes h (summand_at ss i).term)
    (d : ℕ) (shared : suc d ≤ h) (few : suc d ≤ 200) where
  abbrev term : ℕ → TermData
  term i = (summand_at ss i).term

  abbrev fs : Prefixes
  fs = path_fibers (in_any ss) sizes d

  -- the lists of the terms up to one
  abbrev so_far : ℕ → List ℕ → Bool
  so_far upto q = in_any (take (suc upto) ss) q

  resize : (own : List ℕ → Bool) (i : ℕ) → i < length ss
      → deeper own (loop_sizes (term i).loops) (path_fibers (in_any ss) (loop_sizes (term i).loops) d) ≡ deeper own sizes fs
  resize own i inside =
      ap (deeper own (loop_sizes (term i).loops))
      (resized (in_any ss) (loop_sizes (term i).loops) sizes d founded (λ n l. sized i inside n (omega (arith, l, shared))))
      ∙ deeper-same (InTree (in_any ss) sizes d) own own (loop_sizes (term i).loops) sizes fs (paths-InTree (in_any ss) sizes founded d)
      (λ p j. sized i inside (length p) (omega (arith, j.count, shared))) (λ p c j. refl)

  pub across_beneath : (upto i : ℕ) (a : Attr) → i < length ss
      → stream_at (across_shape ss upto (term i) (suc d)) a ≡ told (token (across_shape ss upto (term i) (suc d)) a) (deeper (so_far upto) sizes fs)
  across_beneath upto i a inside =
      let x = token (across_shape ss upto (term i) (suc d)) a in
      told-stream x (in_across ss upto (suc d)) (loop_sizes (term i).loops) (suc d)
      ∙ ap (told x)
      (level-beneath (in_any ss) (so_far upto) (loop_sizes (term i).loops) d founded ∙ resize (so_far upto) i inside)

  pub under_level : (i : ℕ) (a : Attr) → i < length ss
      → under_stream h ss founded (term i) (suc d) (final (term i) (suc d)) a
      ≡ told (token (under_shape h ss (term i) (suc d) (final (term i) (suc d))) a) (deeper (in_whole (term i)) sizes fs)
  under_level i a inside =
      let x = token (under_shape h ss (term i) (suc d) (final (term i) (suc d))) a in
      under-beneath h ss founded (term i) d (final (term i) (suc d)) a
      ∙ ap (told x)
      (final-level h ss founded (term i) d
      ∙ ap (deeper (in_whole (term i)) (loop_sizes (term i).loops)) (shared-level h ss founded (term i) d (omega (arith, shared)))
      ∙ resize (in_whole (term i)) i inside)

  -- a reference of a term's factor, where the term has the list
  abbrev referred : ℕ × ℕ → Telling
  referred r = only_where (in_whole (term r.0)) (ranks (term r.0) r.1)

  abbrev pub across_side : ℕ → List (ℕ × ℕ) → Streams
  across_side upto rs =
      stream_at (across_shape ss upto (term 0) (suc d)) Coordinate
      ∷ map (λ r. stream_at (across_shape ss upto (term r.0) (suc d)) (Rank r.1)) rs

  abbrev pub under_side : ℕ → List ℕ → Streams
  under_side i ks =
      under_stream h ss founded (term i) (suc d) (final (term i) (suc d)) Coordinate
      ∷ map (λ k. under_stream h ss founded (term i) (suc d) (final (term i) (suc d)) (Rank k)) ks

  across_is : (upto : ℕ) (rs : List (ℕ × ℕ)) → 0 < length ss → Each (λ (r : ℕ × ℕ). r.0 < length ss) rs
      → side (map referred rs) (deeper (so_far upto) sizes fs) ≡ across_side upto rs
  across_is upto rs some inside =
      rw (
        map-map (λ (x : Telling). told x (deeper (so_far upto) sizes fs)) referred rs,
        map-ext-each (λ (r : ℕ × ℕ). r.0 < length ss) (λ r. told (referred r) (deeper (so_far upto) sizes fs))
            (λ r. stream_at (across_shape ss upto (term r.0) (suc d)) (Rank r.1))
            (λ r l. sym (across_beneath upto r.0 (Rank r.1) l)) rs inside,
        across_beneath upto 0 Coordinate some,
      ) refl

  under_is : (i : ℕ) (ks : List ℕ) → i < length ss → side (map (ranks (term i)) ks) (deeper (in_whole (term i)) sizes fs) ≡ under_side i ks
  under_is i ks inside =
      rw (
        map-map (λ (x : Telling). told x (deeper (in_whole (term i)) sizes fs)) (ranks (term i)) ks,
        map-ext (λ k. told (ranks (term i) k) (deeper (in_whole (term i)) sizes fs))
            (λ k. under_stream h ss founded (term i) (suc d) (final (term i) (suc d)) (Rank k))
            (λ k. sym (under_level i (Rank k) inside)) ks,
        under_level i Coordinate inside,
      ) refl

  -- what a term has, the terms up to a later one have
  already : (b c : Bool) (o : Leaf) → (c ≡ true → b ≡ true) → cond b (cond c o None) None ≡ cond c o None
  already true c o k = refl
  already false true o k = absurd (let e = k refl in cc)
  already false false o k = refl

  more_lists : (e : ℕ) → suc e < length ss → (q : List ℕ) → (so_far e q || in_whole (term (suc e)) q) ≡ so_far (suc e) q
  more_lists e inside q =
      sym
      (ap (list_any (λ s. in_whole s.term q)) (take-suc ss (suc e) no_summand inside)
      ∙ list_any-append (λ s. in_whole s.term q) (take (suc e) ss) (summand_at ss (suc e) ∷ [])
      ∙ ap (λ b. so_far e q || b) (or-false (in_whole (term (suc e)) q)))

  refs_of : (e : ℕ) (ks : List ℕ) → List (ℕ × ℕ)
  refs_of e ks = map (λ k. (suc e, k)) ks

  pub across-union : (e : ℕ) (rs : List (ℕ × ℕ)) (ks : List ℕ) → suc e < length ss → Each (λ (r : ℕ × ℕ). r.0 < suc e) rs
      → Gives (UnionKind (length rs) (length ks)) (across_side e rs ++ under_side (suc e) ks) (across_side (suc e) (rs ++ map (λ k. (suc e, k)) ks))
  across-union e rs ks inside early =
      let xs = map referred rs in
      let ys = map (ranks (term (suc e))) ks in
      let new = map (λ (k : ℕ). (suc e, k)) ks in
      let ins = across_side e rs ++ under_side (suc e) ks in
      let outs = across_side (suc e) (rs ++ new) in
      subst (λ (l : ℕ). Gives (UnionKind l (length ks)) ins outs) (length-map rs referred)
      (subst (λ (r : ℕ). Gives (UnionKind (length xs) r) ins outs) (length-map ks (ranks (term (suc e))))
      (gives-same (UnionKind (length xs) (length ys)) _ _ _ _
      (ap (λ (s : Streams). s ++ side ys (deeper (in_whole (term (suc e))) sizes fs)) (across_is e rs (omega (arith, inside)) (within_terms rs early))
      ∙ ap (λ (s : Streams). across_side e rs ++ s) (under_is (suc e) ks inside))
      (ap (λ (zs : List Telling). side zs (deeper (λ q. so_far e q || in_whole (term (suc e)) q) sizes fs)) tellings_are
      ∙ ap (λ (own : List ℕ → Bool). side (map referred (rs ++ new)) (deeper own sizes fs)) (fun_ext (more_lists e inside))
      ∙ across_is (suc e) (rs ++ new) (omega (arith, inside)) (all_within rs early))
      (unite-law (in_any ss) (so_far e) (in_whole (term (suc e))) sizes d founded few xs ys)))
    where
      within_terms : (rs : List (ℕ × ℕ)) → Each (λ (r : ℕ × ℕ). r.0 < suc e) rs → Each (λ (r : ℕ × ℕ). r.0 < length ss) rs
      within_terms [] x = tt
      within_terms (r ∷ rs) x = (let l = x.0 in omega (arith, l, inside), within_terms rs x.1)

      new_within : (ks : List ℕ) → Each (λ (r : ℕ × ℕ). r.0 < length ss) (map (λ k. (suc e, k)) ks)
      new_within [] = tt
      new_within (k ∷ ks) = (inside, new_within ks)

      all_within : (rs : List (ℕ × ℕ)) → Each (λ (r : ℕ × ℕ). r.0 < suc e) rs → Each (λ (r : ℕ × ℕ). r.0 < length ss) (rs ++ map (λ k. (suc e, k)) ks)
      all_within [] x = new_within ks
      all_within (r ∷ rs) x = (let l = x.0 in omega (arith, l, inside), all_within rs x.1)

      kept : (r : ℕ × ℕ) → r.0 < suc e → only_where (so_far e) (referred r) ≡ referred r
      kept r l =
          fun_ext (λ p. already (so_far e p) (in_whole (term r.0) p) (ranks (term r.0) r.1 p)
          (λ k. any-member ss (suc e) r.0 p l (omega (arith, l, inside)) k))

      tellings_are : map (only_where (so_far e)) (map referred rs) ++ map (only_where (in_whole (term (suc e)))) (map (ranks (term (suc e))) ks)
          ≡ map referred (rs ++ map (λ k. (suc e, k)) ks)
      tellings_are =
          ap (λ (zs : List Telling). zs ++ map (only_where (in_whole (term (suc e)))) (map (ranks (term (suc e))) ks))
          (map-map (only_where (so_far e)) referred rs
          ∙ map-ext-each (λ (r : ℕ × ℕ). r.0 < suc e) (λ r. only_where (so_far e) (referred r)) referred kept rs early)
          ∙ ap (λ (zs : List Telling). map referred rs ++ zs)
          (map-map (only_where (in_whole (term (suc e)))) (ranks (term (suc e))) ks
          ∙ sym (map-map referred (λ (k : ℕ). (suc e, k)) ks))
          ∙ sym (map-append referred rs (map (λ k. (suc e, k)) ks))
