-- The reducers and droppers of a term meet their rules, and while a loop is taken away the labels of the levels before it stay.
use Rattle.std.specs.Prelude.{◌≡◌, ◌<◌, ◌≤◌, ℕ, zero, suc, ◌+◌, ◌-◌, Bool, true, false, cond, ◌||◌, ◌&&◌, not, List, [], ◌∷◌, ◌++◌, length, take, eqb, ltb, leb, refl}
use Rattle.std.specs.List.{filter, range_with_len}
use mathlib.Core.List.{map}
use Rattle.std.proofs.Common.{arith, sym, ◌∙◌, ap, subst, length-append, ◌⊎◌, inl, inr}
use Rattle.std.proofs.lemmas.Bool.{cases_eq}
use Rattle.std.proofs.lemmas.Bool.Decides.{nat_tests}
use Rattle.std.proofs.lemmas.List.{map-append}
use Rattle.sam_model.specs.declared.program.Program.{Program}
use Rattle.sam_model.specs.Lists.{same_list}
use Rattle.stream_model.specs.declared.labels.Attr.TheVariants.{Coordinate, Value}
use Rattle.stream_model.specs.declared.labels.Label.{Label}
use Rattle.stream_model.specs.Labels.{result_sizes}
use Rattle.custard_lower.specs.declared.trees.TermTrees.TheVariants.{Own}
use Rattle.custard_lower.specs.declared.trees.PrunedTrees.TheVariants.{OfTerm}
use Rattle.label_rules.specs.Labels.{no_label, IsOneOf}
use Rattle.label_rules.specs.Plans.{left_marks, free_marks}
use Rattle.label_rules.specs.TermLabels.{plan_at, loop_count, free_loop_count, full_mask, product_label, reduced_label, kept_from, kept_numbers, same_kept, coordinate_labels, value_labels, left_after}
use Rattle.label_rules.proofs.rules.Exact.{lists_same, same_itself}
use Rattle.custard_lower.proofs.term.TermAllowed.{level_labels, SumAllowed, SumsAllowed, DropsAllowed}
use Rattle.custard_lower.proofs.term.PlainRules.{Plain, plain}
use Rattle.custard_lower.proofs.term.ReducedSound.{marks-counted}

-- ---- marks

-- the loops that aren't on the left are counted beside each other
pub free-append : (front rest : List Bool) → free_marks (front ++ rest) ≡ free_marks front + free_marks rest
free-append [] rest = omega arith
free-append (true ∷ front) rest = free-append front rest
free-append (false ∷ front) rest = let h = free-append front rest in omega (arith, h)

-- the loop that is taken away next is found by how many are gone
pub left-found : (before after : List Bool) → left_after (free_marks after) (before ++ false ∷ after) ≡ left_marks after
left-found [] after =
    let e : eqb (free_marks after) (free_marks after) ≡ true = grind (arith, nat_tests) in
    ap (λ b. cond b (left_marks after) (left_after (free_marks after) after)) e
left-found (b ∷ before) after =
    let n = free-append before (false ∷ after) in
    let e : eqb (free_marks (before ++ false ∷ after)) (free_marks after) ≡ false = grind (arith, nat_tests, n) in
    ap (λ c. cond (not b && c) (left_marks (before ++ false ∷ after)) (left_after (free_marks after) (before ++ false ∷ after))) e
    ∙ passed (not b) ∙ left-found before after
  where
    passed : (c : Bool) → cond (c && false) (left_marks (before ++ false ∷ after)) (left_after (free_marks after) (before ++ false ∷ after))
        ≡ left_after (free_marks after) (before ++ false ∷ after)
    passed true = refl
    passed false = refl

-- ---- labels that may stand

left-one : (l : Label) (xs ys : List Label) → IsOneOf l xs → IsOneOf l (xs ++ ys)
left-one l [] ys x = absurd x
left-one l (k ∷ xs) ys (inl e) = inl e
left-one l (k ∷ xs) ys (inr x) = inr (left-one l xs ys x)

right-one : (l : Label) (xs ys : List Label) → IsOneOf l ys → IsOneOf l (xs ++ ys)
right-one l [] ys x = x
right-one l (k ∷ xs) ys x = inr (right-one l xs ys x)

either-one : (l : Label) (xs ys zs : List Label) → IsOneOf l (xs ++ ys) → IsOneOf l ((xs ++ zs) ++ ys)
either-one l [] ys zs x = right-one l zs ys x
either-one l (k ∷ xs) ys zs (inl e) = inl e
either-one l (k ∷ xs) ys zs (inr x) = inr (either-one l xs ys zs x)

-- the label of a number that is in a range and passes a test
pub one-ranged : (f : ℕ → Label) (test : ℕ → Bool) (a n h : ℕ) → a ≤ h → h < a + n → test h ≡ true
    → IsOneOf (f h) (map f (filter test (range_with_len a n)))
one-ranged f test a zero h low high e = absurd (omega (arith, low, high))
one-ranged f test a (suc n) h low high e =
    by_place (cases_eq h a) (λ other. one-ranged f test (a + 1) n h (omega (arith, low, other)) (omega (arith, high)) e)
  where
    later : (b : Bool) → IsOneOf (f h) (map f (filter test (range_with_len (a + 1) n)))
        → IsOneOf (f h) (map f (cond b (a ∷ filter test (range_with_len (a + 1) n)) (filter test (range_with_len (a + 1) n))))
    later true x = inr x
    later false x = x

    by_place : (h ≡ a) ⊎ (h ≡ a → ⊥) → ((h ≡ a → ⊥) → IsOneOf (f h) (map f (filter test (range_with_len (a + 1) n))))
        → IsOneOf (f h) (map f (filter test (range_with_len a (suc n))))
    by_place (inl same) rest =
        subst (λ (b : Bool). IsOneOf (f h) (map f (cond b (a ∷ filter test (range_with_len (a + 1) n)) (filter test (range_with_len (a + 1) n)))))
        (sym (ap test (sym same) ∙ e)) (inl (ap f same))
    by_place (inr other) rest = later (test a) (rest other)

one_more : (a n : ℕ) → range_with_len a (suc n) ≡ range_with_len a n ++ (a + n) ∷ []
one_more a zero = let e : a ≡ a + 0 = omega arith in ap (λ (x : ℕ). x ∷ []) e
one_more a (suc n) =
    let e : a + 1 + n ≡ a + suc n = omega arith in
    ap (λ (xs : List ℕ). a ∷ xs) (one_more (a + 1) n ∙ ap (λ (x : ℕ). range_with_len (a + 1) n ++ x ∷ []) e)

filtered : (test : ℕ → Bool) (xs ys : List ℕ) → filter test (xs ++ ys) ≡ filter test xs ++ filter test ys
filtered test [] ys = refl
filtered test (x ∷ xs) ys = by_case (test x) (filtered test xs ys)
  where
    by_case : (b : Bool) → filter test (xs ++ ys) ≡ filter test xs ++ filter test ys
        → cond b (x ∷ filter test (xs ++ ys)) (filter test (xs ++ ys)) ≡ cond b (x ∷ filter test xs) (filter test xs) ++ filter test ys
    by_case true e = ap (λ (zs : List ℕ). x ∷ zs) e
    by_case false e = e

module _ (p : Program) (n : ℕ) where
  -- loops before enough others that aren't on the left are all kept
  kept_front : (g m d : ℕ) (before rest : List Bool) → g ≤ free_marks rest → d ≤ length before
      → take d (kept_from p n g m (before ++ rest)) ≡ range_with_len m d
  kept_front g m zero before rest h l = refl
  kept_front g m (suc d) [] rest h l = absurd (omega (arith, l))
  kept_front g m (suc d) (b ∷ before) rest h l =
      let many = free-append before rest in
      let some : leb g (free_marks (before ++ rest)) ≡ true = grind (arith, nat_tests, many, h) in
      let next : suc m ≡ m + 1 = omega arith in
      ap (λ c. take (suc d) (cond (b || c) (m ∷ kept_from p n g (suc m) (before ++ rest)) (kept_from p n g (suc m) (before ++ rest)))) some
      ∙ always b
      ∙ ap (λ (xs : List ℕ). m ∷ xs) (kept_front g (suc m) d before rest h (omega (arith, l)) ∙ ap (λ (k : ℕ). range_with_len k d) next)
    where
      always : (b : Bool) → take (suc d) (cond (b || true) (m ∷ kept_from p n g (suc m) (before ++ rest)) (kept_from p n g (suc m) (before ++ rest)))
          ≡ m ∷ take d (kept_from p n g (suc m) (before ++ rest))
      always true = refl
      always false = refl

  module _ (g d : ℕ) where
    abbrev of_level : ℕ → Label
    of_level h = reduced_label p n h 9 d Coordinate

    abbrev of_product : List Label
    of_product = cond (same_kept p n d g 0) (product_label p n d (full_mask p n (d - 1)) Coordinate ∷ []) []

    -- those of a level with one loop more gone, where its first kept loops stay
    level_is : same_kept p n d (suc g) g ≡ true
        → coordinate_labels p n (suc g) d
        ≡ (map of_level (filter (same_kept p n d g) (range_with_len 1 g)) ++ map of_level (filter (same_kept p n d g) (suc g ∷ []))) ++ of_product
    level_is same =
        let e : take d (kept_numbers p n (suc g)) ≡ take d (kept_numbers p n g) = lists_same _ _ same in
        let k : 1 + g ≡ suc g = omega arith in
        ap (λ (xs : List ℕ). map of_level (filter (λ h. same_list xs (take d (kept_numbers p n h))) (range_with_len 1 (suc g)))
        ++ cond (same_list xs (take d (kept_numbers p n 0))) (product_label p n d (full_mask p n (d - 1)) Coordinate ∷ []) []) e
        ∙ ap (λ (hs : List ℕ). map of_level (filter (same_kept p n d g) hs) ++ of_product)
        (one_more 1 g ∙ ap (λ (k : ℕ). range_with_len 1 g ++ k ∷ []) k)
        ∙ ap (λ (hs : List ℕ). map of_level hs ++ of_product) (filtered (same_kept p n d g) (range_with_len 1 g) (suc g ∷ []))
        ∙ ap (λ (ls : List Label). ls ++ of_product)
        (map-append of_level (filter (same_kept p n d g) (range_with_len 1 g)) (filter (same_kept p n d g) (suc g ∷ [])))

    -- a label of the level stays one
    coordinates-stay : (l : Label) → same_kept p n d (suc g) g ≡ true → IsOneOf l (coordinate_labels p n g d)
        → IsOneOf l (coordinate_labels p n (suc g) d)
    coordinates-stay l same x =
        subst (IsOneOf l) (sym (level_is same))
        (either-one l (map of_level (filter (same_kept p n d g) (range_with_len 1 g))) of_product
        (map of_level (filter (same_kept p n d g) (suc g ∷ []))) x)

-- ---- reducers

module _ (p : Program) (n : ℕ) (inside : n < length p.terms)
    (shallow : (before after : List Bool) → (plan_at p n).on_left ≡ before ++ false ∷ after → left_marks after ≤ 2) where
  module _ (before after : List Bool) (e : (plan_at p n).on_left ≡ before ++ false ∷ after) where
    abbrev g : ℕ
    g = free_marks after

    abbrev d : ℕ
    d = length before

    loops_are : loop_count p n ≡ d + 1 + left_marks after + g
    loops_are =
        let a = ap length e in
        let b = length-append before (false ∷ after) in
        let c = marks-counted after in
        omega (arith, a, b, c)

    more : g < free_loop_count p n
    more =
        let a = ap free_marks e in
        let b = free-append before (false ∷ after) in
        omega (arith, a, b)

    -- the condition of a reducer
    taken : (after_it : ℕ) → left_marks after ≡ after_it
        → (ltb n (length p.terms) && (ltb 0 (suc g) && (ltb (suc g - 1) (free_loop_count p n) && eqb (left_after (suc g - 1) (plan_at p n).on_left) after_it)))
        ≡ true
    taken after_it k =
        let a : ltb n (length p.terms) ≡ true = grind (arith, nat_tests, inside) in
        let some : ltb 0 (suc g) ≡ true = grind (arith, nat_tests) in
        let back : suc g - 1 ≡ g = omega arith in
        let b : ltb g (free_loop_count p n) ≡ true = let m = more in grind (arith, nat_tests, m) in
        let found : left_after g (plan_at p n).on_left ≡ left_marks after = ap (left_after g) e ∙ left-found before after in
        let c : eqb (left_after g (plan_at p n).on_left) after_it ≡ true = grind (arith, nat_tests, found, k) in
        ap (λ (i : ℕ). ltb n (length p.terms) && (ltb 0 (suc g) && (ltb i (free_loop_count p n) && eqb (left_after i (plan_at p n).on_left) after_it))) back
        ∙ ap (λ t. t && (ltb 0 (suc g) && (ltb g (free_loop_count p n) && eqb (left_after g (plan_at p n).on_left) after_it))) a
        ∙ ap (λ t. t && (ltb g (free_loop_count p n) && eqb (left_after g (plan_at p n).on_left) after_it)) some
        ∙ ap (λ t. t && eqb (left_after g (plan_at p n).on_left) after_it) b
        ∙ c

    abbrev levels : ℕ
    levels = loop_count p n - (suc g - 1)

    levels_are : levels ≡ suc d + left_marks after
    levels_are = let l = loops_are in omega (arith, l)

    enclosing : (l : Label) (k m : ℕ) → m ≡ suc k → IsOneOf l (level_labels (Plain p) (Own n) (plan_at p n) (coordinate_labels p n g) k)
        → IsOneOf l (cond (eqb m 1) (no_label ∷ []) (coordinate_labels p n g (m - 1)))
    enclosing l zero m is x =
        let one : eqb m 1 ≡ true = grind (arith, nat_tests, is) in
        subst (λ b. IsOneOf l (cond b (no_label ∷ []) (coordinate_labels p n g (m - 1)))) (sym one) x
    enclosing l (suc k) m is x =
        let many : eqb m 1 ≡ false = grind (arith, nat_tests, is) in
        let back : suc k ≡ m - 1 = omega (arith, is) in
        subst (λ b. IsOneOf l (cond b (no_label ∷ []) (coordinate_labels p n g (m - 1)))) (sym many)
        (subst (λ (i : ℕ). IsOneOf l (coordinate_labels p n g i)) back x)

    gone_back : g ≡ suc g - 1
    gone_back = omega arith

    -- labels of a level and of the values, as the rule counts them
    of_levels : (l : Label) (i j : ℕ) → i ≡ j → IsOneOf l (coordinate_labels p n g i) → IsOneOf l (coordinate_labels p n (suc g - 1) j)
    of_levels l i j same x =
        subst (λ (h : ℕ). IsOneOf l (coordinate_labels p n h j)) gone_back (subst (λ (k : ℕ). IsOneOf l (coordinate_labels p n g k)) same x)

    of_values : (v : Label) → IsOneOf v (value_labels p n g) → IsOneOf v (value_labels p n (suc g - 1))
    of_values v x = subst (λ (h : ℕ). IsOneOf v (value_labels p n h)) gone_back x

    sum_allowed : SumAllowed (Plain p) (Own n) (plan_at p n) (coordinate_labels p n) (value_labels p n) before after
    sum_allowed = record {
      few = shallow before after e;
      stay = λ k l less x.
          let all : take (suc k) (kept_numbers p n (suc g)) ≡ take (suc k) (kept_numbers p n g) =
          ap (λ (marks : List Bool). take (suc k) (kept_from p n (suc g) 0 marks)) e
          ∙ kept_front p n (suc g) 0 (suc k) before (false ∷ after) (omega arith) (omega (arith, less))
          ∙ sym (kept_front p n g 0 (suc k) before (false ∷ after) (omega arith) (omega (arith, less)))
          ∙ ap (λ (marks : List Bool). take (suc k) (kept_from p n g 0 marks)) (sym e) in
          coordinates-stay p n g (suc k) l
          (ap (λ (xs : List ℕ). same_list xs (take (suc k) (kept_numbers p n g))) all ∙ same_itself (take (suc k) (kept_numbers p n g))) x;
      scalar = λ l v none x y.
          let size = levels_are in
          let back : levels - 1 ≡ d = omega (arith, size, none) in
          plain p _ _ _ (omega arith) refl (record {
            holds = taken 0 none;
            ins_are = (
              subst (λ (h : ℕ). IsOneOf l (cond (eqb levels 1) (no_label ∷ []) (coordinate_labels p n h (levels - 1)))) gone_back
                  (enclosing l d levels (omega (arith, size, none)) x),
              (of_values v y, tt),
            );
            outs_are =
                ap (λ (i : ℕ). reduced_label p n (suc g) 9 i Value ∷ []) (sym back)
                ∙ ap (λ (h : ℕ). reduced_label p n (suc h) 9 (levels - 1) Value ∷ []) gone_back;
          });
      vector = λ l v one x y.
          let size = levels_are in
          let same : suc (suc d) ≡ levels = omega (arith, size, one) in
          let back : suc d ≡ levels - 1 = omega (arith, size, one) in
          plain p _ _ _ (omega arith) refl (record {
            holds = taken 1 one;
            ins_are = (of_levels l (suc (suc d)) levels same x, (of_values v y, tt));
            outs_are =
                ap (λ (i : ℕ). reduced_label p n (suc g) 9 i Coordinate ∷ reduced_label p n (suc g) 9 i Value ∷ []) back
                ∙ ap (λ (h : ℕ). reduced_label p n (suc h) 9 (levels - 1) Coordinate ∷ reduced_label p n (suc h) 9 (levels - 1) Value ∷ [])
                gone_back;
          });
      matrix = λ k l v two x y z.
          let size = levels_are in
          let same : suc (suc (suc d)) ≡ levels = omega (arith, size, two) in
          let back : suc (suc d) ≡ levels - 1 = omega (arith, size, two) in
          let back_two : suc d ≡ levels - 2 = omega (arith, size, two) in
          plain p _ _ _ (omega arith) refl (record {
            holds = taken 2 two;
            ins_are = (
              of_levels k (suc (suc d)) (levels - 1) back x,
              (of_levels l (suc (suc (suc d))) levels same y, (of_values v z, tt)),
            );
            outs_are =
                ap (λ (i : ℕ). reduced_label p n (suc g) 9 i Coordinate ∷ reduced_label p n (suc g) 9 (suc (suc d)) Coordinate
                ∷ reduced_label p n (suc g) 9 (suc (suc d)) Value ∷ []) back_two
                ∙ ap (λ (i : ℕ). reduced_label p n (suc g) 9 (levels - 2) Coordinate ∷ reduced_label p n (suc g) 9 i Coordinate
                ∷ reduced_label p n (suc g) 9 i Value ∷ []) back
                ∙ ap (λ (h : ℕ). reduced_label p n (suc h) 9 (levels - 2) Coordinate ∷ reduced_label p n (suc h) 9 (levels - 1) Coordinate
                ∷ reduced_label p n (suc h) 9 (levels - 1) Value ∷ []) gone_back;
          });
      coordinate = λ k some deep.
          left-one (reduced_label p n (suc g) 9 (suc k) Coordinate)
          (map (λ h. reduced_label p n h 9 (suc k) Coordinate) (filter (same_kept p n (suc k) (suc g)) (range_with_len 1 (suc g))))
          (cond (same_kept p n (suc k) (suc g) 0) (product_label p n (suc k) (full_mask p n (suc k - 1)) Coordinate ∷ []) [])
          (one-ranged (λ h. reduced_label p n h 9 (suc k) Coordinate) (same_kept p n (suc k) (suc g)) 1 (suc g) (suc g) (omega arith) (omega arith)
          (same_itself (take (suc k) (kept_numbers p n (suc g)))));
      value = λ k is. let l = loops_are in inl (ap (λ (i : ℕ). reduced_label p n (suc g) 9 i Value) (omega (arith, is, l)));
    }

  pub sums-allowed : SumsAllowed (Plain p) (Own n) (plan_at p n) (coordinate_labels p n) (value_labels p n)
  sums-allowed before after e = sum_allowed before after e

  -- ---- droppers

  pub drops-allowed : DropsAllowed (Plain p) (OfTerm n (free_loop_count p n)) (length (result_sizes p))
      (coordinate_labels p n (free_loop_count p n)) (value_labels p n (free_loop_count p n))
  drops-allowed =
      let a : ltb n (length p.terms) ≡ true = grind (arith, nat_tests, inside) in
      record {
        value = λ l v some x y.
            let b : ltb 0 (length (result_sizes p)) ≡ true = grind (arith, nat_tests, some) in
            plain p _ _ _ (omega arith) refl (record { holds = rw (a, b) refl; ins_are = (x, (y, tt)); outs_are = refl });
        fiber = λ f l some less x.
            let b : ltb 0 f ≡ true = grind (arith, nat_tests, some) in
            let c : ltb f (length (result_sizes p)) ≡ true = grind (arith, nat_tests, less) in
            plain p _ _ _ (omega arith) refl (record { holds = rw (a, b, c) refl; ins_are = (x, (inl refl, tt)); outs_are = refl });
      }
