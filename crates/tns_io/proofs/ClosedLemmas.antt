-- What is filled is what the pattern lists.
use Rattle.std.proofs.Common.{◌≡◌, ◌⊎◌, ℕ, zero, suc, ◌+◌, ◌<◌, ◌≤◌, Bool, true, false, cond, not, ◌&&◌, ◌||◌, List, [], ◌∷◌, ◌++◌, Some, length, take, drop, eqb, ltb, refl, ap, sym, ◌∙◌, subst, arith, inl, inr}
use Rattle.std.specs.Prelude.{slice_get, slice_index, ◌^◌, ◌%◌, ◌-◌}
use Rattle.std.specs.List.{flat_map, filter, list_any}
use mathlib.Core.List.{map}
use Rattle.std.proofs.lemmas.Bool.{and_parts, or_cases, or_right, eqb-true}
use Rattle.std.proofs.lemmas.List.{length-map}
use Rattle.std.proofs.Math.Seq.{take-length}
use Rattle.std.proofs.lemmas.Bool.Decides.{nat_tests}
use Rattle.sam_base.specs.Each.{Each}
use Rattle.sam_model.specs.declared.tensors.Format.{Format}
use Rattle.sam_model.specs.declared.tensors.Tensor.{Tensor}
use Rattle.sam_model.specs.Accepted.{is_well_formed}
use Rattle.sam_model.specs.Pattern.{result_as, closed, ends_dense}
use Rattle.sam_model.specs.declared.tensors.Format.TheVariants.{Dense, Compressed}
use Rattle.sam_model.specs.Lists.{below, tuples, same_list, smaller, total, within, items_at}
use Rattle.sam_model.specs.Tensors.{Stored, compressed_until, is_stored, stored_prefixes, stored_entries}
use Rattle.sam_model.specs.Children.{next_coordinates}
use Rattle.sam_model.proofs.Lists.{same-test, not-true, list_any-ext, list_any-map, list_any-mono, list_any-flat_map, Each-weaker, Each-passed, Each-both, Each-always, filter-all-each, filter-never, filter-ext-each, flat_map-ext-each, map-ext-each}
use Rattle.sam_model.proofs.Orders.{same_list-self, same_list-true, is_in-range}
use Rattle.sam_model.proofs.Tuples.{tuples-front-long}
use Rattle.sam_model.proofs.Stored.{until-le, until-mono}
use Rattle.levels.proofs.Ascending.{Ascending, prefixes-long, prefixes-ascend, tuples-ascend}
use Rattle.levels.proofs.ConditionLemmas.{storable}
use Rattle.levels.proofs.Orders.{smaller-irrefl, smaller-trans}
use Rattle.levels.proofs.Prefixes.{longer, stored-dense, until-compressed, prefixes-more}
use Rattle.tns_io.specs.Fronts.{PathsAscend, fronts, fronts_behind}
use Rattle.tns_io.specs.Closing.{spread, merged, value_among, listed_fronts, filled}

-- ---- dense levels below a level

-- a level after the last compressed one is dense
dense-after : (formats : List Format) (k : ℕ) → k < length formats → compressed_until (length formats) formats ≤ k → slice_get formats k ≡ Some Dense
dense-after formats k inside last = by_case (slice_get formats k) refl
  where
    by_case : (found : Rattle.std.specs.Prelude.Option Format) → slice_get formats k ≡ found → slice_get formats k ≡ Some Dense
    by_case (Some Dense) e = e
    by_case (Some Compressed) e =
        let here = until-compressed formats k e in
        let more = until-mono (suc k) (length formats) formats (omega (arith, inside)) in
        absurd (omega (arith, here, more, last))
    by_case Rattle.std.specs.Prelude.None e = absurd (nowhere formats k inside e)
      where
        nowhere : (formats : List Format) (k : ℕ) → k < length formats → slice_get formats k ≡ Rattle.std.specs.Prelude.None → ⊥
        nowhere [] k h e = omega (arith, h)
        nowhere (f ∷ formats) zero h e = cc
        nowhere (f ∷ formats) (suc k) h e = nowhere formats k (omega (arith, h)) e

drop-all : (xs : List ℕ) → drop (length xs) xs ≡ []
drop-all [] = refl
drop-all (x ∷ xs) = drop-all xs

module _ (a : Stored) (long : length a.formats ≡ length a.sizes) where
  abbrev last : ℕ
  last = compressed_until (length a.formats) a.formats

  -- under each stored prefix all coordinates are stored
  prefixes-full : (k : ℕ) → k < length a.sizes → last ≤ k
      → stored_prefixes a (suc k) ≡ flat_map (λ p. map (λ c. p ++ c ∷ []) (below (slice_index a.sizes k))) (stored_prefixes a k)
  prefixes-full k inside behind =
      let dense = dense-after a.formats k (omega (arith, inside, long)) behind in
      prefixes-more a k inside
      ∙ flat_map-ext-each (λ p. (length p ≡ k) × (is_stored a p ≡ true)) (λ p. map (longer p) (next_coordinates a p)) (λ p. map (longer p) (below (slice_index a.sizes k)))
      (λ p h. ap (map (longer p)) (every p h.0 h.1 dense)) (stored_prefixes a k)
      (Each-both (λ p. length p ≡ k) (λ p. is_stored a p ≡ true) (stored_prefixes a k) (prefixes-long a k (omega (arith, inside))) (Each-passed (is_stored a) (tuples (take k a.sizes))))
    where
      every : (p : List ℕ) → length p ≡ k → is_stored a p ≡ true → slice_get a.formats k ≡ Some Dense → next_coordinates a p ≡ below (slice_index a.sizes k)
      every p long here dense =
          filter-all-each (λ c. is_stored a (p ++ c ∷ [])) (below (slice_index a.sizes (length p)))
          (Each-always (λ c. is_stored a (p ++ c ∷ []) ≡ true) (λ c. stored-dense a p c k long dense ∙ here) (below (slice_index a.sizes (length p))))
          ∙ ap (λ n. below (slice_index a.sizes n)) long

  drop_next : (xs : List ℕ) (k : ℕ) → k < length xs → drop k xs ≡ slice_index xs k ∷ drop (suc k) xs
  drop_next [] k h = absurd (omega (arith, h))
  drop_next (x ∷ xs) zero h = refl
  drop_next (x ∷ xs) (suc k) h = drop_next xs k (omega (arith, h))

  -- so those of full length are those of a level behind the last compressed one, spread
  spread-down : (n k : ℕ) → k + n ≡ length a.sizes → last ≤ k
      → stored_prefixes a (length a.sizes) ≡ spread (stored_prefixes a k) (drop k a.sizes)
  spread-down zero k e behind =
      let same : k ≡ length a.sizes = omega (arith, e) in
      subst (λ k. stored_prefixes a (length a.sizes) ≡ spread (stored_prefixes a k) (drop k a.sizes)) (sym same)
      (sym (ap (spread (stored_prefixes a (length a.sizes))) (drop-all a.sizes)))
  spread-down (suc n) k e behind =
      spread-down n (suc k) (omega (arith, e)) (omega (arith, behind))
      ∙ ap (λ ps. spread ps (drop (suc k) a.sizes)) (prefixes-full k (omega (arith, e)) behind)
      ∙ sym (ap (spread (stored_prefixes a k)) (drop_next a.sizes k (omega (arith, e))))

-- ---- lists that ascend

-- whether a list is one of these
abbrev has : List (List ℕ) → List ℕ → Bool
has xs z = list_any (same_list z) xs

differs : (p q : List ℕ) → smaller p q ≡ true → same_list p q ≡ false
differs p q h = not-true (same_list p q) (λ e. sym (smaller-irrefl q) ∙ subst (λ (u : List ℕ). smaller u q ≡ true) (same_list-true p q e) h)

differs-back : (p q : List ℕ) → smaller q p ≡ true → same_list p q ≡ false
differs-back p q h = not-true (same_list p q) (λ e. sym (smaller-irrefl q) ∙ subst (λ (u : List ℕ). smaller q u ≡ true) (same_list-true p q e) h)

-- what comes before all of these is none of them
has-none : (z : List ℕ) (xs : List (List ℕ)) → Each (λ x. smaller z x ≡ true) xs → has xs z ≡ false
has-none z [] h = refl
has-none z (x ∷ xs) h = rw (differs z x h.0) (has-none z xs h.1)

-- what all of these are, one of them is
among : (P : List ℕ → Type 0) (xs : List (List ℕ)) (z : List ℕ) → has xs z ≡ true → Each P xs → P z
among P [] z e h = absurd (cc)
among P (x ∷ xs) z e h = elim (or_cases (same_list z x) (has xs z) e) [ inl s ↦ subst P (sym (same_list-true z x s)) h.0 | inr r ↦ among P xs z r h.1 ]

-- one of x and xs that isn't x is one of xs
has-rest : (z x : List ℕ) (xs : List (List ℕ)) → has (x ∷ xs) z ≡ true → same_list z x ≡ false → has xs z ≡ true
has-rest z x xs h apart = elim (or_cases (same_list z x) (has xs z) h) [ inl s ↦ absurd (cc) | inr r ↦ r ]

same_list-turned : (p q : List ℕ) → same_list p q ≡ same_list q p
same_list-turned p q =
    same-test (same_list p q) (same_list q p) (λ h. ap (same_list q) (same_list-true p q h) ∙ same_list-self q) (λ h. ap (same_list p) (same_list-true q p h) ∙ same_list-self p)

-- of lists that ascend those that are among these, which ascend too and are all there, are these
chosen : (ts ys : List (List ℕ)) → Ascending ts → Ascending ys → Each (λ y. has ts y ≡ true) ys → filter (has ys) ts ≡ ys
chosen [] [] up vp all = refl
chosen [] (y ∷ ys) up vp all = absurd (cc all.0)
chosen (t ∷ ts) [] up vp all = filter-never (has []) (λ z. refl) (t ∷ ts)
chosen (t ∷ ts) (y ∷ ys) up vp all = by_case (same_list t y) refl (chosen ts ys up.1 vp.1) (chosen ts (y ∷ ys) up.1 vp)
  where
    by_case : (b : Bool) → same_list t y ≡ b
        → (Each (λ y. has ts y ≡ true) ys → filter (has ys) ts ≡ ys)
        → (Each (λ y. has ts y ≡ true) (y ∷ ys) → filter (has (y ∷ ys)) ts ≡ y ∷ ys)
        → cond (b || has ys t) (t ∷ filter (has (y ∷ ys)) ts) (filter (has (y ∷ ys)) ts) ≡ y ∷ ys
    by_case true e here there =
        let same : t ≡ y = same_list-true t y e in
        let skips : filter (has (y ∷ ys)) ts ≡ filter (has ys) ts =
        filter-ext-each (λ z. smaller t z ≡ true) (has (y ∷ ys)) (has ys)
        (λ z h. rw (differs-back z y (subst (λ (u : List ℕ). smaller u z ≡ true) same h)) refl) ts up.0 in
        let rest : Each (λ y. has ts y ≡ true) ys =
        Each-weaker (λ z. (has (t ∷ ts) z ≡ true) × (smaller y z ≡ true)) (λ z. has ts z ≡ true)
        (λ z h. has-rest z t ts h.0 (differs-back z t (subst (λ (u : List ℕ). smaller u z ≡ true) (sym same) h.1))) ys
        (Each-both (λ z. has (t ∷ ts) z ≡ true) (λ z. smaller y z ≡ true) ys all.1 vp.0) in
        ap (λ (r : List (List ℕ)). t ∷ r) (skips ∙ here rest) ∙ ap (λ (u : List ℕ). u ∷ ys) same
    by_case false e here there =
        let first : has ts y ≡ true = has-rest y t ts all.0 (same_list-turned y t ∙ e) in
        let less : smaller t y ≡ true = among (λ z. smaller t z ≡ true) ts y first up.0 in
        let after : Each (λ z. smaller t z ≡ true) ys = Each-weaker (λ z. smaller y z ≡ true) (λ z. smaller t z ≡ true) (λ z h. smaller-trans t y z less h) ys vp.0 in
        let rest : Each (λ y. has ts y ≡ true) ys =
        Each-weaker (λ z. (has (t ∷ ts) z ≡ true) × (smaller t z ≡ true)) (λ z. has ts z ≡ true)
        (λ z h. has-rest z t ts h.0 (differs-back z t h.1)) ys
        (Each-both (λ z. has (t ∷ ts) z ≡ true) (λ z. smaller t z ≡ true) ys all.1 after) in
        rw (has-none t ys after) (there (first, rest))

-- ---- values

abbrev number_at : List (List ℕ × ℕ) → List ℕ → ℕ
number_at es x = total (λ e. cond (same_list e.0 x) e.1 0) es

none-at : (x : List ℕ) (es : List (List ℕ × ℕ)) → Each (λ e. same_list e.0 x ≡ false) es → number_at es x ≡ 0
none-at x [] h = refl
none-at x (e ∷ es) h = let rest = none-at x es h.1 in rw h.0 (omega (arith, rest))

skips-one : (e : List ℕ × ℕ) (es : List (List ℕ × ℕ)) (x : List ℕ) → same_list e.0 x ≡ false → number_at (e ∷ es) x ≡ number_at es x
skips-one e es x h = rw h (omega arith)

is-small : (v : ℕ) → v < 2 ^ 64 → v % 2 ^ 64 ≡ v
is-small v h = omega (arith, h)

-- where the entries' paths are among these, which ascend, each path gets its value
merged-is : (xs : List (List ℕ)) (es : List (List ℕ × ℕ)) → Ascending xs → PathsAscend es → Each (λ e. has xs e.0 ≡ true) es
    → merged xs es ≡ map (λ x. (x, number_at es x % 2 ^ 64)) xs
merged-is [] es up vp all = refl
merged-is (x ∷ xs) [] up vp all = ap (λ (r : List (List ℕ × ℕ)). (x, 0) ∷ r) (merged-is xs [] up.1 tt tt)
merged-is (x ∷ xs) (e ∷ es) up vp all = by_case (same_list x e.0) refl (merged-is xs es up.1 vp.1) (merged-is xs (e ∷ es) up.1 vp)
  where
    by_case : (b : Bool) → same_list x e.0 ≡ b
        → (Each (λ e. has xs e.0 ≡ true) es → merged xs es ≡ map (λ z. (z, number_at es z % 2 ^ 64)) xs)
        → (Each (λ e. has xs e.0 ≡ true) (e ∷ es) → merged xs (e ∷ es) ≡ map (λ z. (z, number_at (e ∷ es) z % 2 ^ 64)) xs)
        → (x, (cond {A = ℕ × List (List ℕ × ℕ)} b (e.1 % 2 ^ 64, es) (0, e ∷ es)).0) ∷ merged xs (cond {A = ℕ × List (List ℕ × ℕ)} b (e.1 % 2 ^ 64, es) (0, e ∷ es)).1 ≡ map (λ z. (z, number_at (e ∷ es) z % 2 ^ 64)) (x ∷ xs)
    by_case true s here there =
        let same : x ≡ e.0 = same_list-true x e.0 s in
        let others : number_at es x ≡ 0 =
        none-at x es (Each-weaker (λ z. smaller e.0 z.0 ≡ true) (λ z. same_list z.0 x ≡ false)
        (λ z h. differs-back z.0 x (subst (λ (u : List ℕ). smaller u z.0 ≡ true) (sym same) h)) es vp.0) in
        let own : number_at (e ∷ es) x ≡ e.1 = rw (same_list-turned e.0 x ∙ s) (omega (arith, others)) in
        let rest : Each (λ z. has xs z.0 ≡ true) es =
        Each-weaker (λ z. (has (x ∷ xs) z.0 ≡ true) × (smaller e.0 z.0 ≡ true)) (λ z. has xs z.0 ≡ true)
        (λ z h. has-rest z.0 x xs h.0 (differs-back z.0 x (subst (λ (u : List ℕ). smaller u z.0 ≡ true) (sym same) h.1))) es
        (Each-both (λ z. has (x ∷ xs) z.0 ≡ true) (λ z. smaller e.0 z.0 ≡ true) es all.1 vp.0) in
        let later : map (λ z. (z, number_at es z % 2 ^ 64)) xs ≡ map (λ z. (z, number_at (e ∷ es) z % 2 ^ 64)) xs =
        map-ext-each (λ z. smaller x z ≡ true) (λ z. (z, number_at es z % 2 ^ 64)) (λ z. (z, number_at (e ∷ es) z % 2 ^ 64))
        (λ z h. ap (λ (v : ℕ). (z, v % 2 ^ 64)) (sym (skips-one e es z (differs e.0 z (subst (λ (u : List ℕ). smaller u z ≡ true) same h))))) xs up.0 in
        ap (λ (r : List (List ℕ × ℕ)). (x, e.1 % 2 ^ 64) ∷ r) (here rest ∙ later)
        ∙ ap (λ (v : ℕ). (x, v % 2 ^ 64) ∷ map (λ z. (z, number_at (e ∷ es) z % 2 ^ 64)) xs) (sym own)
    by_case false s here there =
        let first : has xs e.0 ≡ true = has-rest e.0 x xs all.0 (same_list-turned e.0 x ∙ s) in
        let less : smaller x e.0 ≡ true = among (λ z. smaller x z ≡ true) xs e.0 first up.0 in
        let after : Each (λ z. smaller x z.0 ≡ true) es = Each-weaker (λ z. smaller e.0 z.0 ≡ true) (λ z. smaller x z.0 ≡ true) (λ z h. smaller-trans x e.0 z.0 less h) es vp.0 in
        let none : number_at (e ∷ es) x ≡ 0 =
        none-at x (e ∷ es) (differs-back e.0 x less, Each-weaker (λ z. smaller x z.0 ≡ true) (λ z. same_list z.0 x ≡ false) (λ z h. differs-back z.0 x h) es after) in
        let rest : Each (λ z. has xs z.0 ≡ true) es =
        Each-weaker (λ z. (has (x ∷ xs) z.0 ≡ true) × (smaller x z.0 ≡ true)) (λ z. has xs z.0 ≡ true)
        (λ z h. has-rest z.0 x xs h.0 (differs-back z.0 x h.1)) es
        (Each-both (λ z. has (x ∷ xs) z.0 ≡ true) (λ z. smaller x z.0 ≡ true) es all.1 after) in
        ap (λ (r : List (List ℕ × ℕ)). (x, 0) ∷ r) (there (first, rest))
        ∙ ap (λ (v : ℕ). (x, v % 2 ^ 64) ∷ map (λ z. (z, number_at (e ∷ es) z % 2 ^ 64)) xs) (sym none)

-- ---- fronts

-- fronts of paths that ascend are equal or ascend
fronts-follow : (q : ℕ) (p r : List ℕ) → smaller p r ≡ true → (same_list (take q p) (take q r) ≡ true) ⊎ (smaller (take q p) (take q r) ≡ true)
fronts-follow zero p r h = inl refl
fronts-follow (suc q) [] [] h = absurd (cc)
fronts-follow (suc q) [] (y ∷ r) h = inr refl
fronts-follow (suc q) (x ∷ p) [] h = absurd (cc)
fronts-follow (suc q) (x ∷ p) (y ∷ r) h =
    elim (or_cases (ltb x y) (eqb x y && smaller p r) h) [
      | inl less ↦ inr (rw less refl)
      | inr both ↦
          let parts = and_parts (eqb x y) (smaller p r) both in
          elim (fronts-follow q p r parts.1) [
            | inl s ↦ inl (rw (parts.0, s) refl)
            | inr s ↦ inr (rw (parts.0, s) (or_right (ltb x y) true refl))
          ]
    ]

module _ (q : ℕ) where
  abbrev Follows : List ℕ → List ℕ × ℕ → Type 0
  Follows front e = (same_list front (take q e.0) ≡ true) ⊎ (smaller front (take q e.0) ≡ true)

  follow : (e : List ℕ × ℕ) (es : List (List ℕ × ℕ)) → Each (λ later. smaller e.0 later.0 ≡ true) es → Each (Follows (take q e.0)) es
  follow e es up = Each-weaker (λ later. smaller e.0 later.0 ≡ true) (Follows (take q e.0)) (λ later h. fronts-follow q e.0 later.0 h) es up

  behind-ascend : (front : List ℕ) (es : List (List ℕ × ℕ)) → PathsAscend es → Each (Follows front) es
      → Each (λ f. smaller front f ≡ true) (fronts_behind q front es) × Ascending (fronts_behind q front es)
  behind-ascend front [] up h = (tt, tt)
  behind-ascend front (e ∷ es) up h =
      by_case (same_list front (take q e.0)) refl (behind-ascend front es up.1 h.1) (behind-ascend (take q e.0) es up.1 (follow e es up.0))
    where
      by_case : (b : Bool) → same_list front (take q e.0) ≡ b
          → Each (λ f. smaller front f ≡ true) (fronts_behind q front es) × Ascending (fronts_behind q front es)
          → Each (λ f. smaller (take q e.0) f ≡ true) (fronts_behind q (take q e.0) es) × Ascending (fronts_behind q (take q e.0) es)
          → Each (λ f. smaller front f ≡ true) (cond b (fronts_behind q front es) (take q e.0 ∷ fronts_behind q (take q e.0) es))
          × Ascending (cond b (fronts_behind q front es) (take q e.0 ∷ fronts_behind q (take q e.0) es))
      by_case true s stays goes = stays
      by_case false s stays goes =
          let less : smaller front (take q e.0) ≡ true = elim h.0 [ inl e ↦ absurd (cc) | inr l ↦ l ] in (
            (
              less,
              Each-weaker (λ f. smaller (take q e.0) f ≡ true) (λ f. smaller front f ≡ true) (λ f l. smaller-trans front (take q e.0) f less l)
                  (fronts_behind q (take q e.0) es) goes.0,
            ),
            goes,
          )

  fronts-ascend : (es : List (List ℕ × ℕ)) → PathsAscend es → Ascending (fronts q es)
  fronts-ascend [] up = tt
  fronts-ascend (e ∷ es) up = behind-ascend (take q e.0) es up.1 (follow e es up.0)

  -- they are those of the entries
  has-behind : (p front : List ℕ) (es : List (List ℕ × ℕ))
      → (same_list p front || has (fronts_behind q front es) p) ≡ (same_list p front || list_any (λ e. same_list p (take q e.0)) es)
  has-behind p front [] = refl
  has-behind p front (e ∷ es) = by_case (same_list front (take q e.0)) refl (has-behind p front es) (has-behind p (take q e.0) es)
    where
      twice : (a b : Bool) → (a || b) ≡ (a || (a || b))
      twice true b = refl
      twice false b = refl

      by_case : (b : Bool) → same_list front (take q e.0) ≡ b
          → (same_list p front || has (fronts_behind q front es) p) ≡ (same_list p front || list_any (λ e. same_list p (take q e.0)) es)
          → (same_list p (take q e.0) || has (fronts_behind q (take q e.0) es) p) ≡ (same_list p (take q e.0) || list_any (λ e. same_list p (take q e.0)) es)
          → (same_list p front || has (cond b (fronts_behind q front es) (take q e.0 ∷ fronts_behind q (take q e.0) es)) p)
          ≡ (same_list p front || (same_list p (take q e.0) || list_any (λ e. same_list p (take q e.0)) es))
      by_case true s stays goes =
          stays ∙ twice (same_list p front) (list_any (λ e. same_list p (take q e.0)) es)
          ∙ ap (λ (u : List ℕ). same_list p front || (same_list p u || list_any (λ e. same_list p (take q e.0)) es)) (same_list-true front (take q e.0) s)
      by_case false s stays goes = ap (λ b. same_list p front || b) goes

  has-fronts : (p : List ℕ) (es : List (List ℕ × ℕ)) → has (fronts q es) p ≡ list_any (λ e. same_list p (take q e.0)) es
  has-fronts p [] = refl
  has-fronts p (e ∷ es) = has-behind p (take q e.0) es

  Each-behind : (Q : List ℕ → Type 0) (front : List ℕ) (es : List (List ℕ × ℕ)) → Each (λ e. Q (take q e.0)) es → Each Q (fronts_behind q front es)
  Each-behind Q front [] h = tt
  Each-behind Q front (e ∷ es) h = by_case (same_list front (take q e.0)) (Each-behind Q front es h.1) (Each-behind Q (take q e.0) es h.1)
    where
      by_case : (b : Bool) → Each Q (fronts_behind q front es) → Each Q (fronts_behind q (take q e.0) es)
          → Each Q (cond b (fronts_behind q front es) (take q e.0 ∷ fronts_behind q (take q e.0) es))
      by_case true stays goes = stays
      by_case false stays goes = (h.0, goes)

  pub Each-fronts : (Q : List ℕ → Type 0) (es : List (List ℕ × ℕ)) → Each (λ e. Q (take q e.0)) es → Each Q (fronts q es)
  Each-fronts Q [] h = tt
  Each-fronts Q (e ∷ es) h = (h.0, Each-behind Q (take q e.0) es h.1)

-- ---- tuples

in-tuples : (sizes p : List ℕ) → within sizes p ≡ true → length p ≡ length sizes → has (tuples sizes) p ≡ true
in-tuples [] [] h long = refl
in-tuples [] (c ∷ p) h long = absurd (cc)
in-tuples (s ∷ sizes) [] h long = absurd (omega (arith, long))
in-tuples (s ∷ sizes) (c ∷ p) h long =
    let parts = and_parts (ltb c s) (within sizes p) h in
    list_any-flat_map (same_list (c ∷ p)) (λ d. map (λ u. d ∷ u) (tuples sizes)) (below s)
    ∙ list_any-mono (eqb c) (λ d. has (map (λ u. d ∷ u) (tuples sizes)) (c ∷ p))
    (λ d e. list_any-map (same_list (c ∷ p)) (λ u. d ∷ u) (tuples sizes)
    ∙ rw e (in-tuples sizes p parts.1 (omega (arith, long))))
    (below s) (is_in-range s 0 c (omega arith) (less c s parts.0))
  where
    less : (c s : ℕ) → ltb c s ≡ true → c < 0 + s
    less c s h = grind (arith, nat_tests)

within-front : (q : ℕ) (sizes p : List ℕ) → within sizes p ≡ true → within (take q sizes) (take q p) ≡ true
within-front zero sizes p h = refl
within-front (suc q) [] [] h = refl
within-front (suc q) (s ∷ sizes) [] h = refl
within-front (suc q) [] (c ∷ p) h = absurd (cc)
within-front (suc q) (s ∷ sizes) (c ∷ p) h =
    let parts = and_parts (ltb c s) (within sizes p) h in rw (parts.0, within-front q sizes p parts.1) refl

length-fronts : (q : ℕ) (xs ys : List ℕ) → length xs ≡ length ys → length (take q xs) ≡ length (take q ys)
length-fronts zero xs ys h = refl
length-fronts (suc q) [] [] h = refl
length-fronts (suc q) [] (y ∷ ys) h = absurd (omega (arith, h))
length-fronts (suc q) (x ∷ xs) [] h = absurd (omega (arith, h))
length-fronts (suc q) (x ∷ xs) (y ∷ ys) h = ap suc (length-fronts q xs ys (omega (arith, h)))

-- ---- the fronts of the entries are the stored prefixes of the last compressed level

until-again : (formats : List Format) (k : ℕ) → compressed_until (compressed_until k formats) formats ≡ compressed_until k formats
until-again formats zero = refl
until-again [] (suc k) = refl
until-again (Compressed ∷ formats) (suc k) = ap suc (until-again formats k)
until-again (Dense ∷ formats) (suc k) = by_case (compressed_until k formats) (eqb (compressed_until k formats) 0) refl (until-again formats k)
  where
    by_case : (q : ℕ) (b : Bool) → eqb q 0 ≡ b → compressed_until q formats ≡ q → compressed_until (cond b 0 (suc q)) (Dense ∷ formats) ≡ cond b 0 (suc q)
    by_case q true z e = refl
    by_case q false z e = ap (λ n. cond (eqb n 0) 0 (suc n)) e ∙ ap (λ b. cond b 0 (suc q)) z

take_long : (xs : List ℕ) (n : ℕ) → length xs ≡ n → take n xs ≡ xs
take_long xs n h = subst (λ n. take n xs ≡ xs) h (take-length xs)

-- each entry is one of all
each-own : {A : Type 0} (r : A → A → Bool) → ((x : A) → r x x ≡ true) → (xs : List A) → Each (λ x. list_any (λ y. r y x) xs ≡ true) xs
each-own r own [] = tt
each-own {A = A} r own (x ∷ xs) = (
  rw (own x) refl,
  Each-weaker (λ z. list_any (λ y. r y z) xs ≡ true) (λ z. (r x z || list_any (λ y. r y z) xs) ≡ true)
      (λ z h. or_right (r x z) (list_any (λ y. r y z) xs) h) xs (each-own r own xs),
)

has-chosen : (test : List ℕ → Bool) (ts : List (List ℕ)) (z : List ℕ) → test z ≡ true → has ts z ≡ true → has (filter test ts) z ≡ true
has-chosen test [] z passes h = absurd (cc)
has-chosen test (t ∷ ts) z passes h = by_case (test t) refl (or_cases (same_list z t) (has ts z) h) (has-chosen test ts z passes)
  where
    by_case : (b : Bool) → test t ≡ b → (same_list z t ≡ true) ⊎ (has ts z ≡ true) → (has ts z ≡ true → has (filter test ts) z ≡ true)
        → has (cond b (t ∷ filter test ts) (filter test ts)) z ≡ true
    by_case true e (inl s) r = rw s refl
    by_case true e (inr s) r = or_right (same_list z t) (has (filter test ts) z) (r s)
    by_case false e (inl s) r = absurd (let same = same_list-true z t s in cc)
    by_case false e (inr s) r = r s

module _ (a : Stored) (long : length a.formats ≡ length a.sizes)
    (whole : Each (λ e. length e.0 ≡ length a.sizes) a.entries) (inside : Each (λ e. within a.sizes e.0 ≡ true) a.entries)
    (up : PathsAscend a.entries) where
  abbrev q : ℕ
  q = last a long

  last-inside : q ≤ length a.sizes
  last-inside = let h = until-le (length a.formats) a.formats in omega (arith, h, long)

  -- fronts of entries are among the tuples of a front's sizes
  each-front : (k : ℕ) → Each (λ e. has (tuples (take k a.sizes)) (take k e.0) ≡ true) a.entries
  each-front k =
      Each-weaker (λ e. (length e.0 ≡ length a.sizes) × (within a.sizes e.0 ≡ true)) (λ e. has (tuples (take k a.sizes)) (take k e.0) ≡ true)
      (λ e h. in-tuples (take k a.sizes) (take k e.0) (within-front k a.sizes e.0 h.1) (length-fronts k e.0 a.sizes h.0)) a.entries
      (Each-both (λ e. length e.0 ≡ length a.sizes) (λ e. within a.sizes e.0 ≡ true) a.entries whole inside)

  fronts-stored : stored_prefixes a q ≡ cond (eqb q 0) ([] ∷ []) (fronts q a.entries)
  fronts-stored = by_case q (eqb q 0) refl last-inside (until-again a.formats (length a.formats))
    where
      by_case : (q : ℕ) (b : Bool) → eqb q 0 ≡ b → q ≤ length a.sizes → compressed_until q a.formats ≡ q
          → stored_prefixes a q ≡ cond b ([] ∷ []) (fronts q a.entries)
      by_case zero true e short same = refl
      by_case zero false e short same = absurd (cc)
      by_case (suc q) true e short same = absurd (grind (arith, nat_tests, e))
      by_case (suc q) false e short same =
          filter-ext-each (λ p. length p ≡ suc q) (is_stored a) (has (fronts (suc q) a.entries)) tested (tuples (take (suc q) a.sizes)) (tuples-front-long a.sizes (suc q) short)
          ∙ chosen (tuples (take (suc q) a.sizes)) (fronts (suc q) a.entries) (tuples-ascend (take (suc q) a.sizes)) (fronts-ascend (suc q) a.entries up)
          (Each-fronts (suc q) (λ f. has (tuples (take (suc q) a.sizes)) f ≡ true) a.entries (each-front (suc q)))
        where
          tested : (p : List ℕ) → length p ≡ suc q → is_stored a p ≡ has (fronts (suc q) a.entries) p
          tested p l =
              ap (λ n. eqb (compressed_until n a.formats) 0 || list_any (λ entry. same_list (take (compressed_until n a.formats) entry.0) (take (compressed_until n a.formats) p)) a.entries) l
              ∙ ap (λ n. eqb n 0 || list_any (λ entry. same_list (take n entry.0) (take n p)) a.entries) same
              ∙ ap (λ b. b || list_any (λ entry. same_list (take (suc q) entry.0) (take (suc q) p)) a.entries) e
              ∙ ap (λ (u : List ℕ). list_any (λ entry. same_list (take (suc q) entry.0) u) a.entries) (take_long p (suc q) l)
              ∙ list_any-ext (λ entry. same_list (take (suc q) entry.0) p) (λ entry. same_list p (take (suc q) entry.0)) (λ entry. same_list-turned (take (suc q) entry.0) p) a.entries
              ∙ sym (has-fronts (suc q) p a.entries)

  -- what is stored of full length
  pub paths-stored : stored_prefixes a (length a.sizes) ≡ spread (listed_fronts q a.entries) (drop q a.sizes)
  paths-stored =
      spread-down a long (length a.sizes - q) q (let h = last-inside in omega (arith, h)) (omega arith)
      ∙ ap (λ ps. spread ps (drop q a.sizes)) fronts-stored

  entries-there : Each (λ e. has (stored_prefixes a (length a.sizes)) e.0 ≡ true) a.entries
  entries-there =
      Each-weaker (λ e. (list_any (λ entry. same_list (take q entry.0) (take q e.0)) a.entries ≡ true)
      × ((length e.0 ≡ length a.sizes) × (has (tuples (take (length a.sizes) a.sizes)) (take (length a.sizes) e.0) ≡ true)))
      (λ e. has (stored_prefixes a (length a.sizes)) e.0 ≡ true)
      (λ e h. has-chosen (is_stored a) (tuples (take (length a.sizes) a.sizes)) e.0
      (ap (λ n. eqb (compressed_until n a.formats) 0 || list_any (λ entry. same_list (take (compressed_until n a.formats) entry.0) (take (compressed_until n a.formats) e.0)) a.entries)
      (h.1.0 ∙ sym long) ∙ or_right (eqb q 0) _ h.0)
      (ap (has (tuples (take (length a.sizes) a.sizes))) (sym (take_long e.0 (length a.sizes) h.1.0)) ∙ h.1.1))
      a.entries
      (Each-both (λ e. list_any (λ entry. same_list (take q entry.0) (take q e.0)) a.entries ≡ true)
      (λ e. (length e.0 ≡ length a.sizes) × (has (tuples (take (length a.sizes) a.sizes)) (take (length a.sizes) e.0) ≡ true)) a.entries
      (each-own (λ (x y : List ℕ × ℕ). same_list (take q x.0) (take q y.0)) (λ x. same_list-self (take q x.0)) a.entries)
      (Each-both (λ e. length e.0 ≡ length a.sizes) (λ e. has (tuples (take (length a.sizes) a.sizes)) (take (length a.sizes) e.0) ≡ true) a.entries whole (each-front (length a.sizes))))

  -- and with its values
  pub entries-stored : stored_entries a ≡ merged (spread (listed_fronts q a.entries) (drop q a.sizes)) a.entries
  entries-stored =
      sym (merged-is (stored_prefixes a (length a.sizes)) a.entries (prefixes-ascend a (length a.sizes)) up entries-there)
      ∙ ap (λ ps. merged ps a.entries) paths-stored

-- ---- what a result lists

fronts-whole : (n : ℕ) (front : List ℕ) (es : List (List ℕ × ℕ)) → Each (λ e. smaller front e.0 ≡ true) es → PathsAscend es → Each (λ e. length e.0 ≡ n) es
    → fronts_behind n front es ≡ map (λ e. e.0) es
fronts-whole n front [] after up long = refl
fronts-whole n front (e ∷ es) after up long =
    let same : take n e.0 ≡ e.0 = take_long e.0 n long.0 in
    let apart : same_list front (take n e.0) ≡ false = ap (same_list front) same ∙ differs front e.0 after.0 in
    rw (apart, same) (ap (λ (r : List (List ℕ)). e.0 ∷ r) (fronts-whole n e.0 es up.0 up.1 long.1))

own-fronts : (n : ℕ) (es : List (List ℕ × ℕ)) → PathsAscend es → Each (λ e. length e.0 ≡ n) es → fronts n es ≡ map (λ e. e.0) es
own-fronts n [] up long = refl
own-fronts n (e ∷ es) up long =
    let same : take n e.0 ≡ e.0 = take_long e.0 n long.0 in
    rw same (ap (λ (r : List (List ℕ)). e.0 ∷ r) (fronts-whole n e.0 es up.0 up.1 long.1))

merged-own : (es : List (List ℕ × ℕ)) → Each (λ e. e.1 < 2 ^ 64) es → merged (map (λ e. e.0) es) es ≡ es
merged-own [] small = refl
merged-own (e ∷ es) small =
    rw (same_list-self e.0) (ap (λ (v : ℕ). (e.0, v) ∷ merged (map (λ e. e.0) es) es) (is-small e.1 small.0) ∙ ap (λ (r : List (List ℕ × ℕ)). e ∷ r) (merged-own es small.1))

module _ (t : Tensor) (found : List (List ℕ × ℕ)) (formed : is_well_formed t ≡ true)
    (whole : Each (λ e. length e.0 ≡ length t.order) found) (inside : Each (λ e. within (items_at t.dims t.order) e.0 ≡ true) found)
    (up : PathsAscend found) where
  pub sizes-long : length (items_at t.dims t.order) ≡ length t.order
  sizes-long = length-map t.order (slice_index t.dims)

  pub formats-long : length t.formats ≡ length t.order
  formats-long = let s = storable t formed in s.formats ∙ sym s.levels

  -- with dimensions, the pattern is what is filled
  pub filled-is-closed : eqb (length t.formats) 0 ≡ false → filled t found ≡ closed t found
  filled-is-closed some =
      sym (ap (λ b. cond b found (stored_entries (result_as t found))) some
      ∙ entries-stored (result_as t found) (formats-long ∙ sym sizes-long)
      (Each-weaker (λ e. length e.0 ≡ length t.order) (λ e. length e.0 ≡ length (items_at t.dims t.order)) (λ e h. h ∙ sym sizes-long) found whole) inside up)

  -- where the last level isn't dense it is what is found
  pub found-is-closed : Each (λ e. e.1 < 2 ^ 64) found → ends_dense t ≡ false → closed t found ≡ found
  found-is-closed small last = by_case (eqb (length t.formats) 0) refl
    where
      q : ℕ
      q = compressed_until (length t.formats) t.formats

      kept : (b : Bool) → not b ≡ false → b ≡ true
      kept true h = refl
      kept false h = absurd (cc)

      by_case : (b : Bool) → eqb (length t.formats) 0 ≡ b → closed t found ≡ found
      by_case true e = ap (λ b. cond b found (stored_entries (result_as t found))) e
      by_case false e =
          let q_is : compressed_until (length t.formats) t.formats ≡ length t.formats = eqb-true _ _ (kept _ last) in
          sym (filled-is-closed e)
          ∙ ap (λ n. merged (spread (cond (eqb n 0) ([] ∷ []) (fronts n found)) (drop n (items_at t.dims t.order))) found) q_is
          ∙ ap (λ b. merged (spread (cond b ([] ∷ []) (fronts (length t.formats) found)) (drop (length t.formats) (items_at t.dims t.order))) found) e
          ∙ ap (λ sizes. merged (spread (fronts (length t.formats) found) sizes) found)
          (ap (λ n. drop n (items_at t.dims t.order)) (formats-long ∙ sym sizes-long) ∙ drop-all (items_at t.dims t.order))
          ∙ ap (λ paths. merged paths found)
          (own-fronts (length t.formats) found up (Each-weaker (λ e. length e.0 ≡ length t.order) (λ e. length e.0 ≡ length t.formats) (λ e h. h ∙ sym formats-long) found whole))
          ∙ merged-own found small

-- so many entries as paths, and these paths
pub merged-length : (xs : List (List ℕ)) (es : List (List ℕ × ℕ)) → length (merged xs es) ≡ length xs
merged-length [] es = refl
merged-length (x ∷ xs) es = ap suc (merged-length xs (value_among x es).1)
