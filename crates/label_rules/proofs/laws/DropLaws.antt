-- What the blocks give that drop coordinates with no value, and then those with nothing beneath, in any tree with values.
use Rattle.std.specs.Prelude.{◌≡◌, ◌<◌, ◌≤◌, ℕ, suc, Bool, true, false, cond, ◌&&◌, List, [], ◌∷◌, ◌++◌, length, drop, slice_index, ltb, Some, None, is_some, refl, ◌||◌, zero}
use Rattle.std.specs.List.{filter, list_any}
use mathlib.Core.List.{map}
use Rattle.std.proofs.Common.{arith, sym, ◌∙◌, ap}
use Rattle.std.proofs.lemmas.Bool.Decides.{nat_tests}
use Rattle.std.proofs.lemmas.List.{length_push}
use Rattle.sam_model.specs.Lists.{below, tuples}
use Rattle.stream_tokens.specs.declared.Token.TheVariants.{Item}
use Rattle.stream_tokens.specs.Nest.{Leaf, Fiber}
use Rattle.stream_tokens.specs.Flat.{flat}
use Rattle.stream_tokens.specs.Shapes.{on_tokens, on_fibers, under, Positive}
use Rattle.stream_tokens.proofs.Algebra.{flat-on_tokens, on_fibers-under, under-on_tokens, under-ext, Positive-on_fibers}
use Rattle.block_core.specs.Ports.{first_item, second_leaf, second}
use Rattle.block_core.specs.DropValue.{has_value}
use Rattle.block_core.specs.DropFiber.{is_nonempty, has_fiber}
use Rattle.block_core.specs.Kind.{DropValueKind, DropFiberKind}
use Rattle.block_core.proofs.Given.{Gives, dropvalue-over, dropfiber-over}
use Rattle.stream_model.specs.Grow.{next, path_fibers}
use Rattle.stream_model.specs.Trees.{begins_value, pruned_from, in_reduced, value_reduced, reduced_sizes}
use Rattle.stream_model.specs.Labels.{last, reduced_shape, stream_at}
use Rattle.sam_model.proofs.Lists.{and-true, and-false, list_any-gives, filter-ext, list_any-ext, filter-map}
use Rattle.stream_model.proofs.Grown.{InTree, paths-InTree, paths-same}
use Rattle.stream_model.proofs.Pruned.{begins-next, begins-full}
use Rattle.label_rules.proofs.laws.Following.{paths-positive, followers, followers-beneath, coordinates-grow, gives-written}
use Rattle.stream_model.specs.Tellings.{Prefixes, told, coordinate}
use Rattle.stream_model.proofs.Levels.{told-flows, stream-over}
use Rattle.stream_model.specs.declared.labels.Attr.TheVariants.{Coordinate, Value}
use Rattle.stream_model.specs.Terms.{TermData}
use Rattle.label_rules.proofs.laws.KeptStreams.{coordinates-unpruned, values-unpruned}
use Rattle.label_rules.proofs.laws.ItemStreams.{gives-same}
use Rattle.stream_model.proofs.Reduced.{value-begins}

filter_both : {A : Type 0} (p q : A → Bool) (xs : List A) → filter p (filter q xs) ≡ filter (λ x. q x && p x) xs
filter_both p q [] = refl
filter_both p q (x ∷ xs) = by_case (q x) (filter_both p q xs)
  where
    by_case : (b : Bool) → filter p (filter q xs) ≡ filter (λ x. q x && p x) xs
        → filter p (cond b (x ∷ filter q xs) (filter q xs))
        ≡ cond (b && p x) (x ∷ filter (λ x. q x && p x) xs) (filter (λ x. q x && p x) xs)
    by_case true e = ap (λ t. cond (p x) (x ∷ t) t) e
    by_case false e = e

followers_kept : {B : Type 0} (keeps : ℕ × B → Bool) (ok ok' : List ℕ → Bool) (sizes : List ℕ) (v : List ℕ → B) (p : List ℕ)
    → ((c : ℕ) → (ok (p ++ c ∷ []) && keeps (c, v (p ++ c ∷ []))) ≡ ok' (p ++ c ∷ []))
    → filter keeps (followers ok sizes v p) ≡ followers ok' sizes v p
followers_kept keeps ok ok' sizes v p h =
    filter-map keeps (λ c. (c, v (p ++ c ∷ []))) (next ok sizes p)
    ∙ ap (map (λ c. (c, v (p ++ c ∷ []))))
    (filter_both (λ c. keeps (c, v (p ++ c ∷ []))) (λ c. ok (p ++ c ∷ [])) (below (slice_index sizes (length p)))
    ∙ filter-ext (λ c. ok (p ++ c ∷ []) && keeps (c, v (p ++ c ∷ []))) (λ c. ok' (p ++ c ∷ [])) h
    (below (slice_index sizes (length p))))

has_some : (c : ℕ) (o : Leaf) → has_value (c, o) ≡ is_some o
has_some c None = refl
has_some c (Some n) = refl

-- something is left of a list where some item passes the test
pub some-left : (test : ℕ → Bool) (xs : List ℕ) → is_nonempty (filter test xs) ≡ list_any test xs
some-left test [] = refl
some-left test (x ∷ xs) = by_case (test x) (some-left test xs)
  where
    by_case : (b : Bool) → is_nonempty (filter test xs) ≡ list_any test xs
        → is_nonempty (cond b (x ∷ filter test xs) (filter test xs)) ≡ (b || list_any test xs)
    by_case true e = refl
    by_case false e = e

second_test : (a b : Bool) → (b ≡ true → a ≡ true) → (a && b) ≡ b
second_test a true h = ap (λ x. x && true) (h refl)
second_test a false h = and-false a

-- a tree whose lists with values begin with its lists
module _ (has : List ℕ → Bool) (value : List ℕ → Leaf) (sizes : List ℕ) (root : has [] ≡ true)
    (holds : (p q : List ℕ) → length p ≤ length sizes → is_some (value (p ++ q)) ≡ true → has p ≡ true) where
  abbrev begins : List ℕ → Bool
  begins q = begins_value value sizes q

  abbrev pub cut : ℕ → List ℕ → Bool
  cut f p = pruned_from has value sizes f p

  begins_has : (q : List ℕ) → length q ≤ length sizes → begins q ≡ true → has q ≡ true
  begins_has q l k = list_any-gives (λ rest. is_some (value (q ++ rest))) (has q) (λ rest e. holds q rest l e) (tuples (drop (length q) sizes)) k

  pub early : (f : ℕ) (p : List ℕ) → length p < f → cut f p ≡ has p
  early f p h = let t : ltb (length p) f ≡ true = grind (arith, nat_tests) in rw t (and-true (has p))

  pub late : (f : ℕ) (p : List ℕ) → f ≤ length p → length p ≤ length sizes → cut f p ≡ begins p
  late f p h l = let t : ltb (length p) f ≡ false = grind (arith, nat_tests) in rw t (second_test (has p) (begins p) (begins_has p l))

  -- above the level of pruning it is the same
  pub unpruned : (f d : ℕ) → d < f → path_fibers (cut f) sizes d ≡ path_fibers has sizes d
  unpruned f d h =
      paths-same (cut f) has sizes sizes (early f [] (omega (arith, h)) ∙ root) d
      (λ n p k i.
      ap (λ (cs : List ℕ). map (λ c. p ++ c ∷ []) cs)
      (filter-ext (λ c. cut f (p ++ c ∷ [])) (λ c. has (p ++ c ∷ []))
      (λ c. early f (p ++ c ∷ []) (omega (arith, length_push p c, i.count, k, h))) (below (slice_index sizes (length p)))))

  abbrev pairs_of : {B : Type 0} → (List ℕ → B) → (List ℕ → Bool) → ℕ → List (Fiber (ℕ × B))
  pairs_of v ok d = on_tokens (λ p. (last p, v p)) (path_fibers ok sizes d)

  coordinates_of : {B : Type 0} (v : List ℕ → B) (ok : List ℕ → Bool) (d : ℕ) → told coordinate (path_fibers ok sizes d) ≡ flat first_item (pairs_of v ok d)
  coordinates_of {B = B} v ok d = sym (flat-on_tokens (first_item {B = B}) (λ p. (last p, v p)) (path_fibers ok sizes d))

  values_of : (ok : List ℕ → Bool) (d : ℕ) → told value (path_fibers ok sizes d) ≡ flat second_leaf (pairs_of value ok d)
  values_of ok d = sym (flat-on_tokens (second_leaf {A = ℕ}) (λ p. (last p, value p)) (path_fibers ok sizes d))

  pairs_positive : {B : Type 0} (v : List ℕ → B) (ok : List ℕ → Bool) (d : ℕ) → Positive (pairs_of v ok (suc d))
  pairs_positive v ok d = Positive-on_fibers (map (λ p. (last p, v p))) (path_fibers ok sizes (suc d)) (paths-positive ok sizes d)

  -- where a test keeps what begins a value, it prunes the last level
  level_pruned : {B : Type 0} (e : ℕ) (keeps : ℕ × B → Bool) (v : List ℕ → B) → suc e ≤ length sizes
      → ((p : List ℕ) (c : ℕ) → length p ≡ e → keeps (c, v (p ++ c ∷ [])) ≡ begins (p ++ c ∷ []))
      → on_fibers (filter keeps) (pairs_of v has (suc e)) ≡ pairs_of v (cut (suc e)) (suc e)
  level_pruned {B = B} e keeps v room k =
      ap (λ (fs : List (Fiber (ℕ × B))). on_fibers (filter keeps) fs) (followers-beneath has sizes e v)
      ∙ on_fibers-under (filter keeps) (followers has sizes v) refl (path_fibers has sizes e)
      ∙ under-ext (InTree has sizes e) (λ p. filter keeps (followers has sizes v p)) (followers (cut (suc e)) sizes v)
      (λ p i.
      followers_kept keeps has (cut (suc e)) sizes v p
      (λ c.
      ap (λ b. has (p ++ c ∷ []) && b) (k p c i.count)
      ∙ second_test (has (p ++ c ∷ [])) (begins (p ++ c ∷ [])) (begins_has (p ++ c ∷ []) (omega (arith, length_push p c, i.count, room)))
      ∙ sym (late (suc e) (p ++ c ∷ []) (omega (arith, length_push p c, i.count)) (omega (arith, length_push p c, i.count, room))))) (path_fibers has sizes e)
      (paths-InTree has sizes root e)
      ∙ ap (under (followers (cut (suc e)) sizes v)) (sym (unpruned (suc e) e (omega arith)))
      ∙ sym (followers-beneath (cut (suc e)) sizes e v)

  pub dropvalue-law : (e : ℕ) → length sizes ≡ suc e → suc e ≤ 200
      → Gives DropValueKind (told coordinate (path_fibers has sizes (suc e)) ∷ told value (path_fibers has sizes (suc e)) ∷ [])
      (told coordinate (path_fibers (cut (suc e)) sizes (suc e)) ∷ told value (path_fibers (cut (suc e)) sizes (suc e)) ∷ [])
  dropvalue-law e size few =
      gives-written DropValueKind _ _ (flat first_item (pairs_of value has (suc e)) ∷ flat second_leaf (pairs_of value has (suc e)) ∷ [])
      (flat first_item (on_fibers (filter has_value) (pairs_of value has (suc e)))
      ∷ flat second_leaf (on_fibers (filter has_value) (pairs_of value has (suc e))) ∷ [])
      (rw (coordinates_of value has (suc e), values_of has (suc e)) refl)
      (rw (after, coordinates_of value (cut (suc e)) (suc e), values_of (cut (suc e)) (suc e)) refl)
      (told-flows coordinate has sizes (suc e) few, (told-flows value has sizes (suc e) few, tt))
      (dropvalue-over (pairs_of value has (suc e)) (pairs_positive value has e))
    where
      after : on_fibers (filter has_value) (pairs_of value has (suc e)) ≡ pairs_of value (cut (suc e)) (suc e)
      after =
          level_pruned e has_value value (omega (arith, size))
          (λ p c k. has_some c (value (p ++ c ∷ [])) ∙ sym (begins-full value sizes (p ++ c ∷ []) (omega (arith, length_push p c, k, size))))

  pub dropfiber-law : (e : ℕ) → suc e < length sizes → suc (suc e) ≤ 200
      → Gives DropFiberKind
      (told coordinate (path_fibers has sizes (suc e)) ∷ told coordinate (path_fibers (cut (suc (suc e))) sizes (suc (suc e))) ∷ [])
      (told coordinate (path_fibers (cut (suc e)) sizes (suc e)) ∷ told coordinate (path_fibers (cut (suc e)) sizes (suc (suc e))) ∷ [])
  dropfiber-law e above few =
      gives-written DropFiberKind _ _ (flat first_item (pairs_of beneath has f) ∷ flat Item (under second (pairs_of beneath has f)) ∷ [])
      (flat first_item (on_fibers (filter has_fiber) (pairs_of beneath has f))
      ∷ flat Item (under second (on_fibers (filter has_fiber) (pairs_of beneath has f))) ∷ [])
      (rw (coordinates_of beneath has f, inner (suc f) has root (unpruned (suc f) f (omega arith)) (omega arith)) refl)
      (rw (after, coordinates_of beneath (cut f) f, inner f (cut f) (early f [] (omega arith) ∙ root) refl (omega arith)) refl)
      (told-flows coordinate has sizes f (omega (arith, few)), (told-flows coordinate (cut (suc f)) sizes (suc f) few, tt))
      (dropfiber-over (pairs_of beneath has f) (pairs_positive beneath has e))
    where
      f : ℕ
      f = suc e

      beneath : List ℕ → List ℕ
      beneath p = next (cut (suc f)) sizes p

      inner : (n : ℕ) (ok : List ℕ → Bool) → ok [] ≡ true → path_fibers (cut n) sizes f ≡ path_fibers ok sizes f → n ≤ suc f
          → told coordinate (path_fibers (cut n) sizes (suc f)) ≡ flat Item (under second (pairs_of beneath ok f))
      inner n ok top same low =
          coordinates-grow (cut n) sizes f
          ∙ ap (λ (fs : Prefixes). flat Item (under (next (cut n) sizes) fs)) same
          ∙ ap (flat Item)
          (under-ext (InTree ok sizes f) (next (cut n) sizes) beneath
          (λ p i.
          filter-ext (λ c. cut n (p ++ c ∷ [])) (λ c. cut (suc f) (p ++ c ∷ []))
          (λ c. late n (p ++ c ∷ []) (omega (arith, length_push p c, i.count, low)) (omega (arith, length_push p c, i.count, above))
          ∙ sym (late (suc f) (p ++ c ∷ []) (omega (arith, length_push p c, i.count)) (omega (arith, length_push p c, i.count, above)))) (below (slice_index sizes (length p))))
          (path_fibers ok sizes f) (paths-InTree ok sizes top f)
          ∙ sym (under-on_tokens second (λ p. (last p, beneath p)) (path_fibers ok sizes f)))

      goes_on : (q : List ℕ) → length q ≡ f → is_nonempty (beneath q) ≡ begins q
      goes_on q k =
          some-left (λ b. cut (suc f) (q ++ b ∷ [])) (below (slice_index sizes (length q)))
          ∙ list_any-ext (λ b. cut (suc f) (q ++ b ∷ [])) (λ b. begins (q ++ b ∷ []))
          (λ b. late (suc f) (q ++ b ∷ []) (omega (arith, length_push q b, k)) (omega (arith, length_push q b, k, above))) (below (slice_index sizes (length q)))
          ∙ sym (begins-next value sizes q (omega (arith, k, above)))

      after : on_fibers (filter has_fiber) (pairs_of beneath has f) ≡ pairs_of beneath (cut f) f
      after = level_pruned e has_fiber beneath (omega (arith, above)) (λ p c k. goes_on (p ++ c ∷ []) (omega (arith, length_push p c, k)))

-- ---- in the reduced trees of a term

module _ (t : TermData) (g : ℕ) where
  holds : (p q : List ℕ) → length p ≤ length (reduced_sizes t g) → is_some (value_reduced t g (p ++ q)) ≡ true → in_reduced t g p ≡ true
  holds p q l e = value-begins t g p q e

  -- On the last level, what drops coordinates with no value prunes the tree from there.
  pub drop-value-gives : (r : ℕ) → length (reduced_sizes t g) ≡ r → 0 < r → r < 9
      → Gives DropValueKind (stream_at (reduced_shape t g 9 r) Coordinate ∷ stream_at (reduced_shape t g 9 r) Value ∷ [])
      (stream_at (reduced_shape t g r r) Coordinate ∷ stream_at (reduced_shape t g r r) Value ∷ [])
  drop-value-gives zero size some few = absurd (omega (arith, some))
  drop-value-gives (suc e) size some few =
      gives-same DropValueKind _ _ _ _
      (rw (coordinates-unpruned t g (suc e) few, values-unpruned t g (suc e) few) refl)
      (rw (stream-over (reduced_shape t g (suc e) (suc e)) Coordinate, stream-over (reduced_shape t g (suc e) (suc e)) Value) refl)
      (dropvalue-law (in_reduced t g) (value_reduced t g) (reduced_sizes t g) refl holds e size (omega (arith, few)))

  -- On a level above the last, what drops coordinates with nothing beneath prunes the tree from there.
  pub drop-fiber-gives : (f : ℕ) → 0 < f → f < length (reduced_sizes t g) → length (reduced_sizes t g) < 9
      → Gives DropFiberKind
      (stream_at (reduced_shape t g 9 f) Coordinate ∷ stream_at (reduced_shape t g (suc f) (suc f)) Coordinate ∷ [])
      (stream_at (reduced_shape t g f f) Coordinate ∷ stream_at (reduced_shape t g f (suc f)) Coordinate ∷ [])
  drop-fiber-gives zero some above few = absurd (omega (arith, some))
  drop-fiber-gives (suc e) some above few =
      gives-same DropFiberKind _ _ _ _
      (rw (
        coordinates-unpruned t g (suc e) (omega (arith, above, few)),
        stream-over (reduced_shape t g (suc (suc e)) (suc (suc e))) Coordinate,
      ) refl)
      (rw (
        stream-over (reduced_shape t g (suc e) (suc e)) Coordinate,
        stream-over (reduced_shape t g (suc e) (suc (suc e))) Coordinate,
      ) refl)
      (dropfiber-law (in_reduced t g) (value_reduced t g) (reduced_sizes t g) refl holds e above (omega (arith, above, few)))
