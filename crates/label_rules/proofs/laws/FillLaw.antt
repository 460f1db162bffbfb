-- What fill gives: beneath the presence of a side in a join, the coordinates and values of the side, which it cuts out of
-- trees that may have more prefixes with nothing beneath.
use Rattle.std.specs.Prelude.{◌≡◌, ◌<◌, ℕ, zero, suc, ◌+◌, Bool, true, false, cond, List, [], ◌∷◌, ◌++◌, length, take, slice_index, Some, None, is_some, refl}
use Rattle.std.specs.List.{filter}
use mathlib.Core.List.{map}
use Rattle.std.proofs.Common.{arith, sym, ◌∙◌, ap, subst, length-take-le}
use Rattle.std.proofs.lemmas.List.{length-map, length_push}
use Rattle.sam_model.specs.Lists.{below, tuples}
use Rattle.stream_tokens.specs.declared.Token.{Token}
use Rattle.stream_tokens.specs.declared.Token.TheVariants.{Item}
use Rattle.stream_tokens.specs.Nest.{Leaf, leaf, Fiber, IsStream}
use Rattle.stream_tokens.specs.Flat.{flat}
use Rattle.stream_tokens.specs.Shapes.{on_tokens, under, Positive, Each}
use Rattle.stream_tokens.proofs.Algebra.{map-map, flat-on_tokens, on_fibers-under, under-ext, Each-imp, Positive-under, Positive-on_fibers}
use Rattle.stream_model.specs.declared.labels.Side.{Side}
use Rattle.stream_model.specs.declared.labels.Attr.{Attr}
use Rattle.stream_model.specs.declared.labels.Attr.TheVariants.{Coordinate, Value, Present}
use Rattle.stream_model.specs.Grow.{next, path_fibers}
use Rattle.stream_model.specs.Terms.{Summand}
use Rattle.stream_model.specs.Joins.{Part, join_upto, side_part}
use Rattle.stream_model.specs.Labels.{Shape, last, token, joined_shape, beside_shape, stream_at}
use Rattle.sam_model.proofs.Lists.{Each-range, map-ext, map-ext-each, filter-none}
use Rattle.stream_model.proofs.Grown.{InTree, each-next, under-same, tokens-suc, paths-InTree}
use Rattle.sam_model.proofs.Tuples.{tuples-long}
use Rattle.stream_model.proofs.Flat.{ClosedUnder, flat-paths}
use Rattle.stream_model.proofs.Sides.{beside-tokens}
use Rattle.stream_model.proofs.Results.{EachSized, join-closed}
use Rattle.stream_model.proofs.Streams.{stream_at-flat, stream_at-IsStream}
use Rattle.block_core.specs.Move.{columns}
use Rattle.block_core.specs.Ports.{AllStreams, number}
use Rattle.block_core.specs.DropFiber.{is_nonempty}
use Rattle.block_core.specs.Kind.{FillKind}
use Rattle.block_core.proofs.FillReadings.{contents}
use Rattle.block_core.proofs.FillGiven.{laid, fill-gives}
use Rattle.block_core.proofs.Laid.{all_elements, marked_by, side_list, laid-under, present-side, contents-under}
use Rattle.block_core.proofs.MergeReadings.{over-ext}
use Rattle.block_core.proofs.Given.{Gives}
use Rattle.label_rules.proofs.laws.Following.{paths-positive, gives-written}
use Rattle.label_rules.proofs.laws.DropLaws.{some-left}
use Rattle.label_rules.proofs.laws.JoinSides.{sized-before, joined-root, side-closed, side-within, side-goes-on, side-full}

-- ---- lists

-- Where the items of a side tell lists that aren't empty, and the other items empty ones, the lists that wide items tell
-- are, without the empty ones, those of the side's items among joined ones.
kept_alike : {A : Type 0} (Q : A → Type 0) (wide side outer : A → Bool) (g : A → List ℕ)
    → ((a : A) → Q a → side a ≡ true → (wide a ≡ true) × (outer a ≡ true) × (is_nonempty (g a) ≡ true))
    → ((a : A) → Q a → side a ≡ false → g a ≡ [])
    → (xs : List A) → Each Q xs → filter is_nonempty (map g (filter wide xs)) ≡ map g (filter side (filter outer xs))
kept_alike Q wide side outer g some none [] e = refl
kept_alike {A = A} Q wide side outer g some none (a ∷ xs) e =
    by_case (side a) refl (kept_alike Q wide side outer g some none xs e.1)
  where
    one_fewer : g a ≡ [] → (b : Bool) (ys : List A)
        → filter is_nonempty (map g (cond b (a ∷ ys) ys)) ≡ filter is_nonempty (map g ys)
    one_fewer h true ys = ap (λ (x : List ℕ). filter is_nonempty (x ∷ map g ys)) h
    one_fewer h false ys = refl

    not_there : side a ≡ false → (b : Bool) (ys : List A) → filter side (cond b (a ∷ ys) ys) ≡ filter side ys
    not_there h true ys = ap (λ b. cond b (a ∷ filter side ys) (filter side ys)) h
    not_there h false ys = refl

    by_case : (b : Bool) → side a ≡ b → filter is_nonempty (map g (filter wide xs)) ≡ map g (filter side (filter outer xs))
        → filter is_nonempty (map g (cond (wide a) (a ∷ filter wide xs) (filter wide xs)))
        ≡ map g (filter side (cond (outer a) (a ∷ filter outer xs) (filter outer xs)))
    by_case true s r =
        let there = some a e.0 s in
        rw (there.0, there.1, there.2, s) (ap (λ (ys : List (List ℕ)). g a ∷ ys) r)
    by_case false s r =
        one_fewer (none a e.0 s) (wide a) (filter wide xs) ∙ r ∙ ap (map g) (sym (not_there s (outer a) (filter outer xs)))

-- ---- trees that are cut

-- The tree of a shape widens a part down to depth e + 1: the part's coordinates follow each prefix of the part of length e
-- in this tree too, and nothing follows the other prefixes that it has of this length.
pub record Widens (part : Part) (sizes : List ℕ) (e : ℕ) (wide : Shape) : Type 0 where
  pub depth_is : wide.depth ≡ suc e
  pub sizes_are : wide.sizes ≡ sizes
  pub root : wide.ok [] ≡ true
  pub closed : ClosedUnder wide.ok sizes
  pub alike : (p : List ℕ) → length p ≡ e → next wide.ok sizes p ≡ next part.has sizes p

-- nothing follows what a closed tree lacks
none_follows : (ok : List ℕ → Bool) (sizes : List ℕ) → ClosedUnder ok sizes → (p : List ℕ) → ok p ≡ false → next ok sizes p ≡ []
none_follows ok sizes closed p h =
    filter-none (slice_index sizes (length p)) (λ c. ok (p ++ c ∷ [])) (λ c l. closed p c l h)
    (below (slice_index sizes (length p)))
    (Each-range 0 (slice_index sizes (length p)) (slice_index sizes (length p)) (omega arith))

still_some : {A B : Type 0} (f : A → B) (xs : List A) → is_nonempty (map f xs) ≡ is_nonempty xs
still_some f [] = refl
still_some f (x ∷ xs) = refl

positive_level : (ok : List ℕ → Bool) (sizes : List ℕ) (e : ℕ) → 0 < e → Positive (path_fibers ok sizes e)
positive_level ok sizes zero h = absurd (omega (arith, h))
positive_level ok sizes (suc d) h = paths-positive ok sizes d

module _ (sizes : List ℕ) (ss : List Summand) (n : ℕ) (side : Side) (e : ℕ)
    (sized : EachSized sizes ss) (inside : n < length ss) (some : 0 < e) (above : e < length sizes) where
  abbrev part : Part
  part = side_part ss n side

  -- the prefixes of the join that are e long
  abbrev outer : List (Fiber (List ℕ))
  outer = path_fibers (join_upto ss n).has sizes e

  -- an item for each of them that the side has
  abbrev presence : List (Fiber Leaf)
  presence = on_tokens (marked_by part.has (λ _. 1)) outer

  -- which these are
  abbrev sided : List (List ℕ)
  sided = filter part.has (all_elements outer)

  -- what x tells of each prefix that the side has after p
  abbrev told : (List ℕ → ℕ) → List ℕ → List ℕ
  told x p = map (λ c. x (p ++ c ∷ [])) (next part.has sizes p)

  -- ---- what follows a prefix in the side

  told_none : (x : List ℕ → ℕ) (p : List ℕ) → part.has p ≡ false → told x p ≡ []
  told_none x p h = ap (map (λ c. x (p ++ c ∷ []))) (none_follows part.has sizes (side-closed sizes ss n side sized inside) p h)

  goes_on : (p : List ℕ) → length p ≡ e → part.has p ≡ true → is_nonempty (next part.has sizes p) ≡ true
  goes_on p k h =
      some-left (λ c. part.has (p ++ c ∷ [])) (below (slice_index sizes (length p)))
      ∙ side-goes-on sizes ss n side sized inside p (omega (arith, k, some)) (omega (arith, k, above)) h

  -- a tree that widens the side has the side's prefixes
  wide_has : (wide : Shape) → Widens part sizes e wide → (p : List ℕ) → length p ≡ e → part.has p ≡ true → wide.ok p ≡ true
  wide_has wide w p k h = by_case (wide.ok p) refl
    where
      by_case : (b : Bool) → wide.ok p ≡ b → b ≡ true
      by_case true i = refl
      by_case false i =
          ap is_nonempty (sym (none_follows wide.ok sizes w.closed p i) ∙ w.alike p k) ∙ goes_on p k h

  -- ---- the ports

  long : Each (λ p. length p ≡ e) (tuples (take e sizes))
  long =
      Each-imp (λ p. length p ≡ length (take e sizes)) (λ p. length p ≡ e)
      (λ p k. k ∙ length-take-le e sizes (omega (arith, above))) (tuples (take e sizes)) (tuples-long (take e sizes))

  port_contents : (wide : Shape) → Widens part sizes e wide → (x : List ℕ → ℕ)
      → contents (under (told x) (path_fibers wide.ok sizes e)) ≡ map (told x) sided
  port_contents wide w x =
      contents-under (told x) (path_fibers wide.ok sizes e)
      ∙ ap (λ (ps : List (List ℕ)). filter is_nonempty (map (told x) ps))
      (flat-paths wide.ok sizes w.root w.closed e (omega (arith, above)))
      ∙ kept_alike (λ p. length p ≡ e) wide.ok part.has (join_upto ss n).has (told x)
      (λ p k h. (
        wide_has wide w p k h,
        side-within ss n side inside p h,
        still_some (λ c. x (p ++ c ∷ [])) (next part.has sizes p) ∙ goes_on p k h,
      ))
      (λ p k h. told_none x p h) (tuples (take e sizes)) long
      ∙ ap (λ (ps : List (List ℕ)). map (told x) (filter part.has ps))
      (sym (flat-paths (join_upto ss n).has sizes (joined-root ss n inside)
      (join-closed sizes (take (suc n) ss) (sized-before sizes ss (suc n) sized)) e (omega (arith, above))))

  port_laid : (x : List ℕ → ℕ) → laid presence (map (told x) sided) ≡ under (told x) outer
  port_laid x =
      laid-under part.has (λ _. 1) (told x) outer
      ∙ under-same (side_list part.has (told x)) (told x) (λ p. one p (part.has p) refl) outer
    where
      one : (p : List ℕ) (b : Bool) → part.has p ≡ b → cond b (told x p) [] ≡ told x p
      one p true h = refl
      one p false h = sym (told_none x p h)

  port_sizes : (x : List ℕ → ℕ) (ps : List (List ℕ))
      → map (λ (xs : List ℕ). length xs) (map (told x) ps) ≡ map (λ p. length (next part.has sizes p)) ps
  port_sizes x ps =
      map-map (λ (xs : List ℕ). length xs) (told x) ps
      ∙ map-ext (λ p. length (told x p)) (λ p. length (next part.has sizes p))
      (λ p. length-map (next part.has sizes p) (λ c. x (p ++ c ∷ []))) ps

  fill_ports : (payloads : ℕ) (x : ℕ → List ℕ → ℕ) (wide : ℕ → Shape) → ((p : ℕ) → Widens part sizes e (wide p))
      → AllStreams
      (flat leaf presence ∷ columns (λ p. flat Item (under (told (x p)) (path_fibers (wide p).ok sizes e))) 0 (suc payloads))
      → Gives (FillKind payloads)
      (flat leaf presence ∷ columns (λ p. flat Item (under (told (x p)) (path_fibers (wide p).ok sizes e))) 0 (suc payloads))
      (columns (λ p. flat Item (under (told (x p)) outer)) 0 (suc payloads))
  fill_ports payloads x wide w s =
      subst (Gives (FillKind payloads) _)
      (over-ext (λ p. flat Item (laid presence (contents (port p)))) (λ p. flat Item (under (told (x p)) outer)) 0 0
      (suc payloads)
      (λ i b. ap (flat Item) (ap (laid presence) (port_contents (wide (0 + i)) (w (0 + i)) (x (0 + i))) ∙ port_laid (x (0 + i)))))
      (fill-gives payloads presence port (map (λ p. length (next part.has sizes p)) sided)
      (Positive-on_fibers (map (marked_by part.has (λ _. 1))) outer (positive_level (join_upto ss n).has sizes e some))
      (λ p. Positive-under (told (x p)) (path_fibers (wide p).ok sizes e))
      (λ p. ap (map (λ (xs : List ℕ). length xs)) (port_contents (wide p) (w p) (x p)) ∙ port_sizes (x p) sided)
      (length-map sided (λ p. length (next part.has sizes p)) ∙ sym (present-side part.has (λ _. 1) outer))
      s)
    where
      port : ℕ → List (Fiber ℕ)
      port p = under (told (x p)) (path_fibers (wide p).ok sizes e)

  -- ---- streams

  items_under : (x : List ℕ → ℕ) (fs : List (Fiber (List ℕ)))
      → flat leaf (under (λ p. map (λ (y : ℕ). Some y) (told x p)) fs) ≡ flat Item (under (told x) fs)
  items_under x fs =
      ap (flat leaf) (sym (on_fibers-under (map (λ (y : ℕ). Some y)) (told x) refl fs))
      ∙ flat-on_tokens leaf (λ (y : ℕ). Some y) (under (told x) fs)

  -- where x is the number of what is told of each longer prefix that the side has
  abbrev Numbered : (List ℕ → Leaf) → (List ℕ → ℕ) → Type 0
  Numbered tok x = (p : List ℕ) → length p ≡ suc e → part.has p ≡ true → tok p ≡ Some (x p)

  told_numbers : (tok : List ℕ → Leaf) (x : List ℕ → ℕ) → Numbered tok x → (p : List ℕ) → length p ≡ e
      → map (λ c. tok (p ++ c ∷ [])) (next part.has sizes p) ≡ map (λ (y : ℕ). Some y) (told x p)
  told_numbers tok x h p k =
      map-ext-each (λ c. (part.has (p ++ c ∷ []) ≡ true) × (c < slice_index sizes (length p)))
      (λ c. tok (p ++ c ∷ [])) (λ c. Some (x (p ++ c ∷ [])))
      (λ c i. h (p ++ c ∷ []) (omega (arith, length_push p c, k)) i.0) (next part.has sizes p) (each-next part.has sizes p)
      ∙ sym (map-map (λ (y : ℕ). Some y) (λ c. x (p ++ c ∷ [])) (next part.has sizes p))

  port_written : (wide : Shape) → Widens part sizes e wide → (a : Attr) (x : List ℕ → ℕ) → Numbered (token wide a) x
      → stream_at wide a ≡ flat Item (under (told x) (path_fibers wide.ok sizes e))
  port_written wide w a x h =
      stream_at-flat wide a
      ∙ ap (λ (d : ℕ). flat leaf (on_tokens (token wide a) (path_fibers wide.ok wide.sizes d))) w.depth_is
      ∙ ap (λ (xs : List ℕ). flat leaf (on_tokens (token wide a) (path_fibers wide.ok xs (suc e)))) w.sizes_are
      ∙ ap (flat leaf)
      (tokens-suc wide.ok sizes e (token wide a)
      ∙ under-ext (InTree wide.ok sizes e) (λ p. map (λ c. token wide a (p ++ c ∷ [])) (next wide.ok sizes p))
      (λ p. map (λ (y : ℕ). Some y) (told x p))
      (λ p i. ap (map (λ c. token wide a (p ++ c ∷ []))) (w.alike p i.count) ∙ told_numbers (token wide a) x h p i.count)
      (path_fibers wide.ok sizes e) (paths-InTree wide.ok sizes w.root e))
      ∙ items_under x (path_fibers wide.ok sizes e)

  beside_written : (a : Attr) (x : List ℕ → ℕ) → Numbered (token (beside_shape sizes ss n side (suc e)) a) x
      → stream_at (beside_shape sizes ss n side (suc e)) a ≡ flat Item (under (told x) outer)
  beside_written a x h =
      let b : Shape = beside_shape sizes ss n side (suc e) in
      stream_at-flat b a
      ∙ ap (flat leaf)
      (beside-tokens sizes ss n side e (token b a) (joined-root ss n inside)
      ∙ under-ext (InTree (join_upto ss n).has sizes e) (λ p. map (λ c. token b a (p ++ c ∷ [])) (next part.has sizes p))
      (λ p. map (λ (y : ℕ). Some y) (told x p)) (λ p i. told_numbers (token b a) x h p i.count)
      outer (paths-InTree (join_upto ss n).has sizes (joined-root ss n inside) e))
      ∙ items_under x outer

  stream_of : (wide : Shape) → Widens part sizes e wide → length sizes < 9 → (a : Attr) → IsStream (stream_at wide a)
  stream_of wide w few a = stream_at-IsStream wide a (omega (arith, w.depth_is, above, few))

  -- ---- what fill gives

  -- coordinates of a tree that widens a side become those of the side beneath the join
  pub fill-coordinates : length sizes < 9 → (wide : Shape) → Widens part sizes e wide
      → Gives (FillKind 0) (stream_at (joined_shape sizes ss n e) (Present side) ∷ stream_at wide Coordinate ∷ [])
      (stream_at (beside_shape sizes ss n side (suc e)) Coordinate ∷ [])
  fill-coordinates few wide w =
      gives-written (FillKind 0) _ _ (flat leaf presence ∷ columns port 0 1)
      (columns (λ p. flat Item (under (told last) outer)) 0 1)
      (rw (stream_at-flat (joined_shape sizes ss n e) (Present side), port_written wide w Coordinate last (λ p k h. refl)) refl)
      (rw (beside_written Coordinate last (λ p k h. refl)) refl) (
        stream_at-IsStream (joined_shape sizes ss n e) (Present side) (omega (arith, above, few)),
        (stream_of wide w few Coordinate, tt),
      )
      (fill_ports 0 (λ p. last) (λ p. wide) (λ p. w))
    where
      port : ℕ → List Token
      port p = flat Item (under (told last) (path_fibers wide.ok sizes e))

  -- and on the last level so do coordinates and values, each of a tree that widens the side
  pub fill-values : length sizes < 9 → suc e ≡ length sizes → (wide wide' : Shape)
      → Widens part sizes e wide → Widens part sizes e wide'
      → ((p : List ℕ) → length p ≡ suc e → part.has p ≡ true → wide'.value p ≡ part.value p)
      → Gives (FillKind 1)
      (stream_at (joined_shape sizes ss n e) (Present side) ∷ stream_at wide Coordinate ∷ stream_at wide' Value ∷ [])
      (stream_at (beside_shape sizes ss n side (suc e)) Coordinate ∷ stream_at (beside_shape sizes ss n side (suc e)) Value ∷ [])
  fill-values few full wide wide' w w' values =
      gives-written (FillKind 1) _ _
      (flat leaf presence ∷ columns (λ p. flat Item (under (told (x p)) (path_fibers (cut p).ok sizes e))) 0 2)
      (columns (λ p. flat Item (under (told (x p)) outer)) 0 2)
      (rw (
        stream_at-flat (joined_shape sizes ss n e) (Present side),
        port_written wide w Coordinate last (λ p k h. refl),
        port_written wide' w' Value side_number (λ p k h. values p k h ∙ numbered p k h),
      ) refl)
      (rw (beside_written Coordinate last (λ p k h. refl), beside_written Value side_number numbered) refl) (
        stream_at-IsStream (joined_shape sizes ss n e) (Present side) (omega (arith, above, few)),
        (stream_of wide w few Coordinate, (stream_of wide' w' few Value, tt)),
      )
      (fill_ports 1 x cut widens)
    where
      side_number : List ℕ → ℕ
      side_number p = number (part.value p)

      there : (o : Leaf) → is_some o ≡ true → o ≡ Some (number o)
      there None h = absurd (cc)
      there (Some m) h = refl

      numbered : Numbered part.value side_number
      numbered p k h =
          there (part.value p)
          (sym (side-full sizes ss n side sized inside p (omega (arith, k)) (k ∙ full)) ∙ h)

      x : ℕ → List ℕ → ℕ
      x zero = last
      x (suc p) = side_number

      cut : ℕ → Shape
      cut zero = wide
      cut (suc p) = wide'

      widens : (p : ℕ) → Widens part sizes e (cut p)
      widens zero = w
      widens (suc p) = w'
