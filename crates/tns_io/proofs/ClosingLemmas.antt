-- A result is closed as the pattern says.
use Rattle.std.proofs.Common.{◌≡◌, ℕ, suc, ◌+◌, ◌*◌, ◌≤◌, Bool, true, false, cond, not, List, [], ◌∷◌, length, take, drop, eqb, refl, sym, ap, ◌∙◌, subst, arith}
use Rattle.std.specs.List.{list_all, enumerate_from}
use Rattle.std.proofs.lemmas.Bool.{eqb-true}
use Rattle.std.proofs.lemmas.Bool.Decides.{nat_tests}
use Rattle.std.proofs.lemmas.List.{length-drop, length-take-le}
use Rattle.std.proofs.Math.Seq.{take-length}
use Rattle.sam_base.specs.Each.{Each}
use Rattle.sam_model.specs.declared.tensors.Tensor.{Tensor}
use Rattle.sam_model.specs.declared.tensors.Written.{Written}
use Rattle.sam_model.specs.Accepted.{is_well_formed}
use Rattle.sam_model.specs.Listing.{InRange, path_of, listing}
use Rattle.sam_model.specs.Lists.{items_at, tuples, within}
use Rattle.sam_model.specs.Pattern.{result_as, closed, ends_dense}
use Rattle.sam_model.specs.Tensors.{Stored, compressed_until, entry_list, is_stored, stored_entries, stored_prefixes, value_at}
use Rattle.sam_model.proofs.Lists.{not-true, Each-always, Each-filter, Each-mapped, Each-weaker}
use Rattle.sam_model.proofs.Stored.{until-le}
use Rattle.tns_io.specs.Closing.{spread, merged, multiplied, listed_fronts, full_paths}
use Rattle.tns_io.specs.Fronts.{PathsAscend, fronts}
use Rattle.tns_io.specs.Rows.{joined, rows_of}
use Rattle.tns_io.proofs.ClosedLemmas.{Each-fronts, filled-is-closed, formats-long, merged-length, sizes-long}
use Rattle.tns_io.proofs.FoundEntries.{all-pass, each-passes, tuples-within}
use Rattle.tns_io.proofs.MergeLemmas.{values_of, merged-entries}
use Rattle.tns_io.proofs.RowLemmas.{joined-long, rows-joined}
use Rattle.tns_io.proofs.SpreadLemmas.{spread-long, spread-many}

eqb-false : (m n : ℕ) → (m ≡ n → ⊥) → eqb m n ≡ false
eqb-false m n apart = not-true (eqb m n) (λ h. absurd (apart (eqb-true m n h)))

-- a path has a coordinate for each level
path-long : (segs crds : List (List ℕ)) (q : ℕ) → length crds ≡ length segs → length (path_of segs crds q) ≡ length segs
path-long [] crds q h = refl
path-long (ends ∷ segs) [] q h = absurd (omega (arith, h))
path-long (ends ∷ segs) (coordinates ∷ crds) q h = ap suc (path-long segs crds q (omega (arith, h)))

pub listing-long : (r : ℕ) (w : Written) → InRange r w → Each (λ e. length e.0 ≡ r) (listing w)
listing-long r w h =
    Each-mapped (λ e. length e.0 ≡ r) (λ numbered. (path_of w.segs w.crds numbered.0, numbered.1)) (enumerate_from 0 w.vals)
    (Each-always (λ numbered. length (path_of w.segs w.crds numbered.0) ≡ r) (λ numbered. path-long w.segs w.crds numbered.0 (h.crds ∙ sym h.segs) ∙ h.segs) (enumerate_from 0 w.vals))

-- the paths that a pattern lists are below the sizes
stored-within : (a : Stored) → Each (λ e. within a.sizes e.0 ≡ true) (stored_entries a)
stored-within a =
    Each-mapped (λ e. within a.sizes e.0 ≡ true) (λ x. (x, value_at a x)) (stored_prefixes a (length a.sizes))
    (Each-filter (λ x. within a.sizes x ≡ true) (is_stored a) (tuples (take (length a.sizes) a.sizes))
    (subst (λ sizes. Each (λ x. within a.sizes x ≡ true) (tuples sizes)) (sym (take-length a.sizes)) (tuples-within a.sizes)))

module _ (t : Tensor) (w : Written) (formed : is_well_formed t ≡ true) (range : InRange (length t.order) w)
    (below : list_all (λ e. within (items_at t.dims t.order) e.0) (listing w) ≡ true) (up : PathsAscend (listing w)) where
  abbrev found : List (List ℕ × ℕ)
  found = listing w

  abbrev sizes : List ℕ
  sizes = items_at t.dims t.order

  abbrev last : ℕ
  last = compressed_until (length t.formats) t.formats

  whole : Each (λ e. length e.0 ≡ length t.order) found
  whole = listing-long (length t.order) w range

  inside : Each (λ e. within sizes e.0 ≡ true) found
  inside = each-passes (λ e. within sizes e.0) found below

  as_many_formats : length t.formats ≡ length t.order
  as_many_formats = formats-long t found formed whole inside up

  as_many_sizes : length sizes ≡ length t.order
  as_many_sizes = sizes-long t found formed whole inside up

  pub last-inside : last ≤ length t.order
  last-inside = let least = until-le (length t.formats) t.formats in let same = as_many_formats in omega (arith, least, same)

  fronts-long : Each (λ p. length p ≡ last) (listed_fronts last found)
  fronts-long = by_case last (eqb last 0) refl last-inside
    where
      by_case : (q : ℕ) (b : Bool) → eqb q 0 ≡ b → q ≤ length t.order → Each (λ p. length p ≡ q) (cond b ([] ∷ []) (fronts q found))
      by_case q true z least = (grind (arith, nat_tests, z), tt)
      by_case q false z least =
          Each-fronts q (λ p. length p ≡ q) found
          (Each-weaker (λ e. length e.0 ≡ length t.order) (λ e. length (take q e.0) ≡ q) (λ e long. length-take-le q e.0 (omega (arith, long, least))) found whole)

  rows-back : rows_of last (length (listed_fronts last found)) (joined (listed_fronts last found)) ≡ listed_fronts last found
  rows-back = rows-joined last (listed_fronts last found) fronts-long

  paths-long : Each (λ p. length p ≡ length t.order) (full_paths t found)
  paths-long =
      let all : last + length (drop last sizes) ≡ length t.order =
      let left = length-drop last sizes in let same = as_many_sizes in let least = last-inside in omega (arith, left, same, least) in
      subst (λ n. Each (λ p. length p ≡ n) (full_paths t found)) all (spread-long (drop last sizes) last (listed_fronts last found) fronts-long)

  -- the numbers of the fronts
  module _ (fronts_numbers : List ℕ) (n : ℕ) (f : fronts_numbers ≡ joined (listed_fronts last found)) (many : n ≡ length (listed_fronts last found)) where
    pub fronts-whole : length fronts_numbers ≡ n * last
    fronts-whole = ap length f ∙ joined-long last (listed_fronts last found) fronts-long ∙ ap (λ m. m * last) (sym many)

    fronts-back : rows_of last n fronts_numbers ≡ listed_fronts last found
    fronts-back = ap (λ m. rows_of last m fronts_numbers) many ∙ ap (rows_of last (length (listed_fronts last found))) f ∙ rows-back

    -- how many are listed
    module _ (some : eqb (length t.formats) 0 ≡ false) where
      pub listed-many : length (closed t found) ≡ multiplied n (drop last sizes)
      listed-many =
          ap length (sym (filled-is-closed t found formed whole inside up some))
          ∙ merged-length (full_paths t found) found
          ∙ spread-many (drop last sizes) (listed_fronts last found)
          ∙ ap (λ m. multiplied m (drop last sizes)) (sym many)

      -- what is listed, by the numbers of the paths and the values
      pub listed-is : (numbers values : List ℕ) (count : ℕ) (entries : List (List ℕ × ℕ)) → numbers ≡ joined (spread (rows_of last n fronts_numbers) (drop last sizes))
          → count ≡ multiplied n (drop last sizes) → values ≡ values_of (merged (rows_of (length t.order) count numbers) found)
          → entries ≡ entry_list (length t.order) numbers values → entries ≡ closed t found
      listed-is numbers values count entries p c v e =
          let numbers_are : numbers ≡ joined (full_paths t found) = p ∙ ap (λ rows. joined (spread rows (drop last sizes))) fronts-back in
          let count_is : count ≡ length (full_paths t found) =
          c ∙ ap (λ m. multiplied m (drop last sizes)) many ∙ sym (spread-many (drop last sizes) (listed_fronts last found)) in
          let rows_are : rows_of (length t.order) count numbers ≡ full_paths t found =
          ap (λ m. rows_of (length t.order) m numbers) count_is ∙ ap (rows_of (length t.order) (length (full_paths t found))) numbers_are
          ∙ rows-joined (length t.order) (full_paths t found) paths-long in
          e
          ∙ ap (entry_list (length t.order) numbers) (v ∙ ap (λ rows. values_of (merged rows found)) rows_are)
          ∙ ap (λ xs. entry_list (length t.order) xs (values_of (merged (full_paths t found) found))) numbers_are
          ∙ merged-entries (length t.order) (full_paths t found) found paths-long
          ∙ filled-is-closed t found formed whole inside up some

  -- a last level that isn't the last compressed one
  module _ (apart : last ≡ length t.order → ⊥) where
    pub is-dense : ends_dense t ≡ true
    is-dense = ap not (eqb-false last (length t.formats) (λ e. apart (e ∙ as_many_formats)))

    pub some-levels : eqb (length t.formats) 0 ≡ false
    some-levels = eqb-false (length t.formats) 0 (λ e. apart (let least = last-inside in let same = as_many_formats in omega (arith, least, same, e)))

  pub closed-within : eqb (length t.formats) 0 ≡ false → list_all (λ e. within sizes e.0) (closed t found) ≡ true
  closed-within some =
      all-pass (λ e. within sizes e.0) (closed t found)
      (subst (λ b. Each (λ e. within sizes e.0 ≡ true) (cond b found (stored_entries (result_as t found)))) (sym some) (stored-within (result_as t found)))
