-- The stored prefixes of a length are made from those that are one shorter.
use Rattle.std.proofs.Common.{◌≡◌, ℕ, zero, suc, ◌<◌, ◌≤◌, Bool, true, false, cond, ◌||◌, List, [], ◌∷◌, ◌++◌, Some, length, take, eqb, refl, ap, sym, ◌∙◌, arith}
use Rattle.std.specs.Prelude.{slice_get, slice_index}
use Rattle.std.specs.List.{flat_map, filter, list_any}
use mathlib.Core.List.{map}
use Rattle.std.proofs.lemmas.Bool.Decides.{nat_tests}
use Rattle.std.proofs.lemmas.List.{append-nil, take-append-le, take_at, length_push}
use Rattle.sam_model.specs.declared.tensors.Format.{Format}
use Rattle.sam_model.specs.declared.tensors.Format.TheVariants.{Dense, Compressed}
use Rattle.sam_model.specs.Lists.{below, tuples, same_list}
use Rattle.sam_model.specs.Tensors.{Stored, compressed_until, is_stored, stored_prefixes}
use Rattle.sam_model.specs.Children.{next_coordinates}
use Rattle.sam_model.proofs.Lists.{flat_map-ext-each, filter-map, filter-flat_map, flat_map-filter, filter-never}
use Rattle.sam_model.proofs.Stored.{until-le, stored-begins}
use Rattle.sam_model.proofs.Tuples.{followed, tuples-more, tuples-front-long}

abbrev pub longer : List ℕ → ℕ → List ℕ
longer p c = p ++ c ∷ []

-- ---- the last compressed level

pub until-dense : (formats : List Format) (k : ℕ) → slice_get formats k ≡ Some Dense → compressed_until (suc k) formats ≡ compressed_until k formats
until-dense [] k h = cc
until-dense (Dense ∷ formats) zero h = refl
until-dense (Compressed ∷ formats) zero h = cc
until-dense (Dense ∷ formats) (suc k) h = ap (λ n. cond (eqb n 0) 0 (suc n)) (until-dense formats k h)
until-dense (Compressed ∷ formats) (suc k) h = ap suc (until-dense formats k h)

suc-not-zero : (n : ℕ) → eqb (suc n) 0 ≡ false
suc-not-zero n = grind (arith, nat_tests)

pub until-compressed : (formats : List Format) (k : ℕ) → slice_get formats k ≡ Some Compressed → compressed_until (suc k) formats ≡ suc k
until-compressed [] k h = cc
until-compressed (Dense ∷ formats) zero h = cc
until-compressed (Compressed ∷ formats) zero h = refl
until-compressed (Dense ∷ formats) (suc k) h =
    ap (λ n. cond (eqb n 0) 0 (suc n)) (until-compressed formats k h) ∙ ap (λ b. cond b 0 (suc (suc k))) (suc-not-zero k)
until-compressed (Compressed ∷ formats) (suc k) h = ap suc (until-compressed formats k h)

-- ---- one coordinate more

-- p is stored, if q is its last compressed level
abbrev pub stored_to : Stored → ℕ → List ℕ → Bool
stored_to a q p = eqb q 0 || list_any (λ entry. same_list (take q entry.0) (take q p)) a.entries

pub longer-length : (p : List ℕ) (c k : ℕ) → length p ≡ k → length (longer p c) ≡ suc k
longer-length p c k h = omega (arith, length_push p c)

pub stored-dense : (a : Stored) (p : List ℕ) (c k : ℕ) → length p ≡ k → slice_get a.formats k ≡ Some Dense → is_stored a (longer p c) ≡ is_stored a p
stored-dense a p c k long dense =
    let short : compressed_until k a.formats ≤ length p = rw long (until-le k a.formats) in
    ap (λ n. stored_to a (compressed_until n a.formats) (longer p c)) (longer-length p c k long)
    ∙ ap (λ q. stored_to a q (longer p c)) (until-dense a.formats k dense)
    ∙ ap (λ t. eqb (compressed_until k a.formats) 0 || list_any (λ entry. same_list (take (compressed_until k a.formats) entry.0) t) a.entries)
    (take-append-le (compressed_until k a.formats) p (c ∷ []) short)
    ∙ ap (λ n. stored_to a (compressed_until n a.formats) p) (sym long)

pub stored-compressed : (a : Stored) (p : List ℕ) (c k : ℕ) → length p ≡ k → slice_get a.formats k ≡ Some Compressed
    → is_stored a (longer p c) ≡ list_any (λ entry. same_list (take (suc k) entry.0) (longer p c)) a.entries
stored-compressed a p c k long compressed =
    ap (λ n. stored_to a (compressed_until n a.formats) (longer p c)) (longer-length p c k long)
    ∙ ap (λ q. stored_to a q (longer p c)) (until-compressed a.formats k compressed)
    ∙ ap (λ b. b || list_any (λ entry. same_list (take (suc k) entry.0) (take (suc k) (longer p c))) a.entries) (suc-not-zero k)
    ∙ ap (λ t. list_any (λ entry. same_list (take (suc k) entry.0) t) a.entries) (whole (longer p c) (suc k) (longer-length p c k long))
  where
    whole : (xs : List ℕ) (n : ℕ) → length xs ≡ n → take n xs ≡ xs
    whole xs n h = ap (take n) (sym (append-nil xs)) ∙ take_at xs [] n h

-- ---- stored prefixes

abbrev pub next_prefixes : Stored → List ℕ → List (List ℕ)
next_prefixes a p = map (longer p) (next_coordinates a p)

pub prefixes-more : (a : Stored) (k : ℕ) → k < length a.sizes
    → stored_prefixes a (suc k) ≡ flat_map (next_prefixes a) (stored_prefixes a k)
prefixes-more a k h =
    ap (filter (is_stored a)) (tuples-more a.sizes k h)
    ∙ filter-flat_map (is_stored a) (followed (slice_index a.sizes k)) (tuples (take k a.sizes))
    ∙ flat_map-ext-each (λ p. length p ≡ k) (λ p. filter (is_stored a) (followed (slice_index a.sizes k) p)) (next_prefixes a)
    (λ p long. filter-map (is_stored a) (longer p) (below (slice_index a.sizes k))
    ∙ ap (λ n. map (longer p) (filter (λ c. is_stored a (longer p c)) (below (slice_index a.sizes n)))) (sym long))
    (tuples (take k a.sizes)) (tuples-front-long a.sizes k (omega arith))
    ∙ sym (flat_map-filter (λ p. length p ≡ k) (is_stored a) (next_prefixes a)
    (λ p long out. ap (map (longer p)) (filter-never (λ c. is_stored a (longer p c)) (λ c. absent p c out) (below (slice_index a.sizes (length p)))))
    (tuples (take k a.sizes)) (tuples-front-long a.sizes k (omega arith)))
  where
    absent : (p : List ℕ) (c : ℕ) → is_stored a p ≡ false → is_stored a (longer p c) ≡ false
    absent p c out = by_case (is_stored a (longer p c)) refl
      where
        by_case : (b : Bool) → is_stored a (longer p c) ≡ b → is_stored a (longer p c) ≡ false
        by_case false e = e
        by_case true e = let yes = stored-begins a p (c ∷ []) e in cc
