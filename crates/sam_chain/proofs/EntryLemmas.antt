-- The entries of a result, one after another.
use Rattle.std.proofs.Common.{◌≡◌, ℕ, suc, ◌+◌, ◌-◌, ◌<◌, ◌≤◌, List, [], ◌∷◌, ◌++◌, length, refl, ap, sym, ◌∙◌, append_assoc, arith}
use Rattle.std.proofs.lemmas.List.{append-nil, drop_all}
use Rattle.std.specs.List.{flat_map, range_with_len, enumerate_from}
use mathlib.Core.List.{map}
use Rattle.sam_model.specs.Chains.{entries_as}
use Rattle.sam_model.specs.declared.tensors.Entries.{Entries}
use Rattle.sam_model.specs.declared.tensors.Tensor.{Tensor}
use Rattle.sam_model.specs.declared.tensors.Written.{Written}
use Rattle.sam_model.specs.Listing.{path_of, listing}
use Rattle.sam_model.specs.ResultText.{by_modes}
use Rattle.tns_io.specs.Walks.{listing_from}
use Rattle.tns_io.proofs.ListingLemmas.{listing-next}

modes-next : (f : ℕ → ℕ) (mode levels : ℕ) → mode < levels → map f (range_with_len mode (levels - mode)) ≡ f mode ∷ map f (range_with_len (mode + 1) (levels - (mode + 1)))
modes-next f mode levels h = let more : levels - mode ≡ suc (levels - (mode + 1)) = omega arith in rw more refl

-- the coordinate of a mode is appended
pub mode-on : (f : ℕ → ℕ) (coords : List ℕ) (mode levels : ℕ) → mode < levels
    → (coords ++ f mode ∷ []) ++ map f (range_with_len (mode + 1) (levels - (mode + 1))) ≡ coords ++ map f (range_with_len mode (levels - mode))
mode-on f coords mode levels h = rw (modes-next f mode levels h) (append_assoc coords (f mode ∷ []) _)

-- the coordinates of a path are appended
pub path-on : (order : List ℕ) (w : Written) (n : ℕ) (coords path : List ℕ) → n < length w.vals → path ≡ path_of w.segs w.crds n
    → (coords ++ by_modes order path) ++ flat_map (λ entry. by_modes order entry.0) (listing_from w (n + 1))
    ≡ coords ++ flat_map (λ entry. by_modes order entry.0) (listing_from w n)
path-on order w n coords path h p = rw (listing-next w n h, p) (append_assoc coords (by_modes order (path_of w.segs w.crds n)) _)

values-from : (f : ℕ → List ℕ) (n : ℕ) (vals : List ℕ) → map (λ (entry : List ℕ × ℕ). entry.1) (map (λ (numbered : ℕ × ℕ). (f numbered.0, numbered.1)) (enumerate_from n vals)) ≡ vals
values-from f n [] = refl
values-from f n (v ∷ vals) = ap (λ (t : List ℕ). v ∷ t) (values-from f (n + 1) vals)

-- the values of a listing
pub values-listed : (w : Written) → map (λ entry. entry.1) (listing w) ≡ w.vals
values-listed w = values-from (path_of w.segs w.crds) 0 w.vals

-- behind the last value
pub listing-end : (w : Written) (n : ℕ) → length w.vals ≤ n → listing_from w n ≡ []
listing-end w n h = rw (drop_all n w.vals h) refl

-- what the loop leaves
pub entries-are : (t : Tensor) (w : Written) (n arity : ℕ) (coords values : List ℕ) → length w.vals ≤ n → arity ≡ length t.order → values ≡ w.vals
    → coords ++ flat_map (λ entry. by_modes t.order entry.0) (listing_from w n) ≡ flat_map (λ entry. by_modes t.order entry.0) (listing w)
    → ◌≡◌ {A = Entries} (record { arity = arity; coords = coords; values = values }) (entries_as t (listing w))
entries-are t w n arity coords values h a v c =
    let none = listing-end w n h in
    let all : coords ≡ flat_map (λ entry. by_modes t.order entry.0) (listing w) = sym (append-nil coords) ∙ rw none at c in
    rw (a, v, all, values-listed w) refl
