-- The fiber that a place is in, by the ends on both sides of it.
use Rattle.std.proofs.Common.{◌≡◌, ℕ, zero, suc, ◌<◌, ◌≤◌, List, [], ◌∷◌, length, get_or, arith, nat_le}
use Rattle.std.proofs.lemmas.Bool.{leb-true, leb-false}
use Rattle.std.proofs.lemmas.List.Sums.{prefix_len_passes, prefix_len_stops}
use Rattle.std.specs.List.{prefix_len}
use Rattle.sam_model.specs.Listing.{LevelInRange, place_above}
use Rattle.tns_io.proofs.PathLemmas.{ends-behind}

-- fiber s begins at or before place q, and ends behind it
pub record Between (ends : List ℕ) (s q : ℕ) : Type 0 where
  pub begins : get_or ends s 0 ≤ q
  pub ends_behind : q < get_or ends (suc s) 0

begin-at : (e : ℕ) (ends : List ℕ) (s q : ℕ) → e ≡ 0 → s ≤ prefix_len (λ end. nat_le end q) ends → get_or (e ∷ ends) s 0 ≤ q
begin-at e ends zero q f h = omega (arith, f)
begin-at e ends (suc s) q f h = leb-true _ _ (prefix_len_passes (λ end. nat_le end q) ends s 0 (omega arith))

-- in a level in range the fiber of a place is between
pub place-between : (above : ℕ) (ends coordinates : List ℕ) (q : ℕ) → LevelInRange above ends coordinates → q < length coordinates → Between ends (place_above ends q) q
place-between above [] coordinates q h k = absurd (omega (arith, h.count))
place-between above (e ∷ ends) coordinates q h k =
    let s = prefix_len (λ end. nat_le end q) ends in
    let less : s < above = ends-behind (e ∷ ends) above q (length coordinates) h.count h.first h.last k in
    let room : s < length ends = omega (arith, h.count, less) in
    record {
      begins = begin-at e ends s q h.first (omega arith);
      ends_behind = leb-false _ _ (prefix_len_stops (λ end. nat_le end q) ends 0 room);
    }

-- and it is the only one
pub place-only : (above : ℕ) (ends coordinates : List ℕ) (s t q : ℕ) → LevelInRange above ends coordinates → s < above → t < above → Between ends s q → Between ends t q → s ≤ t
place-only above ends coordinates s t q h k l a b =
    let never : t < s → ⊥ = λ less.
    let ascends : get_or ends (suc t) 0 ≤ get_or ends s 0 = h.ascending (suc t) s 0 (omega arith) (omega (arith, h.count, k)) in
    absurd (omega (arith, ascends, a.begins, b.ends_behind)) in
    grind (arith, never)
