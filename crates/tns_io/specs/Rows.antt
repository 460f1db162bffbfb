-- Lists of one length, one after another.
use Rattle.std.specs.Prelude.{ℕ, zero, suc, ◌-◌, ◌&&◌, Bool, not, List, [], ◌∷◌, length, take, drop, nat_lt}
use Rattle.std.specs.List.{flat_map}
use Rattle.sam_model.specs.Lists.{same_list}

-- lists one after another as one
abbrev pub joined : List (List ℕ) → List ℕ
joined rows = flat_map (λ row. row) rows

-- so many lists of one length, read back
abbrev pub rows_of : ℕ → ℕ → List ℕ → List (List ℕ)
rows_of long zero numbers = []
rows_of long (suc n) numbers = take long numbers ∷ rows_of long n (drop long numbers)

-- the last numbers are these
abbrev pub ends_in : List ℕ → List ℕ → Bool
ends_in row numbers = not (nat_lt (length numbers) (length row)) && same_list (drop (length numbers - length row) numbers) row
