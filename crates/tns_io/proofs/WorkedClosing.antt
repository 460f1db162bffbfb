-- A result with a dense last level by hand.
use Rattle.std.proofs.Common.{◌≡◌, ℕ, true, false, List, [], ◌∷◌, length, refl}
use Rattle.sam_model.specs.declared.tensors.Format.TheVariants.{Dense, Compressed}
use Rattle.sam_model.specs.declared.tensors.Tensor.{Tensor}
use Rattle.sam_model.specs.Pattern.{closed}
use Rattle.tns_io.specs.Closing.{full_paths, filled, multiplied}
use Rattle.tns_io.specs.Fronts.{fronts}
use Rattle.tns_io.specs.Rows.{joined, rows_of, ends_in}

-- rows 0 and 2 of a matrix of 3 rows and 2 columns hold something
abbrev rows : Tensor
rows = record { name = []; dims = 3 ∷ 2 ∷ []; formats = Compressed ∷ Dense ∷ []; order = 0 ∷ 1 ∷ []; file = [] }

abbrev found : List (List ℕ × ℕ)
found = (0 ∷ 1 ∷ [], 5) ∷ (2 ∷ 0 ∷ [], 7) ∷ (2 ∷ 1 ∷ [], 8) ∷ []

rows-fronts : fronts 1 found ≡ (0 ∷ []) ∷ (2 ∷ []) ∷ []
rows-fronts = refl

rows-paths : joined (full_paths rows found) ≡ 0 ∷ 0 ∷ 0 ∷ 1 ∷ 2 ∷ 0 ∷ 2 ∷ 1 ∷ []
rows-paths = refl

rows-counted : multiplied (length (fronts 1 found)) (2 ∷ []) ≡ 4
rows-counted = refl

rows-filled : filled rows found ≡ (0 ∷ 0 ∷ [], 0) ∷ (0 ∷ 1 ∷ [], 5) ∷ (2 ∷ 0 ∷ [], 7) ∷ (2 ∷ 1 ∷ [], 8) ∷ []
rows-filled = refl

rows-closed : closed rows found ≡ filled rows found
rows-closed = refl

-- without a compressed level all is listed, also where nothing is found
abbrev whole : Tensor
whole = record { name = []; dims = 2 ∷ 2 ∷ []; formats = Dense ∷ Dense ∷ []; order = 1 ∷ 0 ∷ []; file = [] }

whole-filled : filled whole [] ≡ (0 ∷ 0 ∷ [], 0) ∷ (0 ∷ 1 ∷ [], 0) ∷ (1 ∷ 0 ∷ [], 0) ∷ (1 ∷ 1 ∷ [], 0) ∷ []
whole-filled = refl

-- rows read back, and a row that stands last
read-back : rows_of 2 2 (0 ∷ 1 ∷ 2 ∷ 0 ∷ []) ≡ (0 ∷ 1 ∷ []) ∷ (2 ∷ 0 ∷ []) ∷ []
read-back = refl

stands-last : ends_in (2 ∷ []) (0 ∷ 2 ∷ []) ≡ true
stands-last = refl

too-short : ends_in (0 ∷ 2 ∷ []) (2 ∷ []) ≡ false
too-short = refl
