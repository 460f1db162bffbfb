-- The workloads of 1, 2 and 3.
use Rattle.std.proofs.Common.{◌≡◌, ℕ, true, refl, List, [], ◌∷◌}
use mathlib.Core.List.{map}
use Rattle.sam_model.specs.Program.{accepted}
use Rattle.sam_model.specs.Denote.{den, pat}
use Rattle.sam_model.specs.Tensors.{Stored, stored_as, stored_prefixes, value_at}
use Rattle.gen_data.specs.declared.matrices.Matrix.{Matrix}
use Rattle.gen_data.specs.declared.matrices.Matrix.TheVariants.{B, C}
use Rattle.gen_data.specs.Workload.{square, workload, workload_entries, matrix_entries}

abbrev stored : Matrix → ℕ → Stored
stored m n = stored_as (square [] n) (matrix_entries m n)

abbrev values : Matrix → ℕ → List (List ℕ) → List ℕ
values m n places = map (value_at (stored m n)) places

-- ---- 1: four entries at one place

coords_1 : (matrix_entries B 1).coords ≡ 0 ∷ 0 ∷ 0 ∷ 0 ∷ 0 ∷ 0 ∷ 0 ∷ 0 ∷ []
coords_1 = refl

value_1 : values B 1 ((0 ∷ 0 ∷ []) ∷ []) ≡ 10 ∷ []
value_1 = refl

result_1 : den (workload 1) (workload_entries 1) (0 ∷ []) ≡ 100
result_1 = refl

-- ---- 2: B is 4 6 and 8 6, C is 4 6 and 6 4

places_2 : stored_prefixes (stored B 2) 2 ≡ (0 ∷ 0 ∷ []) ∷ (0 ∷ 1 ∷ []) ∷ (1 ∷ 0 ∷ []) ∷ (1 ∷ 1 ∷ []) ∷ []
places_2 = refl

b_2 : values B 2 ((0 ∷ 0 ∷ []) ∷ (0 ∷ 1 ∷ []) ∷ (1 ∷ 0 ∷ []) ∷ (1 ∷ 1 ∷ []) ∷ []) ≡ 4 ∷ 6 ∷ 8 ∷ 6 ∷ []
b_2 = refl

c_2 : values C 2 ((0 ∷ 0 ∷ []) ∷ (0 ∷ 1 ∷ []) ∷ (1 ∷ 0 ∷ []) ∷ (1 ∷ 1 ∷ []) ∷ []) ≡ 4 ∷ 6 ∷ 6 ∷ 4 ∷ []
c_2 = refl

accepted_2 : accepted (workload 2) ≡ true
accepted_2 = refl

result_2 : map (den (workload 2) (workload_entries 2)) ((0 ∷ []) ∷ (1 ∷ []) ∷ []) ≡ 52 ∷ 72 ∷ []
result_2 = refl

pattern_2 : map (pat (workload 2) (workload_entries 2)) ((0 ∷ []) ∷ (1 ∷ []) ∷ []) ≡ true ∷ true ∷ []
pattern_2 = refl

-- ---- 3: a row has three columns, one of them twice

values_3 : (matrix_entries B 3).values ≡ 1 ∷ 2 ∷ 3 ∷ 4 ∷ 2 ∷ 3 ∷ 4 ∷ 5 ∷ 3 ∷ 4 ∷ 5 ∷ 6 ∷ []
values_3 = refl

columns_3 : (matrix_entries B 3).coords
    ≡ 0 ∷ 0 ∷ 0 ∷ 1 ∷ 0 ∷ 2 ∷ 0 ∷ 0 ∷ 1 ∷ 1 ∷ 1 ∷ 2 ∷ 1 ∷ 0 ∷ 1 ∷ 1 ∷ 2 ∷ 1 ∷ 2 ∷ 2 ∷ 2 ∷ 0 ∷ 2 ∷ 1 ∷ []
columns_3 = refl

c_3 : (matrix_entries C 3).coords ≡ 0 ∷ 0 ∷ 0 ∷ 2 ∷ 0 ∷ 1 ∷ 0 ∷ 0 ∷ 1 ∷ 1 ∷ 1 ∷ 0 ∷ 1 ∷ 2 ∷ 1 ∷ 1 ∷ 2 ∷ 1 ∷ 2 ∷ 0 ∷ 2 ∷ 2 ∷ 2 ∷ 1 ∷ []
c_3 = refl

first_row_3 : values B 3 ((0 ∷ 0 ∷ []) ∷ (0 ∷ 1 ∷ []) ∷ (0 ∷ 2 ∷ []) ∷ []) ≡ 5 ∷ 2 ∷ 3 ∷ []
first_row_3 = refl
