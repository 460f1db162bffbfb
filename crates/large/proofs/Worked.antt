-- Worked rows: the workloads of 1 and of 2.
use Rattle.std.specs.Prelude.{◌≡◌, ℕ, List, length, refl}
use Rattle.sam_model.specs.Statement.{statement_entries}
use Rattle.custard_lower.specs.Lowered.{low, storages_of}
use Rattle.gen_data.specs.Workload.{workload, workload_entries}
use Rattle.large.specs.Summaries.{value_sum, moves_of}

abbrev entries_of : ℕ → List (List ℕ × ℕ)
entries_of n = statement_entries (workload n) (workload_entries n)

abbrev moves_at : ℕ → ℕ
moves_at n = moves_of (storages_of (workload n) (workload_entries n)) (low (workload n))

one-entry : length (entries_of 1) ≡ 1
one-entry = refl

one-sum : value_sum (entries_of 1) ≡ 100
one-sum = refl

one-moves : moves_at 1 ≡ 144
one-moves = refl

two-entries : length (entries_of 2) ≡ 2
two-entries = refl

two-sum : value_sum (entries_of 2) ≡ 124
two-sum = refl

two-moves : moves_at 2 ≡ 248
two-moves = refl
