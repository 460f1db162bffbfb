-- What is told of a whole run, as text.
use Rattle.std.specs.Prelude.{ℕ, ◌-◌, ◌*◌, ◌%◌, ◌^◌, min, List, ◌++◌, length, sum_by, decimal, codes}
use Rattle.sam_model.specs.declared.tensors.Entries.{Entries}
use Rattle.sam_model.specs.declared.program.Program.{Program}
use Rattle.sam_model.specs.Children.{Ranked}
use Rattle.sam_model.specs.Statement.{statement_entries}
use Rattle.sam_model.specs.ResultText.{signed_text}
use Rattle.graph.specs.declared.graphs.Graph.{Graph}
use Rattle.graph.specs.WholeStreams.{whole_stream}
use Rattle.plays.specs.Net.{sum_below}
use Rattle.custard_lower.specs.Lowered.{low, storages_of}
use Rattle.gen_data.specs.Workload.{workload, workload_entries}

-- a word and what is told by it
abbrev pub told_line : List ℕ → List ℕ → List ℕ
told_line word told = word ++ codes " " ++ told ++ codes "\n"

-- the number of entries, the sum of their values as a signed number, and the number of events
abbrev pub summary_text : ℕ → ℕ → ℕ → List ℕ
summary_text entries values moves =
    told_line (codes "entries") (decimal entries) ++ told_line (codes "sum") (signed_text values) ++ told_line (codes "moves") (decimal moves)

-- the sum of the values of some entries, modulo 2^64
abbrev pub value_sum : List (List ℕ × ℕ) → ℕ
value_sum entries = sum_by (λ entry. entry.1) entries % 2 ^ 64

-- the events of a whole run, up to 2^64-1: each token of each whole stream is put once and taken once
abbrev pub moves_of : List Ranked → Graph → ℕ
moves_of storages g = min (2 * sum_below (length g.channels) (λ c. length (whole_stream storages g c))) (2 ^ 64 - 1)

-- what is told of a program's run over these entries
abbrev pub summary_of : Program → List Entries → List ℕ
summary_of p es = summary_text (length (statement_entries p es)) (value_sum (statement_entries p es)) (moves_of (storages_of p es) (low p))

-- what is told of the run of the generated workload
unfoldable pub large_text : ℕ → List ℕ
large_text n = summary_of (workload n) (workload_entries n)
