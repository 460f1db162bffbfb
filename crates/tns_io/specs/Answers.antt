-- What is answered of a tensor file, and of a line of it.
use Rattle.std.specs.Prelude.{◌≡◌, ℕ, List, [], ◌∷◌, ◌++◌, Result, Ok, Err}
use Rattle.sam_base.specs.declared.faults.TnsKind.{TnsKind}
use Rattle.tns_io.specs.declared.faults.TnsFault.{TnsFault}
use Rattle.tns_io.specs.declared.faults.TnsFault.TheVariants as tns
use Rattle.tns_io.specs.declared.faults.LineFault.{LineFault}
use Rattle.tns_io.specs.declared.faults.LineFault.TheVariants as line
use Rattle.tns_io.specs.Fields.{Entry}

-- the fault of a file, by that of its line of this number
abbrev pub at_line : LineFault → ℕ → TnsFault
at_line (line.Refused kind) n = tns.Refused kind n
at_line line.OutOfMemory n = tns.OutOfMemory

-- a fact of a refusal
abbrev pub IfTnsRefused : TnsFault → (TnsKind → ℕ → Type 0) → Type 0
IfTnsRefused (tns.Refused kind n) P = P kind n
IfTnsRefused tns.OutOfMemory P = Unit {0}

-- a line is read as `reading` says, unless memory runs out
abbrev pub Reads : {A B : Type 0} → Result A LineFault → (A → B) → Result B TnsKind → Type 0
Reads (Ok x) value reading = reading ≡ Ok (value x)
Reads (Err (line.Refused kind)) value reading = reading ≡ Err kind
Reads (Err line.OutOfMemory) value reading = Unit {0}

-- coordinates with those of an entry behind them, and its value
abbrev pub coordinates_then : List ℕ → Result Entry TnsKind → Result Entry TnsKind
coordinates_then coords (Ok entry) = Ok (coords ++ entry.0, entry.1)
coordinates_then coords (Err kind) = Err kind

-- the coordinates and the values of some entries, with one more entry behind them
abbrev pub entries_then : List ℕ → List ℕ → Result Entry TnsKind → Result (List ℕ × List ℕ) TnsKind
entries_then coords values (Ok entry) = Ok (coords ++ entry.0, values ++ entry.1 ∷ [])
entries_then coords values (Err kind) = Err kind
