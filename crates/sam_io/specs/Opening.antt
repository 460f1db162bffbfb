-- What the answer of an opening says of the place and of misses.
use Rattle.std.specs.Prelude.{ℕ, Bool, true, false, List, Some, None, Result, Ok, Err}
use Rattle.sam_io.specs.declared.outside.Opened.{Opened}
use Rattle.sam_io.specs.declared.outside.Opened.TheVariants.{Found, Missing, OutOfMemory}
use Rattle.sam_io.specs.Outside.{Place}

-- after Found the file is begun at its first byte, after every other answer none is
abbrev pub place_after : {E : Type 0} → List ℕ → Result Opened E → Place
place_after name (Ok Found) = Some (name, 0)
place_after name (Ok Missing) = None
place_after name (Ok OutOfMemory) = None
place_after name (Err e) = None

-- the name was not there
abbrev pub misses_name : {E : Type 0} → Result Opened E → Bool
misses_name (Ok Found) = false
misses_name (Ok Missing) = true
misses_name (Ok OutOfMemory) = false
misses_name (Err e) = false
