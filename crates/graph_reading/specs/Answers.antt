-- What a reader answers: what it found, that there is none, or that there was no memory.
use Rattle.std.specs.Prelude.{◌≡◌, List, Option, Some, None, Result, Ok, Err, Vec}
use Rattle.std.specs.declared.alloc.Global.{Global}
use Rattle.serde_json.specs.Data.{Data}
use Rattle.serde_json.specs.View.{view}
use Rattle.serde_json.specs.declared.value.Value.{Value}
use Rattle.graph_reading.specs.declared.values.GraphFault.{GraphFault}
use Rattle.graph_reading.specs.declared.values.GraphFault.TheVariants.{Refused, OutOfMemory}

abbrev pub Answers : {A : Type 0} → Option A → Result A GraphFault → Type 0
Answers found (Ok x) = found ≡ Some x
Answers found (Err Refused) = found ≡ None
Answers found (Err OutOfMemory) = Unit {0}

-- the same of a vector's items, and of a value's data
abbrev pub AnswersItems : {A : Type 0} → Option (List A) → Result (Vec A Global) GraphFault → Type 0
AnswersItems found (Ok v) = found ≡ Some v.items
AnswersItems found (Err Refused) = found ≡ None
AnswersItems found (Err OutOfMemory) = Unit {0}

abbrev pub AnswersValue : Option Data → Result Value GraphFault → Type 0
AnswersValue found (Ok v) = found ≡ Some (view v)
AnswersValue found (Err Refused) = found ≡ None
AnswersValue found (Err OutOfMemory) = Unit {0}
