-- dropfiber: the outer tokens whose fiber isn't empty, and those fibers.
use Rattle.std.specs.Prelude.{ℕ, pred, Bool, true, false, List, [], ◌∷◌}
use Rattle.std.specs.List.{filter}
use Rattle.stream_tokens.specs.declared.Token.TheVariants.{Item, Stop, Done}
use Rattle.stream_tokens.specs.Nest.{Fiber}
use Rattle.stream_tokens.specs.Flat.{flat}
use Rattle.stream_tokens.specs.Shapes.{on_fibers, under, split}
use Rattle.block_core.specs.Move.{Move, Taking, Putting, put_two}
use Rattle.block_core.specs.Ports.{Streams, port, numbers_of, first_item, second}

abbrev pub is_nonempty : {A : Type 0} → List A → Bool
is_nonempty [] = false
is_nonempty (x ∷ xs) = true

abbrev pub has_fiber : ℕ × List ℕ → Bool
has_fiber m = is_nonempty m.1

abbrev pub dropfiber_reading : Streams → List (Fiber (ℕ × List ℕ))
dropfiber_reading ins = split (numbers_of (port 0 ins)) (numbers_of (port 1 ins))

abbrev pub dropfiber_inputs : List (Fiber (ℕ × List ℕ)) → Streams
dropfiber_inputs j = flat first_item j ∷ flat Item (under second j) ∷ []

abbrev pub dropfiber_outputs : List (Fiber (ℕ × List ℕ)) → Streams
dropfiber_outputs j = flat first_item (on_fibers (filter has_fiber) j) ∷ flat Item (under second (on_fibers (filter has_fiber) j)) ∷ []

-- ---- the moves

abbrev pub pass_items : List ℕ → List Move → List Move
pass_items [] rest = rest
pass_items (c ∷ cs) rest = Taking 1 (Item c) ∷ Putting 1 (Item c) ∷ pass_items cs rest

abbrev pub parting_one : Bool → List Move → List Move
parting_one true rest = Putting 1 (Stop 0) ∷ rest
parting_one false rest = rest

-- an outer coordinate with its fiber up to that fiber's stop, where the flag says whether one was kept before; go says
-- how to go on, with the flag after it
abbrev pub keep_moves : Bool → ℕ → List ℕ → (Bool → List Move) → List Move
keep_moves more a [] go = go more
keep_moves more a (c ∷ cs) go = Taking 1 (Item c) ∷ Putting 0 (Item a) ∷ parting_one more (Putting 1 (Item c) ∷ pass_items cs (go true))

-- both stops of an outer fiber that closes n lists
abbrev pub keep_close : ℕ → List Move → List Move
keep_close n rest = Taking 0 (Stop (pred n)) ∷ Putting 0 (Stop (pred n)) ∷ Putting 1 (Stop n) ∷ rest

abbrev pub keep_fiber : ℕ → ℕ × List ℕ → List (ℕ × List ℕ) → List Move → Bool → List Move
keep_fiber n m [] rest more = Taking 0 (Item m.0) ∷ keep_moves more m.0 m.1 (λ _. Taking 1 (Stop n) ∷ keep_close n rest)
keep_fiber n m (m' ∷ ms) rest more = Taking 0 (Item m.0) ∷ keep_moves more m.0 m.1 (λ after. Taking 1 (Stop 0) ∷ keep_fiber n m' ms rest after)

abbrev pub dropfiber_moves : List (Fiber (ℕ × List ℕ)) → List Move
dropfiber_moves [] = Taking 0 Done ∷ Taking 1 Done ∷ put_two Done []
dropfiber_moves (([], n) ∷ fs) = Taking 0 (Stop (pred n)) ∷ Taking 1 (Stop n) ∷ Putting 0 (Stop (pred n)) ∷ Putting 1 (Stop n) ∷ dropfiber_moves fs
dropfiber_moves (((m ∷ ms), n) ∷ fs) = keep_fiber n m ms (dropfiber_moves fs) false
