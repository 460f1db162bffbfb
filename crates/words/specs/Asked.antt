-- What the words ask for.
use Rattle.std.specs.Prelude.{◌≡◌, ◌==◌, ◌&&◌, ◌||◌, ℕ, List, [], ◌∷◌, Bool, false, codes, map, nat_le, Option, Some, None, Result, Ok, Err, option_map, option_and_then, is_some, IfSome, All, ◌≤◌, if◌then◌else◌}
use Rattle.std.specs.List.{slice_split, list_any, before_first, after_first}
use Rattle.std.specs.Str.{bytes_eq}
use Rattle.sam_base.specs.declared.TheConstants.{CAPACITY_MOST, LARGE_MOST}
use Rattle.sam_text.specs.Numbers.{decimal, is_decimal}
use Rattle.words.specs.declared.TheConstants.{CHANNEL_MOST}
use Rattle.words.specs.Line.{Given, given_of}
use Rattle.words.specs.declared.asking.Lowering.{Lowering}
use Rattle.words.specs.declared.asking.Lowering.TheVariants.{Plain, Fused}
use Rattle.words.specs.declared.asking.Options.{Options}
use Rattle.words.specs.declared.asking.Command.{Command}
use Rattle.words.specs.declared.asking.Command.TheVariants.{Check, Lower, Streams, Step, Moment, Run, Size, Verify, Large}
use Rattle.words.specs.declared.asking.Refusal.{Refusal}
use Rattle.words.specs.declared.asking.Refusal.TheVariants.{Usage, OutOfMemory}

-- ---- numbers and pairs

-- the number of a decimal in these bounds
abbrev pub bounded_number : ℕ → ℕ → List ℕ → Option ℕ
bounded_number low high text =
    if is_decimal text && (nat_le low (decimal text) && nat_le (decimal text) high) then Some (decimal text) else None

abbrev pub capacity_of : List ℕ → Option ℕ
capacity_of = bounded_number 1 CAPACITY_MOST

abbrev pub paired : {A B : Type 0} → Option A → Option B → Option (A × B)
paired None b = None
paired (Some a) None = None
paired (Some a) (Some b) = Some (a, b)

-- `c=n`: a channel and its capacity
abbrev pub pair_of : List ℕ → Option (ℕ × ℕ)
pair_of text = paired (bounded_number 0 CHANNEL_MOST (before_first (λ b. b == 61) text)) (capacity_of (after_first (λ b. b == 61) text))

-- each of them, where none is lacking
abbrev pub all_read : {A : Type 0} → List (Option A) → Option (List A)
all_read [] = Some []
all_read (None ∷ xs) = None
all_read (Some x ∷ xs) = option_map (λ ys. x ∷ ys) (all_read xs)

-- some channel stands twice
abbrev pub has_repeats : List (ℕ × ℕ) → Bool
has_repeats [] = false
has_repeats (p ∷ ps) = list_any (λ q. p.0 == q.0) ps || has_repeats ps

abbrev pub distinct_pairs : List (ℕ × ℕ) → Option (List (ℕ × ℕ))
distinct_pairs pairs = if has_repeats pairs then None else Some pairs

-- `c=n,c=n`, where no channel stands twice
abbrev pub pairs_of : List ℕ → Option (List (ℕ × ℕ))
pairs_of text = option_and_then distinct_pairs (all_read (map pair_of (slice_split (λ b. b == 44) text)))

-- ---- options

-- what is read of an option's value, or this where the option isn't given
abbrev pub given_or : {A : Type 0} → A → (List ℕ → Option A) → Option (List ℕ) → Option A
given_or other read None = Some other
given_or other read (Some text) = read text

-- which lowering makes the graph
abbrev pub lowering_of : Given → Lowering
lowering_of g = if g.fused then Fused else Plain

abbrev pub options_with : Given → Option (Option ℕ) → Option (List (ℕ × ℕ)) → Option Options
options_with g None own = None
options_with g (Some capacity) None = None
options_with g (Some capacity) (Some own) =
    Some (record { lowering = lowering_of g; capacity = capacity; own = own; schedule = g.schedule })

-- the capacity of all channels, if one is given
abbrev pub all_capacity : Given → Option (Option ℕ)
all_capacity g = given_or None (λ text. option_map Some (capacity_of text)) g.capacity

-- what the options say of a run
abbrev pub options_of : Given → Option Options
options_of g = options_with g (all_capacity g) (given_or [] pairs_of g.of)

-- an option that has a value is given
abbrev pub has_values : Given → Bool
has_values g = is_some g.capacity || (is_some g.of || is_some g.schedule)

-- this, for a command that has no option but the flag
abbrev pub without_values : {A : Type 0} → Given → Option A → Option A
without_values g asked = if has_values g then None else asked

-- this, for a command that has no options
abbrev pub without_options : {A : Type 0} → Given → Option A → Option A
without_options g asked = if g.fused then None else without_values g asked

-- what `--capacity` says, where it is the only option that has a value
abbrev pub capacity_alone : Given → Option (Option ℕ)
capacity_alone g = if is_some g.of || is_some g.schedule then None else all_capacity g

-- ---- commands

-- what is said of a text, or this where there is none
abbrev pub if_some : {A B : Type 0} → Option A → B → (A → B) → B
if_some None none some = none
if_some (Some a) none some = some a

-- the command that is given without a graph, or none where a rule refuses it
abbrev pub command_alone : Given → Option Command
command_alone g =
    if bytes_eq g.command (codes "check") then without_options g (Some (Check g.subject))
    else if bytes_eq g.command (codes "lower") then without_values g (Some (Lower g.subject (lowering_of g)))
    else if bytes_eq g.command (codes "streams") then without_values g (Some (Streams g.subject (lowering_of g)))
    else if bytes_eq g.command (codes "step") then option_map (Step g.subject) (options_of g)
    else if bytes_eq g.command (codes "moment") then option_map (Moment g.subject) (options_of g)
    else if bytes_eq g.command (codes "run") then option_map (Run g.subject (lowering_of g)) (capacity_alone g)
    else if bytes_eq g.command (codes "size") then without_values g (Some (Size g.subject (lowering_of g)))
    else if bytes_eq g.command (codes "large") then without_options g (option_map Large (bounded_number 1 LARGE_MOST g.subject))
    else None

-- the command that is given with a graph
abbrev pub command_beside : Given → List ℕ → Option Command
command_beside g graph = if bytes_eq g.command (codes "verify") then without_options g (Some (Verify g.subject graph)) else None

-- the command that is given, or none where a rule refuses it: `verify` takes a graph, and no other does
abbrev pub command_of : Given → Option Command
command_of g = if_some g.graph (command_alone g) (command_beside g)

-- what the words ask for, or none where they are refused
abbrev pub asked_of : List (List ℕ) → Option Command
asked_of words = option_and_then command_of (given_of words)

-- ---- the bounds of what is asked

abbrev pub IsCapacityGiven : ℕ → Type 0
IsCapacityGiven n = (1 ≤ n) × (n ≤ CAPACITY_MOST)

-- every capacity that the options give is one
pub record HasCapacities (options : Options) : Type 0 where
  pub all : IfSome options.capacity IsCapacityGiven
  pub own : All (λ pair. IsCapacityGiven pair.1) options.own

abbrev pub IsInBounds : Command → Type 0
IsInBounds (Step program options) = HasCapacities options
IsInBounds (Moment program options) = HasCapacities options
IsInBounds (Run program lowering capacity) = IfSome capacity IsCapacityGiven
IsInBounds (Large number) = (1 ≤ number) × (number ≤ LARGE_MOST)
IsInBounds _ = Unit {0}

-- it was read, or there is none, or there was no memory
abbrev pub Answers : {A : Type 0} → Option A → Result A Refusal → Type 0
Answers asked (Ok a) = asked ≡ Some a
Answers asked (Err Usage) = asked ≡ None
Answers asked (Err OutOfMemory) = Unit {0}
