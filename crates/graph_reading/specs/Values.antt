-- What stands in a value of JSON: numbers, texts and lists under keys.
use Rattle.std.specs.Prelude.{◌^◌, ℕ, List, [], ◌∷◌, Bool, map, nat_lt, Option, Some, None, option_map, option_and_then, if◌then◌else◌}
use Rattle.std.specs.Str.{is_utf8}
use Rattle.std.specs.List.{list_all}
use Rattle.serde_json.specs.Data.{Data, Items, no_items, item}
use Rattle.serde_json.specs.Find.{get, as_number, as_u64, as_array}
use Rattle.serde_json.specs.Read.{read}
use Rattle.label_reading.specs.Words.{if_holds}

-- the items of an array as a list
abbrev pub item_list : Items → List Data
item_list no_items = []
item_list (item d ds) = d ∷ item_list ds

-- all of them, where none is lacking
abbrev pub all_read : {A : Type 0} → List (Option A) → Option (List A)
all_read [] = Some []
all_read (None ∷ xs) = None
all_read (Some x ∷ xs) = option_map (λ ys. x ∷ ys) (all_read xs)

abbrev pub both_read : {A B : Type 0} → Option A → Option B → Option (A × B)
both_read None b = None
both_read (Some a) None = None
both_read (Some a) (Some b) = Some (a, b)

abbrev pub list_in : {A : Type 0} → (Data → Option A) → Data → Option (List A)
list_in reads d = option_and_then (λ items. all_read (map reads (item_list items))) (as_array d)

-- a number that is read as a `u64`
abbrev pub number_in : Data → Option ℕ
number_in d = option_and_then as_u64 (as_number d)

abbrev pub numbers_in : Data → Option (List ℕ)
numbers_in = list_in number_in

abbrev pub are_places : List ℕ → Bool
are_places = list_all (λ n. nat_lt n (2 ^ 32))

-- numbers of blocks, ports or channels
abbrev pub places_in : Data → Option (List ℕ)
places_in d = option_and_then (λ ns. if_holds (are_places ns) ns) (numbers_in d)

-- the value under a key, read so
abbrev pub value_under : {A : Type 0} → List ℕ → (Data → Option A) → Data → Option A
value_under key reads d = option_and_then reads (get key d)

-- the value that a text is
abbrev pub value_of : List ℕ → Option Data
value_of text = if is_utf8 text then read text else None
