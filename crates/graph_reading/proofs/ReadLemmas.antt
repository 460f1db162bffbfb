-- A list that is read item by item.
use Rattle.std.proofs.Common.{◌≡◌, ◌∙◌, ◌<◌, ◌+◌, ◌++◌, ℕ, ap, sym, refl, List, [], ◌∷◌, length, take, drop, get_or, Some, None, map, suc}
use Rattle.std.specs.Prelude.{Option, option_map}
use Rattle.std.proofs.lemmas.List.{take_more, map-append, take-append-drop}
use Rattle.std.proofs.lemmas.Simd.{map-map}
use Rattle.std.proofs.Math.Seq.{drop-cons}
use Rattle.std.specs.Prelude.{option_and_then}
use Rattle.serde_json.specs.Data.{Data}
use Rattle.serde_json.specs.View.{view, items_of, items_view}
use Rattle.serde_json.specs.declared.value.Value.{Value}
use Rattle.graph_reading.specs.Values.{all_read, item_list, value_of, list_in}
use Rattle.graph_reading.specs.Answers.{Answers}
use Rattle.graph_reading.specs.declared.values.GraphFault.{GraphFault}
use Rattle.graph_reading.specs.declared.values.GraphFault.TheVariants.{Refused, OutOfMemory}
use Rattle.std.specs.Prelude.{Err, IsUtf8, if◌then◌else◌, Bool, true, false}
use Rattle.std.specs.Str.{is_utf8}
use Rattle.std.proofs.lemmas.Str.{is_utf8-from_IsUtf8, IsUtf8-from_is_utf8}
use Rattle.serde_json.specs.Read.{read}
use Rattle.serde_json.specs.Find.{as_array}

after : {B : Type 0} (x : B) (xs : List (Option B)) (ys : List B) (y : B) (r : Option (List B)) → all_read xs ≡ r → option_map (λ zs. x ∷ zs) r ≡ Some ys
    → ((zs : List B) → all_read xs ≡ Some zs → all_read (xs ++ Some y ∷ []) ≡ Some (zs ++ y ∷ [])) → option_map (λ zs. x ∷ zs) (all_read (xs ++ Some y ∷ [])) ≡ Some (ys ++ y ∷ [])
after x xs ys y None got so more = cc
after x xs ys y (Some zs) got so more =
    let this : x ∷ zs ≡ ys = cc in
    ap (option_map (λ l. x ∷ l)) (more zs got) ∙ ap (λ l. Some (l ++ y ∷ [])) this

all_last : {B : Type 0} (xs : List (Option B)) (ys : List B) (y : B) → all_read xs ≡ Some ys → all_read (xs ++ Some y ∷ []) ≡ Some (ys ++ y ∷ [])
all_last [] [] y so_far = refl
all_last [] (z ∷ zs) y so_far = cc
all_last (None ∷ xs) ys y so_far = cc
all_last (Some x ∷ xs) ys y so_far = after x xs ys y (all_read xs) refl so_far (λ zs got. all_last xs zs y got)

all_stops : {B : Type 0} (xs ys : List (Option B)) → all_read (xs ++ None ∷ ys) ≡ None
all_stops [] ys = refl
all_stops (None ∷ xs) ys = refl
all_stops (Some x ∷ xs) ys = ap (option_map (λ zs. x ∷ zs)) (all_stops xs ys)

-- one more part, as at a step of a loop
pub all_more : {A B : Type 0} (f : A → Option B) (xs : List A) (i : ℕ) (d : A) (ys : List B) (y : B) → i < length xs → all_read (map f (take i xs)) ≡ Some ys
    → f (get_or xs i d) ≡ Some y → all_read (map f (take (i + 1) xs)) ≡ Some (ys ++ y ∷ [])
all_more f xs i d ys y inside so_far next =
    ap (λ l. all_read (map f l)) (take_more xs i d inside)
    ∙ ap all_read (map-append f (take i xs) (get_or xs i d ∷ []))
    ∙ ap (λ o. all_read (map f (take i xs) ++ o ∷ [])) next
    ∙ all_last (map f (take i xs)) ys y so_far

-- a part that is none
pub all_none : {A B : Type 0} (f : A → Option B) (xs : List A) (i : ℕ) (d : A) → i < length xs → f (get_or xs i d) ≡ None → all_read (map f xs) ≡ None
all_none f xs i d inside none =
    ap (λ l. all_read (map f l)) (sym (take-append-drop i xs))
    ∙ ap all_read (map-append f (take i xs) (drop i xs))
    ∙ ap (λ l. all_read (map f (take i xs) ++ map f l)) (drop-cons xs i d inside)
    ∙ ap (λ o. all_read (map f (take i xs) ++ o ∷ map f (drop (suc i) xs))) none
    ∙ all_stops (map f (take i xs)) (map f (drop (suc i) xs))

pub item_list-items_of : (ds : List Data) → item_list (items_of ds) ≡ ds
item_list-items_of [] = refl
item_list-items_of (d ∷ ds) = ap (λ l. d ∷ l) (item_list-items_of ds)

-- the items of a value that is an array
pub items_read : {A : Type 0} (f : Data → Option A) (vs : List Value) → all_read (map (λ v. f (view v)) vs) ≡ all_read (map f (item_list (items_view vs)))
items_read f vs = ap all_read (sym (map-map f view vs) ∙ ap (map f) (sym (item_list-items_of (map view vs))))

-- an item that is refused, or finds no memory
pub stops : {A B : Type 0} (f : A → Option B) (xs : List A) (i : ℕ) (d : A) → i < length xs → (fault : GraphFault) → Answers (f (get_or xs i d)) (Err fault) → Answers (all_read (map f xs)) (Err fault)
stops f xs i d inside Refused none = all_none f xs i d inside none
stops f xs i d inside OutOfMemory none = tt

pub value_of_utf8 : (text : List ℕ) → IsUtf8 text → value_of text ≡ read text
value_of_utf8 text is = ap (λ b. if b then read text else None) (is_utf8-from_IsUtf8 text is)

pub no_value : (text : List ℕ) → (IsUtf8 text → read text ≡ None) → value_of text ≡ None
no_value text none = go (is_utf8 text) refl
  where
    go : (b : Bool) → is_utf8 text ≡ b → (if b then read text else None) ≡ None
    go true is = none (IsUtf8-from_is_utf8 text is)
    go false is = refl

-- the list under a key, read item by item
pub items_under : {A : Type 0} (f : Data → Option A) (d : Option Data) (vs : List Value) → Some (items_view vs) ≡ option_and_then as_array d
    → all_read (map (λ v. f (view v)) vs) ≡ option_and_then (list_in f) d
items_under f None vs same = cc
items_under f (Some d) vs same = items_read f vs ∙ ap (option_and_then (λ items. all_read (map f (item_list items)))) same
