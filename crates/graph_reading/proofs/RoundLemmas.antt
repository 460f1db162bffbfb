-- The text of data is read as that data.
use Rattle.std.proofs.Common.{◌≡◌, ◌≤◌, ◌<◌, ◌^◌, ◌∙◌, ◌++◌, ℕ, suc, refl, ap, ap₂, sym, subst, List, [], ◌∷◌, map, true, false, append-nil, Some, decimal}
use Rattle.std.specs.Prelude.{max, IsUtf8, option_and_then, Option, Bool}
use Rattle.std.specs.List.{All}
use Rattle.std.proofs.lemmas.Str.{IsUtf8-nil, IsUtf8-append, IsUtf8-from_ascii}
use Rattle.std.proofs.lemmas.Fmt.{IsAscii-decimal}
use Rattle.std.proofs.lemmas.List.Elements.{All-head, All-tail}
use Rattle.graph_reading.specs.Values.{all_read, item_list}
use Rattle.json.specs.Json as json
use Rattle.json.specs.Lex.{tokens as tokens_in}
use Rattle.json.specs.Tree as tree
use Rattle.json.proofs.Printed.Decimals.{IsNumber-decimal}
use Rattle.json.proofs.Printed.Trees.{value-json_tokens, ArePrintable-json_tokens}
use Rattle.json.proofs.Printed.Utf8.{IsUtf8-quoted, IsUtf8-are_ascii}
use Rattle.serde_json.specs.Data.{unsigned, negative, float, Data, null, boolean, number, string, array, object, Items, no_items, item, Members, no_members, member, depth, items_depth, members_depth}
use Rattle.serde_json.specs.View.{items_of}
use Rattle.serde_json.specs.Read.{read, max_depth, of_json, of_items}
use Rattle.serde_json.specs.Written.{outline, items_outline, members_outline, compact_text, items_text, members_text, comma_if}
use Rattle.json.specs.Token.{Token}
use Rattle.serde_json.proofs.Texts.{print-outline}
use Rattle.graph_reading.proofs.LinedLemmas.{line_end, tokens-lined}

abbrev whole : Option (json.Json × List Token) → Option Data
whole o = option_and_then of_json (option_and_then (λ p. json.if_last p.0 p.1) o)

-- ---- data of whole numbers and texts

abbrev mutual
  pub IsPlain : Data → Type 0
  IsPlain null = ⊥
  IsPlain (boolean b) = ⊥
  IsPlain (number (unsigned n)) = n < 2 ^ 64
  IsPlain (number (negative z)) = ⊥
  IsPlain (number (float x)) = ⊥
  IsPlain (string s) = IsUtf8 s
  IsPlain (array ds) = ArePlain ds
  IsPlain (object ms) = HasPlain ms

  pub ArePlain : Items → Type 0
  ArePlain no_items = Unit {0}
  ArePlain (item d ds) = IsPlain d × ArePlain ds

  pub HasPlain : Members → Type 0
  HasPlain no_members = Unit {0}
  HasPlain (member k d ms) = IsUtf8 k × IsPlain d × HasPlain ms

mutual
  has_numbers : (d : Data) → IsPlain d → tree.HasNumbers (outline d)
  has_numbers null h = absurd h
  has_numbers (boolean b) h = absurd h
  has_numbers (number (unsigned n)) h = IsNumber-decimal n h
  has_numbers (number (negative z)) h = absurd h
  has_numbers (number (float x)) h = absurd h
  has_numbers (string s) h = tt
  has_numbers (array ds) h = items_have_numbers ds h
  has_numbers (object ms) h = members_have_numbers ms h

  items_have_numbers : (ds : Items) → ArePlain ds → tree.ItemsHaveNumbers (items_outline ds)
  items_have_numbers no_items h = tt
  items_have_numbers (item d ds) h = (has_numbers d h.0, items_have_numbers ds h.1)

  members_have_numbers : (ms : Members) → HasPlain ms → tree.MembersHaveNumbers (members_outline ms)
  members_have_numbers no_members h = tt
  members_have_numbers (member k d ms) h = (has_numbers d h.1, members_have_numbers ms h.2)

mutual
  same_depth : (d : Data) → tree.depth (outline d) ≡ depth d
  same_depth null = refl
  same_depth (boolean b) = refl
  same_depth (number n) = refl
  same_depth (string s) = refl
  same_depth (array ds) = ap suc (same_items_depth ds)
  same_depth (object ms) = ap suc (same_members_depth ms)

  same_items_depth : (ds : Items) → tree.items_depth (items_outline ds) ≡ items_depth ds
  same_items_depth no_items = refl
  same_items_depth (item d ds) = ap₂ max (same_depth d) (same_items_depth ds)

  same_members_depth : (ms : Members) → tree.members_depth (members_outline ms) ≡ members_depth ms
  same_members_depth no_members = refl
  same_members_depth (member k d ms) = ap₂ max (same_depth d) (same_members_depth ms)

comma_utf8 : (later : Bool) → IsUtf8 (comma_if later)
comma_utf8 true = IsUtf8-are_ascii (44 ∷ []) refl
comma_utf8 false = IsUtf8-nil

mutual
  text_utf8 : (d : Data) → IsPlain d → IsUtf8 (compact_text d)
  text_utf8 null h = absurd h
  text_utf8 (boolean b) h = absurd h
  text_utf8 (number (unsigned n)) h = IsUtf8-from_ascii (decimal n) (IsAscii-decimal n h)
  text_utf8 (number (negative z)) h = absurd h
  text_utf8 (number (float x)) h = absurd h
  text_utf8 (string s) h = IsUtf8-quoted s h
  text_utf8 (array ds) h = IsUtf8-append (91 ∷ []) _ (IsUtf8-are_ascii (91 ∷ []) refl) (items_utf8 false ds h)
  text_utf8 (object ms) h = IsUtf8-append (123 ∷ []) _ (IsUtf8-are_ascii (123 ∷ []) refl) (members_utf8 false ms h)

  items_utf8 : (later : Bool) (ds : Items) → ArePlain ds → IsUtf8 (items_text later ds)
  items_utf8 later no_items h = IsUtf8-are_ascii (93 ∷ []) refl
  items_utf8 later (item d ds) h = IsUtf8-append _ _ (comma_utf8 later) (IsUtf8-append _ _ (text_utf8 d h.0) (items_utf8 true ds h.1))

  members_utf8 : (later : Bool) (ms : Members) → HasPlain ms → IsUtf8 (members_text later ms)
  members_utf8 later no_members h = IsUtf8-are_ascii (125 ∷ []) refl
  members_utf8 later (member k d ms) h =
      IsUtf8-append _ _ (comma_utf8 later) (IsUtf8-append _ _ (IsUtf8-quoted k h.0)
      (IsUtf8-append (58 ∷ []) _ (IsUtf8-are_ascii (58 ∷ []) refl) (IsUtf8-append _ _ (text_utf8 d h.1) (members_utf8 true ms h.2))))

-- a text of plain data, with a newline
pub lined_utf8 : (d : Data) → IsPlain d → IsUtf8 (compact_text d ++ line_end)
lined_utf8 d h = IsUtf8-append _ _ (text_utf8 d h) (IsUtf8-are_ascii line_end refl)

pub lined_read : (d : Data) → IsPlain d → depth d ≤ max_depth → of_json (outline d) ≡ Some d → read (compact_text d ++ line_end) ≡ Some d
lined_read d plain low back =
    let tokens_of = tree.json_tokens (outline d) in
    let same = ap (λ (l : List ℕ). json.value max_depth (tokens_in l)) (ap (λ l. l ++ line_end) (sym (print-outline d))) in
    ap whole (same ∙ ap (json.value max_depth) (tokens-lined tokens_of (ArePrintable-json_tokens (outline d) (has_numbers d plain)) ∙ sym (append-nil tokens_of))
    ∙ value-json_tokens (outline d) max_depth [] (subst (λ n. n ≤ max_depth) (sym (same_depth d)) low))
    ∙ back

-- ---- lists

pub plain_items : {A : Type 0} (f : A → Data) (P : A → Type 0) → ((x : A) → P x → IsPlain (f x)) → (xs : List A) → All P xs → ArePlain (items_of (map f xs))
plain_items f P plain [] h = tt
plain_items f P plain (x ∷ xs) h = (plain x (All-head P x xs h), plain_items f P plain xs (All-tail P x xs h))

pub items_back : {A : Type 0} (f : A → Data) (P : A → Type 0) → ((x : A) → P x → of_json (outline (f x)) ≡ Some (f x)) → (xs : List A) → All P xs
    → of_items (items_outline (items_of (map f xs))) ≡ Some (items_of (map f xs))
items_back f P back [] h = refl
items_back f P back (x ∷ xs) h = rw (back x (All-head P x xs h), items_back f P back xs (All-tail P x xs h)) refl

pub all_back : {A : Type 0} (f : Data → Option A) (h : A → Data) (P : A → Type 0) → ((x : A) → P x → f (h x) ≡ Some x) → (xs : List A) → All P xs
    → all_read (map f (item_list (items_of (map h xs)))) ≡ Some xs
all_back f h P back [] all = refl
all_back f h P back (x ∷ xs) all = rw (back x (All-head P x xs all), all_back f h P back xs (All-tail P x xs all)) refl
