-- The text of a graph is read as that graph.
use Rattle.std.proofs.Common.{◌≡◌, ◌≤◌, ◌<◌, ◌^◌, ◌∙◌, ◌&&◌, ℕ, refl, ap, List, [], ◌∷◌, map, true, arith, Some, length}
use Rattle.std.specs.Prelude.{codes, IsUtf8, option_and_then, option_map, nat_lt, nat_le}
use Rattle.std.specs.List.{All}
use Rattle.std.proofs.lemmas.List.Elements.{All-cons, All-nil}
use Rattle.std.proofs.lemmas.Bool.{and_parts}
use Rattle.json.proofs.Printed.Utf8.{IsUtf8-are_ascii}
use Rattle.serde_json.specs.Data.{number, depth}
use Rattle.serde_json.specs.View.{items_of}
use Rattle.serde_json.specs.Read.{of_json, of_items, max_depth}
use Rattle.serde_json.specs.Written.{outline, items_outline}
use Rattle.serde_json.proofs.Numbers.{number_of-decimal}
use Rattle.sam_model.specs.declared.program.Program.{Program}
use Rattle.stream_model.specs.Texts.{text_of_label}
use Rattle.graph.specs.declared.graphs.Kind.{Kind}
use Rattle.graph.specs.declared.graphs.Kind.TheVariants.{Root, Scan, Repeat, Cast, Drain, Intersect, Union, Array, Mul, Add, Sub, Const, SumScalar, SumVector, SumMatrix, DropValue, DropFiber, Fill, WriteLevel, WriteValue}
use Rattle.graph.specs.declared.graphs.Block.{Block}
use Rattle.graph.specs.declared.graphs.Channel.{Channel}
use Rattle.graph_json.specs.Tables.{kind_word, kind_numbers, kind_name}
use Rattle.graph_json.specs.Spelled.{NamesAreText, number_data, numbers_data, block_data, channel_data, graph_data, graph_text}
use Rattle.graph_json.proofs.NameLemmas.{kind_name-utf8}
use Rattle.graph_json.proofs.LabelTexts.{text_of_label-utf8}
use Rattle.label_reading.specs.Words.{if_holds, label_in}
use Rattle.label_reading.proofs.LabelLaw.{labels_are_read}
use Rattle.graph_reading.specs.Values.{are_places, number_in, numbers_in, places_in}
use Rattle.graph_reading.specs.Kinds.{tensor_dims, level_fits, pair_fits, kind_with}
use Rattle.graph_reading.specs.Graphs.{block_in, channel_in, graph_in}
use Rattle.graph_reading.specs.Form.{KindFits, BlockIsSpelled, ChannelIsSpelled, TextsAreRead}
use Rattle.graph_reading.proofs.ReadLemmas.{value_of_utf8}
use Rattle.graph_reading.proofs.RoundLemmas.{IsPlain, ArePlain, plain_items, items_back, all_back, lined_utf8, lined_read}
use Rattle.graph_reading.proofs.DataLemmas.{graph_shallow}

abbrev Fits64 : ℕ → Type 0
Fits64 n = n < 2 ^ 64

place : (n : ℕ) → nat_lt n (2 ^ 32) ≡ true → Fits64 n
place n h = grind arith

few : (n : ℕ) → nat_le n 8 ≡ true → Fits64 n
few n h = grind arith

byte : (n : ℕ) → nat_lt n 256 ≡ true → Fits64 n
byte n h = grind arith

all_places : (ns : List ℕ) → are_places ns ≡ true → All Fits64 ns
all_places [] h = All-nil Fits64
all_places (n ∷ ns) h = let p = and_parts (nat_lt n (2 ^ 32)) (are_places ns) h in All-cons Fits64 n ns (place n p.0) (all_places ns p.1)

-- ---- numbers

numbers_plain : (ns : List ℕ) → All Fits64 ns → ArePlain (items_of (map number_data ns))
numbers_plain = plain_items number_data Fits64 (λ n h. h)

numbers_back : (ns : List ℕ) → All Fits64 ns → of_items (items_outline (items_of (map number_data ns))) ≡ Some (items_of (map number_data ns))
numbers_back = items_back number_data Fits64 (λ n h. ap (option_map number) (number_of-decimal n h))

numbers_found : (ns : List ℕ) → All Fits64 ns → numbers_in (numbers_data ns) ≡ Some ns
numbers_found = all_back number_in number_data Fits64 (λ n h. refl)

places_found : (ns : List ℕ) → are_places ns ≡ true → places_in (numbers_data ns) ≡ Some ns
places_found ns h =
    ap (option_and_then (λ ns. if_holds (are_places ns) ns)) (numbers_found ns (all_places ns h)) ∙ ap (λ b. if_holds b ns) h

-- ---- kinds and blocks

one_fits : (n : ℕ) → Fits64 n → All Fits64 (n ∷ [])
one_fits n h = All-cons Fits64 n [] h (All-nil Fits64)

pair_small : (left right : ℕ) → pair_fits left right ≡ true → All Fits64 (left ∷ right ∷ [])
pair_small left right h =
    let a = and_parts (nat_le left 8 && nat_le right 8) _ h in
    let b = and_parts (nat_le left 8) (nat_le right 8) a.0 in
    All-cons Fits64 left (right ∷ []) (few left b.0) (one_fits right (few right b.1))

level_small : (p : Program) (tensor level : ℕ) → level_fits p tensor level ≡ true → Fits64 level
level_small p tensor level h = byte level (and_parts (nat_le 1 level && nat_le level (length (tensor_dims p tensor))) (nat_lt level 256) h).1

numbers_fit : (p : Program) (kind : Kind) → KindFits p kind → All Fits64 (kind_numbers kind)
numbers_fit p Root h = All-nil Fits64
numbers_fit p (Scan tensor level) h = one_fits level (level_small p tensor level h.0)
numbers_fit p Repeat h = All-nil Fits64
numbers_fit p (Cast outs) h = one_fits outs (place outs h)
numbers_fit p Drain h = All-nil Fits64
numbers_fit p (Intersect left right) h = pair_small left right h
numbers_fit p (Union left right) h = pair_small left right h
numbers_fit p (Array tensor) h = All-nil Fits64
numbers_fit p Mul h = All-nil Fits64
numbers_fit p Add h = All-nil Fits64
numbers_fit p Sub h = All-nil Fits64
numbers_fit p (Const value) h = one_fits value h
numbers_fit p SumScalar h = All-nil Fits64
numbers_fit p SumVector h = All-nil Fits64
numbers_fit p SumMatrix h = All-nil Fits64
numbers_fit p DropValue h = All-nil Fits64
numbers_fit p DropFiber h = All-nil Fits64
numbers_fit p (Fill payloads) h = one_fits payloads (few payloads h)
numbers_fit p (WriteLevel level) h = one_fits level (byte level h)
numbers_fit p WriteValue h = All-nil Fits64

kind_found : (p : Program) (kind : Kind) → KindFits p kind → kind_with p (kind_word kind) (kind_numbers kind) (kind_name p kind) ≡ Some kind
kind_found p Root h = refl
kind_found p (Scan tensor level) h =
    ap (option_and_then (λ t. if_holds (level_fits p t level) (Scan t level))) h.1 ∙ ap (λ b. if_holds b (Scan tensor level)) h.0
kind_found p Repeat h = refl
kind_found p (Cast outs) h = ap (λ b. if_holds b (Cast outs)) h
kind_found p Drain h = refl
kind_found p (Intersect left right) h = ap (λ b. if_holds b (Intersect left right)) h
kind_found p (Union left right) h = ap (λ b. if_holds b (Union left right)) h
kind_found p (Array tensor) h = ap (option_map (λ t. Array t)) h
kind_found p Mul h = refl
kind_found p Add h = refl
kind_found p Sub h = refl
kind_found p (Const value) h = refl
kind_found p SumScalar h = refl
kind_found p SumVector h = refl
kind_found p SumMatrix h = refl
kind_found p DropValue h = refl
kind_found p DropFiber h = refl
kind_found p (Fill payloads) h = ap (λ b. if_holds b (Fill payloads)) h
kind_found p (WriteLevel level) h = ap (λ b. if_holds b (WriteLevel level)) h
kind_found p WriteValue h = refl

word_text : (kind : Kind) → IsUtf8 (kind_word kind)
word_text Root = IsUtf8-are_ascii _ refl
word_text (Scan tensor level) = IsUtf8-are_ascii _ refl
word_text Repeat = IsUtf8-are_ascii _ refl
word_text (Cast outs) = IsUtf8-are_ascii _ refl
word_text Drain = IsUtf8-are_ascii _ refl
word_text (Intersect left right) = IsUtf8-are_ascii _ refl
word_text (Union left right) = IsUtf8-are_ascii _ refl
word_text (Array tensor) = IsUtf8-are_ascii _ refl
word_text Mul = IsUtf8-are_ascii _ refl
word_text Add = IsUtf8-are_ascii _ refl
word_text Sub = IsUtf8-are_ascii _ refl
word_text (Const value) = IsUtf8-are_ascii _ refl
word_text SumScalar = IsUtf8-are_ascii _ refl
word_text SumVector = IsUtf8-are_ascii _ refl
word_text SumMatrix = IsUtf8-are_ascii _ refl
word_text DropValue = IsUtf8-are_ascii _ refl
word_text DropFiber = IsUtf8-are_ascii _ refl
word_text (Fill payloads) = IsUtf8-are_ascii _ refl
word_text (WriteLevel level) = IsUtf8-are_ascii _ refl
word_text WriteValue = IsUtf8-are_ascii _ refl

block_plain : (p : Program) → NamesAreText p → (b : Block) → BlockIsSpelled p b → IsPlain (block_data p b)
block_plain p texts b h = (
  IsUtf8-are_ascii (codes "arg") refl,
  numbers_plain (kind_numbers b.kind) (numbers_fit p b.kind h.kind),
  (
    IsUtf8-are_ascii (codes "ins") refl,
    numbers_plain b.ins (all_places b.ins h.ins),
    (
      IsUtf8-are_ascii (codes "kind") refl,
      word_text b.kind,
      (
        IsUtf8-are_ascii (codes "name") refl,
        kind_name-utf8 p b.kind texts,
        (IsUtf8-are_ascii (codes "outs") refl, numbers_plain b.outs (all_places b.outs h.outs), tt),
      ),
    ),
  ),
)

block_back : (p : Program) (b : Block) → BlockIsSpelled p b → of_json (outline (block_data p b)) ≡ Some (block_data p b)
block_back p b h =
    let numbers = numbers_back (kind_numbers b.kind) (numbers_fit p b.kind h.kind) in
    let ins = numbers_back b.ins (all_places b.ins h.ins) in
    let outs = numbers_back b.outs (all_places b.outs h.outs) in
    rw (numbers, ins, outs) refl

block_found : (p : Program) (b : Block) → BlockIsSpelled p b → block_in p (block_data p b) ≡ Some b
block_found p b h =
    let numbers = numbers_found (kind_numbers b.kind) (numbers_fit p b.kind h.kind) in
    let kind = kind_found p b.kind h.kind in
    let ins = places_found b.ins h.ins in
    let outs = places_found b.outs h.outs in
    rw (numbers, kind, ins, outs) refl

-- ---- channels

channel_plain : (c : Channel) → ChannelIsSpelled c → IsPlain (channel_data c)
channel_plain c h = (
  IsUtf8-are_ascii (codes "from") refl,
  numbers_plain (c.from_block ∷ c.from_port ∷ []) (all_places (c.from_block ∷ c.from_port ∷ []) h.from),
  (
    IsUtf8-are_ascii (codes "label") refl,
    text_of_label-utf8 c.label,
    (IsUtf8-are_ascii (codes "to") refl, numbers_plain (c.to_block ∷ c.to_port ∷ []) (all_places (c.to_block ∷ c.to_port ∷ []) h.to), tt),
  ),
)

channel_back : (c : Channel) → ChannelIsSpelled c → of_json (outline (channel_data c)) ≡ Some (channel_data c)
channel_back c h =
    let from = numbers_back (c.from_block ∷ c.from_port ∷ []) (all_places (c.from_block ∷ c.from_port ∷ []) h.from) in
    let to = numbers_back (c.to_block ∷ c.to_port ∷ []) (all_places (c.to_block ∷ c.to_port ∷ []) h.to) in
    rw (from, to) refl

channel_found : (c : Channel) → ChannelIsSpelled c → channel_in (channel_data c) ≡ Some c
channel_found c h =
    let from = places_found (c.from_block ∷ c.from_port ∷ []) h.from in
    let to = places_found (c.to_block ∷ c.to_port ∷ []) h.to in
    let label : label_in (text_of_label c.label) ≡ Some c.label = labels_are_read c.label h.label in
    rw (from, to, label) refl

-- ---- graphs

pub texts_are_read : TextsAreRead
texts_are_read p g texts h =
    let d = graph_data p g in
    let plain : IsPlain d = (
      IsUtf8-are_ascii (codes "blocks") refl,
      plain_items (block_data p) (BlockIsSpelled p) (block_plain p texts) g.blocks h.blocks,
      (IsUtf8-are_ascii (codes "channels") refl, plain_items channel_data ChannelIsSpelled channel_plain g.channels h.channels, tt),
    ) in
    let low = graph_shallow p g in
    let blocks_back = items_back (block_data p) (BlockIsSpelled p) (block_back p) g.blocks h.blocks in
    let channels_back = items_back channel_data ChannelIsSpelled channel_back g.channels h.channels in
    let back : of_json (outline d) ≡ Some d = rw (blocks_back, channels_back) refl in
    let blocks_found = all_back (block_in p) (block_data p) (BlockIsSpelled p) (block_found p) g.blocks h.blocks in
    let channels_found = all_back channel_in channel_data ChannelIsSpelled channel_found g.channels h.channels in
    let found : graph_in p d ≡ Some g = rw (blocks_found, channels_found) refl in
    let shallow : depth d ≤ max_depth = omega arith in
    ap (option_and_then (graph_in p)) (value_of_utf8 (graph_text p g) (lined_utf8 d plain) ∙ lined_read d plain shallow back) ∙ found
