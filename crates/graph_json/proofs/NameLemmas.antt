-- Names that are text.
use Rattle.std.proofs.Common.{◌≡◌, ◌<◌, ℕ, zero, suc, List, [], ◌∷◌, true, map, get_or, arith}
use Rattle.std.specs.List.{list_all}
use Rattle.std.specs.Str.{IsAscii}
use Rattle.std.proofs.lemmas.Bool.{and_parts}
use Rattle.std.proofs.lemmas.Bool.Decides.{nat_tests}
use Rattle.std.proofs.lemmas.Str.{IsUtf8-from_ascii}
use Rattle.std.proofs.lemmas.Str.Ascii.{IsAscii-nil, IsAscii-cons}
use Rattle.sam_text.specs.Bytes.{is_letter, is_name_byte}
use Rattle.sam_text.specs.Names.{is_word_name, is_name}
use Rattle.std.specs.Prelude.{All, IsUtf8}
use Rattle.std.proofs.lemmas.List.Elements.{All-head, All-tail, All-cons, All-nil}
use Rattle.std.proofs.lemmas.Str.{IsUtf8-nil}
use Rattle.sam_model.specs.declared.tensors.Tensor.{Tensor}
use Rattle.sam_model.specs.declared.program.Program.{Program}
use Rattle.graph.specs.declared.graphs.Kind.{Kind}
use Rattle.graph.specs.declared.graphs.Kind.TheVariants.{Root, Scan, Repeat, Cast, Drain, Intersect, Union, Array, Mul, Add, Sub, Const, SumScalar, SumVector, SumMatrix, DropValue, DropFiber, Fill, WriteLevel, WriteValue}
use Rattle.graph_json.specs.Tables.{kind_name}
use Rattle.graph_json.specs.Spelled.{NamesAreText}

abbrev name_is_text : Tensor → Type 0
name_is_text t = IsUtf8 t.name

-- a name by its number, or none
name_at : (ts : List Tensor) (n : ℕ) → All name_is_text ts → IsUtf8 (get_or (map (λ (t : Tensor). t.name) ts) n [])
name_at [] n texts = IsUtf8-nil
name_at (t ∷ ts) zero texts = All-head name_is_text t ts texts
name_at (t ∷ ts) (suc n) texts = name_at ts n (All-tail name_is_text t ts texts)

pub kind_name-utf8 : (p : Program) (kind : Kind) → NamesAreText p → IsUtf8 (kind_name p kind)
kind_name-utf8 p Root texts = IsUtf8-nil
kind_name-utf8 p (Scan tensor level) texts = name_at p.tensors tensor texts.tensors
kind_name-utf8 p Repeat texts = IsUtf8-nil
kind_name-utf8 p (Cast outs) texts = IsUtf8-nil
kind_name-utf8 p Drain texts = IsUtf8-nil
kind_name-utf8 p (Intersect left right) texts = IsUtf8-nil
kind_name-utf8 p (Union left right) texts = IsUtf8-nil
kind_name-utf8 p (Array tensor) texts = name_at p.tensors tensor texts.tensors
kind_name-utf8 p Mul texts = IsUtf8-nil
kind_name-utf8 p Add texts = IsUtf8-nil
kind_name-utf8 p Sub texts = IsUtf8-nil
kind_name-utf8 p (Const value) texts = IsUtf8-nil
kind_name-utf8 p SumScalar texts = IsUtf8-nil
kind_name-utf8 p SumVector texts = IsUtf8-nil
kind_name-utf8 p SumMatrix texts = IsUtf8-nil
kind_name-utf8 p DropValue texts = IsUtf8-nil
kind_name-utf8 p DropFiber texts = IsUtf8-nil
kind_name-utf8 p (Fill payloads) texts = IsUtf8-nil
kind_name-utf8 p (WriteLevel level) texts = texts.result
kind_name-utf8 p WriteValue texts = texts.result

-- ---- names as a program file has them

letter_small : (b : ℕ) → is_letter b ≡ true → b < 128
letter_small b h = grind (arith, nat_tests)

byte_small : (b : ℕ) → is_name_byte b ≡ true → b < 128
byte_small b h = grind (arith, nat_tests)

bytes_ascii : (bs : List ℕ) → list_all is_name_byte bs ≡ true → IsAscii bs
bytes_ascii [] h = IsAscii-nil
bytes_ascii (b ∷ bs) h = let parts = and_parts (is_name_byte b) (list_all is_name_byte bs) h in IsAscii-cons b bs (byte_small b parts.0) (bytes_ascii bs parts.1)

word_ascii : (bs : List ℕ) → is_word_name bs ≡ true → IsAscii bs
word_ascii [] h = IsAscii-nil
word_ascii (b ∷ bs) h = let parts = and_parts (is_letter b) (list_all is_name_byte bs) h in IsAscii-cons b bs (letter_small b parts.0) (bytes_ascii bs parts.1)

name_text : (bs : List ℕ) → is_name bs ≡ true → IsUtf8 bs
name_text bs h = IsUtf8-from_ascii bs (word_ascii bs (and_parts (is_word_name bs) _ h).0)

tensor_names_text : (ts : List Tensor) → list_all (λ (t : Tensor). is_name t.name) ts ≡ true → All name_is_text ts
tensor_names_text [] h = All-nil name_is_text
tensor_names_text (t ∷ ts) h =
    let parts = and_parts (is_name t.name) _ h in
    All-cons name_is_text t ts (name_text t.name parts.0) (tensor_names_text ts parts.1)

-- the names of a program are text where they are names
pub names-are_text : (p : Program) → list_all (λ (t : Tensor). is_name t.name) p.tensors ≡ true → is_name p.result.name ≡ true → NamesAreText p
names-are_text p tensors result = record { tensors = tensor_names_text p.tensors tensors; result = name_text p.result.name result }
