-- The text of each label is read as that label.
use Rattle.std.proofs.Common.{◌≡◌, ◌∙◌, ◌<◌, ◌++◌, ℕ, Bool, true, false, refl, ap, sym, arith, List, [], ◌∷◌, decimal, map, append-nil, append_assoc}
use Rattle.std.specs.Prelude.{codes, nat_lt, Option, Some, None, option_and_then}
use Rattle.std.specs.List.{All}
use Rattle.std.specs.Str.{bytes_eq}
use Rattle.std.proofs.lemmas.Bool.Decides.{Decides-ltb}
use Rattle.std.proofs.lemmas.Slice.Eq.{bytes_eq-Decides}
use Rattle.std.proofs.lemmas.List.Elements.{All-nil, All-cons}
use Rattle.sam_text.specs.Words.{words}
use Rattle.stream_model.specs.declared.labels.Side.{Side}
use Rattle.stream_model.specs.declared.labels.Side.TheVariants.{Left, Right}
use Rattle.stream_model.specs.declared.labels.Tree.{Tree}
use Rattle.stream_model.specs.declared.labels.Tree.TheVariants.{Root, Product, Reduced, Joined, Beside, Across, Under, UnderReduced, UnderJoined}
use Rattle.stream_model.specs.declared.labels.Attr.{Attr}
use Rattle.stream_model.specs.declared.labels.Attr.TheVariants.{Coordinate, Rank, FactorValue, Partial, Whole, Value, Present, SideValue, Literal}
use Rattle.stream_model.specs.declared.labels.Label.{Label}
use Rattle.stream_model.specs.Texts.{side_text, spaced, tree_text, attr_text, text_of_label}
use Rattle.label_reading.specs.Words.{argument_in, arguments_in, tree_with, attr_with, label_of, label_by, label_in, if_holds}
use Rattle.label_reading.specs.Laws.{TreeFits, AttrFits, LabelFits, LabelsAreRead, LabelsAreSpelled}
use Rattle.label_reading.proofs.WordLemmas.{IsWord, word_by_test, Follows, follows_end, follows_word, follows_numbers, Fits64, argument_found, arguments_found}

-- ---- a tree's text, with whatever follows it

record TreeReads (tree : Tree) : Type 0 where
  word : List ℕ
  tail : List ℕ
  args : List (List ℕ)
  numbers : List ℕ
  text : tree_text tree ≡ word ++ tail
  is_word : IsWord word
  below : bytes_eq word (codes "root") ≡ false
  follows : (rest : List ℕ) (ws : List (List ℕ)) → Follows rest ws → Follows (tail ++ rest) (args ++ ws)
  told : (ws : List (List ℕ)) → arguments_in ws ≡ ([], ws) → arguments_in (args ++ ws) ≡ (numbers, ws)
  found : tree_with word numbers ≡ Some tree

all_told : (ns : List ℕ) (ws : List (List ℕ)) → All Fits64 ns → arguments_in ws ≡ ([], ws) → arguments_in (map decimal ns ++ ws) ≡ (ns, ws)
all_told ns ws fit ends =
    arguments_found ns ws fit ∙ ap (λ (p : List ℕ × List (List ℕ)). (ns ++ p.0, p.1)) ends ∙ ap (λ (l : List ℕ). (l, ws)) (append-nil ns)

-- a tree of numbers alone
numbered : (tree : Tree) (word ns : List ℕ) → tree_text tree ≡ word ++ spaced ns → IsWord word → bytes_eq word (codes "root") ≡ false → All Fits64 ns
    → tree_with word ns ≡ Some tree → TreeReads tree
numbered tree word ns text is below fit found = record {
  word = word;
  tail = spaced ns;
  args = map decimal ns;
  numbers = ns;
  text = text;
  is_word = is;
  below = below;
  follows = λ rest ws more. follows_numbers ns rest ws fit more;
  told = λ ws ends. all_told ns ws fit ends;
  found = found;
}

fits : (n : ℕ) → n < 256 → Fits64 n
fits n h = omega (arith, h)

small : (n : ℕ) → n < 256 → nat_lt n 256 ≡ true
small n h = (Decides-ltb n 256).1 h

one_fits : (a : ℕ) → Fits64 a → All Fits64 (a ∷ [])
one_fits a ha = All-cons Fits64 a [] ha (All-nil Fits64)

two_fit : (a b : ℕ) → a < 256 → b < 256 → All Fits64 (a ∷ b ∷ [])
two_fit a b ha hb = All-cons Fits64 a (b ∷ []) (fits a ha) (one_fits b (fits b hb))

three_fit : (a b c : ℕ) → a < 256 → b < 256 → c < 256 → All Fits64 (a ∷ b ∷ c ∷ [])
three_fit a b c ha hb hc = All-cons Fits64 a (b ∷ c ∷ []) (fits a ha) (two_fit b c hb hc)

side_word : (side : Side) → IsWord (side_text side)
side_word Left = word_by_test (codes "left") refl refl
side_word Right = word_by_test (codes "right") refl refl

abbrev side_number : Side → ℕ
side_number Left = 0
side_number Right = 1

side_told : (side : Side) → argument_in (side_text side) ≡ Some (side_number side)
side_told Left = refl
side_told Right = refl

beside_found : (last depth : ℕ) (side : Side) → last < 256 → depth < 256 → tree_with (codes "beside") (last ∷ side_number side ∷ depth ∷ []) ≡ Some (Beside last side depth)
beside_found last depth Left h k = let a = small last h in let b = small depth k in rw (a, b) refl
beside_found last depth Right h k = let a = small last h in let b = small depth k in rw (a, b) refl

beside_reads : (last depth : ℕ) (side : Side) → last < 256 → depth < 256 → TreeReads (Beside last side depth)
beside_reads last depth side h k = record {
  word = codes "beside";
  tail = spaced (last ∷ []) ++ (32 ∷ (side_text side ++ spaced (depth ∷ [])));
  args = decimal last ∷ side_text side ∷ decimal depth ∷ [];
  numbers = last ∷ side_number side ∷ depth ∷ [];
  text = refl;
  is_word = word_by_test (codes "beside") refl refl;
  below = refl;
  follows = λ rest ws more.
      let deep = follows_numbers (depth ∷ []) rest ws (one_fits depth (fits depth k)) more in
      let sided = follows_word (side_text side) (spaced (depth ∷ []) ++ rest) (decimal depth ∷ ws) (side_word side) deep in
      let whole = follows_numbers (last ∷ []) (32 ∷ (side_text side ++ (spaced (depth ∷ []) ++ rest))) (side_text side ∷ decimal depth ∷ ws) (one_fits last (fits last h)) sided in
      λ w is. ap (λ (l : List ℕ). words (w ++ l)) (regroup (spaced (last ∷ [])) (side_text side) (spaced (depth ∷ [])) rest) ∙ whole w is;
  told = λ ws ends.
      let a = argument_found last (fits last h) in
      let b = side_told side in
      let c = argument_found depth (fits depth k) in
      rw (a, b, c, ends) refl;
  found = beside_found last depth side h k;
}
  where
    regroup : (a b c d : List ℕ) → (a ++ (32 ∷ (b ++ c))) ++ d ≡ a ++ (32 ∷ (b ++ (c ++ d)))
    regroup a b c d = simp append_assoc refl

reads_tree : (tree : Tree) → (tree ≡ Root → ⊥) → TreeFits tree → TreeReads tree
reads_tree Root apart h = absurd (apart refl)
reads_tree (Product term level mask) apart h =
    let a = small term h.0 in let b = small level h.1 in let c = small mask h.2 in
    numbered (Product term level mask) (codes "product") (term ∷ level ∷ mask ∷ []) refl (word_by_test _ refl refl) refl (three_fit term level mask h.0 h.1 h.2) (rw (a, b, c) refl)
reads_tree (Reduced term gone prune depth) apart h =
    let a = small term h.0 in let b = small gone h.1 in let c = small prune h.2 in let d = small depth h.3 in
    let all = All-cons Fits64 term (gone ∷ prune ∷ depth ∷ []) (fits term h.0) (three_fit gone prune depth h.1 h.2 h.3) in
    numbered (Reduced term gone prune depth) (codes "reduced") (term ∷ gone ∷ prune ∷ depth ∷ []) refl (word_by_test _ refl refl) refl all (rw (a, b, c, d) refl)
reads_tree (Joined last depth) apart h =
    let a = small last h.0 in let b = small depth h.1 in
    numbered (Joined last depth) (codes "joined") (last ∷ depth ∷ []) refl (word_by_test _ refl refl) refl (two_fit last depth h.0 h.1) (rw (a, b) refl)
reads_tree (Beside last side depth) apart h = beside_reads last depth side h.0 h.1
reads_tree (Across upto term depth) apart h =
    let a = small upto h.0 in let b = small term h.1 in let c = small depth h.2 in
    numbered (Across upto term depth) (codes "across") (upto ∷ term ∷ depth ∷ []) refl (word_by_test _ refl refl) refl (three_fit upto term depth h.0 h.1 h.2) (rw (a, b, c) refl)
reads_tree (Under term level mask) apart h =
    let a = small term h.0 in let b = small level h.1 in let c = small mask h.2 in
    numbered (Under term level mask) (codes "under") (term ∷ level ∷ mask ∷ []) refl (word_by_test _ refl refl) refl (three_fit term level mask h.0 h.1 h.2) (rw (a, b, c) refl)
reads_tree (UnderReduced term gone depth) apart h =
    let a = small term h.0 in let b = small gone h.1 in let c = small depth h.2 in
    numbered (UnderReduced term gone depth) (codes "underreduced") (term ∷ gone ∷ depth ∷ []) refl (word_by_test _ refl refl) refl (three_fit term gone depth h.0 h.1 h.2) (rw (a, b, c) refl)
reads_tree (UnderJoined last prune depth) apart h =
    let a = small last h.0 in let b = small prune h.1 in let c = small depth h.2 in
    numbered (UnderJoined last prune depth) (codes "underjoined") (last ∷ prune ∷ depth ∷ []) refl (word_by_test _ refl refl) refl (three_fit last prune depth h.0 h.1 h.2) (rw (a, b, c) refl)

-- ---- an attribute's text, at the end

record AttrReads (attr : Attr) : Type 0 where
  word : List ℕ
  tail : List ℕ
  args : List (List ℕ)
  numbers : List ℕ
  text : attr_text attr ≡ word ++ tail
  is_word : IsWord word
  apart : argument_in word ≡ None
  follows : Follows tail args
  told : arguments_in args ≡ (numbers, [])
  found : attr_with word numbers ≡ Some attr

-- a word alone
bare : (attr : Attr) (word : List ℕ) → attr_text attr ≡ word → IsWord word → argument_in word ≡ None → attr_with word [] ≡ Some attr → AttrReads attr
bare attr word text is apart found = record {
  word = word;
  tail = [];
  args = [];
  numbers = [];
  text = text ∙ sym (append-nil word);
  is_word = is;
  apart = apart;
  follows = follows_end;
  told = refl;
  found = found;
}

-- a word and a number
counted : (attr : Attr) (word : List ℕ) (n : ℕ) → attr_text attr ≡ word ++ spaced (n ∷ []) → IsWord word → argument_in word ≡ None → Fits64 n
    → attr_with word (n ∷ []) ≡ Some attr → AttrReads attr
counted attr word n text is apart fit found = record {
  word = word;
  tail = spaced (n ∷ []);
  args = decimal n ∷ [];
  numbers = n ∷ [];
  text = text;
  is_word = is;
  apart = apart;
  follows = λ w w_is. ap (λ (l : List ℕ). words (w ++ l)) (sym (append-nil (spaced (n ∷ [])))) ∙ follows_numbers (n ∷ []) [] [] (one_fits n fit) follows_end w w_is;
  told = all_told (n ∷ []) [] (one_fits n fit) refl;
  found = found;
}

-- a word and a side
sided : (attr : Attr) (word : List ℕ) (side : Side) → attr_text attr ≡ word ++ (32 ∷ side_text side) → IsWord word → argument_in word ≡ None
    → attr_with word (side_number side ∷ []) ≡ Some attr → AttrReads attr
sided attr word side text is apart found = record {
  word = word;
  tail = 32 ∷ side_text side;
  args = side_text side ∷ [];
  numbers = side_number side ∷ [];
  text = text;
  is_word = is;
  apart = apart;
  follows = λ w w_is. ap (λ (l : List ℕ). words (w ++ 32 ∷ l)) (sym (append-nil (side_text side))) ∙ follows_word (side_text side) [] [] (side_word side) follows_end w w_is;
  told = let a = side_told side in rw a refl;
  found = found;
}

reads_attr : (attr : Attr) → AttrFits attr → AttrReads attr
reads_attr Coordinate h = bare Coordinate (codes "coordinate") refl (word_by_test _ refl refl) refl refl
reads_attr (Rank f) h = let a = small f h in counted (Rank f) (codes "rank") f refl (word_by_test _ refl refl) refl (fits f h) (rw a refl)
reads_attr (FactorValue f) h = let a = small f h in counted (FactorValue f) (codes "factor") f refl (word_by_test _ refl refl) refl (fits f h) (rw a refl)
reads_attr (Partial k) h = let a = small k h in counted (Partial k) (codes "partial") k refl (word_by_test _ refl refl) refl (fits k h) (rw a refl)
reads_attr Whole h = bare Whole (codes "whole") refl (word_by_test _ refl refl) refl refl
reads_attr Value h = bare Value (codes "value") refl (word_by_test _ refl refl) refl refl
reads_attr (Present Left) h = sided (Present Left) (codes "present") Left refl (word_by_test _ refl refl) refl refl
reads_attr (Present Right) h = sided (Present Right) (codes "present") Right refl (word_by_test _ refl refl) refl refl
reads_attr (SideValue Left) h = sided (SideValue Left) (codes "value") Left refl (word_by_test _ refl refl) refl refl
reads_attr (SideValue Right) h = sided (SideValue Right) (codes "value") Right refl (word_by_test _ refl refl) refl refl
reads_attr (Literal n) h = counted (Literal n) (codes "literal") n refl (word_by_test _ refl refl) refl h refl

-- ---- labels

found_by_words : (tree : Tree) (attr : Attr) → TreeReads tree → AttrReads attr
    → label_by (words (tree_text tree ++ (32 ∷ attr_text attr))) ≡ Some (label_of tree attr)
found_by_words tree attr t a =
    let behind = follows_word a.word a.tail a.args a.is_word a.follows in
    let split : words (tree_text tree ++ (32 ∷ attr_text attr)) ≡ t.word ∷ (t.args ++ (a.word ∷ a.args)) =
    ap (λ (l : List ℕ). words (l ++ (32 ∷ attr_text attr))) t.text
    ∙ ap (λ (l : List ℕ). words ((t.word ++ t.tail) ++ (32 ∷ l))) a.text
    ∙ ap words (append_assoc t.word t.tail (32 ∷ (a.word ++ a.tail)))
    ∙ t.follows (32 ∷ (a.word ++ a.tail)) (a.word ∷ a.args) behind t.word t.is_word in
    let apart = a.apart in
    let ends : arguments_in (a.word ∷ a.args) ≡ ([], a.word ∷ a.args) = rw apart refl in
    let told = t.told (a.word ∷ a.args) ends in
    let below = t.below in
    let tree_found = t.found in
    let attr_told = a.told in
    let attr_found = a.found in
    ap label_by split ∙ rw (below, told, tree_found, attr_told, attr_found) refl

just_so : (l : Label) → label_by (words (text_of_label l)) ≡ Some l → label_in (text_of_label l) ≡ Some l
just_so l found =
    ap (option_and_then (λ k. if_holds (bytes_eq (text_of_label k) (text_of_label l)) k)) found
    ∙ ap (λ b. if_holds b l) ((bytes_eq-Decides (text_of_label l) (text_of_label l)).1 refl)

read_label : (tree : Tree) (attr : Attr) → LabelFits (label_of tree attr) → label_in (text_of_label (label_of tree attr)) ≡ Some (label_of tree attr)
read_label Root attr h = ap (λ a. Some (label_of Root a)) (sym (h.root refl))
read_label (Product term level mask) attr h = just_so _ (found_by_words (Product term level mask) attr (reads_tree _ (λ e. cc) h.tree) (reads_attr attr h.attr))
read_label (Reduced term gone prune depth) attr h = just_so _ (found_by_words (Reduced term gone prune depth) attr (reads_tree _ (λ e. cc) h.tree) (reads_attr attr h.attr))
read_label (Joined last depth) attr h = just_so _ (found_by_words (Joined last depth) attr (reads_tree _ (λ e. cc) h.tree) (reads_attr attr h.attr))
read_label (Beside last side depth) attr h = just_so _ (found_by_words (Beside last side depth) attr (reads_tree _ (λ e. cc) h.tree) (reads_attr attr h.attr))
read_label (Across upto term depth) attr h = just_so _ (found_by_words (Across upto term depth) attr (reads_tree _ (λ e. cc) h.tree) (reads_attr attr h.attr))
read_label (Under term level mask) attr h = just_so _ (found_by_words (Under term level mask) attr (reads_tree _ (λ e. cc) h.tree) (reads_attr attr h.attr))
read_label (UnderReduced term gone depth) attr h = just_so _ (found_by_words (UnderReduced term gone depth) attr (reads_tree _ (λ e. cc) h.tree) (reads_attr attr h.attr))
read_label (UnderJoined last prune depth) attr h = just_so _ (found_by_words (UnderJoined last prune depth) attr (reads_tree _ (λ e. cc) h.tree) (reads_attr attr h.attr))

pub labels_are_read : LabelsAreRead
labels_are_read l h = read_label l.tree l.attr h

tested : (text : List ℕ) (k l : Label) (b : Bool) → bytes_eq (text_of_label k) text ≡ b → if_holds b k ≡ Some l → text_of_label l ≡ text
tested text k l true same found = let is : k ≡ l = cc in ap text_of_label (sym is) ∙ (bytes_eq-Decides (text_of_label k) text).0 same
tested text k l false same found = cc

spelled_by : (text : List ℕ) (l : Label) (o : Option Label) → option_and_then (λ k. if_holds (bytes_eq (text_of_label k) text) k) o ≡ Some l → text_of_label l ≡ text
spelled_by text l None found = cc
spelled_by text l (Some k) found = tested text k l (bytes_eq (text_of_label k) text) refl found

pub labels_are_spelled : LabelsAreSpelled
labels_are_spelled text l found = spelled_by text l (label_by (words text)) found
