-- The names of the first program of a chain that is read.
use Rattle.std.proofs.Common.{◌≡◌, ℕ, ◌+◌, List, [], ◌∷◌, ◌++◌, length, Bool, true, false, not, ◌&&◌, cond, Option, Some, None, Ok}
use Rattle.std.proofs.Common.{refl, sym, subst, ◌∙◌, inl, inr, slice_get}
use Rattle.std.specs.Option.{IfSome}
use Rattle.std.proofs.lemmas.Option.{IfSome_then}
use Rattle.std.specs.List.{list_all}
use Rattle.std.proofs.lemmas.Bool.{and_parts, and_from}
use Rattle.std.proofs.lemmas.List.Folds.{list_all-append}
use Rattle.sam_text.specs.Counted.{NumberedLine, counted_lines}
use Rattle.sam_text.specs.Lines.{lines}
use Rattle.sam_text.specs.Words.{words}
use Rattle.sam_text.specs.Names.{is_name}
use Rattle.sam_model.specs.declared.tensors.Tensor.{Tensor}
use Rattle.sam_model.specs.declared.program.Chain.{Chain}
use Rattle.sam_model.specs.Accepted.{is_dimension, is_taken}
use Rattle.program_file.specs.Keywords.{tensor_word, result_word, starts, others}
use Rattle.program_file.specs.Declarations.{is_shape, is_printable, tensor_with, scalar, tensor_of, result_of, declared}
use Rattle.program_file.specs.Files.{result_declared, declarations_in}
use Rattle.program_file.specs.Chains.{chain_reading}
use Rattle.program_file.proofs.DeclaredLemmas.{then-ok, if-ok, ok-same, no_refusal}
use Rattle.program_file.proofs.StepLemmas.{chain-begins}
use Rattle.inputs.specs.Programs.{HasNames}

-- ---- a declaration

named-if : (b : Bool) (x t : Tensor) → (b ≡ true → is_name x.name ≡ true) → cond b (Some x) None ≡ Some t → is_name t.name ≡ true
named-if true x t h e = let same : x ≡ t = cc in subst (λ (y : Tensor). is_name y.name ≡ true) same (h refl)
named-if false x t h e = absurd cc

tensor-named : (ws : List (List ℕ)) (t : Tensor) → tensor_of ws ≡ Some t → is_name t.name ≡ true
tensor-named (name ∷ dims ∷ formats ∷ order ∷ file ∷ []) t e =
    named-if (is_name name && (list_all is_printable file && is_shape dims formats order)) (tensor_with name dims formats order file) t (λ h. (and_parts _ _ h).0) e
tensor-named _ t e = absurd cc

result-named : (ws : List (List ℕ)) (t : Tensor) → result_of ws ≡ Some t → is_name t.name ≡ true
result-named (name ∷ []) t e = named-if (is_name name) (scalar name) t (λ h. h) e
result-named (name ∷ dims ∷ formats ∷ order ∷ []) t e =
    named-if (is_name name && is_shape dims formats order) (tensor_with name dims formats order []) t (λ h. (and_parts _ _ h).0) e
result-named _ t e = absurd cc

declared-some : (tensors : List Tensor) (line : ℕ) (o : Option Tensor) (t : Tensor) → declared tensors line o ≡ Ok t → o ≡ Some t
declared-some tensors line None t e = absurd cc
declared-some tensors line (Some x) t e = elim (if-ok (not (list_all is_dimension x.dims)) _ _ t e) [
  | inl h ↦ absurd (no_refusal _ _ t refl h.1)
  | inr h ↦ elim (if-ok (is_taken x.name tensors) _ _ t h.1) [
    | inl k ↦ absurd (no_refusal _ _ t refl k.1)
    | inr k ↦ cc
  ]
]

some-if : (b : Bool) (o : Option Tensor) (t : Tensor) → cond b o None ≡ Some t → o ≡ Some t
some-if true o t e = e
some-if false o t e = absurd cc

declared_result-named : (tensors : List Tensor) (l : NumberedLine) (t : Tensor) → result_declared tensors l ≡ Ok t → is_name t.name ≡ true
declared_result-named tensors l t e =
    let found = cond (starts result_word (words l.text)) (result_of (others (words l.text))) None in
    let was = some-if (starts result_word (words l.text)) _ _ (declared-some tensors l.number found t e) in
    result-named (others (words l.text)) t was

-- ---- the declarations of a file

abbrev are_named : List Tensor → Bool
are_named ts = list_all (λ (t : Tensor). is_name t.name) ts

record Named (tensors : List Tensor) (result : Tensor) : Type 0 where
  each : are_named tensors ≡ true
  last : is_name result.name ≡ true

declarations-named : (past : ℕ) (tensors : List Tensor) (ls : List NumberedLine) (found : (List Tensor × (Tensor × ℕ)) × List NumberedLine) → are_named tensors ≡ true
    → declarations_in past tensors ls ≡ Ok found → Named found.0.0 found.0.1.0
declarations-named past tensors [] found h e = absurd (no_refusal _ _ found refl e)
declarations-named past tensors (l ∷ ls) found h e = elim (if-ok (starts tensor_word (words l.text)) _ _ found e) [
  | inl k ↦
      let a = then-ok (declared tensors l.number (tensor_of (others (words l.text)))) (λ t. declarations_in past (tensors ++ t ∷ []) ls) found k.1 in
      let named = tensor-named (others (words l.text)) a.value (declared-some tensors l.number (tensor_of (others (words l.text))) a.value a.was) in
      let more = list_all-append (λ (t : Tensor). is_name t.name) tensors (a.value ∷ []) ∙ and_from _ _ h (and_from _ _ named refl) in
      declarations-named past (tensors ++ a.value ∷ []) ls found more a.next
  | inr k ↦
      let a = then-ok (result_declared tensors l) (λ result. Ok ((tensors, (result, l.number)), ls)) found k.1 in
      let same : ((tensors, (a.value, l.number)), ls) ≡ found = ok-same ((tensors, (a.value, l.number)), ls) found a.next in
      let F : (List Tensor × (Tensor × ℕ)) × List NumberedLine → Type 0 = λ x. Named x.0.0 x.0.1.0 in
      subst F same (record { each = h; last = declared_result-named tensors l a.value a.was })
]

-- ---- a chain

-- the first program of a chain that is read has the names that its file declares
pub read-named : (text : List ℕ) (c : Chain) → chain_reading text ≡ Ok c → IfSome (slice_get c.steps 0) HasNames
read-named text c e =
    let b = chain-begins text c e in
    let named = declarations-named (1 + length (lines text)) [] (counted_lines 1 (lines text)) b.declared refl b.declared_in in
    IfSome_then (slice_get c.steps 0) b.first (λ p h. record {
      tensors = subst (λ ts. are_named ts ≡ true) (sym h.0) named.each;
      result = subst (λ (t : Tensor). is_name t.name ≡ true) (sym h.1) named.last;
    })
