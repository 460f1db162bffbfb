-- A set of names with one more.
use Rattle.std.proofs.Common.{◌≡◌, ℕ, List, [], ◌∷◌, ◌++◌, Bool, true, false, not, ◌||◌, refl, sym, ap, ◌∙◌, MatchBool}
use Rattle.std.specs.List.{list_any}
use Rattle.std.specs.List.Sorted.{IsPermutation}
use Rattle.std.specs.Str.{bytes_eq}
use Rattle.std.proofs.lemmas.List.Sorted.{list_any-IsPermutation}
use Rattle.std.proofs.lemmas.Slice.Eq.{bytes_eq-Decides}
use Rattle.std.proofs.lemmas.Bool.{not-false}
use Rattle.sam_model.specs.declared.tensors.Tensor.{Tensor}
use Rattle.sam_model.specs.Accepted.{is_taken}

abbrev pub among : {V : Type 0} → (V → List ℕ) → List V → List ℕ → Bool
among bytes keys n = list_any (λ v. bytes_eq n (bytes v)) keys

known-step : (t : Bool) (n name : List ℕ) (had : Bool) → bytes_eq n name ≡ t → (n ≡ name → had ≡ true) → had ≡ (t || had)
known-step true n name had e h = h ((bytes_eq-Decides n name).0 e)
known-step false n name had e h = refl

pub among-more : {V : Type 0} (bytes : V → List ℕ) (old new : List V) (key : V) (added : Bool) → added ≡ not (among bytes old (bytes key)) → MatchBool added (IsPermutation (key ∷ old) new) (new ≡ old) → (n : List ℕ) → among bytes new n ≡ (bytes_eq n (bytes key) || among bytes old n)
among-more bytes old new key true e h n = sym (list_any-IsPermutation (λ v. bytes_eq n (bytes v)) (key ∷ old) new h)
among-more bytes old new key false e h n =
    ap (λ ks. among bytes ks n) h ∙ known-step (bytes_eq n (bytes key)) n (bytes key) (among bytes old n) refl (λ same. ap (λ m. among bytes old m) same ∙ not-false _ (sym e))

swapped : (a b c : Bool) → (a || (b || c)) ≡ (b || (a || c))
swapped true true c = refl
swapped true false c = refl
swapped false true c = refl
swapped false false c = refl

taken-end : (n : List ℕ) (ts : List Tensor) (t : Tensor) → is_taken n (ts ++ t ∷ []) ≡ (bytes_eq n t.name || is_taken n ts)
taken-end n [] t = refl
taken-end n (x ∷ xs) t = ap (λ b. bytes_eq n x.name || b) (taken-end n xs t) ∙ swapped (bytes_eq n x.name) (bytes_eq n t.name) (is_taken n xs)

-- the names of the set stay those of the tensors
pub still_names : {V : Type 0} (bytes : V → List ℕ) (old new : List V) (key : V) (added : Bool) (ts : List Tensor) (t : Tensor) → added ≡ not (among bytes old (bytes key)) → MatchBool added (IsPermutation (key ∷ old) new) (new ≡ old) → bytes key ≡ t.name
    → ((n : List ℕ) → among bytes old n ≡ is_taken n ts) → (n : List ℕ) → among bytes new n ≡ is_taken n (ts ++ t ∷ [])
still_names bytes old new key added ts t e h name all n =
    among-more bytes old new key added e h n ∙ ap (λ m. bytes_eq n m || among bytes old n) name ∙ ap (λ b. bytes_eq n t.name || b) (all n) ∙ sym (taken-end n ts t)
