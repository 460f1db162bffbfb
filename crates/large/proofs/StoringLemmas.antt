-- Tensors stored one by one.
use Rattle.std.proofs.Common.{◌≡◌, ◌∙◌, ◌+◌, ◌≤◌, ℕ, zero, suc, add-one, ap, List, [], ◌∷◌, ◌++◌, length, take, slice_get, Some, arith}
use Rattle.std.proofs.lemmas.List.{take_all}
use mathlib.Core.List.{map}
use Rattle.sam_model.specs.declared.tensors.Tensor.{Tensor}
use Rattle.sam_model.specs.declared.tensors.Entries.{Entries}
use Rattle.sam_model.specs.Tensors.{stored_as}
use Rattle.sam_model.specs.Denote.{stored_of}
use Rattle.sam_model.specs.Children.{Ranked, ranked}

-- the first so many tensors as they are stored from their entries
abbrev pub stored_until : List Tensor → List Entries → ℕ → List Ranked
stored_until ts es k = map ranked (stored_of (take k ts) (take k es))

one_more : (ts : List Tensor) (es : List Entries) (k : ℕ) (t : Tensor) (e : Entries) → slice_get ts k ≡ Some t → slice_get es k ≡ Some e
    → stored_until ts es (suc k) ≡ stored_until ts es k ++ ranked (stored_as t e) ∷ []
one_more [] es k t e at here = absurd (cc)
one_more (x ∷ ts) [] k t e at here = absurd (cc)
one_more (x ∷ ts) (y ∷ es) zero t e at here =
    let tensor : x ≡ t = cc in
    let own : y ≡ e = cc in
    ap (λ (z : Tensor). ranked (stored_as z y) ∷ []) tensor ∙ ap (λ (z : Entries). ranked (stored_as t z) ∷ []) own
one_more (x ∷ ts) (y ∷ es) (suc k) t e at here = ap (λ (l : List Ranked). ranked (stored_as x y) ∷ l) (one_more ts es k t e at here)

pub stored-more : (ts : List Tensor) (es : List Entries) (k : ℕ) (t : Tensor) (e : Entries) → slice_get ts k ≡ Some t → slice_get es k ≡ Some e
    → stored_until ts es (k + 1) ≡ stored_until ts es k ++ ranked (stored_as t e) ∷ []
stored-more ts es k t e at here = ap (stored_until ts es) (add-one k) ∙ one_more ts es k t e at here

pub stored-all : (ts : List Tensor) (es : List Entries) (k : ℕ) → length es ≡ length ts → length es ≤ k
    → stored_until ts es k ≡ map ranked (stored_of ts es)
stored-all ts es k each end =
    let tensors = take_all k ts (omega (arith, each, end)) in
    let entries = take_all k es end in
    ap (λ (l : List Tensor). map ranked (stored_of l (take k es))) tensors ∙ ap (λ (l : List Entries). map ranked (stored_of ts l)) entries
