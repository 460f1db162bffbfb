-- What is known of a well formed tensor.
use Rattle.std.proofs.Common.{◌≡◌, ℕ, true, List, [], ◌∷◌, refl, leb}
use Rattle.std.specs.List.{list_all}
use Rattle.std.proofs.lemmas.Bool.{and_parts}
use Rattle.sam_base.specs.declared.TheConstants.{DIMENSION_MOST}
use Rattle.sam_model.specs.declared.tensors.Tensor.{Tensor}
use Rattle.sam_model.specs.Accepted.{is_dimension, is_well_formed}
use Rattle.sam_model.proofs.AcceptedPrograms.{well-formed}

in_range : (dims : List ℕ) → list_all is_dimension dims ≡ true → list_all (λ size. leb size DIMENSION_MOST) dims ≡ true
in_range [] all = refl
in_range (d ∷ dims) all =
    let both = and_parts (is_dimension d) (list_all is_dimension dims) all in
    rw ((and_parts (leb 1 d) (leb d DIMENSION_MOST) both.0).1, in_range dims both.1) refl

-- its dimensions are no more than a dimension may be
pub dims-fit : (t : Tensor) → is_well_formed t ≡ true → list_all (λ size. leb size DIMENSION_MOST) t.dims ≡ true
dims-fit t formed = in_range t.dims (well-formed t formed).dims
