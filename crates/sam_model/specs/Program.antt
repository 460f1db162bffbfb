-- Which programs are accepted: those that fit together by their terms, where the terms are those that their top-level terms
-- expand to, and these fit the left side.
use Rattle.std.specs.Prelude.{Bool, true, false, ◌&&◌, List, [], ◌∷◌, length, eqb}
use Rattle.std.specs.Bool.{beq}
use Rattle.std.specs.List.{list_all}
use Rattle.sam_model.specs.declared.program.Factor.{Factor}
use Rattle.sam_model.specs.declared.program.Factor.TheVariants.{Access, Literal}
use Rattle.sam_model.specs.declared.program.Term.{Term}
use Rattle.sam_model.specs.declared.program.Program.{Program}
use Rattle.sam_model.specs.Lists.{same_list}
use Rattle.sam_model.specs.Accepted.{fits_by_terms}
use Rattle.sam_model.specs.Expressions.{expanded_tops}
use Rattle.sam_model.specs.Scopes.{top_fits}

abbrev pub same_factor : Factor → Factor → Bool
same_factor (Access m vars) (Access n others) = eqb m n && same_list vars others
same_factor (Access m vars) (Literal n) = false
same_factor (Literal m) (Access n others) = false
same_factor (Literal m) (Literal n) = eqb m n

abbrev pub same_factors : List Factor → List Factor → Bool
same_factors [] [] = true
same_factors [] (g ∷ gs) = false
same_factors (f ∷ fs) [] = false
same_factors (f ∷ fs) (g ∷ gs) = same_factor f g && same_factors fs gs

-- two terms have the same sign and the same factors
abbrev pub same_term : Term → Term → Bool
same_term t u = beq t.minus u.minus && same_factors t.factors u.factors

-- two lists of terms are equal
abbrev pub same_terms : List Term → List Term → Bool
same_terms [] [] = true
same_terms [] (u ∷ us) = false
same_terms (t ∷ ts) [] = false
same_terms (t ∷ ts) (u ∷ us) = same_term t u && same_terms ts us

-- the terms are those that the top-level terms expand to, and each of these fits the left side
abbrev pub tops_fit : Program → Bool
tops_fit p = same_terms p.terms (expanded_tops p.var_sizes p.tops) && list_all (top_fits (length p.var_sizes) p.left) p.tops

abbrev pub accepted : Program → Bool
accepted p = fits_by_terms p && tops_fit p
