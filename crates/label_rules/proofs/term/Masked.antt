-- The accesses of a program's term say of every loop whether they have it.
use Rattle.std.specs.Prelude.{◌≡◌, ◌<◌, ℕ, zero, suc, Bool, List, [], ◌∷◌, length, slice_index}
use Rattle.std.proofs.Common.{arith, sym, ◌∙◌}
use Rattle.std.proofs.lemmas.List.{length-map}
use Rattle.sam_model.specs.declared.tensors.Entries.{Entries}
use Rattle.sam_model.specs.declared.program.Factor.{Factor}
use Rattle.sam_model.specs.declared.program.Factor.TheVariants.{Access, Literal}
use Rattle.sam_model.specs.declared.program.Program.{Program}
use Rattle.sam_model.specs.declared.program.Term.{Term}
use Rattle.sam_model.specs.Lists.{is_in}
use Rattle.sam_model.specs.Tensors.{Stored}
use Rattle.sam_model.specs.Denote.{loops_of, stored_of}
use Rattle.stream_model.specs.Terms.{operands_of, access_at, term_data}
use Rattle.label_rules.proofs.laws.ProductTrees.{AllMasked}

masked : (stored : List Stored) (loops : List ℕ) (factors : List Factor) (f : ℕ) → f < length (operands_of stored loops factors)
    → length (access_at (operands_of stored loops factors) f).has ≡ length loops
masked stored loops [] f h = absurd (omega (arith, h))
masked stored loops (Access n vars ∷ factors) zero h = length-map loops (λ v. is_in v vars)
masked stored loops (Access n vars ∷ factors) (suc f) h = masked stored loops factors f (omega (arith, h))
masked stored loops (Literal n ∷ factors) f h = masked stored loops factors f h

-- a term's accesses have a mask over all of its loops
pub term-masked : (p : Program) (es : List Entries) (first : Bool) (t : Term) → AllMasked (term_data p es first t)
term-masked p es first t f h =
    masked (stored_of p.tensors es) (loops_of p t) t.factors f h
    ∙ sym (length-map (loops_of p t) (λ v. (slice_index p.var_sizes v, is_in v p.left)))
