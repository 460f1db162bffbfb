-- A draft by its terms, one by one.
use Rattle.std.specs.Prelude.{◌≡◌, ◌<◌, ℕ, ◌+◌, true, List, [], ◌∷◌, length, drop, get_or, slice_get, Some, refl}
use Rattle.std.proofs.Common.{ap, add-one, drop-cons}
use Rattle.std.proofs.lemmas.Option.{slice_get_within, get_or_from_slice_get}
use Rattle.sam_model.specs.declared.program.Term.{Term}
use Rattle.sam_model.specs.declared.program.Program.{Program}
use Rattle.stream_model.specs.declared.labels.Tree.{Tree}
use Rattle.stream_model.specs.declared.labels.Tree.TheVariants.{Joined}
use Rattle.label_rules.specs.Plans.{plan_of}
use Rattle.custard_lower.specs.Reductions.{Levels}
use Rattle.custard_lower.specs.Lowering.{root, term_levels, with_writers, first_level_tree, with_term, with_terms, draft_of, program_draft}

-- the terms from number n on are it and those after it
pub terms_further : (p : Program) (ts : List Term) (n : ℕ) (t : Term) (tree : Tree) (l : Levels) → slice_get ts n ≡ Some t
    → with_terms p n tree l (drop n ts) ≡ with_terms p (n + 1) (Joined n 1) (with_term p n tree l t) (drop (n + 1) ts)
terms_further p ts n t tree l e =
    let within : n < length ts = slice_get_within ts n t e in
    let item : get_or ts n t ≡ t = get_or_from_slice_get ts n t t e in
    rw (add-one n, drop-cons ts n t, item) refl

first_drafted : (p : Program) (ts : List Term) (t : Term) → slice_get ts 0 ≡ Some t
    → draft_of p ts
    ≡ with_writers (with_terms p 1 (first_level_tree 0 (plan_of p true t)) (term_levels 0 (plan_of p true t) (root ∷ [])) (drop 1 ts))
first_drafted p [] t e = absurd (cc)
first_drafted p (u ∷ ts) t e =
    let same : u ≡ t = cc in
    ap (λ v. with_writers (with_terms p 1 (first_level_tree 0 (plan_of p true v)) (term_levels 0 (plan_of p true v) (root ∷ [])) ts)) same

-- the draft of a program by its first term and the others
pub drafted : (p : Program) (t : Term) → slice_get p.terms 0 ≡ Some t
    → program_draft p
    ≡ with_writers (with_terms p 1 (first_level_tree 0 (plan_of p true t)) (term_levels 0 (plan_of p true t) (root ∷ []))
    (drop 1 p.terms))
drafted p t e = first_drafted p p.terms t e
