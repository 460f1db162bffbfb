-- The levels of a tensor under the loops of its access: lengths, sizes, and the coordinates that follow.
use Rattle.std.specs.Prelude.{◌≡◌, ◌<◌, ℕ, zero, suc, Bool, true, false, List, [], ◌∷◌, ◌++◌, length, slice_index, get_or, ltb, refl}
use Rattle.std.specs.List.{filter}
use Rattle.std.proofs.Common.{sym, ◌∙◌, ap}
use Rattle.std.proofs.lemmas.Bool.{and_parts, and_from}
use Rattle.sam_model.specs.Lists.{below, within}
use Rattle.sam_model.specs.Tensors.{is_stored}
use Rattle.sam_model.specs.Children.{next_coordinates}
use Rattle.stream_model.specs.Terms.{Operand, TermData, keep, restricted, access_at}
use Rattle.stream_model.specs.Trees.{admits, in_whole}
use Rattle.stream_model.specs.Labels.{loop_sizes}
use Rattle.stream_model.specs.Masks.{levels_before, AllFit}
use Rattle.sam_model.proofs.Lists.{filter-ext}
use Rattle.stream_model.proofs.Prefixes.{restricted-has, admits-stored, access-stored}

pub keep-length : (mask : List Bool) (u : List ℕ) → length (keep mask u) ≡ levels_before mask (length u)
keep-length [] u = refl
keep-length (b ∷ mask) [] = refl
keep-length (true ∷ mask) (c ∷ u) = ap suc (keep-length mask u)
keep-length (false ∷ mask) (c ∷ u) = keep-length mask u

-- a loop that the access has is its next level
pub keep-index : (mask : List Bool) (xs : List ℕ) (d : ℕ) → get_or mask d false ≡ true → slice_index (keep mask xs) (levels_before mask d) ≡ slice_index xs d
keep-index [] xs d h = absurd (cc)
keep-index (true ∷ mask) [] zero h = refl
keep-index (true ∷ mask) (x ∷ xs) zero h = refl
keep-index (false ∷ mask) xs zero h = absurd (cc)
keep-index (true ∷ mask) [] (suc d) h = refl
keep-index (false ∷ mask) [] (suc d) h = refl
keep-index (true ∷ mask) (x ∷ xs) (suc d) h = keep-index mask xs d h
keep-index (false ∷ mask) (x ∷ xs) (suc d) h = keep-index mask xs d h

pub keep-within : (mask : List Bool) (sizes p : List ℕ) → within sizes p ≡ true → within (keep mask sizes) (keep mask p) ≡ true
keep-within [] sizes p h = refl
keep-within (b ∷ mask) [] [] h = refl
keep-within (b ∷ mask) [] (c ∷ p) h = absurd (cc)
keep-within (b ∷ mask) (s ∷ sizes) [] h = refl
keep-within (true ∷ mask) (s ∷ sizes) (c ∷ p) h =
    let e = and_parts (ltb c s) (within sizes p) h in
    and_from (ltb c s) (within (keep mask sizes) (keep mask p)) e.0 (keep-within mask sizes p e.1)
keep-within (false ∷ mask) (s ∷ sizes) (c ∷ p) h = keep-within mask sizes p (and_parts (ltb c s) (within sizes p) h).1

-- coordinates of the loops below their sizes are below those of the tensor
pub restricted-within : (t : TermData) (f : ℕ) (p : List ℕ) → AllFit t → f < length t.accesses → within (loop_sizes t.loops) p ≡ true
    → within (access_at t.accesses f).tensor.sizes (restricted (access_at t.accesses f) p) ≡ true
restricted-within t f p fit h w =
    ap (λ (sizes : List ℕ). within sizes (restricted (access_at t.accesses f) p)) (sym (fit f h))
    ∙ keep-within (access_at t.accesses f).has (loop_sizes t.loops) p w

next_size : (a : Operand) (sizes p : List ℕ) → get_or a.has (length p) false ≡ true
    → slice_index (keep a.has sizes) (length (restricted a p)) ≡ slice_index sizes (length p)
next_size a sizes p h = ap (slice_index (keep a.has sizes)) (keep-length a.has p) ∙ keep-index a.has sizes (length p) h

-- what follows a prefix at an access's tensor is what the access admits
pub next-admitted : (t : TermData) (f : ℕ) (p : List ℕ) → AllFit t → f < length t.accesses → get_or (access_at t.accesses f).has (length p) false ≡ true
    → in_whole t p ≡ true
    → next_coordinates (access_at t.accesses f).tensor (restricted (access_at t.accesses f) p)
    ≡ filter (admits (access_at t.accesses f) p) (below (slice_index (loop_sizes t.loops) (length p)))
next-admitted t f p fit h has inside =
    ap (λ (n : ℕ). filter (λ c. is_stored a.tensor (restricted a p ++ c ∷ [])) (below n))
    (ap (λ (sizes : List ℕ). slice_index sizes (length (restricted a p))) (sym (fit f h)) ∙ next_size a (loop_sizes t.loops) p has)
    ∙ filter-ext (λ c. is_stored a.tensor (restricted a p ++ c ∷ [])) (admits a p)
    (λ c. sym (admits-stored a p c (access-stored t p f inside h) ∙ ap (is_stored a.tensor) (restricted-has a p c has)))
    (below (slice_index (loop_sizes t.loops) (length p)))
  where
    a : Operand
    a = access_at t.accesses f
