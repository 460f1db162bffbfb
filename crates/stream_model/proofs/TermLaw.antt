-- The value of a term without its loops that aren't on the left: the sum where some tuple is stored.
use Rattle.std.specs.Prelude.{◌≡◌, ◌≤◌, ℕ, suc, ◌*◌, ◌%◌, ◌^◌, Bool, true, false, cond, ◌&&◌, List, [], ◌∷◌, leb, Some, None, refl}
use Rattle.std.specs.List.{list_any, list_all}
use mathlib.Core.List.{map}
use Rattle.std.proofs.Common.{arith, sym, ◌∙◌, ap, mul-zero, zero-mul}
use Rattle.std.proofs.Math.Nat.{mod-mod}
use Rattle.std.proofs.lemmas.Bool.Decides.{nat_tests}
use Rattle.sam_model.specs.Lists.{total}
use Rattle.sam_model.specs.Tensors.{is_stored, value_at}
use Rattle.sam_model.specs.Denote.{Loop, fill}
use Rattle.stream_model.specs.Terms.{Operand, TermData, restricted, product_of, whole_product}
use Rattle.stream_model.specs.Trees.{in_whole, all_stored, free_count, kept_loops, value_whole, sum_there, value_term}
use Rattle.sam_model.proofs.Lists.{list_any-ext}
use Rattle.sam_model.proofs.Stored.{value-unstored}
use Rattle.stream_model.proofs.Prefixes.{whole-stored}
use Rattle.stream_model.proofs.Sums.{sum-passes}

-- ---- no loop is kept but those on the left

not_kept : (g n : ℕ) → suc n ≤ g → leb g n ≡ false
not_kept g n h = grind (arith, nat_tests)

pub kept-none : (g : ℕ) (loops : List Loop) → free_count loops ≤ g → kept_loops g loops ≡ loops
kept-none g [] h = refl
kept-none g ((s, true) ∷ loops) h = ap (λ (ls : List Loop). (s, true) ∷ ls) (kept-none g loops h)
kept-none g ((s, false) ∷ loops) h =
    let r : kept_loops g loops ≡ loops = kept-none g loops (omega (arith, h)) in
    ap (λ b. (s, b) ∷ kept_loops g loops) (not_kept g (free_count loops) h) ∙ ap (λ (ls : List Loop). (s, false) ∷ ls) r

-- ---- what isn't stored is 0

no_product : (accesses : List Operand) (u : List ℕ) → list_all (λ a. is_stored a.tensor (restricted a u)) accesses ≡ false → product_of accesses u ≡ 0
no_product [] u h = absurd (cc)
no_product (a ∷ accesses) u h = by_case (is_stored a.tensor (restricted a u)) refl h (no_product accesses u)
  where
    by_case : (b : Bool) → is_stored a.tensor (restricted a u) ≡ b
        → (b && list_all (λ a. is_stored a.tensor (restricted a u)) accesses) ≡ false
        → (list_all (λ a. is_stored a.tensor (restricted a u)) accesses ≡ false → product_of accesses u ≡ 0)
        → value_at a.tensor (restricted a u) * product_of accesses u ≡ 0
    by_case true e k r = ap (λ (n : ℕ). value_at a.tensor (restricted a u) * n) (r k) ∙ mul-zero (value_at a.tensor (restricted a u))
    by_case false e k r = ap (λ (n : ℕ). n * product_of accesses u) (value-unstored a.tensor (restricted a u) e) ∙ zero-mul (product_of accesses u)

pub whole-outside : (t : TermData) (u : List ℕ) → all_stored t u ≡ false → whole_product t u ≡ 0
whole-outside t u h =
    ap (λ (n : ℕ). (t.coefficient * n) % 2 ^ 64) (no_product t.accesses u h) ∙ ap (λ (n : ℕ). n % 2 ^ 64) (mul-zero t.coefficient)

-- ---- the law

pub term-law : (t : TermData) (x : List ℕ)
    → value_term t x ≡ cond (list_any (all_stored t) (fill t.loops x)) (Some (total (whole_product t) (fill t.loops x) % 2 ^ 64)) None
term-law t x =
    ap (λ (ls : List Loop). sum_there (map (value_whole t) (fill ls x))) (kept-none (free_count t.loops) t.loops (omega arith))
    ∙ sum-passes (in_whole t) (whole_product t) (λ u h. whole-outside t u (sym (whole-stored t u) ∙ h))
    (λ u. mod-mod (t.coefficient * product_of t.accesses u) (2 ^ 64)) (fill t.loops x)
    ∙ ap (λ b. cond b (Some (total (whole_product t) (fill t.loops x) % 2 ^ 64)) None) (list_any-ext (in_whole t) (all_stored t) (whole-stored t) (fill t.loops x))
