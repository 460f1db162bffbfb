-- What holds of each view, when one changes or one is added.
use Rattle.std.proofs.Common.{◌≡◌, ◌≢◌, ℕ, zero, suc, List, [], ◌∷◌, ◌++◌, set, length, sym, refl, ap, subst, ⊎_elim, ◌⊎◌, inl, inr}
use mathlib.Core.Option.{some, some-ne-none, some-injective}
use lib.ListN.{get_elem?}
use Rattle.atomic_table.proofs.Lists.{at_set}
use Rattle.ruled_wires.specs.declared.known.Known.{Known}

abbrev pub AllViews : (ℕ → Known → Type 0) → List Known → Type 0
AllViews F views = (pass : ℕ) (v : Known) → get_elem? views pass ≡ some v → F pass v

pub all-set : (F : ℕ → Known → Type 0) (views : List Known) (pass : ℕ) (w : Known) → F pass w
    → ((j : ℕ) (u : Known) → j ≢ pass → get_elem? views j ≡ some u → F j u) → AllViews F (set views pass w)
all-set F views pass w mine others j u e =
    ⊎_elim (λ (x : (j ≡ pass) × (w ≡ u)). subst (λ (y : ℕ × Known). F y.0 y.1) (λ i. (sym x.0 i, x.1 i)) mine)
    (λ (x : (j ≢ pass) × (get_elem? views j ≡ some u)). others j u x.0 x.1) (at_set views pass j w u e)

at-end : (l : List Known) (a b : Known) (j : ℕ) → get_elem? (l ++ a ∷ []) j ≡ some b → ((get_elem? l j ≡ some b) × Unit {0}) ⊎ ((a ≡ b) × (j ≡ length l))
at-end [] a b zero e = inr (some-injective a b e, refl)
at-end [] a b (suc j) e = absurd (some-ne-none b (sym e))
at-end (x ∷ xs) a b zero e = inl (e, tt)
at-end (x ∷ xs) a b (suc j) e = ⊎_elim (λ t. inl t) (λ t. inr (t.0, ap suc t.1)) (at-end xs a b j e)

pub all-snoc : (F : ℕ → Known → Type 0) (views : List Known) (w : Known) → AllViews F views → F (length views) w → AllViews F (views ++ w ∷ [])
all-snoc F views w old new j u e =
    ⊎_elim (λ (x : (get_elem? views j ≡ some u) × Unit {0}). old j u x.0)
    (λ (x : (w ≡ u) × (j ≡ length views)). subst (λ (y : ℕ × Known). F y.0 y.1) (λ i. (sym x.1 i, x.0 i)) new) (at-end views w u j e)

pub only-view : (F : ℕ → Known → Type 0) (w : Known) → F 0 w → AllViews F (w ∷ [])
only-view F w mine zero u e = subst (F 0) (some-injective w u e) mine
only-view F w mine (suc j) u e = absurd (some-ne-none u (sym e))
