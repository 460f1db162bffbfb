-- Masks of accesses, access by access.
use Rattle.std.specs.Prelude.{◌≡◌, ◌<◌, ℕ, zero, suc, Bool, true, false, not, ◌&&◌, ◌||◌, List, [], ◌∷◌, length, get_or, eqb, refl}
use mathlib.Core.List.{map}
use Rattle.std.proofs.Common.{arith, sym, ◌∙◌, ap}
use Rattle.std.proofs.lemmas.Bool.{and_parts}
use Rattle.std.proofs.lemmas.Bool.Decides.{nat_tests}
use Rattle.stream_model.specs.Terms.{Operand, TermData, access_at}
use Rattle.stream_model.specs.Trees.{admits, all_admit}
use Rattle.stream_model.specs.Masks.{none, only, any_of, final}
use Rattle.sam_model.proofs.Lists.{and-true, and-false, or-false}

-- ---- what a mask admits

pub all_admit-none : (n : ℕ) (accesses : List Operand) (u : List ℕ) (c : ℕ) → all_admit (none n) accesses u c ≡ true
all_admit-none zero accesses u c = refl
all_admit-none (suc n) [] u c = refl
all_admit-none (suc n) (a ∷ accesses) u c = all_admit-none n accesses u c

pub all_admit-only : (accesses : List Operand) (f : ℕ) (u : List ℕ) (c : ℕ) → f < length accesses
    → all_admit (only (length accesses) f) accesses u c ≡ admits (access_at accesses f) u c
all_admit-only [] f u c h = absurd (omega (arith, h))
all_admit-only (a ∷ accesses) zero u c h =
    ap (λ b. admits a u c && b) (all_admit-none (length accesses) accesses u c) ∙ and-true (admits a u c)
all_admit-only (a ∷ accesses) (suc f) u c h = all_admit-only accesses f u c (omega (arith, h))

pub all_admit-any_of : (m n : List Bool) (accesses : List Operand) (u : List ℕ) (c : ℕ)
    → all_admit (any_of m n) accesses u c ≡ (all_admit m accesses u c && all_admit n accesses u c)
all_admit-any_of [] n accesses u c = refl
all_admit-any_of (x ∷ m) [] accesses u c = sym (and-true (all_admit (x ∷ m) accesses u c))
all_admit-any_of (x ∷ m) (y ∷ n) [] u c = refl
all_admit-any_of (x ∷ m) (y ∷ n) (a ∷ accesses) u c =
    ap (λ b. (not (x || y) || admits a u c) && b) (all_admit-any_of m n accesses u c)
    ∙ asked x y (admits a u c) (all_admit m accesses u c) (all_admit n accesses u c)
  where
    asked : (x y b r s : Bool) → ((not (x || y) || b) && (r && s)) ≡ (((not x || b) && r) && ((not y || b) && s))
    asked true true true r s = refl
    asked true true false r s = refl
    asked true false true r s = refl
    asked true false false r s = refl
    asked false true true r s = refl
    asked false true false r s = sym (and-false r)
    asked false false true r s = refl
    asked false false false r s = refl

-- each access of the mask admits
pub all_admit-gives : (mask : List Bool) (accesses : List Operand) (u : List ℕ) (c f : ℕ) → all_admit mask accesses u c ≡ true → f < length accesses
    → get_or mask f false ≡ true → admits (access_at accesses f) u c ≡ true
all_admit-gives [] accesses u c f h k e = absurd (cc)
all_admit-gives (b ∷ mask) [] u c f h k e = absurd (omega (arith, k))
all_admit-gives (b ∷ mask) (a ∷ accesses) u c zero h k e = rw e at (and_parts (not b || admits a u c) (all_admit mask accesses u c) h).0
all_admit-gives (b ∷ mask) (a ∷ accesses) u c (suc f) h k e =
    all_admit-gives mask accesses u c f (and_parts (not b || admits a u c) (all_admit mask accesses u c) h).1 (omega (arith, k)) e

-- where each access of the mask admits, the mask does
pub all_admit-from : (mask : List Bool) (accesses : List Operand) (u : List ℕ) (c : ℕ)
    → ((f : ℕ) → f < length accesses → get_or mask f false ≡ true → admits (access_at accesses f) u c ≡ true) → all_admit mask accesses u c ≡ true
all_admit-from [] accesses u c h = refl
all_admit-from (b ∷ mask) [] u c h = refl
all_admit-from (b ∷ mask) (a ∷ accesses) u c h =
    first b (h 0 (omega arith)) (all_admit-from mask accesses u c (λ f k e. h (suc f) (omega (arith, k)) e))
  where
    first : (b : Bool) → (b ≡ true → admits a u c ≡ true) → all_admit mask accesses u c ≡ true
        → ((not b || admits a u c) && all_admit mask accesses u c) ≡ true
    first true k r = rw (k refl) r
    first false k r = r

-- ---- the bits of masks

pub length-none : (n : ℕ) → length (none n) ≡ n
length-none zero = refl
length-none (suc n) = ap suc (length-none n)

pub bit-none : (n g : ℕ) → get_or (none n) g false ≡ false
bit-none zero g = refl
bit-none (suc n) zero = refl
bit-none (suc n) (suc g) = bit-none n g

pub length-only : (n f : ℕ) → length (only n f) ≡ n
length-only zero f = refl
length-only (suc n) zero = ap suc (length-none n)
length-only (suc n) (suc f) = ap suc (length-only n f)

pub bit-only : (n f g : ℕ) → f < n → get_or (only n f) g false ≡ eqb f g
bit-only zero f g h = absurd (omega (arith, h))
bit-only (suc n) zero zero h = refl
bit-only (suc n) zero (suc g) h = bit-none n g ∙ apart g
  where
    apart : (g : ℕ) → false ≡ eqb 0 (suc g)
    apart g = grind (arith, nat_tests)
bit-only (suc n) (suc f) zero h = apart f
  where
    apart : (f : ℕ) → false ≡ eqb (suc f) 0
    apart f = grind (arith, nat_tests)
bit-only (suc n) (suc f) (suc g) h = bit-only n f g (omega (arith, h)) ∙ shifted f g
  where
    shifted : (f g : ℕ) → eqb f g ≡ eqb (suc f) (suc g)
    shifted f g = grind (arith, nat_tests)

pub length-any_of : (m n : List Bool) → length m ≡ length n → length (any_of m n) ≡ length n
length-any_of [] n h = refl
length-any_of (x ∷ m) [] h = absurd (omega (arith, h))
length-any_of (x ∷ m) (y ∷ n) h = ap suc (length-any_of m n (omega (arith, h)))

pub bit-any_of : (m n : List Bool) (g : ℕ) → get_or (any_of m n) g false ≡ (get_or m g false || get_or n g false)
bit-any_of [] n g = refl
bit-any_of (x ∷ m) [] g = sym (or-false (get_or (x ∷ m) g false))
bit-any_of (x ∷ m) (y ∷ n) zero = refl
bit-any_of (x ∷ m) (y ∷ n) (suc g) = bit-any_of m n g

-- masks of one length with equal bits
pub mask-ext : (m n : List Bool) → length m ≡ length n → ((g : ℕ) → g < length m → get_or m g false ≡ get_or n g false) → m ≡ n
mask-ext [] [] e h = refl
mask-ext [] (y ∷ n) e h = absurd (omega (arith, e))
mask-ext (x ∷ m) [] e h = absurd (omega (arith, e))
mask-ext (x ∷ m) (y ∷ n) e h =
    let here : x ≡ y = h 0 (omega arith) in
    let there : m ≡ n = mask-ext m n (omega (arith, e)) (λ g k. h (suc g) (omega (arith, k))) in
    cc

has_bits : (accesses : List Operand) (d f : ℕ) → f < length accesses → get_or (map (λ a. get_or a.has d false) accesses) f false ≡ get_or (access_at accesses f).has d false
has_bits [] d f h = absurd (omega (arith, h))
has_bits (a ∷ accesses) d zero h = refl
has_bits (a ∷ accesses) d (suc f) h = has_bits accesses d f (omega (arith, h))

has_count : (accesses : List Operand) (d : ℕ) → length (map (λ a. get_or a.has d false) accesses) ≡ length accesses
has_count [] d = refl
has_count (a ∷ accesses) d = ap suc (has_count accesses d)

-- the final mask of a level has the accesses that have its loop
pub bit-final : (t : TermData) (d f : ℕ) → f < length t.accesses → get_or (final t (suc d)) f false ≡ get_or (access_at t.accesses f).has d false
bit-final t d f h = has_bits t.accesses d f h

pub length-final : (t : TermData) (d : ℕ) → length (final t (suc d)) ≡ length t.accesses
length-final t d = has_count t.accesses d
