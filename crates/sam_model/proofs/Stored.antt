-- Stored prefixes: what is stored begins with what is stored, and what isn't stored has the value 0.
use Rattle.std.specs.Prelude.{◌≡◌, ◌≤◌, ℕ, zero, suc, ◌+◌, ◌%◌, ◌^◌, Bool, true, false, cond, ◌||◌, List, [], ◌∷◌, ◌++◌, length, take, eqb, refl}
use Rattle.std.specs.List.{list_any}
use Rattle.std.proofs.Common.{arith, sym, ap, length-append}
use Rattle.std.proofs.lemmas.Bool.{and_parts, or_parts}
use Rattle.std.proofs.lemmas.Bool.Decides.{nat_tests}
use Rattle.std.proofs.lemmas.List.{take-append-le}
use Rattle.sam_model.specs.declared.tensors.Format.{Format}
use Rattle.sam_model.specs.declared.tensors.Format.TheVariants.{Dense, Compressed}
use Rattle.sam_model.specs.Lists.{same_list, total}
use Rattle.sam_model.specs.Tensors.{Stored, compressed_until, is_stored, value_at}
use Rattle.sam_model.proofs.Lists.{list_any-mono}

-- ---- the last compressed level

least : (n k : ℕ) → n ≤ k → cond (eqb n 0) 0 (suc n) ≤ suc k
least n k h = grind (arith, nat_tests)

pub until-le : (k : ℕ) (formats : List Format) → compressed_until k formats ≤ k
until-le zero formats = omega arith
until-le (suc k) [] = omega arith
until-le (suc k) (Dense ∷ formats) = least (compressed_until k formats) k (until-le k formats)
until-le (suc k) (Compressed ∷ formats) = let h = until-le k formats in omega arith

raised : (m n : ℕ) → m ≤ n → cond (eqb m 0) 0 (suc m) ≤ cond (eqb n 0) 0 (suc n)
raised m n h = grind (arith, nat_tests)

pub until-mono : (k m : ℕ) (formats : List Format) → k ≤ m → compressed_until k formats ≤ compressed_until m formats
until-mono zero m formats h = omega arith
until-mono (suc k) zero formats h = absurd (omega (arith, h))
until-mono (suc k) (suc m) [] h = omega arith
until-mono (suc k) (suc m) (Dense ∷ formats) h =
    raised (compressed_until k formats) (compressed_until m formats) (until-mono k m formats (omega (arith, h)))
until-mono (suc k) (suc m) (Compressed ∷ formats) h = let e = until-mono k m formats (omega (arith, h)) in omega arith

-- ---- fronts that agree

pub agree : (k m : ℕ) (e p : List ℕ) → k ≤ m → same_list (take m e) (take m p) ≡ true → same_list (take k e) (take k p) ≡ true
agree zero m e p h s = refl
agree (suc k) zero e p h s = absurd (omega (arith, h))
agree (suc k) (suc m) [] [] h s = refl
agree (suc k) (suc m) [] (y ∷ p) h s = s
agree (suc k) (suc m) (x ∷ e) [] h s = s
agree (suc k) (suc m) (x ∷ e) (y ∷ p) h s =
    let r = agree k m e p (omega (arith, h)) (and_parts (eqb x y) (same_list (take m e) (take m p)) s).1 in
    rw (and_parts (eqb x y) (same_list (take m e) (take m p)) s).0 r

agree_whole : (k : ℕ) (e p : List ℕ) → same_list e p ≡ true → same_list (take k e) (take k p) ≡ true
agree_whole zero e p s = refl
agree_whole (suc k) [] [] s = refl
agree_whole (suc k) [] (y ∷ p) s = s
agree_whole (suc k) (x ∷ e) [] s = s
agree_whole (suc k) (x ∷ e) (y ∷ p) s =
    let r = agree_whole k e p (and_parts (eqb x y) (same_list e p) s).1 in
    rw (and_parts (eqb x y) (same_list e p) s).0 r

-- ---- prefixes

none_before : (m n : ℕ) → m ≤ n → eqb m 0 ≡ false → eqb n 0 ≡ false
none_before m n h e = grind (arith, nat_tests)

pub stored-begins : (a : Stored) (p q : List ℕ) → is_stored a (p ++ q) ≡ true → is_stored a p ≡ true
stored-begins a p q h =
    let m : ℕ = compressed_until (length p) a.formats in
    let n : ℕ = compressed_until (length (p ++ q)) a.formats in
    let le : m ≤ n = until-mono (length p) (length (p ++ q)) a.formats (omega (arith, length-append p q)) in
    by_case m n (eqb m 0) refl le (until-le (length p) a.formats) h
  where
    by_case : (m n : ℕ) (b : Bool) → eqb m 0 ≡ b → m ≤ n → m ≤ length p
        → (eqb n 0 || list_any (λ entry. same_list (take n entry.0) (take n (p ++ q))) a.entries) ≡ true
        → (b || list_any (λ entry. same_list (take m entry.0) (take m p)) a.entries) ≡ true
    by_case m n true e le short h = refl
    by_case m n false e le short h =
        let some : list_any (λ entry. same_list (take n entry.0) (take n (p ++ q))) a.entries ≡ true = rw (none_before m n le e) at h in
        list_any-mono (λ entry. same_list (take n entry.0) (take n (p ++ q))) (λ entry. same_list (take m entry.0) (take m p))
        (λ entry s. rw (sym (take-append-le m p q short)) (agree m n entry.0 (p ++ q) le s)) a.entries some

-- ---- values

none_there : (q : ℕ) (c : List ℕ) (entries : List (List ℕ × ℕ)) → list_any (λ entry. same_list (take q entry.0) (take q c)) entries ≡ false
    → total (λ entry. cond (same_list entry.0 c) entry.1 0) entries ≡ 0
none_there q c [] h = refl
none_there q c (e ∷ entries) h = by_case (same_list e.0 c) refl (none_there q c entries)
  where
    by_case : (b : Bool) → same_list e.0 c ≡ b
        → (list_any (λ entry. same_list (take q entry.0) (take q c)) entries ≡ false → total (λ entry. cond (same_list entry.0 c) entry.1 0) entries ≡ 0)
        → cond b e.1 0 + total (λ entry. cond (same_list entry.0 c) entry.1 0) entries ≡ 0
    by_case true s r =
        let t : same_list (take q e.0) (take q c) ≡ true = agree_whole q e.0 c s in
        let f : same_list (take q e.0) (take q c) ≡ false = (or_parts (same_list (take q e.0) (take q c)) (list_any (λ entry. same_list (take q entry.0) (take q c)) entries) h).0 in
        absurd (cc)
    by_case false s r =
        let z : total (λ entry. cond (same_list entry.0 c) entry.1 0) entries ≡ 0 = r ((or_parts (same_list (take q e.0) (take q c)) (list_any (λ entry. same_list (take q entry.0) (take q c)) entries) h).1) in
        omega (arith, z)

pub value-unstored : (a : Stored) (c : List ℕ) → is_stored a c ≡ false → value_at a c ≡ 0
value-unstored a c h = by_case (compressed_until (length c) a.formats) (eqb (compressed_until (length c) a.formats) 0) refl h
  where
    by_case : (q : ℕ) (b : Bool) → eqb q 0 ≡ b → (b || list_any (λ entry. same_list (take q entry.0) (take q c)) a.entries) ≡ false → value_at a c ≡ 0
    by_case q true e h = absurd (cc)
    by_case q false e h = ap (λ (n : ℕ). n % 2 ^ 64) (none_there q c a.entries h)
