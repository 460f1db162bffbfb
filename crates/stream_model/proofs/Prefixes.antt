-- The prefixes of product trees at each access: what is asked is stored.
use Rattle.std.specs.Prelude.{◌≡◌, ◌<◌, ℕ, zero, suc, Bool, true, false, cond, not, ◌&&◌, ◌||◌, List, [], ◌∷◌, ◌++◌, length, get_or, refl}
use Rattle.std.specs.List.{list_all}
use Rattle.std.proofs.Common.{arith, sym, ◌∙◌, ap, append_assoc, append-nil}
use Rattle.std.proofs.lemmas.Bool.{and_from, and_parts}
use Rattle.sam_model.specs.Tensors.{is_stored}
use Rattle.stream_model.specs.Terms.{Operand, TermData, keep, restricted, access_at}
use Rattle.stream_model.specs.Trees.{admits, all_admit, everyone, grows, in_whole, all_stored}
use Rattle.sam_model.proofs.Lists.{and-true, same-test}
use Rattle.sam_model.proofs.Stored.{stored-begins}

-- nothing is kept of nothing
pub keep-none : (mask : List Bool) → keep mask [] ≡ []
keep-none [] = refl
keep-none (b ∷ mask) = refl

pub keep-longer : (mask : List Bool) (u : List ℕ) (c : ℕ) → keep mask (u ++ c ∷ []) ≡ keep mask u ++ cond (get_or mask (length u) false) (c ∷ []) []
keep-longer [] u c = refl
keep-longer (true ∷ mask) [] c = ap (λ (x : List ℕ). c ∷ x) (keep-none mask)
keep-longer (false ∷ mask) [] c = keep-none mask
keep-longer (true ∷ mask) (x ∷ u) c = ap (λ (y : List ℕ). x ∷ y) (keep-longer mask u c)
keep-longer (false ∷ mask) (x ∷ u) c = keep-longer mask u c

-- a loop that the access has adds its coordinate
pub restricted-has : (a : Operand) (u : List ℕ) (c : ℕ) → get_or a.has (length u) false ≡ true → restricted a (u ++ c ∷ []) ≡ restricted a u ++ c ∷ []
restricted-has a u c h = keep-longer a.has u c ∙ ap (λ b. restricted a u ++ cond b (c ∷ []) []) h

-- a loop that it lacks adds nothing
pub restricted-lacks : (a : Operand) (u : List ℕ) (c : ℕ) → get_or a.has (length u) false ≡ false → restricted a (u ++ c ∷ []) ≡ restricted a u
restricted-lacks a u c h = keep-longer a.has u c ∙ ap (λ b. restricted a u ++ cond b (c ∷ []) []) h ∙ append-nil (restricted a u)

-- after a stored prefix an access admits what is stored
pub admits-stored : (a : Operand) (u : List ℕ) (c : ℕ) → is_stored a.tensor (restricted a u) ≡ true
    → admits a u c ≡ is_stored a.tensor (restricted a (u ++ c ∷ []))
admits-stored a u c h = by_case (get_or a.has (length u) false) refl
  where
    by_case : (b : Bool) → get_or a.has (length u) false ≡ b
        → (not b || is_stored a.tensor (restricted a (u ++ c ∷ []))) ≡ is_stored a.tensor (restricted a (u ++ c ∷ []))
    by_case true e = refl
    by_case false e = sym (ap (is_stored a.tensor) (restricted-lacks a u c e) ∙ h)

pub stored-shorter : (a : Operand) (u : List ℕ) (c : ℕ) → is_stored a.tensor (restricted a (u ++ c ∷ [])) ≡ true → is_stored a.tensor (restricted a u) ≡ true
stored-shorter a u c h =
    stored-begins a.tensor (restricted a u) (cond (get_or a.has (length u) false) (c ∷ []) []) (ap (is_stored a.tensor) (sym (keep-longer a.has u c)) ∙ h)

-- ---- all accesses

abbrev stored_each : List Operand → List ℕ → Bool
stored_each accesses u = list_all (λ a. is_stored a.tensor (restricted a u)) accesses

one_more : (a : Operand) (u : List ℕ) (c : ℕ) → (admits a u c && is_stored a.tensor (restricted a u)) ≡ is_stored a.tensor (restricted a (u ++ c ∷ []))
one_more a u c =
    same-test (admits a u c && is_stored a.tensor (restricted a u)) (is_stored a.tensor (restricted a (u ++ c ∷ [])))
    (λ h. sym (admits-stored a u c (and_parts (admits a u c) (is_stored a.tensor (restricted a u)) h).1) ∙ (and_parts (admits a u c) (is_stored a.tensor (restricted a u)) h).0)
    (λ h. and_from (admits a u c) (is_stored a.tensor (restricted a u)) (admits-stored a u c (stored-shorter a u c h) ∙ h) (stored-shorter a u c h))

shuffled : (a r s t : Bool) → ((a && r) && (s && t)) ≡ ((a && s) && (r && t))
shuffled true true s t = refl
shuffled true false true t = refl
shuffled true false false t = refl
shuffled false r s t = refl

all_more : (accesses : List Operand) (u : List ℕ) (c : ℕ)
    → (all_admit (everyone accesses) accesses u c && stored_each accesses u) ≡ stored_each accesses (u ++ c ∷ [])
all_more [] u c = refl
all_more (a ∷ accesses) u c =
    shuffled (admits a u c) (all_admit (everyone accesses) accesses u c) (is_stored a.tensor (restricted a u)) (stored_each accesses u)
    ∙ ap (λ b. b && (all_admit (everyone accesses) accesses u c && stored_each accesses u)) (one_more a u c)
    ∙ ap (λ b. is_stored a.tensor (restricted a (u ++ c ∷ [])) && b) (all_more accesses u c)

turned : (a g s : Bool) → ((a && g) && s) ≡ (g && (a && s))
turned true true s = refl
turned true false s = refl
turned false true s = refl
turned false false s = refl

grown_stored : (accesses : List Operand) (u p : List ℕ)
    → (grows accesses (λ _. everyone accesses) u p && stored_each accesses u) ≡ stored_each accesses (u ++ p)
grown_stored accesses u [] = ap (stored_each accesses) (sym (append-nil u))
grown_stored accesses u (c ∷ p) =
    turned (all_admit (everyone accesses) accesses u c) (grows accesses (λ _. everyone accesses) (u ++ c ∷ []) p) (stored_each accesses u)
    ∙ ap (λ b. grows accesses (λ _. everyone accesses) (u ++ c ∷ []) p && b) (all_more accesses u c)
    ∙ grown_stored accesses (u ++ c ∷ []) p
    ∙ ap (stored_each accesses) (append_assoc u (c ∷ []) p)

at_root : (accesses : List Operand) → stored_each accesses [] ≡ true
at_root [] = refl
at_root (a ∷ accesses) = ap (λ (x : List ℕ). is_stored a.tensor x && stored_each accesses []) (keep-none a.has) ∙ at_root accesses

-- the product tree of a term has the prefixes at which all its accesses are stored
pub whole-stored : (t : TermData) (u : List ℕ) → in_whole t u ≡ all_stored t u
whole-stored t u =
    sym (and-true (in_whole t u)) ∙ ap (λ b. in_whole t u && b) (sym (at_root t.accesses)) ∙ grown_stored t.accesses [] u

list_all_at : (accesses : List Operand) (u : List ℕ) (f : ℕ) → stored_each accesses u ≡ true → f < length accesses
    → is_stored (access_at accesses f).tensor (restricted (access_at accesses f) u) ≡ true
list_all_at [] u f h k = absurd (omega (arith, k))
list_all_at (a ∷ accesses) u zero h k = (and_parts (is_stored a.tensor (restricted a u)) (stored_each accesses u) h).0
list_all_at (a ∷ accesses) u (suc f) h k =
    list_all_at accesses u f (and_parts (is_stored a.tensor (restricted a u)) (stored_each accesses u) h).1 (omega (arith, k))

-- at each prefix of the product tree each access is stored
pub access-stored : (t : TermData) (u : List ℕ) (f : ℕ) → in_whole t u ≡ true → f < length t.accesses
    → is_stored (access_at t.accesses f).tensor (restricted (access_at t.accesses f) u) ≡ true
access-stored t u f h k = list_all_at t.accesses u f (sym (whole-stored t u) ∙ h) k
