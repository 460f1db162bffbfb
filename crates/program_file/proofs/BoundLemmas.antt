-- Variables that are bound, and their places in the loops.
use Rattle.std.proofs.Common.{◌≡◌, ℕ, zero, suc, ◌+◌, ◌<◌, ◌≤◌, List, [], ◌∷◌, ◌++◌, length, slice_index, Bool, true, false, not, ◌&&◌, ◌||◌, ◌==◌, cond, Option, Some, None, refl, sym, ap, subst, ◌∙◌, arith, ◌⊎◌, inl, inr, eqb, count_by, fold}
use Rattle.std.specs.List.{list_all, range_with_len}
use Rattle.std.specs.Str.{bytes_eq}
use Rattle.std.proofs.Math.Numerals.{one-add}
use Rattle.std.proofs.lemmas.Bool.{and_parts, and_from, or_parts, or_left, or_right, or_cases, not-true, not-false, not_from_false, eqb-true, eq-eqb, lt-ltb, both_ways, false_from_ne_true, false≢true, cond-true, cond-false, not_from_true}
use Rattle.std.proofs.lemmas.Slice.Eq.{bytes_eq-Decides}
use Rattle.std.proofs.lemmas.List.{length-map}
use mathlib.Core.List.{map}
use Rattle.sam_model.specs.declared.tensors.Tensor.{Tensor}
use Rattle.sam_model.specs.Lists.{is_in}
use Rattle.sam_model.specs.Accepted.{is_named, distinct_names, distinct, variables_fit, tensor_passes}
use Rattle.program_file.specs.declared.accesses.Variable.{Variable}
use Rattle.program_file.specs.Accesses.{is_variable, is_known, repeated_variable, differs, mismatched, with_variables, tensor_named}
use Rattle.program_file.specs.Numbers.{place_of, places, name_at, size_of, tensor_place}

pub same-name : (a b : List ℕ) → bytes_eq a b ≡ true → a ≡ b
same-name a b e = (bytes_eq-Decides a b).0 e

pub name-same : (a b : List ℕ) → a ≡ b → bytes_eq a b ≡ true
name-same a b e = (bytes_eq-Decides a b).1 e

-- each variable of an access is known, with the dimension at which it stands
abbrev pub sized : List Variable → List (List ℕ) → List ℕ → Bool
sized vars [] [] = true
sized vars [] (d ∷ dims) = false
sized vars (n ∷ names) [] = false
sized vars (n ∷ names) (d ∷ dims) = is_known n vars && (size_of vars n == d && sized vars names dims)

abbrev pub var : List ℕ → ℕ → Variable
var n d = record { name = n; size = d }

push-known : (n : List ℕ) (vars : List Variable) (v : Variable) → is_known n vars ≡ true → is_known n (vars ++ v ∷ []) ≡ true
push-known n [] v e = absurd cc
push-known n (x ∷ xs) v e = elim (or_cases (is_variable n x) (is_known n xs) e) [
  | inl h ↦ or_left _ _ h
  | inr h ↦ or_right _ _ (push-known n xs v h)
]

push-size-step : (t : Bool) (n : List ℕ) (x : Variable) (xs : List Variable) (v : Variable) → is_variable n x ≡ t → (t || is_known n xs) ≡ true → (is_known n xs ≡ true → size_of (xs ++ v ∷ []) n ≡ size_of xs n) → cond t x.size (size_of (xs ++ v ∷ []) n) ≡ cond t x.size (size_of xs n)
push-size-step true n x xs v e k h = refl
push-size-step false n x xs v e k h = h k

push-size : (n : List ℕ) (vars : List Variable) (v : Variable) → is_known n vars ≡ true → size_of (vars ++ v ∷ []) n ≡ size_of vars n
push-size n [] v e = absurd cc
push-size n (x ∷ xs) v e = push-size-step (is_variable n x) n x xs v refl e (push-size n xs v)

new-size : (n : List ℕ) (d : ℕ) (vars : List Variable) → is_known n vars ≡ false → size_of (vars ++ var n d ∷ []) n ≡ d
new-size n d [] e = cond-true (bytes_eq n n) _ _ (name-same n n refl)
new-size n d (x ∷ xs) e = let p = or_parts _ _ e in cond-false (is_variable n x) _ _ p.0 ∙ new-size n d xs p.1

new-known : (n : List ℕ) (d : ℕ) (vars : List Variable) → is_known n (vars ++ var n d ∷ []) ≡ true
new-known n d [] = or_left _ _ (name-same n n refl)
new-known n d (x ∷ xs) = or_right (is_variable n x) _ (new-known n d xs)

-- joining an access keeps what is known
joined-step : (t : Bool) (vars : List Variable) (n : List ℕ) (names : List (List ℕ)) (d : ℕ) (dims : List ℕ) (m : List ℕ) → is_known m vars ≡ true
    → ((vs : List Variable) → is_known m vs ≡ true → (is_known m (with_variables vs names dims) ≡ true) × (size_of (with_variables vs names dims) m ≡ size_of vs m))
    → (is_known m (with_variables (cond t vars (vars ++ var n d ∷ [])) names dims) ≡ true) × (size_of (with_variables (cond t vars (vars ++ var n d ∷ [])) names dims) m ≡ size_of vars m)
joined-step true vars n names d dims m k h = h vars k
joined-step false vars n names d dims m k h = let r = h (vars ++ var n d ∷ []) (push-known m vars (var n d) k) in (r.0, r.1 ∙ push-size m vars (var n d) k)

pub joined-keeps : (names : List (List ℕ)) (dims : List ℕ) (m : List ℕ) (vars : List Variable) → is_known m vars ≡ true → (is_known m (with_variables vars names dims) ≡ true) × (size_of (with_variables vars names dims) m ≡ size_of vars m)
joined-keeps [] dims m vars k = (k, refl)
joined-keeps (n ∷ names) [] m vars k = (k, refl)
joined-keeps (n ∷ names) (d ∷ dims) m vars k = joined-step (is_known n vars) vars n names d dims m k (λ vs h. joined-keeps names dims m vs h)

known-push : (m : List ℕ) (vars : List Variable) (n : List ℕ) (d : ℕ) → is_known m (vars ++ var n d ∷ []) ≡ true → (is_known m vars ≡ true) ⊎ (bytes_eq m n ≡ true)
known-push m [] n d e = elim (or_cases _ _ e) [ inl h ↦ inr h | inr h ↦ absurd (false≢true h) ]
known-push m (x ∷ xs) n d e = elim (or_cases (is_variable m x) _ e) [
  | inl h ↦ inl (or_left _ _ h)
  | inr h ↦ elim (known-push m xs n d h) [ inl a ↦ inl (or_right (is_variable m x) _ a) | inr b ↦ inr b ]
]

-- what is known behind an access was known, or stands in it
from-step : (t : Bool) (vars : List Variable) (n : List ℕ) (names : List (List ℕ)) (d : ℕ) (dims : List ℕ) (m : List ℕ)
    → ((vs : List Variable) → is_known m (with_variables vs names dims) ≡ true → (is_known m vs ≡ true) ⊎ (is_named m names ≡ true))
    → is_known m (with_variables (cond t vars (vars ++ var n d ∷ [])) names dims) ≡ true → (is_known m vars ≡ true) ⊎ ((bytes_eq m n || is_named m names) ≡ true)
from-step true vars n names d dims m h k = elim (h vars k) [ inl a ↦ inl a | inr b ↦ inr (or_right (bytes_eq m n) _ b) ]
from-step false vars n names d dims m h k = elim (h (vars ++ var n d ∷ []) k) [
  | inl a ↦ elim (known-push m vars n d a) [ inl b ↦ inl b | inr b ↦ inr (or_left _ _ b) ]
  | inr b ↦ inr (or_right (bytes_eq m n) _ b)
]

pub joined-from : (names : List (List ℕ)) (dims : List ℕ) (m : List ℕ) (vars : List Variable) → is_known m (with_variables vars names dims) ≡ true → (is_known m vars ≡ true) ⊎ (is_named m names ≡ true)
joined-from [] dims m vars k = inl k
joined-from (n ∷ names) [] m vars k = inl k
joined-from (n ∷ names) (d ∷ dims) m vars k = from-step (is_known n vars) vars n names d dims m (λ vs h. joined-from names dims m vs h) k

-- a variable at its first dimension
differs-step : (t : Bool) (n : List ℕ) (d : ℕ) (x : Variable) (xs : List Variable) → cond t (not (x.size == d)) (differs n d xs) ≡ false → (t || is_known n xs) ≡ true → (differs n d xs ≡ false → is_known n xs ≡ true → size_of xs n ≡ d) → cond t x.size (size_of xs n) ≡ d
differs-step true n d x xs e k h = eqb-true x.size d (not-false _ e)
differs-step false n d x xs e k h = h e k

known-size : (n : List ℕ) (d : ℕ) (vars : List Variable) → differs n d vars ≡ false → is_known n vars ≡ true → size_of vars n ≡ d
known-size n d [] e k = absurd cc
known-size n d (x ∷ xs) e k = differs-step (is_variable n x) n d x xs e k (known-size n d xs)

differs-push-step : (t : Bool) (m : List ℕ) (e : ℕ) (x : Variable) (xs : List Variable) (v : Variable) → differs m e (xs ++ v ∷ []) ≡ differs m e xs → cond t (not (x.size == e)) (differs m e (xs ++ v ∷ [])) ≡ cond t (not (x.size == e)) (differs m e xs)
differs-push-step true m e x xs v h = refl
differs-push-step false m e x xs v h = h

differs-push : (m : List ℕ) (e : ℕ) (vars : List Variable) (n : List ℕ) (d : ℕ) → bytes_eq m n ≡ false → differs m e (vars ++ var n d ∷ []) ≡ differs m e vars
differs-push m e [] n d h = cond-false (bytes_eq m n) _ _ h
differs-push m e (x ∷ xs) n d h = differs-push-step (is_variable m x) m e x xs (var n d) (differs-push m e xs n d h)

pub other-name : (a b : List ℕ) → bytes_eq a b ≡ false → bytes_eq b a ≡ false
other-name a b h = false_from_ne_true (bytes_eq b a) (λ e. both_ways (bytes_eq a b) h (name-same a b (sym (same-name b a e))))

mismatched-push : (vars : List Variable) (n : List ℕ) (d : ℕ) (names : List (List ℕ)) (dims : List ℕ) → is_named n names ≡ false → mismatched (vars ++ var n d ∷ []) names dims ≡ mismatched vars names dims
mismatched-push vars n d [] dims h = refl
mismatched-push vars n d (m ∷ names) [] h = refl
mismatched-push vars n d (m ∷ names) (e ∷ dims) h =
    let p = or_parts _ _ h in
    ap (λ t. cond t (Some m) (mismatched (vars ++ var n d ∷ []) names dims)) (differs-push m e vars n d (other-name n m p.0)) ∙ ap (λ r. cond (differs m e vars) (Some m) r) (mismatched-push vars n d names dims p.1)

if-none : {A : Type 0} (b : Bool) (x : A) (o : Option A) → cond b (Some x) o ≡ None → (b ≡ false) × (o ≡ None)
if-none true x o e = absurd cc
if-none false x o e = (refl, e)

sized-from : (vars more : List Variable) (names : List (List ℕ)) (dims : List ℕ) (n : List ℕ) (d : ℕ) → is_known n more ≡ true → size_of more n ≡ d → sized more names dims ≡ true → sized more (n ∷ names) (d ∷ dims) ≡ true
sized-from vars more names dims n d k s h = and_from _ _ k (and_from _ _ (eq-eqb _ _ s) h)

joined-sized-step : (t : Bool) (vars : List Variable) (n : List ℕ) (names : List (List ℕ)) (d : ℕ) (dims : List ℕ) → is_known n vars ≡ t → differs n d vars ≡ false → is_named n names ≡ false → mismatched vars names dims ≡ None
    → ((vs : List Variable) → mismatched vs names dims ≡ None → sized (with_variables vs names dims) names dims ≡ true)
    → sized (with_variables (cond t vars (vars ++ var n d ∷ [])) names dims) (n ∷ names) (d ∷ dims) ≡ true
joined-sized-step true vars n names d dims k same alone rest h =
    let r = joined-keeps names dims n vars k in
    sized-from vars (with_variables vars names dims) names dims n d r.0 (r.1 ∙ known-size n d vars same k) (h vars rest)
joined-sized-step false vars n names d dims k same alone rest h =
    let r = joined-keeps names dims n (vars ++ var n d ∷ []) (new-known n d vars) in
    sized-from vars (with_variables (vars ++ var n d ∷ []) names dims) names dims n d r.0 (r.1 ∙ new-size n d vars k) (h (vars ++ var n d ∷ []) (mismatched-push vars n d names dims alone ∙ rest))

pub joined-sized : (names : List (List ℕ)) (dims : List ℕ) (vars : List Variable) → length names ≡ length dims → repeated_variable names ≡ None → mismatched vars names dims ≡ None → sized (with_variables vars names dims) names dims ≡ true
joined-sized [] [] vars e r m = refl
joined-sized [] (d ∷ dims) vars e r m = absurd (omega (arith, e))
joined-sized (n ∷ names) [] vars e r m = absurd (omega (arith, e))
joined-sized (n ∷ names) (d ∷ dims) vars e r m =
    let p = if-none (is_named n names) n (repeated_variable names) r in
    let q = if-none (differs n d vars) n (mismatched vars names dims) m in
    joined-sized-step (is_known n vars) vars n names d dims refl q.0 p.0 q.1 (λ vs h. joined-sized names dims vs (omega (arith, e)) p.1 h)

pub repeated-distinct : (names : List (List ℕ)) → repeated_variable names ≡ None → distinct_names names ≡ true
repeated-distinct [] e = refl
repeated-distinct (n ∷ names) e = let p = if-none (is_named n names) n (repeated_variable names) e in and_from _ _ (not_from_false _ p.0) (repeated-distinct names p.1)

pub sized-more : (vars more : List Variable) → ((n : List ℕ) → is_known n vars ≡ true → (is_known n more ≡ true) × (size_of more n ≡ size_of vars n)) → (names : List (List ℕ)) (dims : List ℕ) → sized vars names dims ≡ true → sized more names dims ≡ true
sized-more vars more h [] [] e = refl
sized-more vars more h [] (d ∷ dims) e = absurd cc
sized-more vars more h (n ∷ names) [] e = absurd cc
sized-more vars more h (n ∷ names) (d ∷ dims) e =
    let p = and_parts _ _ e in
    let q = and_parts _ _ p.1 in
    let r = h n p.0 in
    and_from _ _ r.0 (and_from _ _ (eq-eqb _ _ (r.1 ∙ eqb-true _ _ q.0)) (sized-more vars more h names dims q.1))

-- a name that is in the loops stands at its place
item-step : (t : Bool) (g : List ℕ → ℕ) (n x : List ℕ) (xs : List (List ℕ)) (k : ℕ) → bytes_eq n x ≡ t → (t || is_named n xs) ≡ true → (is_named n xs ≡ true → (k < length xs) × (slice_index (map g xs) k ≡ g n)) → (cond (not t) (1 + k) 0 < length (x ∷ xs)) × (slice_index (map g (x ∷ xs)) (cond (not t) (1 + k) 0) ≡ g n)
item-step true g n x xs k e h r = (omega arith, ap g (sym (same-name n x e)))
item-step false g n x xs k e h r = let p = r h in (omega (arith, p.0), ap (λ i. slice_index (g x ∷ map g xs) i) (one-add k) ∙ p.1)

pub place-item : (g : List ℕ → ℕ) (n : List ℕ) (loops : List (List ℕ)) → is_named n loops ≡ true → (place_of loops n < length loops) × (slice_index (map g loops) (place_of loops n) ≡ g n)
place-item g n [] e = absurd cc
place-item g n (x ∷ xs) e = item-step (bytes_eq n x) g n x xs (place_of xs n) refl e (place-item g n xs)

place-apart-step : (t u : Bool) (n m x : List ℕ) (xs : List (List ℕ)) (j k : ℕ) → bytes_eq n x ≡ t → bytes_eq m x ≡ u → (t || is_named n xs) ≡ true → cond (not t) (1 + j) 0 ≡ cond (not u) (1 + k) 0 → (is_named n xs ≡ true → j ≡ k → n ≡ m) → n ≡ m
place-apart-step true true n m x xs j k a b h e r = same-name n x a ∙ sym (same-name m x b)
place-apart-step true false n m x xs j k a b h e r = absurd (omega (arith, e))
place-apart-step false true n m x xs j k a b h e r = absurd (omega (arith, e))
place-apart-step false false n m x xs j k a b h e r = r h (omega (arith, e))

pub place-apart : (n m : List ℕ) (loops : List (List ℕ)) → is_named n loops ≡ true → place_of loops n ≡ place_of loops m → n ≡ m
place-apart n m [] h e = absurd cc
place-apart n m (x ∷ xs) h e = place-apart-step (bytes_eq n x) (bytes_eq m x) n m x xs (place_of xs n) (place_of xs m) refl refl h e (place-apart n m xs)

pub named-in : (loops : List (List ℕ)) (v : List ℕ) (names : List (List ℕ)) → is_named v names ≡ true → is_in (place_of loops v) (places loops names) ≡ true
named-in loops v [] e = absurd cc
named-in loops v (n ∷ names) e = elim (or_cases (bytes_eq v n) (is_named v names) e) [
  | inl h ↦ or_left _ _ (eq-eqb _ _ (ap (λ w. place_of loops w) (same-name v n h)))
  | inr h ↦ or_right (eqb (place_of loops v) (place_of loops n)) _ (named-in loops v names h)
]

pub in-named : (loops : List (List ℕ)) (v : List ℕ) (names : List (List ℕ)) → is_named v loops ≡ true → is_in (place_of loops v) (places loops names) ≡ true → is_named v names ≡ true
in-named loops v [] k e = absurd cc
in-named loops v (n ∷ names) k e = elim (or_cases (eqb (place_of loops v) (place_of loops n)) _ e) [
  | inl h ↦ or_left _ _ (name-same v n (place-apart v n loops k (eqb-true _ _ h)))
  | inr h ↦ or_right (bytes_eq v n) _ (in-named loops v names k h)
]

pub distinct-places : (loops : List (List ℕ)) (names : List (List ℕ)) → list_all (λ n. is_named n loops) names ≡ true → distinct_names names ≡ true → distinct (places loops names) ≡ true
distinct-places loops [] k e = refl
distinct-places loops (n ∷ names) k e =
    let p = and_parts _ _ e in
    let q = and_parts _ _ k in
    and_from _ _ (not_from_false _ (false_from_ne_true _ (λ h. both_ways (is_named n names) (not-true _ p.0) (in-named loops n names q.0 h)))) (distinct-places loops names q.1 p.1)

-- variables at their sizes fit the dimensions
pub places-fit : (vars : List Variable) (loops : List (List ℕ)) → ((n : List ℕ) → is_known n vars ≡ true → is_named n loops ≡ true) → (names : List (List ℕ)) (dims : List ℕ) → sized vars names dims ≡ true → variables_fit (map (size_of vars) loops) dims (places loops names) ≡ true
places-fit vars loops h [] [] e = refl
places-fit vars loops h [] (d ∷ dims) e = absurd cc
places-fit vars loops h (n ∷ names) [] e = absurd cc
places-fit vars loops h (n ∷ names) (d ∷ dims) e =
    let p = and_parts _ _ e in
    let q = and_parts _ _ p.1 in
    let r = place-item (size_of vars) n loops (h n p.0) in
    and_from _ _ (lt-ltb _ _ (subst (λ k. place_of loops n < k) (sym (length-map loops (size_of vars))) r.0)) (and_from _ _ (eq-eqb _ _ (r.1 ∙ eqb-true _ _ q.0)) (places-fit vars loops h names dims q.1))

pub sized-named : (vars : List Variable) (loops : List (List ℕ)) → ((n : List ℕ) → is_known n vars ≡ true → is_named n loops ≡ true) → (names : List (List ℕ)) (dims : List ℕ) → sized vars names dims ≡ true → list_all (λ n. is_named n loops) names ≡ true
sized-named vars loops h [] [] e = refl
sized-named vars loops h [] (d ∷ dims) e = absurd cc
sized-named vars loops h (n ∷ names) [] e = absurd cc
sized-named vars loops h (n ∷ names) (d ∷ dims) e = let p = and_parts _ _ e in and_from _ _ (h n p.0) (sized-named vars loops h names dims (and_parts _ _ p.1).1)

-- a tensor that is named is the one of its number
passes-step : (u : Bool) (test : Tensor → Bool) (name : List ℕ) (x t : Tensor) (ts : List Tensor) (k : ℕ) → cond u (Some x) (tensor_named name ts) ≡ Some t → (tensor_named name ts ≡ Some t → (k < length ts) × (tensor_passes test ts k ≡ test t)) → (cond (not u) (1 + k) 0 < length (x ∷ ts)) × (tensor_passes test (x ∷ ts) (cond (not u) (1 + k) 0) ≡ test t)
passes-step true test name x t ts k e h = let same : x ≡ t = cc in (omega arith, ap test same)
passes-step false test name x t ts k e h = let p = h e in (omega (arith, p.0), ap (λ i. tensor_passes test (x ∷ ts) i) (one-add k) ∙ p.1)

pub named-passes : (test : Tensor → Bool) (name : List ℕ) (ts : List Tensor) (t : Tensor) → tensor_named name ts ≡ Some t → (tensor_place ts name < length ts) × (tensor_passes test ts (tensor_place ts name) ≡ test t)
named-passes test name [] t e = absurd cc
named-passes test name (x ∷ ts) t e = passes-step (bytes_eq name x.name) test name x t ts (tensor_place ts name) e (named-passes test name ts t)

-- the loop at a place stands there first
own-step : (t : Bool) (x n : List ℕ) (xs : List (List ℕ)) (k j : ℕ) → bytes_eq n x ≡ t → is_named x xs ≡ false → is_named n xs ≡ true → j ≡ k → cond (not t) (1 + j) 0 ≡ suc k
own-step true x n xs k j e alone h same = absurd (both_ways (is_named x xs) alone (subst (λ m. is_named m xs ≡ true) (same-name n x e) h))
own-step false x n xs k j e alone h same = omega (arith, same)

pub name-named : (loops : List (List ℕ)) (k : ℕ) → k < length loops → is_named (name_at loops k) loops ≡ true
name-named [] k h = absurd (omega (arith, h))
name-named (x ∷ xs) zero h = or_left _ _ (name-same x x refl)
name-named (x ∷ xs) (suc k) h = or_right (bytes_eq (name_at xs k) x) _ (name-named xs k (omega (arith, h)))

pub own-place : (loops : List (List ℕ)) (k : ℕ) → distinct_names loops ≡ true → k < length loops → place_of loops (name_at loops k) ≡ k
own-place [] k d h = absurd (omega (arith, h))
own-place (x ∷ xs) zero d h = cond-false (not (bytes_eq x x)) _ _ (not_from_true _ (name-same x x refl))
own-place (x ∷ xs) (suc k) d h =
    let p = and_parts _ _ d in
    let less : k < length xs = omega (arith, h) in
    own-step (bytes_eq (name_at xs k) x) x (name_at xs k) xs k (place_of xs (name_at xs k)) refl (not-true _ p.0) (name-named xs k less) (own-place xs k p.1 less)

-- a test on all loops holds at each
pub all-at : (p : List ℕ → Bool) (loops : List (List ℕ)) (k : ℕ) → list_all p loops ≡ true → k < length loops → p (name_at loops k) ≡ true
all-at p [] k e h = absurd (omega (arith, h))
all-at p (x ∷ xs) zero e h = (and_parts _ _ e).0
all-at p (x ∷ xs) (suc k) e h = all-at p xs k (and_parts _ _ e).1 (omega (arith, h))

pub all-range : (p : ℕ → Bool) (a n : ℕ) → ((k : ℕ) → a ≤ k → k < a + n → p k ≡ true) → list_all p (range_with_len a n) ≡ true
all-range p a zero h = refl
all-range p a (suc n) h = and_from _ _ (h a (omega arith) (omega arith)) (all-range p (a + 1) n (λ k low high. h k (omega arith) (omega arith)))

-- what is known is in the loops
pub known-named : (vars : List Variable) (loops : List (List ℕ)) → list_all (λ v. is_named v.name loops) vars ≡ true → (n : List ℕ) → is_known n vars ≡ true → is_named n loops ≡ true
known-named [] loops e n k = absurd cc
known-named (v ∷ vars) loops e n k =
    let p = and_parts _ _ e in
    elim (or_cases (is_variable n v) (is_known n vars) k) [
      | inl h ↦ subst (λ m. is_named m loops ≡ true) (sym (same-name n v.name h)) p.0
      | inr h ↦ known-named vars loops p.1 n h
    ]

count-from : (p : ℕ → Bool) (f : List ℕ → ℕ) (names : List (List ℕ)) (a : ℕ) → fold (λ s x. s + cond (p x) 1 0) a (map f names) ≡ fold (λ s x. s + cond (p (f x)) 1 0) a names
count-from p f [] a = refl
count-from p f (n ∷ names) a = count-from p f names (a + cond (p (f n)) 1 0)

pub count-map : (p : ℕ → Bool) (f : List ℕ → ℕ) (names : List (List ℕ)) → count_by p (map f names) ≡ count_by (λ n. p (f n)) names
count-map p f names = count-from p f names 0
