-- Lists of labels that may stand at ports.
use Rattle.std.specs.Prelude.{◌≡◌, ◌<◌, ℕ, Bool, true, false, cond, ◌&&◌, ◌||◌, List, [], ◌∷◌, ◌++◌, length, eqb, refl}
use Rattle.std.specs.List.{list_any, filter}
use mathlib.Core.List.{map}
use Rattle.std.proofs.Common.{arith, ◌∙◌, ap}
use Rattle.std.proofs.lemmas.Bool.Decides.{nat_tests}
use Rattle.std.proofs.lemmas.List.Folds.{list_any-append}
use Rattle.stream_model.specs.declared.labels.Label.{Label}
use Rattle.label_rules.specs.Labels.{same_label, ports_allow, port_label}

and-false : (b : Bool) → false ≡ (b && false)
and-false true = refl
and-false false = refl

or-false : (b : Bool) → (b || false) ≡ b
or-false true = refl
or-false false = refl

and-true : (b : Bool) → b ≡ (b && true)
and-true true = refl
and-true false = refl

more-than : (n k : ℕ) → k < n → eqb n k ≡ false
more-than n k l = grind (arith, nat_tests, l)

-- two ports, and three
pub two-ports : (a b : List Label) (ls : List Label)
    → (eqb (length ls) 2 && (list_any (same_label (port_label ls 0)) a && list_any (same_label (port_label ls 1)) b))
    ≡ ports_allow (a ∷ b ∷ []) ls
two-ports a b [] = refl
two-ports a b (l ∷ []) = and-false (list_any (same_label l) a)
two-ports a b (l ∷ k ∷ []) = ap (λ (x : Bool). list_any (same_label l) a && x) (and-true (list_any (same_label k) b))
two-ports a b (l ∷ k ∷ m ∷ ls) =
    let e : eqb (length (l ∷ k ∷ m ∷ ls)) 2 ≡ false = more-than (length (l ∷ k ∷ m ∷ ls)) 2 (omega arith) in
    ap (λ (x : Bool). x && (list_any (same_label l) a && list_any (same_label k) b)) e
    ∙ and-false (list_any (same_label l) a)
    ∙ ap (λ (x : Bool). list_any (same_label l) a && x) (and-false (list_any (same_label k) b))

pub two-ports-at : (a b : List Label) (ls : List Label) (x y : Label) → x ≡ port_label ls 0 → y ≡ port_label ls 1
    → (eqb (length ls) 2 && (list_any (same_label x) a && list_any (same_label y) b)) ≡ ports_allow (a ∷ b ∷ []) ls
two-ports-at a b ls x y e f =
    ap (λ (l : Label). eqb (length ls) 2 && (list_any (same_label l) a && list_any (same_label y) b)) e
    ∙ ap (λ (l : Label). eqb (length ls) 2 && (list_any (same_label (port_label ls 0)) a && list_any (same_label l) b)) f
    ∙ two-ports a b ls

pub three-ports : (a b c : List Label) (ls : List Label)
    → (eqb (length ls) 3 && (list_any (same_label (port_label ls 0)) a && (list_any (same_label (port_label ls 1)) b && list_any (same_label (port_label ls 2)) c)))
    ≡ ports_allow (a ∷ b ∷ c ∷ []) ls
three-ports a b c [] = refl
three-ports a b c (l ∷ []) = and-false (list_any (same_label l) a)
three-ports a b c (l ∷ k ∷ []) =
    and-false (list_any (same_label l) a) ∙ ap (λ (x : Bool). list_any (same_label l) a && x) (and-false (list_any (same_label k) b))
three-ports a b c (l ∷ k ∷ m ∷ []) =
    ap (λ (x : Bool). list_any (same_label l) a && (list_any (same_label k) b && x)) (and-true (list_any (same_label m) c))
three-ports a b c (l ∷ k ∷ m ∷ n ∷ ls) =
    let e : eqb (length (l ∷ k ∷ m ∷ n ∷ ls)) 3 ≡ false = more-than (length (l ∷ k ∷ m ∷ n ∷ ls)) 3 (omega arith) in
    ap (λ (x : Bool). x && (list_any (same_label l) a && (list_any (same_label k) b && list_any (same_label m) c))) e
    ∙ and-false (list_any (same_label l) a)
    ∙ ap (λ (x : Bool). list_any (same_label l) a && x) (and-false (list_any (same_label k) b))
    ∙ ap (λ (x : Bool). list_any (same_label l) a && (list_any (same_label k) b && x)) (and-false (list_any (same_label m) c))

any-filtered : (q : ℕ → Bool) (f : ℕ → Label) (l : Label) (xs : List ℕ)
    → list_any (same_label l) (map f (filter q xs)) ≡ list_any (λ h. q h && same_label l (f h)) xs
any-filtered q f l [] = refl
any-filtered q f l (x ∷ xs) = by_case (q x) (any-filtered q f l xs)
  where
    by_case : (b : Bool) → list_any (same_label l) (map f (filter q xs)) ≡ list_any (λ h. q h && same_label l (f h)) xs
        → list_any (same_label l) (map f (cond b (x ∷ filter q xs) (filter q xs)))
        ≡ ((b && same_label l (f x)) || list_any (λ h. q h && same_label l (f h)) xs)
    by_case true e = ap (λ (y : Bool). same_label l (f x) || y) e
    by_case false e = e

any-one : (l x : Label) (c : Bool) → list_any (same_label l) (cond c (x ∷ []) []) ≡ (c && same_label l x)
any-one l x true = or-false (same_label l x)
any-one l x false = refl

-- one of those that pass, or one more
pub any-passing : (q : ℕ → Bool) (f : ℕ → Label) (l x : Label) (c : Bool) (xs : List ℕ)
    → list_any (same_label l) (map f (filter q xs) ++ cond c (x ∷ []) [])
    ≡ (list_any (λ h. q h && same_label l (f h)) xs || (c && same_label l x))
any-passing q f l x c xs =
    list_any-append (same_label l) (map f (filter q xs)) (cond c (x ∷ []) [])
    ∙ rw (any-filtered q f l xs, any-one l x c) refl
