-- Lists of elements by coordinate, where the element at one coordinate is changed.
use Rattle.std.proofs.Common.{◌≡◌, ℕ, ◌<◌, List, [], ◌∷◌, ltb, eqb, cond, refl, sym, ◌∙◌, ap, inl, inr, arith}
use Rattle.std.proofs.lemmas.Bool.{lt-ltb, le-ltb, eq-eqb, ne_eqb, cond-true, cond-false, cases_order}
use mathlib.Core.List.{map}
use Rattle.block_core.specs.Gather.{add_at}

-- the element at c changed by f, which gets e where there is none
abbrev pub change_at : {V : Type 0} → V → (V → V) → ℕ → List (ℕ × V) → List (ℕ × V)
change_at e f c [] = (c, f e) ∷ []
change_at e f c (p ∷ ps) = cond (ltb c p.0) ((c, f e) ∷ p ∷ ps) (cond (eqb c p.0) ((c, f p.1) ∷ ps) (p ∷ change_at e f c ps))

module _ {V : Type 0} (e : V) where
  pub change-below : (f : V → V) (c : ℕ) (p : ℕ × V) (ps : List (ℕ × V)) → c < p.0 → change_at e f c (p ∷ ps) ≡ (c, f e) ∷ p ∷ ps
  change-below f c p ps h = cond-true (ltb c p.0) _ _ (lt-ltb c p.0 h)

  pub change-here : (f : V → V) (c : ℕ) (p : ℕ × V) (ps : List (ℕ × V)) → c ≡ p.0 → change_at e f c (p ∷ ps) ≡ (c, f p.1) ∷ ps
  change-here f c p ps h =
      cond-false (ltb c p.0) _ _ (le-ltb c p.0 (omega (arith, h))) ∙ cond-true (eqb c p.0) _ _ (eq-eqb c p.0 h)

  pub change-above : (f : V → V) (c : ℕ) (p : ℕ × V) (ps : List (ℕ × V)) → p.0 < c → change_at e f c (p ∷ ps) ≡ p ∷ change_at e f c ps
  change-above f c p ps h =
      cond-false (ltb c p.0) _ _ (le-ltb c p.0 (omega (arith, h))) ∙ cond-false (eqb c p.0) _ _ (ne_eqb c p.0 (λ q. omega (arith, h, q)))

  -- a change before the others stays before them
  first-stays : (f g : V → V) (a b : ℕ) (p : ℕ × V) (ps : List (ℕ × V)) → a < p.0 → a < b
      → change_at e f a (change_at e g b (p ∷ ps)) ≡ (a, f e) ∷ change_at e g b (p ∷ ps)
  first-stays f g a b p ps h l =
      elim (cases_order b p.0) [
        | inl q ↦ ap (change_at e f a) (change-here g b p ps q) ∙ change-below f a (b, g p.1) ps l ∙ ap (λ xs. (a, f e) ∷ xs) (sym (change-here g b p ps q))
        | inr c ↦ elim c [
          | inl q ↦ ap (change_at e f a) (change-below g b p ps q) ∙ change-below f a (b, g e) (p ∷ ps) l ∙ ap (λ xs. (a, f e) ∷ xs) (sym (change-below g b p ps q))
          | inr q ↦ ap (change_at e f a) (change-above g b p ps q) ∙ change-below f a p (change_at e g b ps) h ∙ ap (λ xs. (a, f e) ∷ xs) (sym (change-above g b p ps q))
        ]
      ]

  swap-less : (f g : V → V) (a b : ℕ) (xs : List (ℕ × V)) → a < b
      → change_at e f a (change_at e g b xs) ≡ change_at e g b (change_at e f a xs)
  swap-less f g a b [] l = change-below f a (b, g e) [] l ∙ sym (change-above g b (a, f e) [] l)
  swap-less f g a b (p ∷ ps) l =
      elim (cases_order a p.0) [
        | inl q ↦
            ap (change_at e f a) (change-above g b p ps (omega (arith, l, q)))
            ∙ change-here f a p (change_at e g b ps) q
            ∙ sym (change-above g b (a, f p.1) ps l)
            ∙ ap (change_at e g b) (sym (change-here f a p ps q))
        | inr c ↦ elim c [
          | inl q ↦
              first-stays f g a b p ps q l
              ∙ sym (change-above g b (a, f e) (p ∷ ps) l)
              ∙ ap (change_at e g b) (sym (change-below f a p ps q))
          | inr q ↦
              ap (change_at e f a) (change-above g b p ps (omega (arith, l, q)))
              ∙ change-above f a p (change_at e g b ps) q
              ∙ ap (λ xs. p ∷ xs) (swap-less f g a b ps l)
              ∙ sym (change-above g b p (change_at e f a ps) (omega (arith, l, q)))
              ∙ ap (change_at e g b) (sym (change-above f a p ps q))
        ]
      ]

  -- two changes at one coordinate are one
  pub change-twice : (f g : V → V) (a : ℕ) (xs : List (ℕ × V)) → change_at e f a (change_at e g a xs) ≡ change_at e (λ r. f (g r)) a xs
  change-twice f g a [] = change-here f a (a, g e) [] refl
  change-twice f g a (p ∷ ps) =
      elim (cases_order a p.0) [
        | inl q ↦ ap (change_at e f a) (change-here g a p ps q) ∙ change-here f a (a, g p.1) ps refl ∙ sym (change-here (λ r. f (g r)) a p ps q)
        | inr c ↦ elim c [
          | inl q ↦ ap (change_at e f a) (change-below g a p ps q) ∙ change-here f a (a, g e) (p ∷ ps) refl ∙ sym (change-below (λ r. f (g r)) a p ps q)
          | inr q ↦
              ap (change_at e f a) (change-above g a p ps q)
              ∙ change-above f a p (change_at e g a ps) q
              ∙ ap (λ xs. p ∷ xs) (change-twice f g a ps)
              ∙ sym (change-above (λ r. f (g r)) a p ps q)
        ]
      ]

  -- the change by the function alone counts
  pub change-alike : (f g : V → V) (a : ℕ) (xs : List (ℕ × V)) → ((r : V) → f r ≡ g r) → change_at e f a xs ≡ change_at e g a xs
  change-alike f g a [] h = ap (λ v. (a, v) ∷ []) (h e)
  change-alike f g a (p ∷ ps) h =
      elim (cases_order a p.0) [
        | inl q ↦ change-here f a p ps q ∙ ap (λ v. (a, v) ∷ ps) (h p.1) ∙ sym (change-here g a p ps q)
        | inr c ↦ elim c [
          | inl q ↦ change-below f a p ps q ∙ ap (λ v. (a, v) ∷ p ∷ ps) (h e) ∙ sym (change-below g a p ps q)
          | inr q ↦ change-above f a p ps q ∙ ap (λ xs. p ∷ xs) (change-alike f g a ps h) ∙ sym (change-above g a p ps q)
        ]
      ]

  -- changes that pass each other at one coordinate pass each other at any
  pub change-swap : (f g : V → V) (a b : ℕ) (xs : List (ℕ × V)) → ((r : V) → f (g r) ≡ g (f r))
      → change_at e f a (change_at e g b xs) ≡ change_at e g b (change_at e f a xs)
  change-swap f g a b xs h =
      elim (cases_order a b) [
        | inl q ↦
            ap (λ n. change_at e f a (change_at e g n xs)) (sym q)
            ∙ change-twice f g a xs
            ∙ change-alike (λ r. f (g r)) (λ r. g (f r)) a xs h
            ∙ sym (change-twice g f a xs)
            ∙ ap (λ n. change_at e g n (change_at e f a xs)) q
        | inr c ↦ elim c [ inl q ↦ swap-less f g a b xs q | inr q ↦ sym (swap-less g f b a xs q) ]
      ]

  -- an addition, where adding to e gives what is added
  pub add-changes : (add : V → V → V) → ((v : V) → add v e ≡ v) → (c : ℕ) (v : V) (xs : List (ℕ × V))
      → add_at add c v xs ≡ change_at e (add v) c xs
  add-changes add u c v [] = ap (λ w. (c, w) ∷ []) (sym (u v))
  add-changes add u c v (p ∷ ps) =
      ap (λ w. cond (ltb c p.0) ((c, w) ∷ p ∷ ps) (cond (eqb c p.0) ((c, add v p.1) ∷ ps) (p ∷ add_at add c v ps))) (sym (u v))
      ∙ ap (λ ys. cond (ltb c p.0) ((c, add v e) ∷ p ∷ ps) (cond (eqb c p.0) ((c, add v p.1) ∷ ps) (p ∷ ys))) (add-changes add u c v ps)

-- elements made of elements by h, and changed alike
pub map-change : {V W : Type 0} (h : V → W) (d : V) (e : W) (f : V → V) (g : W → W) (c : ℕ) (xs : List (ℕ × V))
    → h d ≡ e → ((r : V) → h (f r) ≡ g (h r))
    → map (λ (p : ℕ × V). (p.0, h p.1)) (change_at d f c xs) ≡ change_at e g c (map (λ (p : ℕ × V). (p.0, h p.1)) xs)
map-change h d e f g c [] o s = ap (λ w. (c, w) ∷ []) (s d ∙ ap g o)
map-change {V = V} {W = W} h d e f g c (p ∷ ps) o s =
    let both : List (ℕ × V) → List (ℕ × W) = map (λ (p : ℕ × V). (p.0, h p.1)) in
    elim (cases_order c p.0) [
      | inl q ↦ ap both (change-here d f c p ps q) ∙ ap (λ w. (c, w) ∷ both ps) (s p.1) ∙ sym (change-here e g c (p.0, h p.1) (both ps) q)
      | inr b ↦ elim b [
        | inl q ↦ ap both (change-below d f c p ps q) ∙ ap (λ w. (c, w) ∷ both (p ∷ ps)) (s d ∙ ap g o) ∙ sym (change-below e g c (p.0, h p.1) (both ps) q)
        | inr q ↦
            ap both (change-above d f c p ps q)
            ∙ ap (λ ys. (p.0, h p.1) ∷ ys) (map-change h d e f g c ps o s)
            ∙ sym (change-above e g c (p.0, h p.1) (both ps) q)
      ]
    ]
