-- Changes in lists whose coordinates ascend, as an ordered map makes them.
use Rattle.std.proofs.Common.{◌≡◌, ℕ, ◌<◌, List, [], ◌∷◌, Option, Some, None, cond, refl, sym, ◌∙◌, ap, subst, inl, inr, arith}
use Rattle.std.proofs.lemmas.Bool.{cases_order}
use Rattle.std.specs.declared.cmp.Ordering.{Ordering}
use Rattle.std.specs.declared.cmp.Ordering.TheVariants.{Less, Equal, Greater}
use Rattle.std.specs.Ordering.{match_ordering, is_eq, nat_cmp}
use Rattle.std.specs.Cmp.{nat_cmp_is}
use Rattle.std.specs.List.{AllByRecursion}
use Rattle.std.specs.List.Sorted.{IsStrictlySortedBy}
use Rattle.std.specs.Map.{lookup, remove_entry, keys_of}
use Rattle.std.specs.BTreeMap.{insert_entry, is_at}
use Rattle.std.specs.Option.{unwrap_or}
use Rattle.space_reducer.proofs.Changed.{change_at, change-below, change-here, change-above}

cmp-less : (a b : ℕ) → a < b → nat_cmp a b ≡ Less
cmp-less a b h = sym (nat_cmp_is a b Less h)

cmp-equal : (a b : ℕ) → a ≡ b → nat_cmp a b ≡ Equal
cmp-equal a b h = sym (nat_cmp_is a b Equal h)

cmp-greater : (a b : ℕ) → b < a → nat_cmp a b ≡ Greater
cmp-greater a b h = sym (nat_cmp_is a b Greater h)

-- each coordinate is above c
abbrev pub AboveEach : {V : Type 0} → ℕ → List (ℕ × V) → Type 0
AboveEach c [] = Unit {0}
AboveEach c (p ∷ ps) = (c < p.0) × AboveEach c ps

-- the coordinates ascend
abbrev pub KeysAscend : {V : Type 0} → List (ℕ × V) → Type 0
KeysAscend [] = Unit {0}
KeysAscend (p ∷ ps) = AboveEach p.0 ps × KeysAscend ps

module _ {V : Type 0} where
  above-further : (a b : ℕ) (xs : List (ℕ × V)) → a < b → AboveEach b xs → AboveEach a xs
  above-further a b [] l h = tt
  above-further a b (p ∷ ps) l h = (omega (arith, l, h.0), above-further a b ps l h.1)

  lookup-above : (c : ℕ) (xs : List (ℕ × V)) → AboveEach c xs → lookup (is_at (nat_cmp c)) xs ≡ None
  lookup-above c [] h = refl
  lookup-above c (p ∷ ps) h =
      ap (λ o. cond (is_eq o) (Some p.1) (lookup (is_at (nat_cmp c)) ps)) (cmp-less c p.0 h.0) ∙ lookup-above c ps h.1

  remove-above : (c : ℕ) (xs : List (ℕ × V)) → AboveEach c xs → remove_entry (is_at (nat_cmp c)) xs ≡ xs
  remove-above c [] h = refl
  remove-above c (p ∷ ps) h =
      ap (λ o. cond (is_eq o) ps (p ∷ remove_entry (is_at (nat_cmp c)) ps)) (cmp-less c p.0 h.0) ∙ ap (λ xs. p ∷ xs) (remove-above c ps h.1)

  insert-above : (c : ℕ) (v : V) (xs : List (ℕ × V)) → AboveEach c xs → insert_entry nat_cmp xs c v ≡ (c, v) ∷ xs
  insert-above c v [] h = refl
  insert-above c v (p ∷ ps) h = ap (λ o. match_ordering o ((c, v) ∷ p ∷ ps) ((p.0, v) ∷ ps) (p ∷ insert_entry nat_cmp ps c v)) (cmp-less c p.0 h.0)

  -- what is put where the coordinate was is a change there
  pub insert-changes : (e : V) (f : V → V) (c : ℕ) (xs : List (ℕ × V)) → KeysAscend xs
      → insert_entry nat_cmp xs c (f (unwrap_or (lookup (is_at (nat_cmp c)) xs) e)) ≡ change_at e f c xs
  insert-changes e f c [] h = refl
  insert-changes e f c (p ∷ ps) h =
      let found : Ordering → Option V = λ o. cond (is_eq o) (Some p.1) (lookup (is_at (nat_cmp c)) ps) in
      let put : Ordering → V → List (ℕ × V) = λ o v. match_ordering o ((c, v) ∷ p ∷ ps) ((p.0, v) ∷ ps) (p ∷ insert_entry nat_cmp ps c v) in
      elim (cases_order c p.0) [
        | inl q ↦
            ap (λ o. put o (f (unwrap_or (found o) e))) (cmp-equal c p.0 q)
            ∙ ap (λ n. (n, f p.1) ∷ ps) (sym q)
            ∙ sym (change-here e f c p ps q)
        | inr b ↦ elim b [
          | inl q ↦
              ap (λ o. put o (f (unwrap_or (found o) e))) (cmp-less c p.0 q)
              ∙ ap (λ o. (c, f (unwrap_or o e)) ∷ p ∷ ps) (lookup-above c ps (above-further c p.0 ps q h.0))
              ∙ sym (change-below e f c p ps q)
          | inr q ↦
              ap (λ o. put o (f (unwrap_or (found o) e))) (cmp-greater c p.0 q)
              ∙ ap (λ xs. p ∷ xs) (insert-changes e f c ps h.1)
              ∙ sym (change-above e f c p ps q)
        ]
      ]

  -- so is what is put after the coordinate was taken away
  pub replace-changes : (e : V) (f : V → V) (c : ℕ) (xs : List (ℕ × V)) → KeysAscend xs
      → insert_entry nat_cmp (remove_entry (is_at (nat_cmp c)) xs) c (f (unwrap_or (lookup (is_at (nat_cmp c)) xs) e)) ≡ change_at e f c xs
  replace-changes e f c [] h = refl
  replace-changes e f c (p ∷ ps) h =
      let found : Ordering → Option V = λ o. cond (is_eq o) (Some p.1) (lookup (is_at (nat_cmp c)) ps) in
      let less : Ordering → List (ℕ × V) = λ o. cond (is_eq o) ps (p ∷ remove_entry (is_at (nat_cmp c)) ps) in
      let both : Ordering → List (ℕ × V) = λ o. insert_entry nat_cmp (less o) c (f (unwrap_or (found o) e)) in
      elim (cases_order c p.0) [
        | inl q ↦
            let a : AboveEach c ps = subst (λ n. AboveEach n ps) (sym q) h.0 in
            ap both (cmp-equal c p.0 q) ∙ insert-above c (f p.1) ps a ∙ sym (change-here e f c p ps q)
        | inr b ↦ elim b [
          | inl q ↦
              let a : AboveEach c ps = above-further c p.0 ps q h.0 in
              ap both (cmp-less c p.0 q)
              ∙ ap (λ xs. insert_entry nat_cmp (p ∷ xs) c (f (unwrap_or (lookup (is_at (nat_cmp c)) ps) e))) (remove-above c ps a)
              ∙ ap (λ o. insert_entry nat_cmp (p ∷ ps) c (f (unwrap_or o e))) (lookup-above c ps a)
              ∙ insert-above c (f e) (p ∷ ps) (q, a)
              ∙ sym (change-below e f c p ps q)
          | inr q ↦
              let v : V = f (unwrap_or (lookup (is_at (nat_cmp c)) ps) e) in
              let less-ps : List (ℕ × V) = remove_entry (is_at (nat_cmp c)) ps in
              ap both (cmp-greater c p.0 q)
              ∙ ap (λ o. match_ordering o ((c, v) ∷ p ∷ less-ps) ((p.0, v) ∷ less-ps) (p ∷ insert_entry nat_cmp less-ps c v)) (cmp-greater c p.0 q)
              ∙ ap (λ xs. p ∷ xs) (replace-changes e f c ps h.1)
              ∙ sym (change-above e f c p ps q)
        ]
      ]

  above-change : (e : V) (f : V → V) (a c : ℕ) (xs : List (ℕ × V)) → a < c → AboveEach a xs → AboveEach a (change_at e f c xs)
  above-change e f a c [] l h = (l, tt)
  above-change e f a c (p ∷ ps) l h =
      let P : List (ℕ × V) → Type 0 = AboveEach a in
      elim (cases_order c p.0) [
        | inl q ↦ subst P (sym (change-here e f c p ps q)) (l, h.1)
        | inr b ↦ elim b [
          | inl q ↦ subst P (sym (change-below e f c p ps q)) (l, h)
          | inr q ↦ subst P (sym (change-above e f c p ps q)) (h.0, above-change e f a c ps l h.1)
        ]
      ]

  -- a change keeps the order
  pub ascends-change : (e : V) (f : V → V) (c : ℕ) (xs : List (ℕ × V)) → KeysAscend xs → KeysAscend (change_at e f c xs)
  ascends-change e f c [] h = (tt, tt)
  ascends-change e f c (p ∷ ps) h =
      let P : List (ℕ × V) → Type 0 = KeysAscend in
      elim (cases_order c p.0) [
        | inl q ↦ subst P (sym (change-here e f c p ps q)) (subst (λ n. AboveEach n ps) (sym q) h.0, h.1)
        | inr b ↦ elim b [
          | inl q ↦ subst P (sym (change-below e f c p ps q)) ((q, above-further c p.0 ps q h.0), h)
          | inr q ↦ subst P (sym (change-above e f c p ps q)) (above-change e f p.0 c ps q h.0, ascends-change e f c ps h.1)
        ]
      ]

  -- the keys of an ordered map ascend
  above-sorted : (c : ℕ) (xs : List (ℕ × V)) → AllByRecursion (λ y. nat_cmp c y ≡ Less) (keys_of xs) → AboveEach c xs
  above-sorted c [] h = tt
  above-sorted c (p ∷ ps) h = (less-than c p.0 h.0, above-sorted c ps h.1) where
    less-than : (a b : ℕ) → nat_cmp a b ≡ Less → a < b
    less-than a b e =
        elim (cases_order a b) [
          | inl q ↦ let d = sym (cmp-equal a b q) ∙ e in absurd (cc)
          | inr o ↦ elim o [ inl q ↦ q | inr q ↦ let d = sym (cmp-greater a b q) ∙ e in absurd (cc) ]
        ]

  pub ascends-sorted : (xs : List (ℕ × V)) → IsStrictlySortedBy nat_cmp (keys_of xs) → KeysAscend xs
  unfolding IsStrictlySortedBy
  ascends-sorted [] h = tt
  ascends-sorted (p ∷ ps) h = (above-sorted p.0 ps h.0, ascends-sorted ps h.1)
