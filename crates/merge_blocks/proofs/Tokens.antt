-- The tokens of rows: of the next heads, and of what is put for them.
use Rattle.std.proofs.Common.{◌≡◌, ◌∙◌, ℕ, zero, suc, pred, ◌+◌, ◌-◌, ◌<◌, ◌≤◌, inl, inr, true, false, List, [], ◌∷◌, ◌++◌, None, length, get_or, nat_le, refl, sym, ap, arith}
use Rattle.std.proofs.lemmas.Bool.{cases_lt}
use Rattle.std.proofs.lemmas.Bool.Decides.{nat_tests}
use Rattle.std.proofs.lemmas.List.{get_or_append_left, get_or-append-add}
use Rattle.stream_tokens.specs.declared.Token.{Token}
use Rattle.stream_tokens.specs.declared.Token.TheVariants.{Empty, Stop}
use Rattle.stream_tokens.specs.Nest.{Leaf, leaf}
use Rattle.block_core.specs.Move.{over}
use Rattle.block_core.specs.Merge.{Head, head_token, head_of, padded, next_row}
use Rattle.merge_blocks.specs.declared.merger.Heads.TheVariants.{Left, Right, Both}
use Rattle.merge_blocks.specs.MergeSteps.{row_token}

-- the tokens of the next head of a side, or of the stop of a fiber that closes n lists
abbrev pub next_token : ℕ → List Head → ℕ → Token
next_token n [] = λ _. Stop (pred n)
next_token n (h ∷ hs) = λ p. head_token p h

pub next_row-over : (w n : ℕ) (hs : List Head) → next_row w n hs ≡ over (next_token n hs) 0 (suc w)
next_row-over w n [] = refl
next_row-over w n (h ∷ hs) = refl

-- ---- a head made of a left and a right

length-padded : (w : ℕ) (ps : List Leaf) → length (padded w ps) ≡ w
length-padded zero ps = refl
length-padded (suc w) [] = ap suc (length-padded w [])
length-padded (suc w) (p ∷ ps) = ap suc (length-padded w ps)

padded-at : (w : ℕ) (ps : List Leaf) (p : ℕ) → p < w → get_or (padded w ps) p None ≡ get_or ps p None
padded-at zero ps p b = absurd (omega arith)
padded-at (suc w) [] zero b = refl
padded-at (suc w) [] (suc p) b = padded-at w [] p (omega arith)
padded-at (suc w) (q ∷ ps) zero b = refl
padded-at (suc w) (q ∷ ps) (suc p) b = padded-at w ps p (omega arith)

pub joined-left : (l r : ℕ) (h : Head) (qs : List Leaf) (p : ℕ) → p ≤ l
    → head_token p h ≡ head_token p (head_of l r h.0 h.1 qs)
joined-left l r h qs zero b = refl
joined-left l r h qs (suc p) b =
    let c : p < length (padded l h.1) = omega (arith, length-padded l h.1) in
    ap leaf (sym (get_or_append_left (padded l h.1) (padded r qs) None p c ∙ padded-at l h.1 p (omega arith)))

pub joined-right : (l r : ℕ) (c : ℕ) (ps : List Leaf) (k : Head) (p : ℕ) → p < r
    → head_token (suc p) k ≡ head_token (suc (l + p)) (head_of l r c ps k.1)
joined-right l r c ps k p b =
    let e : length (padded l ps) + p ≡ l + p = omega (arith, length-padded l ps) in
    ap leaf (sym (ap (λ (n : ℕ). get_or (padded l ps ++ padded r k.1) n None) (sym e)
    ∙ get_or-append-add (padded l ps) (padded r k.1) p None ∙ padded-at r k.1 p b))

-- ---- what is held, and the rows put of it

-- at the ports of the left these tokens x, at those of the right these tokens y
pub record Holds (l r : ℕ) (held : List Token) (x y : ℕ → Token) : Type 0 where
  pub places : length held ≡ 10
  pub left : (p : ℕ) → p ≤ l → get_or held p Empty ≡ x p
  pub right : (p : ℕ) → p ≤ r → get_or held (suc l + p) Empty ≡ y p

le-true : (a b : ℕ) → a ≤ b → nat_le a b ≡ true
le-true a b h = grind (arith, nat_tests)

le-false : (a b : ℕ) → b < a → nat_le a b ≡ false
le-false a b h = grind (arith, nat_tests)

-- a payload port of the right
place : (l p : ℕ) → l < p → p ≡ suc (l + (p - suc l))
place l p c = omega arith

module _ (l r : ℕ) (held : List Token) (x y z : ℕ → Token) (h : Holds l r held x y) where
  right-held : (p : ℕ) → p < suc (l + r) → l < p → get_or held (p + 1) Empty ≡ y (suc (p - suc l))
  right-held p b c =
      let a : p + 1 ≡ suc l + suc (p - suc l) = omega arith in
      ap (λ (n : ℕ). get_or held n Empty) a ∙ h.right (suc (p - suc l)) (omega arith)

  -- z is made of both heads, or of one and nothing
  pub row-both : ((p : ℕ) → p ≤ l → x p ≡ z p) → ((p : ℕ) → p < r → y (suc p) ≡ z (suc (l + p)))
      → (p : ℕ) → p < suc (l + r) → row_token l held Both p ≡ z p
  row-both f g p b = elim (cases_lt l p) [
    | inl c ↦ rw (le-false p l c) (right-held p b c ∙ g (p - suc l) (omega arith) ∙ ap z (sym (place l p c)))
    | inr c ↦ rw (le-true p l c) (h.left p c ∙ f p c)
  ]

  pub row-left : ((p : ℕ) → p ≤ l → x p ≡ z p) → ((p : ℕ) → p < r → Empty ≡ z (suc (l + p)))
      → (p : ℕ) → p < suc (l + r) → row_token l held Left p ≡ z p
  row-left f g p b = elim (cases_lt l p) [
    | inl c ↦ rw (le-false p l c) (g (p - suc l) (omega arith) ∙ ap z (sym (place l p c)))
    | inr c ↦ rw (le-true p l c) (h.left p c ∙ f p c)
  ]

  pub row-right : y 0 ≡ z 0 → ((p : ℕ) → p < l → Empty ≡ z (suc p)) → ((p : ℕ) → p < r → y (suc p) ≡ z (suc (l + p)))
      → (p : ℕ) → p < suc (l + r) → row_token l held Right p ≡ z p
  row-right e f g zero b =
      let a : l + 1 ≡ suc l + 0 = omega arith in
      ap (λ (n : ℕ). get_or held n Empty) a ∙ h.right 0 (omega arith) ∙ e
  row-right e f g (suc p) b = elim (cases_lt l (suc p)) [
    | inl c ↦ rw (le-false (suc p) l c) (right-held (suc p) b c ∙ g (suc p - suc l) (omega arith) ∙ ap z (sym (place l (suc p) c)))
    | inr c ↦ rw (le-true (suc p) l c) (f p (omega arith))
  ]
