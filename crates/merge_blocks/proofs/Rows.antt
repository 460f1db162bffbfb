-- A merger takes whole heads and puts whole rows.
use Rattle.std.proofs.Common.{◌≡◌, ◌∙◌, ℕ, zero, suc, ◌+◌, ◌<◌, ◌≤◌, Bool, List, [], ◌∷◌, length, get_or, set, refl, sym, ap, subst, arith, get_or-set_same, get_or-set_other}
use Rattle.std.proofs.Math.ListN.{length-set}
use Rattle.stream_tokens.specs.declared.Token.{Token}
use Rattle.stream_tokens.specs.declared.Token.TheVariants.{Empty}
use Rattle.block_core.specs.Move.{Move, over, take_row, put_row}
use Rattle.block_core.specs.Runs.{Runs}
use Rattle.block_core.proofs.InOrder.{lt-true, lt-false}
use Rattle.merge_blocks.specs.declared.merger.Heads.{Heads}
use Rattle.merge_blocks.specs.declared.merger.Stage.{Stage}
use Rattle.merge_blocks.specs.declared.merger.Stage.TheVariants.{Taking, Putting}
use Rattle.block_core.specs.declared.Wish.TheVariants.{Put}
use Rattle.merge_blocks.specs.declared.merger.Merger.{Merger}
use Rattle.merge_blocks.specs.MergeSteps.{end_port, row_token, after_row, chosen, merge_next_take, merge_next_put, merge_steps}

-- the tokens held once those of a row were taken, from a port on
abbrev pub held_after : List Token → ℕ → List Token → List Token
held_after held p [] = held
held_after held p (t ∷ ts) = held_after (set held p t) (p + 1) ts

pub length-held_after : (held : List Token) (p : ℕ) (ts : List Token) → length (held_after held p ts) ≡ length held
length-held_after held p [] = refl
length-held_after held p (t ∷ ts) = length-held_after (set held p t) (p + 1) ts ∙ length-set held p t

pub held_after-below : (held : List Token) (p : ℕ) (ts : List Token) (j : ℕ) → j < p
    → get_or (held_after held p ts) j Empty ≡ get_or held j Empty
held_after-below held p [] j b = refl
held_after-below held p (t ∷ ts) j b =
    held_after-below (set held p t) (p + 1) ts j (omega arith) ∙ get_or-set_other held p j t Empty (omega arith)

pub held_after-above : (held : List Token) (p : ℕ) (ts : List Token) (j : ℕ) → p + length ts ≤ j
    → get_or (held_after held p ts) j Empty ≡ get_or held j Empty
held_after-above held p [] j b = refl
held_after-above held p (t ∷ ts) j b =
    held_after-above (set held p t) (p + 1) ts j (omega arith) ∙ get_or-set_other held p j t Empty (omega arith)

-- the tokens of a row x q, x (q + 1) and so on
held_after-at : (held : List Token) (p : ℕ) (x : ℕ → Token) (n q i : ℕ) → i < n → p + n ≤ length held
    → get_or (held_after held p (over x q n)) (p + i) Empty ≡ x (q + i)
held_after-at held p x zero q i b c = absurd (omega arith)
held_after-at held p x (suc n) q zero b c =
    let e : p + 0 ≡ p = omega arith in
    let f : q + 0 ≡ q = omega arith in
    rw (e, f) (held_after-below (set held p (x q)) (p + 1) (over x (suc q) n) p (omega arith) ∙ get_or-set_same held p (x q) Empty (omega arith))
held_after-at held p x (suc n) q (suc i) b c =
    let e : p + suc i ≡ (p + 1) + i = omega arith in
    let f : q + suc i ≡ suc q + i = omega arith in
    let d : (p + 1) + n ≤ length (set held p (x q)) = omega (arith, length-set held p (x q)) in
    rw (e, f) (held_after-at (set held p (x q)) (p + 1) x n (suc q) i (omega arith) d)

pub held_after-from : (held : List Token) (p : ℕ) (x : ℕ → Token) (n i : ℕ) → i < n → p + n ≤ length held
    → get_or (held_after held p (over x 0 n)) (p + i) Empty ≡ x i
held_after-from held p x n i b c = let e : 0 + i ≡ i = omega arith in held_after-at held p x n 0 i b c ∙ ap x e

-- a merger with these tokens at this stage
abbrev pub merger_at : Bool → ℕ → ℕ → List Token → Stage → Merger
merger_at u l r held s = record { unites = u; left = l; right = r; stage = s; tokens = held }

next_take-more : (u : Bool) (l r : ℕ) (heads : Heads) (held : List Token) (p : ℕ) → p < end_port l r heads
    → merge_next_take u l r held heads p ≡ Taking heads p
next_take-more u l r heads held p b = rw (lt-true p (end_port l r heads) b) refl

next_take-done : (u : Bool) (l r : ℕ) (heads : Heads) (held : List Token) (p : ℕ) → p ≡ end_port l r heads
    → merge_next_take u l r held heads p ≡ chosen u l held
next_take-done u l r heads held p e = let b : end_port l r heads ≤ p = omega arith in rw (lt-false p (end_port l r heads) b) refl

-- a row is taken
pub heads-taken : (u : Bool) (l r : ℕ) (heads : Heads) (held : List Token) (p : ℕ) (row : List Token) (rest : List Move)
    → p + length row ≤ end_port l r heads
    → Runs merge_steps (merger_at u l r (held_after held p row) (merge_next_take u l r (held_after held p row) heads (p + length row))) rest
    → Runs merge_steps (merger_at u l r held (merge_next_take u l r held heads p)) (take_row p row rest)
heads-taken u l r heads held p [] rest b h =
    let e : p + 0 ≡ p = omega arith in
    subst (λ (n : ℕ). Runs merge_steps (merger_at u l r held (merge_next_take u l r held heads n)) rest) e h
heads-taken u l r heads held p (t ∷ ts) rest b h =
    let held' : List Token = set held p t in
    let e : p + suc (length ts) ≡ (p + 1) + length ts = omega arith in
    let h' : Runs merge_steps (merger_at u l r (held_after held' (p + 1) ts) (merge_next_take u l r (held_after held' (p + 1) ts) heads ((p + 1) + length ts))) rest =
    subst (λ (n : ℕ). Runs merge_steps (merger_at u l r (held_after held' (p + 1) ts) (merge_next_take u l r (held_after held' (p + 1) ts) heads n)) rest) e h in
    subst (λ (s : Stage). Runs merge_steps (merger_at u l r held s) (take_row p (t ∷ ts) rest))
    (sym (next_take-more u l r heads held p (omega arith)))
    (refl, heads-taken u l r heads held' (p + 1) ts rest (omega arith) h')

-- the last row of heads is taken, or one before it
pub last-heads-taken : (u : Bool) (l r : ℕ) (heads : Heads) (held : List Token) (p : ℕ) (row : List Token) (rest : List Move)
    → p < end_port l r heads → p + length row ≡ end_port l r heads
    → Runs merge_steps (merger_at u l r (held_after held p row) (chosen u l (held_after held p row))) rest
    → Runs merge_steps (merger_at u l r held (Taking heads p)) (take_row p row rest)
last-heads-taken u l r heads held p row rest b e h =
    subst (λ (s : Stage). Runs merge_steps (merger_at u l r held s) (take_row p row rest)) (next_take-more u l r heads held p b)
    (heads-taken u l r heads held p row rest (omega arith)
    (subst (λ (s : Stage). Runs merge_steps (merger_at u l r (held_after held p row) s) rest)
    (sym (next_take-done u l r heads (held_after held p row) (p + length row) e)) h))

pub some-heads-taken : (u : Bool) (l r : ℕ) (heads : Heads) (held : List Token) (p : ℕ) (row : List Token) (rest : List Move)
    → p + length row < end_port l r heads
    → Runs merge_steps (merger_at u l r (held_after held p row) (Taking heads (p + length row))) rest
    → Runs merge_steps (merger_at u l r held (Taking heads p)) (take_row p row rest)
some-heads-taken u l r heads held p row rest b h =
    subst (λ (s : Stage). Runs merge_steps (merger_at u l r held s) (take_row p row rest)) (next_take-more u l r heads held p (omega arith))
    (heads-taken u l r heads held p row rest (omega arith)
    (subst (λ (s : Stage). Runs merge_steps (merger_at u l r (held_after held p row) s) rest)
    (sym (next_take-more u l r heads (held_after held p row) (p + length row) b)) h))

next_put-more : (l r : ℕ) (heads : Heads) (held : List Token) (p : ℕ) → p < l + r + 1
    → merge_next_put l r held heads p ≡ Putting heads p
next_put-more l r heads held p b = rw (lt-true p (l + r + 1) b) refl

next_put-done : (l r : ℕ) (heads : Heads) (held : List Token) (p : ℕ) → p ≡ l + r + 1
    → merge_next_put l r held heads p ≡ after_row l held heads
next_put-done l r heads held p e = let b : l + r + 1 ≤ p = omega arith in rw (lt-false p (l + r + 1) b) refl

-- a row is put
pub row-put : (u : Bool) (l r : ℕ) (heads : Heads) (held : List Token) (x : ℕ → Token) (n q : ℕ) (rest : List Move)
    → q + n ≡ suc (l + r) → ((p : ℕ) → p < suc (l + r) → row_token l held heads p ≡ x p)
    → Runs merge_steps (merger_at u l r held (after_row l held heads)) rest
    → Runs merge_steps (merger_at u l r held (merge_next_put l r held heads q)) (put_row q (over x q n) rest)
row-put u l r heads held x zero q rest e f h =
    subst (λ (s : Stage). Runs merge_steps (merger_at u l r held s) rest) (sym (next_put-done l r heads held q (omega arith))) h
row-put u l r heads held x (suc n) q rest e f h =
    let h' : Runs merge_steps (merger_at u l r held (merge_next_put l r held heads (suc q))) (put_row (suc q) (over x (suc q) n) rest) =
    row-put u l r heads held x n (suc q) rest (omega arith) f h in
    let g : suc q ≡ q + 1 = omega arith in
    let h'' : Runs merge_steps (merger_at u l r held (merge_next_put l r held heads (q + 1))) (put_row (q + 1) (over x (suc q) n) rest) =
    subst (λ (k : ℕ). Runs merge_steps (merger_at u l r held (merge_next_put l r held heads k)) (put_row k (over x (suc q) n) rest)) g h' in
    subst (λ (s : Stage). Runs merge_steps (merger_at u l r held s) (put_row q (over x q (suc n)) rest))
    (sym (next_put-more l r heads held q (omega arith)))
    (ap (λ (t : Token). Put q t) (f q (omega arith)), h'')

-- a whole row is put
pub whole-row-put : (u : Bool) (l r : ℕ) (heads : Heads) (held : List Token) (x : ℕ → Token) (rest : List Move)
    → ((p : ℕ) → p < suc (l + r) → row_token l held heads p ≡ x p)
    → Runs merge_steps (merger_at u l r held (after_row l held heads)) rest
    → Runs merge_steps (merger_at u l r held (Putting heads 0)) (put_row 0 (over x 0 (suc (l + r))) rest)
whole-row-put u l r heads held x rest f h =
    subst (λ (s : Stage). Runs merge_steps (merger_at u l r held s) (put_row 0 (over x 0 (suc (l + r))) rest))
    (next_put-more l r heads held 0 (omega arith))
    (row-put u l r heads held x (suc (l + r)) 0 rest (omega arith) f h)
