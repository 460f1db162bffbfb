-- A merger takes heads, chooses, and puts the row of a choice.
use Rattle.std.proofs.Common.{◌≡◌, ◌∙◌, ℕ, suc, ◌+◌, ◌<◌, ◌≤◌, Bool, true, false, List, length, get_or, refl, sym, ap, subst, arith}
use Rattle.stream_tokens.specs.declared.Token.{Token}
use Rattle.stream_tokens.specs.declared.Token.TheVariants.{Empty}
use Rattle.block_core.specs.Move.{Move, over, take_row, put_row}
use Rattle.block_core.specs.Merge.{Head, head_token, put_alone}
use Rattle.block_core.specs.Runs.{Runs}
use Rattle.merge_blocks.specs.declared.merger.Heads.{Heads}
use Rattle.merge_blocks.specs.declared.merger.Heads.TheVariants.{Left, Right, Both}
use Rattle.merge_blocks.specs.declared.merger.Stage.{Stage}
use Rattle.merge_blocks.specs.declared.merger.Stage.TheVariants.{Taking}
use Rattle.merge_blocks.specs.MergeSteps.{first_port, row_token, sooner, chosen, choice, stage_of_one, after_both, after_row, merge_steps}
use Rattle.block_core.proofs.Rows.{length-over}
use Rattle.merge_blocks.proofs.Rows.{merger_at, held_after, length-held_after, held_after-below, held_after-above, held_after-from, last-heads-taken, some-heads-taken, whole-row-put}
use Rattle.merge_blocks.proofs.Tokens.{Holds, row-both, row-left, row-right}

-- ---- heads are taken

module _ (l r : ℕ) (few : l + r ≤ 8) (held : List Token) (x y : ℕ → Token) (h : Holds l r held x y) where
  left-kept : (z : ℕ → Token) → Holds l r (held_after held 0 (over z 0 (suc l))) z y
  left-kept z = record {
    places = length-held_after held 0 (over z 0 (suc l)) ∙ h.places;
    left = λ p b.
        let e : 0 + p ≡ p = omega arith in
        subst (λ (k : ℕ). get_or (held_after held 0 (over z 0 (suc l))) k Empty ≡ z p) e
        (held_after-from held 0 z (suc l) p (omega arith) (omega (arith, h.places)));
    right = λ p b. held_after-above held 0 (over z 0 (suc l)) (suc l + p) (omega (arith, length-over z 0 (suc l))) ∙ h.right p b;
  }

  right-kept : (z : ℕ → Token) → Holds l r (held_after held (suc l) (over z 0 (suc r))) x z
  right-kept z = record {
    places = length-held_after held (suc l) (over z 0 (suc r)) ∙ h.places;
    left = λ p b. held_after-below held (suc l) (over z 0 (suc r)) p (omega arith) ∙ h.left p b;
    right = λ p b. held_after-from held (suc l) z (suc r) p (omega arith) (omega (arith, h.places));
  }

-- a coordinate of one side alone is put or passed over, and its head is taken
alone-run : (u : Bool) (l r : ℕ) (heads : Heads) (held : List Token) (k : Head) (rest : List Move)
    → ((p : ℕ) → p < suc (l + r) → row_token l held heads p ≡ head_token p k)
    → after_row l held heads ≡ Taking heads (first_port l heads)
    → Runs merge_steps (merger_at u l r held (Taking heads (first_port l heads))) rest
    → Runs merge_steps (merger_at u l r held (stage_of_one u l heads)) (put_alone u (l + r) k rest)
alone-run true l r heads held k rest f e h =
    whole-row-put true l r heads held (λ p. head_token p k) rest f
    (subst (λ (s : Stage). Runs merge_steps (merger_at true l r held s) rest) (sym e) h)
alone-run false l r heads held k rest f e h = h

-- from where both heads are there, these moves are made
abbrev pub Chooses : Bool → ℕ → ℕ → List Token → List Move → Type 0
Chooses u l r held rest = Runs merge_steps (merger_at u l r held (chosen u l held)) rest

module _ (u : Bool) (l r : ℕ) (few : l + r ≤ 8) where
  pub take-left : (held : List Token) (x y z : ℕ → Token) → Holds l r held x y → (rest : List Move)
      → ((held' : List Token) → Holds l r held' z y → Chooses u l r held' rest)
      → Runs merge_steps (merger_at u l r held (Taking Left 0)) (take_row 0 (over z 0 (suc l)) rest)
  take-left held x y z h rest f =
      last-heads-taken u l r Left held 0 (over z 0 (suc l)) rest (omega arith) (omega (arith, length-over z 0 (suc l)))
      (f (held_after held 0 (over z 0 (suc l))) (left-kept l r few held x y h z))

  pub take-right : (held : List Token) (x y z : ℕ → Token) → Holds l r held x y → (rest : List Move)
      → ((held' : List Token) → Holds l r held' x z → Chooses u l r held' rest)
      → Runs merge_steps (merger_at u l r held (Taking Right (l + 1))) (take_row (suc l) (over z 0 (suc r)) rest)
  take-right held x y z h rest f =
      let e : suc l ≡ l + 1 = omega arith in
      subst (λ (p : ℕ). Runs merge_steps (merger_at u l r held (Taking Right p)) (take_row (suc l) (over z 0 (suc r)) rest)) e
      (last-heads-taken u l r Right held (suc l) (over z 0 (suc r)) rest (omega arith) (omega (arith, length-over z 0 (suc r)))
      (f (held_after held (suc l) (over z 0 (suc r))) (right-kept l r few held x y h z)))

  -- any tokens are held before
  pub take-both : (held : List Token) (x y : ℕ → Token) → length held ≡ 10 → (rest : List Move)
      → ((held' : List Token) → Holds l r held' x y → Chooses u l r held' rest)
      → Runs merge_steps (merger_at u l r held (Taking Both 0)) (take_row 0 (over x 0 (suc l)) (take_row (suc l) (over y 0 (suc r)) rest))
  take-both held x y places rest f =
      let before : Holds l r held (λ p. get_or held p Empty) (λ p. get_or held (suc l + p) Empty) =
      record { places = places; left = λ p b. refl; right = λ p b. refl } in
      let held' : List Token = held_after held 0 (over x 0 (suc l)) in
      let between : Holds l r held' x (λ p. get_or held (suc l + p) Empty) = left-kept l r few held _ _ before x in
      let e : suc l ≡ 0 + length (over x 0 (suc l)) = omega (arith, length-over x 0 (suc l)) in
      some-heads-taken u l r Both held 0 (over x 0 (suc l)) (take_row (suc l) (over y 0 (suc r)) rest) (omega (arith, length-over x 0 (suc l)))
      (subst (λ (p : ℕ). Runs merge_steps (merger_at u l r held' (Taking Both p)) (take_row (suc l) (over y 0 (suc r)) rest)) e
      (last-heads-taken u l r Both held' (suc l) (over y 0 (suc r)) rest (omega arith) (omega (arith, length-over y 0 (suc r)))
      (f (held_after held' (suc l) (over y 0 (suc r))) (right-kept l r few held' _ _ between y))))

  -- ---- a row is put of heads that are held

  module _ (held : List Token) (x y : ℕ → Token) (h : Holds l r held x y) where
    choose : (heads : Heads) → sooner (x 0) (y 0) ≡ heads → (rest : List Move)
        → Runs merge_steps (merger_at u l r held (choice u l heads)) rest → Chooses u l r held rest
    choose heads e rest go =
        let a : l + 1 ≡ suc l + 0 = omega arith in
        let right : get_or held (l + 1) Empty ≡ y 0 = ap (λ (n : ℕ). get_or held n Empty) a ∙ h.right 0 (omega arith) in
        let c : chosen u l held ≡ choice u l heads =
        ap (λ (t : Token). choice u l (sooner t (get_or held (l + 1) Empty))) (h.left 0 (omega arith))
        ∙ ap (λ (t : Token). choice u l (sooner (x 0) t)) right ∙ ap (λ (s : Heads). choice u l s) e in
        subst (λ (s : Stage). Runs merge_steps (merger_at u l r held s) rest) (sym c) go

    pub put_both : sooner (x 0) (y 0) ≡ Both → (z : ℕ → Token)
        → ((p : ℕ) → p ≤ l → x p ≡ z p) → ((p : ℕ) → p < r → y (suc p) ≡ z (suc (l + p))) → (rest : List Move)
        → Runs merge_steps (merger_at u l r held (after_both (x 0))) rest → Chooses u l r held (put_row 0 (over z 0 (suc (l + r))) rest)
    put_both e z f g rest go =
        choose Both e (put_row 0 (over z 0 (suc (l + r))) rest)
        (whole-row-put u l r Both held z rest (row-both l r held x y z h f g)
        (subst (λ (t : Token). Runs merge_steps (merger_at u l r held (after_both t)) rest) (sym (h.left 0 (omega arith))) go))

    pub put_left : sooner (x 0) (y 0) ≡ Left → (k : Head)
        → ((p : ℕ) → p ≤ l → x p ≡ head_token p k) → ((p : ℕ) → p < r → Empty ≡ head_token (suc (l + p)) k) → (rest : List Move)
        → Runs merge_steps (merger_at u l r held (Taking Left 0)) rest → Chooses u l r held (put_alone u (l + r) k rest)
    put_left e k f g rest go =
        choose Left e (put_alone u (l + r) k rest)
        (alone-run u l r Left held k rest (row-left l r held x y (λ p. head_token p k) h f g) refl go)

    pub put_right : sooner (x 0) (y 0) ≡ Right → (k : Head) → y 0 ≡ head_token 0 k
        → ((p : ℕ) → p < l → Empty ≡ head_token (suc p) k) → ((p : ℕ) → p < r → y (suc p) ≡ head_token (suc (l + p)) k)
        → (rest : List Move)
        → Runs merge_steps (merger_at u l r held (Taking Right (l + 1))) rest → Chooses u l r held (put_alone u (l + r) k rest)
    put_right e k c f g rest go =
        choose Right e (put_alone u (l + r) k rest)
        (alone-run u l r Right held k rest (row-right l r held x y (λ p. head_token p k) h c f g) refl go)
