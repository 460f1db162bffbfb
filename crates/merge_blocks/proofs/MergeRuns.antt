-- A new merger makes the moves of its kind.
use Rattle.std.proofs.Common.{◌≡◌, ℕ, suc, pred, ◌+◌, ◌<◌, ◌≤◌, inl, inr, Bool, List, [], ◌∷◌, length, refl, sym, subst, arith}
use Rattle.std.proofs.lemmas.Bool.{cases_lt}
use Rattle.stream_tokens.specs.declared.Token.{Token}
use Rattle.stream_tokens.specs.declared.Token.TheVariants.{Item, Stop, Done}
use Rattle.block_core.specs.Move.{Move, over, take_row, put_row, put_all}
use Rattle.block_core.specs.Merge.{Head, Sides, head_token, head_of, row, next_row, put_alone, right_moves, along_moves, fiber_merge, merge_moves}
use Rattle.block_core.specs.Runs.{Runs}
use Rattle.merge_blocks.specs.declared.merger.Heads.TheVariants.{Left, Right, Both}
use Rattle.merge_blocks.specs.declared.merger.Stage.TheVariants.{Taking}
use Rattle.merge_blocks.specs.MergeSteps.{sooner, merge_steps}
use Rattle.block_core.proofs.InOrder.{lt-true, lt-false}
use Rattle.merge_blocks.proofs.Rows.{merger_at}
use Rattle.merge_blocks.proofs.Heads.{Chooses, take-left, take-right, take-both, put_both, put_left, put_right}
use Rattle.merge_blocks.proofs.Tokens.{next_token, next_row-over, joined-left, joined-right, Holds}

sooner-left : (a b : ℕ) → a < b → sooner (Item a) (Item b) ≡ Left
sooner-left a b c = rw (lt-true a b c) refl

sooner-right : (a b : ℕ) → b < a → sooner (Item a) (Item b) ≡ Right
sooner-right a b c = let d : b ≤ a = omega arith in rw (lt-false a b d, lt-true b a c) refl

sooner-both : (a b : ℕ) → b ≤ a → a ≤ b → sooner (Item a) (Item b) ≡ Both
sooner-both a b c d = rw (lt-false a b c, lt-false b a d) refl

module _ (u : Bool) (l r : ℕ) (few : l + r ≤ 8) where
  -- the moves that are made where both heads are taken anew, whatever is held
  abbrev pub Goes : List Move → Type 0
  Goes rest = (held : List Token) → length held ≡ 10 → Runs merge_steps (merger_at u l r held (Taking Both 0)) rest

  -- the next heads are taken, written as in the moves
  next-left : (n : ℕ) (hs : List Head) (held : List Token) (x y : ℕ → Token) → Holds l r held x y → (rest : List Move)
      → ((held' : List Token) → Holds l r held' (next_token n hs) y → Chooses u l r held' rest)
      → Runs merge_steps (merger_at u l r held (Taking Left 0)) (take_row 0 (next_row l n hs) rest)
  next-left n hs held x y h rest f =
      subst (λ (ts : List Token). Runs merge_steps (merger_at u l r held (Taking Left 0)) (take_row 0 ts rest)) (sym (next_row-over l n hs))
      (take-left u l r few held x y (next_token n hs) h rest f)

  next-right : (n : ℕ) (ks : List Head) (held : List Token) (x y : ℕ → Token) → Holds l r held x y → (rest : List Move)
      → ((held' : List Token) → Holds l r held' x (next_token n ks) → Chooses u l r held' rest)
      → Runs merge_steps (merger_at u l r held (Taking Right (l + 1))) (take_row (suc l) (next_row r n ks) rest)
  next-right n ks held x y h rest f =
      subst (λ (ts : List Token). Runs merge_steps (merger_at u l r held (Taking Right (l + 1))) (take_row (suc l) ts rest)) (sym (next_row-over r n ks))
      (take-right u l r few held x y (next_token n ks) h rest f)

  next-both : (n : ℕ) (hs ks : List Head) (held : List Token) → length held ≡ 10 → (rest : List Move)
      → ((held' : List Token) → Holds l r held' (next_token n hs) (next_token n ks) → Chooses u l r held' rest)
      → Runs merge_steps (merger_at u l r held (Taking Both 0)) (take_row 0 (next_row l n hs) (take_row (suc l) (next_row r n ks) rest))
  next-both n hs ks held places rest f =
      subst (λ (ts : List Token). Runs merge_steps (merger_at u l r held (Taking Both 0)) (take_row 0 ts (take_row (suc l) (next_row r n ks) rest)))
      (sym (next_row-over l n hs))
      (subst (λ (ts : List Token). Runs merge_steps (merger_at u l r held (Taking Both 0)) (take_row 0 (over (next_token n hs) 0 (suc l)) (take_row (suc l) ts rest)))
      (sym (next_row-over r n ks))
      (take-both u l r few held (next_token n hs) (next_token n ks) places rest f))

  -- the left is at its stop
  right-run : (n : ℕ) (ks : List Head) (rest : List Move) → Goes rest → (held : List Token)
      → Holds l r held (next_token n []) (next_token n ks) → Chooses u l r held (right_moves u l r n ks rest)
  right-run n [] rest go held h =
      put_both u l r few held (next_token n []) (next_token n []) h refl (λ p. Stop (pred n)) (λ p b. refl) (λ p b. refl) rest
      (go held h.places)
  right-run n (k ∷ ks) rest go held h =
      put_right u l r few held (next_token n []) (next_token n (k ∷ ks)) h refl (head_of l r k.0 [] k.1) refl
      (λ p b. joined-left l r (k.0, []) k.1 (suc p) (omega arith)) (λ p b. joined-right l r k.0 [] k p b)
      (take_row (suc l) (next_row r n ks) (right_moves u l r n ks rest))
      (next-right n ks held (next_token n []) (next_token n (k ∷ ks)) h (right_moves u l r n ks rest)
      (λ held' h'. right-run n ks rest go held' h'))

  -- the left has a head
  left-alone : (n : ℕ) (h : Head) (hs ks : List Head) (rest : List Move) (held : List Token)
      → Holds l r held (next_token n (h ∷ hs)) (next_token n ks) → sooner (Item h.0) (next_token n ks 0) ≡ Left
      → ((held' : List Token) → Holds l r held' (next_token n hs) (next_token n ks) → Chooses u l r held' rest)
      → Chooses u l r held (put_alone u (l + r) (head_of l r h.0 h.1 []) (take_row 0 (next_row l n hs) rest))
  left-alone n h hs ks rest held holds e f =
      put_left u l r few held (next_token n (h ∷ hs)) (next_token n ks) holds e (head_of l r h.0 h.1 [])
      (λ p b. joined-left l r h [] p b) (λ p b. joined-right l r h.0 h.1 (h.0, []) p b)
      (take_row 0 (next_row l n hs) rest)
      (next-left n hs held (next_token n (h ∷ hs)) (next_token n ks) holds rest f)

  right-alone : (n : ℕ) (h : Head) (hs : List Head) (k : Head) (ks : List Head) (rest : List Move) (held : List Token)
      → Holds l r held (next_token n (h ∷ hs)) (next_token n (k ∷ ks)) → sooner (Item h.0) (Item k.0) ≡ Right
      → ((held' : List Token) → Holds l r held' (next_token n (h ∷ hs)) (next_token n ks) → Chooses u l r held' rest)
      → Chooses u l r held (put_alone u (l + r) (head_of l r k.0 [] k.1) (take_row (suc l) (next_row r n ks) rest))
  right-alone n h hs k ks rest held holds e f =
      put_right u l r few held (next_token n (h ∷ hs)) (next_token n (k ∷ ks)) holds e (head_of l r k.0 [] k.1) refl
      (λ p b. joined-left l r (k.0, []) k.1 (suc p) (omega arith)) (λ p b. joined-right l r k.0 [] k p b)
      (take_row (suc l) (next_row r n ks) rest)
      (next-right n ks held (next_token n (h ∷ hs)) (next_token n (k ∷ ks)) holds rest f)

  both-there : (n : ℕ) (h : Head) (hs : List Head) (k : Head) (ks : List Head) (rest : List Move) (held : List Token)
      → Holds l r held (next_token n (h ∷ hs)) (next_token n (k ∷ ks)) → sooner (Item h.0) (Item k.0) ≡ Both
      → ((held' : List Token) → Holds l r held' (next_token n hs) (next_token n ks) → Chooses u l r held' rest)
      → Chooses u l r held (put_row 0 (row (l + r) (head_of l r h.0 h.1 k.1)) (take_row 0 (next_row l n hs) (take_row (suc l) (next_row r n ks) rest)))
  both-there n h hs k ks rest held holds e f =
      put_both u l r few held (next_token n (h ∷ hs)) (next_token n (k ∷ ks)) holds e (λ p. head_token p (head_of l r h.0 h.1 k.1))
      (λ p b. joined-left l r h k.1 p b) (λ p b. joined-right l r h.0 h.1 k p b)
      (take_row 0 (next_row l n hs) (take_row (suc l) (next_row r n ks) rest))
      (next-both n hs ks held holds.places rest f)

  along-run : (n : ℕ) (h : Head) (hs : List Head) (go : List Head → List Move)
      → ((ks : List Head) (held : List Token) → Holds l r held (next_token n hs) (next_token n ks) → Chooses u l r held (go ks))
      → (ks : List Head) (held : List Token) → Holds l r held (next_token n (h ∷ hs)) (next_token n ks)
      → Chooses u l r held (along_moves u l r n h hs go ks)
  along-run n h hs go goes [] held holds = left-alone n h hs [] (go []) held holds refl (goes [])
  along-run n h hs go goes (k ∷ ks) held holds = elim (cases_lt h.0 k.0) [
    | inl b ↦ rw (lt-true h.0 k.0 b)
        (left-alone n h hs (k ∷ ks) (go (k ∷ ks)) held holds (sooner-left h.0 k.0 b) (goes (k ∷ ks)))
    | inr b ↦ rw (lt-false h.0 k.0 b) (elim (cases_lt k.0 h.0) [
      | inl c ↦ rw (lt-true k.0 h.0 c)
          (right-alone n h hs k ks (along_moves u l r n h hs go ks) held holds (sooner-right h.0 k.0 c)
          (along-run n h hs go goes ks))
      | inr c ↦ rw (lt-false k.0 h.0 c)
          (both-there n h hs k ks (go ks) held holds (sooner-both h.0 k.0 b c) (goes ks))
    ])
  ]

  fiber-run : (n : ℕ) (hs : List Head) (rest : List Move) → Goes rest → (ks : List Head) (held : List Token)
      → Holds l r held (next_token n hs) (next_token n ks) → Chooses u l r held (fiber_merge u l r n hs rest ks)
  fiber-run n [] rest go ks held h = right-run n ks rest go held h
  fiber-run n (h ∷ hs) rest go ks held holds =
      along-run n h hs (fiber_merge u l r n hs rest) (fiber-run n hs rest go) ks held holds

  pub merge-run : (fs : List Sides) → Goes (merge_moves u l r fs)
  merge-run [] held places =
      take-both u l r few held (λ p. Done) (λ p. Done) places (put_all (suc (l + r)) Done [])
      (λ held' h. put_both u l r few held' (λ p. Done) (λ p. Done) h refl (λ p. Done) (λ p b. refl) (λ p b. refl) [] refl)
  merge-run (f ∷ fs) held places =
      next-both f.close f.left f.right held places (fiber_merge u l r f.close f.left (merge_moves u l r fs) f.right)
      (fiber-run f.close f.left (merge_moves u l r fs) (merge-run fs) f.right)
