-- The counts of ends as moves are made.
use Rattle.std.proofs.Common.{◌≡◌, ℕ, suc, ◌+◌, cond, List, [], ◌∷◌, ◌++◌, length, take, drop, set, refl, sym, ap, ◌∙◌, arith, ⊎_elim, length-append}
use Rattle.std.specs.Prelude.{Some, slice_get}
use Rattle.std.proofs.lemmas.Bool.{cases_eq, eq-eqb}
use Rattle.std.proofs.lemmas.Option.{slice_get_within}
use Rattle.stream_tokens.specs.declared.Token.{Token}
use Rattle.block_core.specs.Move.{Move, Taking, Putting, takes, puts}
use Rattle.block_core.proofs.Standing.{drop-at}
use Rattle.plays.proofs.Lists.{same_some, get_set_here, get_set_there}
use Rattle.plays.proofs.Moves.{takes_more, puts_more, takes_split, puts_split, takes_here, takes_there, puts_here, puts_there}
use Rattle.ruled_wires.specs.declared.message.Sent.TheVariants as sent
use Rattle.ruled_wires.specs.Ends.{End, after_message, keeping}
use Rattle.block_threads.specs.Working.{HaveCounts, taken_after, put_after}

-- one end counts one more
pub counts_set : (f f' : ℕ → ℕ) (es : List End) (p k : ℕ) (e : End) (t : Token) → HaveCounts f es → slice_get es p ≡ Some e
    → f' p ≡ f p + 1 → ((q : ℕ) → (q ≡ p → ⊥) → f' q ≡ f q) → HaveCounts f' (set es p (keeping k (after_message e (sent.Token t))))
counts_set f f' es p k e t have at here there q x is =
    ⊎_elim (λ (same : q ≡ p).
    let y : End = keeping k (after_message e (sent.Token t)) in
    let are : y ≡ x = same_some y x (sym (get_set_here es p y (slice_get_within es p e at)) ∙ ap (slice_get (set es p y)) (sym same) ∙ is) in
    let was = have p e at in
    (ap (λ (z : End). z.count) (sym are) ∙ ap (λ c. c + 1) was.0 ∙ sym here ∙ ap f' (sym same), ap (λ (z : End). z.lost) (sym are) ∙ was.1))
    (λ (other : q ≡ p → ⊥).
    let was = have q x (sym (get_set_there es p q (keeping k (after_message e (sent.Token t))) other) ∙ is) in
    (was.0 ∙ sym (there q other), was.1)) (cases_eq q p)

pub counts_same : (f f' : ℕ → ℕ) (es : List End) → HaveCounts f es → ((q : ℕ) → f' q ≡ f q) → HaveCounts f' es
counts_same f f' es have same q x is = let was = have q x is in (was.0 ∙ sym (same q), was.1)

module _ (ms : List Move) (n p : ℕ) (t : Token) where
  one_more : suc n ≡ n + 1
  one_more = omega arith

  pub take_counts : slice_get ms n ≡ Some (Taking p t) → taken_after ms (n + 1) p ≡ taken_after ms n p + 1
  take_counts at =
      ap (λ k. length (takes p (take k ms))) (sym one_more) ∙ ap length (takes_more p ms n (Taking p t) at)
      ∙ ap (λ l. length (takes p (take n ms) ++ l)) (takes_here p t) ∙ length-append (takes p (take n ms)) (t ∷ [])

  pub take_counts_there : slice_get ms n ≡ Some (Taking p t) → (q : ℕ) → (q ≡ p → ⊥) → taken_after ms (n + 1) q ≡ taken_after ms n q
  take_counts_there at q other =
      ap (λ k. length (takes q (take k ms))) (sym one_more) ∙ ap length (takes_more q ms n (Taking p t) at)
      ∙ ap (λ l. length (takes q (take n ms) ++ l)) (takes_there q p t (λ e. other (sym e))) ∙ (length-append (takes q (take n ms)) [] ∙ omega arith)

  pub take_puts : slice_get ms n ≡ Some (Taking p t) → (q : ℕ) → put_after ms (n + 1) q ≡ put_after ms n q
  take_puts at q =
      ap (λ k. length (puts q (take k ms))) (sym one_more) ∙ ap length (puts_more q ms n (Taking p t) at) ∙ (length-append (puts q (take n ms)) [] ∙ omega arith)

  pub put_counts : slice_get ms n ≡ Some (Putting p t) → put_after ms (n + 1) p ≡ put_after ms n p + 1
  put_counts at =
      ap (λ k. length (puts p (take k ms))) (sym one_more) ∙ ap length (puts_more p ms n (Putting p t) at)
      ∙ ap (λ l. length (puts p (take n ms) ++ l)) (puts_here p t) ∙ length-append (puts p (take n ms)) (t ∷ [])

  pub put_counts_there : slice_get ms n ≡ Some (Putting p t) → (q : ℕ) → (q ≡ p → ⊥) → put_after ms (n + 1) q ≡ put_after ms n q
  put_counts_there at q other =
      ap (λ k. length (puts q (take k ms))) (sym one_more) ∙ ap length (puts_more q ms n (Putting p t) at)
      ∙ ap (λ l. length (puts q (take n ms) ++ l)) (puts_there q p t (λ e. other (sym e))) ∙ (length-append (puts q (take n ms)) [] ∙ omega arith)

  pub put_takes : slice_get ms n ≡ Some (Putting p t) → (q : ℕ) → taken_after ms (n + 1) q ≡ taken_after ms n q
  put_takes at q =
      ap (λ k. length (takes q (take k ms))) (sym one_more) ∙ ap length (takes_more q ms n (Putting p t) at) ∙ (length-append (takes q (take n ms)) [] ∙ omega arith)

  behind : (xs ys : List Token) (u : Token) → slice_get (xs ++ u ∷ ys) (length xs) ≡ Some u
  behind [] ys u = refl
  behind (x ∷ xs) ys u = behind xs ys u

  -- the next token that is taken or put
  pub take_token : slice_get ms n ≡ Some (Taking p t) → slice_get (takes p ms) (taken_after ms n p) ≡ Some t
  take_token at =
      ap (λ l. slice_get l (taken_after ms n p)) (sym (takes_split p n ms) ∙ ap (λ l. takes p (take n ms) ++ takes p l) (drop-at ms n (Taking p t) at)
      ∙ ap (λ b. takes p (take n ms) ++ cond b (t ∷ takes p (drop (suc n) ms)) (takes p (drop (suc n) ms))) (eq-eqb p p refl))
      ∙ behind (takes p (take n ms)) (takes p (drop (suc n) ms)) t

  pub put_token : slice_get ms n ≡ Some (Putting p t) → slice_get (puts p ms) (put_after ms n p) ≡ Some t
  put_token at =
      ap (λ l. slice_get l (put_after ms n p)) (sym (puts_split p n ms) ∙ ap (λ l. puts p (take n ms) ++ puts p l) (drop-at ms n (Putting p t) at)
      ∙ ap (λ b. puts p (take n ms) ++ cond b (t ∷ puts p (drop (suc n) ms)) (puts p (drop (suc n) ms))) (eq-eqb p p refl))
      ∙ behind (puts p (take n ms)) (puts p (drop (suc n) ms)) t
