-- What an event does to the tokens of each channel.
use Rattle.std.specs.Prelude.{◌≡◌, ℕ, suc, ◌<◌, Bool, cond, List, [], ◌∷◌, ◌++◌, take, slice_get, Some}
use Rattle.std.proofs.Common.{refl, sym, ◌∙◌, ap, subst, append-nil, inl, inr}
use Rattle.std.proofs.lemmas.Bool.{eq-eqb, ne_eqb, cases_eq}
use Rattle.stream_tokens.specs.declared.Token.{Token}
use Rattle.block_core.specs.Move.{Move, Taking, Putting, takes, puts}
use Rattle.plays.specs.Net.{Net, State, Wired, raise, sent, got}
use Rattle.plays.proofs.Moves.{takes_here, takes_there, puts_here, puts_there, takes_more, puts_more}

-- the block that moves has one move more, and no other has
pub raise_here : (b : ℕ) (s : State) → raise b s b ≡ suc (s b)
raise_here b s = ap (λ (y : Bool). cond y (suc (s b)) (s b)) (eq-eqb b b refl)

pub raise_there : (b : ℕ) (s : State) (x : ℕ) → (x ≡ b → ⊥) → raise b s x ≡ s x
raise_there b s x other = ap (λ (y : Bool). cond y (suc (s x)) (s x)) (ne_eqb x b other)

-- a fact of one number and of each other is one of all
pub by_one : (P : ℕ → Type 0) (n : ℕ) → P n → ((x : ℕ) → (x ≡ n → ⊥) → P x) → (x : ℕ) → P x
by_one P n here there x = elim (cases_eq x n) [ inl e ↦ subst P (sym e) here | inr other ↦ there x other ]

-- ---- a channel of the block that moves, by the tokens of its move

sent_by : (net : Net) (s : State) (b c : ℕ) (m : Move) → slice_get (net.moves b) (s b) ≡ Some m → net.sender c ≡ b
    → sent net (raise b s) c ≡ sent net s c ++ puts (net.sent_at c) (m ∷ [])
sent_by net s b c m e at =
    let next : slice_get (net.moves (net.sender c)) (s (net.sender c)) ≡ Some m = subst (λ x. slice_get (net.moves x) (s x) ≡ Some m) (sym at) e in
    let one : raise b s (net.sender c) ≡ suc (s (net.sender c)) = subst (λ x. raise b s x ≡ suc (s x)) (sym at) (raise_here b s) in
    ap (λ n. puts (net.sent_at c) (take n (net.moves (net.sender c)))) one
    ∙ puts_more (net.sent_at c) (net.moves (net.sender c)) (s (net.sender c)) m next

got_by : (net : Net) (s : State) (b c : ℕ) (m : Move) → slice_get (net.moves b) (s b) ≡ Some m → net.receiver c ≡ b
    → got net (raise b s) c ≡ got net s c ++ takes (net.received_at c) (m ∷ [])
got_by net s b c m e at =
    let next : slice_get (net.moves (net.receiver c)) (s (net.receiver c)) ≡ Some m = subst (λ x. slice_get (net.moves x) (s x) ≡ Some m) (sym at) e in
    let one : raise b s (net.receiver c) ≡ suc (s (net.receiver c)) = subst (λ x. raise b s x ≡ suc (s x)) (sym at) (raise_here b s) in
    ap (λ n. takes (net.received_at c) (take n (net.moves (net.receiver c)))) one
    ∙ takes_more (net.received_at c) (net.moves (net.receiver c)) (s (net.receiver c)) m next

-- a channel on which the move puts nothing, or from which it takes nothing, is as before
sent_same : (net : Net) (s : State) (b c : ℕ) (m : Move) → slice_get (net.moves b) (s b) ≡ Some m
    → (net.sender c ≡ b → puts (net.sent_at c) (m ∷ []) ≡ []) → sent net (raise b s) c ≡ sent net s c
sent_same net s b c m e none = elim (cases_eq (net.sender c) b) [
  | inl at ↦ sent_by net s b c m e at ∙ ap (λ (z : List Token). sent net s c ++ z) (none at) ∙ append-nil (sent net s c)
  | inr apart ↦ ap (λ n. puts (net.sent_at c) (take n (net.moves (net.sender c)))) (raise_there b s (net.sender c) apart)
]

got_same : (net : Net) (s : State) (b c : ℕ) (m : Move) → slice_get (net.moves b) (s b) ≡ Some m
    → (net.receiver c ≡ b → takes (net.received_at c) (m ∷ []) ≡ []) → got net (raise b s) c ≡ got net s c
got_same net s b c m e none = elim (cases_eq (net.receiver c) b) [
  | inl at ↦ got_by net s b c m e at ∙ ap (λ (z : List Token). got net s c ++ z) (none at) ∙ append-nil (got net s c)
  | inr apart ↦ ap (λ n. takes (net.received_at c) (take n (net.moves (net.receiver c)))) (raise_there b s (net.receiver c) apart)
]

-- ---- a put

-- its channel has the token at the end
pub sent_put : (net : Net) (s : State) (b p : ℕ) (t : Token) → Wired net → slice_get (net.moves b) (s b) ≡ Some (Putting p t)
    → sent net (raise b s) (net.out_of b p) ≡ sent net s (net.out_of b p) ++ t ∷ []
sent_put net s b p t w e =
    let c = net.out_of b p in
    let at : (net.sender c ≡ b) × (net.sent_at c ≡ p) × (c < net.channels) = w.put b (s b) p t e in
    sent_by net s b c (Putting p t) e at.0
    ∙ ap (λ q. sent net s c ++ puts q (Putting p t ∷ [])) at.1 ∙ ap (λ (z : List Token). sent net s c ++ z) (puts_here p t)

-- each other channel has the same tokens
pub sent_put_there : (net : Net) (s : State) (b p : ℕ) (t : Token) (c : ℕ) → Wired net → slice_get (net.moves b) (s b) ≡ Some (Putting p t)
    → c < net.channels → (c ≡ net.out_of b p → ⊥) → sent net (raise b s) c ≡ sent net s c
sent_put_there net s b p t c w e l other = sent_same net s b c (Putting p t) e (λ at.
    puts_there (net.sent_at c) p t (λ z. other (sym (w.came c l).0 ∙ ap (λ x. net.out_of x (net.sent_at c)) at ∙ ap (net.out_of b) (sym z))))

-- nothing is taken
pub got_put : (net : Net) (s : State) (b p : ℕ) (t : Token) (c : ℕ) → slice_get (net.moves b) (s b) ≡ Some (Putting p t)
    → got net (raise b s) c ≡ got net s c
got_put net s b p t c e = got_same net s b c (Putting p t) e (λ _. refl)

-- ---- a take

pub got_take : (net : Net) (s : State) (b p : ℕ) (t : Token) → Wired net → slice_get (net.moves b) (s b) ≡ Some (Taking p t)
    → got net (raise b s) (net.into b p) ≡ got net s (net.into b p) ++ t ∷ []
got_take net s b p t w e =
    let c = net.into b p in
    let at : (net.receiver c ≡ b) × (net.received_at c ≡ p) × (c < net.channels) = w.taken b (s b) p t e in
    got_by net s b c (Taking p t) e at.0
    ∙ ap (λ q. got net s c ++ takes q (Taking p t ∷ [])) at.1 ∙ ap (λ (z : List Token). got net s c ++ z) (takes_here p t)

pub got_take_there : (net : Net) (s : State) (b p : ℕ) (t : Token) (c : ℕ) → Wired net → slice_get (net.moves b) (s b) ≡ Some (Taking p t)
    → c < net.channels → (c ≡ net.into b p → ⊥) → got net (raise b s) c ≡ got net s c
got_take_there net s b p t c w e l other = got_same net s b c (Taking p t) e (λ at.
    takes_there (net.received_at c) p t (λ z. other (sym (w.received c l).0 ∙ ap (λ x. net.into x (net.received_at c)) at ∙ ap (net.into b) (sym z))))

-- nothing is put
pub sent_take : (net : Net) (s : State) (b p : ℕ) (t : Token) (c : ℕ) → slice_get (net.moves b) (s b) ≡ Some (Taking p t)
    → sent net (raise b s) c ≡ sent net s c
sent_take net s b p t c e = sent_same net s b c (Taking p t) e (λ _. refl)
