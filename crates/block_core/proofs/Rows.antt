-- A row of tokens, one for each of several neighbouring ports, taken from or put on the fronts of their streams.
use Rattle.std.specs.Prelude.{◌≡◌, ℕ, zero, suc, ◌+◌, List, [], ◌∷◌, ◌++◌, length, refl}
use Rattle.std.proofs.Common.{arith, sym, ap, subst, append_assoc, append-nil, length-append}
use Rattle.stream_tokens.specs.declared.Token.{Token}
use Rattle.block_core.specs.Move.{Move, take_row, put_row, over, across, columns}
use Rattle.block_core.specs.Ports.{Streams}
use Rattle.block_core.specs.Flows.{NoTokens, Front, Flows}

pub length-over : {A : Type 0} (x : ℕ → A) (p n : ℕ) → length (over x p n) ≡ n
length-over x p zero = refl
length-over x p (suc n) = ap suc (length-over x (suc p) n)

-- empty streams
pub none-over : (p n : ℕ) → NoTokens (columns (λ _. []) p n)
none-over p zero = tt
none-over p (suc n) = none-over (suc p) n

-- a token before a stream that has as many streams before it as the port says
pub front-at : (before : Streams) (t : Token) (s : List Token) (ss : Streams) (after : Streams → Type 0)
    → after (before ++ s ∷ ss) → Front (length before) t (before ++ (t ∷ s) ∷ ss) after
front-at [] t s ss after h = (refl, h)
front-at (b ∷ bs) t s ss after h = front-at bs t s ss (λ r. after (b ∷ r)) h

pub next-at : (before : Streams) (b : ℕ) (s : List Token) → b ≡ length before → b + 1 ≡ length (before ++ s ∷ [])
next-at before b s e = omega (arith, e, length-append before (s ∷ []))

pub moved : (before : Streams) (s : List Token) (ss : Streams) → (before ++ s ∷ []) ++ ss ≡ before ++ s ∷ ss
moved before s ss = append_assoc before (s ∷ []) ss

-- with streams before the row's and after them
pub take-row : (w p b : ℕ) (t : ℕ → Token) (f : ℕ → List Token) (before post : Streams) (rest : List Move) (outs : Streams)
    → b ≡ length before → Flows rest (before ++ (columns f p w ++ post)) outs
    → Flows (take_row b (over t p w) rest) (before ++ (columns (λ q. t q ∷ f q) p w ++ post)) outs
take-row zero p b t f before post rest outs e h = h
take-row (suc w) p b t f before post rest outs e h =
    let h' : Flows rest ((before ++ f p ∷ []) ++ (columns f (suc p) w ++ post)) outs =
    subst (λ (x : Streams). Flows rest x outs) (sym (moved before (f p) (columns f (suc p) w ++ post))) h in
    let more : Flows (take_row (b + 1) (over t (suc p) w) rest) ((before ++ f p ∷ []) ++ (columns (λ q. t q ∷ f q) (suc p) w ++ post)) outs =
    take-row w (suc p) (b + 1) t f (before ++ f p ∷ []) post rest outs (next-at before b (f p) e) h' in
    let more' : Flows (take_row (b + 1) (over t (suc p) w) rest) (before ++ f p ∷ (columns (λ q. t q ∷ f q) (suc p) w ++ post)) outs =
    subst (λ (x : Streams). Flows (take_row (b + 1) (over t (suc p) w) rest) x outs) (moved before (f p) (columns (λ q. t q ∷ f q) (suc p) w ++ post)) more in
    subst (λ (x : ℕ). Front x (t p) (before ++ (t p ∷ f p) ∷ (columns (λ q. t q ∷ f q) (suc p) w ++ post)) (λ r. Flows (take_row (b + 1) (over t (suc p) w) rest) r outs))
    (sym e) (front-at before (t p) (f p) _ (λ r. Flows (take_row (b + 1) (over t (suc p) w) rest) r outs) more')

pub put-row : (w p b : ℕ) (t : ℕ → Token) (f : ℕ → List Token) (before post : Streams) (rest : List Move) (ins : Streams)
    → b ≡ length before → Flows rest ins (before ++ (columns f p w ++ post))
    → Flows (put_row b (over t p w) rest) ins (before ++ (columns (λ q. t q ∷ f q) p w ++ post))
put-row zero p b t f before post rest ins e h = h
put-row (suc w) p b t f before post rest ins e h =
    let h' : Flows rest ins ((before ++ f p ∷ []) ++ (columns f (suc p) w ++ post)) =
    subst (λ (x : Streams). Flows rest ins x) (sym (moved before (f p) (columns f (suc p) w ++ post))) h in
    let more : Flows (put_row (b + 1) (over t (suc p) w) rest) ins ((before ++ f p ∷ []) ++ (columns (λ q. t q ∷ f q) (suc p) w ++ post)) =
    put-row w (suc p) (b + 1) t f (before ++ f p ∷ []) post rest ins (next-at before b (f p) e) h' in
    let more' : Flows (put_row (b + 1) (over t (suc p) w) rest) ins (before ++ f p ∷ (columns (λ q. t q ∷ f q) (suc p) w ++ post)) =
    subst (λ (x : Streams). Flows (put_row (b + 1) (over t (suc p) w) rest) ins x) (moved before (f p) (columns (λ q. t q ∷ f q) (suc p) w ++ post)) more in
    subst (λ (x : ℕ). Front x (t p) (before ++ (t p ∷ f p) ∷ (columns (λ q. t q ∷ f q) (suc p) w ++ post)) (λ r. Flows (put_row (b + 1) (over t (suc p) w) rest) ins r))
    (sym e) (front-at before (t p) (f p) _ (λ r. Flows (put_row (b + 1) (over t (suc p) w) rest) ins r) more')

-- from the first port on, with streams after the row's
pub take-across : (w p : ℕ) (t : ℕ → Token) (f : ℕ → List Token) (post : Streams) (rest : List Move) (outs : Streams)
    → Flows rest (columns f p w ++ post) outs
    → Flows (take_row 0 (across t p w) rest) (columns (λ q. t q ∷ f q) p w ++ post) outs
take-across w p t f post rest outs h = take-row w p 0 t f [] post rest outs refl h

-- on the last ports, after the streams of the others
pub take-last : (w p b : ℕ) (t : ℕ → Token) (f : ℕ → List Token) (before : Streams) (rest : List Move) (outs : Streams)
    → b ≡ length before → Flows rest (before ++ columns f p w) outs
    → Flows (take_row b (across t p w) rest) (before ++ columns (λ q. t q ∷ f q) p w) outs
take-last w p b t f before rest outs e h =
    let h' : Flows rest (before ++ (columns f p w ++ [])) outs =
    subst (λ (x : Streams). Flows rest (before ++ x) outs) (sym (append-nil (columns f p w))) h in
    subst (λ (x : Streams). Flows (take_row b (across t p w) rest) (before ++ x) outs) (append-nil (columns (λ q. t q ∷ f q) p w))
    (take-row w p b t f before [] rest outs e h')

-- on all outputs
pub put-across : (w p : ℕ) (t : ℕ → Token) (f : ℕ → List Token) (rest : List Move) (ins : Streams)
    → Flows rest ins (columns f p w)
    → Flows (put_row 0 (across t p w) rest) ins (columns (λ q. t q ∷ f q) p w)
put-across w p t f rest ins h =
    let h' : Flows rest ins (columns f p w ++ []) = subst (λ (x : Streams). Flows rest ins x) (sym (append-nil (columns f p w))) h in
    subst (λ (x : Streams). Flows (put_row 0 (across t p w) rest) ins x) (append-nil (columns (λ q. t q ∷ f q) p w))
    (put-row w p 0 t f [] [] rest ins refl h')
