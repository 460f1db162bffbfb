-- The moves of fill flow.
use Rattle.std.specs.Prelude.{◌≡◌, ℕ, zero, suc, ◌+◌, Bool, true, false, List, [], ◌∷◌, ◌++◌, length, Some, None, refl}
use mathlib.Core.List.{map}
use Rattle.std.proofs.Common.{sym, subst}
use Rattle.stream_tokens.specs.declared.Token.{Token}
use Rattle.stream_tokens.specs.declared.Token.TheVariants.{Stop, Done}
use Rattle.stream_tokens.specs.Nest.{Fiber}
use Rattle.stream_tokens.specs.Flat.{fiber_tokens, flat}
use Rattle.stream_tokens.specs.Shapes.{Positive, under}
use Rattle.block_core.specs.Move.{Move, Taking, columns}
use Rattle.block_core.specs.Ports.{Streams}
use Rattle.block_core.specs.Fill.{Serving, ServedPlace, Filling, place_token, stop_tokens, skips_at, head_item, stop_at, served_tokens, tail_at, port_tokens, served, parting_all, take_stops, past_takes, more_moves, serve, fill_places, fill_moves, fill_inputs, fill_outputs}
use Rattle.block_core.specs.Flows.{Flows}
use Rattle.block_core.proofs.Rows.{none-over, front-at, next-at, moved, take-last, put-across}
use Rattle.block_core.proofs.After.{after, after-under}

-- the stops of one port, then what follows there
stops-taken : (before more : Streams) (ss : List ℕ) (s : List Token) (rest : List Move) (outs : Streams)
    → Flows rest (before ++ s ∷ more) outs → Flows (take_stops (length before) ss rest) (before ++ stop_tokens ss s ∷ more) outs
stops-taken before more [] s rest outs h = h
stops-taken before more (n ∷ ss) s rest outs h =
    front-at before (Stop n) (stop_tokens ss s) more (λ r. Flows (take_stops (length before) ss rest) r outs) (stops-taken before more ss s rest outs h)

-- the stops and then a token of each port
past-flows : (n p b : ℕ) (stops : ℕ → List ℕ) (t : ℕ → Token) (f : ℕ → List Token) (before : Streams) (rest : List Move) (outs : Streams)
    → b ≡ length before → Flows rest (before ++ columns f p n) outs
    → Flows (past_takes stops t b p n rest) (before ++ columns (λ q. stop_tokens (stops q) (t q ∷ f q)) p n) outs
past-flows zero p b stops t f before rest outs e h = h
past-flows (suc n) p b stops t f before rest outs e h =
    let others = columns (λ q. stop_tokens (stops q) (t q ∷ f q)) (suc p) n in
    let h' : Flows rest ((before ++ f p ∷ []) ++ columns f (suc p) n) outs =
    subst (λ (x : Streams). Flows rest x outs) (sym (moved before (f p) (columns f (suc p) n))) h in
    let next : Flows (past_takes stops t (b + 1) (suc p) n rest) ((before ++ f p ∷ []) ++ columns (λ q. stop_tokens (stops q) (t q ∷ f q)) (suc p) n) outs =
    past-flows n (suc p) (b + 1) stops t f (before ++ f p ∷ []) rest outs (next-at before b (f p) e) h' in
    let next' : Flows (past_takes stops t (b + 1) (suc p) n rest) (before ++ f p ∷ columns (λ q. stop_tokens (stops q) (t q ∷ f q)) (suc p) n) outs =
    subst (λ (x : Streams). Flows (past_takes stops t (b + 1) (suc p) n rest) x outs) (moved before (f p) others) next in
    let token : Flows (Taking (length before) (t p) ∷ past_takes stops t (b + 1) (suc p) n rest)
    (before ++ (t p ∷ f p) ∷ columns (λ q. stop_tokens (stops q) (t q ∷ f q)) (suc p) n) outs =
    front-at before (t p) (f p) others (λ r. Flows (past_takes stops t (b + 1) (suc p) n rest) r outs) next' in
    subst (λ (x : ℕ). Flows (take_stops x (stops p) (Taking x (t p) ∷ past_takes stops t (b + 1) (suc p) n rest))
    (before ++ columns (λ q. stop_tokens (stops q) (t q ∷ f q)) p (suc n)) outs)
    (sym e) (stops-taken before others (stops p) (t p ∷ f p) (Taking (length before) (t p) ∷ past_takes stops t (b + 1) (suc p) n rest) outs token)

-- heads after the first; m is what is left of the presence
more-flow : (w : ℕ) (hs : List (List ℕ)) (m : List Token) (x o : ℕ → List Token) (rest : List Move)
    → Flows rest (m ∷ columns x 0 w) (columns o 0 w)
    → Flows (more_moves w hs rest) (m ∷ columns (λ p. fiber_tokens (head_item p) hs (x p)) 0 w) (columns (λ p. fiber_tokens (head_item p) hs (o p)) 0 w)
more-flow w [] m x o rest f = f
more-flow w (h ∷ hs) m x o rest f =
    take-last w 0 1 (λ p. head_item p h) (λ p. fiber_tokens (head_item p) hs (x p)) (m ∷ []) _ _ refl
    (put-across w 0 (λ p. head_item p h) (λ p. fiber_tokens (head_item p) hs (o p)) _ _ (more-flow w hs m x o rest f))

serve-flow : (w : ℕ) (s : Serving) (m : List Token) (x o : ℕ → List Token) (rest : List Move)
    → Flows rest (m ∷ columns x 0 w) (columns o 0 w)
    → Flows (serve w s rest)
    (m ∷ columns (λ p. stop_tokens (skips_at s p) (fiber_tokens (head_item p) (s.first ∷ s.more) (stop_at s p ∷ x p))) 0 w)
    (columns (λ p. fiber_tokens (head_item p) (s.first ∷ s.more) (o p)) 0 w)
serve-flow w s m x o rest f =
    past-flows w 0 1 (skips_at s) (λ p. head_item p s.first) (λ p. fiber_tokens (head_item p) s.more (stop_at s p ∷ x p)) (m ∷ []) _ _ refl
    (put-across w 0 (λ p. head_item p s.first) (λ p. fiber_tokens (head_item p) s.more (o p)) _ _
    (more-flow w s.more m (λ p. stop_at s p ∷ x p) o _ (take-last w 0 1 (stop_at s) x (m ∷ []) rest _ refl f)))

-- a stop 0 after others
opened-flow : (w : ℕ) (more : Bool) (xs : List (List ℕ)) (ys : List (List (List ℕ))) (n : ℕ) (o : ℕ → List Token) (rest : List Move) (ins : Streams)
    → Flows rest ins (columns (λ p. fiber_tokens (head_item p) xs (after (head_item p) true ys n (o p))) 0 w)
    → Flows (parting_all w more rest) ins (columns (λ p. after (head_item p) more (xs ∷ ys) n (o p)) 0 w)
opened-flow w true xs ys n o rest ins f = put-across w 0 (λ _. Stop 0) (λ p. fiber_tokens (head_item p) xs (after (head_item p) true ys n (o p))) rest ins f
opened-flow w false xs ys n o rest ins f = f

places-flow : (w k : ℕ) (more : Bool) (xs : List ServedPlace) (m : List Token) (x o : ℕ → List Token) (rest : List Move)
    → Flows rest (m ∷ columns x 0 w) (columns o 0 w)
    → Flows (fill_places w (suc k) more xs rest) (fiber_tokens place_token xs (Stop k ∷ m) ∷ columns (λ p. served_tokens p xs (x p)) 0 w)
    (columns (λ p. after (head_item p) more (map served xs) (suc k) (o p)) 0 w)
places-flow w k more [] m x o rest f = (refl, put-across w 0 (λ _. Stop (suc k)) o rest _ f)
places-flow w k more (None ∷ xs) m x o rest f =
    (refl, opened-flow w more [] (map served xs) (suc k) o _ _ (places-flow w k true xs m x o rest f))
places-flow w k more (Some s ∷ xs) m x o rest f = (
  refl,
  opened-flow w more (s.1.first ∷ s.1.more) (map served xs) (suc k) o _ _
      (serve-flow w s.1 _ (λ p. served_tokens p xs (x p)) (λ p. after (head_item p) true (map served xs) (suc k) (o p)) _ (places-flow w k true xs m x o rest f)),
)

columns-ext : (f g : ℕ → List Token) → ((p : ℕ) → f p ≡ g p) → (p n : ℕ) → columns f p n ≡ columns g p n
columns-ext f g e p zero = refl
columns-ext f g e p (suc n) = rw (e p, columns-ext f g e (suc p) n) refl

fill-all : (w : ℕ) (tails : List (List ℕ)) (fs : List (Fiber ServedPlace)) → Positive fs
    → Flows (fill_moves w tails fs) (flat place_token fs ∷ columns (λ p. port_tokens tails p fs) 0 w) (columns (λ p. flat (head_item p) (under served fs)) 0 w)
fill-all w tails [] c = (
  refl,
  past-flows w 0 1 (tail_at tails) (λ _. Done) (λ _. []) ([] ∷ []) _ _ refl
      (put-across w 0 (λ _. Done) (λ _. []) [] _ (none-over 0 w, none-over 0 w)),
)
fill-all w tails ((xs, n) ∷ fs) c =
    let k = c.0.0 in
    let f : Flows (fill_moves w tails ((xs, suc k) ∷ fs)) (flat place_token ((xs, suc k) ∷ fs) ∷ columns (λ p. port_tokens tails p ((xs, suc k) ∷ fs)) 0 w)
    (columns (λ p. after (head_item p) false (map served xs) (suc k) (flat (head_item p) (under served fs))) 0 w) =
    places-flow w k false xs (flat place_token fs) (λ p. port_tokens tails p fs) (λ p. flat (head_item p) (under served fs)) (fill_moves w tails fs)
    (fill-all w tails fs c.1) in
    let g : Flows (fill_moves w tails ((xs, suc k) ∷ fs)) (flat place_token ((xs, suc k) ∷ fs) ∷ columns (λ p. port_tokens tails p ((xs, suc k) ∷ fs)) 0 w)
    (columns (λ p. flat (head_item p) (under served ((xs, suc k) ∷ fs))) 0 w) =
    subst (λ (x : Streams). Flows (fill_moves w tails ((xs, suc k) ∷ fs)) (flat place_token ((xs, suc k) ∷ fs) ∷ columns (λ p. port_tokens tails p ((xs, suc k) ∷ fs)) 0 w) x)
    (columns-ext _ _ (λ p. after-under (head_item p) served xs (suc k) fs) 0 w) f in
    subst (λ (x : ℕ). Flows (fill_moves w tails ((xs, x) ∷ fs)) (flat place_token ((xs, x) ∷ fs) ∷ columns (λ p. port_tokens tails p ((xs, x) ∷ fs)) 0 w)
    (columns (λ p. flat (head_item p) (under served ((xs, x) ∷ fs))) 0 w)) (sym c.0.1) g

pub fill-flows : (payloads : ℕ) (j : Filling) → Positive j.fibers
    → Flows (fill_moves (suc payloads) j.tails j.fibers) (fill_inputs payloads j) (fill_outputs payloads j)
fill-flows payloads j c = fill-all (suc payloads) j.tails j.fibers c
