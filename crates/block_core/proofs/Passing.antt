-- Moves that flow take their whole inputs and put their whole outputs.
use Rattle.std.specs.Prelude.{◌≡◌, ◌≤◌, ◌↔◌, ℕ, zero, suc, ◌+◌, Bool, List, [], ◌∷◌, length, take, drop, eqb, cond, true, false, refl}
use Rattle.std.proofs.Common.{arith, sym, ◌∙◌, ap, subst}
use Rattle.std.proofs.lemmas.Bool.Decides.{nat_tests}
use Rattle.stream_tokens.specs.declared.Token.{Token}
use Rattle.block_core.specs.declared.Wish.TheVariants.{Finished}
use Rattle.block_core.specs.Move.{Move, Taking, Putting, wish_of, takes, puts}
use Rattle.block_core.specs.Ports.{Streams, port}
use Rattle.block_core.specs.Flows.{NoTokens, Front, Flows, token_total, Through, Passes}

eqb-suc : (a b : ℕ) → eqb (suc a) (suc b) ≡ eqb a b
eqb-suc a b = grind (arith, nat_tests)

eqb-zero-suc : (b : ℕ) → eqb 0 (suc b) ≡ false
eqb-zero-suc b = grind (arith, nat_tests)

eqb-suc-zero : (a : ℕ) → eqb (suc a) 0 ≡ false
eqb-suc-zero a = grind (arith, nat_tests)

pub eqb-self : (a : ℕ) → eqb a a ≡ true
eqb-self a = grind (arith, nat_tests)

-- the streams after the first token of the one at port p, which is t
record Drawn (p : ℕ) (t : Token) (ss : Streams) (after : Streams → Type 0) : Type 0 where
  left : Streams
  by_ports : (q : ℕ) → cond (eqb p q) (t ∷ port q left) (port q left) ≡ port q ss
  number : token_total ss ≡ suc (token_total left)
  holds : after left

drawn : (p : ℕ) (t : Token) (ss : Streams) (after : Streams → Type 0) → Front p t ss after → Drawn p t ss after
drawn p t [] after h = absurd h
drawn zero t ([] ∷ ss) after h = absurd h
drawn zero t ((u ∷ s) ∷ ss) after h = record { left = s ∷ ss; by_ports = at; number = omega arith; holds = h.1 }
  where
    at : (q : ℕ) → cond (eqb 0 q) (t ∷ port q (s ∷ ss)) (port q (s ∷ ss)) ≡ port q ((u ∷ s) ∷ ss)
    at zero = ap (λ (x : Token). x ∷ s) (sym h.0)
    at (suc q) = ap (λ b. cond b (t ∷ port q ss) (port q ss)) (eqb-zero-suc q)
drawn (suc p) t (s ∷ ss) after h = from (drawn p t ss (λ r. after (s ∷ r)) h)
  where
    from : Drawn p t ss (λ r. after (s ∷ r)) → Drawn (suc p) t (s ∷ ss) after
    from d = record { left = s ∷ d.left; by_ports = at; number = omega (arith, d.number); holds = d.holds }
      where
        at : (q : ℕ) → cond (eqb (suc p) q) (t ∷ port q (s ∷ d.left)) (port q (s ∷ d.left)) ≡ port q (s ∷ ss)
        at zero = ap (λ b. cond b (t ∷ s) s) (eqb-suc-zero p)
        at (suc q) = ap (λ b. cond b (t ∷ port q d.left) (port q d.left)) (eqb-suc p q) ∙ d.by_ports q

none-at : (ss : Streams) (p : ℕ) → NoTokens ss → [] ≡ port p ss
none-at [] p h = refl
none-at ([] ∷ ss) zero h = refl
none-at ([] ∷ ss) (suc p) h = none-at ss p h
none-at ((t ∷ s) ∷ ss) p h = absurd h

none-in-all : (ss : Streams) → NoTokens ss → token_total ss ≡ 0
none-in-all [] h = refl
none-in-all ([] ∷ ss) h = omega (arith, none-in-all ss h)
none-in-all ((t ∷ s) ∷ ss) h = absurd h

-- what flows takes and puts everything
record Flowed (ins : Streams) (ms : List Move) (outs : Streams) : Type 0 where
  through : Through ins ms outs
  number : length ms ≡ token_total ins + token_total outs

flowed : (ms : List Move) (ins outs : Streams) → Flows ms ins outs → Flowed ins ms outs
flowed [] ins outs h = record {
  through = record { taken = λ p. none-at ins p h.0; put = λ p. none-at outs p h.1 };
  number = omega (arith, none-in-all ins h.0, none-in-all outs h.1);
}
flowed (Taking p t ∷ ms) ins outs h =
    let d : Drawn p t ins (λ r. Flows ms r outs) = drawn p t ins _ h in
    let more : Flowed d.left ms outs = flowed ms d.left outs d.holds in
    record {
      through = record {
        taken = λ q. ap (λ (x : List Token). cond (eqb p q) (t ∷ x) x) (more.through.taken q) ∙ d.by_ports q;
        put = more.through.put;
      };
      number = omega (arith, more.number, d.number);
    }
flowed (Putting p t ∷ ms) ins outs h =
    let d : Drawn p t outs (λ r. Flows ms ins r) = drawn p t outs _ h in
    let more : Flowed ins ms d.left = flowed ms ins d.left d.holds in
    record {
      through = record {
        taken = more.through.taken;
        put = λ q. ap (λ (x : List Token). cond (eqb p q) (t ∷ x) x) (more.through.put q) ∙ d.by_ports q;
      };
      number = omega (arith, more.number, d.number);
    }

-- ---- no fewer moves come to the end

same-port : (p : ℕ) (t : Token) (xs : List Token) → length (cond (eqb p p) (t ∷ xs) xs) ≡ suc (length xs)
same-port p t xs = ap (λ b. length (cond b (t ∷ xs) xs)) (eqb-self p)

other-move : (q p : ℕ) (t : Token) (xs ys : List Token) → cond (eqb q p) (t ∷ xs) xs ≡ cond (eqb q p) (t ∷ ys) ys → xs ≡ ys
other-move q p t xs ys = by_case (eqb q p)
  where
    by_case : (b : Bool) → cond b (t ∷ xs) xs ≡ cond b (t ∷ ys) ys → xs ≡ ys
    by_case true e = cc
    by_case false e = e

-- moves that take and put as much as their first n are no more than n
all-made : (ms : List Move) (n : ℕ) → ((p : ℕ) → takes p (take n ms) ≡ takes p ms) → ((p : ℕ) → puts p (take n ms) ≡ puts p ms)
    → wish_of (drop n ms) ≡ Finished
all-made [] zero a b = refl
all-made [] (suc n) a b = refl
all-made (Taking p t ∷ ms) zero a b =
    let e : length (takes p (Taking p t ∷ ms)) ≡ suc (length (takes p ms)) = same-port p t (takes p ms) in
    let z : 0 ≡ length (takes p (Taking p t ∷ ms)) = ap length (a p) in
    absurd (omega (arith, e, z))
all-made (Putting p t ∷ ms) zero a b =
    let e : length (puts p (Putting p t ∷ ms)) ≡ suc (length (puts p ms)) = same-port p t (puts p ms) in
    let z : 0 ≡ length (puts p (Putting p t ∷ ms)) = ap length (b p) in
    absurd (omega (arith, e, z))
all-made (Taking p t ∷ ms) (suc n) a b =
    all-made ms n (λ q. other-move p q t (takes q (take n ms)) (takes q ms) (a q)) b
all-made (Putting p t ∷ ms) (suc n) a b =
    all-made ms n a (λ q. other-move p q t (puts q (take n ms)) (puts q ms) (b q))

nothing-left : (ms : List Move) → wish_of ms ≡ Finished → ms ≡ []
nothing-left [] e = refl
nothing-left (Taking p t ∷ ms) e = absurd (cc)
nothing-left (Putting p t ∷ ms) e = absurd (cc)

take-all : (ms : List Move) (n : ℕ) → n ≤ length ms → drop n ms ≡ [] → take n ms ≡ ms
take-all [] zero b e = refl
take-all [] (suc n) b e = refl
take-all (m ∷ ms) zero b e = absurd (cc)
take-all (m ∷ ms) (suc n) b e = ap (λ (x : List Move). m ∷ x) (take-all ms n (omega (arith, b)) e)

ends-there : (ins outs : Streams) (ms : List Move) → Through ins ms outs → (n : ℕ) → n ≤ length ms
    → (wish_of (drop n ms) ≡ Finished) ↔ Through ins (take n ms) outs
ends-there ins outs ms w n b = (
  λ e. subst (λ (x : List Move). Through ins x outs) (sym (take-all ms n b (nothing-left (drop n ms) e))) w,
  λ v. all-made ms n (λ p. v.taken p ∙ sym (w.taken p)) (λ p. v.put p ∙ sym (w.put p)),
)

pub flows-pass : (ms : List Move) (ins outs : Streams) → Flows ms ins outs → Passes ins ms outs
flows-pass ms ins outs h =
    let f : Flowed ins ms outs = flowed ms ins outs h in
    record { through = f.through; number = f.number; ends = ends-there ins outs ms f.through }
