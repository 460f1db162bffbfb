-- When no block waits for a placed one, all are placed if a rank rises, and the order leads forwards if all are placed.
use Rattle.std.specs.Prelude.{◌≡◌, ◌<◌, ◌≤◌, ℕ, zero, suc, ◌+◌, Bool, true, false, cond, List, [], ◌∷◌, length, get_or, take, eqb, refl}
use Rattle.std.proofs.Common.{◌⊎◌, inl, inr, arith, ap, sym, subst, ◌∙◌}
use Rattle.std.specs.List.{Contains, count_by}
use Rattle.std.proofs.lemmas.Bool.{cases_lt, eqb-true, eq-eqb, both_ways}
use Rattle.std.proofs.lemmas.List.{get_or-take, get_or_default, length-take-le}
use Rattle.std.proofs.lemmas.List.Elements.{All-from_get_or}
use Rattle.std.proofs.lemmas.List.Sums.{sum_by-cons, count_by-le-length, fails_before_first, passes_at_first}
use Rattle.graph.specs.declared.graphs.Graph.{Graph}
use Rattle.graph.specs.declared.order.Progress.{Progress}
use Rattle.graph.specs.declared.order.Progress.TheVariants.{WaitsAt, Placed}
use Rattle.graph.specs.Wiring.{block, channel, into, Rises}
use Rattle.graph.specs.Joined.{IsJoined}
use Rattle.graph.specs.Order.{place_in, IsForwardOrder}
use Rattle.graph.specs.Placing.{sender, progress_placed, reached, BlockPlaced, IsPlacing, AllWait, WaitsPast}

-- ---- counting

count_by-cons : {X : Type 0} (p : X → Bool) (x : X) (xs : List X) → count_by p (x ∷ xs) ≡ cond (p x) 1 0 + count_by p xs
count_by-cons p x xs = sum_by-cons (λ y. cond (p y) 1 0) x xs

all-counted : {X : Type 0} (p : X → Bool) (xs : List X) → ((i : ℕ) (d : X) → i < length xs → p (get_or xs i d) ≡ true) → count_by p xs ≡ length xs
all-counted p [] all = refl
all-counted p (x ∷ xs) all =
    let first : p x ≡ true = all 0 x (omega arith) in
    let one : count_by p (x ∷ xs) ≡ 1 + count_by p xs = count_by-cons p x xs ∙ ap (λ b. cond b 1 0 + count_by p xs) first in
    let rest = all-counted p xs (λ i d l. all (suc i) d (omega (arith, l))) in
    omega (arith, one, rest)

one_at_most : (b : Bool) (m n : ℕ) → m ≤ n → cond b 1 0 + m ≡ suc n → (b ≡ true) × (m ≡ n)
one_at_most true m n l e = (refl, omega (arith, l, e))
one_at_most false m n l e = absurd (omega (arith, l, e))

counted-all : {X : Type 0} (p : X → Bool) (xs : List X) → count_by p xs ≡ length xs → (i : ℕ) (d : X) → i < length xs → p (get_or xs i d) ≡ true
counted-all p [] e i d l = absurd (omega (arith, l))
counted-all p (x ∷ xs) e zero d l =
    (one_at_most (p x) (count_by p xs) (length xs) (count_by-le-length p xs) (sym (count_by-cons p x xs) ∙ e)).0
counted-all p (x ∷ xs) e (suc i) d l =
    counted-all p xs (one_at_most (p x) (count_by p xs) (length xs) (count_by-le-length p xs) (sym (count_by-cons p x xs) ∙ e)).1 i d (omega (arith, l))

-- ---- one block

either : (x : Progress) → (x ≡ Placed) ⊎ ((q : ℕ) × (x ≡ WaitsAt q))
either (WaitsAt q) = inr (q, refl)
either Placed = inl refl

placed-counts : (x : Progress) → x ≡ Placed → progress_placed x ≡ true
placed-counts x e = ap progress_placed e

counts-placed : (x : Progress) → progress_placed x ≡ true → x ≡ Placed
counts-placed (WaitsAt q) e = absurd (cc)
counts-placed Placed e = refl

-- ---- where a rank rises, each block is placed

none-waits : (g : Graph) (order : List ℕ) (ps : List Progress) (n : ℕ) (rank : ℕ → ℕ) → IsJoined g → IsPlacing g order ps → AllWait g ps
    → WaitsPast g order ps n → length order ≤ n → Rises g rank
    → (bound b q : ℕ) → rank b < bound → b < length g.blocks → reached ps b ≡ WaitsAt q → ⊥
none-waits g order ps n rank joined k wait past most rises zero b q lr lb h = omega (arith, lr)
none-waits g order ps n rank joined k wait past most rises (suc bound) b q lr lb h =
    let named = (joined.blocks b lb).in_named q (wait b q lb h) in
    let sent = (joined.channels (into g b q) named.0).came in
    let up : rank (sender g b q) < rank b = subst (λ (m : ℕ). rank (sender g b q) < rank m) named.1 (rises (into g b q) named.0) in
    elim (either (reached ps (sender g b q))) [
      | inl placed ↦ let there : Contains order (sender g b q) = k.whole (sender g b q) sent.0 placed in
          past b q there.0 lb h (omega (arith, there.1, most)) (sym there.2 ∙ get_or_default order there.0 (sender g b q) 0 there.1)
      | inr waits ↦ none-waits g order ps n rank joined k wait past most rises bound (sender g b q) waits.0 (omega (arith, up, lr)) sent.0 waits.1
    ]

pub all-placed : (g : Graph) (order : List ℕ) (ps : List Progress) (n : ℕ) → IsJoined g → IsPlacing g order ps → AllWait g ps
    → WaitsPast g order ps n → length order ≤ n → (rank : ℕ → ℕ) → Rises g rank → length order ≡ length g.blocks
all-placed g order ps n joined k wait past most rank rises =
    let placed : (b : ℕ) → b < length ps → BlockPlaced ps b = λ b l.
    elim (either (reached ps b)) [
      | inl e ↦ e
      | inr waits ↦ absurd (none-waits g order ps n rank joined k wait past most rises (suc (rank b)) b waits.0 (omega arith) (omega (arith, l, k.number)) waits.1)
    ] in
    let all : count_by progress_placed ps ≡ length ps =
    all-counted progress_placed ps (λ i d l. placed-counts (get_or ps i d) (get_or_default ps i d (WaitsAt 0) l ∙ placed i l)) in
    omega (arith, all, k.counted, k.number)

-- ---- the order leads forwards

place-at-most : (order : List ℕ) (b i : ℕ) → i < length order → get_or order i 0 ≡ b → place_in order b ≤ i
place-at-most order b i l e =
    elim (cases_lt i (place_in order b)) [
      | inl before ↦ absurd (both_ways (eqb (get_or order i 0) b) (fails_before_first (λ x. eqb x b) order i 0 before) (eq-eqb (get_or order i 0) b e))
      | inr past ↦ past
    ]

place-is : (order : List ℕ) (b : ℕ) → place_in order b < length order → get_or order (place_in order b) 0 ≡ b
place-is order b l = eqb-true (get_or order (place_in order b) 0) b (passes_at_first (λ x. eqb x b) order 0 l)

-- a block that stands in the order stands at its first place
place-below : (order : List ℕ) (b : ℕ) → Contains order b → place_in order b < length order
place-below order b there =
    let most = place-at-most order b there.0 there.1 (get_or_default order there.0 0 b there.1 ∙ there.2) in
    omega (arith, most, there.1)

-- a block among the first n stands there at its first place
place-among : (order : List ℕ) (b n : ℕ) → n ≤ length order → Contains (take n order) b → place_in order b < n
place-among order b n l there =
    let long : length (take n order) ≡ n = length-take-le n order l in
    let less : there.0 < n = omega (arith, there.1, long) in
    let e : get_or order there.0 0 ≡ b =
    get_or_default order there.0 0 b (omega (arith, less, l)) ∙ sym (get_or-take n order there.0 b less) ∙ there.2 in
    let most = place-at-most order b there.0 (omega (arith, less, l)) e in
    omega (arith, most, less)

pub all-forwards : (g : Graph) (order : List ℕ) (ps : List Progress) → IsJoined g → IsPlacing g order ps → length order ≡ length g.blocks
    → IsForwardOrder g order
all-forwards g order ps joined k number =
    let counted : count_by progress_placed ps ≡ length ps = omega (arith, number, k.counted, k.number) in
    let whole : (b : ℕ) → b < length g.blocks → Contains order b = λ b l.
    k.whole b l (counts-placed (reached ps b) (counted-all progress_placed ps counted b (WaitsAt 0) (omega (arith, l, k.number)))) in
    record {
      number = number;
      blocks = All-from_get_or (λ b. b < length g.blocks) order 0 (λ i l. (k.blocks i l).0);
      whole = whole;
      forwards = λ c l.
          let received = (joined.channels c l).received in
          let at = place_in order (channel g c).to_block in
          let below : at < length order = place-below order (channel g c).to_block (whole (channel g c).to_block received.0) in
          let here : get_or order at 0 ≡ (channel g c).to_block = place-is order (channel g c).to_block below in
          let from : sender g (get_or order at 0) (channel g c).to_port ≡ (channel g c).from_block =
          ap (λ (b : ℕ). sender g b (channel g c).to_port) here ∙ ap (λ (d : ℕ). (channel g d).from_block) received.2 in
          place-among order (channel g c).from_block at (omega (arith, below))
          (subst (λ (b : ℕ). Contains (take at order) b) from
          (k.after at (channel g c).to_port below (subst (λ (b : ℕ). (channel g c).to_port < length (block g b).ins) (sym here) received.1)));
    }
