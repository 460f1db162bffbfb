-- The moves of repeat and sumscalar flow.
use Rattle.std.specs.Prelude.{ℕ, zero, suc, List, [], ◌∷◌, ◌++◌, refl}
use mathlib.Core.List.{map}
use Rattle.std.proofs.Common.{sym, subst, inl, inr}
use Rattle.stream_tokens.specs.declared.Token.{Token}
use Rattle.stream_tokens.specs.declared.Token.TheVariants.{Item}
use Rattle.stream_tokens.specs.Nest.{Leaf, leaf, Fiber, spread}
use Rattle.stream_tokens.specs.Flat.{fiber_tokens, closed, flat}
use Rattle.stream_tokens.specs.Shapes.{Positive, Shaped}
use Rattle.block_core.specs.Move.{Move}
use Rattle.block_core.specs.Ports.{first_item, first_leaf, second}
use Rattle.block_core.specs.Repeat.{copies_of, copy_moves, repeat_fiber, repeat_moves, repeat_inputs, repeat_outputs}
use Rattle.block_core.specs.SumScalar.{fiber_sum, take_values, sumscalar_fiber, sumscalar_moves, sumscalar_inputs, sumscalar_outputs}
use Rattle.block_core.specs.Flows.{Flows}

-- ---- repeat

copies : (x : Leaf) (cs : List ℕ) (rest : List Move) (a b o : List Token) → Flows rest (a ∷ b ∷ []) (o ∷ [])
    → Flows (copy_moves x cs rest) (fiber_tokens Item cs a ∷ b ∷ []) (fiber_tokens leaf (map (λ _. x) cs) o ∷ [])
copies x [] rest a b o h = h
copies x (c ∷ cs) rest a b o h = (refl, (refl, copies x cs rest a b o h))

repeat-row : (n : ℕ) (x : Leaf) (cs : List ℕ) (ms : List (Leaf × List ℕ)) (rest : List Move)
    (u : List (Fiber ℕ)) (b : List Token) (v : List (Fiber Leaf))
    → Flows rest (flat Item u ∷ b ∷ []) (flat leaf v ∷ [])
    → Flows (repeat_fiber n x cs ms rest)
    (flat Item (spread cs (map second ms) n ++ u) ∷ fiber_tokens first_leaf ((x, cs) ∷ ms) (closed n b) ∷ [])
    (flat leaf (spread (map (λ _. x) cs) (map copies_of ms) n ++ v) ∷ [])
repeat-row zero x cs [] rest u b v h = (refl, copies x cs _ _ _ _ (refl, (refl, h)))
repeat-row (suc k) x cs [] rest u b v h = (refl, copies x cs _ _ _ _ (refl, (refl, (refl, h))))
repeat-row n x cs (m ∷ ms) rest u b v h = (refl, copies x cs _ _ _ _ (refl, (refl, repeat-row n m.0 m.1 ms rest u b v h)))

repeat-positive : (j : List (Fiber (Leaf × List ℕ))) → Positive j → Flows (repeat_moves j) (repeat_inputs j) (repeat_outputs j)
repeat-positive [] w = (refl, (refl, (refl, (tt, tt))))
repeat-positive (([], n) ∷ fs) w =
    let k = w.0.0 in
    let h : Flows (repeat_moves (([], suc k) ∷ fs)) (repeat_inputs (([], suc k) ∷ fs)) (repeat_outputs (([], suc k) ∷ fs)) =
    (refl, (refl, (refl, repeat-positive fs w.1))) in
    subst (λ (x : ℕ). Flows (repeat_moves (([], x) ∷ fs)) (repeat_inputs (([], x) ∷ fs)) (repeat_outputs (([], x) ∷ fs))) (sym w.0.1) h
repeat-positive (((m ∷ ms), n) ∷ fs) w = repeat-row n m.0 m.1 ms _ _ _ _ (repeat-positive fs w.1)

repeat-single : (m : Leaf × List ℕ)
    → Flows (repeat_moves (((m ∷ []), 0) ∷ [])) (repeat_inputs (((m ∷ []), 0) ∷ [])) (repeat_outputs (((m ∷ []), 0) ∷ []))
repeat-single m = repeat-row zero m.0 m.1 [] (repeat_moves []) [] _ [] (repeat-positive [] tt)

pub repeat-flows : (j : List (Fiber (Leaf × List ℕ))) → Shaped j → Flows (repeat_moves j) (repeat_inputs j) (repeat_outputs j)
repeat-flows j (inl w) = repeat-positive j w
repeat-flows j (inr s) =
    subst (λ (x : List (Fiber (Leaf × List ℕ))). Flows (repeat_moves x) (repeat_inputs x) (repeat_outputs x)) (sym s.1) (repeat-single s.0)

-- ---- sumscalar

values-taken : (vs : List Leaf) (rest : List Move) (a b o : List Token) → Flows rest (a ∷ b ∷ []) (o ∷ [])
    → Flows (take_values 1 vs rest) (a ∷ fiber_tokens leaf vs b ∷ []) (o ∷ [])
values-taken [] rest a b o h = h
values-taken (v ∷ vs) rest a b o h = (refl, values-taken vs rest a b o h)

sumscalar-row : (n : ℕ) (m : ℕ × List Leaf) (ms : List (ℕ × List Leaf)) (rest : List Move)
    (a : List Token) (u : List (Fiber Leaf)) (o : List Token)
    → Flows rest (a ∷ flat leaf u ∷ []) (o ∷ [])
    → Flows (sumscalar_fiber n m ms rest)
    (fiber_tokens first_item (m ∷ ms) (closed n a) ∷ flat leaf (spread (second m) (map second ms) n ++ u) ∷ [])
    (fiber_tokens leaf (map fiber_sum (m ∷ ms)) (closed n o) ∷ [])
sumscalar-row zero m [] rest a u o h = (refl, values-taken m.1 _ _ _ _ (refl, (refl, h)))
sumscalar-row (suc k) m [] rest a u o h = (refl, values-taken m.1 _ _ _ _ (refl, (refl, (refl, (refl, h)))))
sumscalar-row n m (m' ∷ ms) rest a u o h = (refl, values-taken m.1 _ _ _ _ (refl, (refl, sumscalar-row n m' ms rest a u o h)))

sumscalar-positive : (j : List (Fiber (ℕ × List Leaf))) → Positive j → Flows (sumscalar_moves j) (sumscalar_inputs j) (sumscalar_outputs j)
sumscalar-positive [] w = (refl, (refl, (refl, (tt, tt))))
sumscalar-positive (([], n) ∷ fs) w =
    let k = w.0.0 in
    let h : Flows (sumscalar_moves (([], suc k) ∷ fs)) (sumscalar_inputs (([], suc k) ∷ fs)) (sumscalar_outputs (([], suc k) ∷ fs)) =
    (refl, (refl, (refl, sumscalar-positive fs w.1))) in
    subst (λ (x : ℕ). Flows (sumscalar_moves (([], x) ∷ fs)) (sumscalar_inputs (([], x) ∷ fs)) (sumscalar_outputs (([], x) ∷ fs))) (sym w.0.1) h
sumscalar-positive (((m ∷ ms), n) ∷ fs) w = sumscalar-row n m ms _ _ _ _ (sumscalar-positive fs w.1)

sumscalar-single : (m : ℕ × List Leaf)
    → Flows (sumscalar_moves (((m ∷ []), 0) ∷ [])) (sumscalar_inputs (((m ∷ []), 0) ∷ [])) (sumscalar_outputs (((m ∷ []), 0) ∷ []))
sumscalar-single m = sumscalar-row zero m [] (sumscalar_moves []) _ [] _ (sumscalar-positive [] tt)

pub sumscalar-flows : (j : List (Fiber (ℕ × List Leaf))) → Shaped j → Flows (sumscalar_moves j) (sumscalar_inputs j) (sumscalar_outputs j)
sumscalar-flows j (inl w) = sumscalar-positive j w
sumscalar-flows j (inr s) =
    subst (λ (x : List (Fiber (ℕ × List Leaf))). Flows (sumscalar_moves x) (sumscalar_inputs x) (sumscalar_outputs x)) (sym s.1) (sumscalar-single s.0)
