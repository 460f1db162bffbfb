-- The moves of scan and dropfiber flow.
use Rattle.std.specs.Prelude.{ℕ, suc, Bool, true, false, List, [], ◌∷◌, ◌++◌, Some, None, refl}
use Rattle.std.specs.List.{filter}
use mathlib.Core.List.{map}
use Rattle.std.proofs.Common.{sym, subst, inl, inr}
use Rattle.stream_tokens.specs.declared.Token.{Token}
use Rattle.stream_tokens.specs.declared.Token.TheVariants.{Item, Stop}
use Rattle.stream_tokens.specs.Nest.{Leaf, leaf, Fiber, spread}
use Rattle.stream_tokens.specs.Flat.{fiber_tokens, flat}
use Rattle.stream_tokens.specs.Shapes.{Positive, Shaped, under, on_fibers}
use Rattle.block_core.specs.Move.{Move}
use Rattle.block_core.specs.Ports.{first_item, second}
use Rattle.block_core.specs.Scan.{Children, kids, coordinates_below, references_below, scan_moves, scan_inputs, scan_outputs, kid_moves}
use Rattle.block_core.specs.DropFiber.{has_fiber, pass_items, keep_fiber, dropfiber_moves, dropfiber_inputs, dropfiber_outputs}
use Rattle.block_core.specs.Flows.{Flows}
use Rattle.block_core.proofs.After.{after, after-under}

-- ---- scan

both-kids : (cs : List (ℕ × ℕ)) (rest : List Move) (a o q : List Token) → Flows rest (a ∷ []) (o ∷ q ∷ [])
    → Flows (kid_moves cs rest) (a ∷ []) (fiber_tokens Item (map (λ c. c.0) cs) o ∷ fiber_tokens Item (map (λ c. c.1) cs) q ∷ [])
both-kids [] rest a o q h = h
both-kids (c ∷ cs) rest a o q h = (refl, (refl, both-kids cs rest a o q h))

-- the leaves of a fiber and what follows it, which is s
scan-leaves : (children : Children) (n : ℕ) (s o q : List Token)
    → ((more : Bool) → Flows (scan_moves children more s) (s ∷ []) (after Item more [] n o ∷ after Item more [] n q ∷ []))
    → (more : Bool) (xs : List Leaf)
    → Flows (scan_moves children more (fiber_tokens leaf xs s)) (fiber_tokens leaf xs s ∷ [])
    (after Item more (map (coordinates_below children) xs) n o ∷ after Item more (map (references_below children) xs) n q ∷ [])
scan-leaves children n s o q h more [] = h more
scan-leaves children n s o q h true (None ∷ xs) = (refl, (refl, (refl, scan-leaves children n s o q h true xs)))
scan-leaves children n s o q h false (None ∷ xs) = (refl, scan-leaves children n s o q h true xs)
scan-leaves children n s o q h true (Some r ∷ xs) =
    (refl, (refl, (refl, both-kids (kids children (Some r)) _ _ _ _ (scan-leaves children n s o q h true xs))))
scan-leaves children n s o q h false (Some r ∷ xs) =
    (refl, both-kids (kids children (Some r)) _ _ _ _ (scan-leaves children n s o q h true xs))

scan-fiber : (children : Children) (xs : List Leaf) (k : ℕ) (fs : List (Fiber Leaf))
    → Flows (scan_moves children false (flat leaf fs)) (flat leaf fs ∷ []) (scan_outputs children fs)
    → Flows (scan_moves children false (flat leaf ((xs, suc k) ∷ fs))) (flat leaf ((xs, suc k) ∷ fs) ∷ []) (scan_outputs children ((xs, suc k) ∷ fs))
scan-fiber children xs k fs h =
    let o = flat Item (under (coordinates_below children) fs) in
    let q = flat Item (under (references_below children) fs) in
    let r : Flows (scan_moves children false (fiber_tokens leaf xs (Stop k ∷ flat leaf fs))) (fiber_tokens leaf xs (Stop k ∷ flat leaf fs) ∷ [])
    (after Item false (map (coordinates_below children) xs) (suc k) o ∷ after Item false (map (references_below children) xs) (suc k) q ∷ []) =
    scan-leaves children (suc k) (Stop k ∷ flat leaf fs) o q (λ more. (refl, (refl, (refl, h)))) false xs in
    subst (λ (x : List Token). Flows (scan_moves children false (fiber_tokens leaf xs (Stop k ∷ flat leaf fs))) (fiber_tokens leaf xs (Stop k ∷ flat leaf fs) ∷ [])
    (x ∷ flat Item (under (references_below children) ((xs, suc k) ∷ fs)) ∷ [])) (after-under Item (coordinates_below children) xs (suc k) fs)
    (subst (λ (x : List Token). Flows (scan_moves children false (fiber_tokens leaf xs (Stop k ∷ flat leaf fs))) (fiber_tokens leaf xs (Stop k ∷ flat leaf fs) ∷ [])
    (after Item false (map (coordinates_below children) xs) (suc k) o ∷ x ∷ [])) (after-under Item (references_below children) xs (suc k) fs) r)

scan-positive : (children : Children) (j : List (Fiber Leaf)) → Positive j
    → Flows (scan_moves children false (flat leaf j)) (scan_inputs j) (scan_outputs children j)
scan-positive children [] w = (refl, (refl, (refl, (tt, tt))))
scan-positive children ((xs, n) ∷ fs) w =
    subst (λ (x : ℕ). Flows (scan_moves children false (flat leaf ((xs, x) ∷ fs))) (scan_inputs ((xs, x) ∷ fs)) (scan_outputs children ((xs, x) ∷ fs)))
    (sym w.0.1) (scan-fiber children xs w.0.0 fs (scan-positive children fs w.1))

scan-single : (children : Children) (x : Leaf)
    → Flows (scan_moves children false (flat leaf (((x ∷ []), 0) ∷ []))) (scan_inputs (((x ∷ []), 0) ∷ [])) (scan_outputs children (((x ∷ []), 0) ∷ []))
scan-single children None = (refl, (refl, (refl, (refl, (refl, (refl, (tt, tt)))))))
scan-single children (Some r) = (refl, both-kids (kids children (Some r)) _ _ _ _ (refl, (refl, (refl, (refl, (refl, (tt, tt)))))))

pub scan-flows : (children : Children) (j : List (Fiber Leaf)) → Shaped j
    → Flows (scan_moves children false (flat leaf j)) (scan_inputs j) (scan_outputs children j)
scan-flows children j (inl w) = scan-positive children j w
scan-flows children j (inr s) =
    subst (λ (x : List (Fiber Leaf)). Flows (scan_moves children false (flat leaf x)) (scan_inputs x) (scan_outputs children x)) (sym s.1) (scan-single children s.0)

-- ---- dropfiber

items-passed : (cs : List ℕ) (rest : List Move) (a b o q : List Token) → Flows rest (a ∷ b ∷ []) (o ∷ q ∷ [])
    → Flows (pass_items cs rest) (a ∷ fiber_tokens Item cs b ∷ []) (o ∷ fiber_tokens Item cs q ∷ [])
items-passed [] rest a b o q h = h
items-passed (c ∷ cs) rest a b o q h = (refl, (refl, items-passed cs rest a b o q h))

-- the tokens m and ms of an outer fiber that closes k + 1 lists, after others that were kept or none
kept-row : (k : ℕ) (more : Bool) (m : ℕ × List ℕ) (ms : List (ℕ × List ℕ)) (rest : List Move)
    (a : List Token) (u : List (Fiber ℕ)) (o q : List Token)
    → Flows rest (a ∷ flat Item u ∷ []) (o ∷ q ∷ [])
    → Flows (keep_fiber (suc k) m ms rest more)
    (fiber_tokens first_item (m ∷ ms) (Stop k ∷ a) ∷ flat Item (spread (second m) (map second ms) (suc k) ++ u) ∷ [])
    (fiber_tokens first_item (filter has_fiber (m ∷ ms)) (Stop k ∷ o) ∷ after Item more (map second (filter has_fiber (m ∷ ms))) (suc k) q ∷ [])
kept-row k more (x, []) [] rest a u o q h = (refl, (refl, (refl, (refl, (refl, h)))))
kept-row k more (x, []) (m ∷ ms) rest a u o q h = (refl, (refl, kept-row k more m ms rest a u o q h))
kept-row k true (x, (c ∷ cs)) [] rest a u o q h =
    (refl, (refl, (refl, (refl, (refl, items-passed cs _ _ _ _ _ (refl, (refl, (refl, (refl, h)))))))))
kept-row k false (x, (c ∷ cs)) [] rest a u o q h =
    (refl, (refl, (refl, (refl, items-passed cs _ _ _ _ _ (refl, (refl, (refl, (refl, h))))))))
kept-row k true (x, (c ∷ cs)) (m ∷ ms) rest a u o q h =
    (refl, (refl, (refl, (refl, (refl, items-passed cs _ _ _ _ _ (refl, kept-row k true m ms rest a u o q h))))))
kept-row k false (x, (c ∷ cs)) (m ∷ ms) rest a u o q h =
    (refl, (refl, (refl, (refl, items-passed cs _ _ _ _ _ (refl, kept-row k true m ms rest a u o q h)))))

kept-fiber : (xs : List (ℕ × List ℕ)) (k : ℕ) (fs : List (Fiber (ℕ × List ℕ)))
    → Flows (dropfiber_moves fs) (dropfiber_inputs fs) (dropfiber_outputs fs)
    → Flows (dropfiber_moves ((xs, suc k) ∷ fs)) (dropfiber_inputs ((xs, suc k) ∷ fs)) (dropfiber_outputs ((xs, suc k) ∷ fs))
kept-fiber [] k fs h = (refl, (refl, (refl, (refl, h))))
kept-fiber (m ∷ ms) k fs h =
    subst (λ (x : List Token). Flows (dropfiber_moves (((m ∷ ms), suc k) ∷ fs)) (dropfiber_inputs (((m ∷ ms), suc k) ∷ fs))
    (flat first_item (on_fibers (filter has_fiber) (((m ∷ ms), suc k) ∷ fs)) ∷ x ∷ []))
    (after-under Item second (filter has_fiber (m ∷ ms)) (suc k) (on_fibers (filter has_fiber) fs))
    (kept-row k false m ms _ _ (under second fs) _ _ h)

pub dropfiber-flows : (j : List (Fiber (ℕ × List ℕ))) → Positive j → Flows (dropfiber_moves j) (dropfiber_inputs j) (dropfiber_outputs j)
dropfiber-flows [] w = (refl, (refl, (refl, (refl, (tt, tt)))))
dropfiber-flows ((xs, n) ∷ fs) w =
    subst (λ (x : ℕ). Flows (dropfiber_moves ((xs, x) ∷ fs)) (dropfiber_inputs ((xs, x) ∷ fs)) (dropfiber_outputs ((xs, x) ∷ fs)))
    (sym w.0.1) (kept-fiber xs w.0.0 fs (dropfiber-flows fs w.1))
