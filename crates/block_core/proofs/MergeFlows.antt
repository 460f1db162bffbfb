-- The moves of intersect and union flow.
use Rattle.std.specs.Prelude.{◌≡◌, ℕ, suc, ◌+◌, Bool, true, false, List, [], ◌∷◌, ◌++◌, length, nat_lt, if◌then◌else◌}
use mathlib.Core.List.{map}
use Rattle.std.proofs.Common.{sym, subst}
use Rattle.stream_tokens.specs.declared.Token.{Token}
use Rattle.stream_tokens.specs.declared.Token.TheVariants.{Stop, Done}
use Rattle.stream_tokens.specs.Nest.{Fiber}
use Rattle.stream_tokens.specs.Flat.{fiber_tokens, flat}
use Rattle.block_core.specs.Move.{Move, take_row, put_row, columns}
use Rattle.block_core.specs.Ports.{Streams}
use Rattle.block_core.specs.Merge.{Head, Sides, left_of, right_of, head_token, row, Ascends, SidesFit, AllClose, AllAscend, head_of, merged, merged_of, next_row, put_alone, right_moves, along_moves, fiber_merge, merge_moves, merge_inputs, merge_outputs}
use Rattle.block_core.specs.Flows.{Flows, NoTokens}
use Rattle.block_core.proofs.Rows.{length-over, none-over, take-across, take-last, put-across}
use Rattle.block_core.proofs.InOrder.{alone, right_list, along_list, fiber_list, meet-order}
use Rattle.block_core.proofs.Either.{unite-order}

-- ---- a side with w payloads: the heads hs of a fiber that ends with the stop k, and then the fibers fs

-- nothing of the fiber is taken
abbrev waiting : ℕ → ℕ → List (Fiber Head) → List Head → Streams
waiting w k fs hs = columns (λ p. fiber_tokens (head_token p) hs (Stop k ∷ flat (head_token p) fs)) 0 (suc w)

-- the first head is taken, or the stop where there is none
abbrev heads_left : ℕ → ℕ → List (Fiber Head) → List Head → Streams
heads_left w k fs [] = columns (λ p. flat (head_token p) fs) 0 (suc w)
heads_left w k fs (h ∷ hs) = waiting w k fs hs

take-left : (w k : ℕ) (fs : List (Fiber Head)) (hs : List Head) (right : Streams) (rest : List Move) (outs : Streams)
    → Flows rest (heads_left w k fs hs ++ right) outs → Flows (take_row 0 (next_row w (suc k) hs) rest) (waiting w k fs hs ++ right) outs
take-left w k fs [] right rest outs h = take-across (suc w) 0 (λ _. Stop k) (λ p. flat (head_token p) fs) right rest outs h
take-left w k fs (x ∷ hs) right rest outs h =
    take-across (suc w) 0 (λ p. head_token p x) (λ p. fiber_tokens (head_token p) hs (Stop k ∷ flat (head_token p) fs)) right rest outs h

take-right : (w k b : ℕ) (fs : List (Fiber Head)) (hs : List Head) (left : Streams) (rest : List Move) (outs : Streams) → b ≡ length left
    → Flows rest (left ++ heads_left w k fs hs) outs → Flows (take_row b (next_row w (suc k) hs) rest) (left ++ waiting w k fs hs) outs
take-right w k b fs [] left rest outs e h = take-last (suc w) 0 b (λ _. Stop k) (λ p. flat (head_token p) fs) left rest outs e h
take-right w k b fs (x ∷ hs) left rest outs e h =
    take-last (suc w) 0 b (λ p. head_token p x) (λ p. fiber_tokens (head_token p) hs (Stop k ∷ flat (head_token p) fs)) left rest outs e h

length-heads_left : (w k : ℕ) (fs : List (Fiber Head)) (hs : List Head) → suc w ≡ length (heads_left w k fs hs)
length-heads_left w k fs [] = sym (length-over (λ p. flat (head_token p) fs) 0 (suc w))
length-heads_left w k fs (h ∷ hs) = sym (length-over (λ p. fiber_tokens (head_token p) hs (Stop k ∷ flat (head_token p) fs)) 0 (suc w))

put-head : (w k : ℕ) (fs : List (Fiber Head)) (h : Head) (hs : List Head) (rest : List Move) (ins : Streams)
    → Flows rest ins (waiting w k fs hs) → Flows (put_row 0 (row w h) rest) ins (waiting w k fs (h ∷ hs))
put-head w k fs h hs rest ins f =
    put-across (suc w) 0 (λ p. head_token p h) (λ p. fiber_tokens (head_token p) hs (Stop k ∷ flat (head_token p) fs)) rest ins f

put-one : (u : Bool) (w k : ℕ) (fs : List (Fiber Head)) (h : Head) (hs : List Head) (rest : List Move) (ins : Streams)
    → Flows rest ins (waiting w k fs hs) → Flows (put_alone u w h rest) ins (waiting w k fs (alone u h hs))
put-one true w k fs h hs rest ins f = put-head w k fs h hs rest ins f
put-one false w k fs h hs rest ins f = f

-- ---- one fiber of each side; lf and rf are the fibers that follow, and of those that are put

-- the flag, the numbers of payloads, the stop, and what follows
record Merging : Type 0 where
  u : Bool
  l : ℕ
  r : ℕ
  k : ℕ
  lf : List (Fiber Head)
  rf : List (Fiber Head)
  made : List (Fiber Head)
  rest : List Move

-- from where these heads of both sides are next, these are put
abbrev Along : Merging → List Move → List Head → List Head → List Head → Type 0
Along a ms hs ks xs = Flows ms (heads_left a.l a.k a.lf hs ++ heads_left a.r a.k a.rf ks) (waiting (a.l + a.r) a.k a.made xs)

right-flows : (a : Merging) → Flows a.rest (heads_left a.l a.k a.lf [] ++ heads_left a.r a.k a.rf []) (columns (λ p. flat (head_token p) a.made) 0 (suc (a.l + a.r)))
    → (ks : List Head) → Along a (right_moves a.u a.l a.r (suc a.k) ks a.rest) [] ks (right_list a.u a.l a.r ks)
right-flows a f [] = put-across (suc (a.l + a.r)) 0 (λ _. Stop a.k) (λ p. flat (head_token p) a.made) a.rest _ f
right-flows a f (x ∷ ks) =
    put-one a.u (a.l + a.r) a.k a.made (head_of a.l a.r x.0 [] x.1) (right_list a.u a.l a.r ks) _ _
    (take-right a.r a.k (suc a.l) a.rf ks (heads_left a.l a.k a.lf []) _ _ (length-heads_left a.l a.k a.lf []) (right-flows a f ks))

along-flows : (a : Merging) (h : Head) (hs : List Head) (go : List Head → List Move) (list : List Head → List Head)
    → ((ks : List Head) → Along a (go ks) hs ks (list ks))
    → (ks : List Head) → Along a (along_moves a.u a.l a.r (suc a.k) h hs go ks) (h ∷ hs) ks (along_list a.u a.l a.r h list ks)
along-flows a h hs go list f [] =
    put-one a.u (a.l + a.r) a.k a.made (head_of a.l a.r h.0 h.1 []) (list []) _ _
    (take-left a.l a.k a.lf hs (heads_left a.r a.k a.rf []) _ _ (f []))
along-flows a h hs go list f (x ∷ ks) = by_case (along-flows a h hs go list f ks) (nat_lt h.0 x.0) (nat_lt x.0 h.0)
  where
    by_case : Along a (along_moves a.u a.l a.r (suc a.k) h hs go ks) (h ∷ hs) ks (along_list a.u a.l a.r h list ks) → (p q : Bool)
        → Along a
        (if p then put_alone a.u (a.l + a.r) (head_of a.l a.r h.0 h.1 []) (take_row 0 (next_row a.l (suc a.k) hs) (go (x ∷ ks)))
        else if q then put_alone a.u (a.l + a.r) (head_of a.l a.r x.0 [] x.1) (take_row (suc a.l) (next_row a.r (suc a.k) ks) (along_moves a.u a.l a.r (suc a.k) h hs go ks))
        else put_row 0 (row (a.l + a.r) (head_of a.l a.r h.0 h.1 x.1)) (take_row 0 (next_row a.l (suc a.k) hs) (take_row (suc a.l) (next_row a.r (suc a.k) ks) (go ks))))
        (h ∷ hs) (x ∷ ks)
        (if p then alone a.u (head_of a.l a.r h.0 h.1 []) (list (x ∷ ks))
        else if q then alone a.u (head_of a.l a.r x.0 [] x.1) (along_list a.u a.l a.r h list ks)
        else head_of a.l a.r h.0 h.1 x.1 ∷ list ks)
    by_case g true q =
        put-one a.u (a.l + a.r) a.k a.made (head_of a.l a.r h.0 h.1 []) (list (x ∷ ks)) _ _
        (take-left a.l a.k a.lf hs (heads_left a.r a.k a.rf (x ∷ ks)) _ _ (f (x ∷ ks)))
    by_case g false true =
        put-one a.u (a.l + a.r) a.k a.made (head_of a.l a.r x.0 [] x.1) (along_list a.u a.l a.r h list ks) _ _
        (take-right a.r a.k (suc a.l) a.rf ks (heads_left a.l a.k a.lf (h ∷ hs)) _ _ (length-heads_left a.l a.k a.lf (h ∷ hs)) g)
    by_case g false false =
        put-head (a.l + a.r) a.k a.made (head_of a.l a.r h.0 h.1 x.1) (list ks) _ _
        (take-left a.l a.k a.lf hs (heads_left a.r a.k a.rf (x ∷ ks)) _ _
        (take-right a.r a.k (suc a.l) a.rf ks (heads_left a.l a.k a.lf hs) _ _ (length-heads_left a.l a.k a.lf hs) (f ks)))

fiber-flows : (a : Merging) → Flows a.rest (heads_left a.l a.k a.lf [] ++ heads_left a.r a.k a.rf []) (columns (λ p. flat (head_token p) a.made) 0 (suc (a.l + a.r)))
    → (hs ks : List Head) → Along a (fiber_merge a.u a.l a.r (suc a.k) hs a.rest ks) hs ks (fiber_list a.u a.l a.r hs ks)
fiber-flows a f [] ks = right-flows a f ks
fiber-flows a f (h ∷ hs) ks = along-flows a h hs _ (fiber_list a.u a.l a.r hs) (fiber-flows a f hs) ks

-- ---- whole streams

order : (u : Bool) (l r : ℕ) (hs ks : List Head) → Ascends hs → Ascends ks → fiber_list u l r hs ks ≡ merged u l r hs ks
order true l r hs ks a b = unite-order l r hs a ks b
order false l r hs ks a b = meet-order l r hs a ks b

-- a fiber of each side before the others
sides-flow : (u : Bool) (l r k : ℕ) (hs ks : List Head) (fs : List Sides) → Ascends hs → Ascends ks
    → Flows (merge_moves u l r fs) (merge_inputs l r fs) (merge_outputs u l r fs)
    → Flows (merge_moves u l r (record { left = hs; right = ks; close = suc k } ∷ fs))
    (merge_inputs l r (record { left = hs; right = ks; close = suc k } ∷ fs)) (merge_outputs u l r (record { left = hs; right = ks; close = suc k } ∷ fs))
sides-flow u l r k hs ks fs b c f =
    let a : Merging = record { u = u; l = l; r = r; k = k; lf = map left_of fs; rf = map right_of fs; made = map (merged_of u l r) fs; rest = merge_moves u l r fs } in
    let g : Along a (fiber_merge u l r (suc k) hs (merge_moves u l r fs) ks) hs ks (merged u l r hs ks) =
    subst (λ (xs : List Head). Along a (fiber_merge u l r (suc k) hs (merge_moves u l r fs) ks) hs ks xs) (order u l r hs ks b c) (fiber-flows a f hs ks) in
    take-left l k (map left_of fs) hs (waiting r k (map right_of fs) ks) _ _
    (take-right r k (suc l) (map right_of fs) ks (heads_left l k (map left_of fs) hs) _ _ (length-heads_left l k (map left_of fs) hs) g)

none-beside : (ss tt' : Streams) → NoTokens ss → NoTokens tt' → NoTokens (ss ++ tt')
none-beside [] us a b = b
none-beside ([] ∷ ss) us a b = none-beside ss us a b
none-beside ((t ∷ s) ∷ ss) us a b = absurd a

merge-end : (u : Bool) (l r : ℕ) → Flows (merge_moves u l r []) (merge_inputs l r []) (merge_outputs u l r [])
merge-end u l r =
    take-across (suc l) 0 (λ _. Done) (λ _. []) (columns (λ _. Done ∷ []) 0 (suc r)) _ _
    (take-last (suc r) 0 (suc l) (λ _. Done) (λ _. []) (columns (λ _. []) 0 (suc l)) _ _ (sym (length-over {A = List Token} (λ _. []) 0 (suc l)))
    (put-across (suc (l + r)) 0 (λ _. Done) (λ _. []) [] _
    (none-beside (columns (λ _. []) 0 (suc l)) (columns (λ _. []) 0 (suc r)) (none-over 0 (suc l)) (none-over 0 (suc r)), none-over 0 (suc (l + r)))))

merge-all : (u : Bool) (l r : ℕ) (j : List Sides) → AllClose j → AllAscend j → Flows (merge_moves u l r j) (merge_inputs l r j) (merge_outputs u l r j)
merge-all u l r [] c a = merge-end u l r
merge-all u l r (f ∷ fs) c a =
    subst (λ (x : ℕ). Flows (merge_moves u l r (record { left = f.left; right = f.right; close = x } ∷ fs))
    (merge_inputs l r (record { left = f.left; right = f.right; close = x } ∷ fs)) (merge_outputs u l r (record { left = f.left; right = f.right; close = x } ∷ fs)))
    (sym c.0.1) (sides-flow u l r c.0.0 f.left f.right fs a.0 a.1 (merge-all u l r fs c.1 a.2))

pub merge-flows : (u : Bool) (l r : ℕ) (j : List Sides) → SidesFit j → Flows (merge_moves u l r j) (merge_inputs l r j) (merge_outputs u l r j)
merge-flows u l r j w = merge-all u l r j w.closes w.ascend
