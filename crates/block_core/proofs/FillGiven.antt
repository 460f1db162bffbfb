-- What fill gives of a presence, and of ports whose fibers that aren't empty are as many as the presence has items.
use Rattle.std.specs.Prelude.{◌≡◌, ◌<◌, ℕ, suc, ◌+◌, List, [], ◌∷◌, ◌++◌, Some, None, get_or, length, refl}
use mathlib.Core.List.{map}
use Rattle.std.proofs.Common.{arith, inl, sym, ◌∙◌, ap, subst}
use Rattle.stream_tokens.specs.declared.Token.{Token}
use Rattle.stream_tokens.specs.declared.Token.TheVariants.{Item, Done}
use Rattle.stream_tokens.specs.Nest.{Leaf, leaf, Fiber, beneath}
use Rattle.stream_tokens.specs.Flat.{fiber_tokens, closed, flat}
use Rattle.stream_tokens.specs.Shapes.{under, Positive}
use Rattle.stream_tokens.proofs.Fibers.{fibers_of-flat}
use Rattle.stream_tokens.proofs.Algebra.{flat-on_tokens, on_fibers-under, map-map}
use Rattle.block_core.specs.Move.{over, columns}
use Rattle.block_core.specs.Ports.{Streams, port, ports, AllStreams, numbers_of}
use Rattle.block_core.specs.Fill.{Chunk, Serving, ServedPlace, Filling, chunks, tail_of, rows, serving, dealt, undealt, deal, filling, fill_reading, place_token, stop_tokens, skips_at, head_item, stop_at, served_tokens, tail_at, port_tokens, fill_inputs, served, fill_outputs}
use Rattle.block_core.specs.Kind.{FillKind}
use Rattle.block_core.proofs.Readings.{items-read}
use Rattle.block_core.proofs.MergeReadings.{over-at, over-ext, map-over}
use Rattle.block_core.proofs.Given.{Gives}
use Rattle.block_core.proofs.FillReadings.{rows-cons, rows-none, first_of, after_first, chunk_tokens, tokens-chunked, contents, content, chunk-contents, Full, chunks-full, Serves, AllServe, row-serves, no_chunk}

-- ---- each serving, beside the chunk of a port

abbrev size_of : Chunk → ℕ
size_of c = length c.items

record Opened (cs : List Chunk) (l : ℕ) (ls : List ℕ) : Type 0 where
  whole : cs ≡ first_of no_chunk cs ∷ after_first cs
  first : size_of (first_of no_chunk cs) ≡ l
  others : map size_of (after_first cs) ≡ ls
  some : Full cs → (n : ℕ) × (size_of (first_of no_chunk cs) ≡ suc n)
  full : Full cs → Full (after_first cs)

opened : (cs : List Chunk) (l : ℕ) (ls : List ℕ) → map size_of cs ≡ l ∷ ls → Opened cs l ls
opened [] l ls e = absurd (cc)
opened (c ∷ cs) l ls e = record { whole = refl; first = cc; others = cc; some = λ h. h.0; full = λ h. h.1 }

none-open : (cs : List Chunk) → map size_of cs ≡ [] → cs ≡ []
none-open [] e = refl
none-open (c ∷ cs) e = absurd (cc)

all-serve : (ls : List ℕ) (w p : ℕ) (c : ℕ → List Chunk) → p < suc w → ((q : ℕ) → Full (c q)) → ((q : ℕ) → map size_of (c q) ≡ ls)
    → AllServe p (map serving (rows (over c 0 (suc w)))) (c p)
all-serve [] w p c b f e =
    subst (λ (cs : List Chunk). AllServe p (map serving (rows (over c 0 (suc w)))) cs) (sym (none-open (c p) (e p)))
    (subst (λ (rs : List (List Chunk)). AllServe p (map serving rs) []) (sym (rows-none c (λ q. none-open (c q) (e q)) 0 w)) tt)
all-serve (l ∷ ls) w p c b f e =
    let o : (q : ℕ) → Opened (c q) l ls = λ q. opened (c q) l ls (e q) in
    let h : ℕ → Chunk = λ q. first_of no_chunk (c q) in
    let t : ℕ → List Chunk = λ q. after_first (c q) in
    let n = (o 0).some (f 0) in
    let sizes : (q : ℕ) → length (h q).items ≡ suc n.0 = λ q. (o q).first ∙ sym (o 0).first ∙ n.1 in
    let more : AllServe p (map serving (rows (over t 0 (suc w)))) (t p) = all-serve ls w p t b (λ q. (o q).full (f q)) (λ q. (o q).others) in
    subst (λ (cs : List Chunk). AllServe p (map serving (rows (over c 0 (suc w)))) cs) (sym (o p).whole)
    (subst (λ (rs : List (List Chunk)). AllServe p (map serving rs) (h p ∷ t p)) (sym (rows-cons h c t (λ q. (o q).whole) 0 w))
    (row-serves w p h n.0 b sizes, more))

as-many : (p : ℕ) (ss : List Serving) (cs : List Chunk) → AllServe p ss cs → length ss ≡ length cs
as-many p [] [] h = refl
as-many p [] (c ∷ cs) h = absurd h
as-many p (s ∷ ss) [] h = absurd h
as-many p (s ∷ ss) (c ∷ cs) h = ap suc (as-many p ss cs h.1)

-- ---- along the presence

-- the number of items
abbrev pub item_count : List Leaf → ℕ
item_count [] = 0
item_count (None ∷ ts) = item_count ts
item_count (Some n ∷ ts) = suc (item_count ts)

abbrev pub present : List (Fiber Leaf) → ℕ
present [] = 0
present (f ∷ fs) = item_count f.0 + present fs

-- each item takes one of a queue
abbrev pub left_over : {A : Type 0} → List Leaf → List A → List A
left_over [] q = q
left_over (None ∷ ts) q = left_over ts q
left_over (Some n ∷ ts) [] = []
left_over (Some n ∷ ts) (x ∷ q) = left_over ts q

abbrev pub laid_lists : List Leaf → List (List ℕ) → List (List ℕ)
laid_lists [] q = []
laid_lists (None ∷ ts) q = [] ∷ laid_lists ts q
laid_lists (Some n ∷ ts) [] = [] ∷ laid_lists ts []
laid_lists (Some n ∷ ts) (x ∷ q) = x ∷ laid_lists ts q

-- beneath the k-th item of the presence lies the k-th of these lists, and nothing beneath nothing
abbrev pub laid : List (Fiber Leaf) → List (List ℕ) → List (Fiber ℕ)
laid [] q = []
laid (f ∷ fs) q = beneath (laid_lists f.0 q, f.1) ++ laid fs (left_over f.0 q)

dealt-on : (ts : List Leaf) (p : ℕ) (ss : List Serving) (cs : List Chunk) → AllServe p ss cs → AllServe p (undealt ts ss) (left_over ts cs)
dealt-on [] p ss cs h = h
dealt-on (None ∷ ts) p ss cs h = dealt-on ts p ss cs h
dealt-on (Some n ∷ ts) p [] [] h = tt
dealt-on (Some n ∷ ts) p [] (c ∷ cs) h = absurd h
dealt-on (Some n ∷ ts) p (s ∷ ss) [] h = absurd h
dealt-on (Some n ∷ ts) p (s ∷ ss) (c ∷ cs) h = dealt-on ts p ss cs h.1

undealt-length : (ts : List Leaf) (ss : List Serving) (n : ℕ) → length ss ≡ item_count ts + n → length (undealt ts ss) ≡ n
undealt-length [] ss n e = omega (arith, e)
undealt-length (None ∷ ts) ss n e = undealt-length ts ss n e
undealt-length (Some x ∷ ts) [] n e = absurd (omega (arith, e))
undealt-length (Some x ∷ ts) (s ∷ ss) n e = undealt-length ts ss n (omega (arith, e))

numbers-written : (p : ℕ) (hs : List (List ℕ)) (xs : List ℕ) (r : List Token) → map (λ h. get_or h p 0) hs ≡ xs → fiber_tokens (head_item p) hs r ≡ fiber_tokens Item xs r
numbers-written p hs xs r e = each hs ∙ ap (λ (ys : List ℕ). fiber_tokens Item ys r) e
  where
    each : (gs : List (List ℕ)) → fiber_tokens (head_item p) gs r ≡ fiber_tokens Item (map (λ h. get_or h p 0) gs) r
    each [] = refl
    each (g ∷ gs) = ap (λ (s : List Token). head_item p g ∷ s) (each gs)

served-leaves : (p : ℕ) (ts : List Leaf) (ss : List Serving) (cs : List Chunk) (rest : List Token) (n : ℕ) → AllServe p ss cs → length ss ≡ item_count ts + n
    → served_tokens p (dealt ts ss) (chunk_tokens (left_over ts cs) rest) ≡ chunk_tokens cs rest
served-leaves p [] ss cs rest n h e = refl
served-leaves p (None ∷ ts) ss cs rest n h e = served-leaves p ts ss cs rest n h e
served-leaves p (Some x ∷ ts) [] cs rest n h e = absurd (omega (arith, e))
served-leaves p (Some x ∷ ts) (s ∷ ss) [] rest n h e = absurd h
served-leaves p (Some x ∷ ts) (s ∷ ss) (c ∷ cs) rest n h e =
    let one : Serves p s c = h.0 in
    ap (λ (y : List Token). stop_tokens (skips_at s p) (fiber_tokens (head_item p) (s.first ∷ s.more) (stop_at s p ∷ y))) (served-leaves p ts ss cs rest n h.1 (omega (arith, e)))
    ∙ ap (λ (y : List ℕ). stop_tokens y (fiber_tokens (head_item p) (s.first ∷ s.more) (stop_at s p ∷ chunk_tokens cs rest))) one.skips
    ∙ ap (stop_tokens c.skipped) (numbers-written p (s.first ∷ s.more) c.items (stop_at s p ∷ chunk_tokens cs rest) one.numbers)
    ∙ ap (λ (y : Token). stop_tokens c.skipped (fiber_tokens Item c.items (y ∷ chunk_tokens cs rest))) one.stops

port-served : (p : ℕ) (tails : List (List ℕ)) (fs : List (Fiber Leaf)) (ss : List Serving) (cs : List Chunk) → AllServe p ss cs → length ss ≡ present fs
    → port_tokens tails p (deal fs ss) ≡ chunk_tokens cs (stop_tokens (tail_at tails p) (Done ∷ []))
port-served p tails [] [] [] h e = refl
port-served p tails [] [] (c ∷ cs) h e = absurd h
port-served p tails [] (s ∷ ss) cs h e = absurd (omega (arith, e))
port-served p tails (f ∷ fs) ss cs h e =
    ap (served_tokens p (dealt f.0 ss)) (port-served p tails fs (undealt f.0 ss) (left_over f.0 cs) (dealt-on f.0 p ss cs h) (undealt-length f.0 ss (present fs) e))
    ∙ served-leaves p f.0 ss cs (stop_tokens (tail_at tails p) (Done ∷ [])) (present fs) h e

marks : (ts : List Leaf) (ss : List Serving) (n : ℕ) (r : List Token) → length ss ≡ item_count ts + n → fiber_tokens place_token (dealt ts ss) r ≡ fiber_tokens leaf ts r
marks [] ss n r e = refl
marks (None ∷ ts) ss n r e = ap (λ (y : List Token). leaf None ∷ y) (marks ts ss n r e)
marks (Some x ∷ ts) [] n r e = absurd (omega (arith, e))
marks (Some x ∷ ts) (s ∷ ss) n r e = ap (λ (y : List Token). Item x ∷ y) (marks ts ss n r (omega (arith, e)))

marks-all : (fs : List (Fiber Leaf)) (ss : List Serving) → length ss ≡ present fs → flat place_token (deal fs ss) ≡ flat leaf fs
marks-all [] ss e = refl
marks-all (f ∷ fs) ss e =
    marks f.0 ss (present fs) (closed f.1 (flat place_token (deal fs (undealt f.0 ss)))) e
    ∙ ap (λ (y : List Token). fiber_tokens leaf f.0 (closed f.1 y)) (marks-all fs (undealt f.0 ss) (undealt-length f.0 ss (present fs) e))

-- ---- what is put

abbrev at_port : ℕ → ServedPlace → List ℕ
at_port p x = map (λ h. get_or h p 0) (served x)

lists-laid : (p : ℕ) (ts : List Leaf) (ss : List Serving) (cs : List Chunk) → AllServe p ss cs → map (at_port p) (dealt ts ss) ≡ laid_lists ts (map content cs)
lists-laid p [] ss cs h = refl
lists-laid p (None ∷ ts) ss cs h = ap (λ (y : List (List ℕ)). [] ∷ y) (lists-laid p ts ss cs h)
lists-laid p (Some x ∷ ts) [] [] h = ap (λ (y : List (List ℕ)). [] ∷ y) (lists-laid p ts [] [] tt)
lists-laid p (Some x ∷ ts) [] (c ∷ cs) h = absurd h
lists-laid p (Some x ∷ ts) (s ∷ ss) [] h = absurd h
lists-laid p (Some x ∷ ts) (s ∷ ss) (c ∷ cs) h =
    let one : Serves p s c = h.0 in
    ap (λ (y : List ℕ). y ∷ map (at_port p) (dealt ts ss)) one.numbers ∙ ap (λ (y : List (List ℕ)). c.items ∷ y) (lists-laid p ts ss cs h.1)

left-contents : (ts : List Leaf) (cs : List Chunk) → map content (left_over ts cs) ≡ left_over ts (map content cs)
left-contents [] cs = refl
left-contents (None ∷ ts) cs = left-contents ts cs
left-contents (Some x ∷ ts) [] = refl
left-contents (Some x ∷ ts) (c ∷ cs) = left-contents ts cs

all-laid : (p : ℕ) (fs : List (Fiber Leaf)) (ss : List Serving) (cs : List Chunk) → AllServe p ss cs
    → under (at_port p) (deal fs ss) ≡ laid fs (map content cs)
all-laid p [] ss cs h = refl
all-laid p (f ∷ fs) ss cs h =
    ap (λ (xs : List (List ℕ)). beneath (xs, f.1) ++ under (at_port p) (deal fs (undealt f.0 ss))) (lists-laid p f.0 ss cs h)
    ∙ ap (λ (y : List (Fiber ℕ)). beneath (laid_lists f.0 (map content cs), f.1) ++ y)
    (all-laid p fs (undealt f.0 ss) (left_over f.0 cs) (dealt-on f.0 p ss cs h) ∙ ap (laid fs) (left-contents f.0 cs))

put-laid : (p : ℕ) (fs : List (Fiber Leaf)) (ss : List Serving) (cs : List Chunk) → AllServe p ss cs
    → flat (head_item p) (under served (deal fs ss)) ≡ flat Item (laid fs (map content cs))
put-laid p fs ss cs h =
    sym (flat-on_tokens Item (λ (x : List ℕ). get_or x p 0) (under served (deal fs ss)))
    ∙ ap (flat Item) (on_fibers-under (map (λ (x : List ℕ). get_or x p 0)) served refl (deal fs ss) ∙ all-laid p fs ss cs h)

positive-deal : (fs : List (Fiber Leaf)) (ss : List Serving) → Positive fs → Positive (deal fs ss)
positive-deal [] ss w = tt
positive-deal (f ∷ fs) ss w = (w.0, positive-deal fs (undealt f.0 ss) w.1)

-- ---- whole streams

pub fill-gives : (payloads : ℕ) (presence : List (Fiber Leaf)) (q : ℕ → List (Fiber ℕ)) (sizes : List ℕ)
    → Positive presence → ((p : ℕ) → Positive (q p)) → ((p : ℕ) → map (λ (x : List ℕ). length x) (contents (q p)) ≡ sizes) → length sizes ≡ present presence
    → AllStreams (flat leaf presence ∷ columns (λ p. flat Item (q p)) 0 (suc payloads))
    → Gives (FillKind payloads) (flat leaf presence ∷ columns (λ p. flat Item (q p)) 0 (suc payloads))
    (columns (λ p. flat Item (laid presence (contents (q p)))) 0 (suc payloads))
fill-gives payloads presence q sizes pos each e count s =
    let w : ℕ = suc payloads in
    let ins : Streams = flat leaf presence ∷ columns (λ p. flat Item (q p)) 0 (suc payloads) in
    let c : ℕ → List Chunk = λ p. chunks (q p) in
    let ss : List Serving = map serving (rows (over c 0 (suc payloads))) in
    let j : Filling = record { fibers = deal presence ss; tails = over (λ p. tail_of (q p)) 0 (suc payloads) } in
    let chunk_sizes : (p : ℕ) → map size_of (c p) ≡ sizes =
    λ p. sym (map-map (λ (x : List ℕ). length x) content (chunks (q p))) ∙ ap (map (λ (x : List ℕ). length x)) (chunk-contents (q p)) ∙ e p in
    let serve : (p : ℕ) → p < suc payloads → AllServe p ss (c p) =
    λ p b. all-serve sizes payloads p c b (λ x. chunks-full (q x)) chunk_sizes in
    let many : length ss ≡ present presence =
    as-many 0 ss (c 0) (serve 0 (omega arith)) ∙ length_map (c 0) ∙ ap (λ (x : List ℕ). length x) (chunk_sizes 0) ∙ count in
    let read_ports : map numbers_of (ports 1 (suc payloads) ins) ≡ over q 0 (suc payloads) =
    map-over numbers_of (λ p. port p ins) 1 (suc payloads)
    ∙ over-ext (λ p. numbers_of (port p ins)) q 1 0 (suc payloads)
    (λ i b. let next : 1 + i ≡ suc i = omega arith in ap (λ (x : ℕ). numbers_of (port x ins)) next
    ∙ ap numbers_of (over-at (λ p. flat Item (q p)) 0 (suc payloads) i [] b)
    ∙ items-read (q (0 + i)) (inl (each (0 + i)))) in
    let read : fill_reading payloads ins ≡ j =
    ap (λ (x : List (Fiber Leaf)). filling x (map numbers_of (ports 1 (suc payloads) ins))) (fibers_of-flat presence (inl pos))
    ∙ ap (filling presence) read_ports
    ∙ ap (λ (x : List (List Chunk)). record { fibers = deal presence (map serving (rows x)); tails = map tail_of (over q 0 (suc payloads)) }) (map-over chunks q 0 (suc payloads))
    ∙ ap (λ (x : List (List ℕ)). record { fibers = deal presence ss; tails = x }) (map-over tail_of q 0 (suc payloads)) in
    let port_back : (i : ℕ) → i < suc payloads → port_tokens j.tails (0 + i) j.fibers ≡ flat Item (q (0 + i)) =
    λ i b. ap (λ (x : ℕ). port_tokens j.tails x j.fibers) (omega arith)
    ∙ port-served i j.tails presence ss (c i) (serve i b) many
    ∙ ap (λ (x : List ℕ). chunk_tokens (c i) (stop_tokens x (Done ∷ []))) (over-at (λ p. tail_of (q p)) 0 (suc payloads) i [] b ∙ ap (λ (x : ℕ). tail_of (q x)) (omega arith))
    ∙ sym (tokens-chunked (q i) (each i))
    ∙ ap (λ (x : ℕ). flat Item (q x)) (omega arith) in
    let back : fill_inputs payloads j ≡ ins =
    ap (λ (x : List Token). x ∷ columns (λ p. port_tokens j.tails p j.fibers) 0 (suc payloads)) (marks-all presence ss many)
    ∙ ap (λ (x : Streams). flat leaf presence ∷ x) (over-ext (λ p. port_tokens j.tails p j.fibers) (λ p. flat Item (q p)) 0 0 (suc payloads) port_back) in
    let outs : fill_outputs payloads j ≡ columns (λ p. flat Item (laid presence (contents (q p)))) 0 (suc payloads) =
    over-ext (λ p. flat (head_item p) (under served j.fibers)) (λ p. flat Item (laid presence (contents (q p)))) 0 0 (suc payloads)
    (λ i b. ap (λ (x : ℕ). flat (head_item x) (under served j.fibers)) (omega arith)
    ∙ put-laid i presence ss (c i) (serve i b)
    ∙ ap (λ (x : List (List ℕ)). flat Item (laid presence x)) (chunk-contents (q i))
    ∙ ap (λ (x : ℕ). flat Item (laid presence (contents (q x)))) (omega arith)) in
    record {
      fits = record {
        streams = s;
        back = ap (fill_inputs payloads) read ∙ back;
        well = subst (λ (x : Filling). Positive x.fibers) (sym read) (positive-deal presence ss pos);
      };
      made_of = ap (fill_outputs payloads) read ∙ outs;
    }
  where
    length_map : (cs : List Chunk) → length cs ≡ length (map size_of cs)
    length_map [] = refl
    length_map (x ∷ cs) = ap suc (length_map cs)
