-- How the order grows as blocks go on and are placed.
use Rattle.std.specs.Prelude.{◌≡◌, ◌<◌, ◌≤◌, ◌≢◌, ℕ, ◌+◌, cond, List, [], ◌∷◌, ◌++◌, length, get_or, take, refl}
use Rattle.std.proofs.Common.{◌⊎◌, inl, inr, set, arith, ap, sym, subst, ◌∙◌}
use Rattle.std.specs.List.{Contains, count_by}
use Rattle.std.proofs.lemmas.Bool.{cases_eq, cases_lt}
use Rattle.std.proofs.lemmas.List.{length-set, get_or_read, get_or-set_same, get_or-set_other, length_push, get_or_push, get_or_append_left, take-append-le, take_all}
use Rattle.std.proofs.lemmas.List.Elements.{Contains-append_left, Contains-push}
use Rattle.std.proofs.lemmas.List.Sums.{sum_by-set}
use Rattle.graph.specs.declared.graphs.Graph.{Graph}
use Rattle.graph.specs.declared.order.Progress.{Progress}
use Rattle.graph.specs.declared.order.Progress.TheVariants.{WaitsAt, Placed}
use Rattle.graph.specs.Wiring.{block, channel, into, out_of}
use Rattle.graph.specs.Joined.{IsJoined}
use Rattle.graph.specs.Placing.{sender, progress_placed, reached, BlockPlaced, IsPlacing, Later, AllWait, WaitsPast}

apart : (q : ℕ) (x : Progress) → x ≡ WaitsAt q → x ≡ Placed → ⊥
apart q x e f = cc

same_port : (p q : ℕ) (x : Progress) → x ≡ WaitsAt p → x ≡ WaitsAt q → p ≡ q
same_port p q x e f = cc

pub reached-read : (ps : List Progress) (b q : ℕ) (x : Progress) → b < length ps → x ≡ get_or ps b x → x ≡ WaitsAt q → reached ps b ≡ WaitsAt q
reached-read ps b q x l e w = sym (get_or_read ps b x l e (WaitsAt 0)) ∙ w

-- ---- one block changes

reached-here : (ps : List Progress) (b : ℕ) (x : Progress) → b < length ps → reached (set ps b x) b ≡ x
reached-here ps b x l = get_or-set_same ps b x (WaitsAt 0) l

reached-elsewhere : (ps : List Progress) (b a : ℕ) (x : Progress) → a ≢ b → reached (set ps b x) a ≡ reached ps a
reached-elsewhere ps b a x ne = get_or-set_other ps b a x (WaitsAt 0) ne

-- placed blocks stay so, where the one that changes wasn't
placed-still : (ps : List Progress) (b a q : ℕ) (x : Progress) → reached ps b ≡ WaitsAt q → BlockPlaced ps a → BlockPlaced (set ps b x) a
placed-still ps b a q x w h =
    reached-elsewhere ps b a x (λ e. apart q (reached ps b) w (subst (λ (n : ℕ). BlockPlaced ps n) e h)) ∙ h

-- a block that only goes on isn't placed
placed-before : (ps : List Progress) (b a p : ℕ) → b < length ps → BlockPlaced (set ps b (WaitsAt p)) a → BlockPlaced ps a
placed-before ps b a p l h =
    elim (cases_eq a b) [
      | inl e ↦ absurd (apart p (reached (set ps b (WaitsAt p)) b) (reached-here ps b (WaitsAt p) l) (subst (λ (n : ℕ). BlockPlaced (set ps b (WaitsAt p)) n) e h))
      | inr ne ↦ sym (reached-elsewhere ps b a (WaitsAt p) ne) ∙ h
    ]

-- a block waits where it was set to, or where it waited before
waits-before : (ps : List Progress) (b a q : ℕ) (x : Progress) → b < length ps → reached (set ps b x) a ≡ WaitsAt q
    → ((a ≡ b) × (x ≡ WaitsAt q)) ⊎ (reached ps a ≡ WaitsAt q)
waits-before ps b a q x l h =
    elim (cases_eq a b) [
      | inl e ↦ inl (e, sym (reached-here ps b x l) ∙ subst (λ (n : ℕ). reached (set ps b x) n ≡ WaitsAt q) e h)
      | inr ne ↦ inr (sym (reached-elsewhere ps b a x ne) ∙ h)
    ]

abbrev counts : Progress → ℕ
counts x = cond (progress_placed x) 1 0

count-set : (ps : List Progress) (b : ℕ) (x : Progress) → b < length ps
    → count_by progress_placed (set ps b x) + counts (reached ps b) ≡ count_by progress_placed ps + counts x
count-set ps b x l = sum_by-set counts ps b x (WaitsAt 0) l

-- ---- a block goes on

pub kept-on : (g : Graph) (order : List ℕ) (ps : List Progress) (b from port : ℕ) → IsPlacing g order ps → b < length g.blocks
    → reached ps b ≡ WaitsAt from → port ≤ length (block g b).ins
    → ((p : ℕ) → from ≤ p → p < port → BlockPlaced ps (sender g b p))
    → IsPlacing g order (set ps b (WaitsAt port))
kept-on g order ps b from port k lb w most passed =
    let l : b < length ps = omega (arith, lb, k.number) in
    record {
      number = length-set ps b (WaitsAt port) ∙ k.number;
      counted = let n = count-set ps b (WaitsAt port) l in
          let old : counts (reached ps b) ≡ 0 = ap counts w in
          omega (arith, n, old, k.counted);
      blocks = λ i li. ((k.blocks i li).0, placed-still ps b (get_or order i 0) from (WaitsAt port) w (k.blocks i li).1);
      whole = λ a la h. k.whole a la (placed-before ps b a port l h);
      after = k.after;
      past = λ a p q la lp h. placed-still ps b (sender g a p) from (WaitsAt port) w
          (elim (waits-before ps b a q (WaitsAt port) l h) [
            | inl here ↦ let top : p < port = omega (arith, lp, same_port port q (WaitsAt port) refl here.1) in
                subst (λ (n : ℕ). BlockPlaced ps (sender g n p)) (sym here.0)
                (elim (cases_lt p from) [
                  | inl less ↦ k.past b p from lb less w
                  | inr more ↦ passed p more top
                ])
            | inr before ↦ k.past a p q la lp before
          ]);
      within = λ a q la h.
          elim (waits-before ps b a q (WaitsAt port) l h) [
            | inl here ↦ subst (λ (n : ℕ). q ≤ length (block g n).ins) (sym here.0) (omega (arith, most, same_port port q (WaitsAt port) refl here.1))
            | inr before ↦ k.within a q la before
          ];
    }

-- ---- a block is placed

pub kept-placed : (g : Graph) (order : List ℕ) (ps : List Progress) (b from : ℕ) → IsPlacing g order ps → b < length g.blocks
    → reached ps b ≡ WaitsAt from
    → ((p : ℕ) → from ≤ p → p < length (block g b).ins → BlockPlaced ps (sender g b p))
    → ((p : ℕ) → p < length (block g b).ins → sender g b p < length g.blocks)
    → IsPlacing g (order ++ b ∷ []) (set ps b Placed)
kept-placed g order ps b from k lb w passed there =
    let l : b < length ps = omega (arith, lb, k.number) in
    let more = length_push order b in
    record {
      number = length-set ps b Placed ∙ k.number;
      counted = let n = count-set ps b Placed l in
          let old : counts (reached ps b) ≡ 0 = ap counts w in
          omega (arith, n, old, more, k.counted);
      blocks = λ i li.
          elim (cases_lt i (length order)) [
            | inl less ↦ subst (λ (n : ℕ). (n < length g.blocks) × BlockPlaced (set ps b Placed) n) (sym (get_or_append_left order (b ∷ []) 0 i less))
                ((k.blocks i less).0, placed-still ps b (get_or order i 0) from Placed w (k.blocks i less).1)
            | inr top ↦ let e : length order ≡ i = omega (arith, li, more, top) in
                subst (λ (n : ℕ). (n < length g.blocks) × BlockPlaced (set ps b Placed) n) (sym (get_or_push order b 0 i e)) (lb, reached-here ps b Placed l)
          ];
      whole = λ a la h.
          elim (cases_eq a b) [
            | inl e ↦ subst (λ (n : ℕ). Contains (order ++ b ∷ []) n) (sym e) (Contains-push order b)
            | inr ne ↦ Contains-append_left order (b ∷ []) a (k.whole a la (sym (reached-elsewhere ps b a Placed ne) ∙ h))
          ];
      after = λ i p li.
          elim (cases_lt i (length order)) [
            | inl less ↦ λ lp.
                let e : get_or (order ++ b ∷ []) i 0 ≡ get_or order i 0 = get_or_append_left order (b ∷ []) 0 i less in
                let same : take i (order ++ b ∷ []) ≡ take i order = take-append-le i order (b ∷ []) (omega (arith, less)) in
                subst (λ (xs : List ℕ). Contains xs (sender g (get_or (order ++ b ∷ []) i 0) p)) (sym same)
                (subst (λ (n : ℕ). Contains (take i order) (sender g n p)) (sym e) (k.after i p less (subst (λ (n : ℕ). p < length (block g n).ins) e lp)))
            | inr top ↦ λ lp.
                let at : length order ≡ i = omega (arith, li, more, top) in
                let e : get_or (order ++ b ∷ []) i 0 ≡ b = get_or_push order b 0 i at in
                let same : take i (order ++ b ∷ []) ≡ order = take-append-le i order (b ∷ []) (omega (arith, at)) ∙ take_all i order (omega (arith, at)) in
                let lp' : p < length (block g b).ins = subst (λ (n : ℕ). p < length (block g n).ins) e lp in
                let placed : BlockPlaced ps (sender g b p) =
                elim (cases_lt p from) [
                  | inl before ↦ k.past b p from lb before w
                  | inr on ↦ passed p on lp'
                ] in
                subst (λ (xs : List ℕ). Contains xs (sender g (get_or (order ++ b ∷ []) i 0) p)) (sym same)
                (subst (λ (n : ℕ). Contains order (sender g n p)) (sym e) (k.whole (sender g b p) (there p lp') placed))
          ];
      past = λ a p q la lp h.
          elim (waits-before ps b a q Placed l h) [
            | inl here ↦ absurd (apart q Placed here.1 refl)
            | inr before ↦ placed-still ps b (sender g a p) from Placed w (k.past a p q la lp before)
          ];
      within = λ a q la h.
          elim (waits-before ps b a q Placed l h) [
            | inl here ↦ absurd (apart q Placed here.1 refl)
            | inr before ↦ k.within a q la before
          ];
    }

-- ---- one change after another

pub later-later : (g : Graph) (o1 o2 o3 : List ℕ) (s1 s2 s3 : List Progress) → Later g o1 s1 o2 s2 → Later g o2 s2 o3 s3 → Later g o1 s1 o3 s3
later-later g o1 o2 o3 s1 s2 s3 x y =
    record {
      longer = omega (arith, x.longer, y.longer);
      front = λ i l. y.front i (omega (arith, l, x.longer)) ∙ x.front i l;
      stay = λ b h. y.stay b (x.stay b h);
      waits = λ b q l h.
          elim (y.waits b q l h) [
            | inl before ↦ x.waits b q l before
            | inr new ↦ inr (new.0, λ p. new.1 (x.stay (sender g b q) p))
          ];
    }

-- a block that isn't placed stands nowhere in the order
not-there : (g : Graph) (order : List ℕ) (ps : List Progress) (b i : ℕ) → IsPlacing g order ps → i < length order
    → (BlockPlaced ps b → ⊥) → b ≡ get_or order i 0 → ⊥
not-there g order ps b i k l not e = not (subst (λ (n : ℕ). BlockPlaced ps n) (sym e) (k.blocks i l).1)

-- all wait still
pub all-wait : (g : Graph) (o1 o2 : List ℕ) (s1 s2 : List Progress) → Later g o1 s1 o2 s2 → AllWait g s1 → AllWait g s2
all-wait g o1 o2 s1 s2 x wait b q l h =
    elim (x.waits b q l h) [
      | inl before ↦ wait b q l before
      | inr new ↦ new.0
    ]

-- one block more waits at its ports
pub wait-more : (g : Graph) (o1 o2 : List ℕ) (s1 s2 : List Progress) (b : ℕ) → Later g o1 s1 o2 s2 → b < length g.blocks
    → ((a q : ℕ) → a < b → reached s1 a ≡ WaitsAt q → q < length (block g a).ins)
    → ((q : ℕ) → reached s2 b ≡ WaitsAt q → q < length (block g b).ins)
    → (a q : ℕ) → a < b + 1 → reached s2 a ≡ WaitsAt q → q < length (block g a).ins
wait-more g o1 o2 s1 s2 b x lb old new a q l h =
    elim (cases_lt a b) [
      | inl less ↦ elim (x.waits a q (omega (arith, less, lb)) h) [
        | inl before ↦ old a q less before
        | inr on ↦ on.0
      ]
      | inr top ↦ let e : a ≡ b = omega (arith, l, top) in
          subst (λ (n : ℕ). q < length (block g n).ins) (sym e) (new q (subst (λ (n : ℕ). reached s2 n ≡ WaitsAt q) e h))
    ]

-- ---- what a placed block leads to goes on

-- no block waits at a channel from the first k ports of block a
abbrev pub PassedPorts : Graph → List Progress → ℕ → ℕ → Type 0
PassedPorts g ps a k =
    (r q : ℕ) → r < length g.blocks → reached ps r ≡ WaitsAt q → sender g r q ≡ a → k ≤ (channel g (into g r q)).from_port

-- the channel that a block waits at is the one at its sender's port
waits-there : (g : Graph) (a k r q : ℕ) → IsJoined g → r < length g.blocks → q < length (block g r).ins → sender g r q ≡ a
    → (channel g (into g r q)).from_port ≡ k → r ≡ (channel g (out_of g a k)).to_block
waits-there g a k r q joined lr lq from port =
    let named = (joined.blocks r lr).in_named q lq in
    let sent = (joined.channels (into g r q) named.0).came in
    let same : out_of g a k ≡ into g r q = subst (λ (n : ℕ). out_of g a n ≡ into g r q) port
    (subst (λ (n : ℕ). out_of g n (channel g (into g r q)).from_port ≡ into g r q) from sent.2) in
    sym (ap (λ (d : ℕ). (channel g d).to_block) same ∙ named.1)

pub port-more : (g : Graph) (o1 o2 : List ℕ) (s1 s2 : List Progress) (a k : ℕ) → IsJoined g → Later g o1 s1 o2 s2 → AllWait g s1
    → BlockPlaced s1 a
    → ((q : ℕ) → reached s2 (channel g (out_of g a k)).to_block ≡ WaitsAt q → BlockPlaced s1 (sender g (channel g (out_of g a k)).to_block q) → ⊥)
    → PassedPorts g s1 a k → PassedPorts g s2 a (k + 1)
port-more g o1 o2 s1 s2 a k joined x wait placed new past r q lr h from =
    let here : BlockPlaced s1 (sender g r q) = subst (λ (n : ℕ). BlockPlaced s1 n) (sym from) placed in
    elim (cases_eq r (channel g (out_of g a k)).to_block) [
      | inl e ↦ absurd (new q (subst (λ (n : ℕ). reached s2 n ≡ WaitsAt q) e h) (subst (λ (n : ℕ). BlockPlaced s1 (sender g n q)) e here))
      | inr ne ↦ elim (x.waits r q lr h) [
        | inl before ↦ let least = past r q lr before from in
            elim (cases_eq (channel g (into g r q)).from_port k) [
              | inl e ↦ absurd (ne (waits-there g a k r q joined lr (wait r q lr before) from e))
              | inr other ↦ omega (arith, least, other)
            ]
        | inr on ↦ absurd (on.1 here)
      ]
    ]

pub all-ports : (g : Graph) (ps : List Progress) (a k : ℕ) → IsJoined g → AllWait g ps → length (block g a).outs ≤ k → PassedPorts g ps a k
    → (r q : ℕ) → r < length g.blocks → reached ps r ≡ WaitsAt q → sender g r q ≡ a → ⊥
all-ports g ps a k joined wait most past r q lr h from =
    let named = (joined.blocks r lr).in_named q (wait r q lr h) in
    let sent = (joined.channels (into g r q) named.0).came in
    let less : (channel g (into g r q)).from_port < length (block g a).outs =
    subst (λ (n : ℕ). (channel g (into g r q)).from_port < length (block g n).outs) from sent.1 in
    omega (arith, less, most, past r q lr h from)

-- no block waits for the next block of the order
pub past-more : (g : Graph) (o1 o2 : List ℕ) (s1 s2 : List Progress) (n : ℕ) → IsPlacing g o1 s1 → Later g o1 s1 o2 s2 → n < length o1
    → WaitsPast g o1 s1 n
    → ((r q : ℕ) → r < length g.blocks → reached s2 r ≡ WaitsAt q → sender g r q ≡ get_or o1 n 0 → ⊥)
    → WaitsPast g o2 s2 (n + 1)
past-more g o1 o2 s1 s2 n k x l past new b q i lb h li e =
    elim (cases_lt i n) [
      | inl less ↦ let there : sender g b q ≡ get_or o1 i 0 = e ∙ x.front i (omega (arith, less, l)) in
          elim (x.waits b q lb h) [
            | inl before ↦ past b q i lb before less there
            | inr on ↦ not-there g o1 s1 (sender g b q) i k (omega (arith, less, l)) on.1 there
          ]
      | inr top ↦ let same : i ≡ n = omega (arith, li, top) in
          new b q lb h (subst (λ (m : ℕ). sender g b q ≡ get_or o2 m 0) same e ∙ x.front n l)
    ]
