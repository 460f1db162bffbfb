-- How a search goes on: a block is opened, lets ports pass, and is done.
use Rattle.std.specs.Prelude.{◌≡◌, ◌<◌, ◌≤◌, ◌≢◌, ℕ, ◌⊎◌, ◌+◌, List, [], ◌∷◌, ◌++◌, length, get_or, replicate, refl}
use Rattle.std.proofs.Common.{inl, inr, set, arith, ap, sym, subst, ◌∙◌}
use Rattle.std.specs.List.{sum_by}
use Rattle.std.proofs.lemmas.Bool.{cases_eq, cases_lt}
use Rattle.std.proofs.lemmas.List.{length-set, length-replicate, get_or-replicate, get_or_past, get_or_read, get_or-set_same, get_or-set_other, length_push, get_or_push, get_or_append_left}
use Rattle.std.proofs.lemmas.List.Sums.{sum_by-set}
use Rattle.graph.specs.declared.graphs.Graph.{Graph}
use Rattle.graph.specs.Wiring.{block}
use Rattle.graph.specs.Joined.{IsJoined}
use Rattle.graph_wiring.specs.declared.search.Progress.{Progress}
use Rattle.graph_wiring.specs.declared.search.Progress.TheVariants.{Fresh, Open, Done}
use Rattle.graph_wiring.specs.Leading.{Reaches}
use Rattle.graph_wiring.specs.Searching.{receiver, Among, Closes, at, steps_of, IsMet, IsSearch, StayMet, IsClosing}
use Rattle.graph_wiring.proofs.Reaching.{reaches-itself, reaches-on, reaches-receiver}
use Rattle.graph_wiring.proofs.Listing.{among-more, among-whole, among-last, among-front, once-front, once-last, once-more}

fresh-open : (p : ℕ) (x : Progress) → x ≡ Fresh → x ≡ Open p → ⊥
fresh-open p x e f = cc

fresh-done : (x : Progress) → x ≡ Fresh → x ≡ Done → ⊥
fresh-done x e f = cc

open-done : (p : ℕ) (x : Progress) → x ≡ Open p → x ≡ Done → ⊥
open-done p x e f = cc

same_port : (p q : ℕ) (x : Progress) → x ≡ Open p → x ≡ Open q → p ≡ q
same_port p q x e f = cc

pub some_progress : (x : Progress) → (x ≡ Fresh) ⊎ (((p : ℕ) × (x ≡ Open p)) ⊎ (x ≡ Done))
some_progress Fresh = inl refl
some_progress (Open p) = inr (inl (p, refl))
some_progress Done = inr (inr refl)

-- ---- one block changes

at-here : (ps : List Progress) (b : ℕ) (x : Progress) → b < length ps → at (set ps b x) b ≡ x
at-here ps b x l = get_or-set_same ps b x Fresh l

at-elsewhere : (ps : List Progress) (b a : ℕ) (x : Progress) → a ≢ b → at (set ps b x) a ≡ at ps a
at-elsewhere ps b a x ne = get_or-set_other ps b a x Fresh ne

-- a block that is as far as the one that changes wasn't
at-still : (ps : List Progress) (b a : ℕ) (x y : Progress) → (at ps b ≡ y → ⊥) → at ps a ≡ y → at (set ps b x) a ≡ y
at-still ps b a x y not h = at-elsewhere ps b a x (λ e. not (subst (λ (n : ℕ). at ps n ≡ y) e h)) ∙ h

at-before : (ps : List Progress) (b a : ℕ) (x y : Progress) → b < length ps → at (set ps b x) a ≡ y
    → ((a ≡ b) × (x ≡ y)) ⊎ ((a ≢ b) × (at ps a ≡ y))
at-before ps b a x y l h =
    elim (cases_eq a b) [
      | inl e ↦ inl (e, sym (at-here ps b x l) ∙ subst (λ (n : ℕ). at (set ps b x) n ≡ y) e h)
      | inr ne ↦ inr (ne, sym (at-elsewhere ps b a x ne) ∙ h)
    ]

pub met-still : (ps : List Progress) (b : ℕ) (x : Progress) → b < length ps → (x ≡ Fresh → ⊥) → StayMet ps (set ps b x)
met-still ps b x l not a met h =
    elim (at-before ps b a x Fresh l h) [
      | inl here ↦ not here.1
      | inr before ↦ met before.1
    ]

pub steps-set : (ps : List Progress) (b : ℕ) (x : Progress) → b < length ps
    → sum_by steps_of (set ps b x) + steps_of (at ps b) ≡ sum_by steps_of ps + steps_of x
steps-set ps b x l = sum_by-set steps_of ps b x Fresh l

-- an open block that passes ports has as many steps left
pub steps-same : (ps : List Progress) (b p q : ℕ) → b < length ps → at ps b ≡ Open p → sum_by steps_of (set ps b (Open q)) ≡ sum_by steps_of ps
steps-same ps b p q l h =
    let all = steps-set ps b (Open q) l in
    let one : steps_of (at ps b) ≡ 1 = ap steps_of h in
    omega (arith, all, one)

pub open-read : (ps : List Progress) (b p : ℕ) (x : Progress) → b < length ps → x ≡ get_or ps b x → x ≡ Open p → at ps b ≡ Open p
open-read ps b p x l e h = sym (get_or_read ps b x l e Fresh) ∙ h

open-met : (ps : List Progress) (b p : ℕ) → at ps b ≡ Open p → IsMet ps b
open-met ps b p h fresh = fresh-open p (at ps b) fresh h

-- ---- a block is opened

pub entered : (g : Graph) (stack order : List ℕ) (ps : List Progress) (b : ℕ) → IsSearch g stack order ps → b < length g.blocks → at ps b ≡ Fresh
    → ((i : ℕ) → i < length stack → Reaches g (get_or stack i 0) b)
    → IsSearch g (stack ++ b ∷ []) order (set ps b (Open 0))
entered g stack order ps b k lb fresh led =
    let l : b < length ps = omega (arith, lb, k.number) in
    let more = length_push stack b in
    let still : StayMet ps (set ps b (Open 0)) = met-still ps b (Open 0) l (λ (e : Open 0 ≡ Fresh). fresh-open 0 (Open 0) e refl) in
    record {
      number = length-set ps b (Open 0) ∙ k.number;
      opened = λ i li.
          elim (cases_lt i (length stack)) [
            | inl less ↦ let was = k.opened i less in
                subst (λ (n : ℕ). (n < length g.blocks) × ((p : ℕ) × (at (set ps b (Open 0)) n ≡ Open p))) (sym (get_or_append_left stack (b ∷ []) 0 i less))
                (was.0, (was.1.0, at-still ps b (get_or stack i 0) (Open 0) (Open was.1.0) (fresh-open was.1.0 (at ps b) fresh) was.1.1))
            | inr top ↦ let e : length stack ≡ i = omega (arith, li, more, top) in
                subst (λ (n : ℕ). (n < length g.blocks) × ((p : ℕ) × (at (set ps b (Open 0)) n ≡ Open p))) (sym (get_or_push stack b 0 i e))
                (lb, (0, at-here ps b (Open 0) l))
          ];
      apart = once-more stack b k.apart (λ i li e.
          let was = k.opened i li in
          fresh-open was.1.0 (at ps b) fresh (subst (λ (n : ℕ). at ps n ≡ Open was.1.0) e was.1.1));
      standing = λ a p h.
          elim (at-before ps b a (Open 0) (Open p) l h) [
            | inl here ↦ subst (λ (n : ℕ). Among (stack ++ b ∷ []) (length (stack ++ b ∷ [])) n) (sym here.0) (among-last stack b)
            | inr before ↦ among-whole stack b a (k.standing a p before.1)
          ];
      path = λ i j le lj.
          elim (cases_lt j (length stack)) [
            | inl less ↦ subst (λ (n : ℕ). Reaches g n (get_or (stack ++ b ∷ []) j 0)) (sym (get_or_append_left stack (b ∷ []) 0 i (omega (arith, le, less))))
                (subst (λ (n : ℕ). Reaches g (get_or stack i 0) n) (sym (get_or_append_left stack (b ∷ []) 0 j less)) (k.path i j le less))
            | inr top ↦ let e : length stack ≡ j = omega (arith, lj, more, top) in
                subst (λ (n : ℕ). Reaches g (get_or (stack ++ b ∷ []) i 0) n) (sym (get_or_push stack b 0 j e))
                (elim (cases_lt i (length stack)) [
                  | inl less ↦ subst (λ (n : ℕ). Reaches g n b) (sym (get_or_append_left stack (b ∷ []) 0 i less)) (led i less)
                  | inr last ↦ let f : length stack ≡ i = omega (arith, le, e, last) in
                      subst (λ (n : ℕ). Reaches g n b) (sym (get_or_push stack b 0 i f)) (reaches-itself g b)
                ])
          ];
      closed = λ i li. ((k.closed i li).0, at-still ps b (get_or order i 0) (Open 0) Done (fresh-done (at ps b) fresh) (k.closed i li).1);
      once = k.once;
      whole = λ a h.
          elim (at-before ps b a (Open 0) Done l h) [
            | inl here ↦ absurd (open-done 0 (Open 0) refl here.1)
            | inr before ↦ k.whole a before.1
          ];
      within = λ a q h.
          elim (at-before ps b a (Open 0) (Open q) l h) [
            | inl here ↦ let z : 0 ≡ q = same_port 0 q (Open 0) refl here.1 in omega (arith, z)
            | inr before ↦ k.within a q before.1
          ];
      passed = λ a p q h lp.
          elim (at-before ps b a (Open 0) (Open q) l h) [
            | inl here ↦ let z : 0 ≡ q = same_port 0 q (Open 0) refl here.1 in absurd (omega (arith, z, lp))
            | inr before ↦ still (receiver g a p) (k.passed a p q before.1 lp)
          ];
      met = λ i p li lp. still (receiver g (get_or order i 0) p) (k.met i p li lp);
      closes = k.closes;
    }

-- every open block leads to a receiver of the last
pub leads-on : (g : Graph) (stack order : List ℕ) (ps : List Progress) (n b p r : ℕ) → IsJoined g → IsSearch g stack order ps → n + 1 ≡ length stack
    → get_or stack n 0 ≡ b → b < length g.blocks → p < length (block g b).outs → r ≡ receiver g b p
    → (i : ℕ) → i < length stack → Reaches g (get_or stack i 0) r
leads-on g stack order ps n b p r joined k last e lb lp is i li =
    subst (λ (x : ℕ). Reaches g (get_or stack i 0) x) (sym is)
    (reaches-on g (get_or stack i 0) b (receiver g b p)
    (subst (λ (x : ℕ). Reaches g (get_or stack i 0) x) e (k.path i n (omega (arith, li, last)) (omega (arith, last))))
    (reaches-receiver g b p joined lb lp))

-- ---- an open block lets ports pass

pub let_pass : (g : Graph) (stack order : List ℕ) (ps : List Progress) (b from port : ℕ) → IsSearch g stack order ps → b < length g.blocks
    → at ps b ≡ Open from → port ≤ length (block g b).outs
    → ((p : ℕ) → from ≤ p → p < port → IsMet ps (receiver g b p))
    → IsSearch g stack order (set ps b (Open port))
let_pass g stack order ps b from port k lb here most past =
    let l : b < length ps = omega (arith, lb, k.number) in
    let still : StayMet ps (set ps b (Open port)) = met-still ps b (Open port) l (λ (e : Open port ≡ Fresh). fresh-open port (Open port) e refl) in
    record {
      number = length-set ps b (Open port) ∙ k.number;
      opened = λ i li.
          let was = k.opened i li in (
            was.0,
            elim (cases_eq (get_or stack i 0) b) [
              | inl e ↦ (port, subst (λ (n : ℕ). at (set ps b (Open port)) n ≡ Open port) (sym e) (at-here ps b (Open port) l))
              | inr ne ↦ (was.1.0, at-elsewhere ps b (get_or stack i 0) (Open port) ne ∙ was.1.1)
            ],
          );
      apart = k.apart;
      standing = λ a p h.
          elim (at-before ps b a (Open port) (Open p) l h) [
            | inl same ↦ subst (λ (n : ℕ). Among stack (length stack) n) (sym same.0) (k.standing b from here)
            | inr before ↦ k.standing a p before.1
          ];
      path = k.path;
      closed = λ i li. ((k.closed i li).0, at-still ps b (get_or order i 0) (Open port) Done (open-done from (at ps b) here) (k.closed i li).1);
      once = k.once;
      whole = λ a h.
          elim (at-before ps b a (Open port) Done l h) [
            | inl same ↦ absurd (open-done port (Open port) refl same.1)
            | inr before ↦ k.whole a before.1
          ];
      within = λ a q h.
          elim (at-before ps b a (Open port) (Open q) l h) [
            | inl same ↦ let z : port ≡ q = same_port port q (Open port) refl same.1 in
                subst (λ (n : ℕ). q ≤ length (block g n).outs) (sym same.0) (omega (arith, z, most))
            | inr before ↦ k.within a q before.1
          ];
      passed = λ a p q h lp.
          still (receiver g a p)
          (elim (at-before ps b a (Open port) (Open q) l h) [
            | inl same ↦ let z : port ≡ q = same_port port q (Open port) refl same.1 in
                subst (λ (n : ℕ). IsMet ps (receiver g n p)) (sym same.0)
                (elim (cases_lt p from) [
                  | inl less ↦ k.passed b p from here less
                  | inr more ↦ past p more (omega (arith, lp, z))
                ])
            | inr before ↦ k.passed a p q before.1 lp
          ]);
      met = λ i p li lp. still (receiver g (get_or order i 0) p) (k.met i p li lp);
      closes = k.closes;
    }

-- ---- the last open block is done

-- each block that was met is done, or reaches the last open one
done-or-reaches : (g : Graph) (stack order : List ℕ) (ps : List Progress) (b r : ℕ) → IsSearch g (stack ++ b ∷ []) order ps → IsMet ps r
    → Among order (length order) r ⊎ Reaches g r b
done-or-reaches g stack order ps b r k met =
    let more = length_push stack b in
    elim (some_progress (at ps r)) [
      | inl fresh ↦ absurd (met fresh)
      | inr other ↦ elim other [
        | inl opened ↦ let there = k.standing r opened.0 opened.1 in
            inr (subst (λ (n : ℕ). Reaches g n b) there.2
            (subst (λ (n : ℕ). Reaches g (get_or (stack ++ b ∷ []) there.0 0) n) (get_or_push stack b 0 (length stack) refl)
            (k.path there.0 (length stack) (omega (arith, there.1, more)) (omega (arith, more)))))
        | inr done ↦ inl (k.whole r done)
      ]
    ]

closes-more : (g : Graph) (stack order : List ℕ) (ps : List Progress) (b : ℕ) → IsSearch g (stack ++ b ∷ []) order ps
    → ((p : ℕ) → p < length (block g b).outs → IsMet ps (receiver g b p)) → Closes g (order ++ b ∷ [])
closes-more g stack order ps b k met i p n li lp le ln =
    let more = length_push order b in
    elim (cases_lt n (length order)) [
      | inl less ↦
          let e : get_or (order ++ b ∷ []) i 0 ≡ get_or order i 0 = get_or_append_left order (b ∷ []) 0 i (omega (arith, le, less)) in
          let f : get_or (order ++ b ∷ []) n 0 ≡ get_or order n 0 = get_or_append_left order (b ∷ []) 0 n less in
          let lp' : p < length (block g (get_or order i 0)).outs = subst (λ (x : ℕ). p < length (block g x).outs) e lp in
          rw (e, f) (elim (k.closes i p n (omega (arith, le, less)) lp' le less) [
            | inl among ↦ inl (among-more order b n n (receiver g (get_or order i 0) p) (omega (arith, less)) (omega arith) among)
            | inr reaches ↦ inr reaches
          ])
      | inr top ↦
          let at : length order ≡ n = omega (arith, ln, more, top) in
          let f : get_or (order ++ b ∷ []) n 0 ≡ b = get_or_push order b 0 n at in
          let here : IsMet ps (receiver g (get_or (order ++ b ∷ []) i 0) p) =
          elim (cases_lt i (length order)) [
            | inl less ↦ let e : get_or (order ++ b ∷ []) i 0 ≡ get_or order i 0 = get_or_append_left order (b ∷ []) 0 i less in
                subst (λ (x : ℕ). IsMet ps (receiver g x p)) (sym e) (k.met i p less (subst (λ (x : ℕ). p < length (block g x).outs) e lp))
            | inr last ↦ let e : get_or (order ++ b ∷ []) i 0 ≡ b = get_or_push order b 0 i (omega (arith, li, more, last)) in
                subst (λ (x : ℕ). IsMet ps (receiver g x p)) (sym e) (met p (subst (λ (x : ℕ). p < length (block g x).outs) e lp))
          ] in
          elim (done-or-reaches g stack order ps b (receiver g (get_or (order ++ b ∷ []) i 0) p) k here) [
            | inl among ↦ inl (among-more order b (length order) n (receiver g (get_or (order ++ b ∷ []) i 0) p) (omega arith) (omega (arith, at)) among)
            | inr reaches ↦ inr (subst (λ (x : ℕ). Reaches g (receiver g (get_or (order ++ b ∷ []) i 0) p) x) (sym f) reaches)
          ]
    ]

pub left : (g : Graph) (stack order : List ℕ) (ps : List Progress) (b : ℕ) → IsSearch g (stack ++ b ∷ []) order ps
    → ((p : ℕ) → p < length (block g b).outs → IsMet ps (receiver g b p)) → IsSearch g stack (order ++ b ∷ []) (set ps b Done)
left g stack order ps b k met =
    let more = length_push stack b in
    let longer = length_push order b in
    let top : get_or (stack ++ b ∷ []) (length stack) 0 ≡ b = get_or_push stack b 0 (length stack) refl in
    let last = k.opened (length stack) (omega (arith, more)) in
    let lb : b < length g.blocks = subst (λ (n : ℕ). n < length g.blocks) top last.0 in
    let here : at ps b ≡ Open last.1.0 = subst (λ (n : ℕ). at ps n ≡ Open last.1.0) top last.1.1 in
    let l : b < length ps = omega (arith, lb, k.number) in
    let still : StayMet ps (set ps b Done) = met-still ps b Done l (λ (e : Done ≡ Fresh). fresh-done Done e refl) in
    let not-done : at ps b ≡ Done → ⊥ = open-done last.1.0 (at ps b) here in
    record {
      number = length-set ps b Done ∙ k.number;
      opened = λ i li.
          let e : get_or (stack ++ b ∷ []) i 0 ≡ get_or stack i 0 = get_or_append_left stack (b ∷ []) 0 i li in
          let was = k.opened i (omega (arith, li, more)) in (
            subst (λ (n : ℕ). n < length g.blocks) e was.0,
            (was.1.0, at-elsewhere ps b (get_or stack i 0) Done (once-last stack b k.apart i li) ∙ subst (λ (n : ℕ). at ps n ≡ Open was.1.0) e was.1.1),
          );
      apart = once-front stack b k.apart;
      standing = λ a p h.
          elim (at-before ps b a Done (Open p) l h) [
            | inl same ↦ absurd (open-done p Done same.1 refl)
            | inr before ↦ among-front stack b a before.0 (k.standing a p before.1)
          ];
      path = λ i j le lj.
          subst (λ (n : ℕ). Reaches g n (get_or stack j 0)) (get_or_append_left stack (b ∷ []) 0 i (omega (arith, le, lj)))
          (subst (λ (n : ℕ). Reaches g (get_or (stack ++ b ∷ []) i 0) n) (get_or_append_left stack (b ∷ []) 0 j lj)
          (k.path i j le (omega (arith, lj, more))));
      closed = λ i li.
          elim (cases_lt i (length order)) [
            | inl less ↦ subst (λ (n : ℕ). (n < length g.blocks) × (at (set ps b Done) n ≡ Done)) (sym (get_or_append_left order (b ∷ []) 0 i less))
                ((k.closed i less).0, at-still ps b (get_or order i 0) Done Done not-done (k.closed i less).1)
            | inr end ↦ subst (λ (n : ℕ). (n < length g.blocks) × (at (set ps b Done) n ≡ Done)) (sym (get_or_push order b 0 i (omega (arith, li, longer, end))))
                (lb, at-here ps b Done l)
          ];
      once = once-more order b k.once (λ i li e. not-done (subst (λ (n : ℕ). at ps n ≡ Done) e (k.closed i li).1));
      whole = λ a h.
          elim (at-before ps b a Done Done l h) [
            | inl same ↦ subst (λ (n : ℕ). Among (order ++ b ∷ []) (length (order ++ b ∷ [])) n) (sym same.0) (among-last order b)
            | inr before ↦ among-whole order b a (k.whole a before.1)
          ];
      within = λ a q h.
          elim (at-before ps b a Done (Open q) l h) [
            | inl same ↦ absurd (open-done q Done same.1 refl)
            | inr before ↦ k.within a q before.1
          ];
      passed = λ a p q h lp.
          elim (at-before ps b a Done (Open q) l h) [
            | inl same ↦ absurd (open-done q Done same.1 refl)
            | inr before ↦ still (receiver g a p) (k.passed a p q before.1 lp)
          ];
      met = λ i p li lp.
          still (receiver g (get_or (order ++ b ∷ []) i 0) p)
          (elim (cases_lt i (length order)) [
            | inl less ↦ let e : get_or (order ++ b ∷ []) i 0 ≡ get_or order i 0 = get_or_append_left order (b ∷ []) 0 i less in
                subst (λ (x : ℕ). IsMet ps (receiver g x p)) (sym e) (k.met i p less (subst (λ (x : ℕ). p < length (block g x).outs) e lp))
            | inr end ↦ let e : get_or (order ++ b ∷ []) i 0 ≡ b = get_or_push order b 0 i (omega (arith, li, longer, end)) in
                subst (λ (x : ℕ). IsMet ps (receiver g x p)) (sym e) (met p (subst (λ (x : ℕ). p < length (block g x).outs) e lp))
          ]);
      closes = closes-more g stack order ps b k met;
    }

-- ---- the whole search

fresh-at : (n b : ℕ) → at (replicate n Fresh) b ≡ Fresh
fresh-at n b =
    elim (cases_lt b n) [
      | inl less ↦ get_or-replicate n b Fresh Fresh less
      | inr past ↦ get_or_past (replicate n Fresh) b Fresh (let long = length-replicate n Fresh in omega (arith, long, past))
    ]

pub begun : (g : Graph) (stack order : List ℕ) (ps : List Progress) (n : ℕ) → stack ≡ [] → order ≡ [] → ps ≡ replicate n Fresh
    → n ≡ length g.blocks → IsSearch g stack order ps
begun g stack order ps n e f h number =
    let fresh : (b : ℕ) → at ps b ≡ Fresh = subst (λ (xs : List Progress). (b : ℕ) → at xs b ≡ Fresh) (sym h) (fresh-at n) in
    let none : length stack ≡ 0 = ap length e in
    let empty : length order ≡ 0 = ap length f in
    record {
      number = ap length h ∙ length-replicate n Fresh ∙ number;
      opened = λ i l. absurd (omega (arith, l, none));
      apart = λ i j l. absurd (omega (arith, l, none));
      standing = λ b p h. absurd (fresh-open p (at ps b) (fresh b) h);
      path = λ i j le l. absurd (omega (arith, l, none));
      closed = λ i l. absurd (omega (arith, l, empty));
      once = λ i j l. absurd (omega (arith, l, empty));
      whole = λ b h. absurd (fresh-done (at ps b) (fresh b) h);
      within = λ b q h. absurd (fresh-open q (at ps b) (fresh b) h);
      passed = λ b p q h. absurd (fresh-open q (at ps b) (fresh b) h);
      met = λ i p l. absurd (omega (arith, l, empty));
      closes = λ i p k l. absurd (omega (arith, l, empty));
    }

pub met-more : (ps ps' : List Progress) (n : ℕ) → ((b : ℕ) → b < n → IsMet ps b) → StayMet ps ps' → IsMet ps' n → (b : ℕ) → b < n + 1 → IsMet ps' b
met-more ps ps' n old stay here b l =
    elim (cases_lt b n) [
      | inl less ↦ stay b (old b less)
      | inr top ↦ let e : n ≡ b = omega (arith, l, top) in subst (λ (x : ℕ). IsMet ps' x) e here
    ]

-- when no block is open and all are met, all are done
pub ended : (g : Graph) (stack order : List ℕ) (ps : List Progress) → IsSearch g stack order ps → stack ≡ [] → ((b : ℕ) → b < length g.blocks → IsMet ps b) → IsClosing g order
ended g stack order ps k e met = record {
  blocks = λ i l. (k.closed i l).0;
  once = k.once;
  whole = λ b l.
      elim (some_progress (at ps b)) [
        | inl fresh ↦ absurd (met b l fresh)
        | inr other ↦ elim other [
          | inl opened ↦ absurd (let there = k.standing b opened.0 opened.1 in let none : length stack ≡ 0 = ap length e in omega (arith, there.1, none))
          | inr done ↦ k.whole b done
        ]
      ];
  closes = k.closes;
}
