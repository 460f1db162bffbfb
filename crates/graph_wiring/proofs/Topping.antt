-- How blocks are given their tops.
use Rattle.std.specs.Prelude.{◌≡◌, ◌<◌, ◌≤◌, ◌≢◌, ◌-◌, ℕ, ◌⊎◌, suc, ◌+◌, Option, Some, None, List, [], ◌∷◌, ◌++◌, length, get_or, replicate, cond, ◌*◌, Bool, true, not, refl}
use Rattle.std.proofs.Common.{inl, inr, set, arith, ap, sym, subst, ◌∙◌}
use Rattle.std.specs.List.{count_by}
use Rattle.std.specs.Option.{is_some}
use Rattle.std.proofs.lemmas.Bool.{cases_eq, cases_lt, both_ways}
use Rattle.std.proofs.lemmas.List.{length-set, length-replicate, get_or-replicate, get_or_past, get_or_read, get_or-set_same, get_or-set_other, length_push, get_or_push, get_or_append_left}
use Rattle.std.proofs.lemmas.List.Sums.{sum_by-set, count_by-le-length}
use Rattle.std.proofs.lemmas.List.Folds.{sum_by-replicate}
use Rattle.graph.specs.declared.graphs.Graph.{Graph}
use Rattle.graph.specs.Wiring.{block, channel, into}
use Rattle.graph.specs.Joined.{IsJoined}
use Rattle.graph.specs.Placing.{sender}
use Rattle.graph_wiring.specs.Leading.{Reaches}
use Rattle.graph_wiring.specs.Searching.{Among, IsClosing}
use Rattle.graph_wiring.specs.Topping.{height, is_given, top, IsTops, IsTopping, TopsStay}
use Rattle.graph_wiring.proofs.Reaching.{reaches-by}
use Rattle.graph_wiring.proofs.Listing.{among-whole, among-last}

-- ---- one block is given its top

top-here : (tops : List (Option ℕ)) (b place : ℕ) → b < length tops → top (set tops b (Some place)) b ≡ suc place
top-here tops b place l = ap height (get_or-set_same tops b (Some place) None l)

top-elsewhere : (tops : List (Option ℕ)) (b a place : ℕ) → a ≢ b → top (set tops b (Some place)) a ≡ top tops a
top-elsewhere tops b a place ne = ap height (get_or-set_other tops b a (Some place) None ne)

-- blocks that have one keep it
top-still : (tops : List (Option ℕ)) (b a place : ℕ) → top tops b ≡ 0 → 0 < top tops a → top (set tops b (Some place)) a ≡ top tops a
top-still tops b a place none some =
    top-elsewhere tops b a place (λ e.
    let zero : top tops a ≡ 0 = subst (λ (n : ℕ). top tops n ≡ 0) (sym e) none in
    omega (arith, zero, some))

top-before : (tops : List (Option ℕ)) (b a place : ℕ) → b < length tops → top tops b ≡ 0 → 0 < top (set tops b (Some place)) a
    → ((a ≡ b) × (top (set tops b (Some place)) a ≡ suc place)) ⊎ ((0 < top tops a) × (top (set tops b (Some place)) a ≡ top tops a))
top-before tops b a place l none some =
    elim (cases_eq a b) [
      | inl e ↦ inl (e, subst (λ (n : ℕ). top (set tops b (Some place)) n ≡ suc place) (sym e) (top-here tops b place l))
      | inr ne ↦ let same = top-elsewhere tops b a place ne in
          inr (subst (λ (n : ℕ). 0 < n) same some, same)
    ]

abbrev counts : Option ℕ → ℕ
counts x = cond (is_given x) 1 0

given-set : (tops : List (Option ℕ)) (b place : ℕ) → b < length tops → get_or tops b None ≡ None
    → count_by is_given (set tops b (Some place)) ≡ count_by is_given tops + 1
given-set tops b place l none =
    let counted : count_by is_given (set tops b (Some place)) + counts (get_or tops b None) ≡ count_by is_given tops + 1 =
    sum_by-set counts tops b (Some place) None l in
    let zero : counts (get_or tops b None) ≡ 0 = ap counts none in
    omega (arith, counted, zero)

pub none-read : (tops : List (Option ℕ)) (b : ℕ) (x : Option ℕ) (r : Bool) → b < length tops → x ≡ get_or tops b x → is_some x ≡ not r → r ≡ true
    → get_or tops b None ≡ None
none-read tops b None r l e some none = sym (get_or_read tops b None l e None)
none-read tops b (Some y) r l e some none = absurd (both_ways (not r) (ap not none) (sym some))

pub given-top : (g : Graph) (order : List ℕ) (place n : ℕ) (given : List ℕ) (tops : List (Option ℕ)) (b : ℕ)
    → IsTopping g order place n given tops → b < length g.blocks → place < length order → Reaches g b (get_or order place 0)
    → get_or tops b None ≡ None → IsTopping g order place n (given ++ b ∷ []) (set tops b (Some place))
given-top g order place n given tops b k lb lp way none =
    let l : b < length tops = omega (arith, lb, k.number) in
    let zero : top tops b ≡ 0 = ap height none in
    let more = length_push given b in
    let still : (i : ℕ) → i < length given → top (set tops b (Some place)) (get_or given i 0) ≡ top tops (get_or given i 0) =
    λ i li. top-still tops b (get_or given i 0) place zero (k.blocks i li).1 in
    let front : (i : ℕ) → i < length given → get_or (given ++ b ∷ []) i 0 ≡ get_or given i 0 = λ i li. get_or_append_left given (b ∷ []) 0 i li in
    record {
      number = length-set tops b (Some place) ∙ k.number;
      counted = let one = given-set tops b place l none in omega (arith, more, one, k.counted);
      within = omega (arith, more, k.within);
      blocks = λ i li.
          elim (cases_lt i (length given)) [
            | inl less ↦ subst (λ (a : ℕ). (a < length g.blocks) × (0 < top (set tops b (Some place)) a)) (sym (front i less))
                ((k.blocks i less).0, subst (λ (h : ℕ). 0 < h) (sym (still i less)) (k.blocks i less).1)
            | inr end ↦ subst (λ (a : ℕ). (a < length g.blocks) × (0 < top (set tops b (Some place)) a))
                (sym (get_or_push given b 0 i (omega (arith, li, more, end))))
                (lb, subst (λ (h : ℕ). 0 < h) (sym (top-here tops b place l)) (omega arith))
          ];
      whole = λ a some.
          elim (top-before tops b a place l zero some) [
            | inl here ↦ subst (λ (x : ℕ). Among (given ++ b ∷ []) (length (given ++ b ∷ [])) x) (sym here.0) (among-last given b)
            | inr before ↦ among-whole given b a (k.whole a before.0)
          ];
      bounds = λ a some.
          elim (top-before tops b a place l zero some) [
            | inl here ↦ (omega (arith, here.1), omega (arith, here.1, lp))
            | inr before ↦ let was = k.bounds a before.0 in (omega (arith, before.1, was.0), omega (arith, before.1, was.1))
          ];
      reaches = λ a some.
          elim (top-before tops b a place l zero some) [
            | inl here ↦ let at : place ≡ top (set tops b (Some place)) a - 1 = omega (arith, here.1) in
                subst (λ (x : ℕ). Reaches g x (get_or order (top (set tops b (Some place)) a - 1) 0)) (sym here.0)
                (subst (λ (h : ℕ). Reaches g b (get_or order h 0)) at way)
            | inr before ↦ subst (λ (h : ℕ). Reaches g a (get_or order (h - 1) 0)) (sym before.1) (k.reaches a before.0)
          ];
      passed = λ i p li.
          let less : i < length given = omega (arith, li, k.within) in
          rw (front i less, still i less) (λ lp'.
          let was = k.passed i p li lp' in
          let some = (k.blocks i less).1 in
          let same = top-still tops b (sender g (get_or given i 0) p) place zero (omega (arith, was, some)) in
          omega (arith, was, same));
      pending = λ i from li.
          elim (cases_lt i (length given)) [
            | inl less ↦ rw (front i less) (still i less ∙ k.pending i from less)
            | inr end ↦ rw (get_or_push given b 0 i (omega (arith, li, more, end))) (top-here tops b place l)
          ];
    }

pub stay-given : (given : List ℕ) (tops : List (Option ℕ)) (b place : ℕ) → get_or tops b None ≡ None
    → TopsStay given tops (given ++ b ∷ []) (set tops b (Some place))
stay-given given tops b place none = record {
  longer = let more = length_push given b in omega (arith, more);
  front = λ i l. get_or_append_left given (b ∷ []) 0 i l;
  stay = λ a some. top-still tops b a place (ap height none) some;
}

pub stay-same : (given : List ℕ) (tops : List (Option ℕ)) → TopsStay given tops given tops
stay-same given tops = record { longer = omega arith; front = λ i l. refl; stay = λ b l. refl }

pub stay-on : (g1 : List ℕ) (t1 : List (Option ℕ)) (g2 : List ℕ) (t2 : List (Option ℕ)) (g3 : List ℕ) (t3 : List (Option ℕ))
    → TopsStay g1 t1 g2 t2 → TopsStay g2 t2 g3 t3 → TopsStay g1 t1 g3 t3
stay-on g1 t1 g2 t2 g3 t3 x y = record {
  longer = omega (arith, x.longer, y.longer);
  front = λ i l. y.front i (omega (arith, l, x.longer)) ∙ x.front i l;
  stay = λ b some. let e = x.stay b some in y.stay b (omega (arith, e, some)) ∙ e;
}

pub stay-some : (g1 : List ℕ) (t1 : List (Option ℕ)) (g2 : List ℕ) (t2 : List (Option ℕ)) (b : ℕ) → TopsStay g1 t1 g2 t2
    → 0 < top t1 b → 0 < top t2 b
stay-some g1 t1 g2 t2 b x some = let e = x.stay b some in omega (arith, e, some)

-- ---- the senders of a block have tops

pub passed-more : (g : Graph) (order : List ℕ) (place n : ℕ) (given : List ℕ) (tops : List (Option ℕ)) (b : ℕ)
    → IsTopping g order place n given tops → n < length given → get_or given n 0 ≡ b
    → ((p : ℕ) → p < length (block g b).ins → 0 < top tops (sender g b p))
    → IsTopping g order place (suc n) given tops
passed-more g order place n given tops b k less e all = record {
  number = k.number;
  counted = k.counted;
  within = omega (arith, less);
  blocks = k.blocks;
  whole = k.whole;
  bounds = k.bounds;
  reaches = k.reaches;
  passed = λ i p li lp.
      elim (cases_lt i n) [
        | inl before ↦ k.passed i p before lp
        | inr end ↦ let at : n ≡ i = omega (arith, li, end) in
            let here : get_or given i 0 ≡ b = subst (λ (x : ℕ). get_or given x 0 ≡ b) at e in
            let low : top tops (get_or given i 0) ≡ suc place = k.pending i (omega (arith, at)) (omega (arith, at, less)) in
            let some : 0 < top tops (sender g (get_or given i 0) p) =
            subst (λ (x : ℕ). 0 < top tops (sender g x p)) (sym here) (all p (subst (λ (x : ℕ). p < length (block g x).ins) here lp)) in
            let high = (k.bounds (sender g (get_or given i 0) p) some).0 in
            omega (arith, low, high)
      ];
  pending = λ i from li. k.pending i (omega (arith, from)) li;
}

-- a block that is given and not passed leads to the place, and so do its senders
pub sender-reaches : (g : Graph) (order : List ℕ) (place n : ℕ) (given : List ℕ) (tops : List (Option ℕ)) (b p : ℕ) → IsJoined g
    → IsTopping g order place n given tops → n < length given → get_or given n 0 ≡ b → p < length (block g b).ins
    → Reaches g (sender g b p) (get_or order place 0)
sender-reaches g order place n given tops b p joined k less e lp =
    let low : top tops b ≡ suc place = subst (λ (x : ℕ). top tops x ≡ suc place) e (k.pending n (omega arith) less) in
    let lb : b < length g.blocks = subst (λ (x : ℕ). x < length g.blocks) e (k.blocks n less).0 in
    let at : top tops b - 1 ≡ place = omega (arith, low) in
    let here : Reaches g b (get_or order place 0) = subst (λ (h : ℕ). Reaches g b (get_or order h 0)) at (k.reaches b (omega (arith, low))) in
    let named = (joined.blocks b lb).in_named p lp in
    reaches-by g (into g b p) (get_or order place 0) named.0 (subst (λ (x : ℕ). Reaches g x (get_or order place 0)) (sym named.1) here)

pub few-given : (g : Graph) (order : List ℕ) (place n : ℕ) (given : List ℕ) (tops : List (Option ℕ)) → IsTopping g order place n given tops
    → length given ≤ length g.blocks
few-given g order place n given tops k = let most = count_by-le-length is_given tops in omega (arith, most, k.counted, k.number)

-- ---- one place after another

abbrev no_tops : ℕ → List (Option ℕ)
no_tops n = replicate n None

none-at : (n b : ℕ) → top (no_tops n) b ≡ 0
none-at n b =
    elim (cases_lt b n) [
      | inl less ↦ ap height (get_or-replicate n b None None less)
      | inr past ↦ let long : length (no_tops n) ≡ n = length-replicate {A = Option ℕ} n None in
          ap height (get_or_past (no_tops n) b None (omega (arith, long, past)))
    ]

none-counted : (n : ℕ) → count_by is_given (no_tops n) ≡ 0
none-counted n = let all : count_by is_given (no_tops n) ≡ n * 0 = sum_by-replicate counts n None in omega (arith, all)

pub none-given : (g : Graph) (order given : List ℕ) (tops : List (Option ℕ)) (n : ℕ) → given ≡ [] → tops ≡ no_tops n → n ≡ length g.blocks
    → IsTopping g order (length order) (length given) given tops
none-given g order given tops n e f number =
    let none : (b : ℕ) → top tops b ≡ 0 = subst (λ (xs : List (Option ℕ)). (b : ℕ) → top xs b ≡ 0) (sym f) (none-at n) in
    let counted : count_by is_given tops ≡ 0 = subst (λ (xs : List (Option ℕ)). count_by is_given xs ≡ 0) (sym f) (none-counted n) in
    let long : length tops ≡ n = ap length f ∙ length-replicate {A = Option ℕ} n None in
    let empty : length given ≡ 0 = ap length e in
    record {
      number = long ∙ number;
      counted = empty ∙ sym counted;
      within = omega arith;
      blocks = λ i l. absurd (omega (arith, l, empty));
      whole = λ b some. absurd (let zero = none b in omega (arith, zero, some));
      bounds = λ b some. absurd (let zero = none b in omega (arith, zero, some));
      reaches = λ b some. absurd (let zero = none b in omega (arith, zero, some));
      passed = λ i p l. absurd (omega (arith, l, empty));
      pending = λ i from l. absurd (omega (arith, l, empty));
    }

pub next-place : (g : Graph) (order : List ℕ) (place next : ℕ) (given : List ℕ) (tops : List (Option ℕ))
    → IsTopping g order place (length given) given tops → next ≤ place → IsTopping g order next (length given) given tops
next-place g order place next given tops k le = record {
  number = k.number;
  counted = k.counted;
  within = k.within;
  blocks = k.blocks;
  whole = k.whole;
  bounds = λ b some. let was = k.bounds b some in (omega (arith, was.0, le), was.1);
  reaches = k.reaches;
  passed = k.passed;
  pending = λ i from l. absurd (omega (arith, from, l));
}

-- the block at each place from one on has a top above it
abbrev pub TopsAbove : List ℕ → ℕ → List (Option ℕ) → Type 0
TopsAbove order place tops = (q : ℕ) → place ≤ q → q < length order → q < top tops (get_or order q 0)

pub above-more : (g : Graph) (order : List ℕ) (place next : ℕ) (g1 : List ℕ) (t1 : List (Option ℕ)) (g2 : List ℕ) (t2 : List (Option ℕ)) (n : ℕ)
    → suc next ≡ place → TopsAbove order place t1 → TopsStay g1 t1 g2 t2 → IsTopping g order next n g2 t2
    → 0 < top t2 (get_or order next 0) → TopsAbove order next t2
above-more g order place next g1 t1 g2 t2 n e above x k here q from lq =
    elim (cases_eq q next) [
      | inl same ↦ subst (λ (m : ℕ). m < top t2 (get_or order m 0)) (sym same) (k.bounds (get_or order next 0) here).0
      | inr other ↦ let was = above q (omega (arith, from, other, e)) lq in
          let still = x.stay (get_or order q 0) (omega (arith, was)) in
          omega (arith, was, still)
    ]

pub all-tops : (g : Graph) (order : List ℕ) (given : List ℕ) (tops : List (Option ℕ)) → IsJoined g → IsClosing g order
    → IsTopping g order 0 (length given) given tops → TopsAbove order 0 tops → IsTops g order tops
all-tops g order given tops joined o k above =
    let some : (b : ℕ) → b < length g.blocks → 0 < top tops b = λ b l.
    let there = o.whole b l in
    let high = above there.0 (omega arith) there.1 in
    subst (λ (x : ℕ). 0 < top tops x) there.2 (omega (arith, high)) in
    record {
      number = k.number;
      given = λ b l. (some b l, (k.bounds b (some b l)).1);
      reaches = λ b l. k.reaches b (some b l);
      above = λ q l. above q (omega arith) l;
      falls = λ c l.
          let received = (joined.channels c l).received in
          let b : ℕ = (channel g c).to_block in
          let there = k.whole b (some b received.0) in
          let was : (p : ℕ) → p < length (block g b).ins → top tops b ≤ top tops (sender g b p) =
          subst (λ (x : ℕ). (p : ℕ) → p < length (block g x).ins → top tops x ≤ top tops (sender g x p)) there.2 (λ p lp. k.passed there.0 p there.1 lp) in
          subst (λ (d : ℕ). top tops b ≤ top tops (channel g d).from_block) received.2 (was (channel g c).to_port received.1);
    }
