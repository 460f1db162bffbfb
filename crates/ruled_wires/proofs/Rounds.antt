-- Ends, one after another, go onwards.
use Rattle.std.proofs.Common.{◌≡◌, ◌≢◌, ℕ, ◌+◌, ◌<◌, ◌≤◌, List, length, get_or, set, refl, sym, ap, ◌∙◌, subst, arith, ⊎_elim, get_or-set_same, get_or-set_other}
use Rattle.std.proofs.lemmas.List.{length-set, get_or_default}
use Rattle.std.proofs.lemmas.Bool.{cases_lt}
use Rattle.std.specs.List.{All}
use Rattle.ruled_wires.specs.Ends.{End, Onwards, AllOnwards, AllFlushed, IsEmptied}

-- those before this place went onwards, and those from it on are as they were
pub record RoundTo (i : ℕ) (olds news : List End) : Type 0 where
  pub number : length news ≡ length olds
  pub onwards : (k : ℕ) (d : End) → k < i → Onwards (get_or olds k d) (get_or news k d)
  pub same : (k : ℕ) (d : End) → i ≤ k → get_or news k d ≡ get_or olds k d

pub onwards-none : (e : End) → Onwards e e
onwards-none e = record { same = refl; fewer = omega arith; more = omega arith; each = omega arith; steps = λ less. omega arith }

pub onwards-then : (e f g : End) → Onwards e f → Onwards f g → Onwards e g
onwards-then e f g a b = record {
  same = b.same ∙ ap (λ (x : End). record x { kept = g.kept; messages = g.messages }) a.same;
  fewer = let x = a.fewer in let y = b.fewer in omega arith;
  more = let x = a.more in let y = b.more in omega arith;
  each = let x = a.each in let y = b.each in omega arith;
  steps = λ less. ⊎_elim (λ (first : f.kept < e.kept). let x = a.steps first in let w = b.more in omega arith)
      (λ (later : e.kept ≤ f.kept). let drops : g.kept < f.kept = omega arith in let y = b.steps drops in let z = a.more in omega arith)
      (cases_lt f.kept e.kept);
}

pub round-more : (i : ℕ) (olds news : List End) (y e : End) → i < length news → get_or news i y ≡ y → RoundTo i olds news → Onwards y e
    → RoundTo (i + 1) olds (set news i e)
round-more i olds news y e within there h step = record {
  number = length-set news i e ∙ h.number;
  onwards = λ k d less. ⊎_elim
      (λ (before : k < i). let ne : k ≢ i = omega arith in subst (λ (x : End). Onwards (get_or olds k d) x) (sym (get_or-set_other news i k e d ne)) (h.onwards k d before))
      (λ (here : i ≤ k). let at : k ≡ i = omega arith in
      let was : get_or olds k d ≡ y = sym (h.same k d here) ∙ ap (λ j. get_or news j d) at ∙ get_or_default news i d y within ∙ there in
      let now : get_or (set news i e) k d ≡ e = ap (λ j. get_or (set news i e) j d) at ∙ get_or-set_same news i e d within in
      subst (λ (x : End × End). Onwards x.0 x.1) (λ j. (sym was j, sym now j)) step) (cases_lt k i);
  same = λ k d after. let ne : k ≢ i = omega arith in get_or-set_other news i k e d ne ∙ h.same k d (omega arith);
}

pub all-none : (es : List End) → AllOnwards es es
all-none es = (refl, λ k d less. onwards-none (get_or es k d))

pub all-then : (es fs gs : List End) → AllOnwards es fs → AllOnwards fs gs → AllOnwards es gs
all-then es fs gs a b = (
  b.0 ∙ a.0,
  λ k d less. onwards-then (get_or es k d) (get_or fs k d) (get_or gs k d) (a.1 k d less) (b.1 k d (let l = a.0 in omega arith)),
)

pub all-flushed : (es fs : List End) → AllOnwards es fs → All IsEmptied fs → AllFlushed es fs
all-flushed es fs a empty = (
  a.0,
  λ k d less. record { onwards = a.1 k d less; empty = empty k d (let l = a.0 in omega arith) },
)
