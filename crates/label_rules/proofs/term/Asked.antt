-- The accesses that have a loop, and those that lack it.
use Rattle.std.specs.Prelude.{◌≡◌, ◌<◌, ◌≤◌, ℕ, suc, Bool, true, false, not, List, [], ◌∷◌, length, get_or, refl}
use Rattle.std.proofs.Common.{arith, sym, ◌∙◌, ap, subst}
use Rattle.sam_model.specs.Children.{Ranked}
use Rattle.sam_model.specs.Lists.{is_in}
use Rattle.stream_tokens.specs.Shapes.{Each}
use Rattle.stream_model.specs.Terms.{TermData, access_at}
use Rattle.stream_model.specs.Labels.{bits}
use Rattle.stream_model.specs.Masks.{final}
use Rattle.sam_model.proofs.Lists.{filter-range}
use Rattle.sam_model.proofs.Orders.{is_in-tested}
use Rattle.stream_model.proofs.Numbers.{AllBelow}
use Rattle.stream_model.proofs.Depths.{filter-short}
use Rattle.label_rules.specs.declared.plans.Plan.{Plan}
use Rattle.label_rules.specs.Masks.{factors_mask}
use Rattle.label_rules.specs.Plans.{has_loop, asked, spared}
use Rattle.label_rules.proofs.term.Matching.{Matches}
use Rattle.label_rules.proofs.term.MaskNumbers.{mask-final}

module _ (storages : List Ranked) (t : TermData) (plan : Plan) (m : Matches storages t plan) where
  -- these accesses have the loop after d others, or lack it
  abbrev pub Haves : Bool → ℕ → List ℕ → Type 0
  Haves b d [] = Unit {0}
  Haves b d (f ∷ fs) = (f < length t.accesses) × (get_or (access_at t.accesses f).has d false ≡ b) × Haves b d fs

  has_is : (d f : ℕ) → has_loop plan d f ≡ get_or (access_at t.accesses f).has d false
  has_is d f = ap (λ (h : List Bool). get_or h d false) (m.has f)

  haves_of : (b : Bool) (d : ℕ) (test : ℕ → Bool) → ((f : ℕ) → test f ≡ true → get_or (access_at t.accesses f).has d false ≡ b)
      → (fs : List ℕ) → Each (λ c. (test c ≡ true) × (c < length plan.accesses)) fs → Haves b d fs
  haves_of b d test h [] e = tt
  haves_of b d test h (f ∷ fs) e =
      (subst (λ (n : ℕ). f < n) m.number e.0.1, h f e.0.0, haves_of b d test h fs e.1)

  -- the factors that a level asks have its loop
  pub asked-has : (d : ℕ) → Haves true d (asked plan d)
  asked-has d =
      haves_of true d (has_loop plan d) (λ f e. sym (has_is d f) ∙ e) (asked plan d)
      (filter-range (has_loop plan d) 0 (length plan.accesses) (length plan.accesses) (omega arith))

  negated : (b : Bool) → not b ≡ true → b ≡ false
  negated true e = sym e
  negated false e = refl

  -- those that it spares lack it
  pub spared-lacks : (d : ℕ) → Haves false d (spared plan d)
  spared-lacks d =
      haves_of false d (λ f. not (has_loop plan d f)) (λ f e. sym (has_is d f) ∙ negated (has_loop plan d f) e) (spared plan d)
      (filter-range (λ f. not (has_loop plan d f)) 0 (length plan.accesses) (length plan.accesses) (omega arith))

  -- such factors are numbers of accesses
  pub haves-below : (b : Bool) (d : ℕ) (fs : List ℕ) → Haves b d fs → AllBelow (length t.accesses) fs
  haves-below b d [] h = tt
  haves-below b d (f ∷ fs) h = (h.0, haves-below b d fs h.2)

  -- a factor is asked where it has the loop
  pub asked-in : (d g : ℕ) → g < length t.accesses → is_in g (asked plan d) ≡ get_or (access_at t.accesses g).has d false
  asked-in d g l = is_in-tested (has_loop plan d) (length plan.accesses) g (subst (λ (n : ℕ). g < n) (sym m.number) l) ∙ has_is d g

  -- and is spared where it lacks it
  pub spared-in : (d g : ℕ) → g < length t.accesses → is_in g (spared plan d) ≡ not (get_or (access_at t.accesses g).has d false)
  spared-in d g l =
      is_in-tested (λ f. not (has_loop plan d f)) (length plan.accesses) g (subst (λ (n : ℕ). g < n) (sym m.number) l)
      ∙ ap not (has_is d g)

  -- at most eight are asked
  pub asked-few : (d : ℕ) → length (asked plan d) ≤ 8
  asked-few d = let a = filter-short (has_loop plan d) 0 (length plan.accesses) in omega (arith, a, m.number, m.few_accesses)

  -- each loop has an access
  pub asked-some : (d : ℕ) → d < length t.loops → 0 < length (asked plan d)
  asked-some d deep = let u = m.used d deep in some (asked plan d) u.0 (asked-in d u.0 u.1 ∙ u.2)
    where
      some : (fs : List ℕ) (g : ℕ) → is_in g fs ≡ true → 0 < length fs
      some [] g e = absurd (cc)
      some (f ∷ fs) g e = omega arith

  -- their mask is the final one of the level
  pub asked-mask : (d : ℕ) → bits (length t.accesses) (factors_mask (asked plan d)) ≡ final t (suc d)
  asked-mask d = mask-final t d (asked plan d) (haves-below true d (asked plan d) (asked-has d)) (asked-in d)
