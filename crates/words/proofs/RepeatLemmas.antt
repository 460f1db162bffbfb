-- Channels that were seen before, pair by pair.
use Rattle.std.proofs.Common.{◌≡◌, ◌∙◌, ◌<◌, ◌||◌, ◌==◌, ◌+◌, ℕ, ap, ap₂, sym, refl, List, [], ◌∷◌, length, drop, get_or, true, false, Bool, cond, not, arith, add-one, drop-cons, suc}
use Rattle.std.specs.BTreeMap.{is_at}
use Rattle.std.specs.BTreeSet.{BTreeSet, contains, Updates, IsEmpty}
use Rattle.std.specs.Cmp.{unsigned_tied}
use Rattle.std.specs.List.{list_any}
use Rattle.std.specs.Ordering.{nat_cmp}
use Rattle.words.specs.Asked.{has_repeats}

-- a channel of the rest was seen, or stands twice in it
abbrev pub repeats_past : BTreeSet ℕ → List (ℕ × ℕ) → Bool
repeats_past seen rest = list_any (λ pair. contains nat_cmp seen pair.0) rest || has_repeats rest

-- at first none was seen
none_seen : (seen : BTreeSet ℕ) (pairs : List (ℕ × ℕ)) → IsEmpty seen → list_any (λ pair. contains nat_cmp seen pair.0) pairs ≡ false
none_seen seen [] empty = refl
none_seen seen (p ∷ ps) empty = ap₂ (λ a b. a || b) (ap (λ (ks : List ℕ). list_any (is_at (nat_cmp p.0)) ks) empty) (none_seen seen ps empty)

pub past_none : (seen : BTreeSet ℕ) (pairs : List (ℕ × ℕ)) → IsEmpty seen → repeats_past seen pairs ≡ has_repeats pairs
past_none seen pairs empty = ap (λ (b : Bool). b || has_repeats pairs) (none_seen seen pairs empty)

regrouped : (a b c : Bool) → ((b || a) || c) ≡ (a || (b || c))
regrouped true true c = refl
regrouped true false c = refl
regrouped false true c = refl
regrouped false false c = refl

one_more : (a b : Bool) → cond b true a ≡ (b || a)
one_more a true = refl
one_more a false = refl

four : (a b c d : Bool) → ((a || b) || (c || d)) ≡ ((a || c) || (b || d))
four true b c d = refl
four false true true d = refl
four false true false d = refl
four false false c d = refl

any_or : {A : Type 0} (f g h : A → Bool) → ((x : A) → h x ≡ (g x || f x)) → (xs : List A) → list_any h xs ≡ (list_any g xs || list_any f xs)
any_or f g h is [] = refl
any_or f g h is (x ∷ xs) = ap₂ (λ a b. a || b) (is x) (any_or f g h is xs) ∙ four (g x) (f x) (list_any g xs) (list_any f xs)

-- a channel that wasn't seen is seen from then on
pub past_next : (seen next : BTreeSet ℕ) (p : ℕ × ℕ) (ps : List (ℕ × ℕ)) → Updates nat_cmp seen next p.0 true → contains nat_cmp seen p.0 ≡ false
    → repeats_past next ps ≡ repeats_past seen (p ∷ ps)
past_next seen next p ps updates new =
    let seen_next = λ (q : ℕ × ℕ). updates.0 q.0 ∙ one_more (contains nat_cmp seen q.0) _ ∙ ap (λ (b : Bool). b || contains nat_cmp seen q.0) (unsigned_tied p.0 q.0) in
    ap (λ (b : Bool). b || has_repeats ps) (any_or (λ (q : ℕ × ℕ). contains nat_cmp seen q.0) (λ (q : ℕ × ℕ). p.0 == q.0) (λ (q : ℕ × ℕ). contains nat_cmp next q.0) seen_next ps)
    ∙ regrouped (list_any (λ (q : ℕ × ℕ). contains nat_cmp seen q.0) ps) (list_any (λ (q : ℕ × ℕ). p.0 == q.0) ps) (has_repeats ps)
    ∙ ap (λ (b : Bool). (b || list_any (λ (q : ℕ × ℕ). contains nat_cmp seen q.0) ps) || (list_any (λ (q : ℕ × ℕ). p.0 == q.0) ps || has_repeats ps)) (sym new)

pub past_seen : (seen : BTreeSet ℕ) (p : ℕ × ℕ) (ps : List (ℕ × ℕ)) → contains nat_cmp seen p.0 ≡ true → repeats_past seen (p ∷ ps) ≡ true
past_seen seen p ps old = ap (λ (b : Bool). (b || list_any (λ (q : ℕ × ℕ). contains nat_cmp seen q.0) ps) || has_repeats (p ∷ ps)) old

-- ---- as a loop over the pairs goes, where a set answers whether a channel is new

was_seen : (new old : Bool) → new ≡ not old → new ≡ false → old ≡ true
was_seen new old is seen = grind arith

was_new : (new old : Bool) → new ≡ not old → new ≡ true → old ≡ false
was_new new old is unseen = grind arith

module _ (pairs : List (ℕ × ℕ)) (i : ℕ) (d : ℕ × ℕ) (inside : i < length pairs) (seen : BTreeSet ℕ) (so_far : repeats_past seen (drop i pairs) ≡ has_repeats pairs)
    (new : Bool) (is : new ≡ not (contains nat_cmp seen (get_or pairs i d).0)) where
  pub found : new ≡ false → true ≡ has_repeats pairs
  found old =
      sym (past_seen seen (get_or pairs i d) (drop (suc i) pairs) (was_seen new _ is old))
      ∙ ap (repeats_past seen) (sym (drop-cons pairs i d inside))
      ∙ so_far

  pub seen_more : new ≡ true → (next : BTreeSet ℕ) → Updates nat_cmp seen next (get_or pairs i d).0 true → repeats_past next (drop (i + 1) pairs) ≡ has_repeats pairs
  seen_more unseen next updates =
      ap (λ (k : ℕ). repeats_past next (drop k pairs)) (add-one i)
      ∙ past_next seen next (get_or pairs i d) (drop (suc i) pairs) updates (was_new new _ is unseen)
      ∙ ap (repeats_past seen) (sym (drop-cons pairs i d inside))
      ∙ so_far
