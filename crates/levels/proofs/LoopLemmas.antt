-- The levels so far, one level after another.
use Rattle.std.proofs.Common.{◌≡◌, ℕ, zero, suc, ◌+◌, ◌^◌, ◌<◌, ◌≤◌, List, [], ◌∷◌, ◌++◌, length, ap, sym, ◌∙◌, subst, arith, inl, inr, ◌⊎◌, zero-add}
use mathlib.Core.List.{map}
use Rattle.std.proofs.lemmas.List.{map_push}
use Rattle.std.proofs.lemmas.List.FromFn.{map-range_with_len_more}
use Rattle.sam_model.specs.Lists.{below}
use Rattle.sam_model.specs.Tensors.{Stored, stored_prefixes}
use Rattle.sam_model.specs.Children.{children_of}
use Rattle.levels.specs.declared.level.Level.{Level}
use Rattle.sam_base.specs.Each.{Each}
use Rattle.levels.specs.Placed.{Placed}
use Rattle.levels.specs.Shown.{level_count, level_children}
use Rattle.levels.proofs.Levels.{root-placed}

-- what the first n levels hold, and where the entries stand after them
pub record Made (a : Stored) (n : ℕ) (levels : List Level) (count : ℕ) (ranks : List ℕ) : Type 0 where
  pub children : map level_children levels ≡ map (λ k. children_of a (suc k)) (below n)
  pub counts : map level_count levels ≡ map (λ k. length (stored_prefixes a (suc k))) (below n)
  pub placed : Placed a n count ranks
  pub few : (k : ℕ) → k ≤ n → length (stored_prefixes a k) ≤ 2 ^ 24

pub made-none : (a : Stored) (levels : List Level) (count : ℕ) (ranks : List ℕ) → levels ≡ [] → count ≡ 1 → Each (λ r. r < 1) ranks → length ranks ≡ length a.entries → Made a 0 levels count ranks
made-none a levels count ranks none one all same = record {
  children = ap (map level_children) none;
  counts = ap (map level_count) none;
  placed = subst (λ (n : ℕ). Placed a 0 n ranks) (sym one) (root-placed a ranks all same);
  few = λ k h. least k h;
}
  where
    least : (k : ℕ) → k ≤ 0 → length (stored_prefixes a k) ≤ 2 ^ 24
    least zero h = omega arith
    least (suc k) h = absurd (omega arith)

at-most : (k n : ℕ) → k ≤ n + 1 → (k ≤ n) ⊎ (k ≡ suc n)
at-most zero n h = inl (omega arith)
at-most (suc k) zero h = inr (omega arith)
at-most (suc k) (suc n) h = elim (at-most k n (omega arith)) [ inl l ↦ inl (omega arith) | inr e ↦ inr (ap suc e) ]

pub made-more : (a : Stored) (n : ℕ) (levels levels' : List Level) (level : Level) (count count' : ℕ) (ranks ranks' : List ℕ)
    → map level_children levels ≡ map (λ k. children_of a (suc k)) (below n) → map level_count levels ≡ map (λ k. length (stored_prefixes a (suc k))) (below n)
    → ((k : ℕ) → k ≤ n → length (stored_prefixes a k) ≤ 2 ^ 24) → levels' ≡ levels ++ level ∷ []
    → level_children level ≡ children_of a (suc n) → level_count level ≡ length (stored_prefixes a (suc n)) → Placed a (suc n) count' ranks' → count' ≤ 2 ^ 24 → Made a (n + 1) levels' count' ranks'
made-more a n levels levels' level count count' ranks ranks' children counts few pushed here many placed small = record {
  children = ap (map level_children) pushed ∙ map_push level_children levels level ∙ join-lists children here ∙ sym (map-range_with_len_more (λ k. children_of a (suc k)) 0 n n (zero-add n));
  counts = ap (map level_count) pushed ∙ map_push level_count levels level ∙ join-numbers counts many ∙ sym (map-range_with_len_more (λ k. length (stored_prefixes a (suc k))) 0 n n (zero-add n));
  placed = (let e : suc n ≡ n + 1 = omega arith in subst (λ (m : ℕ). Placed a m count' ranks') e placed);
  few = λ k h. elim (at-most k n h) [ inl l ↦ few k l | inr e ↦ last k e ];
}
  where
    join-lists : {us vs : List (List (List (ℕ × ℕ)))} {x y : List (List (ℕ × ℕ))} → us ≡ vs → x ≡ y → us ++ x ∷ [] ≡ vs ++ y ∷ []
    join-lists e f = cc

    join-numbers : {us vs : List ℕ} {x y : ℕ} → us ≡ vs → x ≡ y → us ++ x ∷ [] ≡ vs ++ y ∷ []
    join-numbers e f = cc

    last : (k : ℕ) → k ≡ suc n → length (stored_prefixes a k) ≤ 2 ^ 24
    last k e = subst (λ (m : ℕ). length (stored_prefixes a m) ≤ 2 ^ 24) (sym e) (let c = placed.counted in omega arith)
