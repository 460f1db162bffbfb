-- The rank of a stored prefix is its place among the stored prefixes of its length.
use Rattle.std.specs.Prelude.{◌≡◌, ◌<◌, ℕ, suc, ◌+◌, Bool, true, false, cond, ◌&&◌, ◌||◌, List, [], ◌∷◌, length, take, get_or, ltb, refl}
use Rattle.std.specs.List.{filter, list_any}
use mathlib.Core.List.{map}
use Rattle.std.proofs.Common.{arith, sym, ◌∙◌, ap, subst}
use Rattle.std.proofs.lemmas.Bool.{and_parts, ltb-true}
use Rattle.std.proofs.lemmas.List.{get_or-map}
use Rattle.std.proofs.lemmas.List.Folds.{list_any_at}
use Rattle.std.proofs.lemmas.List.FromFn.{length-range_with_len, get_or-range_with_len}
use Rattle.std.proofs.lemmas.Map.Views.{any-filter_same}
use Rattle.sam_model.specs.Lists.{below, tuples, same_list, smaller, within}
use Rattle.sam_model.specs.Tensors.{Stored, is_stored, stored_prefixes, rank_of}
use Rattle.sam_base.specs.Each.{Each}
use Rattle.sam_model.proofs.Orders.{same_list-true}
use Rattle.levels.proofs.Orders.{eqb-same}
use Rattle.levels.proofs.Ascending.{Ascending, prefixes-ascend, rank_in, rank-at}
use Rattle.sam_model.proofs.Lists.{list_any-ext, list_any-map, list_any-flat_map}

-- whether q is one of them
abbrev listed : List ℕ → List (List ℕ) → Bool
listed q ps = list_any (same_list q) ps

-- ---- a stored prefix is among those of its length

tuple_listed : (sizes q : List ℕ) → within sizes q ≡ true → listed q (tuples (take (length q) sizes)) ≡ true
tuple_listed sizes [] h = refl
tuple_listed [] (c ∷ q) h = absurd (cc)
tuple_listed (s ∷ sizes) (c ∷ q) h =
    list_any-flat_map (same_list (c ∷ q)) (λ d. map (λ u. d ∷ u) rest) (below s)
    ∙ list_any_at begins (below s) c 0 (omega (arith, inside, length-range_with_len 0 s))
    (ap begins (get_or-range_with_len 0 s c 0 inside ∙ start c)
    ∙ here (tuple_listed sizes q (and_parts (ltb c s) (within sizes q) h).1))
  where
    rest : List (List ℕ)
    rest = tuples (take (length q) sizes)

    begins : ℕ → Bool
    begins d = listed (c ∷ q) (map (λ u. d ∷ u) rest)

    inside : c < s
    inside = ltb-true c s (and_parts (ltb c s) (within sizes q) h).0

    start : (c : ℕ) → 0 + c ≡ c
    start c = omega arith

    here : listed q rest ≡ true → begins c ≡ true
    here r =
        list_any-map (same_list (c ∷ q)) (λ u. c ∷ u) rest
        ∙ list_any-ext (λ u. same_list (c ∷ q) (c ∷ u)) (same_list q) (λ u. ap (λ b. b && same_list q u) (eqb-same c)) rest
        ∙ r

prefix_listed : (a : Stored) (q : List ℕ) → within a.sizes q ≡ true → is_stored a q ≡ true
    → listed q (stored_prefixes a (length q)) ≡ true
prefix_listed a q w h =
    any-filter_same (same_list q) (is_stored a) true (λ p e. ap (is_stored a) (sym (same_list-true q p e)) ∙ h)
    (tuples (take (length q) a.sizes))
    ∙ tuple_listed a.sizes q w

-- ---- its rank is its place

what_is_listed : (Q : List ℕ → Type 0) (q : List ℕ) (ps : List (List ℕ)) → Each Q ps → listed q ps ≡ true → Q q
what_is_listed Q q [] e h = absurd (cc)
what_is_listed Q q (p ∷ ps) e h = by_case (same_list q p) refl h (what_is_listed Q q ps e.1)
  where
    by_case : (b : Bool) → same_list q p ≡ b → (b || listed q ps) ≡ true → (listed q ps ≡ true → Q q) → Q q
    by_case true s h r = subst Q (sym (same_list-true q p s)) e.0
    by_case false s h r = r h

placed : (ps : List (List ℕ)) → Ascending ps → (q : List ℕ) → listed q ps ≡ true
    → (rank_in ps q < length ps) × (get_or ps (rank_in ps q) [] ≡ q)
placed [] up q h = absurd (cc)
placed (p ∷ ps) up q h = by_case (same_list q p) refl h (placed ps up.1 q)
  where
    by_case : (b : Bool) → same_list q p ≡ b → (b || listed q ps) ≡ true
        → (listed q ps ≡ true → (rank_in ps q < length ps) × (get_or ps (rank_in ps q) [] ≡ q))
        → (rank_in (p ∷ ps) q < length (p ∷ ps)) × (get_or (p ∷ ps) (rank_in (p ∷ ps) q) [] ≡ q)
    by_case true s h r =
        let same : q ≡ p = same_list-true q p s in
        let first : rank_in (p ∷ ps) q ≡ 0 = ap (rank_in (p ∷ ps)) same ∙ rank-at [] p ps up in
        (omega (arith, first), ap (λ (n : ℕ). get_or (p ∷ ps) n []) first ∙ sym same)
    by_case false s h r =
        let before : smaller p q ≡ true = what_is_listed (λ q. smaller p q ≡ true) q ps up.0 h in
        let later : rank_in (p ∷ ps) q ≡ suc (rank_in ps q) =
        ap (λ b. length (cond b (p ∷ filter (λ u. smaller u q) ps) (filter (λ u. smaller u q) ps))) before in
        (omega (arith, later, (r h).0), ap (λ (n : ℕ). get_or (p ∷ ps) n []) later ∙ (r h).1)

-- the rank of a stored prefix is below the number of stored prefixes of its length
pub rank-below : (a : Stored) (q : List ℕ) → within a.sizes q ≡ true → is_stored a q ≡ true
    → rank_of a q < length (stored_prefixes a (length q))
rank-below a q w h = (placed (stored_prefixes a (length q)) (prefixes-ascend a (length q)) q (prefix_listed a q w h)).0

-- what a list tells of each stored prefix, in their order, it tells of q at the rank of q
pub at-rank : {B : Type 0} (f : List ℕ → B) (d : B) (a : Stored) (q : List ℕ) → within a.sizes q ≡ true → is_stored a q ≡ true
    → get_or (map f (stored_prefixes a (length q))) (rank_of a q) d ≡ f q
at-rank f d a q w h =
    get_or-map f (stored_prefixes a (length q)) (rank_of a q) [] d (rank-below a q w h)
    ∙ ap f (placed (stored_prefixes a (length q)) (prefixes-ascend a (length q)) q (prefix_listed a q w h)).1
