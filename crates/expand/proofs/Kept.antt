-- The terms of a statement denote what it denotes as it is written, and have in their pattern what is found of it.
use Rattle.std.specs.Prelude.{◌≡◌, ◌<◌, ℕ, zero, suc, ◌+◌, ◌-◌, ◌*◌, ◌%◌, ◌^◌, Bool, true, false, not, cond, ◌&&◌, ◌||◌, List, [], ◌∷◌, length, refl}
use Rattle.std.specs.List.{flat_map, list_all, list_any}
use mathlib.Core.List.{map}
use Rattle.std.proofs.Common.{arith, sym, ◌∙◌, ap, ap₂}
use Rattle.std.proofs.Math.Nat.{mod-mod, mod-add-mod, add-mod-mod, add-mul-mod_self_left}
use Rattle.std.proofs.lemmas.Bool.{and_parts}
use Rattle.sam_base.specs.Each.{Each}
use Rattle.sam_model.specs.declared.tensors.Entries.{Entries}
use Rattle.sam_model.specs.declared.program.Factor.{Factor}
use Rattle.sam_model.specs.declared.program.Factor.TheVariants.{Access, Literal}
use Rattle.sam_model.specs.declared.program.Term.{Term}
use Rattle.sam_model.specs.declared.program.Program.{Program}
use Rattle.sam_model.specs.Trees.{TopTree}
use Rattle.sam_model.specs.Lists.{total, items_at, is_in, coordinate}
use Rattle.sam_model.specs.Accepted.{term_has}
use Rattle.sam_model.specs.Denote.{loops_of, factor_at, stored_at, product, tuples_of, term_at, signed_terms, den, pat}
use Rattle.sam_model.specs.Expressions.{Values, number_values, presence_values, access_number, access_presence, at_left, denoted, found, expanded_tops}
use Rattle.sam_model.proofs.Lists.{Each-flat_map, Each-weaker, list_any-map}
use Rattle.sam_model.proofs.Moduli.{mul-mod-mod, negative, total-mod}
use Rattle.sam_model.proofs.Orders.{list_all-member}
use Rattle.sam_model.specs.Scopes.{used_vars, top_fits}
use Rattle.expand.specs.Meaning.{FitTogether, KeepsMeaning}
use Rattle.expand.proofs.ValueLaws.{AreLawful, turned_times}
use Rattle.expand.proofs.Counted.{Counted, factors_have, counted_top, is_odd, as_term, as-expanded_tops}
use Rattle.expand.proofs.Factors.{factors_value}
use Rattle.expand.proofs.Tuples.{gathered, gathered-same}
use Rattle.expand.proofs.Expanded.{Within, within-top}
use Rattle.expand.proofs.Scoped.{Fits, fits}
use Rattle.expand.proofs.Own.{own_value, tops-value}
use Rattle.expand.proofs.Lawful.{number-lawful, presence-lawful}
use Rattle.expand.proofs.Places.{IsPlaced, LeftFits, own-tuples}

-- ---- presence

turned_presence : (n : ℕ) (b : Bool) → turned_times presence_values n b ≡ b
turned_presence zero b = refl
turned_presence (suc n) b = turned_presence n b

gathered_any : {A : Type 0} (f : A → Bool) (xs : List A) → gathered presence_values f xs ≡ list_any f xs
gathered_any f [] = refl
gathered_any f (x ∷ xs) = ap (λ b. f x || b) (gathered_any f xs)

module _ (p : Program) (es : List Entries) where
  all_stored : (ls u : List ℕ) (fs : List Factor)
      → factors_value presence_values (access_presence p.tensors es) fs (coordinate ls u) ≡ list_all (stored_at p es ls u) fs
  all_stored ls u [] = refl
  all_stored ls u (Access n vars ∷ fs) = ap (λ b. stored_at p es ls u (Access n vars) && b) (all_stored ls u fs)
  all_stored ls u (Literal n ∷ fs) = all_stored ls u fs

  -- whether a term is stored at some tuple
  abbrev some_stored : List ℕ → Term → Bool
  some_stored x t = list_any (λ u. list_all (stored_at p es (loops_of p t) u) t.factors) (tuples_of p es t x)

  stored_term : (x : List ℕ) (c : Counted)
      → turned_times presence_values c.minuses
      (gathered presence_values (λ u. factors_value presence_values (access_presence p.tensors es) c.factors (coordinate (loops_of p (as_term c)) u))
      (tuples_of p es (as_term c) x))
      ≡ some_stored x (as_term c)
  stored_term x c =
      turned_presence c.minuses _
      ∙ gathered-same presence_values (λ u. factors_value presence_values (access_presence p.tensors es) c.factors (coordinate (loops_of p (as_term c)) u))
      (λ u. list_all (stored_at p es (loops_of p (as_term c)) u) c.factors) (λ u. all_stored (loops_of p (as_term c)) u c.factors) (tuples_of p es (as_term c) x)
      ∙ gathered_any (λ u. list_all (stored_at p es (loops_of p (as_term c)) u) c.factors) (tuples_of p es (as_term c) x)

-- ---- numbers

-- signs by parity, modulo 2^64
turned_number : (n a : ℕ) → turned_times number_values n a % 2 ^ 64 ≡ cond (is_odd n) ((2 ^ 64 - 1) * a) a % 2 ^ 64
turned_number zero a = refl
turned_number (suc n) a =
    sym (mul-mod-mod (2 ^ 64) (2 ^ 64 - 1) (turned_times number_values n a))
    ∙ ap (λ (k : ℕ). ((2 ^ 64 - 1) * k) % 2 ^ 64) (turned_number n a)
    ∙ mul-mod-mod (2 ^ 64) (2 ^ 64 - 1) (cond (is_odd n) ((2 ^ 64 - 1) * a) a)
    ∙ by_case (is_odd n)
  where
    by_case : (b : Bool) → ((2 ^ 64 - 1) * cond b ((2 ^ 64 - 1) * a) a) % 2 ^ 64 ≡ cond (not b) ((2 ^ 64 - 1) * a) a % 2 ^ 64
    by_case false = refl
    by_case true = ap (λ (k : ℕ). k % 2 ^ 64) far ∙ add-mul-mod_self_left a (2 ^ 64) ((2 ^ 64 - 2) * a)
      where
        far : (2 ^ 64 - 1) * ((2 ^ 64 - 1) * a) ≡ a + 2 ^ 64 * ((2 ^ 64 - 2) * a)
        far = omega arith

-- a value that is turned is what the sign makes of it
signed_value : (n a : ℕ) → cond (is_odd n) (2 ^ 64 - a % 2 ^ 64) (a % 2 ^ 64) % 2 ^ 64 ≡ turned_times number_values n a % 2 ^ 64
signed_value n a = by_case (is_odd n) ∙ sym (turned_number n a)
  where
    by_case : (b : Bool) → cond b (2 ^ 64 - a % 2 ^ 64) (a % 2 ^ 64) % 2 ^ 64 ≡ cond b ((2 ^ 64 - 1) * a) a % 2 ^ 64
    by_case true = sym (negative (2 ^ 64 - 1) a)
    by_case false = mod-mod a (2 ^ 64)

gathered_total : {A : Type 0} (f : A → ℕ) (xs : List A) → gathered number_values f xs ≡ total f xs
gathered_total f [] = refl
gathered_total f (x ∷ xs) = ap (λ (n : ℕ). f x + n) (gathered_total f xs)

module _ (p : Program) (es : List Entries) where
  product_value : (ls u : List ℕ) (fs : List Factor)
      → product p es ls u fs ≡ factors_value number_values (access_number p.tensors es) fs (coordinate ls u) % 2 ^ 64
  product_value ls u [] = refl
  product_value ls u (Access n vars ∷ fs) =
      ap (λ (k : ℕ). (factor_at p es ls u (Access n vars) * k) % 2 ^ 64) (product_value ls u fs)
      ∙ mul-mod-mod (2 ^ 64) (factor_at p es ls u (Access n vars)) (factors_value number_values (access_number p.tensors es) fs (coordinate ls u))
  product_value ls u (Literal n ∷ fs) =
      ap (λ (k : ℕ). (n * k) % 2 ^ 64) (product_value ls u fs)
      ∙ mul-mod-mod (2 ^ 64) n (factors_value number_values (access_number p.tensors es) fs (coordinate ls u))

  -- the sum of a term's products over its tuples
  abbrev tuples_total : List ℕ → Counted → ℕ
  tuples_total x c =
      gathered number_values (λ u. factors_value number_values (access_number p.tensors es) c.factors (coordinate (loops_of p (as_term c)) u))
      (tuples_of p es (as_term c) x)

  number_term : (x : List ℕ) (c : Counted) → term_at p es (as_term c) x ≡ tuples_total x c % 2 ^ 64
  number_term x c =
      ap (λ (n : ℕ). n % 2 ^ 64)
      (totals (tuples_of p es (as_term c) x))
      ∙ total-mod (2 ^ 64) value (tuples_of p es (as_term c) x)
      ∙ ap (λ (n : ℕ). n % 2 ^ 64) (sym (gathered_total value (tuples_of p es (as_term c) x)))
    where
      value : List ℕ → ℕ
      value u = factors_value number_values (access_number p.tensors es) c.factors (coordinate (loops_of p (as_term c)) u)

      totals : (us : List (List ℕ)) → total (λ u. product p es (loops_of p (as_term c)) u c.factors) us ≡ total (λ u. value u % 2 ^ 64) us
      totals [] = refl
      totals (u ∷ us) = ap₂ (λ (m n : ℕ). m + n) (product_value (loops_of p (as_term c)) u c.factors) (totals us)

  number_terms : (x : List ℕ) (cs : List Counted)
      → signed_terms p es (map as_term cs) x ≡ gathered number_values (λ c. turned_times number_values c.minuses (tuples_total x c)) cs % 2 ^ 64
  number_terms x [] = refl
  number_terms x (c ∷ cs) =
      sums (cond (is_odd c.minuses) (2 ^ 64 - term_at p es (as_term c) x) (term_at p es (as_term c) x))
      (signed_terms p es (map as_term cs) x)
      (turned_times number_values c.minuses (tuples_total x c))
      (gathered number_values (λ c. turned_times number_values c.minuses (tuples_total x c)) cs)
      (ap (λ (n : ℕ). cond (is_odd c.minuses) (2 ^ 64 - n) n % 2 ^ 64) (number_term x c) ∙ signed_value c.minuses (tuples_total x c))
      (number_terms x cs)
    where
      sums : (a b v w : ℕ) → a % 2 ^ 64 ≡ v % 2 ^ 64 → b ≡ w % 2 ^ 64 → (a + b) % 2 ^ 64 ≡ (v + w) % 2 ^ 64
      sums a b v w e f =
          sym (mod-add-mod a (2 ^ 64) b)
          ∙ ap₂ (λ (m n : ℕ). (m + n) % 2 ^ 64) e f
          ∙ mod-add-mod v (2 ^ 64) (w % 2 ^ 64)
          ∙ add-mod-mod v w (2 ^ 64)

-- ---- a statement

gathered_each : {R A : Type 0} (o : Values R) (Q : A → Type 0) (f g : A → R) → ((x : A) → Q x → f x ≡ g x) → (xs : List A) → Each Q xs
    → gathered o f xs ≡ gathered o g xs
gathered_each o Q f g h [] e = refl
gathered_each o Q f g h (x ∷ xs) e = ap₂ o.add (h x e.0) (gathered_each o Q f g h xs e.1)

tops_fit : (count : ℕ) (left : List ℕ) (tops : List TopTree) → list_all (top_fits count left) tops ≡ true → Each (Fits count left) tops
tops_fit count left [] h = tt
tops_fit count left (t ∷ tops) h =
    let e = and_parts (top_fits count left t) (list_all (top_fits count left) tops) h in (fits count left t e.0, tops_fit count left tops e.1)

terms_have : (left : List ℕ) (cs : List Counted) → list_all (λ t. list_all (term_has t) left) (map as_term cs) ≡ true
    → Each (λ c. (v : ℕ) → is_in v left ≡ true → factors_have c.factors v ≡ true) cs
terms_have left [] h = tt
terms_have left (c ∷ cs) h =
    let e = and_parts (list_all (factors_have c.factors) left) (list_all (λ t. list_all (term_has t) left) (map as_term cs)) h in
    (λ v m. list_all-member (factors_have c.factors) left v e.0 m, terms_have left cs e.1)

in_range : (sizes left : List ℕ) (tops : List TopTree) → Each (Fits (length sizes) left) tops
    → Each (λ c. (v : ℕ) → factors_have c.factors v ≡ true → v < length sizes) (flat_map (counted_top sizes) tops)
in_range sizes left tops e =
    Each-flat_map (Fits (length sizes) left) (λ c. (v : ℕ) → factors_have c.factors v ≡ true → v < length sizes) (counted_top sizes)
    (λ t fit. Each-weaker (Within (used_vars t.body)) (λ c. (v : ℕ) → factors_have c.factors v ≡ true → v < length sizes) (λ c w v h. fit.used v (w v h))
    (counted_top sizes t) (within-top sizes t))
    tops e

module _ (p : Program) (es : List Entries) (tops : List TopTree) (x : List ℕ) (fit : FitTogether p tops) (long : length x ≡ length p.left)
    (expands : p.terms ≡ expanded_tops p.var_sizes tops) where
  abbrev terms : List Counted
  terms = flat_map (counted_top p.var_sizes) tops

  terms_are : p.terms ≡ map as_term terms
  terms_are = expands ∙ sym (as-expanded_tops p.var_sizes tops)

  left_fits : LeftFits p.var_sizes p.left p.result.order x
  left_fits = record { order_fits = fit.order; in_range = fit.left_in_range; ascends = fit.left_ascends; long = long }

  all_fit : Each (Fits (length p.var_sizes) p.left) tops
  all_fit = tops_fit (length p.var_sizes) p.left tops fit.each_fits

  placed : Each (IsPlaced (length p.var_sizes) p.left) terms
  placed =
      both terms
      (terms_have p.left terms (ap (list_all (λ t. list_all (term_has t) p.left)) (sym terms_are) ∙ fit.complete))
      (in_range p.var_sizes p.left tops all_fit)
    where
      both : (cs : List Counted) → Each (λ c. (v : ℕ) → is_in v p.left ≡ true → factors_have c.factors v ≡ true) cs
          → Each (λ c. (v : ℕ) → factors_have c.factors v ≡ true → v < length p.var_sizes) cs → Each (IsPlaced (length p.var_sizes) p.left) cs
      both [] h k = tt
      both (c ∷ cs) h k = (record { has_left = h.0; in_range = k.0 }, both cs h.1 k.1)

  keeps_number : den p es x ≡ denoted p.tensors es p.var_sizes (items_at p.left p.result.order) tops x
  keeps_number =
      ap (λ (ts : List Term). signed_terms p es ts x) terms_are
      ∙ number_terms p es x terms
      ∙ ap (λ (n : ℕ). n % 2 ^ 64)
      (gathered_each number_values (IsPlaced (length p.var_sizes) p.left) (λ c. turned_times number_values c.minuses (tuples_total p es x c))
      (λ c. own_value number_values p.var_sizes (access_number p.tensors es) laws p.left c (at_left (items_at p.left p.result.order) x))
      (λ c at. sym (own-tuples p.var_sizes p.left p.result.order x left_fits number_values (access_number p.tensors es) laws c at)) terms placed
      ∙ sym (tops-value number_values p.var_sizes (access_number p.tensors es) laws p.left tops all_fit (at_left (items_at p.left p.result.order) x)))
    where
      laws : AreLawful number_values p.var_sizes
      laws = number-lawful p.var_sizes

  keeps_presence : pat p es x ≡ found p.tensors es p.var_sizes (items_at p.left p.result.order) tops x
  keeps_presence =
      ap (list_any (some_stored p es x)) terms_are
      ∙ list_any-map (some_stored p es x) as_term terms
      ∙ sym (gathered_any (λ c. some_stored p es x (as_term c)) terms)
      ∙ gathered_each presence_values (IsPlaced (length p.var_sizes) p.left) (λ c. some_stored p es x (as_term c))
      (λ c. own_value presence_values p.var_sizes (access_presence p.tensors es) laws p.left c (at_left (items_at p.left p.result.order) x))
      (λ c at.
      sym (stored_term p es x c)
      ∙ sym (own-tuples p.var_sizes p.left p.result.order x left_fits presence_values (access_presence p.tensors es) laws c at)) terms placed
      ∙ sym (tops-value presence_values p.var_sizes (access_presence p.tensors es) laws p.left tops all_fit (at_left (items_at p.left p.result.order) x))
    where
      laws : AreLawful presence_values p.var_sizes
      laws = presence-lawful p.var_sizes fit.sizes

-- the law of expansion
pub keeps-meaning : (sizes : List ℕ) (tops : List TopTree) → KeepsMeaning sizes tops (expanded_tops sizes tops)
keeps-meaning sizes tops p es x same_sizes same_terms fit long =
    let expands : p.terms ≡ expanded_tops p.var_sizes tops = same_terms ∙ ap (λ (ks : List ℕ). expanded_tops ks tops) (sym same_sizes) in (
      keeps_number p es tops x fit long expands ∙ ap (λ (ks : List ℕ). denoted p.tensors es ks (items_at p.left p.result.order) tops x) same_sizes,
      keeps_presence p es tops x fit long expands ∙ ap (λ (ks : List ℕ). found p.tensors es ks (items_at p.left p.result.order) tops x) same_sizes,
    )
