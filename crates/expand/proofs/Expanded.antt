-- The value of an expression is that of its terms, each summed over those of its variables that the expression binds.
use Rattle.std.specs.Prelude.{◌≡◌, ◌<◌, ℕ, ◌+◌, ◌⊎◌, Bool, true, false, cond, ◌||◌, List, [], ◌∷◌, ◌++◌, length, slice_index, eqb, refl}
use Rattle.std.specs.List.{filter, flat_map}
use mathlib.Core.List.{map}
use Rattle.std.proofs.Common.{sym, ◌∙◌, ap, ap₂, inl, inr}
use Rattle.std.proofs.lemmas.Bool.{and_parts, or_cases, or_left, or_right, eq-eqb}
use Rattle.std.proofs.lemmas.List.{append-nil, append_assoc}
use Rattle.std.proofs.lemmas.List.Elements.{filter-append}
use Rattle.std.proofs.lemmas.List.Folds.{list_any-append}
use Rattle.sam_base.specs.Each.{Each}
use Rattle.sam_model.specs.declared.program.Factor.{Factor}
use Rattle.sam_model.specs.declared.program.Factor.TheVariants as factor
use Rattle.sam_model.specs.Trees.{ExprTree, Access, Literal, Times, Plus, Minus, Negate, Sum, TopTree}
use Rattle.sam_model.specs.Lists.{is_in}
use Rattle.sam_model.specs.Denote.{has_var}
use Rattle.sam_model.specs.Expressions.{Tuple, with_at, Values, sum_for, sum_over, negative_if, expr_value}
use Rattle.sam_model.proofs.Lists.{or-false, not-true, Each-append, Each-map, Each-weaker}
use Rattle.sam_model.proofs.Orders.{is_in-filter}
use Rattle.sam_model.specs.Scopes.{bound_vars, used_vars}
use Rattle.expand.proofs.ValueLaws.{AreLawful, sum-same, mul-none, mul-one, add-mul, sum-added, sum-none, sum-turned, turned_times, turned-mul, turned-both}
use Rattle.expand.proofs.Over.{for-same, over-same, over-append, over-free, over-scaled}
use Rattle.expand.proofs.Counted.{Counted, factors_have, counted_turned, counted_joined, counted_summed, counted, counted_over, counted_sign, counted_top}
use Rattle.expand.proofs.Factors.{factors_value, factors-free, factors-append}

-- ---- scopes

-- what is among the first isn't among the second
abbrev pub Apart : List ℕ → List ℕ → Type 0
Apart ks vs = (k : ℕ) → is_in k ks ≡ true → is_in k vs ≡ false

-- at each product, sum and difference the sums of a side are over no variable that the other uses, and each sum is over one of
-- so many variables
abbrev pub IsScoped : ℕ → ExprTree → Type 0
IsScoped count (Access n vars) = Unit {0}
IsScoped count (Literal n) = Unit {0}
IsScoped count (Times a b) =
    IsScoped count a × IsScoped count b × Apart (bound_vars a) (used_vars b) × Apart (bound_vars b) (used_vars a)
IsScoped count (Plus a b) =
    IsScoped count a × IsScoped count b × Apart (bound_vars a) (used_vars b) × Apart (bound_vars b) (used_vars a)
IsScoped count (Minus a b) =
    IsScoped count a × IsScoped count b × Apart (bound_vars a) (used_vars b) × Apart (bound_vars b) (used_vars a)
IsScoped count (Negate a) = IsScoped count a
IsScoped count (Sum k a) = IsScoped count a × (k < count)

-- ---- which variables terms have

-- its accesses have variables of these alone
abbrev pub Within : List ℕ → Counted → Type 0
Within vs t = (k : ℕ) → factors_have t.factors k ≡ true → is_in k vs ≡ true

pub have-append : (fs gs : List Factor) (k : ℕ) → factors_have (fs ++ gs) k ≡ (factors_have fs k || factors_have gs k)
have-append fs gs k = list_any-append (has_var k) fs gs

pub is_in-append : (k : ℕ) (vs ws : List ℕ) → is_in k (vs ++ ws) ≡ (is_in k vs || is_in k ws)
is_in-append k vs ws = list_any-append (eqb k) vs ws

within_either : (vs ws : List ℕ) (k : ℕ) (b c : Bool) → (b ≡ true → is_in k vs ≡ true) → (c ≡ true → is_in k ws ≡ true) → (b || c) ≡ true
    → is_in k (vs ++ ws) ≡ true
within_either vs ws k b c left right h =
    is_in-append k vs ws ∙ by_case (or_cases b c h)
  where
    by_case : (b ≡ true) ⊎ (c ≡ true) → (is_in k vs || is_in k ws) ≡ true
    by_case (inl e) = or_left (is_in k vs) (is_in k ws) (left e)
    by_case (inr e) = or_right (is_in k vs) (is_in k ws) (right e)

within_joined : (vs ws : List ℕ) (t u : Counted) → Within vs t → Within ws u → Within (vs ++ ws) (counted_joined t u)
within_joined vs ws t u a b k h =
    within_either vs ws k (factors_have t.factors k) (factors_have u.factors k) (a k) (b k) (sym (have-append t.factors u.factors k) ∙ h)

within_products : (vs ws : List ℕ) (ts us : List Counted) → Each (Within vs) ts → Each (Within ws) us
    → Each (Within (vs ++ ws)) (flat_map (λ t. map (counted_joined t) us) ts)
within_products vs ws [] us a b = tt
within_products vs ws (t ∷ ts) us a b =
    Each-append (Within (vs ++ ws)) (map (counted_joined t) us) (flat_map (λ t. map (counted_joined t) us) ts)
    (Each-map (Within (vs ++ ws)) (counted_joined t) (Within ws) (λ u c. within_joined vs ws t u a.0 c) us b)
    (within_products vs ws ts us a.1 b)

within_left : (vs ws : List ℕ) (ts : List Counted) → Each (Within vs) ts → Each (Within (vs ++ ws)) ts
within_left vs ws ts a =
    Each-weaker (Within vs) (Within (vs ++ ws)) (λ t h k e. is_in-append k vs ws ∙ or_left (is_in k vs) (is_in k ws) (h k e)) ts a

within_right : (vs ws : List ℕ) (ts : List Counted) → Each (Within ws) ts → Each (Within (vs ++ ws)) ts
within_right vs ws ts a =
    Each-weaker (Within ws) (Within (vs ++ ws)) (λ t h k e. is_in-append k vs ws ∙ or_right (is_in k vs) (is_in k ws) (h k e)) ts a

within_turned : (vs : List ℕ) (ts : List Counted) → Each (Within vs) ts → Each (Within vs) (map counted_turned ts)
within_turned vs ts a = Each-map (Within vs) counted_turned (Within vs) (λ t h. h) ts a

-- a literal has no variable
have_literal : (fs : List Factor) (n k : ℕ) → factors_have (fs ++ factor.Literal n ∷ []) k ≡ factors_have fs k
have_literal fs n k = have-append fs (factor.Literal n ∷ []) k ∙ or-false (factors_have fs k)

have_summed : (sizes : List ℕ) (k j : ℕ) (t : Counted) → factors_have (counted_summed sizes k t).factors j ≡ factors_have t.factors j
have_summed sizes k j t = by_case (factors_have t.factors k)
  where
    longer : List Factor
    longer = t.factors ++ factor.Literal (slice_index sizes k) ∷ []

    shorter : Counted
    shorter = t

    by_case : (b : Bool) → factors_have (cond b shorter (record t { factors = longer })).factors j ≡ factors_have t.factors j
    by_case true = refl
    by_case false = have_literal t.factors (slice_index sizes k) j

within_summed : (sizes : List ℕ) (k : ℕ) (vs : List ℕ) (ts : List Counted) → Each (Within vs) ts → Each (Within vs) (map (counted_summed sizes k) ts)
within_summed sizes k vs ts a =
    Each-map (Within vs) (counted_summed sizes k) (Within vs) (λ t h j e. h j (sym (have_summed sizes k j t) ∙ e)) ts a

within_counted : (sizes : List ℕ) (e : ExprTree) → Each (Within (used_vars e)) (counted sizes e)
within_counted sizes (Access n vars) = (λ k h. sym (or-false (is_in k vars)) ∙ h, tt)
within_counted sizes (Literal n) = (λ k h. h, tt)
within_counted sizes (Times a b) =
    within_products (used_vars a) (used_vars b) (counted sizes a) (counted sizes b) (within_counted sizes a) (within_counted sizes b)
within_counted sizes (Plus a b) =
    Each-append (Within (used_vars a ++ used_vars b)) (counted sizes a) (counted sizes b)
    (within_left (used_vars a) (used_vars b) (counted sizes a) (within_counted sizes a))
    (within_right (used_vars a) (used_vars b) (counted sizes b) (within_counted sizes b))
within_counted sizes (Minus a b) =
    Each-append (Within (used_vars a ++ used_vars b)) (counted sizes a) (map counted_turned (counted sizes b))
    (within_left (used_vars a) (used_vars b) (counted sizes a) (within_counted sizes a))
    (within_turned (used_vars a ++ used_vars b) (counted sizes b) (within_right (used_vars a) (used_vars b) (counted sizes b) (within_counted sizes b)))
within_counted sizes (Negate a) = within_turned (used_vars a) (counted sizes a) (within_counted sizes a)
within_counted sizes (Sum k a) = within_summed sizes k (used_vars a) (counted sizes a) (within_counted sizes a)

within_over : (sizes : List ℕ) (vs ks : List ℕ) (ts : List Counted) → Each (Within vs) ts → Each (Within vs) (counted_over sizes ks ts)
within_over sizes vs [] ts a = a
within_over sizes vs (k ∷ ks) ts a = within_over sizes vs ks (map (counted_summed sizes k) ts) (within_summed sizes k vs ts a)

pub within-top : (sizes : List ℕ) (t : TopTree) → Each (Within (used_vars t.body)) (counted_top sizes t)
within-top sizes t = by_case t.minus
  where
    terms : List Counted
    terms = counted_over sizes t.implied (counted sizes t.body)

    within : Each (Within (used_vars t.body)) terms
    within = within_over sizes (used_vars t.body) t.implied (counted sizes t.body) (within_counted sizes t.body)

    by_case : (b : Bool) → Each (Within (used_vars t.body)) (counted_sign sizes b terms)
    by_case true = within_turned (used_vars t.body) terms within
    by_case false = within

-- ---- the bound variables that a term has

abbrev pub own : List ℕ → Counted → List ℕ
own ks t = filter (factors_have t.factors) ks

-- a filter by tests that are the same on its members
filter_same : (f g : ℕ → Bool) (ks : List ℕ) → ((k : ℕ) → is_in k ks ≡ true → f k ≡ g k) → filter f ks ≡ filter g ks
filter_same f g [] h = refl
filter_same f g (k ∷ ks) h =
    ap₂ (λ (b : Bool) (ls : List ℕ). cond b (k ∷ ls) ls) (h k (or_left (eqb k k) (is_in k ks) (eq-eqb k k refl)))
    (filter_same f g ks (λ j e. h j (or_right (eqb j k) (is_in j ks) e)))

filter_never : (ks : List ℕ) → filter (λ k. false) ks ≡ []
filter_never [] = refl
filter_never (k ∷ ks) = filter_never ks

-- a term has none of the variables that are apart from its own
lacks : (ks vs : List ℕ) (t : Counted) → Within vs t → Apart ks vs → (k : ℕ) → is_in k ks ≡ true → factors_have t.factors k ≡ false
lacks ks vs t w apart k h = not-true (factors_have t.factors k) (λ e. sym (apart k h) ∙ w k e)

own_in : (k : ℕ) (ks : List ℕ) (t : Counted) → is_in k (own ks t) ≡ true → is_in k ks ≡ true
own_in k ks t h = (and_parts (is_in k ks) (factors_have t.factors k) (sym (is_in-filter (factors_have t.factors) k ks) ∙ h)).0

own_none : (ks vs : List ℕ) (t : Counted) → Within vs t → Apart ks vs → own ks t ≡ []
own_none ks vs t w apart = filter_same (factors_have t.factors) (λ k. false) ks (lacks ks vs t w apart) ∙ filter_never ks

own_left : (ks ls vs : List ℕ) (t : Counted) → Within vs t → Apart ls vs → own (ks ++ ls) t ≡ own ks t
own_left ks ls vs t w apart =
    filter-append (factors_have t.factors) ks ls
    ∙ ap (λ (js : List ℕ). own ks t ++ js) (own_none ls vs t w apart) ∙ append-nil (own ks t)

own_right : (ks ls vs : List ℕ) (t : Counted) → Within vs t → Apart ks vs → own (ks ++ ls) t ≡ own ls t
own_right ks ls vs t w apart =
    filter-append (factors_have t.factors) ks ls ∙ ap (λ (js : List ℕ). js ++ own ls t) (own_none ks vs t w apart)

own_joined : (ks ls vs ws : List ℕ) (t u : Counted) → Within vs t → Within ws u → Apart ks ws → Apart ls vs
    → own (ks ++ ls) (counted_joined t u) ≡ own ks t ++ own ls u
own_joined ks ls vs ws t u a b first second =
    filter-append (factors_have (t.factors ++ u.factors)) ks ls
    ∙ ap₂ (λ (is js : List ℕ). is ++ js)
    (filter_same (factors_have (t.factors ++ u.factors)) (factors_have t.factors) ks
    (λ k h. have-append t.factors u.factors k ∙ ap (λ c. factors_have t.factors k || c) (lacks ks ws u b first k h) ∙ or-false (factors_have t.factors k)))
    (filter_same (factors_have (t.factors ++ u.factors)) (factors_have u.factors) ls
    (λ k h. have-append t.factors u.factors k ∙ ap (λ c. c || factors_have u.factors k) (lacks ls vs t a second k h)))

-- ---- values of terms

module _ {R : Type 0} (o : Values R) (sizes : List ℕ) (access : ℕ → List ℕ → R) where
  -- of one term, summed over these variables
  abbrev pub over_value : List ℕ → Counted → Tuple → R
  over_value ks t s = turned_times o t.minuses (sum_over o sizes ks (factors_value o access t.factors) s)

  -- of several, each summed over those of these variables that it has
  abbrev pub counted_values : List ℕ → List Counted → Tuple → R
  counted_values ks [] s = o.none
  counted_values ks (t ∷ ts) s = o.add (over_value (own ks t) t s) (counted_values ks ts s)

  module _ (laws : AreLawful o sizes) where
    pub values-append : (ks : List ℕ) (ts us : List Counted) (s : Tuple)
        → counted_values ks (ts ++ us) s ≡ o.add (counted_values ks ts s) (counted_values ks us s)
    values-append ks [] us s = sym (laws.add_none (counted_values ks us s))
    values-append ks (t ∷ ts) us s =
        ap (o.add (over_value (own ks t) t s)) (values-append ks ts us s)
        ∙ sym (laws.add_assoc (over_value (own ks t) t s) (counted_values ks ts s) (counted_values ks us s))

    values_turned : (ks : List ℕ) (ts : List Counted) (s : Tuple)
        → counted_values ks (map counted_turned ts) s ≡ o.mul o.minus (counted_values ks ts s)
    values_turned ks [] s = sym (mul-none o sizes laws o.minus)
    values_turned ks (t ∷ ts) s =
        ap (o.add (o.mul o.minus (over_value (own ks t) t s))) (values_turned ks ts s)
        ∙ sym (laws.mul_add o.minus (over_value (own ks t) t s) (counted_values ks ts s))

    pub values-sign : (minus : Bool) (ks : List ℕ) (ts : List Counted) (s : Tuple)
        → negative_if o minus (counted_values ks ts s) ≡ counted_values ks (counted_sign sizes minus ts) s
    values-sign true ks ts s = sym (values_turned ks ts s)
    values-sign false ks ts s = refl

    -- where the other variables are none of theirs
    values_left : (ks ls vs : List ℕ) → Apart ls vs → (ts : List Counted) → Each (Within vs) ts → (s : Tuple)
        → counted_values (ks ++ ls) ts s ≡ counted_values ks ts s
    values_left ks ls vs apart [] w s = refl
    values_left ks ls vs apart (t ∷ ts) w s =
        ap₂ o.add (ap (λ js. over_value js t s) (own_left ks ls vs t w.0 apart)) (values_left ks ls vs apart ts w.1 s)

    values_right : (ks ls vs : List ℕ) → Apart ks vs → (ts : List Counted) → Each (Within vs) ts → (s : Tuple)
        → counted_values (ks ++ ls) ts s ≡ counted_values ls ts s
    values_right ks ls vs apart [] w s = refl
    values_right ks ls vs apart (t ∷ ts) w s =
        ap₂ o.add (ap (λ js. over_value js t s) (own_right ks ls vs t w.0 apart)) (values_right ks ls vs apart ts w.1 s)

    -- a product of sums is the sum of the products, where the variables of each stand in no factor of the other
    joined_value : (ks ls vs ws : List ℕ) → Apart ks ws → Apart ls vs → (t u : Counted) → Within vs t → Within ws u → (s : Tuple)
        → over_value (own (ks ++ ls) (counted_joined t u)) (counted_joined t u) s ≡ o.mul (over_value (own ks t) t s) (over_value (own ls u) u s)
    joined_value ks ls vs ws first second t u a b s =
        ap (λ js. over_value js (counted_joined t u) s) (own_joined ks ls vs ws t u a b first second)
        ∙ ap (turned_times o (t.minuses + u.minuses)) (over-append o sizes (own ks t) (own ls u) (factors_value o access (t.factors ++ u.factors)) s ∙ outer)
        ∙ turned-both o sizes laws t.minuses u.minuses (sum_t s) (sum_over o sizes (own ls u) of_u s)
      where
        of_t : Tuple → R
        of_t = factors_value o access t.factors

        of_u : Tuple → R
        of_u = factors_value o access u.factors

        sum_t : Tuple → R
        sum_t = sum_over o sizes (own ks t) of_t

        inner : (r : Tuple) → sum_over o sizes (own ks t) (factors_value o access (t.factors ++ u.factors)) r ≡ o.mul (sum_t r) (of_u r)
        inner r =
            over-same o sizes (own ks t) (factors_value o access (t.factors ++ u.factors)) (λ q. o.mul (of_u q) (of_t q))
            (λ q. factors-append o access sizes laws t.factors u.factors q ∙ laws.mul_comm (of_t q) (of_u q)) r
            ∙ over-scaled o sizes laws (own ks t) of_u of_t
            (λ k h. factors-free o access k u.factors (lacks ks ws u b first k (own_in k ks t h))) r
            ∙ laws.mul_comm (of_u r) (sum_t r)

        outer : sum_over o sizes (own ls u) (sum_over o sizes (own ks t) (factors_value o access (t.factors ++ u.factors))) s
            ≡ o.mul (sum_t s) (sum_over o sizes (own ls u) of_u s)
        outer =
            over-same o sizes (own ls u) (sum_over o sizes (own ks t) (factors_value o access (t.factors ++ u.factors)))
            (λ r. o.mul (sum_t r) (of_u r)) inner s
            ∙ over-scaled o sizes laws (own ls u) sum_t of_u
            (λ k h. over-free o sizes (own ks t) of_t k (factors-free o access k t.factors (lacks ls vs t a second k (own_in k ls u h)))) s

    row_value : (ks ls vs ws : List ℕ) → Apart ks ws → Apart ls vs → (t : Counted) (us : List Counted) → Within vs t → Each (Within ws) us → (s : Tuple)
        → counted_values (ks ++ ls) (map (counted_joined t) us) s ≡ o.mul (over_value (own ks t) t s) (counted_values ls us s)
    row_value ks ls vs ws first second t [] a b s = sym (mul-none o sizes laws (over_value (own ks t) t s))
    row_value ks ls vs ws first second t (u ∷ us) a b s =
        ap₂ o.add (joined_value ks ls vs ws first second t u a b.0 s) (row_value ks ls vs ws first second t us a b.1 s)
        ∙ sym (laws.mul_add (over_value (own ks t) t s) (over_value (own ls u) u s) (counted_values ls us s))

    products_value : (ks ls vs ws : List ℕ) → Apart ks ws → Apart ls vs → (ts us : List Counted) → Each (Within vs) ts → Each (Within ws) us
        → (s : Tuple)
        → counted_values (ks ++ ls) (flat_map (λ t. map (counted_joined t) us) ts) s ≡ o.mul (counted_values ks ts s) (counted_values ls us s)
    products_value ks ls vs ws first second [] us a b s = sym (laws.none_mul (counted_values ls us s))
    products_value ks ls vs ws first second (t ∷ ts) us a b s =
        values-append (ks ++ ls) (map (counted_joined t) us) (flat_map (λ t. map (counted_joined t) us) ts) s
        ∙ ap₂ o.add (row_value ks ls vs ws first second t us a.0 b s) (products_value ks ls vs ws first second ts us a.1 b s)
        ∙ sym (add-mul o sizes laws (over_value (own ks t) t s) (counted_values ks ts s) (counted_values ls us s))

    -- one more sum
    summed_value : (k : ℕ) (ks : List ℕ) → k < length sizes → (t : Counted) (s : Tuple)
        → over_value (own (ks ++ k ∷ []) (counted_summed sizes k t)) (counted_summed sizes k t) s ≡ sum_for o sizes k (over_value (own ks t) t) s
    summed_value k ks inside t s = by_case (factors_have t.factors k) refl
      where
        size : ℕ
        size = slice_index sizes k

        longer : Counted
        longer = record t { factors = t.factors ++ factor.Literal size ∷ [] }

        of_t : Tuple → R
        of_t = factors_value o access t.factors

        with_k : (b : Bool) → factors_have t.factors k ≡ b → own (ks ++ k ∷ []) t ≡ own ks t ++ cond b (k ∷ []) []
        with_k b h = filter-append (factors_have t.factors) ks (k ∷ []) ∙ ap (λ c. own ks t ++ cond c (k ∷ []) []) h

        own_longer : factors_have t.factors k ≡ false → own (ks ++ k ∷ []) longer ≡ own ks t
        own_longer h =
            filter_same (factors_have longer.factors) (factors_have t.factors) (ks ++ k ∷ []) (λ j e. have_literal t.factors size j)
            ∙ with_k false h ∙ append-nil (own ks t)

        of_longer : (r : Tuple) → factors_value o access longer.factors r ≡ o.mul (o.literal size) (of_t r)
        of_longer r =
            factors-append o access sizes laws t.factors (factor.Literal size ∷ []) r
            ∙ ap (o.mul (of_t r)) (mul-one o sizes laws (o.literal size)) ∙ laws.mul_comm (of_t r) (o.literal size)

        by_case : (b : Bool) → factors_have t.factors k ≡ b
            → over_value (own (ks ++ k ∷ []) (cond b t longer)) (cond b t longer) s ≡ sum_for o sizes k (over_value (own ks t) t) s
        by_case true h =
            ap (λ js. over_value js t s) (with_k true h)
            ∙ ap (turned_times o t.minuses) (over-append o sizes (own ks t) (k ∷ []) of_t s)
            ∙ sym (sum-turned o sizes laws t.minuses size (λ v. sum_over o sizes (own ks t) of_t (with_at s k v)))
        by_case false h =
            ap (λ js. over_value js longer s) (own_longer h)
            ∙ ap (turned_times o t.minuses)
            (over-same o sizes (own ks t) (factors_value o access longer.factors) (λ r. o.mul (o.literal size) (of_t r)) of_longer s
            ∙ over-scaled o sizes laws (own ks t) (λ r. o.literal size) of_t (λ j e r v. refl) s
            ∙ laws.mul_comm (o.literal size) (sum_over o sizes (own ks t) of_t s))
            ∙ turned-mul o sizes laws t.minuses (sum_over o sizes (own ks t) of_t s) (o.literal size)
            ∙ sym (laws.constant k inside (over_value (own ks t) t s))
            ∙ sym (sum-same o size (λ v. over_value (own ks t) t (with_at s k v)) (λ v. over_value (own ks t) t s)
            (λ v. ap (turned_times o t.minuses) (over-free o sizes (own ks t) of_t k (factors-free o access k t.factors h) s v)))

    values_summed : (k : ℕ) (ks : List ℕ) → k < length sizes → (ts : List Counted) (s : Tuple)
        → counted_values (ks ++ k ∷ []) (map (counted_summed sizes k) ts) s ≡ sum_for o sizes k (counted_values ks ts) s
    values_summed k ks inside [] s = sym (sum-none o sizes laws (slice_index sizes k))
    values_summed k ks inside (t ∷ ts) s =
        ap₂ o.add (summed_value k ks inside t s) (values_summed k ks inside ts s)
        ∙ sym (sum-added o sizes laws (slice_index sizes k) (λ v. over_value (own ks t) t (with_at s k v)) (λ v. counted_values ks ts (with_at s k v)))

    -- ---- the law

    -- an expression has the value of its terms
    pub keeps-values : (e : ExprTree) → IsScoped (length sizes) e → (s : Tuple)
        → expr_value o sizes access e s ≡ counted_values (bound_vars e) (counted sizes e) s
    keeps-values (Access n vars) scoped s = sym (laws.none_add (o.mul (access n (map s vars)) o.one) ∙ mul-one o sizes laws (access n (map s vars)))
    keeps-values (Literal n) scoped s = sym (laws.none_add (o.mul (o.literal n) o.one) ∙ mul-one o sizes laws (o.literal n))
    keeps-values (Times a b) scoped s =
        ap₂ o.mul (keeps-values a scoped.0 s) (keeps-values b scoped.1 s)
        ∙ sym (products_value (bound_vars a) (bound_vars b) (used_vars a) (used_vars b) scoped.2 scoped.3 (counted sizes a) (counted sizes b)
        (within_counted sizes a) (within_counted sizes b) s)
    keeps-values (Plus a b) scoped s =
        ap₂ o.add
        (keeps-values a scoped.0 s ∙ sym (values_left (bound_vars a) (bound_vars b) (used_vars a) scoped.3 (counted sizes a) (within_counted sizes a) s))
        (keeps-values b scoped.1 s ∙ sym (values_right (bound_vars a) (bound_vars b) (used_vars b) scoped.2 (counted sizes b) (within_counted sizes b) s))
        ∙ sym (values-append (bound_vars a ++ bound_vars b) (counted sizes a) (counted sizes b) s)
    keeps-values (Minus a b) scoped s =
        ap₂ (λ x y. o.add x (o.mul o.minus y))
        (keeps-values a scoped.0 s ∙ sym (values_left (bound_vars a) (bound_vars b) (used_vars a) scoped.3 (counted sizes a) (within_counted sizes a) s))
        (keeps-values b scoped.1 s ∙ sym (values_right (bound_vars a) (bound_vars b) (used_vars b) scoped.2 (counted sizes b) (within_counted sizes b) s))
        ∙ ap (o.add (counted_values (bound_vars a ++ bound_vars b) (counted sizes a) s))
        (sym (values_turned (bound_vars a ++ bound_vars b) (counted sizes b) s))
        ∙ sym (values-append (bound_vars a ++ bound_vars b) (counted sizes a) (map counted_turned (counted sizes b)) s)
    keeps-values (Negate a) scoped s =
        ap (o.mul o.minus) (keeps-values a scoped s) ∙ sym (values_turned (bound_vars a) (counted sizes a) s)
    keeps-values (Sum k a) scoped s =
        for-same o sizes k (expr_value o sizes access a) (counted_values (bound_vars a) (counted sizes a)) (keeps-values a scoped.0) s
        ∙ sym (values_summed k (bound_vars a) scoped.1 (counted sizes a) s)

    -- summed over more variables
    pub keeps-over : (js : List ℕ) → ((j : ℕ) → is_in j js ≡ true → j < length sizes) → (ks : List ℕ) (ts : List Counted) (s : Tuple)
        → sum_over o sizes js (counted_values ks ts) s ≡ counted_values (ks ++ js) (counted_over sizes js ts) s
    keeps-over [] inside ks ts s = ap (λ (is : List ℕ). counted_values is ts s) (sym (append-nil ks))
    keeps-over (j ∷ js) inside ks ts s =
        let first : j < length sizes = inside j (or_left (eqb j j) (is_in j js) (eq-eqb j j refl)) in
        over-same o sizes js (sum_for o sizes j (counted_values ks ts)) (counted_values (ks ++ j ∷ []) (map (counted_summed sizes j) ts))
        (λ r. sym (values_summed j ks first ts r)) s
        ∙ keeps-over js (λ i h. inside i (or_right (eqb i j) (is_in i js) h)) (ks ++ j ∷ []) (map (counted_summed sizes j) ts) s
        ∙ ap (λ (is : List ℕ). counted_values is (counted_over sizes js (map (counted_summed sizes j) ts)) s) (append_assoc ks (j ∷ []) js)
