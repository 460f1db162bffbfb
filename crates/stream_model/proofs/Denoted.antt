-- The values of a program's terms are what its terms denote, where their patterns hold.
use Rattle.std.specs.Prelude.{◌≡◌, ℕ, ◌+◌, ◌-◌, ◌*◌, ◌%◌, ◌^◌, Bool, true, false, cond, ◌&&◌, List, [], ◌∷◌, length, slice_index, Some, None, refl}
use Rattle.std.specs.List.{list_any, list_all}
use mathlib.Core.List.{map}
use Rattle.std.proofs.Common.{sym, ◌∙◌, ap, one-mul, mul_assoc, mul_left_comm, mul-zero, zero-mul}
use Rattle.std.proofs.Math.Nat.{mod-mod, add-mod-mod, mod-add-mod}
use Rattle.std.proofs.lemmas.Bool.{and_parts}
use Rattle.std.proofs.lemmas.List.{length-map}
use Rattle.sam_model.specs.declared.tensors.Entries.{Entries}
use Rattle.sam_model.specs.declared.program.Factor.{Factor}
use Rattle.sam_model.specs.declared.program.Factor.TheVariants.{Access, Literal}
use Rattle.sam_model.specs.declared.program.Term.{Term}
use Rattle.sam_model.specs.declared.program.Program.{Program}
use Rattle.sam_model.specs.Lists.{total, is_in}
use Rattle.sam_model.specs.Tensors.{Stored, is_stored, value_at}
use Rattle.sam_model.specs.Denote.{loops_of, loop_list, fill, tensor_at, stored_of, access_place, product, stored_at, tuples_of, term_at, signed_terms, den, pat}
use Rattle.sam_model.specs.Accepted.{term_fits}
use Rattle.sam_model.specs.Program.{accepted}
use Rattle.stream_tokens.specs.Nest.{Leaf}
use Rattle.stream_tokens.specs.Shapes.{Each}
use Rattle.stream_tokens.proofs.Algebra.{Each-imp}
use Rattle.stream_model.specs.Terms.{keep, mask_of, restricted, product_of, whole_product, operands_of, literals_of, term_data, further_summand, summands_of, summands}
use Rattle.stream_model.specs.Trees.{all_stored, value_term, sum_there}
use Rattle.stream_model.specs.Joins.{negated, signed, join_of}
use Rattle.sam_model.proofs.Lists.{list_any-ext-each}
use Rattle.sam_model.proofs.Moduli.{mul-mod-mod, mod-mul-mod, negative, total-ext-each, total-mod, total-times}
use Rattle.sam_model.proofs.Stored.{value-unstored}
use Rattle.sam_model.proofs.Tuples.{fill-length}
use Rattle.stream_model.proofs.Sums.{plus-none, where_passes, nothing-passes, sum-passes}
use Rattle.stream_model.proofs.TermLaw.{term-law}
use Rattle.stream_model.proofs.Places.{AllPlaced, accepted-terms, term-placed}

-- ---- a product of factors

module _ (p : Program) (es : List Entries) (t : Term) where
  abbrev stored : List Stored
  stored = stored_of p.tensors es

  abbrev loops : List ℕ
  loops = loops_of p t

  access_times : (m v l q r : ℕ) → r ≡ (l * q) % m → (v * r) % m ≡ (l * (v * q)) % m
  access_times m v l q r e =
      ap (λ (n : ℕ). (v * n) % m) e ∙ mul-mod-mod m v (l * q) ∙ ap (λ (n : ℕ). n % m) (mul_left_comm v l q)

  literal_times : (m n l q r : ℕ) → r ≡ (l * q) % m → (n * r) % m ≡ ((n * l) * q) % m
  literal_times m n l q r e =
      ap (λ (x : ℕ). (n * x) % m) e ∙ mul-mod-mod m n (l * q) ∙ ap (λ (x : ℕ). x % m) (sym (mul_assoc n l q))

  -- the product is that of the literals and the accesses
  pub product-parts : (factors : List Factor) (u : List ℕ) → AllPlaced p es t factors → length u ≡ length (loops_of p t)
      → product p es (loops_of p t) u factors
      ≡ (literals_of factors * product_of (operands_of (stored_of p.tensors es) (loops_of p t) factors) u) % 2 ^ 64
  product-parts [] u h e = refl
  product-parts (Access n vars ∷ factors) u h e =
      ap (λ (x : List ℕ). (value_at (tensor_at stored n) x * product p es loops u factors) % 2 ^ 64) (h.0.at u e)
      ∙ access_times (2 ^ 64) (value_at (tensor_at stored n) (keep (mask_of loops vars) u)) (literals_of factors)
      (product_of (operands_of stored loops factors) u) (product p es loops u factors) (product-parts factors u h.1 e)
  product-parts (Literal n ∷ factors) u h e =
      literal_times (2 ^ 64) n (literals_of factors) (product_of (operands_of stored loops factors) u) (product p es loops u factors) (product-parts factors u h e)

  -- a tuple is stored where the accesses are
  pub stored-parts : (factors : List Factor) (u : List ℕ) → AllPlaced p es t factors → length u ≡ length (loops_of p t)
      → list_all (stored_at p es (loops_of p t) u) factors
      ≡ list_all (λ a. is_stored a.tensor (restricted a u)) (operands_of (stored_of p.tensors es) (loops_of p t) factors)
  stored-parts [] u h e = refl
  stored-parts (Access n vars ∷ factors) u h e =
      ap (λ (x : List ℕ). is_stored (tensor_at stored n) x && list_all (stored_at p es loops u) factors) (h.0.at u e)
      ∙ ap (λ b. is_stored (tensor_at stored n) (keep (mask_of loops vars) u) && b) (stored-parts factors u h.1 e)
  stored-parts (Literal n ∷ factors) u h e = stored-parts factors u h e

-- ---- the value of a term

-- the number of a term with its sign, modulo 2^64
abbrev pub signed_number : Bool → ℕ → ℕ
signed_number minus n = cond minus ((2 ^ 64 - n) % 2 ^ 64) n

-- the term's tuples at x, and whether one of them is stored
abbrev pub has_stored : Program → List Entries → List ℕ → Term → Bool
has_stored p es x t = list_any (λ u. list_all (stored_at p es (loops_of p t) u) t.factors) (tuples_of p es t x)

times_coefficient : (m l q : ℕ) → ((1 * l) % m * q) % m ≡ (l * q) % m
times_coefficient m l q = mod-mul-mod m (1 * l) q ∙ ap (λ (n : ℕ). (n * q) % m) (one-mul l)

times_negative : (m k l q : ℕ) → ((k * l) % m * q) % m ≡ (k * (l * q)) % m
times_negative m k l q = mod-mul-mod m (k * l) q ∙ ap (λ (n : ℕ). n % m) (mul_assoc k l q)

-- the sum of a term's products at x, with the sign that its coefficient has
pub whole-total : (p : Program) (es : List Entries) (first : Bool) (t : Term) (x : List ℕ) → AllPlaced p es t t.factors
    → total (whole_product (term_data p es first t)) (fill (loop_list p t) x) % 2 ^ 64 ≡ signed_number (first && t.minus) (term_at p es t x)
whole-total p es first t x h = by_case (first && t.minus)
  where
    long : Each (λ u. length u ≡ length (loops_of p t)) (fill (loop_list p t) x)
    long =
        Each-imp (λ u. length u ≡ length (loop_list p t)) (λ u. length u ≡ length (loops_of p t))
        (λ u e. e ∙ length-map (loops_of p t) (λ v. (slice_index p.var_sizes v, is_in v p.left))) (fill (loop_list p t) x) (fill-length (loop_list p t) x)

    by_case : (b : Bool)
        → total (λ u. ((cond b (2 ^ 64 - 1) 1 * literals_of t.factors) % 2 ^ 64 * product_of (operands_of (stored_of p.tensors es) (loops_of p t) t.factors) u) % 2 ^ 64)
        (fill (loop_list p t) x) % 2 ^ 64
        ≡ signed_number b (term_at p es t x)
    by_case false =
        ap (λ (n : ℕ). n % 2 ^ 64)
        (total-ext-each (λ u. length u ≡ length (loops_of p t))
        (λ u. ((1 * literals_of t.factors) % 2 ^ 64 * product_of (operands_of (stored_of p.tensors es) (loops_of p t) t.factors) u) % 2 ^ 64)
        (λ u. product p es (loops_of p t) u t.factors)
        (λ u e.
        times_coefficient (2 ^ 64) (literals_of t.factors) (product_of (operands_of (stored_of p.tensors es) (loops_of p t) t.factors) u)
        ∙ sym (product-parts p es t t.factors u h e))
        (fill (loop_list p t) x) long)
    by_case true =
        ap (λ (n : ℕ). n % 2 ^ 64)
        (total-ext-each (λ u. length u ≡ length (loops_of p t))
        (λ u. (((2 ^ 64 - 1) * literals_of t.factors) % 2 ^ 64 * product_of (operands_of (stored_of p.tensors es) (loops_of p t) t.factors) u) % 2 ^ 64)
        (λ u. ((2 ^ 64 - 1) * (literals_of t.factors * product_of (operands_of (stored_of p.tensors es) (loops_of p t) t.factors) u)) % 2 ^ 64)
        (λ u e. times_negative (2 ^ 64) (2 ^ 64 - 1) (literals_of t.factors) (product_of (operands_of (stored_of p.tensors es) (loops_of p t) t.factors) u))
        (fill (loop_list p t) x) long)
        ∙ total-mod (2 ^ 64) (λ u. (2 ^ 64 - 1) * (literals_of t.factors * product_of (operands_of (stored_of p.tensors es) (loops_of p t) t.factors) u)) (fill (loop_list p t) x)
        ∙ ap (λ (n : ℕ). n % 2 ^ 64)
        (total-times (2 ^ 64 - 1) (λ u. literals_of t.factors * product_of (operands_of (stored_of p.tensors es) (loops_of p t) t.factors) u) (fill (loop_list p t) x))
        ∙ negative (2 ^ 64 - 1) (total (λ u. literals_of t.factors * product_of (operands_of (stored_of p.tensors es) (loops_of p t) t.factors) u) (fill (loop_list p t) x))
        ∙ ap (λ (n : ℕ). (2 ^ 64 - n) % 2 ^ 64)
        (sym (total-mod (2 ^ 64) (λ u. literals_of t.factors * product_of (operands_of (stored_of p.tensors es) (loops_of p t) t.factors) u) (fill (loop_list p t) x))
        ∙ ap (λ (n : ℕ). n % 2 ^ 64)
        (total-ext-each (λ u. length u ≡ length (loops_of p t))
        (λ u. (literals_of t.factors * product_of (operands_of (stored_of p.tensors es) (loops_of p t) t.factors) u) % 2 ^ 64)
        (λ u. product p es (loops_of p t) u t.factors) (λ u e. sym (product-parts p es t t.factors u h e)) (fill (loop_list p t) x) long))

pub stored-some : (p : Program) (es : List Entries) (first : Bool) (t : Term) (x : List ℕ) → AllPlaced p es t t.factors
    → list_any (all_stored (term_data p es first t)) (fill (loop_list p t) x) ≡ has_stored p es x t
stored-some p es first t x h =
    list_any-ext-each (λ u. length u ≡ length (loop_list p t)) (all_stored (term_data p es first t)) (λ u. list_all (stored_at p es (loops_of p t) u) t.factors)
    (λ u e. sym (stored-parts p es t t.factors u h (e ∙ length-map (loops_of p t) (λ v. (slice_index p.var_sizes v, is_in v p.left)))))
    (fill (loop_list p t) x) (fill-length (loop_list p t) x)

-- the value of a term where all loops that aren't on the left are summed over
pub term-value : (p : Program) (es : List Entries) (first : Bool) (t : Term) (x : List ℕ) → AllPlaced p es t t.factors
    → value_term (term_data p es first t) x ≡ cond (has_stored p es x t) (Some (signed_number (first && t.minus) (term_at p es t x))) None
term-value p es first t x h =
    term-law (term_data p es first t) x
    ∙ ap (λ b. cond b (Some (total (whole_product (term_data p es first t)) (fill (loop_list p t) x) % 2 ^ 64)) None) (stored-some p es first t x h)
    ∙ ap (λ (n : ℕ). cond (has_stored p es x t) (Some n) None) (whole-total p es first t x h)

-- ---- a term where nothing is stored

product_unstored : (p : Program) (es : List Entries) (ls u : List ℕ) (factors : List Factor) → list_all (stored_at p es ls u) factors ≡ false
    → product p es ls u factors ≡ 0
product_unstored p es ls u [] h = absurd (cc)
product_unstored p es ls u (Access n vars ∷ factors) h =
    by_case (is_stored (tensor_at (stored_of p.tensors es) n) (access_place p ls u n vars)) refl h (product_unstored p es ls u factors)
  where
    by_case : (b : Bool) → is_stored (tensor_at (stored_of p.tensors es) n) (access_place p ls u n vars) ≡ b
        → (b && list_all (stored_at p es ls u) factors) ≡ false
        → (list_all (stored_at p es ls u) factors ≡ false → product p es ls u factors ≡ 0)
        → (value_at (tensor_at (stored_of p.tensors es) n) (access_place p ls u n vars) * product p es ls u factors) % 2 ^ 64 ≡ 0
    by_case true e k r =
        ap (λ (m : ℕ). (value_at (tensor_at (stored_of p.tensors es) n) (access_place p ls u n vars) * m) % 2 ^ 64) (r k)
        ∙ ap (λ (m : ℕ). m % 2 ^ 64) (mul-zero (value_at (tensor_at (stored_of p.tensors es) n) (access_place p ls u n vars)))
    by_case false e k r =
        ap (λ (m : ℕ). (m * product p es ls u factors) % 2 ^ 64) (value-unstored (tensor_at (stored_of p.tensors es) n) (access_place p ls u n vars) e)
        ∙ ap (λ (m : ℕ). m % 2 ^ 64) (zero-mul (product p es ls u factors))
product_unstored p es ls u (Literal n ∷ factors) h =
    ap (λ (m : ℕ). (n * m) % 2 ^ 64) (product_unstored p es ls u factors h) ∙ ap (λ (m : ℕ). m % 2 ^ 64) (mul-zero n)

-- the signed number of a term at x
abbrev pub number_of : Program → List Entries → List ℕ → Term → ℕ
number_of p es x t = signed_number t.minus (term_at p es t x)

signed_zero : (b : Bool) (n : ℕ) → n ≡ 0 → signed_number b n ≡ 0
signed_zero true n h = ap (λ (m : ℕ). (2 ^ 64 - m) % 2 ^ 64) h
signed_zero false n h = h

number_unstored : (p : Program) (es : List Entries) (x : List ℕ) (t : Term) → has_stored p es x t ≡ false → number_of p es x t ≡ 0
number_unstored p es x t h =
    signed_zero t.minus (term_at p es t x)
    (ap (λ (n : ℕ). n % 2 ^ 64)
    (nothing-passes (λ u. list_all (stored_at p es (loops_of p t) u) t.factors) (λ u. product p es (loops_of p t) u t.factors)
    (λ u e. product_unstored p es (loops_of p t) u t.factors e) (fill (loop_list p t) x) h))

number_small : (b : Bool) (m : ℕ) → signed_number b (m % 2 ^ 64) % 2 ^ 64 ≡ signed_number b (m % 2 ^ 64)
number_small true m = mod-mod (2 ^ 64 - m % 2 ^ 64) (2 ^ 64)
number_small false m = mod-mod m (2 ^ 64)

-- ---- all terms

abbrev pub EachPlaced : Program → List Entries → List Term → Type 0
EachPlaced p es ts = Each (λ t. AllPlaced p es t t.factors) ts

further_signed : (b has : Bool) (n : ℕ) → cond b (negated (cond has (Some n) None)) (cond has (Some n) None) ≡ cond has (Some (signed_number b n)) None
further_signed true true n = refl
further_signed true false n = refl
further_signed false true n = refl
further_signed false false n = refl

further_values : (p : Program) (es : List Entries) (x : List ℕ) (ts : List Term) → EachPlaced p es ts
    → map (λ s. signed s x) (map (further_summand p es) ts) ≡ map (where_passes (has_stored p es x) (number_of p es x)) ts
further_values p es x [] h = refl
further_values p es x (t ∷ ts) h =
    let here : signed (further_summand p es t) x ≡ where_passes (has_stored p es x) (number_of p es x) t =
    ap (λ (o : Leaf). cond t.minus (negated o) o) (term-value p es false t x h.0) ∙ further_signed t.minus (has_stored p es x t) (term_at p es t x)
    in
    rw (here, further_values p es x ts h.1) refl

all_values : (p : Program) (es : List Entries) (x : List ℕ) (ts : List Term) → EachPlaced p es ts
    → map (λ s. signed s x) (summands_of p es ts) ≡ map (where_passes (has_stored p es x) (number_of p es x)) ts
all_values p es x [] h = refl
all_values p es x (t ∷ ts) h =
    let here : value_term (term_data p es true t) x ≡ where_passes (has_stored p es x) (number_of p es x) t = term-value p es true t x h.0 in
    rw (here, further_values p es x ts h.1) refl

with_sign : (b : Bool) (n m : ℕ) → (cond b (2 ^ 64 - n) n + m) % 2 ^ 64 ≡ (signed_number b n + m) % 2 ^ 64
with_sign true n m = sym (mod-add-mod (2 ^ 64 - n) (2 ^ 64) m)
with_sign false n m = refl

pub signed-total : (p : Program) (es : List Entries) (ts : List Term) (x : List ℕ) → signed_terms p es ts x ≡ total (number_of p es x) ts % 2 ^ 64
signed-total p es [] x = refl
signed-total p es (t ∷ ts) x =
    with_sign t.minus (term_at p es t x) (signed_terms p es ts x)
    ∙ ap (λ (n : ℕ). (number_of p es x t + n) % 2 ^ 64) (signed-total p es ts x)
    ∙ add-mod-mod (number_of p es x t) (total (number_of p es x) ts) (2 ^ 64)

-- the value of the join of these terms, at x
pub terms-value : (p : Program) (es : List Entries) (ts : List Term) (x : List ℕ) → EachPlaced p es ts
    → (join_of (summands_of p es ts)).value x ≡ cond (list_any (has_stored p es x) ts) (Some (signed_terms p es ts x)) None
terms-value p es ts x h =
    ap sum_there (all_values p es x ts h)
    ∙ sum-passes (has_stored p es x) (number_of p es x) (number_unstored p es x)
    (λ t. number_small t.minus (total (λ u. product p es (loops_of p t) u t.factors) (fill (loop_list p t) x))) ts
    ∙ ap (λ (n : ℕ). cond (list_any (has_stored p es x) ts) (Some n) None) (sym (signed-total p es ts x))

each_placed : (p : Program) (es : List Entries) (ts : List Term) → accepted p ≡ true → length es ≡ length p.tensors
    → list_all (term_fits p.tensors p.var_sizes p.left) ts ≡ true → EachPlaced p es ts
each_placed p es [] h e k = tt
each_placed p es (t ∷ ts) h e k =
    let f = and_parts (term_fits p.tensors p.var_sizes p.left t) (list_all (term_fits p.tensors p.var_sizes p.left) ts) k in
    (term-placed p es t h f.0 e, each_placed p es ts h e f.1)

pub accepted-placed : (p : Program) (es : List Entries) → accepted p ≡ true → length es ≡ length p.tensors → EachPlaced p es p.terms
accepted-placed p es h e = each_placed p es p.terms h e (accepted-terms p h)

-- the join of all terms has the number that the program denotes, where x is in its pattern
pub join-denotes : (p : Program) (es : List Entries) (x : List ℕ) → accepted p ≡ true → length es ≡ length p.tensors
    → (join_of (summands p es)).value x ≡ cond (pat p es x) (Some (den p es x)) None
join-denotes p es x h e = terms-value p es p.terms x (accepted-placed p es h e)

-- so has the tree of the only term of a program
pub term-denotes : (p : Program) (es : List Entries) (t : Term) (x : List ℕ) → accepted p ≡ true → length es ≡ length p.tensors → p.terms ≡ t ∷ []
    → value_term (term_data p es true t) x ≡ cond (pat p es x) (Some (den p es x)) None
term-denotes p es t x h e k =
    sym (plus-none (value_term (term_data p es true t) x)) ∙ ap (λ ts. (join_of (summands_of p es ts)).value x) (sym k) ∙ join-denotes p es x h e
