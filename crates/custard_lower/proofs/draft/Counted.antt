-- The outputs of a draft have no more readers together than there are reads.
use Rattle.std.specs.Prelude.{◌≡◌, ◌<◌, ◌≤◌, ℕ, zero, suc, ◌+◌, Bool, true, false, cond, List, [], ◌∷◌, length, eqb, refl}
use Rattle.std.specs.List.{filter, sum_by, range_with_len}
use Rattle.std.proofs.Common.{inl, inr, arith}
use Rattle.std.proofs.lemmas.Bool.{cases_eq, ne_eqb, cond-false}
use Rattle.std.proofs.lemmas.List.Sums.{sum_by-cons, sum_by-le-sum_by}
use Rattle.custard_lower.specs.declared.drafts.Made.{Made}
use Rattle.custard_lower.specs.declared.fans.Read.{Read}
use Rattle.custard_lower.specs.DraftGraph.{reads_of, readers, has_one, copies}

-- 1 where an output is that of a read
abbrev here : ℕ → ℕ → ℕ
here v w = cond (eqb v w) 1 0

abbrev of_output : ℕ → List Read → List Read
of_output w rs = filter (λ r. eqb r.output w) rs

abbrev found : List Read → ℕ → ℕ
found rs w = length (of_output w rs)

-- an output stands once in a range
none_before : (v a n : ℕ) → v < a → sum_by (here v) (range_with_len a n) ≡ 0
none_before v a zero l = refl
none_before v a (suc n) l =
    let apart : here v a ≡ 0 = cond-false (eqb v a) 1 0 (ne_eqb v a (λ e. omega (arith, e, l))) in
    omega (arith, sum_by-cons (here v) a (range_with_len (a + 1) n), apart, none_before v (a + 1) n (omega (arith, l)))

at_most_one : (b : Bool) → cond b 1 0 ≤ 1
at_most_one true = omega arith
at_most_one false = omega arith

once : (v a n : ℕ) → sum_by (here v) (range_with_len a n) ≤ 1
once v a zero = omega arith
once v a (suc n) =
    let first = sum_by-cons (here v) a (range_with_len (a + 1) n) in
    elim (cases_eq v a) [
      | inl e ↦ omega (arith, first, at_most_one (eqb v a), none_before v (a + 1) n (omega (arith, e)))
      | inr ne ↦
          let apart : here v a ≡ 0 = cond-false (eqb v a) 1 0 (ne_eqb v a ne) in
          omega (arith, first, apart, once v (a + 1) n)
    ]

found_more : (r : Read) (rs : List Read) (w : ℕ) → found (r ∷ rs) w ≡ here r.output w + found rs w
found_more r rs w = by_case (eqb r.output w)
  where
    by_case : (b : Bool) → length (cond b (r ∷ of_output w rs) (of_output w rs)) ≡ cond b 1 0 + found rs w
    by_case true = omega arith
    by_case false = omega arith

sum_of_both : (f g h : ℕ → ℕ) → ((w : ℕ) → f w ≡ g w + h w) → (ws : List ℕ) → sum_by f ws ≡ sum_by g ws + sum_by h ws
sum_of_both f g h e [] = refl
sum_of_both f g h e (w ∷ ws) =
    omega (arith, sum_by-cons f w ws, sum_by-cons g w ws, sum_by-cons h w ws, e w, sum_of_both f g h e ws)

none_found : (ws : List ℕ) → sum_by (found []) ws ≡ 0
none_found [] = refl
none_found (w ∷ ws) = omega (arith, sum_by-cons (found []) w ws, none_found ws)

all_found : (rs : List Read) (n : ℕ) → sum_by (found rs) (range_with_len 0 n) ≤ length rs
all_found [] n = omega (arith, none_found (range_with_len 0 n))
all_found (r ∷ rs) n =
    let both = sum_of_both (found (r ∷ rs)) (here r.output) (found rs) (found_more r rs) (range_with_len 0 n) in
    omega (arith, both, once r.output 0 n, all_found rs n)

copies_below : (b : Bool) (n : ℕ) → cond b 0 n ≤ n
copies_below true n = omega arith
copies_below false n = omega arith

-- so the casts have no more outputs
pub copies-within : (made : List Made) (n : ℕ) → sum_by (copies made) (range_with_len 0 n) ≤ length (reads_of made)
copies-within made n =
    let less = sum_by-le-sum_by (copies made) (found (reads_of made)) (range_with_len 0 n)
    (λ w. copies_below (has_one made w) (length (readers made w))) in
    omega (arith, less, all_found (reads_of made) n)
