-- Sums over blocks and over channels.
use Rattle.std.specs.Prelude.{◌≡◌, ℕ, zero, suc, ◌+◌, ◌*◌, ◌<◌, ◌≤◌}
use Rattle.std.proofs.Common.{arith, refl, sym, subst, inl, inr}
use Rattle.std.proofs.lemmas.Bool.{cases_eq}
use Rattle.plays.specs.Net.{State, sum_below, raise}
use Rattle.plays.proofs.Event.{raise_here, raise_there}

pub sum_same : (n : ℕ) (f g : ℕ → ℕ) → ((x : ℕ) → x < n → g x ≡ f x) → sum_below n g ≡ sum_below n f
sum_same zero f g same = refl
sum_same (suc n) f g same =
    omega (arith, same n (omega arith), sum_same n f g (λ x l. same x (omega (arith, l))))

pub sum_no_more : (n : ℕ) (f g : ℕ → ℕ) → ((x : ℕ) → f x ≤ g x) → sum_below n f ≤ sum_below n g
sum_no_more zero f g h = omega arith
sum_no_more (suc n) f g h = let a = sum_no_more n f g h in let b = h n in omega (arith, a, b)

-- one more at one number alone
pub sum_one_more : (n c : ℕ) (f g : ℕ → ℕ) → c < n → g c ≡ suc (f c) → ((x : ℕ) → x < n → (x ≡ c → ⊥) → g x ≡ f x)
    → sum_below n g ≡ suc (sum_below n f)
sum_one_more zero c f g l one same = absurd (omega (arith, l))
sum_one_more (suc n) c f g l one same = elim (cases_eq n c) [
  | inl e ↦
      (let last : g n ≡ suc (f n) = subst (λ x. g x ≡ suc (f x)) (sym e) one in
      let others : sum_below n g ≡ sum_below n f = sum_same n f g (λ x k. same x (omega (arith, k)) (λ z. omega (arith, k, z, e))) in
      omega (arith, last, others))
  | inr other ↦
      (let last : g n ≡ f n = same n (omega arith) other in
      let more : sum_below n g ≡ suc (sum_below n f) = sum_one_more n c f g (omega (arith, l, other)) one (λ x k. same x (omega (arith, k))) in
      omega (arith, last, more))
]

-- an event is one move more
pub raise_sum : (n b : ℕ) (s : State) → b < n → sum_below n (raise b s) ≡ suc (sum_below n s)
raise_sum n b s l = sum_one_more n b s (raise b s) l (raise_here b s) (λ x _ other. raise_there b s x other)

pub sum_at_most : (n : ℕ) (f g : ℕ → ℕ) → ((x : ℕ) → x < n → f x ≤ g x) → sum_below n f ≤ sum_below n g
sum_at_most zero f g h = omega arith
sum_at_most (suc n) f g h = omega (arith, h n (omega arith), sum_at_most n f g (λ x l. h x (omega (arith, l))))

pub sum_zero : (n : ℕ) → sum_below n (λ x. 0) ≡ 0
sum_zero zero = refl
sum_zero (suc n) = omega (arith, sum_zero n)

pub sum_double : (n : ℕ) (f : ℕ → ℕ) → sum_below n (λ x. f x + f x) ≡ 2 * sum_below n f
sum_double zero f = refl
sum_double (suc n) f = omega (arith, sum_double n f)
