-- Numbers and presence are lawful.
use Rattle.std.specs.Prelude.{◌≡◌, ◌<◌, ◌≤◌, ℕ, zero, suc, ◌*◌, Bool, true, false, ◌&&◌, ◌||◌, List, [], ◌∷◌, length, slice_index, nat_le, refl}
use Rattle.std.specs.List.{list_all}
use Rattle.std.proofs.Common.{arith, ◌∙◌, ap, mul-suc, mul-add, mul_assoc}
use Rattle.std.proofs.Math.Nat.{mul_comm}
use Rattle.std.proofs.lemmas.Bool.{and_parts, leb-true}
use Rattle.sam_model.specs.Expressions.{sum_first, number_values, presence_values}
use Rattle.sam_model.proofs.Lists.{or-false}
use Rattle.expand.proofs.ValueLaws.{AreLawful}

number_constant : (n a : ℕ) → sum_first number_values n (λ v. a) ≡ a * n
number_constant zero a = omega arith
number_constant (suc n) a = let h = number_constant n a in let e = mul-suc a n in omega (arith, h, e)

pub number-lawful : (sizes : List ℕ) → AreLawful number_values sizes
number-lawful sizes = record {
  add_none = λ a. omega arith;
  none_add = λ a. omega arith;
  add_assoc = λ a b c. omega arith;
  add_comm = λ a b. omega arith;
  one_mul = λ a. omega arith;
  none_mul = λ a. omega arith;
  mul_assoc = mul_assoc;
  mul_comm = mul_comm;
  mul_add = mul-add;
  constant = λ k inside a. number_constant (slice_index sizes k) a;
}

presence_constant : (n : ℕ) (a : Bool) → 0 < n → sum_first presence_values n (λ v. a) ≡ (a && true)
presence_constant zero a h = absurd (omega (arith, h))
presence_constant (suc zero) a h = by_case a
  where
    by_case : (a : Bool) → (false || a) ≡ (a && true)
    by_case true = refl
    by_case false = refl
presence_constant (suc (suc n)) a h = ap (λ b. b || a) (presence_constant (suc n) a (omega arith)) ∙ by_case a
  where
    by_case : (a : Bool) → ((a && true) || a) ≡ (a && true)
    by_case true = refl
    by_case false = refl

-- no size is 0
size_some : (sizes : List ℕ) (k : ℕ) → list_all (nat_le 1) sizes ≡ true → k < length sizes → 0 < slice_index sizes k
size_some [] k h l = absurd (omega (arith, l))
size_some (s ∷ sizes) zero h l = let e : 1 ≤ s = leb-true 1 s (and_parts (nat_le 1 s) (list_all (nat_le 1) sizes) h).0 in omega (arith, e)
size_some (s ∷ sizes) (suc k) h l = size_some sizes k (and_parts (nat_le 1 s) (list_all (nat_le 1) sizes) h).1 (omega (arith, l))

-- where no size is 0
pub presence-lawful : (sizes : List ℕ) → list_all (nat_le 1) sizes ≡ true → AreLawful presence_values sizes
presence-lawful sizes some = record {
  add_none = λ a. refl;
  none_add = or-false;
  add_assoc = or_assoc;
  add_comm = or_comm;
  one_mul = λ a. refl;
  none_mul = λ a. refl;
  mul_assoc = and_assoc;
  mul_comm = and_comm;
  mul_add = and_or;
  constant = λ k inside a. presence_constant (slice_index sizes k) a (size_some sizes k some inside);
}
  where
    or_assoc : (a b c : Bool) → ((a || b) || c) ≡ (a || (b || c))
    or_assoc true b c = refl
    or_assoc false b c = refl

    or_comm : (a b : Bool) → (a || b) ≡ (b || a)
    or_comm true true = refl
    or_comm true false = refl
    or_comm false true = refl
    or_comm false false = refl

    and_assoc : (a b c : Bool) → ((a && b) && c) ≡ (a && (b && c))
    and_assoc true b c = refl
    and_assoc false b c = refl

    and_comm : (a b : Bool) → (a && b) ≡ (b && a)
    and_comm true true = refl
    and_comm true false = refl
    and_comm false true = refl
    and_comm false false = refl

    and_or : (a b c : Bool) → (a && (b || c)) ≡ ((a && b) || (a && c))
    and_or true b c = refl
    and_or false b c = refl
