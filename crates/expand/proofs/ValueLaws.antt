-- The laws that values obey, and sums of values.
use Rattle.std.specs.Prelude.{◌≡◌, ◌<◌, ℕ, zero, suc, ◌+◌, List, length, slice_index, refl}
use Rattle.std.proofs.Common.{sym, ◌∙◌, ap, ap₂}
use Rattle.std.proofs.Math.Nat.{suc-add, zero-add}
use Rattle.sam_model.specs.Expressions.{Values, sum_first}

-- addition and multiplication are lawful, and the sum of one value for each number below a size is that value times the size
pub record AreLawful {R : Type 0} (o : Values R) (sizes : List ℕ) : Type 0 where
  pub add_none : (a : R) → o.add o.none a ≡ a
  pub none_add : (a : R) → o.add a o.none ≡ a
  pub add_assoc : (a b c : R) → o.add (o.add a b) c ≡ o.add a (o.add b c)
  pub add_comm : (a b : R) → o.add a b ≡ o.add b a
  pub one_mul : (a : R) → o.mul o.one a ≡ a
  pub none_mul : (a : R) → o.mul o.none a ≡ o.none
  pub mul_assoc : (a b c : R) → o.mul (o.mul a b) c ≡ o.mul a (o.mul b c)
  pub mul_comm : (a b : R) → o.mul a b ≡ o.mul b a
  pub mul_add : (a b c : R) → o.mul a (o.add b c) ≡ o.add (o.mul a b) (o.mul a c)
  pub constant : (k : ℕ) → k < length sizes → (a : R) → sum_first o (slice_index sizes k) (λ v. a) ≡ o.mul a (o.literal (slice_index sizes k))

module _ {R : Type 0} (o : Values R) where
  pub sum-same : (n : ℕ) (f g : ℕ → R) → ((v : ℕ) → f v ≡ g v) → sum_first o n f ≡ sum_first o n g
  sum-same zero f g h = refl
  sum-same (suc n) f g h = ap₂ o.add (sum-same n f g h) (h n)

  -- a value whose sign is turned n times
  abbrev pub turned_times : ℕ → R → R
  turned_times zero a = a
  turned_times (suc n) a = o.mul o.minus (turned_times n a)

module _ {R : Type 0} (o : Values R) (sizes : List ℕ) (laws : AreLawful o sizes) where
  pub mul-none : (a : R) → o.mul a o.none ≡ o.none
  mul-none a = laws.mul_comm a o.none ∙ laws.none_mul a

  pub mul-one : (a : R) → o.mul a o.one ≡ a
  mul-one a = laws.mul_comm a o.one ∙ laws.one_mul a

  pub add-mul : (a b c : R) → o.mul (o.add a b) c ≡ o.add (o.mul a c) (o.mul b c)
  add-mul a b c = laws.mul_comm (o.add a b) c ∙ laws.mul_add c a b ∙ ap₂ o.add (laws.mul_comm c a) (laws.mul_comm c b)

  pub sum-scaled : (c : R) (n : ℕ) (f : ℕ → R) → sum_first o n (λ v. o.mul c (f v)) ≡ o.mul c (sum_first o n f)
  sum-scaled c zero f = sym (mul-none c)
  sum-scaled c (suc n) f = ap (λ a. o.add a (o.mul c (f n))) (sum-scaled c n f) ∙ sym (laws.mul_add c (sum_first o n f) (f n))

  mixed : (a b c d : R) → o.add (o.add a b) (o.add c d) ≡ o.add (o.add a c) (o.add b d)
  mixed a b c d =
      laws.add_assoc a b (o.add c d)
      ∙ ap (o.add a) (sym (laws.add_assoc b c d) ∙ ap (λ x. o.add x d) (laws.add_comm b c) ∙ laws.add_assoc c b d)
      ∙ sym (laws.add_assoc a c (o.add b d))

  pub sum-added : (n : ℕ) (f g : ℕ → R) → sum_first o n (λ v. o.add (f v) (g v)) ≡ o.add (sum_first o n f) (sum_first o n g)
  sum-added zero f g = sym (laws.add_none o.none)
  sum-added (suc n) f g =
      ap (λ a. o.add a (o.add (f n) (g n))) (sum-added n f g) ∙ mixed (sum_first o n f) (sum_first o n g) (f n) (g n)

  pub sum-none : (n : ℕ) → sum_first o n (λ v. o.none) ≡ o.none
  sum-none zero = refl
  sum-none (suc n) = laws.none_add (sum_first o n (λ v. o.none)) ∙ sum-none n

  -- two sums change places
  pub exchanged : (n m : ℕ) (f : ℕ → ℕ → R) → sum_first o n (λ v. sum_first o m (f v)) ≡ sum_first o m (λ w. sum_first o n (λ v. f v w))
  exchanged zero m f = sym (sum-none m)
  exchanged (suc n) m f =
      ap (λ a. o.add a (sum_first o m (f n))) (exchanged n m f) ∙ sym (sum-added m (λ w. sum_first o n (λ v. f v w)) (f n))

  -- ---- signs

  pub turned-add : (n : ℕ) (a b : R) → turned_times o n (o.add a b) ≡ o.add (turned_times o n a) (turned_times o n b)
  turned-add zero a b = refl
  turned-add (suc n) a b = ap (o.mul o.minus) (turned-add n a b) ∙ laws.mul_add o.minus (turned_times o n a) (turned_times o n b)

  -- a factor before or after the turning
  pub turned-mul : (n : ℕ) (a b : R) → turned_times o n (o.mul a b) ≡ o.mul (turned_times o n a) b
  turned-mul zero a b = refl
  turned-mul (suc n) a b = ap (o.mul o.minus) (turned-mul n a b) ∙ sym (laws.mul_assoc o.minus (turned_times o n a) b)

  -- the signs of a product
  pub turned-both : (m n : ℕ) (a b : R) → turned_times o (m + n) (o.mul a b) ≡ o.mul (turned_times o m a) (turned_times o n b)
  turned-both zero n a b =
      ap (λ (k : ℕ). turned_times o k (o.mul a b)) (zero-add n)
      ∙ ap (turned_times o n) (laws.mul_comm a b) ∙ turned-mul n b a ∙ laws.mul_comm (turned_times o n b) a
  turned-both (suc m) n a b =
      ap (λ (k : ℕ). turned_times o k (o.mul a b)) (suc-add m n)
      ∙ ap (o.mul o.minus) (turned-both m n a b) ∙ sym (laws.mul_assoc o.minus (turned_times o m a) (turned_times o n b))

  -- a sum of turned values
  pub sum-turned : (t n : ℕ) (f : ℕ → R) → sum_first o n (λ v. turned_times o t (f v)) ≡ turned_times o t (sum_first o n f)
  sum-turned zero n f = refl
  sum-turned (suc t) n f =
      sum-scaled o.minus n (λ v. turned_times o t (f v)) ∙ ap (o.mul o.minus) (sum-turned t n f)
