-- What a well formed tensor and entries in range give, place by place.
use Rattle.std.proofs.Common.{◌≡◌, ℕ, zero, suc, ◌+◌, ◌*◌, ◌^◌, ◌<◌, ◌≤◌, Bool, true, ◌&&◌, List, [], ◌∷◌, length, take, drop, get_or, eqb, ltb, leb, ap, sym, ◌∙◌, subst, arith}
use Rattle.std.specs.Prelude.{slice_index}
use Rattle.std.specs.List.{list_all}
use Rattle.std.proofs.lemmas.Bool.Decides.{nat_tests}
use Rattle.std.proofs.lemmas.List.{get_or-drop, get_or-take, length-drop}
use Rattle.std.proofs.Math.Nat.{mul_comm}
use Rattle.sam_model.specs.declared.tensors.Tensor.{Tensor}
use Rattle.sam_model.specs.declared.tensors.Entries.{Entries}
use Rattle.sam_base.specs.declared.TheConstants.{DIMENSION_MOST}
use Rattle.sam_model.specs.Accepted.{is_dimension, is_well_formed, distinct}
use Rattle.sam_model.specs.Lists.{within}
use Rattle.sam_model.specs.Tensors.{entry_list}
use Rattle.levels.specs.Matches.{IsStorable, Matches}
use Rattle.levels.proofs.Orders.{and-left, and-right}
use Rattle.levels.proofs.Steps.{within-at}
use Rattle.levels.proofs.EntryLemmas.{length-entry_list, entry-at, row-place}

all-at : {A : Type 0} (p : A → Bool) (xs : List A) (n : ℕ) (d : A) → list_all p xs ≡ true → n < length xs → p (get_or xs n d) ≡ true
all-at p [] n d h l = absurd (omega arith)
all-at p (x ∷ xs) zero d h l = and-left (p x) (list_all p xs) h
all-at p (x ∷ xs) (suc n) d h l = all-at p xs n d (and-right (p x) (list_all p xs) h) (omega arith)

at-most : (m n : ℕ) → leb m n ≡ true → m ≤ n
at-most m n h = grind (arith, nat_tests)

below-by : (m n : ℕ) → ltb m n ≡ true → m < n
below-by m n h = grind (arith, nat_tests)

same-by : (m n : ℕ) → eqb m n ≡ true → m ≡ n
same-by m n h = grind (arith, nat_tests)

in-range : (d : ℕ) → (leb 1 d && leb d DIMENSION_MOST) ≡ true → d < 2 ^ 31
in-range d h = let a = at-most d DIMENSION_MOST (and-right (leb 1 d) (leb d DIMENSION_MOST) h) in omega arith

pub storable : (t : Tensor) → is_well_formed t ≡ true → IsStorable t
storable t h =
    let rest = and-right (leb (length t.dims) 8) _ h in
    let others = and-right (list_all is_dimension t.dims) _ rest in
    let order = and-right (eqb (length t.formats) (length t.dims)) _ others in
    let more = and-right (eqb (length t.order) (length t.dims)) _ order in
    record {
      few = at-most (length t.dims) 8 (and-left (leb (length t.dims) 8) _ h);
      sizes = λ m l. in-range (get_or t.dims m 0) (all-at is_dimension t.dims m 0 (and-left (list_all is_dimension t.dims) _ rest) l);
      formats = same-by (length t.formats) (length t.dims) (and-left (eqb (length t.formats) (length t.dims)) _ others);
      levels = same-by (length t.order) (length t.dims) (and-left (eqb (length t.order) (length t.dims)) _ order);
      modes = λ k l. below-by (get_or t.order k 0) (length t.dims) (all-at (λ m. ltb m (length t.dims)) t.order k 0 (and-left (list_all (λ m. ltb m (length t.dims)) t.order) (distinct t.order) more) l);
    }

pub matches : (t : Tensor) (e : Entries) → e.arity ≡ length t.dims → length e.coords ≡ e.arity * length e.values
    → list_all (λ entry. within t.dims entry.0) (entry_list e.arity e.coords e.values) ≡ true → Matches t e
matches t e arity whole inside =
    let turned : length e.coords ≡ length e.values * e.arity = whole ∙ mul_comm e.arity (length e.values) in
    record {
      arity = arity;
      coordinates = turned;
      within = λ n m h l. at n m h l turned;
    }
  where
    long : (n : ℕ) → n < length e.values → length e.coords ≡ length e.values * e.arity → (m : ℕ) → m < e.arity → m < length (take e.arity (drop (n * e.arity) e.coords))
    long n h turned m l =
        let last = row-place n m e.arity (length e.values) (length e.coords) h l turned in
        let d = length-drop (n * e.arity) e.coords in
        front (drop (n * e.arity) e.coords) e.arity m l (omega arith)
      where
        front : (xs : List ℕ) (k m : ℕ) → m < k → m < length xs → m < length (take k xs)
        front xs zero m l h = absurd (omega arith)
        front [] (suc k) m l h = absurd (omega arith)
        front (x ∷ xs) (suc k) zero l h = omega arith
        front (x ∷ xs) (suc k) (suc m) l h = let r = front xs k m (omega arith) (omega arith) in omega arith

    at : (n m : ℕ) → n < length e.values → m < e.arity → length e.coords ≡ length e.values * e.arity → slice_index e.coords (n * e.arity + m) < slice_index t.dims m
    at n m h l turned =
        let there : n < length (entry_list e.arity e.coords e.values) = rw (length-entry_list e.arity e.coords e.values) h in
        let test = all-at (λ (entry : List ℕ × ℕ). within t.dims entry.0) (entry_list e.arity e.coords e.values) n ([], 0) inside there in
        let test' : within t.dims (take e.arity (drop (n * e.arity) e.coords)) ≡ true = ap (λ (entry : List ℕ × ℕ). within t.dims entry.0) (sym (entry-at e.arity e.coords e.values n ([], 0) h)) ∙ test in
        let small = within-at t.dims (take e.arity (drop (n * e.arity) e.coords)) m test' (long n h turned m l) in
        subst (λ (x : ℕ). x < slice_index t.dims m) (get_or-take e.arity (drop (n * e.arity) e.coords) m 0 l ∙ get_or-drop (n * e.arity) e.coords m 0) small
