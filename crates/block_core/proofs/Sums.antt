-- Sums of values, where a value may be absent.
use Rattle.std.proofs.Common.{◌≡◌, ℕ, ◌+◌, ◌%◌, ◌^◌, Some, None, refl, sym, ◌∙◌, ap, add_assoc, add_comm}
use Rattle.std.proofs.Math.Nat.{add-mod-mod, mod-add-mod}
use Rattle.stream_tokens.specs.Nest.{Leaf}
use Rattle.block_core.specs.Arithmetic.{combined_leaf, Plus}

pub plus-nothing : (a : Leaf) → combined_leaf Plus a None ≡ a
plus-nothing None = refl
plus-nothing (Some a) = refl

pub plus-comm : (a b : Leaf) → combined_leaf Plus a b ≡ combined_leaf Plus b a
plus-comm None b = sym (plus-nothing b)
plus-comm (Some a) None = refl
plus-comm (Some a) (Some b) = ap (λ n. Some (n % 2 ^ 64)) (add_comm a b)

numbers-assoc : (a b c m : ℕ) → ((a + b) % m + c) % m ≡ (a + (b + c) % m) % m
numbers-assoc a b c m = mod-add-mod (a + b) m c ∙ ap (λ n. n % m) (add_assoc a b c) ∙ sym (add-mod-mod a (b + c) m)

pub plus-assoc : (a b c : Leaf) → combined_leaf Plus (combined_leaf Plus a b) c ≡ combined_leaf Plus a (combined_leaf Plus b c)
plus-assoc None b c = refl
plus-assoc (Some a) None c = refl
plus-assoc (Some a) (Some b) None = refl
plus-assoc (Some a) (Some b) (Some c) = ap (λ n. Some n) (numbers-assoc a b c (2 ^ 64))
