-- The blocks that are assembled for a graph have its blocks' kinds, in order.
use Rattle.std.specs.Prelude.{◌≡◌, ℕ, zero, suc, List, [], ◌∷◌, length, map, slice_get, slice_index_or, Some, refl, Result, Ok, Err, IfOk}
use Rattle.std.proofs.Common.{arith, ap₂}
use denote.Struct.Props.{props}
use Rattle.sam_model.specs.Children.{Ranked}
use Rattle.graph.specs.declared.graphs.Kind.{Kind}
use Rattle.graph.specs.declared.graphs.Kind.TheVariants.{Scan, Array}
use Rattle.graph.specs.Assembly.{KindInRange}

pub in-range-prop : (storages : List Ranked) (k : Kind) → IsProp (KindInRange storages k)
in-range-prop storages (Scan tensor level) = hlevel props
in-range-prop storages (Array tensor) = hlevel props
in-range-prop storages other = hlevel

module _ {A B C : Type 0} (f : A → C) (g : B → C) (other : B) where
  -- lists of one length whose elements have the same image, place by place
  pub maps-agree : (xs : List A) (ys : List B) → length xs ≡ length ys
      → ((i : ℕ) (x : A) → slice_get xs i ≡ Some x → f x ≡ g (slice_index_or ys i other)) → map f xs ≡ map g ys
  maps-agree [] [] same each = refl
  maps-agree [] (y ∷ ys) same each = absurd (omega (arith, same))
  maps-agree (x ∷ xs) [] same each = absurd (omega (arith, same))
  maps-agree (x ∷ xs) (y ∷ ys) same each =
      ap₂ (λ (c : C) (cs : List C). c ∷ cs) (each 0 x refl) (maps-agree xs ys (omega (arith, same)) (λ i z at. each (suc i) z at))

-- what two facts of a result give
pub ok-both : {T E : Type 0} (r : Result T E) (P Q R : T → Type 0) → IfOk r P → IfOk r Q → ((x : T) → P x → Q x → R x) → IfOk r R
ok-both (Ok x) P Q R p q both = both x p q
ok-both (Err e) P Q R p q both = tt
