-- One level more of a join.
use Rattle.std.proofs.Common.{◌≡◌, ℕ, ◌+◌, List, [], ◌∷◌, length, length-append, refl, add-one}
use Rattle.custard_lower.specs.declared.drafts.Made.{Made}
use Rattle.custard_lower.specs.Unions.{Part, Front, joined_level, joined_levels}

module _ (last levels : ℕ) (left right : Part) where
  -- k + 1 levels joined are k of them and a level more
  pub next_joined : (k : ℕ) (made : List Made)
      → joined_levels last levels made left right (k + 1)
      ≡ joined_level last levels left right k (joined_levels last levels made left right k)
  next_joined k made = rw add-one refl

  -- a level that is joined has coordinates of its own
  pub joined_counted : (k : ℕ) (front : Front)
      → length (joined_level last levels left right k front).coordinates ≡ length front.coordinates + 1
  joined_counted k front = length-append front.coordinates (_ ∷ [])
