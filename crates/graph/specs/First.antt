-- The first place at which a rule fails.
use Rattle.std.specs.Prelude.{◌<◌, ℕ, Option, Some, None}

-- it holds at all places below n; or it fails at this one, and holds at those before
abbrev pub FailsFirst : (ℕ → Type 0) → ℕ → Option ℕ → Type 0
FailsFirst Holds n None = (i : ℕ) → i < n → Holds i
FailsFirst Holds n (Some at) = (at < n) × (Holds at → ⊥) × ((i : ℕ) → i < at → Holds i)
