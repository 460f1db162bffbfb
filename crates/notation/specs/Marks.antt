-- Marks: tokens of which a statement tells some places.
use Rattle.std.specs.Prelude.{◌≡◌, ℕ, List, [], ◌∷◌, ◌++◌, Option, Some, None, IfSome}
use Rattle.notation.specs.declared.tokens.Token.{Token}
use Rattle.notation.specs.declared.tokens.Token.TheVariants as t
use Rattle.notation.specs.declared.tokens.Placed.{Placed}
use Rattle.notation.specs.declared.statement.AccessText.{AccessText}

-- a token, and where it stands if the statement tells that
pub record Mark : Type 0 where
  pub token : Token
  pub place : Option ℕ

abbrev pub bare_mark : Token → Mark
bare_mark token = record { token = token; place = None }

abbrev pub placed_mark : Token → ℕ → Mark
placed_mark token place = record { token = token; place = Some place }

-- all of them, with a mark between
abbrev pub separated : {A : Type 0} → Mark → (A → List Mark) → List A → List Mark
separated between f [] = []
separated between f (x ∷ []) = f x
separated between f (x ∷ y ∷ ys) = f x ++ between ∷ separated between f (y ∷ ys)

abbrev pub var : List ℕ → List Mark
var v = bare_mark (t.Name v) ∷ []

abbrev pub variables : List (List ℕ) → List Mark
variables [] = []
variables (v ∷ vs) = bare_mark t.Open ∷ (separated (bare_mark t.Comma) var (v ∷ vs) ++ bare_mark t.Close ∷ [])

abbrev pub name : AccessText → Mark
name a = placed_mark (t.Name a.name) a.place

abbrev pub access_marks : AccessText → List Mark
access_marks a = name a ∷ variables a.vars

-- the tokens are those of the marks, in order
abbrev pub At : Placed → Mark → Type 0
At x m = (x.token ≡ m.token) × IfSome m.place (λ p. x.place ≡ p)

abbrev pub Marked : List Placed → List Mark → Type 0
Marked [] [] = Unit {0}
Marked [] (m ∷ ms) = ⊥
Marked (x ∷ xs) [] = ⊥
Marked (x ∷ xs) (m ∷ ms) = At x m × Marked xs ms
