-- What statements are, and where a text stops being the beginning of one.
use Rattle.std.specs.Prelude.{◌≡◌, ℕ, ◌≤◌, true, List, [], ◌∷◌, ◌++◌, ◌⊎◌}
use Rattle.notation.specs.declared.tokens.Token.TheVariants as t
use Rattle.notation.specs.declared.tokens.Placed.{Placed}
use Rattle.notation.specs.declared.statement.Statement.{Statement}
use Rattle.notation.specs.Refusals.{NoteRefusal}
use Rattle.notation.specs.Marks.{bare_mark, access_marks, Marked}
use Rattle.notation.specs.Forms.{ExprForm, expr_terms, expr_marks, expr_fits, expr_depth}

-- The tokens spell the statement: its right side is written in this form.
pub record Spells (xs : List Placed) (x : Statement) : Type 0 where
  pub form : ExprForm
  pub fits : expr_fits form ≡ true
  pub shallow : expr_depth form ≤ 32
  pub means : x.tops ≡ expr_terms form
  pub marked : Marked xs (access_marks x.left ++ bare_mark t.Equals ∷ expr_marks form)

-- some text of the grammar begins with these tokens
abbrev pub Viable : List Placed → Type 0
Viable xs = (more : List Placed) × (x : Statement) × Spells (xs ++ more) x

-- the place of the first of some tokens, or of the end
abbrev pub place_of : ℕ → List Placed → ℕ
place_of end [] = end
place_of end (x ∷ xs) = x.place

-- Of a token that stands at a fault the place is told; of the word `sum` where no deeper sum may begin, that of what stands behind it.
abbrev pub IsTold : ℕ → Placed → List Placed → ℕ → Type 0
IsTold end x more place = (place ≡ x.place) ⊎ ((x.token ≡ t.Sum) × (place ≡ place_of end more))

-- Up to the fault the tokens can be gone on with, and with what stands there they can't.
pub record FirstFault (end : ℕ) (xs : List Placed) (r : NoteRefusal) : Type 0 where
  pub before : List Placed
  pub viable : Viable before
  pub here :
      ((x : Placed) × (more : List Placed) × (xs ≡ before ++ x ∷ more) × IsTold end x more r.place × (Viable (before ++ x ∷ []) → ⊥))
      ⊎ ((xs ≡ before) × (r.place ≡ end) × ((s : Statement) → Spells xs s → ⊥))
