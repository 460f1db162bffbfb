-- The loop of a term that is reduced next.
use Rattle.std.specs.Prelude.{◌≡◌, ◌<◌, ℕ, false, List, [], ◌∷◌, ◌++◌, length}
use Rattle.sam_model.specs.Denote.{Loop}
use Rattle.stream_model.specs.Terms.{TermData}
use Rattle.stream_model.specs.Trees.{free_count}

-- none of these loops is on the left
abbrev pub AllFree : List Loop → Type 0
AllFree [] = Unit {0}
AllFree (l ∷ loops) = (l.1 ≡ false) × AllFree loops

-- A loop of size s that isn't on the left: the loops before it are all still there, and of those after it g are not on
-- the left and are gone.
pub record Reduces (t : TermData) (before : List Loop) (s : ℕ) (after : List Loop) (g : ℕ) : Type 0 where
  pub loops_are : t.loops ≡ before ++ (s, false) ∷ after
  pub gone : free_count after ≡ g
  pub few : length t.loops < 9
