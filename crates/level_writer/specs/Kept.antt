-- What the writers keep: with what the tokens that are left still bring, it is what is written of the whole stream.
use Rattle.std.specs.Prelude.{◌≡◌, ◌||◌, ℕ, suc, Bool, true, false, cond, eqb, List, [], ◌∷◌, ◌++◌, length}
use Rattle.stream_tokens.specs.declared.Token.{Token}
use Rattle.stream_tokens.specs.declared.Token.TheVariants.{Item, Empty, Stop, Done}
use Rattle.block_core.specs.Move.{Move, takes}
use Rattle.block_core.specs.Written.{items_in, segs_of, crds_of, vals_of}
use Rattle.block_core.specs.Runs.{Runs}
use Rattle.level_writer.specs.WriterSteps.{writer_steps}

-- whether the fiber at hand has an item, after a token
abbrev pub filled_by : Bool → Token → Bool
filled_by filled (Item x) = true
filled_by filled Empty = filled
filled_by filled (Stop n) = false
filled_by filled Done = filled

-- the segments that some tokens bring after `count` items, where a fiber ends: each at the first level, and else those
-- that have an item
abbrev pub ends_after : Bool → Bool → ℕ → List Token → List ℕ
ends_after first filled count [] = []
ends_after first filled count (Item x ∷ s) = ends_after first true (suc count) s
ends_after first filled count (Empty ∷ s) = ends_after first filled count s
ends_after first filled count (Stop n ∷ s) =
    cond (filled || first) (count ∷ ends_after first false count s) (ends_after first false count s)
ends_after first filled count (Done ∷ s) = ends_after first filled count s

-- The following speak of the whole stream s, and of the moves that are left.
pub record KeepsValues (vals : List ℕ) (ended : Bool) (s : List Token) (rest : List Move) : Type 0 where
  pub runs : Runs writer_steps ended rest
  pub kept : vals ++ items_in (takes 0 rest) ≡ vals_of s

pub record KeepsLevel (level : ℕ) (segs crds : List ℕ) (filled ended : Bool) (s : List Token) (rest : List Move) : Type 0 where
  pub runs : Runs writer_steps ended rest
  pub crds_kept : crds ++ items_in (takes 0 rest) ≡ crds_of s
  pub segs_kept : segs ++ ends_after (eqb level 1) filled (length crds) (takes 0 rest) ≡ segs_of level s
