-- The sums over the loops that aren't on the left, and the pruning of what has no value, as blocks.
use Rattle.std.specs.Prelude.{ℕ, zero, suc, ◌-◌, Bool, true, false, List, [], ◌∷◌, ◌++◌, length, take, get_or, set}
use Rattle.stream_model.specs.declared.labels.Label.{Label}
use Rattle.stream_model.specs.declared.labels.Attr.{Attr}
use Rattle.stream_model.specs.declared.labels.Attr.TheVariants.{Coordinate, Value}
use Rattle.graph.specs.declared.graphs.Kind.TheVariants as kind
use Rattle.custard_lower.specs.declared.drafts.Made.{Made}
pub use Rattle.custard_lower.specs.declared.reductions.Levels.{Levels}
use Rattle.label_rules.specs.Plans.{left_marks, free_marks}
use Rattle.custard_lower.specs.declared.trees.TermTrees.{TermTrees}
use Rattle.custard_lower.specs.declared.trees.PrunedTrees.{PrunedTrees}
use Rattle.custard_lower.specs.Trees.{reduced_tree, pruned_tree}
use Rattle.custard_lower.specs.Drafts.{outputs_of}

abbrev pub reduced_tree_label : TermTrees → ℕ → ℕ → Attr → Label
reduced_tree_label trees gone depth attr = record { tree = reduced_tree trees gone depth; attr = attr }

abbrev pub pruned_tree_label : PrunedTrees → ℕ → ℕ → Attr → Label
pruned_tree_label trees prune depth attr = record { tree = pruned_tree trees prune depth; attr = attr }

-- the coordinates of the k-th level, counted from 1; the root, output 0, is level 0
abbrev pub level_at : List ℕ → ℕ → ℕ
level_at coordinates zero = 0
level_at coordinates (suc k) = get_or coordinates k 0

module _ (trees : TermTrees) where
  -- ---- a loop is taken away, where `gone` are gone already and n levels are left before

  abbrev pub sum_scalar : ℕ → Levels → Made
  sum_scalar gone l =
      let n = length l.coordinates - 1 in
      record {
        kind = kind.SumScalar;
        ins = level_at l.coordinates n ∷ l.values ∷ [];
        labels = reduced_tree_label trees (suc gone) n Value ∷ [];
      }

  abbrev pub sum_vector : ℕ → Levels → Made
  sum_vector gone l =
      let n = length l.coordinates - 1 in
      record {
        kind = kind.SumVector;
        ins = level_at l.coordinates (suc n) ∷ l.values ∷ [];
        labels = reduced_tree_label trees (suc gone) n Coordinate ∷ reduced_tree_label trees (suc gone) n Value ∷ [];
      }

  abbrev pub sum_matrix : ℕ → Levels → Made
  sum_matrix gone l =
      let n = length l.coordinates - 1 in
      record {
        kind = kind.SumMatrix;
        ins = level_at l.coordinates n ∷ level_at l.coordinates (suc n) ∷ l.values ∷ [];
        labels =
            reduced_tree_label trees (suc gone) (n - 1) Coordinate
            ∷ reduced_tree_label trees (suc gone) n Coordinate
            ∷ reduced_tree_label trees (suc gone) n Value
            ∷ [];
      }

  -- the loop that is taken away has so many levels after it; what the block gives takes the place of what it takes
  abbrev pub reduce : ℕ → ℕ → Levels → Levels
  reduce gone zero l =
      record {
        made = l.made ++ sum_scalar gone l ∷ [];
        coordinates = take (length l.coordinates - 1) l.coordinates;
        values = outputs_of l.made;
      }
  reduce gone (suc zero) l =
      let w = outputs_of l.made in
      record {
        made = l.made ++ sum_vector gone l ∷ [];
        coordinates = take (length l.coordinates - 2) l.coordinates ++ w ∷ [];
        values = suc w;
      }
  reduce gone (suc (suc k)) l =
      let w = outputs_of l.made in
      record {
        made = l.made ++ sum_matrix gone l ∷ [];
        coordinates = take (length l.coordinates - 3) l.coordinates ++ w ∷ suc w ∷ [];
        values = suc (suc w);
      }

  -- all loops that aren't on the left are taken away, from the innermost outwards
  abbrev pub reduced : List Bool → Levels → Levels
  reduced [] l = l
  reduced (true ∷ marks) l = reduced marks l
  reduced (false ∷ marks) l = reduce (free_marks marks) (left_marks marks) (reduced marks l)

-- ---- what has no value is left out

module _ (trees : PrunedTrees) where
  abbrev pub drop_value : Levels → Made
  drop_value l =
      let n = length l.coordinates in
      record {
        kind = kind.DropValue;
        ins = level_at l.coordinates n ∷ l.values ∷ [];
        labels = pruned_tree_label trees n n Coordinate ∷ pruned_tree_label trees n n Value ∷ [];
      }

  abbrev pub without_values : Levels → Levels
  without_values l =
      let w = outputs_of l.made in
      record {
        made = l.made ++ drop_value l ∷ [];
        coordinates = take (length l.coordinates - 1) l.coordinates ++ w ∷ [];
        values = suc w;
      }

  -- the coordinates of level f without fiber on level f + 1
  abbrev pub drop_fiber : ℕ → Levels → Made
  drop_fiber f l = record {
    kind = kind.DropFiber;
    ins = level_at l.coordinates f ∷ level_at l.coordinates (suc f) ∷ [];
    labels = pruned_tree_label trees f f Coordinate ∷ pruned_tree_label trees f (suc f) Coordinate ∷ [];
  }

  abbrev pub without_fibers : ℕ → Levels → Levels
  without_fibers f l =
      let w = outputs_of l.made in
      record {
        made = l.made ++ drop_fiber f l ∷ [];
        coordinates = set (set l.coordinates (f - 1) w) f (suc w);
        values = l.values;
      }

  -- on level f first, and then on each level before it
  abbrev pub emptied : ℕ → Levels → Levels
  emptied zero l = l
  emptied (suc f) l = emptied f (without_fibers (suc f) l)

  abbrev pub pruned_below : ℕ → Levels → Levels
  pruned_below zero l = l
  pruned_below (suc f) l = emptied f (without_values l)

  -- a result without levels keeps its value, also where it has none
  abbrev pub pruned : Levels → Levels
  pruned l = pruned_below (length l.coordinates) l
