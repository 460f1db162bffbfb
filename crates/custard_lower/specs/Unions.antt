-- The terms so far joined with one term more as blocks, level by level.
use Rattle.std.specs.Prelude.{ℕ, zero, suc, Bool, cond, List, [], ◌∷◌, ◌++◌, length, get_or, eqb}
use Rattle.stream_model.specs.declared.labels.Label.{Label}
use Rattle.stream_model.specs.declared.labels.Side.{Side}
use Rattle.stream_model.specs.declared.labels.Side.TheVariants.{Left, Right}
use Rattle.stream_model.specs.declared.labels.Attr.{Attr}
use Rattle.stream_model.specs.declared.labels.Attr.TheVariants.{Coordinate, Value, Present, SideValue, Literal}
use Rattle.stream_model.specs.declared.labels.Tree.TheVariants.{Joined, Beside}
use Rattle.graph.specs.declared.graphs.Kind.TheVariants as kind
use Rattle.custard_lower.specs.declared.drafts.Made.{Made}
pub use Rattle.custard_lower.specs.declared.unions.Part.{Part}
pub use Rattle.custard_lower.specs.declared.unions.Flank.{Flank}
pub use Rattle.custard_lower.specs.declared.unions.Front.{Front}
use Rattle.custard_lower.specs.Drafts.{outputs_of}
use Rattle.custard_lower.specs.Reductions.{Levels}

-- the join of the terms before number `last` with this term, which has so many levels
module _ (last levels : ℕ) where
  abbrev pub joined_label : ℕ → Attr → Label
  joined_label depth attr = record { tree = Joined last depth; attr = attr }

  -- ---- level k + 1

  -- on the last level the values pass beside the coordinates
  abbrev pub on_last : {A : Type 0} → ℕ → List A → List A
  on_last k xs = cond (eqb (suc k) levels) xs []

  -- a side's fibers beneath the level above, whose presence is told
  abbrev pub fill : Side → ℕ → Part → ℕ → Made
  fill side k part presence = record {
    kind = kind.Fill (length (on_last k (part.values ∷ [])));
    ins = presence ∷ get_or part.coordinates k 0 ∷ on_last k (part.values ∷ []);
    labels =
        record { tree = Beside last side (suc k); attr = Coordinate }
        ∷ on_last k (record { tree = Beside last side (suc k); attr = Value } ∷ []);
  }

  -- on the first level a side passes as it is
  abbrev pub filled : Side → ℕ → Part → ℕ → List Made → List Made
  filled side zero part presence made = made
  filled side (suc k) part presence made = made ++ fill side (suc k) part presence ∷ []

  -- a side on this level; the outputs of a block that fills it begin at w
  abbrev pub flank : Side → ℕ → Part → ℕ → Flank
  flank side zero part w = record { coordinates = get_or part.coordinates 0 0; values = part.values; tree = part.tree }
  flank side (suc k) part w = record { coordinates = w; values = suc w; tree = Beside last side (suc (suc k)) }

  -- above the last level a 1 for each coordinate tells that the side is present
  abbrev pub mark : Flank → Made
  mark f = record { kind = kind.Const 1; ins = f.coordinates ∷ []; labels = record { tree = f.tree; attr = Literal 1 } ∷ [] }

  abbrev pub marked : ℕ → Flank → List Made → List Made
  marked k f made = made ++ cond (eqb (suc k) levels) [] (mark f ∷ [])

  abbrev pub payload : ℕ → Flank → List Made → ℕ
  payload k f made = cond (eqb (suc k) levels) f.values (outputs_of made)

  abbrev pub told_attr : ℕ → Side → Attr
  told_attr k side = cond (eqb (suc k) levels) (SideValue side) (Present side)

  abbrev pub union : ℕ → List ℕ → Made
  union k ins = record {
    kind = kind.Union 1 1;
    ins = ins;
    labels = joined_label (suc k) Coordinate ∷ joined_label (suc k) (told_attr k Left) ∷ joined_label (suc k) (told_attr k Right) ∷ [];
  }

  abbrev pub joined_level : Part → Part → ℕ → Front → Front
  joined_level left right k front =
      let left_filled = filled Left k left front.told front.made in
      let both_filled = filled Right k right (suc front.told) left_filled in
      let a = flank Left k left (outputs_of front.made) in
      let b = flank Right k right (outputs_of left_filled) in
      let left_marked = marked k a both_filled in
      let both_marked = marked k b left_marked in
      let w = outputs_of both_marked in
      record {
        made = both_marked ++ union k (a.coordinates ∷ payload k a both_filled ∷ b.coordinates ∷ payload k b left_marked ∷ []) ∷ [];
        coordinates = front.coordinates ++ w ∷ [];
        told = suc w;
      }

  -- ---- all levels

  -- the first k of them, after these blocks
  abbrev pub joined_levels : List Made → Part → Part → ℕ → Front
  joined_levels made left right zero = record { made = made; coordinates = []; told = 0 }
  joined_levels made left right (suc k) = joined_level left right k (joined_levels made left right k)

  abbrev pub sum : Bool → ℕ → ℕ → Made
  sum minus a b = record { kind = cond minus kind.Sub kind.Add; ins = a ∷ b ∷ []; labels = joined_label levels Value ∷ [] }

  -- the sides' values are those that the last union tells, or the sides' own where there is no level
  abbrev pub left_values : ℕ → Part → Front → ℕ
  left_values zero left front = left.values
  left_values (suc k) left front = front.told

  abbrev pub right_values : ℕ → Part → Front → ℕ
  right_values zero right front = right.values
  right_values (suc k) right front = suc front.told

-- the terms before number `last`, left, joined with it, right, after the blocks of both
abbrev pub joined_sides : ℕ → Bool → List Made → Part → Part → Levels
joined_sides last minus made left right =
    let levels = length left.coordinates in
    let front = joined_levels last levels made left right levels in
    record {
      made = front.made ++ sum last levels minus (left_values last levels levels left front) (right_values last levels levels right front) ∷ [];
      coordinates = front.coordinates;
      values = outputs_of front.made;
    }
