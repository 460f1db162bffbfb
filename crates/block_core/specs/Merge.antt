-- intersect and union: two sides, each coordinates with payloads, merged by their coordinates.
use Rattle.std.specs.Prelude.{◌≡◌, ◌<◌, ℕ, zero, suc, pred, ◌+◌, Bool, true, false, List, [], ◌∷◌, ◌++◌, Option, Some, None, get_or, eqb, cond, nat_lt, if◌then◌else◌}
use mathlib.Core.List.{map}
use Rattle.stream_tokens.specs.declared.Token.{Token}
use Rattle.stream_tokens.specs.declared.Token.TheVariants.{Item, Stop, Done}
use Rattle.stream_tokens.specs.Nest.{Leaf, leaf, Fiber}
use Rattle.stream_tokens.specs.Flat.{flat, fibers_of}
use Rattle.stream_tokens.specs.Shapes.{both, on_tokens}
use Rattle.block_core.specs.Move.{Move, take_row, put_row, put_all, across, columns}
use Rattle.block_core.specs.Ports.{Streams, port, ports, numbers_of}
use Rattle.block_core.specs.Gather.{gather}

-- a coordinate with its payloads
abbrev pub Head : Type 0
Head = ℕ × List Leaf

-- a fiber of each side, which close as many lists
pub record Sides : Type 0 where
  pub left : List Head
  pub right : List Head
  pub close : ℕ

-- the fibers of one side
abbrev pub left_of : Sides → Fiber Head
left_of f = (f.left, f.close)

abbrev pub right_of : Sides → Fiber Head
right_of f = (f.right, f.close)

-- the token of a head at one port of its side: first its coordinate, then its payloads
abbrev pub head_token : ℕ → Head → Token
head_token zero h = Item h.0
head_token (suc p) h = leaf (get_or h.1 p None)

-- the tokens of a head with w payloads
abbrev pub row : ℕ → Head → List Token
row w h = across (λ p. head_token p h) 0 (suc w)

-- the streams of a side whose heads have w payloads
abbrev pub side_streams : ℕ → List (Fiber Head) → List (List Token)
side_streams w fs = columns (λ p. flat (head_token p) fs) 0 (suc w)

-- ---- the heads of a side from its streams

abbrev pub bare : ℕ → Head
bare c = (c, [])

abbrev pub with_payload : List Leaf → List Head → List Head
with_payload [] hs = []
with_payload (t ∷ ts) [] = []
with_payload (t ∷ ts) (h ∷ hs) = (h.0, t ∷ h.1) ∷ with_payload ts hs

abbrev pub bundle : List (Fiber ℕ) → List (List (Fiber Leaf)) → List (Fiber Head)
bundle coordinates [] = on_tokens bare coordinates
bundle coordinates (p ∷ payloads) = both with_payload p (bundle coordinates payloads)

abbrev pub sides_of : List (Fiber Head) → List (Fiber Head) → List Sides
sides_of [] gs = []
sides_of (f ∷ fs) [] = []
sides_of (f ∷ fs) (g ∷ gs) = record { left = f.0; right = g.0; close = f.1 } ∷ sides_of fs gs

-- ports in the order of the left, then the right
abbrev pub merge_reading : ℕ → ℕ → Streams → List Sides
merge_reading l r ins =
    sides_of (bundle (numbers_of (port 0 ins)) (map fibers_of (ports 1 l ins)))
    (bundle (numbers_of (port (suc l) ins)) (map fibers_of (ports (suc (suc l)) r ins)))

abbrev pub merge_inputs : ℕ → ℕ → List Sides → Streams
merge_inputs l r j = side_streams l (map left_of j) ++ side_streams r (map right_of j)

-- ---- the coordinates of a side ascend strictly

abbrev pub Above : ℕ → List Head → Type 0
Above c [] = Unit {0}
Above c (h ∷ hs) = (c < h.0) × Above h.0 hs

abbrev pub Ascends : List Head → Type 0
Ascends [] = Unit {0}
Ascends (h ∷ hs) = Above h.0 hs

abbrev pub AllAscend : List Sides → Type 0
AllAscend [] = Unit {0}
AllAscend (f ∷ fs) = Ascends f.left × Ascends f.right × AllAscend fs

abbrev pub AllClose : List Sides → Type 0
AllClose [] = Unit {0}
AllClose (f ∷ fs) = ((k : ℕ) × (f.close ≡ suc k)) × AllClose fs

pub record SidesFit (j : List Sides) : Type 0 where
  pub closes : AllClose j
  pub ascend : AllAscend j

-- ---- the functions

-- so many payloads, and nothing where there are none
abbrev pub padded : ℕ → List Leaf → List Leaf
padded zero ps = []
padded (suc w) [] = None ∷ padded w []
padded (suc w) (p ∷ ps) = p ∷ padded w ps

-- the payloads at a coordinate
abbrev pub look : ℕ → List Head → Option (List Leaf)
look c [] = None
look c (k ∷ ks) = cond (eqb c k.0) (Some k.1) (look c ks)

-- a coordinate with the payloads of a left and of a right
abbrev pub head_of : ℕ → ℕ → ℕ → List Leaf → List Leaf → Head
head_of l r c ps qs = (c, padded l ps ++ padded r qs)

abbrev pub meet_one : ℕ → ℕ → Head → Option (List Leaf) → List Head → List Head
meet_one l r h None rest = rest
meet_one l r h (Some qs) rest = head_of l r h.0 h.1 qs ∷ rest

-- the coordinates that both sides have, with their payloads
abbrev pub meet : ℕ → ℕ → List Head → List Head → List Head
meet l r [] right = []
meet l r (h ∷ left) right = meet_one l r h (look h.0 right) (meet l r left right)

abbrev pub or_none : Option (List Leaf) → List Leaf
or_none None = []
or_none (Some ps) = ps

-- the coordinates of either side, ascending
abbrev pub either : List Head → List Head → List ℕ
either left right = map (λ h. h.0) (gather (λ a b. a) (left ++ right))

-- the coordinates of either side, with their payloads, which are empty where a side lacks the coordinate
abbrev pub unite : ℕ → ℕ → List Head → List Head → List Head
unite l r left right = map (λ c. head_of l r c (or_none (look c left)) (or_none (look c right))) (either left right)

abbrev pub merged : Bool → ℕ → ℕ → List Head → List Head → List Head
merged true l r left right = unite l r left right
merged false l r left right = meet l r left right

abbrev pub merged_of : Bool → ℕ → ℕ → Sides → Fiber Head
merged_of unites l r f = (merged unites l r f.left f.right, f.close)

abbrev pub merge_outputs : Bool → ℕ → ℕ → List Sides → Streams
merge_outputs unites l r j = side_streams (l + r) (map (merged_of unites l r) j)

-- ---- the moves; the flag says whether a coordinate of one side alone is put

-- the tokens of the next head, or of the stop of a fiber that closes n lists
abbrev pub next_row : ℕ → ℕ → List Head → List Token
next_row w n [] = across (λ _. Stop (pred n)) 0 (suc w)
next_row w n (h ∷ hs) = row w h

-- a coordinate of one side alone
abbrev pub put_alone : Bool → ℕ → Head → List Move → List Move
put_alone true w h rest = put_row 0 (row w h) rest
put_alone false w h rest = rest

-- the left is at its stop, and these heads of the right were not passed yet; the first of them is taken
abbrev pub right_moves : Bool → ℕ → ℕ → ℕ → List Head → List Move → List Move
right_moves u l r n [] rest = put_all (suc (l + r)) (Stop (pred n)) rest
right_moves u l r n (k ∷ ks) rest = put_alone u (l + r) (head_of l r k.0 [] k.1) (take_row (suc l) (next_row r n ks) (right_moves u l r n ks rest))

-- the same where the head h of the left is taken, hs follow it, and go says how to go on after it
abbrev pub along_moves : Bool → ℕ → ℕ → ℕ → Head → List Head → (List Head → List Move) → List Head → List Move
along_moves u l r n h hs go [] = put_alone u (l + r) (head_of l r h.0 h.1 []) (take_row 0 (next_row l n hs) (go []))
along_moves u l r n h hs go (k ∷ ks) =
    if nat_lt h.0 k.0 then put_alone u (l + r) (head_of l r h.0 h.1 []) (take_row 0 (next_row l n hs) (go (k ∷ ks)))
    else if nat_lt k.0 h.0 then put_alone u (l + r) (head_of l r k.0 [] k.1) (take_row (suc l) (next_row r n ks) (along_moves u l r n h hs go ks))
    else put_row 0 (row (l + r) (head_of l r h.0 h.1 k.1)) (take_row 0 (next_row l n hs) (take_row (suc l) (next_row r n ks) (go ks)))

abbrev pub fiber_merge : Bool → ℕ → ℕ → ℕ → List Head → List Move → List Head → List Move
fiber_merge u l r n [] rest ks = right_moves u l r n ks rest
fiber_merge u l r n (h ∷ hs) rest ks = along_moves u l r n h hs (fiber_merge u l r n hs rest) ks

abbrev pub merge_moves : Bool → ℕ → ℕ → List Sides → List Move
merge_moves u l r [] =
    take_row 0 (across (λ _. Done) 0 (suc l)) (take_row (suc l) (across (λ _. Done) 0 (suc r)) (put_all (suc (l + r)) Done []))
merge_moves u l r (f ∷ fs) =
    take_row 0 (next_row l f.close f.left) (take_row (suc l) (next_row r f.close f.right)
    (fiber_merge u l r f.close f.left (merge_moves u l r fs) f.right))
