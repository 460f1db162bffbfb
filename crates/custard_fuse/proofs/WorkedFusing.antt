-- Fused drafts of small programs, by hand, and how many blocks and channels their graphs have.
use Rattle.std.proofs.Common.{◌≡◌, ℕ, Bool, true, false, List, [], ◌∷◌, length, refl}
use Rattle.std.specs.List.{list_all}
use mathlib.Core.List.{map}
use Rattle.sam_model.specs.declared.tensors.Format.TheVariants.{Compressed}
use Rattle.sam_model.specs.declared.tensors.Tensor.{Tensor}
use Rattle.sam_model.specs.declared.program.Factor.{Factor}
use Rattle.sam_model.specs.declared.program.Factor.TheVariants.{Access}
use Rattle.sam_model.specs.declared.program.Term.{Term}
use Rattle.sam_model.specs.declared.program.Program.{Program}
use Rattle.stream_model.specs.declared.labels.Label.{Label}
use Rattle.stream_model.specs.declared.labels.Tree.{Tree}
use Rattle.stream_model.specs.declared.labels.Tree.TheVariants as tree
use Rattle.stream_model.specs.declared.labels.Attr.{Attr}
use Rattle.stream_model.specs.declared.labels.Attr.TheVariants as attr
use Rattle.graph.specs.declared.graphs.Kind.{Kind}
use Rattle.graph.specs.declared.graphs.Kind.TheVariants as kind
use Rattle.custard_lower.specs.declared.drafts.Made.{Made}
use Rattle.custard_lower.specs.Drafts.{label_at}
use Rattle.custard_fuse.specs.FusedRules.{fused_allowed}
use Rattle.custard_fuse.specs.Fusing.{is_fused, fused_draft, fus}

-- ---- programs in few words

abbrev tensor : List ℕ → Tensor
tensor order = record { name = []; dims = map (λ _. 4) order; formats = map (λ _. Compressed) order; order = order; file = [] }

abbrev vector : Tensor
vector = tensor (0 ∷ [])

abbrev matrix : Tensor
matrix = tensor (0 ∷ 1 ∷ [])

abbrev term : Bool → List Factor → Term
term minus factors = record { minus = minus; factors = factors }

abbrev program : List Tensor → Tensor → List ℕ → List Term → List ℕ → Program
program tensors result left terms sizes =
    record { tensors = tensors; result = result; left = left; terms = terms; tops = []; var_names = map (λ _. []) sizes; var_sizes = sizes }

-- ---- blocks in few words

abbrev made : Kind → List ℕ → List Label → Made
made kind ins labels = record { kind = kind; ins = ins; labels = labels }

abbrev label : Tree → Attr → Label
label tree attr = record { tree = tree; attr = attr }

abbrev root : Made
root = made kind.Root [] (label tree.Root (attr.Literal 0) ∷ [])

-- coordinates and the reference of the only factor
abbrev scanned : ℕ → ℕ → List Label
scanned t level = label (tree.Under t level 1) attr.Coordinate ∷ label (tree.Under t level 1) (attr.Rank 0) ∷ []

-- the coordinates of two terms, and the reference of the only factor of each
abbrev united : ℕ → List Label
united depth =
    label (tree.Across 1 0 depth) attr.Coordinate ∷ label (tree.Across 1 0 depth) (attr.Rank 0)
    ∷ label (tree.Across 1 1 depth) (attr.Rank 0) ∷ []

-- ---- x(i) = b(i) - c(i)

abbrev difference : Program
difference =
    program (vector ∷ vector ∷ []) vector (0 ∷ []) (term false (Access 0 (0 ∷ []) ∷ []) ∷ term true (Access 1 (0 ∷ []) ∷ []) ∷ []) (4 ∷ [])

difference-draft :
    fused_draft difference
    ≡ root
    ∷ made (kind.Scan 0 1) (0 ∷ []) (scanned 0 1)
    ∷ made (kind.Scan 1 1) (0 ∷ []) (scanned 1 1)
    ∷ made (kind.Union 1 1) (1 ∷ 2 ∷ 3 ∷ 4 ∷ []) (united 1)
    ∷ made (kind.Array 0) (6 ∷ []) (label (tree.Across 1 0 1) (attr.FactorValue 0) ∷ [])
    ∷ made (kind.Array 1) (7 ∷ []) (label (tree.Across 1 1 1) (attr.FactorValue 0) ∷ [])
    ∷ made kind.Sub (8 ∷ 9 ∷ []) (label (tree.UnderJoined 1 9 1) attr.Value ∷ [])
    ∷ made kind.DropValue (5 ∷ 10 ∷ []) (label (tree.UnderJoined 1 1 1) attr.Coordinate ∷ label (tree.UnderJoined 1 1 1) attr.Value ∷ [])
    ∷ made (kind.WriteLevel 1) (11 ∷ []) []
    ∷ made kind.WriteValue (12 ∷ []) []
    ∷ []
difference-draft = refl

-- ---- X(i,j) = B(i,j) + C(i,j)

abbrev matrices : Program
matrices =
    program (matrix ∷ matrix ∷ []) matrix (0 ∷ 1 ∷ [])
    (term false (Access 0 (0 ∷ 1 ∷ []) ∷ []) ∷ term false (Access 1 (0 ∷ 1 ∷ []) ∷ []) ∷ []) (4 ∷ 4 ∷ [])

matrices-draft :
    fused_draft matrices
    ≡ root
    ∷ made (kind.Scan 0 1) (0 ∷ []) (scanned 0 1)
    ∷ made (kind.Scan 1 1) (0 ∷ []) (scanned 1 1)
    ∷ made (kind.Union 1 1) (1 ∷ 2 ∷ 3 ∷ 4 ∷ []) (united 1)
    ∷ made (kind.Scan 0 2) (6 ∷ []) (scanned 0 2)
    ∷ made (kind.Scan 1 2) (7 ∷ []) (scanned 1 2)
    ∷ made (kind.Union 1 1) (8 ∷ 9 ∷ 10 ∷ 11 ∷ []) (united 2)
    ∷ made (kind.Array 0) (13 ∷ []) (label (tree.Across 1 0 2) (attr.FactorValue 0) ∷ [])
    ∷ made (kind.Array 1) (14 ∷ []) (label (tree.Across 1 1 2) (attr.FactorValue 0) ∷ [])
    ∷ made kind.Add (15 ∷ 16 ∷ []) (label (tree.UnderJoined 1 9 2) attr.Value ∷ [])
    ∷ made kind.DropValue (12 ∷ 17 ∷ []) (label (tree.UnderJoined 1 2 2) attr.Coordinate ∷ label (tree.UnderJoined 1 2 2) attr.Value ∷ [])
    ∷ made kind.DropFiber (5 ∷ 18 ∷ [])
    (label (tree.UnderJoined 1 1 1) attr.Coordinate ∷ label (tree.UnderJoined 1 1 2) attr.Coordinate ∷ [])
    ∷ made (kind.WriteLevel 1) (20 ∷ []) []
    ∷ made (kind.WriteLevel 2) (21 ∷ []) []
    ∷ made kind.WriteValue (19 ∷ []) []
    ∷ []
matrices-draft = refl

-- ---- x(i) = b(i) - C(i,j) * d(j): the second term goes deeper than the shared level, and its values are summed before they are subtracted

abbrev with_reduction : Program
with_reduction =
    program (vector ∷ matrix ∷ vector ∷ []) vector (0 ∷ [])
    (term false (Access 0 (0 ∷ []) ∷ []) ∷ term true (Access 1 (0 ∷ 1 ∷ []) ∷ Access 2 (1 ∷ []) ∷ []) ∷ []) (4 ∷ 4 ∷ [])

abbrev second : ℕ → ℕ → Attr → Label
second level mask attr = label (tree.Under 1 level mask) attr

with-reduction-draft :
    fused_draft with_reduction
    ≡ root
    ∷ made (kind.Scan 0 1) (0 ∷ []) (scanned 0 1)
    ∷ made (kind.Scan 1 1) (0 ∷ []) (scanned 1 1)
    ∷ made kind.Repeat (3 ∷ 0 ∷ []) (second 1 1 (attr.Rank 1) ∷ [])
    ∷ made (kind.Union 1 2) (1 ∷ 2 ∷ 3 ∷ 4 ∷ 5 ∷ [])
    (label (tree.Across 1 0 1) attr.Coordinate ∷ label (tree.Across 1 0 1) (attr.Rank 0)
    ∷ label (tree.Across 1 1 1) (attr.Rank 0) ∷ label (tree.Across 1 1 1) (attr.Rank 1) ∷ [])
    ∷ made (kind.Array 0) (7 ∷ []) (label (tree.Across 1 0 1) (attr.FactorValue 0) ∷ [])
    ∷ made (kind.Scan 1 2) (8 ∷ []) (second 2 1 attr.Coordinate ∷ second 2 1 (attr.Rank 0) ∷ [])
    ∷ made (kind.Scan 2 1) (9 ∷ []) (second 2 2 attr.Coordinate ∷ second 2 2 (attr.Rank 1) ∷ [])
    ∷ made (kind.Intersect 1 1) (11 ∷ 12 ∷ 13 ∷ 14 ∷ [])
    (second 2 3 attr.Coordinate ∷ second 2 3 (attr.Rank 0) ∷ second 2 3 (attr.Rank 1) ∷ [])
    ∷ made (kind.Array 1) (16 ∷ []) (second 2 3 (attr.FactorValue 0) ∷ [])
    ∷ made (kind.Array 2) (17 ∷ []) (second 2 3 (attr.FactorValue 1) ∷ [])
    ∷ made kind.Mul (18 ∷ 19 ∷ []) (second 2 3 (attr.Partial 2) ∷ [])
    ∷ made kind.SumScalar (6 ∷ 20 ∷ []) (label (tree.UnderReduced 1 1 1) attr.Value ∷ [])
    ∷ made kind.Sub (10 ∷ 21 ∷ []) (label (tree.UnderJoined 1 9 1) attr.Value ∷ [])
    ∷ made kind.DropValue (6 ∷ 22 ∷ []) (label (tree.UnderJoined 1 1 1) attr.Coordinate ∷ label (tree.UnderJoined 1 1 1) attr.Value ∷ [])
    ∷ made (kind.WriteLevel 1) (23 ∷ []) []
    ∷ made kind.WriteValue (24 ∷ []) []
    ∷ []
with-reduction-draft = refl

-- ---- the labels at every block of these drafts are allowed

abbrev labels_allowed : Program → Bool
labels_allowed p = let made = fused_draft p in list_all (λ m. fused_allowed p m.kind (map (label_at made) m.ins) m.labels) made

labels-allowed : list_all labels_allowed (difference ∷ matrices ∷ with_reduction ∷ []) ≡ true
labels-allowed = refl

-- ---- which programs are fused

-- the same with the loops of x(j) = .. in the order i, j; and of one term
abbrev other_order : Program
other_order = record with_reduction { left = 1 ∷ [] }

abbrev one_term : Program
one_term = record difference { terms = term false (Access 0 (0 ∷ []) ∷ []) ∷ [] }

fused : map is_fused (difference ∷ matrices ∷ with_reduction ∷ other_order ∷ one_term ∷ []) ≡ true ∷ true ∷ true ∷ false ∷ false ∷ []
fused = refl

-- ---- blocks and channels of whole graphs, with a cast where an output has several readers and a drain where it has none

abbrev blocks_of : Program → ℕ
blocks_of p = length (fus p).blocks

abbrev channels_of : Program → ℕ
channels_of p = length (fus p).channels

blocks : map blocks_of (difference ∷ matrices ∷ with_reduction ∷ []) ≡ 11 ∷ 16 ∷ 21 ∷ []
blocks = refl

channels : map channels_of (difference ∷ matrices ∷ with_reduction ∷ []) ≡ 15 ∷ 24 ∷ 32 ∷ []
channels = refl
