-- A new vector reducer makes the moves of its kind.
use Rattle.std.proofs.Common.{◌≡◌, ℕ, suc, pred, List, [], ◌∷◌, Some, None, refl, sym, ◌∙◌, subst}
use Rattle.stream_tokens.specs.declared.Token.TheVariants.{Stop}
use Rattle.stream_tokens.specs.Nest.{Leaf, Fiber}
use Rattle.stream_tokens.specs.Shapes.{Positive}
use Rattle.block_core.specs.Move.{Move, put_two}
use Rattle.block_core.specs.Gather.{all_of}
use Rattle.block_core.specs.SumVector.{take_pairs, put_pairs, piece_takes, vector_sum, sumvector_moves}
use Rattle.block_core.specs.Ports.{Streams}
use Rattle.block_core.specs.Kind.{SumVectorKind, Fits, reading}
use Rattle.block_core.specs.Runs.{Runs}
use Rattle.block_core.specs.Stands.{Stands}
use Rattle.block_core.proofs.Standing.{stands-start}
use Rattle.space_reducer.specs.declared.vector.VectorPhase.TheVariants.{Coordinate}
use Rattle.space_reducer.specs.VectorSteps.{VectorState, vector_state, vector_next_put, vector_steps}
use Rattle.space_reducer.proofs.Folds.{from_left, add_pair, added-gathers, by-pieces}

-- a reducer that takes, and keeps these pairs
abbrev keeping : List (ℕ × Leaf) → VectorState
keeping kept = vector_state Coordinate kept []

pairs-run : (ps kept : List (ℕ × Leaf)) (rest : List Move)
    → Runs vector_steps (keeping (from_left add_pair kept ps)) rest → Runs vector_steps (keeping kept) (take_pairs ps rest)
pairs-run [] kept rest h = h
pairs-run ((c, Some v) ∷ ps) kept rest h = (refl, (refl, pairs-run ps (add_pair (c, Some v) kept) rest h))
pairs-run ((c, None) ∷ ps) kept rest h = (refl, (refl, pairs-run ps (add_pair (c, None) kept) rest h))

abbrev add_pairs : List (ℕ × Leaf) → List (ℕ × Leaf) → List (ℕ × Leaf)
add_pairs ps kept = from_left add_pair kept ps

piece-run : (stop : ℕ) (xss : List (List (ℕ × Leaf))) (kept : List (ℕ × Leaf)) (rest : List Move)
    → Runs vector_steps (vector_next_put [] stop (from_left add_pairs kept xss)) rest
    → Runs vector_steps (keeping kept) (piece_takes (suc stop) xss rest)
piece-run stop [] kept rest h = (refl, (refl, h))
piece-run stop (x ∷ []) kept rest h = pairs-run x kept _ (refl, (refl, h))
piece-run stop (x ∷ y ∷ xs) kept rest h = pairs-run x kept _ (refl, (refl, piece-run stop (y ∷ xs) (add_pairs x kept) rest h))

flush-run : (stop : ℕ) (ps : List (ℕ × Leaf)) (rest : List Move)
    → Runs vector_steps (keeping []) rest → Runs vector_steps (vector_next_put [] stop ps) (put_pairs ps (put_two (Stop stop) rest))
flush-run stop [] rest h = (refl, (refl, h))
flush-run stop (p ∷ ps) rest h = (refl, (refl, flush-run stop ps rest h))

whole-piece-run : (stop : ℕ) (xss : List (List (ℕ × Leaf))) (rest : List Move) → Runs vector_steps (keeping []) rest
    → Runs vector_steps (keeping []) (piece_takes (suc stop) xss (put_pairs (vector_sum xss) (put_two (Stop stop) rest)))
whole-piece-run stop xss rest h =
    let P : List (ℕ × Leaf) → Type 0 =
    λ ps. Runs vector_steps (vector_next_put [] stop ps) (put_pairs (vector_sum xss) (put_two (Stop stop) rest)) in
    let e : from_left add_pairs [] xss ≡ vector_sum xss = by-pieces add_pair [] xss ∙ added-gathers (all_of xss) in
    piece-run stop xss [] _ (subst P (sym e) (flush-run stop (vector_sum xss) rest h))

vector-run : (fs : List (Fiber (List (ℕ × Leaf)))) → Positive fs → Runs vector_steps (keeping []) (sumvector_moves fs)
vector-run [] w = (refl, (refl, (refl, (refl, refl))))
vector-run ((xss, n) ∷ fs) w =
    let P : ℕ → Type 0 = λ n. Runs vector_steps (keeping []) (piece_takes n xss (put_pairs (vector_sum xss) (put_two (Stop (pred n)) (sumvector_moves fs)))) in
    subst P (sym w.0.1) (whole-piece-run w.0.0 xss (sumvector_moves fs) (vector-run fs w.1))

pub vector-starts : (kept left : List (ℕ × Leaf)) → kept ≡ [] → left ≡ [] → (s : Streams) → Fits SumVectorKind s
    → Stands (Runs vector_steps (vector_state Coordinate kept left)) SumVectorKind s 0
vector-starts kept left k l s f =
    let Q : List (ℕ × Leaf) → Type 0 = λ xs. Stands (Runs vector_steps (vector_state Coordinate xs left)) SumVectorKind s 0 in
    let P : List (ℕ × Leaf) → Type 0 = λ xs. Stands (Runs vector_steps (vector_state Coordinate [] xs)) SumVectorKind s 0 in
    subst Q (sym k) (subst P (sym l) (stands-start vector_steps (keeping []) SumVectorKind s f (vector-run (reading SumVectorKind s) f.well)))
