-- A kind has as many inputs and outputs as it says, and its moves are on these ports alone.
use Rattle.std.specs.Prelude.{◌≡◌, ◌<◌, ℕ, zero, suc, ◌+◌, Bool, true, false, List, [], ◌∷◌, length, slice_get, Some, eqb, cond, refl}
use mathlib.Core.List.{map}
use Rattle.std.proofs.Common.{arith, sym, ◌∙◌, ap, length-append}
use Rattle.stream_tokens.specs.declared.Token.{Token}
use Rattle.block_core.specs.Move.{Move, Taking, Putting, takes, puts}
use Rattle.block_core.specs.Ports.{Streams, port}
use Rattle.block_core.specs.Merge.{Sides, left_of, right_of, side_streams, merge_inputs}
use Rattle.block_core.specs.Kind.{Kind, RootKind, ScanKind, RepeatKind, CastKind, DrainKind, IntersectKind, UnionKind, ArrayKind, AluKind, ConstKind, SumScalarKind, SumVectorKind, SumMatrixKind, DropValueKind, DropFiberKind, FillKind, WriteLevelKind, WriteValueKind, ins_of, outs_of, Reading, reading, given, made, Fits, outputs, moves}
use Rattle.block_core.proofs.Rows.{length-over}
use Rattle.block_core.proofs.Passing.{eqb-self}
use Rattle.block_core.proofs.All.{all-pass}

two-sides : (l r : ℕ) (j : List Sides) → length (merge_inputs l r j) ≡ l + r + 2
two-sides l r j =
    let a : length (side_streams l (map left_of j)) ≡ suc l = length-over _ 0 (suc l) in
    let b : length (side_streams r (map right_of j)) ≡ suc r = length-over _ 0 (suc r) in
    let c = length-append (side_streams l (map left_of j)) (side_streams r (map right_of j)) in
    omega (arith, a, b, c)

pub given-length : (kind : Kind) (j : Reading kind) → length (given kind j) ≡ ins_of kind
given-length RootKind j = refl
given-length (ScanKind children) j = refl
given-length RepeatKind j = refl
given-length (CastKind outs) j = refl
given-length DrainKind j = refl
given-length (IntersectKind l r) j = two-sides l r j
given-length (UnionKind l r) j = two-sides l r j
given-length (ArrayKind values) j = refl
given-length (AluKind op) j = refl
given-length (ConstKind c) j = refl
given-length SumScalarKind j = refl
given-length SumVectorKind j = refl
given-length SumMatrixKind j = refl
given-length DropValueKind j = refl
given-length DropFiberKind j = refl
given-length (FillKind w) j = let a : length (given (FillKind w) j) ≡ suc (suc w) = ap suc (length-over _ 0 (suc w)) in omega (arith, a)
given-length (WriteLevelKind level) j = refl
given-length WriteValueKind j = refl

pub made-length : (kind : Kind) (j : Reading kind) → length (made kind j) ≡ outs_of kind
made-length RootKind j = refl
made-length (ScanKind children) j = refl
made-length RepeatKind j = refl
made-length (CastKind outs) j = length-over _ 0 outs
made-length DrainKind j = refl
made-length (IntersectKind l r) j = let a : length (made (IntersectKind l r) j) ≡ suc (l + r) = length-over _ 0 (suc (l + r)) in omega (arith, a)
made-length (UnionKind l r) j = let a : length (made (UnionKind l r) j) ≡ suc (l + r) = length-over _ 0 (suc (l + r)) in omega (arith, a)
made-length (ArrayKind values) j = refl
made-length (AluKind op) j = refl
made-length (ConstKind c) j = refl
made-length SumScalarKind j = refl
made-length SumVectorKind j = refl
made-length SumMatrixKind j = refl
made-length DropValueKind j = refl
made-length DropFiberKind j = refl
made-length (FillKind w) j = let a : length (made (FillKind w) j) ≡ suc w = length-over _ 0 (suc w) in omega (arith, a)
made-length (WriteLevelKind level) j = refl
made-length WriteValueKind j = refl

pub fits-length : (kind : Kind) (ins : Streams) → Fits kind ins → length ins ≡ ins_of kind
fits-length kind ins f = ap (λ (x : Streams). length x) (sym f.back) ∙ given-length kind (reading kind ins)

pub outputs-length : (kind : Kind) (ins : Streams) → length (outputs kind ins) ≡ outs_of kind
outputs-length kind ins = made-length kind (reading kind ins)

-- ---- the ports of moves

-- a port with a token is one of the streams
has-port : (p : ℕ) (ss : Streams) (t : Token) (ts : List Token) → port p ss ≡ t ∷ ts → p < length ss
has-port p [] t ts e = absurd (cc)
has-port zero (s ∷ ss) t ts e = omega arith
has-port (suc p) (s ∷ ss) t ts e = omega (arith, has-port p ss t ts e)

some-more : (b : Bool) (u : Token) (xs : List Token) → 0 < length xs → 0 < length (cond b (u ∷ xs) xs)
some-more true u xs h = omega arith
some-more false u xs h = h

taken-there : (ms : List Move) (n p : ℕ) (t : Token) → slice_get ms n ≡ Some (Taking p t) → 0 < length (takes p ms)
taken-there [] n p t e = absurd (cc)
taken-there (Taking q u ∷ ms) zero p t e =
    let same : q ≡ p = cc in
    let one : length (takes p (Taking q u ∷ ms)) ≡ suc (length (takes p ms)) =
    ap (λ b. length (cond b (u ∷ takes p ms) (takes p ms))) (ap (λ (x : ℕ). eqb x p) same ∙ eqb-self p) in
    omega (arith, one)
taken-there (Putting q u ∷ ms) zero p t e = absurd (cc)
taken-there (Taking q u ∷ ms) (suc n) p t e = some-more (eqb q p) u (takes p ms) (taken-there ms n p t e)
taken-there (Putting q u ∷ ms) (suc n) p t e = taken-there ms n p t e

put-there : (ms : List Move) (n p : ℕ) (t : Token) → slice_get ms n ≡ Some (Putting p t) → 0 < length (puts p ms)
put-there [] n p t e = absurd (cc)
put-there (Putting q u ∷ ms) zero p t e =
    let same : q ≡ p = cc in
    let one : length (puts p (Putting q u ∷ ms)) ≡ suc (length (puts p ms)) =
    ap (λ b. length (cond b (u ∷ puts p ms) (puts p ms))) (ap (λ (x : ℕ). eqb x p) same ∙ eqb-self p) in
    omega (arith, one)
put-there (Taking q u ∷ ms) zero p t e = absurd (cc)
put-there (Putting q u ∷ ms) (suc n) p t e = some-more (eqb q p) u (puts p ms) (put-there ms n p t e)
put-there (Taking q u ∷ ms) (suc n) p t e = put-there ms n p t e

a-port : (p : ℕ) (ss : Streams) (xs : List Token) → xs ≡ port p ss → 0 < length xs → p < length ss
a-port p ss [] e h = absurd (omega (arith, h))
a-port p ss (t ∷ ts) e h = has-port p ss t ts (sym e)

pub take-in-range : (kind : Kind) (ins : Streams) (n p : ℕ) (t : Token) → Fits kind ins → slice_get (moves kind ins) n ≡ Some (Taking p t) → p < ins_of kind
take-in-range kind ins n p t f e =
    let b : p < length ins = a-port p ins (takes p (moves kind ins)) ((all-pass kind ins f).through.taken p) (taken-there (moves kind ins) n p t e) in
    omega (arith, b, fits-length kind ins f)

pub put-in-range : (kind : Kind) (ins : Streams) (n p : ℕ) (t : Token) → Fits kind ins → slice_get (moves kind ins) n ≡ Some (Putting p t) → p < outs_of kind
put-in-range kind ins n p t f e =
    let b : p < length (outputs kind ins) = a-port p (outputs kind ins) (puts p (moves kind ins)) ((all-pass kind ins f).through.put p) (put-there (moves kind ins) n p t e) in
    omega (arith, b, outputs-length kind ins)
