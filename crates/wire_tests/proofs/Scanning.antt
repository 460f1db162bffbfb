-- The reference of the root fits a scanner, and its outputs are streams.
use Rattle.std.proofs.Common.{◌≡◌, ℕ, ◌<◌, inr, List, [], ◌∷◌, length, Some, refl, ap, sym, arith}
use mathlib.Core.List.{map}
use Rattle.sam_model.specs.declared.tensors.Tensor.{Tensor}
use Rattle.sam_model.specs.declared.tensors.Entries.{Entries}
use Rattle.sam_model.specs.Children.{ranked}
use Rattle.sam_model.specs.Tensors.{stored_as}
use Rattle.levels.specs.Reads.{children_at}
use Rattle.stream_tokens.specs.declared.Token.{Token}
use Rattle.stream_tokens.specs.declared.Token.TheVariants.{Item}
use Rattle.stream_tokens.specs.Nest.{IsStream, stream}
use Rattle.stream_tokens.specs.Flat.{flat}
use Rattle.block_core.specs.Kind.{ScanKind, Fits, outputs}
use Rattle.block_core.specs.Ports.{AllStreams}
use Rattle.block_core.specs.Scan.{Children, coordinates_below, references_below}
use Rattle.block_core.specs.Stands.{StandsAtStart}
use Rattle.block_core.specs.declared.BlockStep.{Ghosts}
use Rattle.block_threads.specs.Working.{StandsWired}
use Rattle.ruled_wires.specs.Ends.{End, fresh_end}
use Rattle.wire_tests.specs.Scanning.{root_reference, scanned}

level : (cs : List ℕ) → flat Item ((cs, 1) ∷ []) ≡ stream 1 (map Some cs)
level [] = refl
level (c ∷ cs) = ap (λ (ts : List Token). Item c ∷ ts) (level cs)

level-stream : (cs : List ℕ) → IsStream (flat Item ((cs, 1) ∷ []))
level-stream cs = (1, omega arith, map Some cs, level cs)

pub root-fits : (children : Children) → 0 < length children → Fits (ScanKind children) (root_reference ∷ [])
root-fits children h = record {
  streams = ((0, omega arith, Some 0, refl), tt);
  back = refl;
  well = record { shaped = inr (Some 0, refl); references = (h, tt) };
}

pub outputs-streams : (children : Children) → AllStreams (outputs (ScanKind children) (root_reference ∷ []))
outputs-streams children = (level-stream (coordinates_below children (Some 0)), (level-stream (references_below children (Some 0)), tt))

-- a tensor with one level has the root
pub has-root : (t : Tensor) (e : Entries) → t.order ≡ 0 ∷ [] → 0 < length (children_at (ranked (stored_as t e)) 1)
has-root t e order = rw order (omega arith)

-- a scanner at its start stands on such wires
pub stands-wired : {B : Type 0} (step : Ghosts B) (streams : List (List Token)) (children : Children) (block : B) (ins outs : List End)
    → streams ≡ scanned children → 0 < length children → step.kind block ≡ ScanKind children → StandsAtStart (step.stands block) (ScanKind children)
    → ins ≡ fresh_end 0 ∷ [] → outs ≡ fresh_end 1 ∷ fresh_end 2 ∷ []
    → StandsWired step streams block ins outs
stands-wired step streams children block ins outs s h kind starts i o = rw (s, i, o) (record {
  stands = starts (root_reference ∷ []) (root-fits children h);
  gives = ap (λ k. outputs k (root_reference ∷ [])) (sym kind);
  whole = outputs-streams children;
})
