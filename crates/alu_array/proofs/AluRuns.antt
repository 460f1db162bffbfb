-- A new arithmetic unit makes the moves of its kind.
use Rattle.std.proofs.Common.{◌≡◌, zero, suc, List, [], ◌∷◌, Some, None, refl, sym, subst}
use Rattle.stream_tokens.specs.Nest.{Leaf, leaf, Fiber}
use Rattle.block_core.specs.Move.{Move}
use Rattle.block_core.specs.Arithmetic.{Operation, combined_leaf}
use Rattle.block_core.specs.Alu.{alu_leaves, alu_moves}
use Rattle.block_core.specs.Ports.{Streams}
use Rattle.block_core.specs.Kind.{AluKind, Fits, reading}
use Rattle.block_core.specs.Runs.{Runs}
use Rattle.block_core.specs.Stands.{Stands}
use Rattle.block_core.proofs.Standing.{stands-start}
use Rattle.alu_array.specs.AluSteps.{alu_steps, alu_after}
use Rattle.alu_array.specs.declared.alu_block.AluState.{AluState}
use Rattle.alu_array.specs.declared.alu_block.AluState.TheVariants.{First}

-- after a leaf the next is wanted
after-leaf : (v : Leaf) → alu_after (leaf v) ≡ First
after-leaf None = refl
after-leaf (Some x) = refl

module _ (op : Operation) where
  next-leaf : (v : Leaf) (rest : List Move) → Runs (alu_steps op) First rest → Runs (alu_steps op) (alu_after (leaf v)) rest
  next-leaf v rest h = subst (λ (x : AluState). Runs (alu_steps op) x rest) (sym (after-leaf v)) h

  leaves-run : (ps : List (Leaf × Leaf)) (rest : List Move) → Runs (alu_steps op) First rest → Runs (alu_steps op) First (alu_leaves op ps rest)
  leaves-run [] rest h = h
  leaves-run ((None, None) ∷ ps) rest h = (refl, (refl, (refl, next-leaf (combined_leaf op None None) _ (leaves-run ps rest h))))
  leaves-run ((None, Some b) ∷ ps) rest h = (refl, (refl, (refl, next-leaf (combined_leaf op None (Some b)) _ (leaves-run ps rest h))))
  leaves-run ((Some a, None) ∷ ps) rest h = (refl, (refl, (refl, next-leaf (combined_leaf op (Some a) None) _ (leaves-run ps rest h))))
  leaves-run ((Some a, Some b) ∷ ps) rest h = (refl, (refl, (refl, next-leaf (combined_leaf op (Some a) (Some b)) _ (leaves-run ps rest h))))

  pub alu-run : (fs : List (Fiber (Leaf × Leaf))) → Runs (alu_steps op) First (alu_moves op fs)
  alu-run [] = (refl, (refl, (refl, refl)))
  alu-run ((ps, zero) ∷ fs) = leaves-run ps _ (alu-run fs)
  alu-run ((ps, suc k) ∷ fs) = leaves-run ps _ (refl, (refl, (refl, alu-run fs)))

  pub alu-starts : (s : Streams) → Fits (AluKind op) s → Stands (Runs (alu_steps op) First) (AluKind op) s 0
  alu-starts s f = stands-start (alu_steps op) First (AluKind op) s f (alu-run (reading (AluKind op) s))
