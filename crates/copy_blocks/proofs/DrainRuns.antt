-- A new drain makes the moves of its kind.
use Rattle.std.proofs.Common.{List, [], ◌∷◌, refl, sym, subst}
use Rattle.stream_tokens.specs.declared.Token.{Token}
use Rattle.stream_tokens.specs.declared.Token.TheVariants.{Item, Empty, Stop, Done}
use Rattle.stream_tokens.proofs.Ending.{EndsWithin, IsStream-ends}
use Rattle.block_core.specs.Cast.{drain_moves}
use Rattle.block_core.specs.Ports.{Streams, AllStreams, port}
use Rattle.block_core.specs.Kind.{DrainKind, Fits}
use Rattle.block_core.specs.Runs.{Runs}
use Rattle.block_core.specs.Stands.{Stands}
use Rattle.block_core.proofs.Standing.{stands-start}
use Rattle.copy_blocks.specs.DrainSteps.{drain_steps}
use Rattle.copy_blocks.specs.declared.drain_block.DrainState.TheVariants.{Wanting, Ended}

pub drain-run : (s : List Token) → EndsWithin 200 s → Runs drain_steps Wanting (drain_moves s)
drain-run [] e = absurd e
drain-run (Item x ∷ s) e = (refl, drain-run s e)
drain-run (Empty ∷ s) e = (refl, drain-run s e)
drain-run (Stop n ∷ s) e = (refl, drain-run s e.1)
drain-run (Done ∷ s) e = (refl, subst (λ (x : List Token). Runs drain_steps Ended (drain_moves x)) (sym e) refl)

pub drain-starts : (s : Streams) → Fits DrainKind s → Stands (Runs drain_steps Wanting) DrainKind s 0
drain-starts s f =
    let whole : AllStreams (port 0 s ∷ []) = subst AllStreams (sym f.back) f.streams in
    stands-start drain_steps Wanting DrainKind s f (drain-run (port 0 s) (IsStream-ends (port 0 s) whole.0))
