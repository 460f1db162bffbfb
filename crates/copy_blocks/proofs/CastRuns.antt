-- A new broadcast makes the moves of its kind.
use Rattle.std.proofs.Common.{◌≡◌, ◌<◌, ◌+◌, ◌-◌, ℕ, zero, suc, List, [], ◌∷◌, refl, sym, subst, arith, true, false}
use Rattle.std.specs.Prelude.{nat_lt}
use Rattle.std.proofs.lemmas.Bool.Decides.{nat_tests}
use Rattle.stream_tokens.specs.declared.Token.{Token}
use Rattle.stream_tokens.specs.declared.Token.TheVariants.{Item, Empty, Stop, Done}
use Rattle.stream_tokens.proofs.Ending.{EndsWithin, IsStream-ends}
use Rattle.block_core.specs.Move.{Move, across, put_row}
use Rattle.block_core.specs.Cast.{cast_moves}
use Rattle.block_core.specs.Ports.{Streams, AllStreams, port}
use Rattle.block_core.specs.Kind.{CastKind, Fits}
use Rattle.block_core.specs.Runs.{Runs}
use Rattle.block_core.specs.Stands.{Stands}
use Rattle.block_core.proofs.Standing.{stands-start}
use Rattle.copy_blocks.specs.CastSteps.{cast_steps, cast_put, cast_after}
use Rattle.copy_blocks.specs.declared.cast_block.CastState.{CastState}
use Rattle.copy_blocks.specs.declared.cast_block.CastState.TheVariants.{Wanting, Giving, Ended}

-- a token goes on to the next output, or was put on the last
next-put : (outs port : ℕ) (t : Token) → port + 1 < outs → cast_put outs (Giving t port) ≡ Giving t (port + 1)
next-put outs port t below =
    let test : nat_lt port (outs - 1) ≡ true = grind (arith, nat_tests) in
    rw test refl

last-put : (outs port : ℕ) (t : Token) → port + 1 ≡ outs → cast_put outs (Giving t port) ≡ cast_after t
last-put outs port t last =
    let test : nat_lt port (outs - 1) ≡ false = grind (arith, nat_tests) in
    rw test refl

-- a token is put on the outputs from one on, of which there are so many more
give-run : (outs more port first : ℕ) (t : Token) (rest : List Move) → port + suc more ≡ outs
    → Runs (cast_steps outs) (cast_after t) rest
    → Runs (cast_steps outs) (Giving t port) (put_row port (across (λ _. t) first (suc more)) rest)
give-run outs zero port first t rest e h =
    (refl, subst (λ (x : CastState). Runs (cast_steps outs) x rest) (sym (last-put outs port t (omega (arith, e)))) h)
give-run outs (suc more) port first t rest e h = (
  refl,
  subst (λ (x : CastState). Runs (cast_steps outs) x (put_row (port + 1) (across (λ _. t) (suc first) (suc more)) rest))
      (sym (next-put outs port t (omega (arith, e)))) (give-run outs more (port + 1) (suc first) t rest (omega (arith, e)) h),
)

took-run : (outs : ℕ) (t : Token) (rest : List Move) → Runs (cast_steps outs) (cast_after t) rest
    → Runs (cast_steps outs) ((cast_steps outs).took Wanting t) (put_row 0 (across (λ _. t) 0 outs) rest)
took-run zero t rest h = h
took-run (suc more) t rest h = give-run (suc more) more 0 0 t rest (omega arith) h

pub cast-run : (outs : ℕ) (s : List Token) → EndsWithin 200 s → Runs (cast_steps outs) Wanting (cast_moves outs s)
cast-run outs [] e = absurd e
cast-run outs (Item x ∷ s) e = (refl, took-run outs (Item x) _ (cast-run outs s e))
cast-run outs (Empty ∷ s) e = (refl, took-run outs Empty _ (cast-run outs s e))
cast-run outs (Stop n ∷ s) e = (refl, took-run outs (Stop n) _ (cast-run outs s e.1))
cast-run outs (Done ∷ s) e = (refl, took-run outs Done _ (subst (λ (x : List Token). Runs (cast_steps outs) Ended (cast_moves outs x)) (sym e) refl))

pub cast-starts : (outs : ℕ) (s : Streams) → Fits (CastKind outs) s → Stands (Runs (cast_steps outs) Wanting) (CastKind outs) s 0
cast-starts outs s f =
    let whole : AllStreams (port 0 s ∷ []) = subst AllStreams (sym f.back) f.streams in
    stands-start (cast_steps outs) Wanting (CastKind outs) s f (cast-run outs (port 0 s) (IsStream-ends (port 0 s) whole.0))
