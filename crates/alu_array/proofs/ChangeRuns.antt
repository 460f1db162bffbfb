-- A new block that puts each token changed makes the moves of its kind.
use Rattle.std.proofs.Common.{ℕ, List, [], ◌∷◌, refl, sym, subst}
use Rattle.stream_tokens.specs.declared.Token.{Token}
use Rattle.stream_tokens.specs.declared.Token.TheVariants.{Item, Empty, Stop, Done}
use Rattle.stream_tokens.proofs.Ending.{EndsWithin, IsStream-ends}
use Rattle.block_core.specs.Change.{referenced_value, change_moves}
use Rattle.block_core.specs.Ports.{Streams, AllStreams, port}
use Rattle.block_core.specs.Kind.{ConstKind, ArrayKind, Fits}
use Rattle.block_core.specs.Runs.{Runs}
use Rattle.block_core.specs.Stands.{Stands}
use Rattle.block_core.proofs.Standing.{stands-start}
use Rattle.alu_array.specs.ChangeSteps.{change_steps}
use Rattle.alu_array.specs.declared.change.ChangeState.TheVariants.{Wanting, Ended}

pub change-run : (f : ℕ → ℕ) (s : List Token) → EndsWithin 200 s → Runs (change_steps f) Wanting (change_moves f s)
change-run f [] e = absurd e
change-run f (Item x ∷ s) e = (refl, (refl, change-run f s e))
change-run f (Empty ∷ s) e = (refl, (refl, change-run f s e))
change-run f (Stop n ∷ s) e = (refl, (refl, change-run f s e.1))
change-run f (Done ∷ s) e = (refl, (refl, subst (λ (x : List Token). Runs (change_steps f) Ended (change_moves f x)) (sym e) refl))

pub constant-starts : (value : ℕ) (s : Streams) → Fits (ConstKind value) s
    → Stands (Runs (change_steps (λ _. value)) Wanting) (ConstKind value) s 0
constant-starts value s f =
    let whole : AllStreams (port 0 s ∷ []) = subst AllStreams (sym f.back) f.streams in
    stands-start (change_steps (λ _. value)) Wanting (ConstKind value) s f (change-run (λ _. value) (port 0 s) (IsStream-ends (port 0 s) whole.0))

pub array-starts : (values : List ℕ) (s : Streams) → Fits (ArrayKind values) s
    → Stands (Runs (change_steps (referenced_value values)) Wanting) (ArrayKind values) s 0
array-starts values s f =
    let whole : AllStreams (port 0 s ∷ []) = subst AllStreams (sym f.back) f.streams in
    stands-start (change_steps (referenced_value values)) Wanting (ArrayKind values) s f (change-run (referenced_value values) (port 0 s) (IsStream-ends (port 0 s) whole.0))
