-- cast: each token goes to each output. drain: each token is taken, and nothing is put.
use Rattle.std.specs.Prelude.{ℕ, List, [], ◌∷◌}
use Rattle.stream_tokens.specs.declared.Token.{Token}
use Rattle.block_core.specs.Move.{Move, Taking, columns, put_all}
use Rattle.block_core.specs.Ports.{Streams}

abbrev pub cast_outputs : ℕ → List Token → Streams
cast_outputs outs s = columns (λ _. s) 0 outs

abbrev pub cast_moves : ℕ → List Token → List Move
cast_moves outs [] = []
cast_moves outs (t ∷ s) = Taking 0 t ∷ put_all outs t (cast_moves outs s)

abbrev pub drain_moves : List Token → List Move
drain_moves [] = []
drain_moves (t ∷ s) = Taking 0 t ∷ drain_moves s
