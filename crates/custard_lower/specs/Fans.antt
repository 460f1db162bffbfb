-- The readers of an output of a draft, with its drain or cast: a drain where nothing reads it, and a cast with as many outputs
-- where it has two or more readers.
use Rattle.std.specs.Prelude.{ℕ, zero, suc, ◌+◌, Bool, cond, List, [], ◌∷◌, length, get_or, eqb}
use Rattle.std.specs.List.{range_with_len}
use mathlib.Core.List.{map}
use Rattle.stream_model.specs.declared.labels.Label.{Label}
use Rattle.graph.specs.declared.graphs.Kind.{Kind}
use Rattle.graph.specs.declared.graphs.Kind.TheVariants.{Drain, Cast}
use Rattle.graph.specs.declared.graphs.Block.{Block}
use Rattle.graph.specs.declared.graphs.Channel.{Channel}
use Rattle.custard_lower.specs.declared.fans.Read.{Read}
use Rattle.custard_lower.specs.declared.fans.Fan.{Fan}

abbrev pub no_read : Read
no_read = record { output = 0; block = 0; port = 0 }

abbrev pub no_fan : Fan
no_fan = record { readers = []; ending = 0; first_copy = 0 }

-- whether an output with these readers has just one, so that it needs no drain and no cast
abbrev pub is_single : List Read → Bool
is_single readers = eqb (length readers) 1

-- how many outputs its drain or cast has
abbrev pub copies_for : List Read → ℕ
copies_for readers = cond (is_single readers) 0 (length readers)

-- what reads output w in the graph: its one reader, or its drain or cast
abbrev pub fan_taker : Fan → ℕ → Read
fan_taker f w = cond (is_single f.readers) (get_or f.readers 0 no_read) (record { output = w; block = f.ending; port = 0 })

-- the channel to a reader that has so many before it
abbrev pub fan_channel : Fan → ℕ → ℕ → ℕ
fan_channel f w place = cond (is_single f.readers) w (f.first_copy + place)

-- the drain or cast, by the number of readers
abbrev pub ending_kind : ℕ → Kind
ending_kind zero = Drain
ending_kind (suc n) = Cast (suc n)

-- the drain or cast of output w
abbrev pub fan_block : Fan → ℕ → Block
fan_block f w = record {
  kind = ending_kind (length f.readers);
  ins = w ∷ [];
  outs = range_with_len f.first_copy (length f.readers);
}

-- it, or nothing where the output needs neither
abbrev pub fan_blocks : Fan → ℕ → List Block
fan_blocks f w = cond (is_single f.readers) [] (fan_block f w ∷ [])

-- a channel from an output port to a read
abbrev pub channel_from : ℕ → ℕ → Read → Label → Channel
channel_from b p r label = record { from_block = b; from_port = p; to_block = r.block; to_port = r.port; label = label }

-- the channels from the cast of an output with this label
abbrev pub copy_from : Fan → Label → ℕ → Channel
copy_from f label i = channel_from f.ending i (get_or f.readers i no_read) label

abbrev pub fan_channels : Fan → Label → List Channel
fan_channels f label = map (copy_from f label) (range_with_len 0 (copies_for f.readers))
