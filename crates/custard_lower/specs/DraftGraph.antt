-- The graph of a draft: the blocks of the draft, then for each output in order its drain or cast, where it needs one. The channels
-- are the outputs of all these blocks in order of block and port.
use Rattle.std.specs.Prelude.{◌<◌, ℕ, ◌+◌, ◌^◌, Bool, not, ◌&&◌, List, [], ◌++◌, length, get_or, take, eqb}
use Rattle.std.specs.List.{All, flat_map, filter, count_by, sum_by, position_or_len, range_with_len}
use mathlib.Core.List.{map}
use Rattle.graph.specs.declared.graphs.Kind.TheVariants.{Drain}
use Rattle.graph.specs.declared.graphs.Block.{Block}
use Rattle.graph.specs.declared.graphs.Channel.{Channel}
use Rattle.graph.specs.declared.graphs.Graph.{Graph}
use Rattle.custard_lower.specs.declared.drafts.Made.{Made}
use Rattle.custard_lower.specs.declared.fans.Read.{Read}
use Rattle.custard_lower.specs.declared.fans.Fan.{Fan}
use Rattle.custard_lower.specs.Drafts.{outputs_of, label_at}
use Rattle.custard_lower.specs.Fans.{no_read, is_single, copies_for, fan_taker, fan_channel, fan_blocks, channel_from, fan_channels}

abbrev pub no_made : Made
no_made = record { kind = Drain; ins = []; labels = [] }

-- the b-th block of a draft
abbrev pub made_at : List Made → ℕ → Made
made_at made b = get_or made b no_made

-- the number of its first output
abbrev pub first_output : List Made → ℕ → ℕ
first_output made b = outputs_of (take b made)

-- ---- who reads what

-- the read of a port of a block that reads such outputs
abbrev pub port_read : ℕ → List ℕ → ℕ → Read
port_read b ins p = record { output = get_or ins p 0; block = b; port = p }

-- the reads of a block in the order of its ports, and those of all blocks in order
abbrev pub port_reads : ℕ → List ℕ → List Read
port_reads b ins = map (port_read b ins) (range_with_len 0 (length ins))

abbrev pub read_at : List Made → ℕ → ℕ → Read
read_at made b p = port_read b (made_at made b).ins p

abbrev pub reads_at : List Made → ℕ → List Read
reads_at made b = port_reads b (made_at made b).ins

abbrev pub reads_of : List Made → List Read
reads_of made = flat_map (reads_at made) (range_with_len 0 (length made))

-- each is of an output that is there
abbrev pub ReadsWithin : List Made → Type 0
ReadsWithin made = All (λ m. All (λ w. w < outputs_of made) m.ins) made

-- so few blocks, outputs and reads that the numbers of the graph's blocks and channels are below 2^32
pub record DraftIsSmall (made : List Made) : Type 0 where
  pub blocks : length made < 2 ^ 31
  pub outputs : outputs_of made < 2 ^ 31
  pub reads : length (reads_of made) < 2 ^ 31

-- the reads of an output
abbrev pub readers : List Made → ℕ → List Read
readers made w = filter (λ r. eqb r.output w) (reads_of made)

-- and the i-th of them
abbrev pub reader : List Made → ℕ → ℕ → Read
reader made w i = get_or (readers made w) i no_read

-- whether two reads are of one port
abbrev pub same_port : Read → Read → Bool
same_port r s = eqb r.block s.block && eqb r.port s.port

-- the place of a read among those of its output
abbrev pub reader_place : List Made → Read → ℕ
reader_place made r = position_or_len (same_port r) (readers made r.output)

-- ---- drains and casts

-- whether an output has one reader, so that it needs neither
abbrev pub has_one : List Made → ℕ → Bool
has_one made w = is_single (readers made w)

-- the number of the drain or cast of an output
abbrev pub ending : List Made → ℕ → ℕ
ending made w = length made + count_by (λ u. not (has_one made u)) (range_with_len 0 w)

-- how many outputs it has, and the number of its first
abbrev pub copies : List Made → ℕ → ℕ
copies made w = copies_for (readers made w)

abbrev pub first_copy : List Made → ℕ → ℕ
first_copy made w = outputs_of made + sum_by (copies made) (range_with_len 0 w)

-- what there is of an output
abbrev pub fan_of : List Made → ℕ → Fan
fan_of made w = record { readers = readers made w; ending = ending made w; first_copy = first_copy made w }

-- ---- the graph

-- what reads an output in the graph
abbrev pub taker : List Made → ℕ → Read
taker made w = fan_taker (fan_of made w) w

-- the channel at the port of a read
abbrev pub channel_to : List Made → Read → ℕ
channel_to made r = fan_channel (fan_of made r.output) r.output (reader_place made r)

-- a block of the draft, with its channels
abbrev pub draft_block : List Made → ℕ → Block
draft_block made b = record {
  kind = (made_at made b).kind;
  ins = map (channel_to made) (reads_at made b);
  outs = range_with_len (first_output made b) (length (made_at made b).labels);
}

-- the drain or cast of an output that needs one
abbrev pub added_blocks : List Made → ℕ → List Block
added_blocks made w = fan_blocks (fan_of made w) w

-- a channel from a block's output port to a read, over which an output of the draft passes
abbrev pub leads : List Made → ℕ → ℕ → Read → ℕ → Channel
leads made b p r w = channel_from b p r (label_at made w)

-- the channels of the outputs of a block
abbrev pub output_channel : List Made → ℕ → ℕ → Channel
output_channel made b p = let w = first_output made b + p in leads made b p (taker made w) w

abbrev pub output_channels : List Made → ℕ → List Channel
output_channels made b = map (output_channel made b) (range_with_len 0 (length (made_at made b).labels))

-- the channels from the cast of an output
abbrev pub copy_channels : List Made → ℕ → List Channel
copy_channels made w = fan_channels (fan_of made w) (label_at made w)

abbrev pub graph_of : List Made → Graph
graph_of made = record {
  blocks =
      map (draft_block made) (range_with_len 0 (length made))
      ++ flat_map (added_blocks made) (range_with_len 0 (outputs_of made));
  channels =
      flat_map (output_channels made) (range_with_len 0 (length made))
      ++ flat_map (copy_channels made) (range_with_len 0 (outputs_of made));
}
