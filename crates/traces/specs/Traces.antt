-- What passes over the channels of a graph, as text.
use Rattle.std.specs.Prelude.{ℕ, List, ◌∷◌, ◌++◌, length, take, decimal, codes, Option}
use Rattle.std.specs.List.{flat_map}
use Rattle.stream_tokens.specs.declared.Token.{Token}
use Rattle.stream_tokens.specs.Texts.{token_bytes}
use Rattle.sam_model.specs.declared.tensors.Entries.{Entries}
use Rattle.sam_model.specs.declared.program.Program.{Program}
use Rattle.sam_model.specs.Children.{Ranked}
use Rattle.sam_model.specs.Lists.{below}
use Rattle.graph.specs.declared.graphs.Graph.{Graph}
use Rattle.graph.specs.WholeStreams.{whole_stream}
use Rattle.plays.specs.Net.{State, start, play, sent}
use Rattle.stepper.specs.NetOf.{net_of, rooms_of}
use Rattle.custard_lower.specs.Lowered.{storages_of}

-- each token behind a space
abbrev pub spaced_tokens : List Token → List ℕ
spaced_tokens tokens = flat_map (λ (t : Token). 32 ∷ token_bytes t) tokens

-- the line of a channel: its number and a colon, and then its tokens
abbrev pub channel_line : ℕ → List Token → List ℕ
channel_line c tokens = decimal c ++ codes ":" ++ spaced_tokens tokens ++ codes "\n"

-- a line for each of so many channels, ascending
abbrev pub lines_of : ℕ → (ℕ → List Token) → List ℕ
lines_of channels tokens = flat_map (λ c. channel_line c (tokens c)) (below channels)

module _ (storages : List Ranked) (g : Graph) where
  -- all channels with their whole streams
  abbrev pub streams_text : List ℕ
  streams_text = lines_of (length g.channels) (whole_stream storages g)

  -- the state in which a schedule ends that is played from the start under these capacities
  abbrev pub moment : List (Option ℕ) → List ℕ → State
  moment caps schedule = play (net_of storages g) (rooms_of caps) start schedule

  -- all channels with the tokens that were sent until then
  abbrev pub moment_text : List (Option ℕ) → List ℕ → List ℕ
  moment_text caps schedule = lines_of (length g.channels) (sent (net_of storages g) (moment caps schedule))

  -- the same, as the beginnings of whole streams: as many tokens as were put until then
  abbrev pub beginnings_text : List (Option ℕ) → List ℕ → List ℕ
  beginnings_text caps schedule =
      lines_of (length g.channels) (λ c. take (length (sent (net_of storages g) (moment caps schedule) c)) (whole_stream storages g c))

module _ (p : Program) (g : Graph) (entries : List Entries) where
  -- the same two over a program's entries
  unfoldable pub streams_of : List ℕ
  streams_of = streams_text (storages_of p entries) g

  unfoldable pub moment_of : List (Option ℕ) → List ℕ → List ℕ
  moment_of caps schedule = moment_text (storages_of p entries) g caps schedule
