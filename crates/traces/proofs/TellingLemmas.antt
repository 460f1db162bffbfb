-- What a tap was told since the start, and what that is of the whole streams.
use Rattle.std.proofs.Common.{◌≡◌, ◌∙◌, ◌<◌, ℕ, ap, sym, refl, List, [], ◌++◌, get_or, Some, length, take}
use Rattle.std.proofs.Math.Seq.{take-append_seam}
use Rattle.stream_tokens.specs.declared.Token.{Token}
use Rattle.std.specs.Prelude.{Option}
use Rattle.sam_model.specs.declared.tensors.Entries.{Entries}
use Rattle.sam_model.specs.declared.program.Program.{Program}
use Rattle.sam_model.specs.Children.{Ranked}
use Rattle.inputs.specs.Tensors.{AreStored}
use Rattle.graph.specs.declared.graphs.Graph.{Graph}
use Rattle.plays.specs.Net.{Net, State, Finished, start, sent}
use Rattle.machines.specs.Runnable.{Runnable}
use Rattle.plays.specs.Told.{Grew}
use Rattle.graph.specs.WholeStreams.{whole_stream}
use Rattle.stepper.specs.NetOf.{net_of}
use Rattle.stepper.proofs.GraphLaws.{always-part-way, all-is-sent}
use Rattle.traces.specs.Traces.{moment, lines_of, streams_text, moment_text, streams_of, moment_of}
use Rattle.traces.specs.Laws.{MomentsAreBeginnings}
use Rattle.traces.proofs.LineLemmas.{lines-alike}

-- A tap whose lists were empty at the start has just what was sent.
pub told-is-sent : (net : Net) (s : State) (old new : List (List Token)) → ((c : ℕ) → get_or old c [] ≡ []) → Grew net start s (Some old) (Some new)
    → (c : ℕ) → c < net.channels → get_or new c [] ≡ sent net s c
told-is-sent net s old new empty grew c inside =
    let more = grew.1 c inside in
    more.2 ∙ ap (λ (ts : List Token). ts ++ more.0) (empty c) ∙ sym more.1

-- the first part of a list is as many items of the whole
take-part : (xs ys zs : List Token) → xs ++ ys ≡ zs → xs ≡ take (length xs) zs
take-part xs ys zs whole = sym (take-append_seam xs ys) ∙ ap (take (length xs)) whole

pub moments-are-beginnings : MomentsAreBeginnings
moments-are-beginnings storages g caps schedule runnable =
    let net = net_of storages g in
    let there : State = moment storages g caps schedule in
    lines-alike (length g.channels) (sent net there) (λ c. take (length (sent net there c)) (whole_stream storages g c))
    (λ c inside.
    let part = always-part-way storages g caps there runnable.formed runnable.consistent (schedule, refl) c inside in
    take-part (sent net there c) part.put.0 (whole_stream storages g c) part.put.1)

module _ (storages : List Ranked) (g : Graph) (s : State) where
  -- the lines of all channels, as such a tap tells them
  pub told-lines : (channels : ℕ) (old new : List (List Token)) → channels ≡ length g.channels → ((c : ℕ) → get_or old c [] ≡ [])
      → Grew (net_of storages g) start s (Some old) (Some new)
      → lines_of channels (λ c. get_or new c []) ≡ lines_of (length g.channels) (sent (net_of storages g) s)
  told-lines channels old new number empty grew =
      ap (λ (n : ℕ). lines_of n (λ c. get_or new c [])) number
      ∙ lines-alike (length g.channels) (λ c. get_or new c []) (sent (net_of storages g) s) (told-is-sent (net_of storages g) s old new empty grew)

  -- at the end they are the whole streams
  pub all-lines : Runnable storages g → Finished (net_of storages g) s
      → lines_of (length g.channels) (sent (net_of storages g) s) ≡ streams_text storages g
  all-lines runnable finished =
      lines-alike (length g.channels) (sent (net_of storages g) s) (whole_stream storages g)
      (all-is-sent storages g s runnable.formed runnable.consistent finished)

module _ (p : Program) (g : Graph) (entries : List Entries) (storages : List Ranked) (stored : AreStored p.tensors entries storages) where
  -- over what is stored, a graph gives the texts of the program's entries
  pub streams-of-program : streams_text storages g ≡ streams_of p g entries
  unfolding streams_of
  streams-of-program = ap (λ (s : List Ranked). streams_text s g) stored.are_stored

  pub moment-of-program : (caps : List (Option ℕ)) (schedule : List ℕ) → moment_text storages g caps schedule ≡ moment_of p g entries caps schedule
  unfolding moment_of
  moment-of-program caps schedule = ap (λ (s : List Ranked). moment_text s g caps schedule) stored.are_stored
