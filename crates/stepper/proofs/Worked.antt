-- Worked cases: a root whose stream is copied to two drains.
use Rattle.std.specs.Prelude.{◌≡◌, ◌<◌, ◌≤◌, ℕ, zero, suc, ◌*◌, Bool, true, false, List, [], ◌∷◌, length, get_or}
use Rattle.std.specs.Prelude.{Option, Some, None, refl}
use Rattle.std.proofs.Common.{arith}
use Rattle.stream_tokens.specs.declared.Token.{Token}
use Rattle.stream_tokens.specs.declared.Token.TheVariants.{Item, Done}
use Rattle.stream_model.specs.declared.labels.Tree.TheVariants as tree
use Rattle.stream_model.specs.declared.labels.Attr.TheVariants as attr
use Rattle.sam_base.specs.declared.faults.Waiting.{Waiting}
use Rattle.block_core.specs.Move.{Taking, Putting}
use Rattle.graph.specs.declared.graphs.Kind.TheVariants.{Root, Cast, Drain}
use Rattle.graph.specs.declared.graphs.Channel.{Channel}
use Rattle.graph.specs.declared.graphs.Graph.{Graph}
use Rattle.graph.specs.WholeStreams.{whole_stream}
use Rattle.plays.specs.Net.{Net, play, start, sum_below}
use Rattle.stepper.specs.Capacity.{IsCapacity, CapacitiesFor}
use Rattle.plays.specs.Held.{Table, at_port}
use Rattle.stepper.specs.NetOf.{net_of, rooms_of}
use Rattle.plays.specs.Told.{one_told, HasLists, Grew, GrewAt}
use Rattle.stepper.specs.Steps.{hindrance}
use Rattle.stepper.specs.Endings.{waiting_list}

abbrev joins : ℕ → ℕ → ℕ → ℕ → Channel
joins from_block from_port to_block to_port = record {
  from_block = from_block;
  from_port = from_port;
  to_block = to_block;
  to_port = to_port;
  label = record { tree = tree.Root; attr = attr.Literal 0 };
}

abbrev fork : Graph
fork = record {
  blocks =
      record { kind = Root; ins = []; outs = 0 ∷ [] }
      ∷ record { kind = Cast 2; ins = 0 ∷ []; outs = 1 ∷ 2 ∷ [] }
      ∷ record { kind = Drain; ins = 1 ∷ []; outs = [] }
      ∷ record { kind = Drain; ins = 2 ∷ []; outs = [] }
      ∷ [];
  channels = joins 0 0 1 0 ∷ joins 1 0 2 0 ∷ joins 1 1 3 0 ∷ [];
}

abbrev net : Net
net = net_of [] fork

-- a capacity of 1 on the first channel
abbrev caps : List (Option ℕ)
caps = Some 1 ∷ None ∷ None ∷ []

-- the moves of the copy
copies : net.moves 1
    ≡ Taking 0 (Item 0) ∷ Putting 0 (Item 0) ∷ Putting 1 (Item 0) ∷ Taking 0 Done ∷ Putting 0 Done ∷ Putting 1 Done ∷ []
copies = refl

-- the root puts one token, and then has to wait for room; a drain waits for a token
waits-for-room : hindrance net (rooms_of caps) (play net (rooms_of caps) start (0 ∷ 0 ∷ [])) 0 ≡ Some (0, true)
waits-for-room = refl

waits-for-a-token : hindrance net (rooms_of caps) start 3 ≡ Some (2, false)
waits-for-a-token = refl

may-go-on : hindrance net (rooms_of []) (play net (rooms_of []) start (0 ∷ [])) 0 ≡ None
may-go-on = refl

-- who is unfinished before the first event, and after the last
abbrev waits_there : ℕ → ℕ → Bool → Waiting
waits_there b c full = record { block = b; channel = c; full = full }

all-wait : waiting_list net start ≡ waits_there 0 0 true ∷ waits_there 1 0 false ∷ waits_there 2 1 false ∷ waits_there 3 2 false ∷ []
all-wait = refl

abbrev whole_play : List ℕ
whole_play = 0 ∷ 1 ∷ 0 ∷ 1 ∷ 1 ∷ 1 ∷ 1 ∷ 1 ∷ 2 ∷ 3 ∷ 2 ∷ 3 ∷ []

none-waits : waiting_list net (play net (rooms_of caps) start whole_play) ≡ []
none-waits = refl

one-is-left : waiting_list net (play net (rooms_of caps) start (0 ∷ 1 ∷ 0 ∷ 1 ∷ 1 ∷ 1 ∷ 1 ∷ 1 ∷ 2 ∷ 2 ∷ 3 ∷ [])) ≡ waits_there 3 2 false ∷ []
one-is-left = refl

-- twelve moves: twice the six tokens of all streams
twelve : (sum_below 4 (play net (rooms_of caps) start whole_play) ≡ 12) × (2 * sum_below 3 (λ c. length (whole_stream [] fork c)) ≡ 12)
twelve = (refl, refl)

-- a tap with a list for each channel
tells : one_told 1 Done (Some ([] ∷ (Item 0 ∷ []) ∷ [])) ≡ Some ([] ∷ (Item 0 ∷ Done ∷ []) ∷ [])
tells = refl

enough-lists : HasLists 2 (Some ([] ∷ [] ∷ []))
enough-lists = omega arith

abbrev told_before : List (List Token)
told_before = [] ∷ (Done ∷ []) ∷ [] ∷ []

abbrev told_after : List (List Token)
told_after = (Item 0 ∷ []) ∷ (Done ∷ Item 0 ∷ []) ∷ [] ∷ []

grew_at : (c : ℕ) → c < 3 → GrewAt net start (play net (rooms_of caps) start (0 ∷ 1 ∷ 1 ∷ [])) c (get_or told_before c []) (get_or told_after c [])
grew_at zero l = (Item 0 ∷ [], refl, refl)
grew_at (suc zero) l = (Item 0 ∷ [], refl, refl)
grew_at (suc (suc zero)) l = ([], refl, refl)
grew_at (suc (suc (suc c))) l = absurd (omega (arith, l))

grew_past : (c : ℕ) → 3 ≤ c → get_or told_after c [] ≡ get_or told_before c []
grew_past zero l = absurd (omega (arith, l))
grew_past (suc zero) l = absurd (omega (arith, l))
grew_past (suc (suc zero)) l = absurd (omega (arith, l))
grew_past (suc (suc (suc c))) l = refl

grew : Grew net start (play net (rooms_of caps) start (0 ∷ 1 ∷ 1 ∷ [])) (Some told_before) (Some told_after)
grew = (refl, grew_at, grew_past)

-- the second port of the first of three blocks, of which the second has none
abbrev table : Table
table = record { first = 0 ∷ 2 ∷ 2 ∷ []; channels = 5 ∷ 7 ∷ 9 ∷ [] }

ports : (at_port table 0 1 ≡ 7) × (at_port table 2 0 ≡ 9)
ports = (refl, refl)

-- a channel without a limit and one of the least; 0 is no capacity
fits : CapacitiesFor 2 (None ∷ Some 1 ∷ [])
fits = (refl, in_range)
  where
    in_range : (k : ℕ) (d : Option ℕ) → k < 2 → IsCapacity (get_or (None ∷ Some 1 ∷ []) k d)
    in_range zero d l = tt
    in_range (suc zero) d l = (omega arith, omega arith)
    in_range (suc (suc k)) d l = absurd (omega (arith, l))

nothing-fits : IsCapacity (Some 0) → ⊥
nothing-fits h = omega (arith, h.0)
