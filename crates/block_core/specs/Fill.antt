-- fill: fibers of coordinates and payloads brought beneath a stream of presence.
use Rattle.std.specs.Prelude.{ℕ, zero, suc, pred, ◌+◌, Bool, true, false, List, [], ◌∷◌, Option, Some, None, get_or}
use mathlib.Core.List.{map}
use Rattle.stream_tokens.specs.declared.Token.{Token}
use Rattle.stream_tokens.specs.declared.Token.TheVariants.{Item, Empty, Stop, Done}
use Rattle.stream_tokens.specs.Nest.{Leaf, leaf, Fiber}
use Rattle.stream_tokens.specs.Flat.{fiber_tokens, flat, fibers_of}
use Rattle.stream_tokens.specs.Shapes.{under}
use Rattle.block_core.specs.Move.{Move, Taking, take_row, put_row, put_all, across, columns}
use Rattle.block_core.specs.Ports.{Streams, port, ports, numbers_of}

-- A fiber that isn't empty, of one port: the stops of the empty fibers before it, its numbers, and its stop.
pub record Chunk : Type 0 where
  pub skipped : List ℕ
  pub items : List ℕ
  pub stop : ℕ

-- What one item of the presence is served: by ports the stops of the empty fibers before; the heads, at least one, each
-- with a number for each port; and by ports the stop after.
pub record Serving : Type 0 where
  pub skips : List (List ℕ)
  pub first : List ℕ
  pub more : List (List ℕ)
  pub stops : List ℕ

-- a place of the presence: an item and what it is served, or nothing
abbrev pub ServedPlace : Type 0
ServedPlace = Option (ℕ × Serving)

pub record Filling : Type 0 where
  pub fibers : List (Fiber ServedPlace)
  -- by ports the stops of the empty fibers after all
  pub tails : List (List ℕ)

-- ---- from the streams

abbrev pub skip : ℕ → List Chunk → List Chunk
skip s [] = []
skip s (c ∷ cs) = record { skipped = s ∷ c.skipped; items = c.items; stop = c.stop } ∷ cs

abbrev pub chunks : List (Fiber ℕ) → List Chunk
chunks [] = []
chunks (([], n) ∷ fs) = skip (pred n) (chunks fs)
chunks (((x ∷ xs), n) ∷ fs) = record { skipped = []; items = x ∷ xs; stop = pred n } ∷ chunks fs

-- the stops of the empty fibers after the last that isn't
abbrev pub tail_before : ℕ → List Chunk → List ℕ → List ℕ
tail_before s [] rest = s ∷ rest
tail_before s (c ∷ cs) rest = rest

abbrev pub tail_of : List (Fiber ℕ) → List ℕ
tail_of [] = []
tail_of (([], n) ∷ fs) = tail_before (pred n) (chunks fs) (tail_of fs)
tail_of (((x ∷ xs), n) ∷ fs) = tail_of fs

-- columns as rows
abbrev pub beside_rows : {A : Type 0} → List A → List (List A) → List (List A)
beside_rows [] rs = []
beside_rows (x ∷ xs) [] = []
beside_rows (x ∷ xs) (r ∷ rs) = (x ∷ r) ∷ beside_rows xs rs

abbrev pub rows : {A : Type 0} → List (List A) → List (List A)
rows [] = []
rows (c ∷ []) = map (λ x. x ∷ []) c
rows (c ∷ d ∷ cs) = beside_rows c (rows (d ∷ cs))

abbrev pub serving_with : List (List ℕ) → List ℕ → List (List ℕ) → Serving
serving_with skips stops [] = record { skips = skips; first = []; more = []; stops = stops }
serving_with skips stops (h ∷ hs) = record { skips = skips; first = h; more = hs; stops = stops }

abbrev pub serving : List Chunk → Serving
serving cs = serving_with (map (λ c. c.skipped) cs) (map (λ c. c.stop) cs) (rows (map (λ c. c.items) cs))

-- each item of the presence gets the next serving
abbrev pub dealt : List Leaf → List Serving → List ServedPlace
dealt [] q = []
dealt (None ∷ ts) q = None ∷ dealt ts q
dealt (Some n ∷ ts) [] = None ∷ dealt ts []
dealt (Some n ∷ ts) (s ∷ q) = Some (n, s) ∷ dealt ts q

abbrev pub undealt : List Leaf → List Serving → List Serving
undealt [] q = q
undealt (None ∷ ts) q = undealt ts q
undealt (Some n ∷ ts) [] = []
undealt (Some n ∷ ts) (s ∷ q) = undealt ts q

abbrev pub deal : List (Fiber Leaf) → List Serving → List (Fiber ServedPlace)
deal [] q = []
deal (f ∷ fs) q = (dealt f.0 q, f.1) ∷ deal fs (undealt f.0 q)

abbrev pub filling : List (Fiber Leaf) → List (List (Fiber ℕ)) → Filling
filling presence ports = record { fibers = deal presence (map serving (rows (map chunks ports))); tails = map tail_of ports }

abbrev pub fill_reading : ℕ → Streams → Filling
fill_reading payloads ins = filling (fibers_of (port 0 ins)) (map numbers_of (ports 1 (suc payloads) ins))

-- ---- the streams

abbrev pub place_leaf : ServedPlace → Leaf
place_leaf None = None
place_leaf (Some s) = Some s.0

abbrev pub place_token : ServedPlace → Token
place_token x = leaf (place_leaf x)

abbrev pub stop_tokens : List ℕ → List Token → List Token
stop_tokens [] rest = rest
stop_tokens (s ∷ ss) rest = Stop s ∷ stop_tokens ss rest

abbrev pub skips_at : Serving → ℕ → List ℕ
skips_at s p = get_or s.skips p []

-- the token of port p of a head, and the stop there after the heads
abbrev pub head_item : ℕ → List ℕ → Token
head_item p h = Item (get_or h p 0)

abbrev pub stop_at : Serving → ℕ → Token
stop_at s p = Stop (get_or s.stops p 0)

abbrev pub served_tokens : ℕ → List ServedPlace → List Token → List Token
served_tokens p [] rest = rest
served_tokens p (None ∷ xs) rest = served_tokens p xs rest
served_tokens p (Some s ∷ xs) rest =
    stop_tokens (skips_at s.1 p) (fiber_tokens (head_item p) (s.1.first ∷ s.1.more) (stop_at s.1 p ∷ served_tokens p xs rest))

abbrev pub tail_at : List (List ℕ) → ℕ → List ℕ
tail_at tails p = get_or tails p []

abbrev pub port_tokens : List (List ℕ) → ℕ → List (Fiber ServedPlace) → List Token
port_tokens tails p [] = stop_tokens (tail_at tails p) (Done ∷ [])
port_tokens tails p (f ∷ fs) = served_tokens p f.0 (port_tokens tails p fs)

abbrev pub port_streams : ℕ → Filling → List (List Token)
port_streams w j = columns (λ p. port_tokens j.tails p j.fibers) 0 w

abbrev pub fill_inputs : ℕ → Filling → Streams
fill_inputs payloads j = flat place_token j.fibers ∷ port_streams (suc payloads) j

-- ---- the function: beneath an item its heads, and nothing beneath nothing

abbrev pub served : ServedPlace → List (List ℕ)
served None = []
served (Some s) = s.1.first ∷ s.1.more

abbrev pub filled_streams : ℕ → List (Fiber (List ℕ)) → List (List Token)
filled_streams w fs = columns (λ p. flat (head_item p) fs) 0 w

abbrev pub fill_outputs : ℕ → Filling → Streams
fill_outputs payloads j = filled_streams (suc payloads) (under served j.fibers)

-- ---- the moves, with w ports of coordinates and payloads

abbrev pub parting_all : ℕ → Bool → List Move → List Move
parting_all w true rest = put_all w (Stop 0) rest
parting_all w false rest = rest

abbrev pub take_stops : ℕ → List ℕ → List Move → List Move
take_stops p [] rest = rest
take_stops p (s ∷ ss) rest = Taking p (Stop s) ∷ take_stops p ss rest

-- from the ports b on, so many: the stops, and then the token, of p, p + 1 and so on
abbrev pub past_takes : (ℕ → List ℕ) → (ℕ → Token) → ℕ → ℕ → ℕ → List Move → List Move
past_takes stops t b p zero rest = rest
past_takes stops t b p (suc n) rest = take_stops b (stops p) (Taking b (t p) ∷ past_takes stops t (b + 1) (suc p) n rest)

abbrev pub head_row : ℕ → List ℕ → List Token
head_row w h = across (λ p. head_item p h) 0 w

abbrev pub more_moves : ℕ → List (List ℕ) → List Move → List Move
more_moves w [] rest = rest
more_moves w (h ∷ hs) rest = take_row 1 (head_row w h) (put_row 0 (head_row w h) (more_moves w hs rest))

abbrev pub serve : ℕ → Serving → List Move → List Move
serve w s rest =
    past_takes (skips_at s) (λ p. head_item p s.first) 1 0 w
    (put_row 0 (head_row w s.first) (more_moves w s.more (take_row 1 (across (stop_at s) 0 w) rest)))

-- the places of a fiber that closes n lists; the flag says whether one was before
abbrev pub fill_places : ℕ → ℕ → Bool → List ServedPlace → List Move → List Move
fill_places w n more [] rest = Taking 0 (Stop (pred n)) ∷ put_all w (Stop n) rest
fill_places w n more (None ∷ xs) rest = Taking 0 Empty ∷ parting_all w more (fill_places w n true xs rest)
fill_places w n more (Some s ∷ xs) rest = Taking 0 (Item s.0) ∷ parting_all w more (serve w s.1 (fill_places w n true xs rest))

abbrev pub fill_moves : ℕ → List (List ℕ) → List (Fiber ServedPlace) → List Move
fill_moves w tails [] = Taking 0 Done ∷ past_takes (tail_at tails) (λ _. Done) 1 0 w (put_all w Done [])
fill_moves w tails (f ∷ fs) = fill_places w f.1 false f.0 (fill_moves w tails fs)
