-- Worked rows: the product of two vectors, channel by channel.
use Rattle.std.specs.Prelude.{◌≡◌, ◌<◌, ◌+◌, ◌*◌, ◌/◌, ◌%◌, ℕ, List, [], ◌∷◌, ◌++◌, false, codes, decimal, replicate, Option, Some, None, refl}
use Rattle.std.proofs.Common.{◌∙◌, ap, arith}
use Rattle.std.proofs.lemmas.Fmt.{decimal_digit, decimal_step}
use Rattle.stream_tokens.specs.declared.Token.TheVariants.{Item, Empty, Stop, Done}
use Rattle.sam_model.specs.declared.tensors.Format.TheVariants.{Compressed}
use Rattle.sam_model.specs.declared.tensors.Tensor.{Tensor}
use Rattle.sam_model.specs.declared.tensors.Entries.{Entries}
use Rattle.sam_model.specs.declared.program.Factor.TheVariants.{Access}
use Rattle.sam_model.specs.declared.program.Program.{Program}
use Rattle.traces.specs.Traces.{channel_line, moment}
use Rattle.stream_tokens.specs.declared.Token.{Token}
use Rattle.sam_model.specs.Lists.{below}
use Rattle.graph.specs.WholeStreams.{whole_stream}
use Rattle.plays.specs.Net.{sent}
use Rattle.stepper.specs.NetOf.{net_of}
use Rattle.custard_lower.specs.Lowered.{low, storages_of}
use mathlib.Core.List.{map}

-- ---- decimals

digit : (n : ℕ) → n < 10 → decimal n ≡ (48 + n) ∷ []
digit = decimal_digit

two : (tens ones : ℕ) → 0 < tens → tens < 10 → ones < 10 → decimal (10 * tens + ones) ≡ (48 + tens) ∷ (48 + ones) ∷ []
two tens ones some h k =
    let n : ℕ = 10 * tens + ones in
    let front : n / 10 ≡ tens = omega (arith, h, k) in
    let back : n % 10 ≡ ones = omega (arith, h, k) in
    decimal_step n (omega (arith, some)) (omega (arith, h, k))
    ∙ ap (λ (t : ℕ). decimal t ++ (48 + n % 10) ∷ []) front
    ∙ ap (λ (o : ℕ). decimal tens ++ (48 + o) ∷ []) back
    ∙ ap (λ (ds : List ℕ). ds ++ (48 + ones) ∷ []) (decimal_digit tens h)

-- ---- lines

-- a line with tokens of each sort, and one of a channel on which nothing was sent
line : channel_line 12 (Item 7 ∷ Empty ∷ Stop 1 ∷ Done ∷ []) ≡ codes "12: 7 N S1 D\n"
line = rw (two 1 2 (omega arith) (omega arith) (omega arith), digit 7 (omega arith), digit 1 (omega arith)) refl

empty-line : channel_line 0 [] ≡ codes "0:\n"
empty-line = rw (digit 0 (omega arith)) refl

-- x(i) = b(i) * c(i), over vectors of 4
abbrev vector : Tensor
vector = record { name = []; dims = 4 ∷ []; formats = Compressed ∷ []; order = 0 ∷ []; file = [] }

abbrev product : Program
product = record {
  tensors = vector ∷ vector ∷ [];
  result = vector;
  left = 0 ∷ [];
  terms = record { minus = false; factors = Access 0 (0 ∷ []) ∷ Access 1 (0 ∷ []) ∷ [] } ∷ [];
  tops = [];
  var_names = [] ∷ [];
  var_sizes = 4 ∷ [];
}

abbrev files : List Entries
files =
    record { arity = 1; coords = 0 ∷ 2 ∷ []; values = 2 ∷ 5 ∷ [] }
    ∷ record { arity = 1; coords = 2 ∷ 3 ∷ []; values = 7 ∷ 1 ∷ [] }
    ∷ []

-- its whole streams
all-streams :
    map (whole_stream (storages_of product files) (low product)) (below 15)
    ≡ (Item 0 ∷ Done ∷ [])
    ∷ (Item 0 ∷ Item 2 ∷ Stop 0 ∷ Done ∷ [])
    ∷ (Item 0 ∷ Item 1 ∷ Stop 0 ∷ Done ∷ [])
    ∷ (Item 2 ∷ Item 3 ∷ Stop 0 ∷ Done ∷ [])
    ∷ (Item 0 ∷ Item 1 ∷ Stop 0 ∷ Done ∷ [])
    ∷ (Item 2 ∷ Stop 0 ∷ Done ∷ [])
    ∷ (Item 1 ∷ Stop 0 ∷ Done ∷ [])
    ∷ (Item 0 ∷ Stop 0 ∷ Done ∷ [])
    ∷ (Item 5 ∷ Stop 0 ∷ Done ∷ [])
    ∷ (Item 7 ∷ Stop 0 ∷ Done ∷ [])
    ∷ (Item 35 ∷ Stop 0 ∷ Done ∷ [])
    ∷ (Item 2 ∷ Stop 0 ∷ Done ∷ [])
    ∷ (Item 35 ∷ Stop 0 ∷ Done ∷ [])
    ∷ (Item 0 ∷ Done ∷ [])
    ∷ (Item 0 ∷ Done ∷ [])
    ∷ []
all-streams = refl

-- what was sent after six turns, without limits and with one on each channel
abbrev sent_after : List (Option ℕ) → List (List Token)
sent_after caps =
    map (sent (net_of (storages_of product files) (low product)) (moment (storages_of product files) (low product) caps (0 ∷ 0 ∷ 3 ∷ 10 ∷ 10 ∷ 1 ∷ [])))
    (below 15)

six-turns : sent_after (replicate 15 None) ≡ (Item 0 ∷ Done ∷ []) ∷ replicate 12 [] ++ (Item 0 ∷ []) ∷ [] ∷ []
six-turns = refl

six-turns-with-limits : sent_after (replicate 15 (Some 1)) ≡ (Item 0 ∷ []) ∷ replicate 12 [] ++ (Item 0 ∷ []) ∷ [] ∷ []
six-turns-with-limits = refl
