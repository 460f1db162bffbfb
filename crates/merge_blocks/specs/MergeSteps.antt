-- The states of a merger of two sides with l and r payloads, and how a take and a put change them.
use Rattle.std.specs.Prelude.{ℕ, zero, suc, ◌+◌, ◌≤◌, ◌<◌, Bool, true, false, List, nat_lt, nat_le, if◌then◌else◌, get_or, set, replicate}
use Rattle.stream_tokens.specs.declared.Token.{Token}
use Rattle.stream_tokens.specs.declared.Token.TheVariants.{Item, Empty, Stop, Done}
use Rattle.block_core.specs.declared.Wish.{Wish}
use Rattle.block_core.specs.declared.Wish.TheVariants.{Take, Put, Finished}
use Rattle.block_core.specs.Runs.{Steps}
use Rattle.merge_blocks.specs.declared.merger.Heads.{Heads}
use Rattle.merge_blocks.specs.declared.merger.Heads.TheVariants.{Left, Right, Both}
use Rattle.merge_blocks.specs.declared.merger.Stage.{Stage}
use Rattle.merge_blocks.specs.declared.merger.Stage.TheVariants.{Taking, Putting, Ended}
use Rattle.merge_blocks.specs.declared.merger.Merger.{Merger}

-- the input ports of heads: the first, and the one after the last
abbrev pub first_port : ℕ → Heads → ℕ
first_port l Left = 0
first_port l Right = l + 1
first_port l Both = 0

abbrev pub end_port : ℕ → ℕ → Heads → ℕ
end_port l r Left = l + 1
end_port l r Right = l + r + 2
end_port l r Both = l + r + 2

-- the heads with the smaller coordinate, where a side without one stands after all coordinates
abbrev pub sooner : Token → Token → Heads
sooner (Item a) (Item b) = if nat_lt a b then Left else if nat_lt b a then Right else Both
sooner (Item a) Empty = Left
sooner (Item a) (Stop n) = Left
sooner (Item a) Done = Left
sooner Empty (Item b) = Right
sooner (Stop n) (Item b) = Right
sooner Done (Item b) = Right
sooner Empty Empty = Both
sooner Empty (Stop n) = Both
sooner Empty Done = Both
sooner (Stop m) Empty = Both
sooner (Stop m) (Stop n) = Both
sooner (Stop m) Done = Both
sooner Done Empty = Both
sooner Done (Stop n) = Both
sooner Done Done = Both

-- the token at an output port of the row of these heads, where the input ports hold these tokens
abbrev pub row_token : ℕ → List Token → Heads → ℕ → Token
row_token l tokens Left p = if nat_le p l then get_or tokens p Empty else Empty
row_token l tokens Right zero = get_or tokens (l + 1) Empty
row_token l tokens Right (suc p) = if nat_le (suc p) l then Empty else get_or tokens (suc p + 1) Empty
row_token l tokens Both p = if nat_le p l then get_or tokens p Empty else get_or tokens (p + 1) Empty

-- what follows where both heads are there: a coordinate of one side alone is put, or passed over
abbrev pub stage_of_one : Bool → ℕ → Heads → Stage
stage_of_one true l heads = Putting heads 0
stage_of_one false l heads = Taking heads (first_port l heads)

abbrev pub choice : Bool → ℕ → Heads → Stage
choice u l Left = stage_of_one u l Left
choice u l Right = stage_of_one u l Right
choice u l Both = Putting Both 0

abbrev pub chosen : Bool → ℕ → List Token → Stage
chosen u l tokens = choice u l (sooner (get_or tokens 0 Empty) (get_or tokens (l + 1) Empty))

-- what follows where the row of both heads was put, of which this is the first token
abbrev pub after_both : Token → Stage
after_both (Item c) = Taking Both 0
after_both Empty = Taking Both 0
after_both (Stop n) = Taking Both 0
after_both Done = Ended

abbrev pub after_row : ℕ → List Token → Heads → Stage
after_row l tokens Left = Taking Left (first_port l Left)
after_row l tokens Right = Taking Right (first_port l Right)
after_row l tokens Both = after_both (get_or tokens 0 Empty)

-- before the take at an input port of these heads, and before the put at an output port of their row
abbrev pub merge_next_take : Bool → ℕ → ℕ → List Token → Heads → ℕ → Stage
merge_next_take u l r tokens heads p = if nat_lt p (end_port l r heads) then Taking heads p else chosen u l tokens

abbrev pub merge_next_put : ℕ → ℕ → List Token → Heads → ℕ → Stage
merge_next_put l r tokens heads p = if nat_lt p (l + r + 1) then Putting heads p else after_row l tokens heads

abbrev pub new_merger : Bool → ℕ → ℕ → Merger
new_merger u l r = record { unites = u; left = l; right = r; stage = Taking Both 0; tokens = replicate 10 Empty }

-- ---- the steps

abbrev pub merge_stage_wants : Merger → Stage → Wish
merge_stage_wants m (Taking heads p) = Take p
merge_stage_wants m (Putting heads p) = Put p (row_token m.left m.tokens heads p)
merge_stage_wants m Ended = Finished

abbrev pub with_token : Merger → Heads → ℕ → List Token → Merger
with_token m heads p tokens = record m { stage = merge_next_take m.unites m.left m.right tokens heads (p + 1); tokens = tokens }

abbrev pub merge_stage_took : Merger → Token → Stage → Merger
merge_stage_took m t (Taking heads p) = with_token m heads p (set m.tokens p t)
merge_stage_took m t (Putting heads p) = m
merge_stage_took m t Ended = m

abbrev pub merge_stage_put : Merger → Stage → Merger
merge_stage_put m (Taking heads p) = m
merge_stage_put m (Putting heads p) = record m { stage = merge_next_put m.left m.right m.tokens heads (p + 1) }
merge_stage_put m Ended = m

abbrev pub merge_wants : Merger → Wish
merge_wants m = merge_stage_wants m m.stage

abbrev pub merge_took : Merger → Token → Merger
merge_took m t = merge_stage_took m t m.stage

abbrev pub merge_put : Merger → Merger
merge_put m = merge_stage_put m m.stage

abbrev pub merge_steps : Steps Merger
merge_steps = record { wants = merge_wants; took = merge_took; put = merge_put }

-- ---- what every merger keeps

-- the next port of a stage, and how many such ports there are
abbrev pub merge_port : Stage → ℕ
merge_port (Taking heads p) = p
merge_port (Putting heads p) = p
merge_port Ended = 0

abbrev pub merge_ports : ℕ → ℕ → Stage → ℕ
merge_ports l r (Taking heads p) = end_port l r heads
merge_ports l r (Putting heads p) = l + r + 1
merge_ports l r Ended = 1

pub record IsMergerState (m : Merger) : Type 0 where
  pub payloads : m.left + m.right ≤ 8
  pub port : merge_port m.stage < merge_ports m.left m.right m.stage
