-- The states of a scanner over the children at its level.
use Rattle.std.specs.Prelude.{ℕ, suc, ◌+◌, Bool, true, false, ◌&&◌, [], length, get_or, nat_lt, if◌then◌else◌}
use Rattle.stream_tokens.specs.declared.Token.{Token}
use Rattle.stream_tokens.specs.declared.Token.TheVariants.{Item, Empty, Stop, Done}
use Rattle.block_core.specs.declared.Wish.{Wish}
use Rattle.block_core.specs.declared.Wish.TheVariants.{Take, Put, Finished}
use Rattle.block_core.specs.Scan.{Children}
use Rattle.block_core.specs.Runs.{Steps}
use Rattle.scanner.specs.declared.scan_state.Output.{Output}
use Rattle.scanner.specs.declared.scan_state.Output.TheVariants.{Coordinates, References}
use Rattle.scanner.specs.declared.scan_state.ScanState.{ScanState}
use Rattle.scanner.specs.declared.scan_state.ScanState.TheVariants.{Wanting, Parting, Child, Closing, Ended}
use Rattle.scanner.specs.Outputs.{output_port}

-- child n of the parent r: its coordinate and its reference
abbrev pub child_at : Children → ℕ → ℕ → ℕ × ℕ
child_at children r n = get_or (get_or children r []) n (0, 0)

abbrev pub child_number : Children → Output → ℕ → ℕ → ℕ
child_number children Coordinates r n = (child_at children r n).0
child_number children References r n = (child_at children r n).1

abbrev pub scan_wants : Children → ScanState → Wish
scan_wants children (Wanting more) = Take 0
scan_wants children (Parting output t) = Put (output_port output) (Stop 0)
scan_wants children (Child output r n) = Put (output_port output) (Item (child_number children output r n))
scan_wants children (Closing output t) = Put (output_port output) t
scan_wants children Ended = Finished

-- the children of r from n on, if there are any
abbrev pub child_from : Children → ℕ → ℕ → ScanState
child_from children r n = if nat_lt n (length (get_or children r [])) then Child Coordinates r n else Wanting true

-- what a token calls for, once no fiber before it is left to be ended
abbrev pub scan_called_for : Children → Token → ScanState
scan_called_for children (Item r) = child_from children r 0
scan_called_for children Empty = Wanting true
scan_called_for children (Stop n) = Closing Coordinates (Stop (suc n))
scan_called_for children Done = Closing Coordinates Done

abbrev pub token_took : Children → Bool → Token → ScanState
token_took children false t = scan_called_for children t
token_took children true (Item r) = Parting Coordinates (Item r)
token_took children true Empty = Parting Coordinates Empty
token_took children true (Stop n) = Closing Coordinates (Stop (suc n))
token_took children true Done = Parting Coordinates Done

abbrev pub scan_took : Children → ScanState → Token → ScanState
scan_took children (Wanting more) t = token_took children more t
scan_took children (Parting output u) t = Parting output u
scan_took children (Child output r n) t = Child output r n
scan_took children (Closing output u) t = Closing output u
scan_took children Ended t = Ended

abbrev pub closed_with : Token → ScanState
closed_with (Item x) = Wanting false
closed_with Empty = Wanting false
closed_with (Stop n) = Wanting false
closed_with Done = Ended

abbrev pub parting_put : Children → Output → Token → ScanState
parting_put children Coordinates t = Parting References t
parting_put children References t = scan_called_for children t

abbrev pub child_put : Children → Output → ℕ → ℕ → ScanState
child_put children Coordinates r n = Child References r n
child_put children References r n = child_from children r (n + 1)

abbrev pub closing_put : Output → Token → ScanState
closing_put Coordinates t = Closing References t
closing_put References t = closed_with t

abbrev pub scan_put : Children → ScanState → ScanState
scan_put children (Wanting more) = Wanting more
scan_put children (Parting output t) = parting_put children output t
scan_put children (Child output r n) = child_put children output r n
scan_put children (Closing output t) = closing_put output t
scan_put children Ended = Ended

abbrev pub scan_steps : Children → Steps ScanState
scan_steps children = record { wants = scan_wants children; took = scan_took children; put = scan_put children }

-- whether a token can be scanned: a reference is one of the parents, and a stop can be raised
abbrev pub is_scanned : Children → Token → Bool
is_scanned children (Item r) = nat_lt r (length children)
is_scanned children Empty = true
is_scanned children (Stop n) = nat_lt n 255
is_scanned children Done = true

-- whether what a state has to read is there
abbrev pub is_scan_state : Children → ScanState → Bool
is_scan_state children (Wanting more) = true
is_scan_state children (Parting output t) = is_scanned children t
is_scan_state children (Child output r n) = nat_lt r (length children) && nat_lt n (length (get_or children r []))
is_scan_state children (Closing output t) = true
is_scan_state children Ended = true
