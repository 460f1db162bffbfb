-- The law of chains.
use Rattle.std.specs.Prelude.{◌≡◌, ◌-◌, List, length, slice_get, Some}
use Rattle.sam_model.specs.declared.tensors.Entries.{Entries}
use Rattle.sam_model.specs.declared.tensors.Written.{Written}
use Rattle.sam_model.specs.declared.program.Program.{Program}
use Rattle.sam_model.specs.Chains.{chain_text}
use Rattle.sam_model.specs.Listing.{listing}
use Rattle.sam_model.specs.ResultText.{listing_text}
use Rattle.sam_chain.specs.Running.{IsResultOf}

-- the text of what the last step's tensor lists is what is printed of the chain
abbrev pub LastIsPrinted : Type 0
LastIsPrinted =
    (steps : List Program) (files : List Entries) (p : Program) (w : Written) → slice_get steps (length steps - 1) ≡ Some p
    → IsResultOf steps files (length steps - 1) w → listing_text p.result.order (listing w) ≡ chain_text steps files
