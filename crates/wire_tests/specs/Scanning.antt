-- The streams of a scanner that scans the children of the root.
use Rattle.std.specs.Prelude.{List, [], ◌∷◌}
use Rattle.stream_tokens.specs.declared.Token.{Token}
use Rattle.stream_tokens.specs.declared.Token.TheVariants.{Item, Done}
use Rattle.block_core.specs.Kind.{ScanKind, outputs}
use Rattle.block_core.specs.Scan.{Children}

-- the reference of the root alone
abbrev pub root_reference : List Token
root_reference = Item 0 ∷ Done ∷ []

-- the input of such a scanner, and its outputs
abbrev pub scanned : Children → List (List Token)
scanned children = root_reference ∷ outputs (ScanKind children) (root_reference ∷ [])
