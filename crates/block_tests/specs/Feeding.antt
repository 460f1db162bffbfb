-- What is left of the whole inputs of a block that runs alone.
use Rattle.std.specs.Prelude.{◌≡◌, ℕ, List, [], ◌++◌, get_or}
use Rattle.std.proofs.Common.{sym, ◌∙◌, ap, append_assoc, append-nil}
use Rattle.std.proofs.lemmas.List.{append_cancel_left}
use Rattle.stream_tokens.specs.declared.Token.{Token}
use Rattle.block_core.specs.Move.{Move, takes}
use Rattle.block_core.specs.Ports.{Streams}
use Rattle.plays.proofs.Moves.{takes-append}

-- just what these moves take is left
abbrev pub Feeds : Streams → List Move → Type 0
Feeds left ms = (p : ℕ) → takes p ms ≡ get_or left p []

-- these moves took what is no longer left
abbrev pub Fed : Streams → List Move → Streams → Type 0
Fed left ms left' = (p : ℕ) → get_or left p [] ≡ takes p ms ++ get_or left' p []

-- ---- the laws of ports; those of an impl can cite only this folder of its own crate

pub fed-then : (a b c : Streams) (xs ys : List Move) → Fed a xs b → Fed b ys c → Fed a (xs ++ ys) c
fed-then a b c xs ys h k p =
    h p ∙ ap (λ (ts : List Token). takes p xs ++ ts) (k p)
    ∙ sym (append_assoc (takes p xs) (takes p ys) (get_or c p []))
    ∙ ap (λ (ts : List Token). ts ++ get_or c p []) (sym (takes-append p xs ys))

pub feeds-after : (a b : Streams) (xs rest : List Move) → Fed a xs b → Feeds a (xs ++ rest) → Feeds b rest
feeds-after a b xs rest h k p =
    append_cancel_left (takes p xs) (takes p rest) (get_or b p []) (sym (takes-append p xs rest) ∙ k p ∙ h p)

pub feeds-comes : (a : Streams) (p : ℕ) (ms : List Move) → Feeds a ms → (more : List Token) × (get_or a p [] ++ more ≡ takes p ms)
feeds-comes a p ms h = ([], append-nil (get_or a p []) ∙ sym (h p))
