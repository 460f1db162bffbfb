-- The blocks of a draft and the fans of its outputs, as they are read in turn.
use Rattle.std.specs.Prelude.{◌≡◌, ◌<◌, ℕ, List, length, get_or}
use Rattle.std.proofs.Common.{arith, ◌∙◌, ap}
use Rattle.std.proofs.lemmas.List.FromFn.{length-map-range_with_len, get_or-map-range_with_len}
use Rattle.custard_lower.specs.declared.drafts.Made.{Made}
use Rattle.custard_lower.specs.declared.fans.Fan.{Fan}
use Rattle.custard_lower.specs.Drafts.{outputs_of}
use Rattle.custard_lower.specs.Fans.{no_fan}
use Rattle.custard_lower.specs.DraftGraph.{no_made, made_at, fan_of}
use Rattle.custard_lower.specs.DraftFans.{fans_of, fan_at}
use Rattle.custard_lower.proofs.draft.Pushes.{item-read}

-- what is read of a draft is its block
pub block-read : (made items : List Made) (b : ℕ) (m : Made) → items ≡ made → m ≡ get_or items b m → b < length items
    → (b < length made) × (m ≡ made_at made b)
block-read made items b m e is l =
    let number : length items ≡ length made = ap (λ (ms : List Made). length ms) e in
    (omega (arith, number, l), item-read made items b m no_made e is l)

-- each output has a fan
pub fans-number : (made : List Made) → length (fans_of made) ≡ outputs_of made
fans-number made = length-map-range_with_len (fan_of made) 0 (outputs_of made)

-- the fan of an output
pub fan-of-output : (made : List Made) (w : ℕ) → w < outputs_of made → fan_at (fans_of made) w ≡ fan_of made w
fan-of-output made w l = get_or-map-range_with_len (fan_of made) 0 (outputs_of made) w w no_fan l (omega arith)

-- and what is read of the fans is it
pub fan-read : (made : List Made) (fans items : List Fan) (w : ℕ) (f : Fan) → items ≡ fans → fans ≡ fans_of made
    → f ≡ get_or items w f → w < length items → (w < outputs_of made) × (f ≡ fan_of made w)
fan-read made fans items w f e same is l =
    let number : length items ≡ outputs_of made = ap (λ (fs : List Fan). length fs) (e ∙ same) ∙ fans-number made in
    let there : w < outputs_of made = omega (arith, number, l) in
    (there, item-read (fans_of made) items w f no_fan (e ∙ same) is l ∙ fan-of-output made w there)
