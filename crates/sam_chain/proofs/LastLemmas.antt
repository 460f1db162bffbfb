-- The text of a chain is that of its last step.
use Rattle.std.proofs.Common.{◌≡◌, ◌-◌, ℕ, zero, suc, List, [], ◌∷◌, length, refl, ap, arith, Some, slice_get}
use Rattle.sam_model.specs.declared.tensors.Entries.{Entries}
use Rattle.sam_model.specs.declared.tensors.Written.{Written}
use Rattle.sam_model.specs.declared.program.Program.{Program}
use Rattle.sam_model.specs.Chains.{chain_text, entries_after}
use Rattle.sam_model.specs.Listing.{listing}
use Rattle.sam_model.specs.ResultText.{listing_text}
use Rattle.sam_chain.specs.Running.{IsResult, IsResultOf, entries_at}

printed : (n : ℕ) (steps : List Program) (files : List Entries) (p : Program) (w : Written) → length steps ≡ suc n → slice_get steps n ≡ Some p
    → IsResult p (entries_at steps files n) w → listing_text p.result.order (listing w) ≡ chain_text steps files
printed n [] files p w long e h = absurd (cc)
printed zero (q ∷ []) files p w long e h = let same : q ≡ p = cc in rw (same, h.listed) refl
printed zero (q ∷ r ∷ steps) files p w long e h = absurd (omega (arith, long))
printed (suc n) (q ∷ []) files p w long e h = absurd (omega (arith, long))
printed (suc n) (q ∷ r ∷ steps) files p w long e h = printed n (r ∷ steps) (entries_after q files) p w (omega (arith, long)) e h

pub last-printed : (steps : List Program) (files : List Entries) (p : Program) (w : Written) → slice_get steps (length steps - 1) ≡ Some p
    → IsResultOf steps files (length steps - 1) w → listing_text p.result.order (listing w) ≡ chain_text steps files
last-printed [] files p w e h = absurd (cc)
last-printed (q ∷ steps) files p w e h =
    let here : IsResult p (entries_at (q ∷ steps) files (length (q ∷ steps) - 1)) w = rw e at h in
    let same : length (q ∷ steps) ≡ suc (length (q ∷ steps) - 1) = omega arith in
    printed (length (q ∷ steps) - 1) (q ∷ steps) files p w same e here
