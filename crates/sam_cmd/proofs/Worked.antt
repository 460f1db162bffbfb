-- What is asked, and which commands take no threads, by hand.
use Rattle.std.proofs.Common.{◌≡◌, refl, codes}
use Rattle.std.specs.Prelude.{ℕ, List, Ok, Err, Some, None}
use Rattle.sam_base.specs.declared.faults.Fault.TheVariants.{Usage}
use Rattle.words.specs.declared.asking.Lowering.TheVariants.{Plain, Fused}
use Rattle.words.specs.declared.asking.Command.TheVariants.{Check, Lower, Run}
use Rattle.parts.specs.Parts.{Part, gives}
use Rattle.sam_cmd.specs.Commands.{asked_or_usage, check_part, lower_part, serial_text_part}

asked : asked_or_usage (Some (Check (codes "p.sam"))) ≡ Ok (Check (codes "p.sam"))
asked = refl

no_usage : asked_or_usage None ≡ Err Usage
no_usage = refl

without_threads : ◌≡◌ {A = Part (List ℕ)} (serial_text_part (Check (codes "p.sam"))) (check_part (codes "p.sam"))
without_threads = refl

with_threads : ◌≡◌ {A = Part (List ℕ)} (serial_text_part (Run (codes "p.sam") Plain (Some 4))) (gives (Err Usage))
with_threads = refl

by_the_chosen_lowering : ◌≡◌ {A = Part (List ℕ)} (serial_text_part (Lower (codes "p.sam") Fused)) (lower_part (codes "p.sam") Fused)
by_the_chosen_lowering = refl
