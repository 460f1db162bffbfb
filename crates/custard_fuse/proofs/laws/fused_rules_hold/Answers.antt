use Rattle.stream_model.specs.Labels.{label_stream}
use Rattle.label_rules.specs.Storages.{storages_of}
use Rattle.label_rules.proofs.rules.Holding.{rules-hold}
use Rattle.custard_fuse.specs.FusedRules.{FusedAllowed, Deep}
use Rattle.custard_fuse.proofs.FusedSound.{fused-sound}
use Rattle.custard_fuse.proofs.laws.fused_rules_hold.Goals as goal

pub returns : goal.returns
returns c = λ p es g ok fused same formed met.
    rules-hold (storages_of p es) (label_stream p es) Deep (FusedAllowed p) (fused-sound p ok fused es same) g formed met
