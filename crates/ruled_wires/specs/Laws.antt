-- What holds of every wire.
use Rattle.std.specs.Prelude.{◌≡◌, ℕ, true}
use Rattle.crossbeam_channel.specs.Fifo.{Merges}
use Rattle.ruled_wires.specs.declared.known.Known.{Known}
use Rattle.ruled_wires.specs.Rule.{Wire, both_views, no_view}

-- the receiver's view joins the sender's
abbrev pub EndsJoin : Type 0
EndsJoin = (pass other : ℕ) (v w : Known) → v.sends ≡ true → w.takes ≡ true → Merges Wire pass v other w (both_views v w) no_view
