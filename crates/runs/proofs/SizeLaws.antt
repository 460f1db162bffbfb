-- The laws of how much room a run needs.
use Rattle.std.proofs.Common.{◌≡◌, ◌∙◌, ℕ, List, length, ap, sym, refl, Ok}
use Rattle.sam_base.specs.declared.TheConstants.{CAPACITY_MOST}
use Rattle.sam_base.specs.declared.faults.Waiting.{Waiting}
use Rattle.sam_model.specs.declared.tensors.Entries.{Entries}
use Rattle.sam_model.specs.declared.program.Program.{Program}
use Rattle.graph.specs.declared.graphs.Graph.{Graph}
use Rattle.plays.specs.Net.{Net, Wired, Suffices}
use Rattle.stepper.specs.NetOf.{net_of}
use Rattle.stepper.proofs.GraphLaws.{graphs-are-wired}
use Rattle.sam_sizing.specs.declared.least.Least.{Least}
use Rattle.sam_sizing.specs.declared.least.Least.TheVariants.{Found, Above}
use Rattle.sam_sizing.specs.Least.{IsLeast}
use Rattle.sam_sizing.proofs.Tried.{stalls-not-suffices}
use Rattle.sam_sizing.proofs.OneLeast.{one-least, some-least}
use Rattle.custard_lower.specs.Lowered.{Computes, storages_of}
use Rattle.runs.specs.Sizes.{SizesTo, size_text, size_answer}
use Rattle.runs.specs.Laws.{SizesToOneAnswer, SufficingIsSized}
use Rattle.runs.proofs.RunLaws.{consistent-over}

module _ (p : Program) (g : Graph) (es : List Entries) (computes : Computes p g) (each : length es ≡ length p.tensors) where
  abbrev net : Net
  net = net_of (storages_of p es) g

  pub net-wired : Wired net
  net-wired = graphs-are-wired (storages_of p es) g computes.formed (consistent-over p g es computes each)

  -- the least capacity of a net on which the largest one suffices
  found : Suffices net CAPACITY_MOST → (least : Least) × IsLeast net CAPACITY_MOST least →
      (capacity : ℕ) × (below : List Waiting) × SizesTo p g es (Ok (size_text capacity below))
  found enough (Found capacity below, is) = (
    capacity,
    below,
    record { computes = computes; each = each; least = Found capacity below; is_least = is; answered = refl },
  )
  found enough (Above list, stalls) = absurd (stalls-not-suffices net CAPACITY_MOST list stalls enough)

pub sizes-to-one-answer : SizesToOneAnswer
sizes-to-one-answer p g es a b sa sb =
    let same =
    one-least (net_of (storages_of p es) g) CAPACITY_MOST (net-wired p g es sa.computes sa.each) sa.least sb.least sa.is_least
    sb.is_least in
    sa.answered ∙ ap size_answer same ∙ sym sb.answered

pub sufficing-is-sized : SufficingIsSized
sufficing-is-sized p g es computes each enough =
    found p g es computes each enough (some-least (net_of (storages_of p es) g) 1048575 (net-wired p g es computes each))
