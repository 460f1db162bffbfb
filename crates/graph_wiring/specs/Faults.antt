-- Which rule on its wiring a graph breaks first, and where.
use Rattle.std.specs.Prelude.{◌<◌, ℕ, Option, Some, None, length}
use Rattle.graph.specs.declared.graphs.Graph.{Graph}
use Rattle.graph.specs.Joined.{BlockFits, ChannelFits}
use Rattle.graph.specs.First.{FailsFirst}
use Rattle.graph_wiring.specs.Leading.{FirstOnCycle}
use Rattle.graph_wiring.specs.declared.faults.WiringFault.{WiringFault}
use Rattle.graph_wiring.specs.declared.faults.WiringFault.TheVariants.{Ports, Stray, Cycle}

abbrev pub AllBlocksFit : Graph → Type 0
AllBlocksFit g = (b : ℕ) → b < length g.blocks → BlockFits g b

abbrev pub AllChannelsFit : Graph → Type 0
AllChannelsFit g = (c : ℕ) → c < length g.channels → ChannelFits g c

-- the rules before this one hold, and it fails here and at no lower number
abbrev pub FailsAt : Graph → WiringFault → Type 0
FailsAt g (Ports b) = FailsFirst (BlockFits g) (length g.blocks) (Some b)
FailsAt g (Stray c) = AllBlocksFit g × FailsFirst (ChannelFits g) (length g.channels) (Some c)
FailsAt g (Cycle b) = AllBlocksFit g × AllChannelsFit g × FirstOnCycle g (Some b)

-- the three rules hold; or this is the first that fails, and where
abbrev pub IsWiringFault : Graph → Option WiringFault → Type 0
IsWiringFault g None = AllBlocksFit g × AllChannelsFit g × FirstOnCycle g None
IsWiringFault g (Some fault) = FailsAt g fault
