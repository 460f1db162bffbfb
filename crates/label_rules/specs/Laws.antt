-- What holds of labels that the rules allow.
use Rattle.std.specs.Prelude.{◌≡◌, ◌↔◌, true, List, [], length}
use Rattle.sam_model.specs.declared.tensors.Entries.{Entries}
use Rattle.sam_model.specs.declared.program.Program.{Program}
use Rattle.sam_model.specs.Program.{accepted}
use Rattle.stream_model.specs.declared.labels.Label.{Label}
use Rattle.stream_model.specs.Labels.{label_stream}
use Rattle.block_core.specs.Kind.{ins_of, outs_of}
use Rattle.graph.specs.declared.graphs.Kind.{Kind}
use Rattle.graph.specs.declared.graphs.Graph.{Graph}
use Rattle.graph.specs.Meaning.{meaning}
use Rattle.graph.specs.Wiring.{WellFormed}
use Rattle.label_rules.specs.Storages.{storages_of}
use Rattle.label_rules.specs.Rules.{Allowed, allowed}
use Rattle.label_rules.specs.Holding.{EachLabel, Keeps, RulesMet, LabelsHold, Shallow}

-- A block of this kind whose labels are allowed takes the streams of its inputs' labels, which fit it, and gives the streams
-- of its outputs' labels: over every accepted program and all entries of its tensors.
abbrev pub KeepsLabels : Kind → Type 0
KeepsLabels k =
    (p : Program) (es : List Entries) (ins outs : List Label)
    → accepted p ≡ true → length es ≡ length p.tensors → Allowed p k ins outs → EachLabel Shallow ins
    → Keeps (storages_of p es) (label_stream p es) Shallow k ins outs

-- the test of a rule finds just what it says
abbrev pub TestIsExact : Type 0
TestIsExact = (p : Program) (k : Kind) (ins outs : List Label) → (allowed p k ins outs ≡ true) ↔ Allowed p k ins outs

-- labels that are allowed are as many as the kind has ports
abbrev pub PortsAreFilled : Type 0
PortsAreFilled =
    (p : Program) (k : Kind) (ins outs : List Label) → Allowed p k ins outs
    → (length ins ≡ ins_of (meaning [] k)) × (length outs ≡ outs_of (meaning [] k))

-- Where the labels at every block of a well formed graph are allowed, the graph is consistent and over each channel passes
-- the stream of its label.
abbrev pub RulesHold : Type 0
RulesHold =
    (p : Program) (es : List Entries) (g : Graph)
    → accepted p ≡ true → length es ≡ length p.tensors → WellFormed g → RulesMet (Allowed p) g
    → LabelsHold (storages_of p es) (label_stream p es) Shallow g
