-- The exit status of a fault, and what is said of it.
use Rattle.std.specs.Prelude.{ℕ, Bool, List, [], ◌∷◌, ◌++◌, codes, decimal, if◌then◌else◌}
use Rattle.sam_base.specs.declared.faults.Fault.{Fault}
use Rattle.sam_base.specs.declared.faults.Fault.TheVariants.{Usage, Missing, ReadFault, Program, Schedule, TooManyBlocks, NoSuchChannel, Graph, NotVerified, Tensor, Stalled, ResultTooLarge, WriteFault, OutOfMemory}
use Rattle.sam_base.specs.declared.faults.Rule.{Rule}
use Rattle.sam_base.specs.declared.faults.Rule.TheVariants as rule
use Rattle.sam_base.specs.declared.faults.Waiting.{Waiting}
use Rattle.sam_base.specs.Kinds.{program_kind, tns_kind, rule_kind}

-- the exit status of a fault
abbrev pub status_of : Fault → ℕ
status_of Usage = 2
status_of (Missing name) = 5
status_of (ReadFault name) = 6
status_of (Program kind line) = 3
status_of (Schedule line) = 3
status_of (TooManyBlocks blocks) = 3
status_of (NoSuchChannel channel) = 3
status_of Graph = 3
status_of (Tensor name kind line) = 4
status_of (Stalled blocks) = 8
status_of WriteFault = 7
status_of OutOfMemory = 9
status_of ResultTooLarge = 10
status_of (NotVerified broken at) = 11

-- a line of text
abbrev pub text_line : List ℕ → List ℕ
text_line text = text ++ 10 ∷ []

-- where a rule of graphs fails
abbrev pub place_of : Rule → List ℕ
place_of rule.Stray = codes "sam: graph channel "
place_of rule.Ports = codes "sam: graph block "
place_of rule.Cycle = codes "sam: graph block "
place_of rule.Writers = codes "sam: graph block "
place_of rule.Labels = codes "sam: graph block "

-- why a block waits on a channel
abbrev pub state_of : Bool → List ℕ
state_of full = if full then codes " full channel " else codes " empty channel "

-- one waiting block, behind a head
abbrev pub waiting_line : List ℕ → Waiting → List ℕ
waiting_line head w = (head ++ decimal w.block) ++ text_line (state_of w.full ++ decimal w.channel)

-- the waiting blocks, a line each behind the same head
abbrev pub waiting_lines : List ℕ → List Waiting → List ℕ
waiting_lines head [] = []
waiting_lines head (w ∷ ws) = waiting_line head w ++ waiting_lines head ws

-- what is said of a fault
abbrev pub text_of : Fault → List ℕ
text_of Usage = text_line (codes "sam: usage: sam COMMAND SUBJECT [GRAPH] [--capacity N] [--of C=N,..] [--schedule FILE] [--fused]")
text_of (Missing name) = text_line (codes "sam: missing " ++ name)
text_of (ReadFault name) = text_line (codes "sam: read fault " ++ name)
text_of (Program kind line) = text_line (codes "sam: program line " ++ decimal line ++ codes ": " ++ program_kind kind)
text_of (Schedule line) = text_line (codes "sam: schedule line " ++ decimal line)
text_of (TooManyBlocks blocks) = text_line (codes "sam: " ++ decimal blocks ++ codes " blocks")
text_of (NoSuchChannel channel) = text_line (codes "sam: no channel " ++ decimal channel)
text_of Graph = text_line (codes "sam: graph refused")
text_of (NotVerified broken at) = text_line (place_of broken ++ decimal at ++ codes ": " ++ rule_kind broken)
text_of (Tensor name kind line) =
    text_line (codes "sam: " ++ name ++ codes " line " ++ decimal line ++ codes ": " ++ tns_kind kind)
text_of (Stalled blocks) = waiting_lines (codes "sam: stalled: block ") blocks
text_of ResultTooLarge = text_line (codes "sam: result too large")
text_of WriteFault = text_line (codes "sam: write fault")
text_of OutOfMemory = text_line (codes "sam: out of memory")
