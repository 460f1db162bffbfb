-- Of the verdict on a graph at most one answer is due, and that on a lowered graph.
use Rattle.std.proofs.Common.{◌≡◌, ◌∙◌, ℕ, List, ap, sym, true}
use Rattle.sam_model.specs.declared.program.Program.{Program}
use Rattle.sam_model.specs.Program.{accepted}
use Rattle.graph.specs.declared.graphs.Graph.{Graph}
use Rattle.custard_lower.specs.Lowered.{low}
use Rattle.graph_check.proofs.WholeVerdicts.{one-verdict, lowered-verdict, lowered-fulfils}
use Rattle.parts.specs.Parts.{gives, reads}
use Rattle.parts.specs.Answers.{AtMostOne}
use Rattle.parts.proofs.DueLemmas.{one_gives, one_followed, one_reads}
use Rattle.verdicts.specs.Verifying.{graph_read, graph_part, verdict_answer, verdict_part, verification_part, IsVerified}

one_graph : (name : List ℕ) (p : Program) → AtMostOne (graph_part name p)
one_graph name p = one_followed (reads name) (λ text. gives (graph_read p text)) (one_reads name) (λ text. one_gives (graph_read p text))

one_answered : (p : Program) (g : Graph) → AtMostOne (verdict_part p g)
one_answered p g m r s due other a b =
    a.answered ∙ ap verdict_answer (one-verdict p g a.verdict b.verdict a.exact b.exact) ∙ sym b.answered

pub one_verification : (name : List ℕ) (p : Program) → AtMostOne (verification_part name p)
one_verification name p = one_followed (graph_part name p) (verdict_part p) (one_graph name p) (one_answered p)

pub lowered-is-verified : (p : Program) → accepted p ≡ true → IsVerified p (low p)
lowered-is-verified p is = record { exact = lowered-verdict p is; fulfils = lowered-fulfils p is }
