-- Of each input at most one answer is due.
use Rattle.std.proofs.Common.{◌∙◌, sym, ℕ, List}
use Rattle.sam_model.specs.declared.tensors.Tensor.{Tensor}
use Rattle.sam_model.specs.declared.program.Chain.{Chain}
use Rattle.parts.specs.Parts.{followed, gives, reads}
use Rattle.parts.specs.Answers.{AtMostOne}
use Rattle.parts.proofs.DueLemmas.{one_gives, one_followed, one_reads}
use Rattle.inputs.specs.Programs.{chain_in, accepts, chain_part, only_of, program_part}
use Rattle.inputs.specs.Tensors.{entries_in, storable, tensor_part}

one_accepts : (c : Chain) → AtMostOne (accepts c)
one_accepts c m r s dr ds a b = a.0 ∙ sym b.0

pub one_chain : (name : List ℕ) → AtMostOne (chain_part name)
one_chain name =
    one_followed (reads name) (λ text. followed (gives (chain_in text)) accepts) (one_reads name)
    (λ text. one_followed (gives (chain_in text)) accepts (one_gives (chain_in text)) one_accepts)

pub one_program : (name : List ℕ) → AtMostOne (program_part name)
one_program name =
    one_followed (chain_part name) (λ (c : Chain). gives (only_of c.steps c.lines)) (one_chain name)
    (λ (c : Chain). one_gives (only_of c.steps c.lines))

pub one_tensor : (t : Tensor) → AtMostOne (tensor_part t)
one_tensor t =
    one_followed (reads t.file) (λ text. followed (gives (entries_in t text)) (λ e. gives (storable t.file t e))) (one_reads t.file)
    (λ text. one_followed (gives (entries_in t text)) (λ e. gives (storable t.file t e)) (one_gives (entries_in t text))
    (λ e. one_gives (storable t.file t e)))
