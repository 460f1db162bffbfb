use Rattle.std.proofs.Common.{List, ap, sym, ◌∙◌}
use Rattle.sam_model.specs.declared.tensors.Tensor.{Tensor}
use Rattle.sam_model.specs.Accepted.{is_taken}
use Rattle.program_file.proofs.NameLemmas.{still_names}
use Rattle.program_file.proofs.names.Declared.with.Goals as goal

pub invariant_of-result : goal.invariant_of-result
invariant_of-result c = λ n.
    still_names (λ v. v.items) c.self.inside.names.keys c.insert.new.self.keys c.in_ok-from_slice.field-0 c.in_ok-insert.field-0 c.self.inside.tensors c.args.tensor
    c.in_ok-insert.ensures.added c.in_ok-insert.ensures.keys (c.in_ok-from_slice.ensures.items ∙ c.as_bytes.ensures) c.self.invariant n
    ∙ ap (λ (ts : List Tensor). is_taken n ts) (sym c.in_ok-push.ensures.ok)
