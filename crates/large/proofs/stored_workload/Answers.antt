use Rattle.std.proofs.Common.{◌∙◌, ap, sym, slice_get}
use Rattle.large.proofs.stored_workload.Goals as goal

pub storages-requires-clause-may : goal.storages-requires-clause-may
storages-requires-clause-may c = λ k t e at own.
    c.in_ok-large.ensures.stored k t e (ap (λ l. slice_get l k) (sym c.as_slice.ensures) ∙ at) (ap (λ l. slice_get l k) (sym c.as_slice-2.ensures) ∙ own)
