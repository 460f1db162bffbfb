use Rattle.std.proofs.Common.{subst}
use Rattle.sam_model.specs.declared.tensors.Entries.{Entries}
use Rattle.sam_model.specs.Listing.{listing}
use Rattle.parts.specs.Answers.{ComesAlways}
use Rattle.inputs.specs.Tensors.{storage_part}
use Rattle.sam_chain.proofs.FitLemmas.{listed-fits}
use Rattle.sam_cmd.proofs.chain.stored_result.Goals as goal

pub storage-requires-clause-whole : goal.storage-requires-clause-whole
storage-requires-clause-whole c =
    rw c.in-Ok.ensures (listed-fits c.args.declared.now (listing c.args.w.now) c.requires.formed c.requires.of.below).whole

pub storage-requires-clause-inside : goal.storage-requires-clause-inside
storage-requires-clause-inside c =
    rw c.in-Ok.ensures (listed-fits c.args.declared.now (listing c.args.w.now) c.requires.formed c.requires.of.below).in_range

pub returns-in-Ok : goal.returns-in-Ok
returns-in-Ok c =
    let t = c.args.declared.now in
    subst (λ (e : Entries). ComesAlways (storage_part t.name t e) c.storage.result) c.in-Ok.ensures c.storage.ensures
