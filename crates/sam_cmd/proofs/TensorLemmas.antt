-- Answers over tensors that were read and stored.
use Rattle.std.proofs.Common.{ℕ, List}
use Rattle.std.specs.Prelude.{Result, Ok, Err}
use Rattle.sam_base.specs.declared.faults.Fault.{Fault}
use Rattle.sam_io.specs.Spans.{FilesSpan}
use Rattle.sam_model.specs.declared.tensors.Tensor.{Tensor}
use Rattle.sam_model.specs.declared.tensors.Entries.{Entries}
use Rattle.sam_model.specs.Children.{Ranked}
use Rattle.parts.specs.Parts.{Part, followed, each_part}
use Rattle.parts.specs.Answers.{AtMostOne, Comes, ComesAlways}
use Rattle.parts.proofs.ChainLemmas.{comes_first, comes_then}
use Rattle.parts.proofs.DueLemmas.{one_followed, one_each}
use Rattle.inputs.specs.Tensors.{tensor_part, stored_part, AreStored}
use Rattle.inputs.proofs.OneInput.{one_tensor}
use Rattle.inputs.proofs.TensorLemmas.{all_stored_ok, comes_read}

module _ (ts : List Tensor) (text : List Entries → Part (List ℕ)) where
  -- a tensor was refused
  pub comes_refused : (files : FilesSpan) (f : Fault) → Comes (each_part stored_part ts) files (Err f) →
      Comes (followed (each_part tensor_part ts) text) files (Err f)
  comes_refused files f refused = comes_first (each_part tensor_part ts) text files f (comes_read files ts f refused)

  -- all were stored, and an answer came over the entries that they were stored from
  pub comes_over : (files : FilesSpan) (storages : List Ranked) (r : Result (List ℕ) Fault) →
      each_part stored_part ts files.told (Ok storages) →
      ((es : List Entries) → AreStored ts es storages → ComesAlways (text es) r) →
      Comes (followed (each_part tensor_part ts) text) files r
  comes_over files storages r stored next =
      let all = all_stored_ok files.told ts storages stored in
      comes_then (each_part tensor_part ts) text files all.0 r all.1 (next all.0 (record { each = all.2; are_stored = all.3 }))

  pub one_over : ((es : List Entries) → AtMostOne (text es)) → AtMostOne (followed (each_part tensor_part ts) text)
  one_over one = one_followed (each_part tensor_part ts) text (one_each tensor_part one_tensor ts) one
