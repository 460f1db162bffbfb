-- Where a run stands as the tuple of its parts, so that a proof tells two apart.
use Rattle.std.specs.Prelude.{ℕ, List, Option, refl}
use Rattle.std.specs.Coded.{Coded, code_by, coded×, coded_list, coded_option, coded_ℕ}
use Rattle.sam_model.specs.contracts.program.Program as program
use Rattle.sam_model.specs.contracts.tensors.Entries as entries
use Rattle.sam_model.specs.contracts.tensors.Written as written
use Rattle.sam_model.specs.declared.program.Program.{Program}
use Rattle.sam_model.specs.declared.tensors.Entries.{Entries}
use Rattle.sam_model.specs.declared.tensors.Written.{Written}
use Rattle.sam_chain.specs.Running.{Running}

abbrev pub Parts : Type 0
Parts = List Program × (List Entries × (ℕ × Option Written))

abbrev pub coded_parts : Coded Parts
coded_parts = coded× (coded_list program.the_row.coded) (coded× (coded_list entries.the_row.coded) (coded× coded_ℕ (coded_option written.the_row.coded)))

abbrev pub running_code : Coded Running
running_code =
    code_by Parts coded_parts (λ r. (r.steps, (r.files, (r.step, r.last)))) (λ p. record { steps = p.0; files = p.1.0; step = p.1.1.0; last = p.1.1.1 }) (λ _. refl)
