use Rattle.std.proofs.Common.{◌≡◌, ◌∙◌, ap, sym, refl, slice_get, Some}
use Rattle.std.proofs.lemmas.Option.{slice_get_read}
use Rattle.plays.proofs.Lists.{same_some, set_twice, set_same}
use Rattle.block_threads.proofs.nest.job_at.Goals as goal

pub returns-in_default : goal.returns-in_default
returns-in_default g c =
    let xs = c.args.tasks.now.items in
    let there : slice_get xs c.args.place ≡ Some c.replace.result =
    slice_get_read _ _ c.args.place c.index_mut.result.now refl c.requires c.index_mut.ensures.value ∙ ap (λ z. Some z) (sym c.replace.ensures.value) in
    record {
      job = tt;
      none = (
        set_twice xs c.args.place c.replace.new.dest c.replace.result ∙ set_same xs c.args.place c.replace.result there,
        λ job at. c.in_default.not-Ready job (same_some _ _ (sym there ∙ at)),
      );
    }
