use Rattle.std.proofs.Common.{◌≡◌, ◌++◌, map}
use Rattle.std.specs.List.{range_with_len}
use Rattle.stream_model.specs.declared.labels.Attr.TheVariants.{Rank}
use Rattle.custard_fuse.specs.Sharing.{across_label}
use Rattle.custard_fuse.proofs.sharing.push_ranks.Given as goal

abbrev pub invariant-loop-f : goal.invariant-loop-f
invariant-loop-f l =
    l.labels.items ≡ l.fn.labels.items ++ map (λ f. across_label l.upto l.term l.depth (Rank f)) (range_with_len 0 l.f)
