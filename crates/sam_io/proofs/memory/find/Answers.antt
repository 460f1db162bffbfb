use Rattle.std.proofs.Common.{sym, ◌∙◌, ap}
use Rattle.std.specs.Prelude.{nat_eq}
use Rattle.std.specs.Cmp.Lexicographic.{pointwise}
use Rattle.sam_io.proofs.FoundLemmas.{found}
use Rattle.sam_io.proofs.memory.find.Goals as goal

pub returns-then-eq : goal.returns-then-eq
returns-then-eq c =
    let same = sym (c.if-eq.ensures ∙ ap (λ n. pointwise nat_eq n c.args.name.now) (c.as_bytes.ensures ∙ ap (λ f. f.0) (sym c.index-files-k.is))) in
    found c.args.files.now c.args.name.now c.loop-k.k c.index-files-k.result c.loop-k-test.true c.index-files-k.is same c.loop-k.invariant
