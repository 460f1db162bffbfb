use Rattle.std.proofs.Common.{arith, ap, ◌∙◌, sym, Some, Ok}
use Rattle.sam_io.proofs.PieceLemmas.{grew, begins_more, tells_all}
use Rattle.std.proofs.lemmas.List.{length-take}
use Rattle.sam_io.specs.Outside.{advanced}
use Rattle.sam_io.specs.declared.outside.Failed.{Failed}
use Rattle.sam_io.proofs.whole.read_begun.Goals as goal

pub returns-then-count-eq0-clause-read : goal.returns-then-count-eq0-clause-read
returns-then-count-eq0-clause-read g c =
    let none = c.if-count-eq0.true in
    let given = c.in-Ok.ensures.bytes in
    tells_all _ _ _ _ _ _ c.pieces.invariant.1 c.pieces.invariant.2 c.pieces.invariant.3 (rw none at given)

pub pieces-preserved : goal.pieces-preserved
pieces-preserved g c =
    let inv = c.pieces.invariant in
    let fits = c.in-Ok.ensures.bound.0 in
    let added = grew c.pieces.text c.next.new.buf _ c.append.new.self c.in-Ok.count fits c.in-Ok-append.ensures.ok in (
      omega (arith, fits, added.1, inv.0, c.min-want.ensures, c.next.auto.buf, c.pieces-test.true, c.len-in-pieces.ensures, c.len.ensures, length-take c.min-want.result c.pieces.buf),
      c.in-Ok.ensures.same ∙ inv.1,
      c.in-Ok.ensures.moved ∙ ap (λ p. advanced {E = Failed} p (Ok c.in-Ok.count)) inv.2 ∙ ap (λ k. Some (c.args.name.now, k)) (sym added.1),
      begins_more _ _ _ _ _ _ _ _ fits inv.1 inv.2 inv.3 c.in-Ok.ensures.bytes added.0,
      omega (arith, inv.4, c.in-Ok.ensures.cause.later),
      omega (arith, inv.5, c.in-Ok.ensures.later),
    )
