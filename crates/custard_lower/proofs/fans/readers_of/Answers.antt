use Rattle.std.proofs.Common.{ℕ, [], List, ap, arith, eqb, length, ◌∙◌, get_or}
use Rattle.std.specs.List.{filter}
use Rattle.std.proofs.lemmas.List.{take_all}
use Rattle.std.proofs.lemmas.List.FromFn.{length-map-range_with_len, get_or-map-range_with_len, fill_by_all}
use Rattle.custard_lower.specs.declared.fans.Read.{Read}
use Rattle.custard_lower.proofs.fans.readers_of.Goals as goal

abbrev none : ℕ → List Read
none w = []

pub loop-read-init : goal.loop-read-init
loop-read-init c = record {
  number = ap (λ (rs : List (List Read)). length rs) c.in_ok-readers.ensures ∙ length-map-range_with_len none 0 c.args.outputs;
  each = λ w l.
      ap (λ (rs : List (List Read)). get_or rs w []) c.in_ok-readers.ensures
      ∙ get_or-map-range_with_len none 0 c.args.outputs w w [] l (omega arith);
}

pub returns : goal.returns
returns c =
    fill_by_all (λ w. filter (λ (r : Read). eqb r.output w) c.args.reads.now) c.loop-read.readers.items c.args.outputs []
    c.loop-read.invariant.number
    (λ w l. c.loop-read.invariant.each w l
    ∙ ap (filter (λ (r : Read). eqb r.output w)) (take_all c.loop-read.read-index c.args.reads.now (omega arith)))
