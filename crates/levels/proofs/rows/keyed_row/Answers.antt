-- Each digit is a coordinate, and the rest has the others.
use Rattle.std.proofs.Common.{ℕ, ◌/◌, ◌<◌, ◌≢◌, length, get_or, arith, ap, sym, ◌∙◌, List, below_more, length-set, get_or-set_other, get_or-set_same}
use Rattle.std.specs.Prelude.{slice_index}
use Rattle.std.proofs.lemmas.List.{get_or-map, length-map}
use Rattle.sam_model.specs.Lists.{items_at}
use Rattle.levels.specs.Keys.{digits}
use Rattle.levels.proofs.DigitLemmas.{Step, digit-step, length-digits, front-is}
use Rattle.levels.proofs.rows.keyed_row.Goals as goal

pub overflow_cast-coordinates : goal.overflow_cast-coordinates
overflow_cast-coordinates c =
    let t = c.args.t.now in
    let sizes = items_at t.dims t.order in
    let long = length-map t.order (slice_index t.dims) in
    let inside : c.loop-level.level < length t.order = omega arith in
    let step : Step sizes (digits sizes c.args.key.number) c.loop-level.level c.loop-level.rest (get_or c.args.weights.now c.loop-level.level 0)
    = digit-step sizes (digits sizes c.args.key.number) c.loop-level.level c.loop-level.rest (get_or c.args.weights.now c.loop-level.level 0) (omega arith) (length-digits sizes c.args.key.number)
    (c.requires.weights.each c.loop-level.level inside) (c.requires.weights.some c.loop-level.level inside) c.loop-level.invariant.small c.loop-level.invariant.others in
    let size = get_or-map (slice_index t.dims) t.order c.loop-level.level 0 0 inside in
    let bound = c.requires.storable.sizes (slice_index t.order c.loop-level.level) (c.requires.storable.modes c.loop-level.level inside) in
    let small = step.small in
    omega arith

pub loop-level-preserved : goal.loop-level-preserved
loop-level-preserved c =
    let t = c.args.t.now in
    let sizes = items_at t.dims t.order in
    let long = length-map t.order (slice_index t.dims) in
    let inside : c.loop-level.level < length t.order = omega arith in
    let digit = c.loop-level.rest / get_or c.args.weights.now c.loop-level.level 0 in
    let step : Step sizes (digits sizes c.args.key.number) c.loop-level.level c.loop-level.rest (get_or c.args.weights.now c.loop-level.level 0)
    = digit-step sizes (digits sizes c.args.key.number) c.loop-level.level c.loop-level.rest (get_or c.args.weights.now c.loop-level.level 0) (omega arith) (length-digits sizes c.args.key.number)
    (c.requires.weights.each c.loop-level.level inside) (c.requires.weights.some c.loop-level.level inside) c.loop-level.invariant.small c.loop-level.invariant.others in
    record {
      long = length-set c.loop-level.coordinates c.loop-level.level digit ∙ c.loop-level.invariant.long;
      small = step.left;
      others = step.others;
      same = below_more _ _
          (λ j h. let ne : j ≢ c.loop-level.level = omega arith in rw get_or-set_other (c.loop-level.invariant.same j h))
          (get_or-set_same c.loop-level.coordinates c.loop-level.level digit 0 (let a = c.requires.storable.few in let b = c.requires.storable.levels in let n = c.loop-level.invariant.long in omega arith) ∙ sym step.here);
    }

pub returns : goal.returns
returns c =
    let t = c.args.t.now in
    let sizes = items_at t.dims t.order in
    let long = length-map t.order (slice_index t.dims) in
    let all = length-digits sizes c.args.key.number ∙ long in
    ap (λ (front : List ℕ). (front, c.args.key.value))
    (front-is (length t.order) c.loop-level.coordinates (digits sizes c.args.key.number) all (let a = c.requires.storable.few in let b = c.requires.storable.levels in let n = c.loop-level.invariant.long in omega arith)
    (λ j h. c.loop-level.invariant.same j (omega arith)))
