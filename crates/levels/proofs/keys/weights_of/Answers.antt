-- A level inside the ones before it has the weight of all levels inside it.
use Rattle.std.proofs.Common.{rules, ◌≡◌, ℕ, ◌+◌, ◌-◌, ◌*◌, ◌<◌, length, drop, get_or, arith, ap, sym, ◌∙◌, length-set}
use Rattle.std.specs.Prelude.{slice_index}
use Rattle.std.proofs.Math.Nat.{mul_comm}
use Rattle.std.proofs.lemmas.List.{get_or-map, length-map}
use Rattle.sam_model.specs.Lists.{items_at}
use Rattle.levels.specs.Keys.{weight}
use Rattle.levels.proofs.DigitLemmas.{next-weight, set-front}
use Rattle.levels.proofs.keys.weights_of.Goals as goal

pub loop-level-preserved : goal.loop-level-preserved
loop-level-preserved c =
    let t = c.args.t.now in
    let sizes = items_at t.dims t.order in
    let long = length-map t.order (slice_index t.dims) in
    let place = c.loop-level.level - 1 in
    let within = c.loop-level.invariant.within in
    let inside : place < length t.order = omega arith in
    let next : place + 1 ≡ c.loop-level.level = omega arith in
    let here : c.loop-level.all ≡ weight (drop (place + 1) sizes) = c.loop-level.invariant.all ∙ ap (λ (k : ℕ). weight (drop k sizes)) (sym next) in
    let mode : c.get.result ≡ slice_index t.order place = c.get.ensures in
    let size : c.get-in-loop-level.result ≡ get_or sizes place 0
    = c.get-in-loop-level.ensures ∙ ap (slice_index t.dims) mode ∙ sym (get_or-map (slice_index t.dims) t.order place 0 0 inside) in
    let made : c.in_ok-all.all ≡ c.loop-level.all * c.get-in-loop-level.result = search rules in
    let some : 0 < c.loop-level.all = (let zero = c.if-all-eq0.false in omega arith) in
    let room : place < length c.loop-level.weights = (let a = c.requires.storable.few in let b = c.requires.storable.levels in let n = c.loop-level.invariant.long in omega arith) in
    record {
      within = omega arith;
      long = length-set c.loop-level.weights place c.loop-level.all ∙ c.loop-level.invariant.long;
      all = made ∙ ap (λ (n : ℕ). n * c.get-in-loop-level.result) here ∙ ap (λ (n : ℕ). weight (drop (place + 1) sizes) * n) size
          ∙ mul_comm (weight (drop (place + 1) sizes)) (get_or sizes place 0) ∙ sym (next-weight sizes place 0 (omega arith));
      each = set-front (λ (k w : ℕ). w ≡ weight (drop (k + 1) sizes)) c.loop-level.weights place c.loop-level.all (length t.order) room here
          (λ k l m. c.loop-level.invariant.each k (omega arith) m);
      some = set-front (λ (k w : ℕ). 0 < w) c.loop-level.weights place c.loop-level.all (length t.order) room some
          (λ k l m. c.loop-level.invariant.some k (omega arith) m);
    }
