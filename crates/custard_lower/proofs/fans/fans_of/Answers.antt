use Rattle.std.proofs.Common.{◌≡◌, ◌<◌, ◌+◌, ◌∙◌, ℕ, List, length, subst, sym, ap, arith, rules, map, eqb}
use Rattle.std.specs.List.{All, filter, range_with_len}
use Rattle.std.proofs.lemmas.List.{length_push}
use Rattle.std.proofs.lemmas.List.FromFn.{length-map-range_with_len}
use Rattle.std.proofs.lemmas.Iterator.Adapters.{YieldsList-from_vec}
use Rattle.std.proofs.lemmas.Iterator.Consumers.{YieldsList-turn, YieldsList-end}
use Rattle.custard_lower.specs.declared.fans.Read.{Read}
use Rattle.custard_lower.specs.Drafts.{outputs_of}
use Rattle.custard_lower.specs.DraftGraph.{readers, ending, first_copy, fan_of}
use Rattle.custard_lower.proofs.draft.Readers.{reads-within}
use Rattle.custard_lower.proofs.draft.FanSteps.{ending-fits, first-copy-fits, ending-past-one, first-copy-past-one, ending-past, first-copy-past, next-readers, next-fan}
use Rattle.custard_lower.proofs.fans.fans_of.Goals as goal

pub readers_of-requires : goal.readers_of-requires
readers_of-requires c =
    subst (λ (n : ℕ). All (λ (r : Read). r.output < n) c.args.reads.now) (sym c.output_count-outputs.ensures)
    (subst (λ (rs : List Read). All (λ (r : Read). r.output < outputs_of c.args.made.now) rs) (sym c.requires.reads)
    (reads-within c.args.made.now c.requires.within))

pub overflow_add-ending : goal.overflow_add-ending
overflow_add-ending c =
    let made = c.args.made.now in
    let k = length c.loop-readers.yielded in
    let lists = c.in_ok-readers-items.readers-items.items in
    let all = YieldsList-from_vec {s = c.into_iter-readers-iterator.result} lists (search rules) (search rules) in
    let turn = YieldsList-turn all c.loop-readers.yielded c.loop-readers.readers-iterator c.loop-readers.yielded_by
    c.next.result c.next.new.self c.in-Some.readers c.in-Some.is c.next.ensures.steps in
    let next = next-readers made lists c.args.reads.now c.output_count-outputs.result k c.in-Some.readers
    c.in_ok-readers-items.ensures c.requires.reads c.output_count-outputs.ensures turn in
    let number : c.len-number.result ≡ length (readers made k) = c.len-number.ensures ∙ ap (λ (rs : List Read). length rs) next.1 in
    let more = ending-past made k (λ e. c.if-number-ne1.true (number ∙ e)) in
    omega (arith, c.loop-readers.invariant.ending, more, ending-fits made c.requires.small (k + 1) (omega (arith, next.0)))

pub overflow_add-first_copy : goal.overflow_add-first_copy
overflow_add-first_copy c =
    let made = c.args.made.now in
    let k = length c.loop-readers.yielded in
    let lists = c.in_ok-readers-items.readers-items.items in
    let all = YieldsList-from_vec {s = c.into_iter-readers-iterator.result} lists (search rules) (search rules) in
    let turn = YieldsList-turn all c.loop-readers.yielded c.loop-readers.readers-iterator c.loop-readers.yielded_by
    c.next.result c.next.new.self c.in-Some.readers c.in-Some.is c.next.ensures.steps in
    let next = next-readers made lists c.args.reads.now c.output_count-outputs.result k c.in-Some.readers
    c.in_ok-readers-items.ensures c.requires.reads c.output_count-outputs.ensures turn in
    let number : c.len-number.result ≡ length (readers made k) = c.len-number.ensures ∙ ap (λ (rs : List Read). length rs) next.1 in
    let more = first-copy-past made k (λ e. c.if-number-ne1.true (number ∙ e)) in
    omega (arith, c.loop-readers.invariant.first_copy, more, number, first-copy-fits made c.requires.small (k + 1))

pub loop-readers-preserved-then-number-ne1 : goal.loop-readers-preserved-then-number-ne1
loop-readers-preserved-then-number-ne1 c =
    let made = c.args.made.now in
    let k = length c.loop-readers.yielded in
    let lists = c.in_ok-readers-items.readers-items.items in
    let all = YieldsList-from_vec {s = c.into_iter-readers-iterator.result} lists (search rules) (search rules) in
    let turn = YieldsList-turn all c.loop-readers.yielded c.loop-readers.readers-iterator c.loop-readers.yielded_by
    c.next.result c.next.new.self c.in-Some.readers c.in-Some.is c.next.ensures.steps in
    let next = next-readers made lists c.args.reads.now c.output_count-outputs.result k c.in-Some.readers
    c.in_ok-readers-items.ensures c.requires.reads c.output_count-outputs.ensures turn in
    let number : c.len-number.result ≡ length (readers made k) = c.len-number.ensures ∙ ap (λ (rs : List Read). length rs) next.1 in
    let ended = λ (e : length (readers made k) ≡ 1). c.if-number-ne1.true (number ∙ e) in
    let so_far = c.loop-readers.invariant in
    let long = length_push c.loop-readers.yielded c.in-Some.readers in
    record {
      fans = next-fan made c.loop-readers.fans c.push.new.self c.loop-readers.yielded c.in-Some.readers c.loop-readers.ending
          c.loop-readers.first_copy so_far.fans so_far.ending so_far.first_copy next.1 c.in_ok-push.ensures.ok;
      ending = omega (arith, ap (ending made) long, ending-past made k ended, so_far.ending);
      first_copy = omega (arith, ap (first_copy made) long, first-copy-past made k ended, number, so_far.first_copy);
    }

pub loop-readers-preserved : goal.loop-readers-preserved
loop-readers-preserved c =
    let made = c.args.made.now in
    let k = length c.loop-readers.yielded in
    let lists = c.in_ok-readers-items.readers-items.items in
    let all = YieldsList-from_vec {s = c.into_iter-readers-iterator.result} lists (search rules) (search rules) in
    let turn = YieldsList-turn all c.loop-readers.yielded c.loop-readers.readers-iterator c.loop-readers.yielded_by
    c.next.result c.next.new.self c.in-Some.readers c.in-Some.is c.next.ensures.steps in
    let next = next-readers made lists c.args.reads.now c.output_count-outputs.result k c.in-Some.readers
    c.in_ok-readers-items.ensures c.requires.reads c.output_count-outputs.ensures turn in
    let number : c.len-number.result ≡ length (readers made k) = c.len-number.ensures ∙ ap (λ (rs : List Read). length rs) next.1 in
    let one : length (readers made k) ≡ 1 = omega (arith, number, c.if-number-ne1.false) in
    let so_far = c.loop-readers.invariant in
    let long = length_push c.loop-readers.yielded c.in-Some.readers in
    record {
      fans = next-fan made c.loop-readers.fans c.push.new.self c.loop-readers.yielded c.in-Some.readers c.loop-readers.ending
          c.loop-readers.first_copy so_far.fans so_far.ending so_far.first_copy next.1 c.in_ok-push.ensures.ok;
      ending = omega (arith, ap (ending made) long, ending-past-one made k one, so_far.ending);
      first_copy = omega (arith, ap (first_copy made) long, first-copy-past-one made k one, so_far.first_copy);
    }

pub returns : goal.returns
returns c =
    let made = c.args.made.now in
    let lists = c.in_ok-readers-items.readers-items.items in
    let all = YieldsList-from_vec {s = c.into_iter-readers-iterator.result} lists (search rules) (search rules) in
    let end = YieldsList-end all c.loop-readers.yielded c.loop-readers.readers-iterator c.loop-readers.yielded_by
    c.next.result c.next.new.self c.in-None.is c.next.ensures.steps in
    let number = ap (λ (rs : List (List Read)). length rs) c.in_ok-readers-items.ensures
    ∙ length-map-range_with_len (λ w. filter (λ (r : Read). eqb r.output w) c.args.reads.now) 0 c.output_count-outputs.result in
    c.loop-readers.invariant.fans
    ∙ ap (λ (n : ℕ). map (fan_of made) (range_with_len 0 n)) (end.1 ∙ number ∙ c.output_count-outputs.ensures)
