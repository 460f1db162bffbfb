use Rattle.std.proofs.Common.{◌≡◌, ◌==◌, ◌+◌, ◌<◌, ◌++◌, ℕ, List, length, take, drop, slice_range, ap, not, arith, sym, subst, ◌∙◌}
use Rattle.std.proofs.lemmas.List.{take_rest, drop-drop}
use Rattle.std.proofs.lemmas.List.Sums.{prefix_len-le-length}
use Rattle.program_file.specs.Declarations.{are_decimals, numbers}
use Rattle.program_file.proofs.PartLemmas.{first_part, last_part, some_part, decimals_more, decimals_stop, decimals_last, numbers_more, numbers_last}
use Rattle.program_file.proofs.declarations.numbers_of.Goals as goal

pub returns-in-None : goal.returns-in-None
returns-in-None c =
    let rest = c.loop-number.rest.now in
    let p = some_part c.args.byte rest c.part_length-count.result c.part_length-count.ensures in
    sym c.loop-number.invariant.decimals ∙ decimals_stop c.args.byte rest (take c.part_length-count.result rest) p.0 p.1 c.in-None.ensures

pub returns-then-count-rest : goal.returns-then-count-rest
returns-then-count-rest c =
    let rest = c.loop-number.rest.now in
    let k = c.part_length-count.result in
    let last = last_part c.args.byte rest k c.part_length-count.ensures c.if-count-rest.true in (
      sym c.loop-number.invariant.decimals ∙ decimals_last c.args.byte rest (take k rest) last c.in-Some.ensures.0,
      c.in_ok-push-in-Some.ensures.ok ∙ numbers_last c.args.byte c.loop-number.found rest (take k rest) c.in-Some.number (numbers c.args.byte c.args.word.now) last c.in-Some.ensures.1 c.loop-number.invariant.so_far,
    )

pub loop-number-preserved : goal.loop-number-preserved
loop-number-preserved c =
    let rest = c.loop-number.rest.now in
    let k = c.part_length-count.result in
    let byte = c.args.byte in
    let word = c.args.word.now in
    let most = prefix_len-le-length (λ b. not (b == byte)) rest in
    let less : k < length rest = omega (arith, c.part_length-count.ensures, c.if-count-rest.false) in
    let first = first_part byte rest k c.part_length-count.ensures less in
    let tail = slice_range rest k (length rest) in
    let same : slice_range tail 1 (length tail) ≡ drop (k + 1) rest = take_rest tail 1 ∙ ap (λ (bs : List ℕ). drop 1 bs) (take_rest rest k) ∙ drop-drop 1 k rest in
    record {
      so_far = subst (λ (bs : List ℕ). c.push.new.self ++ numbers byte bs ≡ numbers byte word) (sym same)
          (subst (λ (ns : List ℕ). ns ++ numbers byte (drop (k + 1) rest) ≡ numbers byte word) (sym c.in_ok-push-in-Some.ensures.ok)
          (numbers_more byte c.loop-number.found rest (drop (k + 1) rest) (take k rest) c.in-Some.number (numbers byte word) first c.in-Some.ensures.1 c.loop-number.invariant.so_far));
      decimals = subst (λ (bs : List ℕ). are_decimals byte bs ≡ are_decimals byte word) (sym same)
          (decimals_more byte rest (drop (k + 1) rest) (take k rest) (are_decimals byte word) first c.in-Some.ensures.0 c.loop-number.invariant.decimals);
    }
