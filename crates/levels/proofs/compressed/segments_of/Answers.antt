-- Between the parents of two neighbours as many pairs have a smaller parent.
use Rattle.std.proofs.Common.{◌≡◌, ◌+◌, ◌-◌, ◌++◌, length, take, get_or, replicate, vec_len, arith, ◌∙◌, ap, refl}
use Rattle.std.proofs.lemmas.Grind.{common_steps}
use Rattle.levels.proofs.Growth.{segmented-more, segmented-all}
use Rattle.levels.proofs.compressed.segments_of.Goals as goal

pub loop-place-preserved : goal.loop-place-preserved
loop-place-preserved c =
    let long : vec_len c.loop-place.segments ≡ length c.loop-place.segments.items = grind (arith, common_steps) in
    let made = segmented-more c.args.pairs.now c.loop-place.segments.items c.resize.new.self.items c.loop-place.place c.args.parents (get_or c.args.pairs.now c.loop-place.place (0, 0)).0
    c.requires.sorted c.requires.inside c.loop-place-test.true refl c.loop-place.invariant.made c.loop-place.invariant.front c.loop-place.invariant.rest
    (c.in_ok-resize.ensures.items
    ∙ ap (λ m. take ((get_or c.args.pairs.now c.loop-place.place (0, 0)).0 + 1) c.loop-place.segments.items ++ replicate ((get_or c.args.pairs.now c.loop-place.place (0, 0)).0 + 1 - m) c.loop-place.place) long) in
    record { made = made.made; front = made.front; rest = made.rest; small = made.small }

pub returns : goal.returns
returns c =
    let long : vec_len c.loop-place.segments ≡ length c.loop-place.segments.items = grind (arith, common_steps) in
    let all : length c.args.pairs.now ≡ c.loop-place.place = omega arith in
    segmented-all c.args.pairs.now c.loop-place.segments.items c.resize-2.new.self.items c.loop-place.place c.args.parents
    all c.loop-place.invariant.made c.loop-place.invariant.front c.loop-place.invariant.small
    (c.in_ok-resize-2.ensures.items
    ∙ ap (λ m. take (c.args.parents + 1) c.loop-place.segments.items ++ replicate (c.args.parents + 1 - m) (length c.args.pairs.now)) long
    ∙ ap (λ n. take (c.args.parents + 1) c.loop-place.segments.items ++ replicate (c.args.parents + 1 - length c.loop-place.segments.items) n) all)
