use Rattle.std.proofs.Common.{◌∙◌, ◌<◌, ◌≤◌, ap, sym, refl, subst, ℕ, List, length, get_or, set, Some, Ok, arith, inr}
use Rattle.std.proofs.lemmas.List.{take_all, length-set, length-replicate}
use Rattle.std.proofs.lemmas.List.Elements.{All-set, All-replicate}
use Rattle.std.specs.Prelude.{Option, All}
use mathlib.Core.List.{map}
use Rattle.sam_model.specs.Lists.{below}
use Rattle.stepper.specs.Capacity.{IsCapacity}
use Rattle.runs.specs.Capacities.{capacity_at, unless_unknown}
use Rattle.runs.proofs.CapacityLemmas.{capacities_more, next_known, next_unknown, all_known, unlimited}
use Rattle.runs.proofs.capacities.channel_capacities.Goals as goal

pub loop-pair-init : goal.loop-pair-init
loop-pair-init c =
    let alike = c.in-Ok.ensures in
    record {
      number = ap (λ (l : List (Option ℕ)). length l) alike ∙ length-replicate c.args.channels c.args.all;
      so_far = alike ∙ unlimited c.args.all 0 c.args.channels;
      left = refl;
      fit = subst (All IsCapacity) (sym alike) (All-replicate IsCapacity c.args.channels c.args.all c.requires.all);
    }

pub returns-then-channel-len-clause-comes : goal.returns-then-channel-len-clause-comes
returns-then-channel-len-clause-comes c = λ files.
    let inv = c.loop-pair.invariant in
    let pairs = c.args.pairs.now in
    let i = c.loop-pair.pair-index in
    let beyond : c.args.channels ≤ (get_or pairs i (0, 0)).0 = omega (arith, inv.number, c.len.ensures, c.if-channel-len.true) in
    let unknown =
    sym inv.left ∙ next_unknown c.args.all c.args.channels pairs i (0, 0) c.loop-pair-test.true beyond in
    inr (
      sym (ap (λ (u : Option ℕ). unless_unknown u (map (capacity_at c.args.all pairs) (below c.args.channels))) unknown),
      tt,
    )

pub loop-pair-preserved : goal.loop-pair-preserved
loop-pair-preserved c =
    let inv = c.loop-pair.invariant in
    let pairs = c.args.pairs.now in
    let i = c.loop-pair.pair-index in
    let pair = get_or pairs i (0, 0) in
    let inside = c.loop-pair-test.true in
    let known : pair.0 < c.args.channels = omega (arith, inv.number, c.len.ensures, c.if-channel-len.false) in
    record {
      number = length-set c.loop-pair.each.items pair.0 (Some pair.1) ∙ inv.number;
      so_far =
          ap (λ (l : List (Option ℕ)). set l pair.0 (Some pair.1)) inv.so_far
          ∙ capacities_more c.args.all c.args.channels pairs i (0, 0) inside known;
      left = next_known c.args.all c.args.channels pairs i (0, 0) inside known ∙ inv.left;
      fit = All-set IsCapacity c.loop-pair.each.items pair.0 (Some pair.1) (c.requires.own i (0, 0) inside) inv.fit;
    }

pub returns-clause-fit : goal.returns-clause-fit
returns-clause-fit c =
    let kept = c.from_vec.ensures in (
      ap (λ (l : List (Option ℕ)). length l) kept ∙ c.loop-pair.invariant.number,
      subst (All IsCapacity) (sym kept) c.loop-pair.invariant.fit,
    )

pub returns-clause-comes : goal.returns-clause-comes
returns-clause-comes c = λ files.
    let inv = c.loop-pair.invariant in
    let pairs = c.args.pairs.now in
    let end = c.loop-pair-test.false in
    let known = sym inv.left ∙ all_known c.args.channels pairs c.loop-pair.pair-index end in
    ap Ok (c.from_vec.ensures ∙ inv.so_far ∙ ap (λ (ps : List (ℕ × ℕ)). map (capacity_at c.args.all ps) (below c.args.channels)) (take_all c.loop-pair.pair-index pairs end))
    ∙ sym (ap (λ (u : Option ℕ). unless_unknown u (map (capacity_at c.args.all pairs) (below c.args.channels))) known)
