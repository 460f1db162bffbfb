-- The keys are those of the entries, and only move.
use Rattle.std.proofs.Common.{◌≡◌, ◌+◌, ◌<◌, take, [], ◌∷◌, length, sym, arith, ap, subst, List, ℕ, rules}
use mathlib.Core.List.{map}
use Rattle.std.specs.Ordering.{is_lt, nat_cmp}
use Rattle.std.specs.Cmp.{nat_cmp_total}
use Rattle.std.specs.List.Sorted.{IsPermutation}
use Rattle.std.proofs.lemmas.List.{take_all}
use Rattle.std.proofs.lemmas.List.Sorted.{IsPermutation-map, IsPermutation-trans, answers_always, ranks_by}
use Rattle.sam_base.specs.Each.{Each}
use Rattle.sam_model.specs.Tensors.{stored_as}
use Rattle.sam_model.proofs.Lists.{Each-append}
use Rattle.levels.specs.declared.keys.Key.{Key}
use Rattle.levels.specs.Keys.{IsKey, key_entry}
use Rattle.levels.proofs.EntryLemmas.{length-stored}
use Rattle.levels.proofs.KeyLemmas.{no-key, keys-ascend}
use Rattle.levels.proofs.SortLemmas.{one-more, Each-permutation}
use Rattle.levels.proofs.keys.sorted_keys.Goals as goal

pub loop-n-preserved : goal.loop-n-preserved
loop-n-preserved c =
    let t = c.args.t.now in
    let e = c.args.entries.now in
    let all : length (stored_as t e).entries ≡ length e.values = length-stored t e in
    let inside : c.loop-n.n < length (stored_as t e).entries = omega arith in
    let same : IsPermutation (take (c.loop-n.n + 1) (stored_as t e).entries) (map (key_entry t) c.push.new.self.items)
    = one-more (key_entry t) (stored_as t e).entries c.loop-n.n c.loop-n.keys.items c.in-Some.key c.push.new.self.items inside c.loop-n.invariant.same
    c.in-Some.ensures.entry c.in_ok-push.ensures.items in
    let keys : Each (IsKey t) c.push.new.self.items
    = subst (λ (ks : List Key). Each (IsKey t) ks) (sym c.in_ok-push.ensures.items)
    (Each-append (IsKey t) c.loop-n.keys.items (c.in-Some.key ∷ []) c.loop-n.invariant.keys (c.in-Some.ensures.key, tt)) in
    record { same = same; keys = keys }

-- the keys after the sort
sorted : goal.returns-clause-keys
sorted c = Each-permutation (IsKey c.args.t.now) no-key c.loop-n.keys.items c.sort_unstable_by.new.self.items c.sort_unstable_by.ensures.permutation c.loop-n.invariant.keys

pub returns-clause-keys : goal.returns-clause-keys
returns-clause-keys c = sorted c

pub returns-clause-order : goal.returns-clause-order
returns-clause-order c =
    let t = c.args.t.now in
    let e = c.args.entries.now in
    let all : length (stored_as t e).entries ≡ length e.values = length-stored t e in
    let entries : take c.loop-n.n (stored_as t e).entries ≡ (stored_as t e).entries = take_all c.loop-n.n (stored_as t e).entries (omega arith) in
    record {
      same = IsPermutation-trans (stored_as t e).entries (map (key_entry t) c.loop-n.keys.items) (map (key_entry t) c.sort_unstable_by.new.self.items)
          (subst (λ (es : List (List ℕ × ℕ)). IsPermutation es (map (key_entry t) c.loop-n.keys.items)) entries c.loop-n.invariant.same)
          (IsPermutation-map (key_entry t) c.loop-n.keys.items c.sort_unstable_by.new.self.items c.sort_unstable_by.ensures.permutation);
      sorted = keys-ascend t c.sort_unstable_by.new.self.items (sorted c)
          (c.sort_unstable_by.ensures.sorted (λ (x y : Key). is_lt (nat_cmp x.number y.number)) (ranks_by nat_cmp_total (λ (key : Key). key.number)) (answers_always _ _ _ (λ f a r g h. ap is_lt (search rules))));
    }
