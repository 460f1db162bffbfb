-- With no level left, the digits so far are all.
use Rattle.std.proofs.Common.{◌≡◌, ◌*◌, ℕ, List, [], length, take, drop, arith, ap, sym, ◌∙◌}
use Rattle.std.proofs.lemmas.List.{drop_all}
use Rattle.sam_model.specs.Lists.{items_at}
use Rattle.levels.specs.Keys.{packed}
use Rattle.levels.proofs.KeyLemmas.{key-of, stored-at}
use Rattle.levels.proofs.keys.key_at.Goals as goal

pub returns-clause-key : goal.returns-clause-key
returns-clause-key c =
    let t = c.args.t.now in
    let e = c.args.entries.now in
    let front = take e.arity (drop (c.args.n * e.arity) e.coords) in
    let long : length c.as_slice-stored-items.result.now ≡ length t.order = ap length c.as_slice-stored-items.ensures in
    let none : drop c.loop-stored.stored-index t.order ≡ [] = drop_all c.loop-stored.stored-index t.order (omega arith) in
    let is = sym (stored-at t e c.requires.storable c.requires.matches c.args.n c.requires.there) in
    (key-of t e c.requires.storable c.requires.matches c.args.n record { number = c.loop-stored.number; value = c.get-2.result } c.requires.there
    (ap (λ (rest : List ℕ). packed c.loop-stored.number (items_at t.dims rest) (items_at front rest)) (sym none) ∙ c.loop-stored.invariant
    ∙ ap (λ (entry : List ℕ × ℕ). packed 0 (items_at t.dims t.order) entry.0) is)
    (c.get-2.ensures ∙ ap (λ (entry : List ℕ × ℕ). entry.1) is)).is_key

pub returns-clause-entry : goal.returns-clause-entry
returns-clause-entry c =
    let t = c.args.t.now in
    let e = c.args.entries.now in
    let front = take e.arity (drop (c.args.n * e.arity) e.coords) in
    let long : length c.as_slice-stored-items.result.now ≡ length t.order = ap length c.as_slice-stored-items.ensures in
    let none : drop c.loop-stored.stored-index t.order ≡ [] = drop_all c.loop-stored.stored-index t.order (omega arith) in
    let is = sym (stored-at t e c.requires.storable c.requires.matches c.args.n c.requires.there) in
    (key-of t e c.requires.storable c.requires.matches c.args.n record { number = c.loop-stored.number; value = c.get-2.result } c.requires.there
    (ap (λ (rest : List ℕ). packed c.loop-stored.number (items_at t.dims rest) (items_at front rest)) (sym none) ∙ c.loop-stored.invariant
    ∙ ap (λ (entry : List ℕ × ℕ). packed 0 (items_at t.dims t.order) entry.0) is)
    (c.get-2.ensures ∙ ap (λ (entry : List ℕ × ℕ). entry.1) is)).entry
