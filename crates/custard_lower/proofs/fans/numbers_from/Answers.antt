use Rattle.std.proofs.Common.{◌≡◌, ◌≤◌, ◌+◌, ◌-◌, ◌∷◌, [], ◌++◌, ℕ, suc, List, sym, ap, ◌∙◌, arith}
use Rattle.std.specs.List.{range_with_len}
use Rattle.custard_lower.proofs.draft.Pieces.{range-more}
use Rattle.custard_lower.proofs.fans.numbers_from.Goals as goal

one_more : (first n : ℕ) (numbers more : List ℕ) → first ≤ n → numbers ≡ range_with_len first (n - first) → more ≡ numbers ++ (n ∷ [])
    → more ≡ range_with_len first (n + 1 - first)
one_more first n numbers more l before push =
    let here : n ≡ first + (n - first) = omega (arith, l) in
    let next : suc (n - first) ≡ n + 1 - first = omega (arith, l) in
    push
    ∙ ap (λ (xs : List ℕ). xs ++ (n ∷ [])) before
    ∙ ap (λ (x : ℕ). range_with_len first (n - first) ++ (x ∷ [])) here
    ∙ sym (range-more first (n - first))
    ∙ ap (range_with_len first) next

pub loop-number-preserved : goal.loop-number-preserved
loop-number-preserved c =
    one_more c.args.first c.loop-number.number c.loop-number.numbers c.push.new.self (omega arith) c.loop-number.invariant
    c.in_ok-push.ensures.ok
