use Rattle.std.proofs.Common.{ap, sym, ◌∙◌, map, List, ℕ}
use Rattle.std.proofs.lemmas.Result.{IfOk-weaker}
use Rattle.std.specs.Borrow.{Bor}
use Rattle.std.specs.Prelude.{option_map, Some, None}
use Rattle.words.specs.Asked.{all_read, pair_of}
use Rattle.words.proofs.PairLemmas.{pairs_in}
use Rattle.words.proofs.numbers.pairs.Goals as goal

pub returns-in-Some-clause-read : goal.returns-in-Some-clause-read
returns-in-Some-clause-read c =
    let same = ap (λ (l : List (Bor (List ℕ))). all_read (map (λ part. pair_of part.now) l)) c.deref.ensures.value in
    let read = ap (option_map (λ pairs. pairs.items)) (sym c.in-Some.is) ∙ c.in_ok-pairs.ensures.read ∙ same in
    IfOk-weaker c.once.result _ _ (λ once is. is ∙ pairs_in c.args.text.now c.in_ok-parts.parts.items (Some c.in-Some.pairs.items) c.in_ok-parts.ensures read) c.once.ensures.read

pub returns-clause-read : goal.returns-clause-read
returns-clause-read c =
    let same = ap (λ (l : List (Bor (List ℕ))). all_read (map (λ part. pair_of part.now) l)) c.deref.ensures.value in
    let read = ap (option_map (λ pairs. pairs.items)) (sym c.in-None.is) ∙ c.in_ok-pairs.ensures.read ∙ same in
    pairs_in c.args.text.now c.in_ok-parts.parts.items None c.in_ok-parts.ensures read
