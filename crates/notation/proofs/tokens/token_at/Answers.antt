use Rattle.std.proofs.Common.{◌≡◌, ◌+◌, ◌<◌, length, drop, arith, rules, ap, ◌∙◌}
use Rattle.std.specs.List.{prefix_len}
use Rattle.std.proofs.lemmas.List.{take_rest, length-drop}
use Rattle.sam_text.specs.Bytes.{is_blank}
use Rattle.notation.specs.Tokens.{front_token, front_length}
use Rattle.notation.proofs.TokenLemmas.{blanks_within, no_token, next_token}
use Rattle.notation.proofs.tokens.token_at.Goals as goal

pub overflow_add-begin : goal.overflow_add-begin
overflow_add-begin c =
    let e : c.blank_count.result ≡ prefix_len is_blank (drop c.args.from c.args.text.now) = c.blank_count.ensures ∙ ap (λ bs. prefix_len is_blank bs) (take_rest c.args.text.now c.args.from) in
    let h = blanks_within c.args.text.now c.args.from c.blank_count.result c.requires.in_text e in
    omega arith

pub returns-then-begin-text-clause-next : goal.returns-then-begin-text-clause-next
returns-then-begin-text-clause-next c =
    let e : c.blank_count.result ≡ prefix_len is_blank (drop c.args.from c.args.text.now) = c.blank_count.ensures ∙ ap (λ bs. prefix_len is_blank bs) (take_rest c.args.text.now c.args.from) in
    no_token c.args.text.now c.args.from c.blank_count.result e c.if-begin-text.true

pub slice_bounds-token_in_front-count : goal.slice_bounds-token_in_front-count
slice_bounds-token_in_front-count c =
    let e : c.blank_count.result ≡ prefix_len is_blank (drop c.args.from c.args.text.now) = c.blank_count.ensures ∙ ap (λ bs. prefix_len is_blank bs) (take_rest c.args.text.now c.args.from) in
    blanks_within c.args.text.now c.args.from c.blank_count.result c.requires.in_text e

pub slice_bounds-token_in_front-start : goal.slice_bounds-token_in_front-start
slice_bounds-token_in_front-start c =
    let e : c.blank_count.result ≡ prefix_len is_blank (drop c.args.from c.args.text.now) = c.blank_count.ensures ∙ ap (λ bs. prefix_len is_blank bs) (take_rest c.args.text.now c.args.from) in
    let h = blanks_within c.args.text.now c.args.from c.blank_count.result c.requires.in_text e in
    search rules

pub token_in_front-requires : goal.token_in_front-requires
token_in_front-requires c =
    let e : c.blank_count.result ≡ prefix_len is_blank (drop c.args.from c.args.text.now) = c.blank_count.ensures ∙ ap (λ bs. prefix_len is_blank bs) (take_rest c.args.text.now c.args.from) in
    let h = blanks_within c.args.text.now c.args.from c.blank_count.result c.requires.in_text e in
    let begin = c.args.from + c.blank_count.result in
    let all = ap length (take_rest c.args.text.now begin) in
    let rest = length-drop begin c.args.text.now in
    omega arith

pub overflow_cast-result : goal.overflow_cast-result
overflow_cast-result c =
    let e : c.blank_count.result ≡ prefix_len is_blank (drop c.args.from c.args.text.now) = c.blank_count.ensures ∙ ap (λ bs. prefix_len is_blank bs) (take_rest c.args.text.now c.args.from) in
    let h = blanks_within c.args.text.now c.args.from c.blank_count.result c.requires.in_text e in
    omega arith

pub overflow_add-result : goal.overflow_add-result
overflow_add-result c =
    let text = c.args.text.now in
    let begin = c.args.from + c.blank_count.result in
    let e : c.blank_count.result ≡ prefix_len is_blank (drop c.args.from text) = c.blank_count.ensures ∙ ap (λ bs. prefix_len is_blank bs) (take_rest text c.args.from) in
    let within = blanks_within text c.args.from c.blank_count.result c.requires.in_text e in
    let more : begin < length text = omega (arith, c.if-begin-text.false) in
    let front = c.in_ok-token.ensures in
    let h = next_token text c.args.from c.blank_count.result c.in_ok-token.count c.in_ok-token.token c.requires.in_text e more (front.token ∙ ap (λ bs. front_token bs) (take_rest text begin)) (front.count ∙ ap (λ bs. front_length bs) (take_rest text begin)) in
    omega (arith, h.within)

pub returns-clause-next : goal.returns-clause-next
returns-clause-next c =
    let text = c.args.text.now in
    let begin = c.args.from + c.blank_count.result in
    let e : c.blank_count.result ≡ prefix_len is_blank (drop c.args.from text) = c.blank_count.ensures ∙ ap (λ bs. prefix_len is_blank bs) (take_rest text c.args.from) in
    let within = blanks_within text c.args.from c.blank_count.result c.requires.in_text e in
    let more : begin < length text = omega (arith, c.if-begin-text.false) in
    let front = c.in_ok-token.ensures in
    let h = next_token text c.args.from c.blank_count.result c.in_ok-token.count c.in_ok-token.token c.requires.in_text e more (front.token ∙ ap (λ bs. front_token bs) (take_rest text begin)) (front.count ∙ ap (λ bs. front_length bs) (take_rest text begin)) in
    h.next

pub returns-clause-within : goal.returns-clause-within
returns-clause-within c =
    let text = c.args.text.now in
    let begin = c.args.from + c.blank_count.result in
    let e : c.blank_count.result ≡ prefix_len is_blank (drop c.args.from text) = c.blank_count.ensures ∙ ap (λ bs. prefix_len is_blank bs) (take_rest text c.args.from) in
    let within = blanks_within text c.args.from c.blank_count.result c.requires.in_text e in
    let more : begin < length text = omega (arith, c.if-begin-text.false) in
    let front = c.in_ok-token.ensures in
    let h = next_token text c.args.from c.blank_count.result c.in_ok-token.count c.in_ok-token.token c.requires.in_text e more (front.token ∙ ap (λ bs. front_token bs) (take_rest text begin)) (front.count ∙ ap (λ bs. front_length bs) (take_rest text begin)) in
    (omega (arith, h.some), h.within)
