use Rattle.std.proofs.Common.{sym, ◌∙◌}
use Rattle.notation.proofs.TokenLemmas.{digits_are_decimal}
use Rattle.notation.proofs.tokens.token_in_front.Goals as goal

pub number-requires : goal.number-requires
number-requires c = rw c.digits_length-count.ensures (digits_are_decimal c.args.bytes.now c.requires (sym c.is_digit.ensures ∙ c.if-is_digit.true))
