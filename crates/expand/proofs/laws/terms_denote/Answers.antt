use Rattle.expand.proofs.AcceptedTerms.{terms-denote, terms-tell}
use Rattle.expand.proofs.laws.terms_denote.Goals as goal

pub returns-clause-denoted : goal.returns-clause-denoted
returns-clause-denoted c = terms-denote

pub returns-clause-told : goal.returns-clause-told
returns-clause-told c = terms-tell
