use Rattle.expand.proofs.AcceptedTerms.{products-stay}
use Rattle.expand.proofs.laws.products_stay.Goals as goal

pub returns : goal.returns
returns c = products-stay
