-- The check does not find these alone.
use Rattle.agreement.proofs.Laws.{settled_agree}
use Rattle.agreement.proofs.settled_agree.Goals as goal

pub returns : goal.returns
returns c = λ t. settled_agree
