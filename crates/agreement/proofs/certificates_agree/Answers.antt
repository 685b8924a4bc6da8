-- The check does not find these alone.
use Rattle.agreement.proofs.Laws.{certificates_agree}
use Rattle.agreement.proofs.certificates_agree.Goals as goal

pub returns : goal.returns
returns c = λ t. certificates_agree
