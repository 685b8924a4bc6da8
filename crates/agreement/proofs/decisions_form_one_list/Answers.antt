-- The check does not find these alone.
use Rattle.agreement.proofs.Decisions.{one_list}
use Rattle.agreement.proofs.decisions_form_one_list.Goals as goal

pub returns : goal.returns
returns c = λ t. one_list
