-- The check does not find these alone.
use Rattle.proof.proofs.Actives.{active_quorum}
use Rattle.proof.proofs.roles.active.Goals as goal

pub returns-clause-law : goal.returns-clause-law
returns-clause-law c = active_quorum
