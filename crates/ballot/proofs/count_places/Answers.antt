-- An attribute with `using` finds this too, but only just: not under `rt check --margin`.
use Rattle.ballot.proofs.Equality.{counting}
use Rattle.ballot.proofs.count_places.Goals as goal

pub returns-clause-laws : goal.returns-clause-laws
returns-clause-laws g c = counting g.met.B.Eq.laws
