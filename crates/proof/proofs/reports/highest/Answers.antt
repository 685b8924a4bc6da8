-- The check does not find these alone.
use Rattle.std.proofs.Common.{◌≡◌, max, fold, ◌∙◌, rules}
use Rattle.proof.proofs.Tests.{highest_folded}
use Rattle.proof.proofs.reports.highest.Goals as goal

pub returns : goal.returns
returns c =
    let f : c.fold.result ≡ fold (λ h r. max r.earlier.0 h) 0 c.args.reports.now = search rules in
    f ∙ highest_folded c.args.reports.now
