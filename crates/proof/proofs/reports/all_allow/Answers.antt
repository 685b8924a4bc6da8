-- The check does not find these alone.
use Rattle.std.proofs.Common.{◌∙◌, rules, tests}
use Rattle.std.proofs.lemmas.Iterator.{YieldsList-from_slice}
use Rattle.std.proofs.lemmas.Iterator.Search.{all_from_yields_List}
use Rattle.proof.specs.Reports.{allows}
use Rattle.proof.proofs.Tests.{all_allowed}
use Rattle.proof.proofs.reports.all_allow.Goals as goal

pub returns : goal.returns
returns c =
    all_from_yields_List (allows c.args.highest c.args.command) _ _ c.all.result c.all.ensures.ran (YieldsList-from_slice c.args.reports.now cc) (λ x b q k. search (rules, tests))
    ∙ all_allowed c.args.highest c.args.command c.args.reports.now
