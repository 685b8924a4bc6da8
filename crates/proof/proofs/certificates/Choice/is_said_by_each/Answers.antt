-- The check does not find these alone.
use Rattle.std.proofs.Common.{◌∙◌, rules, tests}
use Rattle.std.proofs.lemmas.Iterator.{YieldsList-from_slice, YieldsList-from_zip}
use Rattle.std.proofs.lemmas.Iterator.Search.{all_from_yields_List}
use Rattle.proof.proofs.Shifted.{each_paired, each_short, said_by}
use Rattle.proof.proofs.certificates.Choice.is_said_by_each.Goals as goal

pub returns-then-enough-clause-exact : goal.returns-then-enough-clause-exact
returns-then-enough-clause-exact c =
    let s = c.args.self in
    all_from_yields_List (said_by c.args.kind s.view.0 s.slot.0 s.command) c.all.new.self _ c.all.result c.all.ensures.ran (YieldsList-from_zip (YieldsList-from_slice c.args.signers.now cc) (YieldsList-from_slice c.args.parts.now cc)) (λ x b q k. search (rules, tests))
    ∙ each_paired c.args.kind s.view.0 s.slot.0 s.command c.args.signers.now c.args.parts.now (search rules)

pub returns-else-enough-clause-exact : goal.returns-else-enough-clause-exact
returns-else-enough-clause-exact c =
    let s = c.args.self in
    let e = each_short c.args.kind s.view.0 s.slot.0 s.command c.args.signers.now c.args.parts.now (search rules) in
    search rules
