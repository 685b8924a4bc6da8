-- The check does not find these alone.
use Rattle.std.proofs.Common.{true, false, refl, sym, rules}
use Rattle.proof.proofs.Shifted.{group_alone, group_certified}
use Rattle.proof.proofs.certificates.Choice.group.Goals as goal

pub returns-then-eq-clause-exact : goal.returns-then-eq-clause-exact
returns-then-eq-clause-exact c =
    let s = c.args.self in
    sym (group_alone s.view.0 s.slot.0 c.args.parts.now _ c.in-Some.report refl c.in-len1-up.len_at_least (search rules) (search rules) (search rules))

pub returns-then-not-certified-clause-exact : goal.returns-then-not-certified-clause-exact
returns-then-not-certified-clause-exact c =
    let s = c.args.self in
    sym (group_certified s.view.0 s.slot.0 c.args.parts.now _ c.in-Some.report refl c.in-len1-up.len_at_least (search rules) (search rules) (search rules) false (search rules))

pub returns-clause-exact : goal.returns-clause-exact
returns-clause-exact c =
    let s = c.args.self in
    sym (group_certified s.view.0 s.slot.0 c.args.parts.now _ c.in-Some.report refl c.in-len1-up.len_at_least (search rules) (search rules) (search rules) true (search rules))
