-- The check does not find these alone.
use Rattle.std.proofs.Common.{rules}
use Rattle.proof.proofs.Shifted.{third_fails, three_stand}
use Rattle.proof.proofs.certificates.Choice.check_reports.Goals as goal

pub returns-in_err-third : goal.returns-in_err-third
returns-in_err-third c =
    let s = c.args.self in
    let one = c.in_ok-first.first in
    let two = c.in_ok-second.second in
    let f = third_fails s.view.0 s.slot.0 s.command c.args.parts.now one.behind.now two.behind.now one.report two.report c.in_err-third.field-0.0 (search rules) (search rules) (search rules) (search rules) (search rules) in
    search rules

pub returns-in_err-rule : goal.returns-in_err-rule
returns-in_err-rule c =
    let s = c.args.self in
    let one = c.in_ok-first.first in
    let two = c.in_ok-second.second in
    let three = c.in_ok-third.third in
    let f = three_stand s.view.0 s.slot.0 s.command c.args.parts.now one.behind.now two.behind.now three.behind.now one.report two.report three.report (search rules) (search rules) (search rules) (search rules) (search rules) (search rules) in
    search rules

pub returns : goal.returns
returns c =
    let s = c.args.self in
    let one = c.in_ok-first.first in
    let two = c.in_ok-second.second in
    let three = c.in_ok-third.third in
    let f = three_stand s.view.0 s.slot.0 s.command c.args.parts.now one.behind.now two.behind.now three.behind.now one.report two.report three.report (search rules) (search rules) (search rules) (search rules) (search rules) (search rules) in
    search rules
