-- The check does not find these alone.
use Rattle.std.proofs.Common.{ap, ◌∙◌, sym}
use Rattle.std.proofs.lemmas.List.{take_rest}
use Rattle.packet.specs.declared.kinds.Kind.TheVariants.{Prepare}
use Rattle.proof.specs.Certificates.{each_says}
use Rattle.proof.proofs.Shifted.{prepared_as}
use Rattle.proof.proofs.certificates.Choice.is_prepared.Goals as goal

pub returns-then-is_said-clause-exact : goal.returns-then-is_said-clause-exact
returns-then-is_said-clause-exact c =
    let s = c.args.self in
    let parts = c.args.parts.now in
    c.is_said_by_each.ensures.exact
    ∙ (ap (λ ps. each_says Prepare s.view.0 s.slot.0 s.command ps 0 c.backups.result) (take_rest parts 1) ∙ prepared_as s.view.0 s.slot.0 s.command c.primary.result c.backups.result parts c.in-len1-up.len_at_least c.primary.ensures c.backups.ensures.exact (sym c.is_said.ensures ∙ c.if-is_said.true))
