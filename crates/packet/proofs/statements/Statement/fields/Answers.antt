-- The check does not find these alone.
use Rattle.std.proofs.Common.{refl, ◌∙◌}
use Rattle.packet.proofs.Digits.{four_read, eight_read}
use Rattle.packet.proofs.statements.Statement.fields.Goals as goal

pub returns : goal.returns
returns c =
    let bs = c.args.bytes.now in
    let v = c.from_be_bytes.ensures ∙ four_read 2 bs _ c.field.ensures in
    let n = c.from_be_bytes-2.ensures ∙ four_read 6 bs _ c.field-2.ensures in
    let e = c.from_be_bytes-3.ensures ∙ four_read 10 bs _ c.field-3.ensures in
    let o = c.from_be_bytes-4.ensures ∙ eight_read 14 bs _ c.field-4.ensures in
    let s = c.from_be_bytes-5.ensures ∙ eight_read 22 bs _ c.field-5.ensures in
    rw (v, n, e, o, s) refl
