-- The check does not find these alone.
use Rattle.std.proofs.Common.{◌∙◌, refl}
use Rattle.sealer.proofs.Words.{turned_is}
use Rattle.sealer.proofs.hashes.State.half.Goals as goal

pub returns : goal.returns
returns g c =
    let s = c.args.self in
    let left = c.rotate_left.ensures ∙ turned_is s.v1 g.row.V1 c.requires.v1.0 c.requires.v1.1 in
    let right = c.rotate_left-3.ensures ∙ turned_is s.v3 g.row.V3 c.requires.v3.0 c.requires.v3.1 in
    rw (left, c.rotate_left-2.ensures, right) refl
