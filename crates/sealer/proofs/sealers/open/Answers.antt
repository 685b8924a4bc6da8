-- The check does not find these alone.
use Rattle.std.proofs.Common.{Ok, arith, rules}
use Rattle.sealer.specs.Seals.{open_packet}
use Rattle.sealer.proofs.Openings.{opening}
use Rattle.sealer.proofs.sealers.open.Goals as goal

pub returns-clause-opening : goal.returns-clause-opening
unfolding open_packet
returns-clause-opening g c =
    opening (g.S.Sealer.genuine c.args.sealer.now) c.args.reader c.args.bytes.now (Ok c.in_ok-packet.packet) (λ i. omega (arith, c.type_inv.bytes i)) (search rules)
