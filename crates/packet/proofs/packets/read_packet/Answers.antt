-- The check does not find these alone.
use Rattle.std.proofs.Common.{Err, arith, rules}
use Rattle.refusal.specs.declared.packets.PacketFault.TheVariants.{Length}
use Rattle.packet.specs.Packets.{read_packet}
use Rattle.packet.proofs.Readings.{reading}
use Rattle.packet.proofs.packets.read_packet.Goals as goal

pub returns-then-not-has_length-clause-reading : goal.returns-then-not-has_length-clause-reading
unfolding read_packet
returns-then-not-has_length-clause-reading c = reading c.args.reader c.args.bytes.now (Err Length) (λ i. omega (arith, c.type_inv.bytes i)) (search rules)

pub returns-clause-reading : goal.returns-clause-reading
unfolding read_packet
returns-clause-reading c = reading c.args.reader c.args.bytes.now c.read_parts.result (λ i. omega (arith, c.type_inv.bytes i)) (search rules)
