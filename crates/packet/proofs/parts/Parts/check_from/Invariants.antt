-- The check does not find these alone.
use Rattle.std.proofs.Common.{◌≡◌, ◌+◌, drop}
use Rattle.packet.specs.Parts.{check_statements}
use Rattle.packet.proofs.parts.Parts.check_from.Given as goal

abbrev pub invariant-loop-i : goal.invariant-loop-i
invariant-loop-i l = check_statements (l.first + l.i) (drop (l.first + l.i) l.self.bytes.now) ≡ check_statements l.first (drop l.first l.self.bytes.now)
