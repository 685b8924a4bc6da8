-- The check does not find these alone.
use Rattle.std.proofs.Common.{◌≡◌}
use Rattle.sealer.specs.Siphash.{absorbed, keyed, low}
use Rattle.sealer.proofs.hashes.siphash.Given as goal

abbrev pub invariant-loop-next : goal.invariant-loop-next
invariant-loop-next l = l.s ≡ absorbed (keyed (low 8 l.key 0) (low 8 l.key 8)) l.bytes l.next-index
