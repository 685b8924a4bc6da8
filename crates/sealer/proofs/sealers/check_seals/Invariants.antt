-- The check does not find these alone.
use Rattle.std.proofs.Common.{◌≡◌, drop}
use Rattle.sealer.specs.Seals.{check_seals}
use Rattle.sealer.proofs.sealers.check_seals.Given as goal

abbrev pub invariant-loop-i : goal.invariant-loop-i
invariant-loop-i g l = check_seals (g.S.Sealer.genuine l.sealer) l.i (drop l.i l.parts.bytes.now) ≡ check_seals (g.S.Sealer.genuine l.sealer) 0 l.parts.bytes.now
