use Rattle.slots.proofs.Missing.{HighestTo}
use Rattle.slots.proofs.cores.Core.highest_decided.Given as goal

abbrev pub invariant-loop-below : goal.invariant-loop-below
invariant-loop-below l = HighestTo l.fn.self l.below l.highest.0
