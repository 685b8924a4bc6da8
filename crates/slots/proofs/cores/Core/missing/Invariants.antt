use Rattle.slots.proofs.Missing.{AllDecided}
use Rattle.slots.proofs.cores.Core.missing.Given as goal

abbrev pub invariant-loop-below : goal.invariant-loop-below
invariant-loop-below l = AllDecided l.fn.self l.below
