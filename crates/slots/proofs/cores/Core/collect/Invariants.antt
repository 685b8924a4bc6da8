use Rattle.std.proofs.Common.{◌≡◌, map}
use Rattle.slots.specs.Cores.{mark_above}
use Rattle.slots.proofs.InPlace.{mapped_to}
use Rattle.slots.proofs.cores.Core.collect.Given as goal

abbrev pub invariant-loop-row : goal.invariant-loop-row
invariant-loop-row l = l.row-items ≡ mapped_to (map (mark_above l.slot.0)) l.fn.self.marks l.row-index
