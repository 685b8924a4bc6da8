use Rattle.std.proofs.Common.{◌≡◌, ◌-◌, ◌≤◌, max}
use Rattle.slots.specs.Cores.{cleared}
use Rattle.slots.proofs.tables.Table.clear.Given as goal

abbrev pub invariant-loop-below : goal.invariant-loop-below
invariant-loop-below l = (l.self.records ≡ cleared l.initial.self.records l.fn.floor.0 (l.below - l.fn.floor.0)) × l.below ≤ max l.fn.floor.0 l.fn.slot.0
