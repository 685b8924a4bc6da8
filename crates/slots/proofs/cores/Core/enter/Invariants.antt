use Rattle.std.proofs.Common.{◌≡◌}
use Rattle.slots.specs.Records.{dropped}
use Rattle.slots.proofs.InPlace.{mapped_to}
use Rattle.slots.proofs.cores.Core.enter.Given as goal

abbrev pub invariant-loop-record : goal.invariant-loop-record
invariant-loop-record l = l.record-items ≡ mapped_to dropped l.fn.self.table.records l.record-index
