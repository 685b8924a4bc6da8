use Rattle.std.proofs.Common.{◌≡◌}
use Rattle.slots.specs.Cores.{mark_above}
use Rattle.slots.proofs.InPlace.{mapped_to}
use Rattle.slots.proofs.cores.drop_marks.Given as goal

abbrev pub invariant-loop-place : goal.invariant-loop-place
invariant-loop-place l = l.row ≡ mapped_to (mark_above l.floor.0) l.initial.row l.place-index
