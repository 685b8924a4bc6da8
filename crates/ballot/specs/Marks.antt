-- What a flat place for a mark holds.
use Rattle.std.specs.Prelude.{Bool, ◌&&◌, Option, ◌==◌}
use Rattle.std.specs.Bool.{then_some}
use Rattle.ballot.specs.declared.marks.Mark.{Mark}
use Rattle.ballot.specs.declared.marks.MarkBallot.{MarkBallot}

-- what stands beside the flag
abbrev pub mark_of : MarkBallot → Mark
mark_of place = record { slot = place.slot; mark = place.mark }

-- that mark, where the flag says that it is held
abbrev pub held_mark : MarkBallot → Option Mark
held_mark place = then_some place.held (mark_of place)

-- two marks are equal if their slots and their numbers are
abbrev pub same_mark : Mark → Mark → Bool
same_mark a b = a.slot.0 == b.slot.0 && a.mark == b.mark
