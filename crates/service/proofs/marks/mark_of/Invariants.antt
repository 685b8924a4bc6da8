-- The check does not find these alone.
use Rattle.std.proofs.Common.{◌≡◌, fold, take}
use Rattle.service.proofs.marks.mark_of.Given as goal

-- the mark over the parts so far
abbrev pub invariant-loop-part : goal.invariant-loop-part
invariant-loop-part g l = l.mark ≡ fold g.P.Marked.add_to 0 (take l.part-index l.parts)
