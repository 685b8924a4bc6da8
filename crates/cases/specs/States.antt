-- The lines of what a replica holds.
use Rattle.std.specs.Prelude.{ℕ, cond, List, [], ◌∷◌, Ok, Err, Result, nat_lt}
use Rattle.refusal.specs.Refusals.{of_replica}
use Rattle.refusal.specs.declared.replicas.ReplicaFault.{ReplicaFault}
use Rattle.slots.specs.Checks.{verdict, lead_tests}
use Rattle.slots.specs.Cores.{first_core, with_wish, wished, mark_kept}
use Rattle.slots.specs.declared.cores.Core.{Core}
use Rattle.cases.specs.Lines.{Line, line}

-- the number of the refusal, or 0 where there is none
abbrev pub refusal_number : Result (Unit {0}) ReplicaFault → ℕ
refusal_number (Ok x) = 0
refusal_number (Err e) = (of_replica e).number

-- the primary of view 1 leads slot n at floor 0
abbrev pub lead_first : (n : ℕ) → ℕ
lead_first n = refusal_number (verdict (lead_tests 0 first_core n))

-- the view of replica 3, which is in view 1, after wishes a, b and c of the others
abbrev pub view_after : (a b c : ℕ) → ℕ
view_after a b c =
    let core = with_wish (with_wish (with_wish first_core 0 a) 1 b) 2 c in
    cond (nat_lt core.view.0 (wished 3 core)) (wished 3 core) core.view.0

-- mark 7 of slot 16, of each other than replica 3
abbrev pub others_marks : Core
others_marks = mark_kept 3 (mark_kept 3 (mark_kept 3 first_core 16 0 7) 16 1 7) 16 2 7

abbrev pub state_lines : List Line
state_lines =
    line "floor 0: slot 32 is open" 0 (lead_first 32)
    ∷ line "floor 0: slot 33 is not open" 9 (lead_first 33)
    ∷ line "wishes 5, 2, 0 of the others: view 2 is entered" 2 (view_after 5 2 0)
    ∷ line "wishes 5, 1, 0 of the others: view 1 stays" 1 (view_after 5 1 0)
    ∷ line "three equal marks of the others at 16: the floor stays" 0 others_marks.floor.0
    ∷ line "with the own mark it moves" 16 (mark_kept 3 others_marks 16 3 7).floor.0
    ∷ []
