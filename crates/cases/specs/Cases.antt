-- The whole table, and that each of its lines holds.
use Rattle.std.specs.Prelude.{◌≡◌, ℕ, List, ◌++◌}
use Rattle.std.specs.List.{AllByRecursion}
use Rattle.cases.specs.Lines.{Line, Holds}
use Rattle.cases.specs.Proofs.{none_for, proof_lines}
use Rattle.cases.specs.Services.{service_lines}
use Rattle.cases.specs.States.{state_lines}

abbrev pub table : List Line
table = service_lines ++ (proof_lines ++ state_lines)

pub record Cases : Type 0 where
  pub lines : AllByRecursion Holds table
  -- what no figure shows: reports of earlier views 0, 0, 0 allow every command
  pub any_command : (c : ℕ) → none_for c ≡ 0
