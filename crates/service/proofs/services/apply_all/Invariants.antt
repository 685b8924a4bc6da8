-- The check does not find these alone.
use Rattle.std.proofs.Common.{◌≡◌, take}
use Rattle.service.specs.Outcomes.{run}
use Rattle.service.proofs.services.apply_all.Given as goal

-- the state is that after the commands so far
abbrev pub invariant-loop-command : goal.invariant-loop-command
invariant-loop-command g l = g.S.Service.state l.service ≡ run g.S.Service.next (g.S.Service.state l.initial.service) (take l.command-index l.commands)
