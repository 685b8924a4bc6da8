-- What a statement is for.
use Rattle.packet.specs.declared.statements.Statement.{Statement}
use Rattle.proof.specs.declared.certificates.Choice.{Choice}

abbrev pub choice_of : Statement → Choice
choice_of s = record { view = s.view; slot = s.slot; command = s.command }
