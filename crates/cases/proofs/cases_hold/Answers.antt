-- The check does not find these alone.
use Rattle.std.proofs.Common.{refl}
use Rattle.packet.specs.Statements.{body, decode, encode}
use Rattle.proof.specs.Certificates.{prepared, says}
use Rattle.proof.specs.Reports.{check_backing, check_reports, justify, report_at}
use Rattle.proof.specs.Roles.{active, backups}
use Rattle.cases.specs.Cases.{table}
use Rattle.cases.proofs.Computed.{all_hold}
use Rattle.cases.proofs.cases_hold.Goals as goal

pub returns : goal.returns
unfolding active backups body check_backing check_reports decode encode justify prepared report_at says
returns c = record { lines = all_hold table refl; any_command = λ _. refl }
