-- What a vote in a later view rests on: the reports of a quorum.
use Rattle.std.specs.Prelude.{◌≡◌, ℕ, ◌<◌, ◌≤◌, List, map}
use Rattle.agreement.specs.Lists.{Among}
use Rattle.agreement.specs.Groups.{Quorum, Correct}
use Rattle.agreement.specs.Votes.{Execution, Certificate}

-- A report on a slot: in which earlier view its signer last saw a certificate, or 0 for none, and for which command.
pub record Report : Type 0 where
  pub signer : ℕ
  pub earlier : ℕ
  pub command : ℕ

abbrev pub signer_of : Report → ℕ
signer_of r = r.signer

-- no report of the list names a higher earlier view than r
abbrev pub Highest : Report → List Report → Type 0
Highest r reports = (s : Report) → Among s reports → s.earlier ≤ r.earlier

-- What justifies a vote in view v for command c in slot n.
pub record Justification (x : Execution) (v n c : ℕ) : Type 0 where
  -- reports of 2 f + 1 different signers
  pub reports : List Report
  pub quorum : Quorum x.group.faults (map signer_of reports)
  -- none of them is forged under a correct replica's number
  pub signed : {r : Report} → Among r reports → Correct x.group r.signer → x.Reported r.signer v n r.earlier r.command
  -- each names a view below v, and unless that is 0 there is a certificate for what it names
  pub below : {r : Report} → Among r reports → r.earlier < v
  pub certified : {r : Report} → Among r reports → 0 < r.earlier → Certificate x r.earlier n r.command
  -- Those with the highest earlier view, where that is above 0, name the command of the vote, and so all name one command.
  -- Where it is 0, any command may be voted for.
  pub highest_binds : {r : Report} → Among r reports → Highest r reports → 0 < r.earlier → r.command ≡ c
