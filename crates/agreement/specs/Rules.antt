-- The rules that every correct replica keeps, whatever the others do. Each is about what one replica signs.
use Rattle.std.specs.Prelude.{◌≡◌, ℕ, ◌<◌, ◌≤◌}
use Rattle.agreement.specs.Groups.{Sound, Correct}
use Rattle.agreement.specs.Votes.{Execution, Certificate}
use Rattle.agreement.specs.Reports.{Justification}

pub record Rules (x : Execution) : Type 0 where
  -- what is assumed of the group
  pub sound : Sound x.group
  -- 1. A replica has one vote for each view and slot.
  pub one_vote : {i v n c c' : ℕ} → Correct x.group i → x.Voted i v n c → x.Voted i v n c' → c ≡ c'
  -- 2. A commit rests on a certificate for what it commits to.
  pub commit_certified : {i v n c : ℕ} → Correct x.group i → x.Committed i v n c → Certificate x v n c
  -- 3. A vote in any view but view 1 rests on reports. (So there is none in view 0: no report names a view below 0.)
  pub vote_justified : {i v n c : ℕ} → Correct x.group i → x.Voted i v n c → ¬ (v ≡ 1) → Justification x v n c
  -- 4. A report for view v leaves nothing out: if its signer ever commits in a view u below v, the report names an earlier
  -- view of at least u. So after the report its signer commits in no view between the one that it names and v.
  pub report_complete : {i u v n c e c' : ℕ} → Correct x.group i → x.Committed i u n c → x.Reported i v n e c' → u < v → u ≤ e
