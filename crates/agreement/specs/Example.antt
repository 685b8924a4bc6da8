-- An execution that keeps the rules, so that the laws are not about nothing. One fault: replica 3 of four lies, and signs
-- every vote, every commit and every report there is. The others sign only what follows, all of it about slot 1.
--
--   View 1, active 0, 1 and 2: all three vote for command 5. Only replica 0 sees the certificate, and commits.
--   View 2, active 1, 2 and 3: the reports of 1, 2 and 3 all name earlier view 0, so any command may be voted for.
--     Replicas 1 and 2 vote for command 7 and commit. Command 7 is settled, the commit to 5 notwithstanding.
--   View 3, active 0, 2 and 3: the reports of 0, 2 and 3 name earlier views 1 (command 5), 2 (command 7) and 0.
--     The highest is 2, so replicas 0 and 2 vote for command 7 and commit. It is settled again.
use Rattle.std.specs.Prelude.{ℕ, Bool, cond, ◌&&◌, ◌||◌, [], ◌∷◌, ◌==◌, nat_lt}
use Rattle.agreement.specs.Groups.{Group}
use Rattle.agreement.specs.Votes.{Certificate, Settled}
use Rattle.agreement.specs.Rules.{Rules}
use Rattle.agreement.specs.Traces.{Trace, execution}

abbrev pub four : Group
four = record {
  faults = 1;
  liars = 3 ∷ [];
  active = λ v. cond (v == 1) (0 ∷ 1 ∷ 2 ∷ []) (cond (v == 2) (1 ∷ 2 ∷ 3 ∷ []) (0 ∷ 2 ∷ 3 ∷ []));
}

-- i is one of the correct active replicas of view v, and v is one of the three views
abbrev pub takes_part : (i v : ℕ) → Bool
takes_part i v = (v == 1 && nat_lt i 3) || (v == 2 && (i == 1 || i == 2)) || (v == 3 && (i == 0 || i == 2))

-- the command that view v votes for
abbrev pub voted_for : (v : ℕ) → ℕ
voted_for v = cond (v == 1) 5 7

-- the earlier view that a correct replica i reports for view v
abbrev pub last_seen : (i v : ℕ) → ℕ
last_seen i v = cond (i == 0) 1 (cond (v == 2) 0 2)

-- the command that it reports with earlier view e
abbrev pub reported_with : (e : ℕ) → ℕ
reported_with e = cond (e == 0) 0 (voted_for e)

abbrev pub example : Trace
example = record {
  group = four;
  voted = λ i v n c. (i == 3) || (takes_part i v && n == 1 && c == voted_for v);
  committed = λ i v n c. (i == 3) || (takes_part i v && n == 1 && c == voted_for v && (nat_lt 1 v || i == 0));
  reported = λ i v n e c. (i == 3) || ((v == 2 || v == 3) && n == 1 && e == last_seen i v && c == reported_with e);
}

-- The example keeps the rules. View 1 has a certificate for command 5, to which replica 0 commits, and yet command 7 is
-- settled, in views 2 and 3.
pub record RulesKept : Type 0 where
  pub rules : Rules (execution example)
  pub certified : Certificate (execution example) 1 1 5
  pub lone_commit : (execution example).Committed 0 1 1 5
  pub settled : Settled (execution example) 2 1 7
  pub settled_again : Settled (execution example) 3 1 7
