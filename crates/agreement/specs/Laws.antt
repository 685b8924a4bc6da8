-- The laws of agreement: what holds of a sound group, and of an execution that keeps the rules.
use Rattle.std.specs.Prelude.{◌≡◌, ℕ, ◌<◌, ◌≤◌, List}
use Rattle.agreement.specs.Lists.{Among}
use Rattle.agreement.specs.Groups.{Group, Quorum, Correct}
use Rattle.agreement.specs.Votes.{Execution, Certificate, Settled}
use Rattle.agreement.specs.Reports.{Justification}
use Rattle.agreement.specs.Decisions.{Decision, Justified, Listing}

-- a correct replica that stands in both lists
pub record Shared (g : Group) (left right : List ℕ) : Type 0 where
  pub replica : ℕ
  pub correct : Correct g replica
  pub in_left : Among replica left
  pub in_right : Among replica right

-- Two quorums share a correct replica.
abbrev pub QuorumsOverlap : Group → Type 0
QuorumsOverlap g = (left right : List ℕ) → Quorum g.faults left → Quorum g.faults right → Shared g left right

-- Two certificates of one view and slot are for one command.
abbrev pub CertificatesAgree : Execution → Type 0
CertificatesAgree x = (v n c c' : ℕ) → Certificate x v n c → Certificate x v n c' → c ≡ c'

-- In slot n all that follows view v is for command c:
pub record Bound (x : Execution) (v n c : ℕ) : Type 0 where
  -- whatever the reports for a later view justify,
  pub justified : (u c' : ℕ) → v < u → Justification x u n c' → c' ≡ c
  -- every vote of a correct replica in a later view,
  pub votes : (i u c' : ℕ) → v < u → Correct x.group i → x.Voted i u n c' → c' ≡ c
  -- every certificate of view v or a later one,
  pub certificates : (u c' : ℕ) → v ≤ u → Certificate x u n c' → c' ≡ c
  -- and every commit of a correct replica in view v or a later one.
  pub commits : (i u c' : ℕ) → v ≤ u → Correct x.group i → x.Committed i u n c' → c' ≡ c

-- What is settled in a view binds what follows.
abbrev pub SettledBinds : Execution → Type 0
SettledBinds x = (v n c : ℕ) → Settled x v n c → Bound x v n c

-- Whatever is settled in a slot, in whatever views, is one command.
abbrev pub SettledAgree : Execution → Type 0
SettledAgree x = (n u v c c' : ℕ) → Settled x u n c → Settled x v n c' → c ≡ c'

-- All decisions of a finite list, if each is justified, are read from one list of commands.
abbrev pub OneList : Execution → Type 0
OneList x = (decisions : List Decision) → ((d : Decision) → Among d decisions → Justified x d) → Listing decisions
