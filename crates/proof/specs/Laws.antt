-- What the roles and the rules keep, in the words of the law of agreement.
use Rattle.std.specs.Prelude.{◌≡◌, ℕ, ◌<◌, T, ◌⊎◌, List, [], ◌∷◌, ◌++◌, map, Ok}
use Rattle.std.specs.Int.Digits.{AllBelowBase}
use Rattle.std.specs.List.{AllByRecursion}
use Rattle.agreement.specs.Groups.{Correct, Quorum}
use Rattle.agreement.specs.Lists.{Among}
use Rattle.agreement.specs.Reports as agreement
use Rattle.agreement.specs.Traces.{Trace, execution}
use Rattle.agreement.specs.Votes.{Settled}
use Rattle.packet.specs.Laws.{Written}
use Rattle.packet.specs.Proofs.{ProofWritten}
use Rattle.packet.specs.Statements.{encode, statement}
use Rattle.packet.specs.declared.kinds.Kind.{Kind}
use Rattle.packet.specs.declared.kinds.Kind.TheVariants.{Order, Prepare, Commit, Report, Wish, Checkpoint, Answer}
use Rattle.packet.specs.declared.packets.Reader.TheVariants.{Replica}
use Rattle.packet.specs.declared.statements.Statement.{Statement}
use Rattle.sealer.specs.Laws.{Genuine}
use Rattle.sealer.specs.Seals.{Meaning}
use Rattle.proof.specs.Checks.{check_packet, check_proof}
use Rattle.proof.specs.Reports.{check_backing}
use Rattle.proof.specs.Roles.{primary, spare, active, backups}

-- in every view the active replicas are a quorum of four replicas, of which one may lie
abbrev pub ActiveQuorum : Type 0
ActiveQuorum = (v : ℕ) → Quorum 1 (active v)

-- the primary is active, the spare is not, and each active replica is the primary or a backup
pub record PartsDiffer : Type 0 where
  pub leads : (v : ℕ) → Among (primary v) (active v)
  pub rests : (v : ℕ) → ¬ Among (spare v) (active v)
  pub differ : (v : ℕ) → ¬ (primary v ≡ spare v)
  pub either : (v i : ℕ) → Among i (active v) → (i ≡ primary v) ⊎ Among i (backups v)

-- s is a statement of this kind by i, for view v, slot n and command c
abbrev pub Says : Kind → (i v n c : ℕ) → Statement → Type 0
Says k i v n c s = s ≡ statement k i v n 0 c s.seal

-- one such statement by each of these signers, in their order
pub data EachSays (k : Kind) (v n c : ℕ) : List ℕ → List Statement → Type 0 where
  none : EachSays k v n c [] []
  more : {j : ℕ} {js : List ℕ} {s : Statement} {ss : List Statement} → Says k j v n c s → EachSays k v n c js ss → EachSays k v n c (j ∷ js) (s ∷ ss)

-- i voted: it signed an order or a prepare
abbrev pub Votes : (i v n c : ℕ) → Statement → Type 0
Votes i v n c s = Says Order i v n c s ⊎ Says Prepare i v n c s

-- one of the statements is such a one
abbrev pub SomeOf : (Statement → Type 0) → List Statement → Type 0
SomeOf P ss = (s : Statement) × Among s ss × P s

-- the certificate of a prepared slot: the order of the view's primary and the prepares of its backups, so that every
-- active replica voted
pub record Prepared (v n c : ℕ) (ss : List Statement) : Type 0 where
  pub order : Statement
  pub prepares : List Statement
  pub whole : ss ≡ order ∷ prepares
  pub ordered : Says Order (primary v) v n c order
  pub seconded : EachSays Prepare v n c (backups v) prepares
  pub voted : (i : ℕ) → Among i (active v) → SomeOf (Votes i v n c) ss

-- the certificate of a decision: every active replica of the view signed a commit
pub record Decided (v n c : ℕ) (ss : List Statement) : Type 0 where
  pub each : EachSays Commit v n c (active v) ss
  pub committed : (i : ℕ) → Among i (active v) → SomeOf (Says Commit i v n c) ss

-- a report and the certificate behind it
pub record Group : Type 0 where
  pub report : Statement
  pub certificate : List Statement

-- the statements of groups, one behind the other
abbrev pub spread : List Group → List Statement
spread [] = []
spread (g ∷ gs) = g.report ∷ (g.certificate ++ spread gs)

-- a report for view v on slot n; it stands alone, or has the certificate of the earlier view that it names
pub record Reporting (v n : ℕ) (g : Group) : Type 0 where
  pub says : g.report ≡ statement Report g.report.signer v n g.report.earlier.0 g.report.command g.report.seal
  pub known : g.report.signer < 4
  pub below : g.report.earlier.0 < v
  pub alone : g.report.earlier.0 ≡ 0 → g.certificate ≡ []
  pub certified : 0 < g.report.earlier.0 → Prepared g.report.earlier.0 n g.report.command g.certificate

-- a group's report as the law of agreement has it
abbrev pub report_of : Group → agreement.Report
report_of g = record { signer = g.report.signer; earlier = g.report.earlier.0; command = g.report.command }

abbrev pub reports_of : List Group → List agreement.Report
reports_of gs = map report_of gs

-- what justifies an order in any view but view 1: the reports of a quorum, of which those with the highest earlier view, if
-- it is above 0, name the order's command
pub record Justified (v n c : ℕ) (ss : List Statement) : Type 0 where
  pub groups : List Group
  pub whole : ss ≡ spread groups
  pub reporting : (g : Group) → Among g groups → Reporting v n g
  pub quorum : Quorum 1 (map agreement.signer_of (reports_of groups))
  pub highest_binds : (r : agreement.Report) → Among r (reports_of groups) → agreement.Highest r (reports_of groups) → 0 < r.earlier → r.command ≡ c

-- what stands behind an order
pub record Backed (v n c : ℕ) (ss : List Statement) : Type 0 where
  pub first : v ≡ 1 → ss ≡ []
  pub later : ¬ (v ≡ 1) → Justified v n c ss

-- the rule that a packet keeps, by its first kind
abbrev pub Kept : Kind → (v n c : ℕ) → Statement → List Statement → Type 0
Kept Order v n c s ss = Backed v n c ss
Kept Prepare v n c s ss = Unit {0}
Kept Commit v n c s ss = (ss ≡ []) ⊎ Decided v n c (s ∷ ss)
Kept Report v n c s ss = Unit {0}
Kept Wish v n c s ss = Unit {0}
Kept Checkpoint v n c s ss = Unit {0}
Kept Answer v n c s ss = Unit {0}

-- a packet that passes is written of statements under genuine seals, and keeps the rule of its first kind
abbrev pub PacketsKeep : Meaning → Type 0
PacketsKeep m = (bs : List ℕ) (s : Statement) (ps : List (List ℕ)) → AllBelowBase 256 bs → check_packet m bs ≡ Ok (s, ps) → (ss : List Statement) × Written Replica bs s ss × AllByRecursion (Genuine m) (s ∷ ss) × (ps ≡ map encode (s ∷ ss)) × Kept s.kind s.view.0 s.slot.0 s.command s ss

-- a proof that passes is written of statements under genuine seals on which an order of view v, slot n and command c can rest
abbrev pub ProofsKeep : Meaning → Type 0
ProofsKeep m = (v n c : ℕ) (bs : List ℕ) → AllBelowBase 256 bs → check_proof m v n c bs ≡ Ok tt → (ss : List Statement) × ProofWritten bs ss × AllByRecursion (Genuine m) ss × Backed v n c ss

-- an order in front of statements rests on them as a lead rests on them as its proof
abbrev pub RestAlike : Type 0
RestAlike = (v n c : ℕ) (p : List ℕ) (ps : List (List ℕ)) → check_backing v n c (p ∷ ps) 1 ≡ check_backing v n c ps 0

-- what its signer did, by a trace of the group, if it signed the statement
abbrev pub Recorded : Trace → Kind → (i v n e c : ℕ) → Type 0
Recorded t Order i v n e c = T (t.voted i v n c)
Recorded t Prepare i v n e c = T (t.voted i v n c)
Recorded t Commit i v n e c = T (t.committed i v n c)
Recorded t Report i v n e c = T (t.reported i v n e c)
Recorded t Wish i v n e c = Unit {0}
Recorded t Checkpoint i v n e c = Unit {0}
Recorded t Answer i v n e c = Unit {0}

-- A group of four with these roles, in which none of the statements is forged under a correct replica's number.
pub record Unforged (t : Trace) (ss : List Statement) : Type 0 where
  pub four : t.group.faults ≡ 1
  pub roles : (v : ℕ) → t.group.active v ≡ active v
  pub signed : (s : Statement) → Among s ss → Correct t.group s.signer → Recorded t s.kind s.signer s.view.0 s.slot.0 s.earlier.0 s.command

-- what the law of agreement takes from the rules: reports justify a vote, and a decision's command is settled
pub record FeedsAgreement : Type 0 where
  pub votes : (t : Trace) (v n c : ℕ) (ss : List Statement) → Unforged t ss → Justified v n c ss → agreement.Justification (execution t) v n c
  pub decisions : (t : Trace) (v n c : ℕ) (ss : List Statement) → Unforged t ss → Decided v n c ss → Settled (execution t) v n c
