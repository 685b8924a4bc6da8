-- Reports, and what the reports behind an order bind it to.
use Rattle.std.specs.Prelude.{ℕ, zero, suc, ◌+◌, max, Bool, true, cond, ◌&&◌, ◌||◌, List, [], ◌∷◌, length, drop, Some, None, Ok, Err, Option, Result, ◌==◌, nat_lt}
use Rattle.packet.specs.Kinds.{byte_of}
use Rattle.packet.specs.Parts.{statement_at}
use Rattle.packet.specs.declared.kinds.Kind.TheVariants.{Report}
use Rattle.packet.specs.declared.statements.Statement.{Statement}
use Rattle.refusal.specs.Refusals.{and_then}
use Rattle.refusal.specs.declared.proofs.ProofFault.{ProofFault}
use Rattle.refusal.specs.declared.proofs.ProofFault.TheVariants.{Rule}
use Rattle.proof.specs.declared.reports.Group.{Group}
use Rattle.proof.specs.Certificates.{prepared}

-- a test is passed, or the rule is broken
abbrev pub holds : Bool → Result (Unit {0}) ProofFault
holds b = cond b (Ok tt) (Err Rule)

-- a report for view v on slot n
abbrev pub reports_on : (v n : ℕ) → Statement → Bool
reports_on v n r = byte_of r.kind == byte_of Report && (r.view.0 == v && r.slot.0 == n)

-- a report of earlier view 0 stands alone, behind any other stands that view's certificate
abbrev pub certified : (n : ℕ) → List (List ℕ) → ℕ → Statement → Bool
certified n ps i r = r.earlier.0 == 0 || prepared r.earlier.0 n r.command ps i

abbrev pub grouped : (v n : ℕ) → List (List ℕ) → ℕ → Option Statement → Result Statement ProofFault
grouped v n ps i None = Err Rule
grouped v n ps i (Some r) = cond (reports_on v n r && certified n ps (i + 1) r) (Ok r) (Err Rule)

-- the report of the group that begins at place i
unfoldable pub report_at : (v n : ℕ) → List (List ℕ) → ℕ → Result Statement ProofFault
report_at v n ps i = grouped v n ps i (statement_at ps i)

-- the place behind the group of the report at place i
abbrev pub behind : ℕ → Statement → ℕ
behind i r = cond (r.earlier.0 == 0) (i + 1) (i + 4)

-- the reports of k groups from place i on, with nothing behind them
abbrev pub reports_from : (k v n : ℕ) → List (List ℕ) → ℕ → Result (List Statement) ProofFault
reports_from zero v n ps i = cond (i == length ps) (Ok []) (Err Rule)
reports_from (suc k) v n ps i = and_then (report_at v n ps i) (λ r. and_then (reports_from k v n ps (behind i r)) (λ rs. Ok (r ∷ rs)))

-- signers rise, from above i on
abbrev pub rises : ℕ → List Statement → Bool
rises i [] = true
rises i (r ∷ rs) = nat_lt i r.signer && rises r.signer rs

abbrev pub rising : List Statement → Bool
rising [] = true
rising (r ∷ rs) = rises r.signer rs

-- the highest earlier view that reports name
abbrev pub highest : List Statement → ℕ
highest [] = 0
highest (r ∷ rs) = max r.earlier.0 (highest rs)

-- a report allows command c, where h is the highest earlier view: it names c, or a lower view, or all name 0
abbrev pub allows : (h c : ℕ) → Statement → Bool
allows h c r = h == 0 || (nat_lt r.earlier.0 h || r.command == c)

abbrev pub all_allow : (h c : ℕ) → List Statement → Bool
all_allow h c [] = true
all_allow h c (r ∷ rs) = allows h c r && all_allow h c rs

-- reports with rising signers of which those with the highest earlier view, if it is above 0, name command c
unfoldable pub justify : (c : ℕ) → List Statement → Bool
justify c rs = rising rs && all_allow (highest rs) c rs

-- three groups from place i on that justify an order of view v, slot n and command c
unfoldable pub check_reports : (v n c : ℕ) → List (List ℕ) → ℕ → Result (Unit {0}) ProofFault
check_reports v n c ps i = and_then (reports_from 3 v n ps i) (λ rs. holds (justify c rs))

-- in view 1 nothing stands from place i on, in any other view three groups do
unfoldable pub check_backing : (v n c : ℕ) → List (List ℕ) → ℕ → Result (Unit {0}) ProofFault
check_backing v n c ps i = cond (v == 1) (holds (length ps == i)) (check_reports v n c ps i)

-- the report of the group that parts begin with, and the parts behind the group
abbrev pub group_of : (v n : ℕ) → List (List ℕ) → Result (Statement × List (List ℕ)) ProofFault
group_of v n ps = and_then (report_at v n ps 0) (λ r. Ok (r, drop (behind 0 r) ps))

abbrev pub seen_group : Result Group ProofFault → Result (Statement × List (List ℕ)) ProofFault
seen_group (Ok g) = Ok (g.report, g.behind.now)
seen_group (Err e) = Err e
