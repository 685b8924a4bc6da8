-- The same histories over statements in place of bytes. A call that cannot be read as statements is refused and changes
-- nothing, and it is left out here.
use Rattle.std.proofs.Common.{◌≡◌, ℕ, ◌+◌, true, false, cond, eqb, ◌⊎◌, List, [], ◌∷◌, ◌++◌, map, Some, None, Ok, Option}
use Rattle.std.specs.List.{flat_map, AllByRecursion}
use Rattle.agreement.specs.Lists.{Among}
use Rattle.packet.specs.Laws as packets
use Rattle.packet.specs.Proofs.{ProofWritten}
use Rattle.packet.specs.Statements.{encode}
use Rattle.packet.specs.declared.kinds.Kind.TheVariants as kind
use Rattle.packet.specs.declared.packets.Reader.TheVariants.{Replica}
use Rattle.packet.specs.declared.statements.Statement.{Statement}
use Rattle.proof.specs.Checks.{check_decision}
use Rattle.proof.specs.Reports.{check_backing}
use Rattle.proof.specs.Roles.{primary, active, backups}
use Rattle.sealer.specs.Laws.{Genuine}
use Rattle.sealer.specs.Seals.{Meaning}
use Rattle.slots.specs.Checks.{Test, verdict, take_order, take_prepare, take_commit, take_certificate, take_wish, take_mark, lead_tests, led_tests, leave_tests, report_tests, show_tests, run_tests}
use Rattle.slots.specs.Cores as cores
use Rattle.slots.specs.Records.{certificate}
use Rattle.slots.specs.declared.cores.Core.{Core}
use Rattle.promise.specs.Statements.{order, prepare, commit, decided_statements}
use Rattle.promise.specs.Steps.{Setting, Member, Enters, Leads, Reports, Runs, Takes}
use Rattle.promise.specs.Histories.{Correct, made}

-- a call as it is read
pub data Reading : Type 0 where
  lead : (n c : ℕ) (ss : List Statement) → Reading
  an_order : (s : Statement) (ss : List Statement) → Reading
  a_prepare : (s : Statement) → Reading
  a_commit : (s : Statement) → Reading
  a_certificate : (s : Statement) (ss : List Statement) → Reading
  a_wish : (s : Statement) → Reading
  a_mark : (s : Statement) → Reading
  leave : Reading
  report_on : (n : ℕ) → Reading
  show : (n : ℕ) → Reading
  run : Reading

abbrev pub handed : Reading → List Statement
handed (lead n c ss) = ss
handed (an_order s ss) = s ∷ ss
handed (a_prepare s) = s ∷ []
handed (a_commit s) = s ∷ []
handed (a_certificate s ss) = s ∷ ss
handed (a_wish s) = s ∷ []
handed (a_mark s) = s ∷ []
handed leave = []
handed (report_on n) = []
handed (show n) = []
handed run = []

-- bytes that a replica takes are these statements
abbrev pub Packet : Statement → List Statement → Type 0
Packet s ss = packets.Written Replica (flat_map encode (s ∷ ss)) s ss

abbrev pub Readable : Reading → Type 0
Readable (lead n c ss) = ProofWritten (flat_map encode ss) ss
Readable (an_order s ss) = (s.kind ≡ kind.Order) × Packet s ss
Readable (a_prepare s) = (s.kind ≡ kind.Prepare) × Packet s []
Readable (a_commit s) = (s.kind ≡ kind.Commit) × Packet s []
Readable (a_certificate s ss) = (s.kind ≡ kind.Commit) × Packet s ss × (¬ (ss ≡ []))
Readable (a_wish s) = (s.kind ≡ kind.Wish) × Packet s []
Readable (a_mark s) = (s.kind ≡ kind.Checkpoint) × Packet s []
Readable leave = Unit {0}
Readable (report_on n) = Unit {0}
Readable (show n) = Unit {0}
Readable run = Unit {0}

abbrev pub Passed : List Test → Type 0
Passed ts = verdict ts ≡ Ok tt

module _ (own : ℕ) (m : Meaning) where
  -- nothing refuses the call
  abbrev pub Admitted : Core → Reading → Type 0
  Admitted core (lead n c ss) = Passed (lead_tests own core n) × AllByRecursion (Genuine m) ss × (check_backing core.view.0 n c (map encode ss) 0 ≡ Ok tt) × Passed (led_tests core n c)
  Admitted core (an_order s ss) = AllByRecursion (Genuine m) (s ∷ ss) × (check_backing s.view.0 s.slot.0 s.command (map encode (s ∷ ss)) 1 ≡ Ok tt) × Passed (take_order own core s)
  Admitted core (a_prepare s) = Genuine m s × Passed (take_prepare own core s)
  Admitted core (a_commit s) = Genuine m s × Passed (take_commit own core s)
  Admitted core (a_certificate s ss) = AllByRecursion (Genuine m) (s ∷ ss) × (check_decision s.view.0 s.slot.0 s.command (map encode (s ∷ ss)) ≡ Ok tt) × Passed (take_certificate core s)
  Admitted core (a_wish s) = Genuine m s × Passed (take_wish own core s)
  Admitted core (a_mark s) = Genuine m s × Passed (take_mark own core s)
  Admitted core leave = Passed (leave_tests core)
  Admitted core (report_on n) = Passed (report_tests core n)
  Admitted core (show n) = Passed (show_tests core n)
  Admitted core run = Passed (run_tests core)

abbrev pub seal_of : Statement → ℕ
seal_of s = s.seal

module _ {State : Type 0} (own : ℕ) (k : Setting State) where
  abbrev pub Does : Member State → Reading → (out : List Statement) → Member State → Type 0
  Does m (lead n c ss) out m' = ((out₀ : List Statement) × Leads own k.genuine m.core n c out₀ m'.core × (out ≡ out₀ ++ ss)) × (m'.state ≡ m.state)
  Does m (an_order s ss) out m' = Takes own k.genuine kind.Order m.core s (map seal_of (s ∷ ss)) out m'.core × (m'.state ≡ m.state)
  Does m (a_prepare s) out m' = Takes own k.genuine kind.Prepare m.core s (s.seal ∷ []) out m'.core × (m'.state ≡ m.state)
  Does m (a_commit s) out m' = ((out ≡ []) × (m'.core ≡ cores.commit_counted m.core s.slot.0 s.signer s.seal)) × (m'.state ≡ m.state)
  Does m (a_certificate s ss) out m' = ((out ≡ []) × (m'.core ≡ cores.certified m.core s.slot.0 (certificate s.view.0 s.command (map seal_of (s ∷ ss))))) × (m'.state ≡ m.state)
  Does m (a_wish s) out m' = Takes own k.genuine kind.Wish m.core s (s.seal ∷ []) out m'.core × (m'.state ≡ m.state)
  Does m (a_mark s) out m' = Takes own k.genuine kind.Checkpoint m.core s (s.seal ∷ []) out m'.core × (m'.state ≡ m.state)
  Does m leave out m' = Enters own k.genuine true m.core (m.core.view.0 + 1) out m'.core × (m'.state ≡ m.state)
  Does m (report_on n) out m' = Reports own k.genuine m.core n out × (m' ≡ m)
  Does m (show n) out m' = (out ≡ decided_statements n (cores.record_at m.core n).decided) × (m' ≡ m)
  Does m run out m' = Runs own k m out m'

  -- what was written, or nothing where the call is refused
  abbrev pub Answers : Member State → Reading → Option (List Statement) → Member State → Type 0
  Answers m call (Some out) m' = Admitted own k.genuine m.core call × Does m call out m'
  Answers m call None m' = (¬ Admitted own k.genuine m.core call) × (m' ≡ m)

pub record Turn (State : Type 0) : Type 0 where
  pub who : ℕ
  pub before : Member State
  pub call : Reading
  pub answer : Option (List Statement)
  pub after : Member State

abbrev pub ran : Reading → Option (List Statement) → ℕ
ran (lead n c ss) a = 0
ran (an_order s ss) a = 0
ran (a_prepare s) a = 0
ran (a_commit s) a = 0
ran (a_certificate s ss) a = 0
ran (a_wish s) a = 0
ran (a_mark s) a = 0
ran leave a = 0
ran (report_on n) a = 0
ran (show n) a = 0
ran run (Some out) = 1
ran run None = 0

module _ {State : Type 0} where
  pub record Accepted (i : ℕ) (h : List (Turn State)) (Such : Turn State → Type 0) : Type 0 where
    pub turn : Turn State
    pub stands : Among turn h
    pub own : turn.who ≡ i
    pub out : List Statement
    pub answered : turn.answer ≡ Some out
    pub such : Such turn

  pub record Written (i : ℕ) (s : Statement) (h : List (Turn State)) : Type 0 where
    pub turn : Turn State
    pub stands : Among turn h
    pub own : turn.who ≡ i
    pub out : List Statement
    pub answered : turn.answer ≡ Some out
    pub part : Among s out
    pub signed : s.signer ≡ i

  abbrev pub Led : (v n c : ℕ) → Turn State → Type 0
  Led v n c e = (ss : List Statement) × (e.call ≡ lead n c ss) × (e.before.core.view.0 ≡ v)

  abbrev pub TookOrder : (v n c : ℕ) → Turn State → Type 0
  TookOrder v n c e = (t : ℕ) × ((ss : List Statement) × (e.call ≡ an_order (order (primary v) v n c t) ss))

  abbrev pub TookPrepare : (j v n c : ℕ) → Turn State → Type 0
  TookPrepare j v n c e = (t : ℕ) × (e.call ≡ a_prepare (prepare j v n c t))

  abbrev pub TookCommit : (j v n c : ℕ) → Turn State → Type 0
  TookCommit j v n c e = (t : ℕ) × (e.call ≡ a_commit (commit j v n c t))

  pub record TookCertificate (n c : ℕ) (e : Turn State) : Type 0 where
    pub signer : ℕ
    pub view : ℕ
    pub seal : ℕ
    pub rest : List Statement
    pub called : e.call ≡ a_certificate (commit signer view n c seal) rest

  pub record DecidedIn (i v n c : ℕ) (h : List (Turn State)) : Type 0 where
    pub ordered : Accepted i h (Led v n c) ⊎ Accepted i h (TookOrder v n c)
    pub prepares : (j : ℕ) → Among j (backups v) → ¬ (j ≡ i) → Accepted i h (TookPrepare j v n c)
    pub commits : (j : ℕ) → Among j (active v) → ¬ (j ≡ i) → Accepted i h (TookCommit j v n c)

  abbrev pub Decided : (i n c : ℕ) → List (Turn State) → Type 0
  Decided i n c h = Accepted i h (TookCertificate n c) ⊎ ((v : ℕ) × DecidedIn i v n c h)

  abbrev pub runs : (i : ℕ) → List (Turn State) → ℕ
  runs i [] = 0
  runs i (e ∷ h) = cond (eqb e.who i) (ran e.call e.answer) 0 + runs i h

module _ {State : Type 0} (k : Setting State) where
  abbrev pub now : (i : ℕ) → List (Turn State) → Member State
  now i [] = made k
  now i (e ∷ h) = cond (eqb e.who i) e.after (now i h)

  pub data Course : List (Turn State) → Type 0 where
    none : Course []
    more : {h : List (Turn State)} (e : Turn State) → Course h → Correct k e.who → e.before ≡ now e.who h → Readable e.call → Answers e.who k e.before e.call e.answer e.after → Course (e ∷ h)

  -- if its seal is genuine under a correct number, that replica wrote it
  abbrev pub Honest : Statement → List (Turn State) → Type 0
  Honest s h = Correct k s.signer → Genuine k.genuine s → Written s.signer s h

  abbrev pub Unforged : List (Turn State) → Type 0
  Unforged [] = Unit {0}
  Unforged (e ∷ h) = ((s : Statement) → Among s (handed e.call) → Honest s h) × Unforged h

-- a turn of replica i among these
pub record Delivered {State : Type 0} (i : ℕ) (es : List (Turn State)) (Such : Reading → Type 0) : Type 0 where
  pub turn : Turn State
  pub stands : Among turn es
  pub own : turn.who ≡ i
  pub such : Such turn.call

abbrev pub HandsPrepare : (j v n c : ℕ) → Reading → Type 0
HandsPrepare j v n c call = (t : ℕ) × (call ≡ a_prepare (prepare j v n c t))

abbrev pub HandsCommit : (j v n c : ℕ) → Reading → Type 0
HandsCommit j v n c call = (t : ℕ) × (call ≡ a_commit (commit j v n c t))

module _ {State : Type 0} (v n c : ℕ) (base : List (Turn State)) where
  -- prepares and commits of the round, each handed once to another active replica after its signer wrote it
  pub data Deliveries : List (Turn State) → Type 0 where
    start : Deliveries []
    a_prepare_more : {es : List (Turn State)} → Deliveries es → (e : Turn State) (j t : ℕ) → Among e.who (active v) → Among j (backups v) → ¬ (j ≡ e.who) → e.call ≡ a_prepare (prepare j v n c t) → Written j (prepare j v n c t) (es ++ base) → ¬ Delivered e.who es (HandsPrepare j v n c) → Deliveries (e ∷ es)
    a_commit_more : {es : List (Turn State)} → Deliveries es → (e : Turn State) (j t : ℕ) → Among e.who (active v) → Among j (active v) → ¬ (j ≡ e.who) → e.call ≡ a_commit (commit j v n c t) → Written j (commit j v n c t) (es ++ base) → ¬ Delivered e.who es (HandsCommit j v n c) → Deliveries (e ∷ es)

pub record Round {State : Type 0} (k : Setting State) (v n c : ℕ) (h H : List (Turn State)) : Type 0 where
  pub correct : (i : ℕ) → Among i (active v) → Correct k i
  pub in_view : (i : ℕ) → Among i (active v) → (now k i h).core.view.0 ≡ v
  pub opened : (i : ℕ) → Among i (active v) → cores.is_open (now k i h).core n ≡ true
  pub unordered : (i : ℕ) → Among i (active v) → (cores.record_at (now k i h).core n).ordered ≡ false
  pub leads : Turn State
  pub leader : leads.who ≡ primary v
  pub proof : List Statement
  pub led : leads.call ≡ lead n c proof
  pub seal : ℕ
  pub accepted : leads.answer ≡ Some (order (primary v) v n c seal ∷ proof)
  pub first : Turn State
  pub second : Turn State
  pub first_backup : Among first.who (backups v)
  pub second_backup : Among second.who (backups v)
  pub two : ¬ (second.who ≡ first.who)
  pub both : (i : ℕ) → Among i (backups v) → (first.who ≡ i) ⊎ (second.who ≡ i)
  pub first_order : first.call ≡ an_order (order (primary v) v n c seal) proof
  pub second_order : second.call ≡ an_order (order (primary v) v n c seal) proof
  pub deliveries : List (Turn State)
  pub whole : H ≡ deliveries ++ (second ∷ first ∷ leads ∷ h)
  pub each : Deliveries v n c (second ∷ first ∷ leads ∷ h) deliveries
  pub all_prepares : (i j : ℕ) → Among i (active v) → Among j (backups v) → ¬ (j ≡ i) → Delivered i deliveries (HandsPrepare j v n c)
  pub all_commits : (i j : ℕ) → Among i (active v) → Among j (active v) → ¬ (j ≡ i) → Delivered i deliveries (HandsCommit j v n c)
