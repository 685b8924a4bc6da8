-- The step of each call of a replica, from the bytes that are handed in to the bytes that are written.
use Rattle.std.specs.Prelude.{◌≡◌, ℕ, ◌+◌, ◌%◌, Bool, true, false, cond, List, [], ◌∷◌, ◌++◌, map, length, drop, Ok, Err, Result, ◌==◌, nat_le, nat_lt}
use Rattle.std.specs.List.{flat_map, AllByRecursion}
use Rattle.packet.specs.Packets.{sealed_part}
use Rattle.packet.specs.Statements as packets
use Rattle.packet.specs.declared.kinds.Kind.{Kind}
use Rattle.packet.specs.declared.kinds.Kind.TheVariants as kind
use Rattle.packet.specs.declared.statements.Statement.{Statement}
use Rattle.proof.specs.Checks.{check_packet, check_proof}
use Rattle.refusal.specs.Refusals.{and_then, carried, from_proof}
use Rattle.refusal.specs.declared.proofs.ProofFault.{ProofFault}
use Rattle.refusal.specs.declared.replicas.ReplicaFault.{ReplicaFault}
use Rattle.refusal.specs.declared.replicas.ReplicaFault.TheVariants as fault
use Rattle.sealer.specs.Laws.{Genuine}
use Rattle.sealer.specs.Seals.{Meaning}
use Rattle.slots.specs.Checks.{test, verdict, take_tests, lead_tests, led_tests, leave_tests, report_tests, show_tests, run_tests}
use Rattle.slots.specs.Cores as cores
use Rattle.slots.specs.Records.{certificate}
use Rattle.slots.specs.declared.cores.Core.{Core}
use Rattle.promise.specs.Statements.{order, prepare, commit, report, wish, checkpoint, answer, told_command, told_statements, decided_statements, Fitting}

-- What the sealers and the services of a group mean, in which state its services begin, and the number of the replica that
-- may break the rules (4 or more: none does).
pub record Setting (State : Type 0) : Type 0 where
  pub genuine : Meaning
  pub result : State → ℕ → ℕ
  pub next : State → ℕ → State
  pub marked : State → ℕ
  pub first : State
  pub liar : ℕ

-- a replica but for its sealer: the core, and the state that its service means
pub record Member (State : Type 0) : Type 0 where
  pub core : Core
  pub state : State

-- the calls: lead has slot, command and proof, take a packet, report and show a slot
pub data Call : Type 0 where
  lead : (n c : ℕ) (proof : List ℕ) → Call
  take : (packet : List ℕ) → Call
  leave : Call
  report_on : (n : ℕ) → Call
  show : (n : ℕ) → Call
  run : Call

-- What is refused, in order. Changes nothing.
abbrev pub judge_call : (own : ℕ) → Meaning → Core → Call → Result (Unit {0}) ReplicaFault
judge_call own m core (lead n c proof) = and_then (verdict (lead_tests own core n)) (λ _. and_then (carried from_proof (check_proof m core.view.0 n c proof)) (λ _. verdict (led_tests core n c)))
judge_call own m core (take packet) = and_then (carried from_proof (check_packet m packet)) (λ p. verdict (take_tests p.0.kind own core p.0 (length p.1 == 1)))
judge_call own m core leave = verdict (leave_tests core)
judge_call own m core (report_on n) = verdict (report_tests core n)
judge_call own m core (show n) = verdict (show_tests core n)
judge_call own m core run = verdict (run_tests core)

-- first of all the reply space has 390 bytes or more
abbrev pub judge : (own : ℕ) → Meaning → Core → Call → (reply : List ℕ) → Result (Unit {0}) ReplicaFault
judge own m core call reply = and_then (verdict (test fault.Space (nat_le 390 (length reply)) ∷ [])) (λ _. judge_call own m core call)

-- the empty command is not applied, and answers 0
abbrev pub result_of : {State : Type 0} → Setting State → State → ℕ → ℕ
result_of k s c = cond (c == 0) 0 (k.result s c)

abbrev pub state_of : {State : Type 0} → Setting State → State → ℕ → State
state_of k s c = cond (c == 0) s (k.next s c)

-- the seal in a statement's bytes
abbrev pub seal_in : List ℕ → ℕ
seal_in p = (sealed_part p).2

-- What an accepted call does, and the statements that it signs and writes. Their seals are genuine under the own number.
module _ (own : ℕ) (m : Meaning) where
  -- after a prepare: once both are held, prepared, with a commit
  abbrev pub Confirms : (both : Bool) → Core → Statement → (out : List Statement) → Core → Type 0
  Confirms false core s out core' = (out ≡ []) × (core' ≡ core)
  Confirms true core s out core' =
      (t : ℕ) × Genuine m (commit own s.view.0 s.slot.0 s.command t)
      × (out ≡ commit own s.view.0 s.slot.0 s.command t ∷ [])
      × (core' ≡ cores.slot_confirmed own core s.slot.0 t)

  -- into view v, with a wish for it
  abbrev pub Enters : (higher : Bool) → Core → (v : ℕ) → (out : List Statement) → Core → Type 0
  Enters false core v out core' = (out ≡ []) × (core' ≡ core)
  Enters true core v out core' = (t : ℕ) × Genuine m (wish own v t) × (out ≡ wish own v t ∷ []) × (core' ≡ cores.entered core v)

  -- a commit stands alone, or with two more as a certificate
  abbrev pub Commits : (alone : Bool) → Core → Statement → (seals : List ℕ) → Core → Type 0
  Commits true core s ts core' = core' ≡ cores.commit_counted core s.slot.0 s.signer s.seal
  Commits false core s ts core' = core' ≡ cores.certified core s.slot.0 (certificate s.view.0 s.command ts)

  -- a packet by the kind of its first statement, and the seals of its statements
  abbrev pub Takes : Kind → Core → Statement → (seals : List ℕ) → (out : List Statement) → Core → Type 0
  Takes kind.Order core s ts out core' =
      (t : ℕ) × Genuine m (prepare own s.view.0 s.slot.0 s.command t)
      × (out ≡ prepare own s.view.0 s.slot.0 s.command t ∷ [])
      × (core' ≡ cores.ordered own core s.slot.0 s.command s.seal t)
  Takes kind.Prepare core s ts out core' =
      let counted = cores.prepare_counted core s.slot.0 s.signer s.seal in
      Confirms (cores.is_prepared counted s.slot.0) counted s out core'
  Takes kind.Commit core s ts out core' = (out ≡ []) × Commits (length ts == 1) core s ts core'
  Takes kind.Report core s ts out core' = ⊥
  Takes kind.Wish core s ts out core' =
      let kept = cores.with_wish core s.signer s.view.0 in
      Enters (nat_lt core.view.0 (cores.wished own kept)) kept (cores.wished own kept) out core'
  Takes kind.Checkpoint core s ts out core' = (out ≡ []) × (core' ≡ cores.mark_kept own core s.slot.0 s.signer s.command)
  Takes kind.Answer core s ts out core' = ⊥

  -- the packet that was read
  abbrev pub TakesRead : Core → Result (Statement × List (List ℕ)) ProofFault → (out : List Statement) → Core → Type 0
  TakesRead core (Ok p) out core' = Takes p.0.kind core p.0 (map seal_in p.1) out core'
  TakesRead core (Err e) out core' = ⊥

  -- an order that the own replica leads with
  pub record Leads (core : Core) (n c : ℕ) (out : List Statement) (core' : Core) : Type 0 where
    pub seal : ℕ
    pub genuine : Genuine m (order own core.view.0 n c seal)
    pub written : out ≡ order own core.view.0 n c seal ∷ []
    pub after : core' ≡ cores.led core n c seal

  -- a report of the latest prepared certificate
  pub record Reports (core : Core) (n : ℕ) (out : List Statement) : Type 0 where
    pub seal : ℕ
    pub genuine : Genuine m (report own core.view.0 n (cores.record_at core n).prepared.view.0 (told_command (cores.record_at core n).prepared) seal)
    pub written : out ≡ report own core.view.0 n (cores.record_at core n).prepared.view.0 (told_command (cores.record_at core n).prepared) seal ∷ told_statements n (cores.record_at core n).prepared

  -- at a multiple of 16 a checkpoint is written, and the own mark is kept
  abbrev pub Marks : (due : Bool) → Core → (n mark : ℕ) → (out : List Statement) → Core → Type 0
  Marks false core n mark out core' = (out ≡ []) × (core' ≡ core)
  Marks true core n mark out core' = (t : ℕ) × Genuine m (checkpoint own n mark t) × (out ≡ checkpoint own n mark t ∷ []) × (core' ≡ cores.mark_kept own core n own mark)

module _ {State : Type 0} (own : ℕ) (k : Setting State) where
  -- the slot behind the count is carried out and answered
  pub record Runs (m : Member State) (out : List Statement) (m' : Member State) : Type 0 where
    pub slot : ℕ
    pub next : slot ≡ m.core.count + 1
    pub command : ℕ
    pub decided : command ≡ (cores.record_at m.core slot).decided.command
    pub seal : ℕ
    pub genuine : Genuine k.genuine (answer own slot (result_of k m.state command) seal)
    pub rest : List Statement
    pub written : out ≡ answer own slot (result_of k m.state command) seal ∷ rest
    pub state : m'.state ≡ state_of k m.state command
    pub marks : Marks own k.genuine (slot % 16 == 0) (cores.with_count m.core slot) slot (k.marked m'.state) rest m'.core

  abbrev pub Acts : Member State → Call → (out : List Statement) → Member State → Type 0
  Acts m (lead n c proof) out m' = Leads own k.genuine m.core n c out m'.core × (m'.state ≡ m.state)
  Acts m (take packet) out m' = TakesRead own k.genuine m.core (check_packet k.genuine packet) out m'.core × (m'.state ≡ m.state)
  Acts m leave out m' = Enters own k.genuine true m.core (m.core.view.0 + 1) out m'.core × (m'.state ≡ m.state)
  Acts m (report_on n) out m' = Reports own k.genuine m.core n out × (m' ≡ m)
  Acts m (show n) out m' = (out ≡ decided_statements n (cores.record_at m.core n).decided) × (m' ≡ m)
  Acts m run out m' = Runs m out m'

-- a lead's packet ends with its proof, as it was handed in
abbrev pub behind : Call → List ℕ
behind (lead n c proof) = proof
behind (take packet) = []
behind leave = []
behind (report_on n) = []
behind (show n) = []
behind run = []

-- the packet that a call writes
abbrev pub packet_of : Call → List Statement → List ℕ
packet_of call out = flat_map packets.encode out ++ behind call

-- An accepted call acts, and writes its packet to the front of the reply space; behind it the old bytes stand.
pub record Accepts {State : Type 0} (own : ℕ) (k : Setting State) (m : Member State) (call : Call) (reply : List ℕ) (count : ℕ) (m' : Member State) (reply' : List ℕ) : Type 0 where
  pub passed : judge own k.genuine m.core call reply ≡ Ok tt
  pub out : List Statement
  pub fitting : AllByRecursion Fitting out
  pub acts : Acts own k m call out m'
  pub counted : count ≡ length (packet_of call out)
  pub space : reply' ≡ packet_of call out ++ drop count reply

-- A refused call leaves everything as it was.
pub record Refuses {State : Type 0} (own : ℕ) (k : Setting State) (m : Member State) (call : Call) (reply : List ℕ) (e : ReplicaFault) (m' : Member State) (reply' : List ℕ) : Type 0 where
  pub fault : judge own k.genuine m.core call reply ≡ Err e
  pub member : m' ≡ m
  pub space : reply' ≡ reply

-- THE STEP: from a replica, a call and its reply space to the answer, the replica and the reply space after it.
abbrev pub Stepped : {State : Type 0} → (own : ℕ) → Setting State → Member State → Call → (reply : List ℕ) → Result ℕ ReplicaFault → Member State → (reply' : List ℕ) → Type 0
Stepped own k m call reply (Ok count) m' reply' = Accepts own k m call reply count m' reply'
Stepped own k m call reply (Err e) m' reply' = Refuses own k m call reply e m' reply'
