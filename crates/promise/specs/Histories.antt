-- Histories of a group: calls of correct replicas in any interleaving, the newest first.
use Rattle.std.specs.Prelude.{◌≡◌, ℕ, ◌+◌, ◌<◌, true, cond, ◌⊎◌, List, [], ◌∷◌, Ok, Err, Result, ◌==◌, slice_index, slice_index_or}
use Rattle.std.proofs.Math.ListN as lists
use Rattle.std.specs.Int.Digits.{AllBelowBase}
use Rattle.agreement.specs.Lists.{Among}
use Rattle.packet.specs.Laws as packets
use Rattle.packet.specs.Packets.{parts_of}
use Rattle.packet.specs.Parts.{is_statement}
use Rattle.packet.specs.declared.packets.Reader.TheVariants.{Replica}
use Rattle.packet.specs.declared.statements.Statement.{Statement}
use Rattle.proof.specs.Roles.{primary, active, backups}
use Rattle.refusal.specs.declared.replicas.ReplicaFault.{ReplicaFault}
use Rattle.sealer.specs.Seals.{genuine_part}
use Rattle.slots.specs.Cores.{first_core}
use Rattle.promise.specs.Statements.{order, prepare, commit}
use Rattle.promise.specs.Steps.{Setting, Member, Call, lead, take, leave, report_on, show, run, Stepped}

-- one call of one replica: what it was and became, what was handed in, the reply space before and after, and the answer
pub record Event (State : Type 0) : Type 0 where
  pub who : ℕ
  pub before : Member State
  pub call : Call
  pub reply : List ℕ
  pub answer : Result ℕ ReplicaFault
  pub after : Member State
  pub reply' : List ℕ

-- the bytes that a call is handed
abbrev pub handed : Call → List ℕ
handed (lead n c proof) = proof
handed (take packet) = packet
handed leave = []
handed (report_on n) = []
handed (show n) = []
handed run = []

-- the bytes that an answer says were written; old bytes of the reply space are not written
abbrev pub written_in : Result ℕ ReplicaFault → List ℕ → List ℕ
written_in (Ok count) reply' = lists.take count reply'
written_in (Err e) reply' = []

-- 1 for a run that was accepted
abbrev pub ran : Call → Result ℕ ReplicaFault → ℕ
ran (lead n c proof) a = 0
ran (take packet) a = 0
ran leave a = 0
ran (report_on n) a = 0
ran (show n) a = 0
ran run (Ok count) = 1
ran run (Err e) = 0

module _ {State : Type 0} where
  abbrev pub written : Event State → List ℕ
  written e = written_in e.answer e.reply'

  -- replica i wrote these thirty bytes, under its own number, in a packet of an accepted call
  pub record Written (i : ℕ) (p : List ℕ) (h : List (Event State)) : Type 0 where
    pub event : Event State
    pub stands : Among event h
    pub own : event.who ≡ i
    pub part : Among p (parts_of (written event))
    pub signed : slice_index_or p 1 0 ≡ i

  -- replica i accepted such a call
  pub record Accepted (i : ℕ) (h : List (Event State)) (Such : Event State → Type 0) : Type 0 where
    pub event : Event State
    pub stands : Among event h
    pub own : event.who ≡ i
    pub count : ℕ
    pub answered : event.answer ≡ Ok count
    pub such : Such event

  -- the call takes a packet of these statements
  abbrev pub Took : Statement → List Statement → Event State → Type 0
  Took s ss e = (bs : List ℕ) × (e.call ≡ take bs) × packets.Written Replica bs s ss

  abbrev pub Led : (v n c : ℕ) → Event State → Type 0
  Led v n c e = (proof : List ℕ) × (e.call ≡ lead n c proof) × (e.before.core.view.0 ≡ v)

  abbrev pub TookOrder : (v n c : ℕ) → Event State → Type 0
  TookOrder v n c e = (t : ℕ) × ((ss : List Statement) × Took (order (primary v) v n c t) ss e)

  abbrev pub TookPrepare : (j v n c : ℕ) → Event State → Type 0
  TookPrepare j v n c e = (t : ℕ) × Took (prepare j v n c t) [] e

  abbrev pub TookCommit : (j v n c : ℕ) → Event State → Type 0
  TookCommit j v n c e = (t : ℕ) × Took (commit j v n c t) [] e

  -- a decision certificate is a packet of more than one commit
  pub record TookCertificate (n c : ℕ) (e : Event State) : Type 0 where
    pub first : Statement
    pub rest : List Statement
    pub several : ¬ (rest ≡ [])
    pub signer : ℕ
    pub view : ℕ
    pub seal : ℕ
    pub commits : first ≡ commit signer view n c seal
    pub took : Took first rest e

  -- in view v: the order, the prepare of every other backup, the commit of every other active replica
  pub record DecidedIn (i v n c : ℕ) (h : List (Event State)) : Type 0 where
    pub ordered : Accepted i h (Led v n c) ⊎ Accepted i h (TookOrder v n c)
    pub prepares : (j : ℕ) → Among j (backups v) → ¬ (j ≡ i) → Accepted i h (TookPrepare j v n c)
    pub commits : (j : ℕ) → Among j (active v) → ¬ (j ≡ i) → Accepted i h (TookCommit j v n c)

  -- REPLICA i HAS DECIDED slot n with command c
  abbrev pub Decided : (i n c : ℕ) → List (Event State) → Type 0
  Decided i n c h = Accepted i h (TookCertificate n c) ⊎ ((v : ℕ) × DecidedIn i v n c h)

  -- how many runs replica i accepted
  abbrev pub runs : (i : ℕ) → List (Event State) → ℕ
  runs i [] = 0
  runs i (e ∷ h) = cond (e.who == i) (ran e.call e.answer) 0 + runs i h

module _ {State : Type 0} (k : Setting State) where
  -- a replica of the group that keeps the rules
  pub record Correct (i : ℕ) : Type 0 where
    pub known : i < 4
    pub honest : ¬ (i ≡ k.liar)

  -- a replica as it is made, once
  abbrev pub made : Member State
  made = record { core = first_core; state = k.first }

  -- replica i after the history
  abbrev pub now : (i : ℕ) → List (Event State) → Member State
  now i [] = made
  now i (e ∷ h) = cond (e.who == i) e.after (now i h)

  -- Each call is of a correct replica, starts from what the one before it on its replica left, is handed bytes, and takes the
  -- defined step. Refused calls are in it too.
  pub data History : List (Event State) → Type 0 where
    none : History []
    more : {h : List (Event State)} (e : Event State) → History h → Correct e.who → e.before ≡ now e.who h → AllBelowBase 256 (handed e.call) → Stepped e.who k e.before e.call e.reply e.answer e.after e.reply' → History (e ∷ h)

  -- NO SEAL IS FORGED in these bytes under a correct number: whatever statement in them is genuine under one, that replica
  -- had written.
  abbrev pub GenuinelyWritten : (bytes : List ℕ) → List (Event State) → Type 0
  GenuinelyWritten bytes h = (p : List ℕ) → Among p (parts_of bytes) → is_statement p ≡ true → genuine_part k.genuine p ≡ true → Correct (slice_index p 1) → Written (slice_index p 1) p h

  -- in none of the packets and proofs that were handed in, refused ones too
  abbrev pub Unforged : List (Event State) → Type 0
  Unforged [] = Unit {0}
  Unforged (e ∷ h) = GenuinelyWritten (handed e.call) h × Unforged h
