-- What the core refuses, as tests in their order: the first that fails gives the refusal.
use Rattle.std.specs.Prelude.{ℕ, ◌+◌, Bool, cond, not, ◌&&◌, ◌||◌, List, [], ◌∷◌, ◌++◌, Ok, Err, Result, ◌==◌, nat_lt}
use Rattle.packet.specs.declared.kinds.Kind.{Kind}
use Rattle.packet.specs.declared.kinds.Kind.TheVariants.{Order, Prepare, Commit, Report, Wish, Checkpoint, Answer}
use Rattle.packet.specs.declared.fields.Slot.{Slot}
use Rattle.packet.specs.declared.statements.Statement.{Statement}
use Rattle.proof.specs.Roles.{primary, spare}
use Rattle.refusal.specs.declared.replicas.ReplicaFault.{ReplicaFault}
use Rattle.refusal.specs.declared.replicas.ReplicaFault.TheVariants as fault
use Rattle.slots.specs.Cores.{is_open, record_at, wish_of, mark_at, has_mark}
use Rattle.slots.specs.Records.{has, is_there}
use Rattle.slots.specs.declared.cores.Core.{Core}
use Rattle.refusal.specs.Refusals.{and_then}
use Rattle.slots.specs.declared.records.Certificate.{Certificate}
use Rattle.slots.specs.declared.records.Record.{Record}
use Rattle.slots.specs.declared.records.Votes.{Votes}

-- a test, and the fault where it fails
pub record Test : Type 0 where
  pub fault : ReplicaFault
  pub holds : Bool

abbrev pub test : ReplicaFault → Bool → Test
test f b = record { fault = f; holds = b }

abbrev pub verdict : List Test → Result (Unit {0}) ReplicaFault
verdict [] = Ok tt
verdict (t ∷ ts) = cond t.holds (verdict ts) (Err t.fault)

-- all but the spare are active; all but the spare and the primary are backups
abbrev pub is_active : (v i : ℕ) → Bool
is_active v i = not (i == spare v)

abbrev pub is_backup : (v i : ℕ) → Bool
is_backup v i = is_active v i && not (i == primary v)

-- c is the command of the order, or of the decision, if there is one
abbrev pub like_order : Record → ℕ → Bool
like_order r c = not r.ordered || r.command == c

abbrev pub like_decision : Record → ℕ → Bool
like_decision r c = not (is_there r.decided) || r.decided.command == c

-- what a record refuses: an order, a vote, a decision certificate
abbrev pub order_tests : Record → (c : ℕ) → List Test
order_tests r c = test fault.Unlike (like_order r c) ∷ test fault.Unlike (like_decision r c) ∷ test fault.Held (not r.ordered) ∷ []

abbrev pub vote_tests : Record → Votes → (j c : ℕ) → List Test
vote_tests r votes j c = test fault.Unordered r.ordered ∷ test fault.Unlike (like_order r c) ∷ test fault.Unlike (like_decision r c) ∷ test fault.Held (not (has votes j)) ∷ []

abbrev pub certificate_tests : Record → (c : ℕ) → List Test
certificate_tests r c = test fault.Unlike (like_decision r c) ∷ test fault.Held (not (is_there r.decided)) ∷ []

-- An order, a prepare or a single commit: of the own view, by another, who has the part that is asked for, at an open slot.
abbrev pub part_tests : (own : ℕ) → Core → Statement → (has_part : Bool) → List Test
part_tests own core s has_part =
    test fault.View (s.view.0 == core.view.0)
    ∷ test fault.Role (not (s.signer == own))
    ∷ test fault.Role (is_active core.view.0 own)
    ∷ test fault.Role has_part
    ∷ test fault.Slot (is_open core s.slot.0)
    ∷ []

abbrev pub take_order : (own : ℕ) → Core → Statement → List Test
take_order own core s = part_tests own core s (s.signer == primary core.view.0) ++ order_tests (record_at core s.slot.0) s.command

abbrev pub take_prepare : (own : ℕ) → Core → Statement → List Test
take_prepare own core s =
    let r = record_at core s.slot.0 in
    part_tests own core s (is_backup core.view.0 s.signer) ++ vote_tests r r.prepares s.signer s.command

abbrev pub take_commit : (own : ℕ) → Core → Statement → List Test
take_commit own core s =
    let r = record_at core s.slot.0 in
    part_tests own core s (is_active core.view.0 s.signer) ++ vote_tests r r.commits s.signer s.command

abbrev pub take_certificate : Core → Statement → List Test
take_certificate core s = test fault.Slot (is_open core s.slot.0) ∷ certificate_tests (record_at core s.slot.0) s.command

abbrev pub take_wish : (own : ℕ) → Core → Statement → List Test
take_wish own core s = test fault.Role (not (s.signer == own)) ∷ test fault.Held (nat_lt (wish_of core s.signer) s.view.0) ∷ []

-- the next two checkpoints
abbrev pub is_checkpoint : Core → ℕ → Bool
is_checkpoint core n = n == core.floor.0 + 16 || n == core.floor.0 + 32

abbrev pub take_mark : (own : ℕ) → Core → Statement → List Test
take_mark own core s =
    let n = s.slot.0 in
    test fault.Role (not (s.signer == own))
    ∷ test fault.Slot (is_checkpoint core n)
    ∷ test fault.Unlike (not (has_mark core n s.signer) || (mark_at core n s.signer).mark == s.command)
    ∷ test fault.Held (not (has_mark core n s.signer))
    ∷ []

-- a packet by the kind of its first statement; a commit stands alone, or is the first of a certificate
abbrev pub take_tests : Kind → (own : ℕ) → Core → Statement → (alone : Bool) → List Test
take_tests Order own core s alone = take_order own core s
take_tests Prepare own core s alone = take_prepare own core s
take_tests Commit own core s alone = cond alone (take_commit own core s) (take_certificate core s)
take_tests Report own core s alone = []
take_tests Wish own core s alone = take_wish own core s
take_tests Checkpoint own core s alone = take_mark own core s
take_tests Answer own core s alone = []

-- A lead is tested before its proof is looked at, and after.
abbrev pub lead_tests : (own : ℕ) → Core → (n : ℕ) → List Test
lead_tests own core n = test fault.Role (own == primary core.view.0) ∷ test fault.Slot (is_open core n) ∷ []

abbrev pub led_tests : Core → (n c : ℕ) → List Test
led_tests core n c = order_tests (record_at core n) c

abbrev pub leave_tests : Core → List Test
leave_tests core = test fault.LastView (nat_lt core.view.0 4000000000) ∷ []

abbrev pub report_tests : Core → (n : ℕ) → List Test
report_tests core n = test fault.Slot (is_open core n) ∷ test fault.Prepared (not (is_there (record_at core n).prepared && (record_at core n).prepared.view.0 == core.view.0)) ∷ []

abbrev pub show_tests : Core → (n : ℕ) → List Test
show_tests core n = test fault.Slot (is_open core n) ∷ test fault.Undecided (is_there (record_at core n).decided) ∷ []

-- run carries out the slot behind the count
abbrev pub run_tests : Core → List Test
run_tests core = show_tests core (core.count + 1)

-- the decision that show writes and run carries out, or the refusal
abbrev pub shown : Core → (n : ℕ) → Result Certificate ReplicaFault
shown core n = and_then (verdict (show_tests core n)) (λ _. Ok (record_at core n).decided)

abbrev pub runnable : Core → Result (Slot × Certificate) ReplicaFault
runnable core = and_then (verdict (run_tests core)) (λ _. Ok (record { 0 = core.count + 1 }, (record_at core (core.count + 1)).decided))
