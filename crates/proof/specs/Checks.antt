-- What a replica is told of a packet, and a primary of a proof.
use Rattle.std.specs.Prelude.{ℕ, ◌||◌, List, length, Ok, Result, ◌==◌}
use Rattle.packet.specs.declared.kinds.Kind.{Kind}
use Rattle.packet.specs.declared.kinds.Kind.TheVariants.{Order, Prepare, Commit, Report, Wish, Checkpoint, Answer}
use Rattle.packet.specs.declared.packets.Reader.TheVariants.{Replica}
use Rattle.packet.specs.declared.statements.Statement.{Statement}
use Rattle.refusal.specs.Refusals.{and_then, carried, proof_from_sealer}
use Rattle.refusal.specs.declared.proofs.ProofFault.{ProofFault}
use Rattle.sealer.specs.Proofs.{open_proof}
use Rattle.sealer.specs.Seals.{Meaning, open_packet}
use Rattle.proof.specs.Certificates.{decided}
use Rattle.proof.specs.Reports.{holds, check_backing}

-- a commit stands alone, or three of them are the certificate of a decision
abbrev pub check_decision : (v n c : ℕ) → List (List ℕ) → Result (Unit {0}) ProofFault
check_decision v n c ps = holds (length ps == 1 || decided v n c ps)

-- the rule of a packet by its first kind
abbrev pub rule_of : Kind → (v n c : ℕ) → List (List ℕ) → Result (Unit {0}) ProofFault
rule_of Order v n c ps = check_backing v n c ps 1
rule_of Prepare v n c ps = Ok tt
rule_of Commit v n c ps = check_decision v n c ps
rule_of Report v n c ps = Ok tt
rule_of Wish v n c ps = Ok tt
rule_of Checkpoint v n c ps = Ok tt
rule_of Answer v n c ps = Ok tt

abbrev pub check_rule : Statement → List (List ℕ) → Result (Unit {0}) ProofFault
check_rule s ps = rule_of s.kind s.view.0 s.slot.0 s.command ps

-- first the statements and their seals, then the rule
unfoldable pub check_packet : Meaning → List ℕ → Result (Statement × List (List ℕ)) ProofFault
check_packet m bs = and_then (carried proof_from_sealer (open_packet m Replica bs)) (λ p. and_then (check_rule p.0 p.1) (λ _. Ok p))

-- the same of the proof for an order of view v, slot n and command c
unfoldable pub check_proof : Meaning → (v n c : ℕ) → List ℕ → Result (Unit {0}) ProofFault
check_proof m v n c bs = and_then (carried proof_from_sealer (open_proof m bs)) (λ ps. check_backing v n c ps 0)
