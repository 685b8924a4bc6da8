-- A proof is read exactly if it is written of proper statements.
use Rattle.std.proofs.Common.{◌≡◌, ℕ, ◌*◌, ◌/◌, ◌≤◌, true, List, map, length, Ok, sym, ap, ◌∙◌, arith}
use Rattle.std.proofs.lemmas.Bool.Decides.{nat_tests}
use Rattle.std.specs.Int.Digits.{AllBelowBase}
use Rattle.refusal.specs.Refusals.{and_then}
use Rattle.refusal.specs.declared.packets.PacketFault.TheVariants as fault
use Rattle.packet.specs.declared.statements.Statement.{Statement}
use Rattle.packet.specs.Packets.{parts_of}
use Rattle.packet.specs.Parts.{check_statements, is_statement}
use Rattle.packet.specs.Proofs.{OneProof, ProofWritten, has_proof_length, read_proof}
use Rattle.packet.specs.Statements.{encode}
use Rattle.packet.proofs.Checks.{check_passes, passes_checked}
use Rattle.packet.proofs.Readings.{and_then_ok, all_statements, cond_ok, cut_checked, parts_joined}

pub proof_length : (n : ℕ) → has_proof_length n ≡ true → (30 * (n / 30) ≡ n) × (n ≤ 360)
proof_length n h = (grind (arith, nat_tests), grind (arith, nat_tests))

reads_back : (bs : List ℕ) (ss : List Statement) → ProofWritten bs ss → read_proof bs ≡ Ok (map encode ss)
unfolding read_proof
reads_back bs ss w =
    let p : parts_of bs ≡ map encode ss = ap parts_of (sym w.whole) ∙ parts_joined ss in
    let c : check_statements 0 (map encode ss) ≡ Ok tt = check_passes is_statement fault.Statement 0 (map encode ss) (all_statements ss w.sound) in
    rw w.long (ap (λ ps. and_then (check_statements 0 ps) (λ _. Ok ps)) p ∙ ap (λ r. and_then r (λ _. Ok (map encode ss))) c)

writes_back : (bs : List ℕ) (ps : List (List ℕ)) → AllBelowBase 256 bs → read_proof bs ≡ Ok ps → (ss : List Statement) × ProofWritten bs ss × (ps ≡ map encode ss)
unfolding read_proof
writes_back bs ps u e =
    let l = cond_ok (has_proof_length (length bs)) _ fault.Length ps e in
    let a = and_then_ok (check_statements 0 (parts_of bs)) _ ps l.1 in
    let c = cut_checked (length bs / 30) bs u (proof_length (length bs) l.0).0 (passes_checked is_statement fault.Statement 0 _ a.1) in
    let same : parts_of bs ≡ ps = let o = a.2 in cc in
    (c.statements, record { long = l.0; sound = c.sound; whole = c.whole }, sym same ∙ c.parts)

pub one_proof : OneProof
one_proof = record { reads_back = reads_back; writes_back = writes_back }
