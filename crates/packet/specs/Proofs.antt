-- What a proof is on the wire: nothing, or three reports one behind the other, each alone or with three statements more.
use Rattle.std.specs.Prelude.{◌≡◌, ℕ, Bool, true, cond, ◌||◌, List, map, length, Ok, Err, Result, ◌==◌}
use Rattle.std.specs.Int.Digits.{AllBelowBase}
use Rattle.std.specs.List.{flat_map, AllByRecursion}
use Rattle.refusal.specs.Refusals.{and_then}
use Rattle.refusal.specs.declared.packets.PacketFault.{PacketFault}
use Rattle.refusal.specs.declared.packets.PacketFault.TheVariants as fault
use Rattle.packet.specs.declared.parts.Parts.{Parts}
use Rattle.packet.specs.declared.statements.Statement.{Statement}
use Rattle.packet.specs.Laws.{Sound}
use Rattle.packet.specs.Packets.{parts_of}
use Rattle.packet.specs.Parts.{check_statements}
use Rattle.packet.specs.Statements.{encode}

abbrev pub has_proof_length : ℕ → Bool
has_proof_length n = n == 0 || (n == 90 || (n == 180 || (n == 270 || n == 360)))

-- what a primary is told of some bytes: first their length, then every statement
unfoldable pub read_proof : List ℕ → Result (List (List ℕ)) PacketFault
read_proof bs = cond (has_proof_length (length bs)) (and_then (check_statements 0 (parts_of bs)) (λ _. Ok (parts_of bs))) (Err fault.Length)

-- a proof that was read, without the reference
abbrev pub seen_proof : {E : Type 0} → Result Parts E → Result (List (List ℕ)) E
seen_proof (Ok p) = Ok p.bytes.now
seen_proof (Err e) = Err e

-- bytes that are these statements, written one after another
pub record ProofWritten (bs : List ℕ) (ss : List Statement) : Type 0 where
  pub long : has_proof_length (length bs) ≡ true
  pub sound : AllByRecursion Sound ss
  pub whole : flat_map encode ss ≡ bs

-- a proof is read exactly if it is so written
pub record OneProof : Type 0 where
  pub reads_back : (bs : List ℕ) (ss : List Statement) → ProofWritten bs ss → read_proof bs ≡ Ok (map encode ss)
  pub writes_back : (bs : List ℕ) (ps : List (List ℕ)) → AllBelowBase 256 bs → read_proof bs ≡ Ok ps → (ss : List Statement) × ProofWritten bs ss × (ps ≡ map encode ss)
