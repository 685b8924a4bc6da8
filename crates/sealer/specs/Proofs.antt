-- What a proof under genuine seals is.
use Rattle.std.specs.Prelude.{◌≡◌, ℕ, List, map, Ok, Result}
use Rattle.std.specs.Int.Digits.{AllBelowBase}
use Rattle.std.specs.List.{AllByRecursion}
use Rattle.packet.specs.Proofs.{ProofWritten, read_proof}
use Rattle.packet.specs.Statements.{encode}
use Rattle.packet.specs.declared.statements.Statement.{Statement}
use Rattle.refusal.specs.Refusals.{and_then, carried, from_packet}
use Rattle.refusal.specs.declared.sealers.SealerFault.{SealerFault}
use Rattle.sealer.specs.Laws.{Genuine}
use Rattle.sealer.specs.Seals.{Meaning, check_seals}

-- first the statements, then every seal
unfoldable pub open_proof : Meaning → List ℕ → Result (List (List ℕ)) SealerFault
open_proof m bs = and_then (carried from_packet (read_proof bs)) (λ ps. and_then (check_seals m 0 ps) (λ _. Ok ps))

-- a proof is opened exactly if it is written of statements under genuine seals
pub record OneProofOpening (m : Meaning) : Type 0 where
  pub opens : (bs : List ℕ) (ss : List Statement) → ProofWritten bs ss → AllByRecursion (Genuine m) ss → open_proof m bs ≡ Ok (map encode ss)
  pub opened : (bs : List ℕ) (ps : List (List ℕ)) → AllBelowBase 256 bs → open_proof m bs ≡ Ok ps → (ss : List Statement) × ProofWritten bs ss × AllByRecursion (Genuine m) ss × (ps ≡ map encode ss)
