-- A proof is opened exactly if it is written of statements under genuine seals.
use Rattle.std.proofs.Common.{◌≡◌, ℕ, List, map, Ok, ap, ◌∙◌, subst}
use Rattle.std.specs.Int.Digits.{AllBelowBase}
use Rattle.std.specs.List.{AllByRecursion}
use Rattle.packet.proofs.Checks.{check_passes, passes_checked}
use Rattle.packet.proofs.Readings.{and_then_ok}
use Rattle.packet.proofs.Runs.{one_proof}
use Rattle.packet.specs.Parts.{Passes}
use Rattle.packet.specs.Proofs.{ProofWritten, read_proof}
use Rattle.packet.specs.Statements.{encode}
use Rattle.packet.specs.declared.statements.Statement.{Statement}
use Rattle.refusal.specs.Refusals.{and_then, carried, from_packet}
use Rattle.refusal.specs.declared.sealers.SealerFault.TheVariants.{Seal}
use Rattle.sealer.specs.Laws.{Genuine}
use Rattle.sealer.specs.Proofs.{OneProofOpening, open_proof}
use Rattle.sealer.specs.Seals.{Meaning, check_seals, genuine_part}
use Rattle.sealer.proofs.Openings.{carried_ok, genuine_there, parts_pass}

module _ (m : Meaning) where
  opens : (bs : List ℕ) (ss : List Statement) → ProofWritten bs ss → AllByRecursion (Genuine m) ss → open_proof m bs ≡ Ok (map encode ss)
  unfolding open_proof
  opens bs ss w a =
      let e = one_proof.reads_back bs ss w in
      let c = check_passes (genuine_part m) Seal 0 (map encode ss) (parts_pass m ss w.sound a) in
      ap (λ x. and_then (carried from_packet x) (λ ps. and_then (check_seals m 0 ps) (λ _. Ok ps))) e ∙ ap (λ x. and_then x (λ _. Ok (map encode ss))) c

  was_opened : (bs : List ℕ) (ps : List (List ℕ)) → AllBelowBase 256 bs → open_proof m bs ≡ Ok ps → (ss : List Statement) × ProofWritten bs ss × AllByRecursion (Genuine m) ss × (ps ≡ map encode ss)
  unfolding open_proof
  was_opened bs ps u e =
      let a = and_then_ok (carried from_packet (read_proof bs)) _ ps e in
      let b = and_then_ok (check_seals m 0 a.0) _ ps a.2 in
      let q : a.0 ≡ ps = let o = b.2 in cc in
      let w = one_proof.writes_back bs ps u (carried_ok from_packet _ _ a.1 ∙ ap Ok q) in
      let p = passes_checked (genuine_part m) Seal 0 a.0 b.1 in
      (w.0, w.1, genuine_there m ps w.0 w.1.sound w.2 (subst (Passes (genuine_part m)) q p), w.2)

  pub one_proof_opening : OneProofOpening m
  one_proof_opening = record { opens = opens; opened = was_opened }
