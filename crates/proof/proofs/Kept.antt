-- What passes keeps the rules.
use Rattle.std.proofs.Common.{◌≡◌, ℕ, suc, ◌*◌, Bool, true, false, cond, ◌||◌, eqb, List, ◌∷◌, map, length, drop, Ok, sym, refl, ap, ◌∙◌, subst, inl, inr, arith}
use Rattle.std.proofs.lemmas.List.{drop_all, length-map, nil_from_length}
use Rattle.std.proofs.lemmas.Bool.{eqb-true, eqb-false}
use Rattle.std.proofs.lemmas.Bool.Decides.{nat_tests}
use Rattle.std.specs.List.{AllByRecursion}
use Rattle.packet.proofs.Readings.{and_then_ok, cond_ok, length_joined}
use Rattle.packet.specs.Laws.{Sound, Written}
use Rattle.packet.specs.Packets.{has_length}
use Rattle.packet.specs.Statements.{encode}
use Rattle.packet.specs.declared.kinds.Kind.{Kind}
use Rattle.packet.specs.declared.kinds.Kind.TheVariants.{Order, Prepare, Commit, Report, Wish, Checkpoint, Answer}
use Rattle.packet.specs.declared.packets.Reader.TheVariants.{Replica}
use Rattle.packet.specs.declared.statements.Statement.{Statement}
use Rattle.refusal.specs.Refusals.{proof_from_sealer}
use Rattle.refusal.specs.declared.proofs.ProofFault.TheVariants.{Rule}
use Rattle.sealer.proofs.Openings.{carried_ok, one_opening}
use Rattle.sealer.proofs.Runs.{one_proof_opening}
use Rattle.sealer.specs.Seals.{Meaning}
use Rattle.proof.specs.Certificates.{decided}
use Rattle.proof.specs.Checks.{check_packet, check_proof, check_rule, rule_of}
use Rattle.proof.specs.Laws.{Backed, Kept, PacketsKeep, ProofsKeep}
use Rattle.proof.specs.Reports.{check_backing, check_reports, holds}
use Rattle.proof.proofs.Certified.{is_decided}
use Rattle.proof.proofs.Gathered.{is_justified}

module _ (ss : List Statement) (sound : AllByRecursion Sound ss) (v n c i : ℕ) (rest : List Statement) (at : drop i ss ≡ rest) where
  by_view : (b : Bool) → eqb v 1 ≡ b → cond b (holds (eqb (length (map encode ss)) i)) (check_reports v n c (map encode ss) i) ≡ Ok tt → Backed v n c rest
  by_view true e h =
      let l = eqb-true _ _ (cond_ok (eqb (length (map encode ss)) i) (Ok tt) Rule tt h).0 in
      let m = length-map ss encode in
      record { first = λ _. sym at ∙ drop_all i ss (omega arith); later = λ other. absurd (other (eqb-true v 1 e)) }
  by_view false e h = record { first = λ one. absurd (eqb-false v 1 e one); later = λ _. is_justified ss sound v n c i rest at h }

  pub is_backed : check_backing v n c (map encode ss) i ≡ Ok tt → Backed v n c rest
  unfolding check_backing
  is_backed h = by_view (eqb v 1) refl h

-- a packet that begins with a commit has one statement or three
one_or_three : (n k : ℕ) → has_length Commit n ≡ true → n ≡ 30 * k → (eqb k 1 ≡ false) → k ≡ 3
one_or_three n k h l e = grind (arith, nat_tests)

pub kept : (bs : List ℕ) (s : Statement) (ss : List Statement) → Written Replica bs s ss → (k : Kind) → s.kind ≡ k → rule_of k s.view.0 s.slot.0 s.command (map encode (s ∷ ss)) ≡ Ok tt → Kept k s.view.0 s.slot.0 s.command s ss
kept bs s ss w Order e h = is_backed (s ∷ ss) w.sound s.view.0 s.slot.0 s.command 1 ss refl h
kept bs s ss w Prepare e h = tt
kept bs s ss w Commit e h = by_count (eqb (suc (length (map encode ss))) 1) refl (cond_ok (eqb (suc (length (map encode ss))) 1 || decided s.view.0 s.slot.0 s.command (map encode (s ∷ ss))) (Ok tt) Rule tt h).0
  where
    m : length (map encode ss) ≡ length ss
    m = length-map ss encode

    by_count : (b : Bool) → eqb (suc (length (map encode ss))) 1 ≡ b → (b || decided s.view.0 s.slot.0 s.command (map encode (s ∷ ss))) ≡ true → Kept Commit s.view.0 s.slot.0 s.command s ss
    by_count true o d = let z = eqb-true _ _ o in let y = m in inl (nil_from_length ss (omega arith))
    by_count false o d =
        let l : length bs ≡ 30 * suc (length ss) = ap length (sym w.whole) ∙ length_joined (s ∷ ss) in
        let long : has_length Commit (length bs) ≡ true = rw e at w.long in
        let t = one_or_three (length bs) (suc (length ss)) long l (rw m at o) in
        inr (is_decided (s ∷ ss) w.sound s.view.0 s.slot.0 s.command t d)
kept bs s ss w Report e h = tt
kept bs s ss w Wish e h = tt
kept bs s ss w Checkpoint e h = tt
kept bs s ss w Answer e h = tt

pub packets_keep : (m : Meaning) → PacketsKeep m
unfolding check_packet
packets_keep m bs s ps u e =
    let a = and_then_ok _ _ (s, ps) e in
    let b = and_then_ok (check_rule a.0.0 a.0.1) _ (s, ps) a.2 in
    let q : ◌≡◌ {A = Statement × List (List ℕ)} a.0 (s, ps) = let o = b.2 in cc in
    let w = (one_opening m).opened Replica bs s ps u (carried_ok proof_from_sealer _ _ a.1 ∙ ap Ok q) in
    let r : check_rule s ps ≡ Ok tt = subst (λ p. check_rule p.0 p.1 ≡ Ok tt) q b.1 in
    (w.0, w.1, w.2, w.3, kept bs s w.0 w.1 s.kind refl (subst (λ x. check_rule s x ≡ Ok tt) w.3 r))

pub proofs_keep : (m : Meaning) → ProofsKeep m
unfolding check_proof
proofs_keep m v n c bs u e =
    let a = and_then_ok _ _ tt e in
    let w = (one_proof_opening m).opened bs a.0 u (carried_ok proof_from_sealer _ _ a.1) in
    (w.0, w.1, w.2, is_backed w.0 w.1.sound v n c 0 w.0 refl (subst (λ ps. check_backing v n c ps 0 ≡ Ok tt) w.3 a.2))
