-- A packet is opened exactly if it is written of statements under genuine seals.
use Rattle.std.proofs.Common.{◌≡◌, ℕ, ◌<◌, List, [], ◌∷◌, map, get_or, Ok, Err, Result, sym, refl, ap, ◌∙◌, subst, arith}
use Rattle.std.proofs.ByRecursion.{All-from_get_or}
use Rattle.std.specs.Int.Digits.{AllBelowBase}
use Rattle.std.specs.List.{AllByRecursion}
use Rattle.packet.proofs.Checks.{Checked, checked, check_passes, passes_checked}
use Rattle.packet.proofs.Checks.Checked.{fine, bad}
use Rattle.packet.proofs.Encodings.{one_encoding}
use Rattle.packet.proofs.Readings.{and_then_ok, packet_back, packet_there}
use Rattle.packet.specs.declared.packets.Packet.{Packet}
use Rattle.packet.specs.declared.packets.Reader.{Reader}
use Rattle.refusal.specs.declared.packets.PacketFault.{PacketFault}
use Rattle.packet.specs.declared.statements.Statement.{Statement}
use Rattle.packet.specs.Laws as packets
use Rattle.packet.specs.Packets.{read_packet, seen}
use Rattle.packet.specs.Parts.{Passes}
use Rattle.refusal.specs.Refusals.{and_then, carried, from_packet, of_packet, of_sealer, told}
use Rattle.packet.specs.Statements.{body, encode}
use Rattle.refusal.specs.declared.sealers.SealerFault.{SealerFault}
use Rattle.refusal.specs.declared.sealers.SealerFault.TheVariants.{Seal}
use Rattle.sealer.specs.Laws.{Genuine, OneOpening, Opening, Refused}
use Rattle.sealer.specs.Laws.Refused.{unread, forged, opened}
use Rattle.sealer.specs.Seals.{Meaning, check_seals, genuine_part, open_packet}

pub carried_ok : {X E F : Type 0} (from : E → F) (r : Result X E) (x : X) → carried from r ≡ Ok x → r ≡ Ok x
carried_ok from (Ok y) x e = let z : y ≡ x = cc in ap Ok z
carried_ok from (Err d) x e = let z : ◌≡◌ {A = ℕ} 0 1 = cc in absurd (omega arith)

module _ (m : Meaning) where
  -- the seal in the bytes of a statement is the statement's own
  part_genuine : (s : Statement) → packets.Sound s → genuine_part m (encode s) ≡ m s.signer (body s) s.seal
  part_genuine s g = ap (λ t. m t.0 t.1 t.2) (one_encoding.sealed s g)

  pub parts_pass : (ss : List Statement) → AllByRecursion packets.Sound ss → AllByRecursion (Genuine m) ss → Passes (genuine_part m) (map encode ss)
  parts_pass [] g a = tt
  parts_pass (s ∷ ss) g a = (part_genuine s g.0 ∙ a.0, parts_pass ss g.1 a.1)

  all_genuine : (ss : List Statement) → AllByRecursion packets.Sound ss → Passes (genuine_part m) (map encode ss) → AllByRecursion (Genuine m) ss
  all_genuine [] g a = tt
  all_genuine (s ∷ ss) g a = (sym (part_genuine s g.0) ∙ a.0, all_genuine ss g.1 a.1)

  pub genuine_there : (ps : List (List ℕ)) (ss : List Statement) → AllByRecursion packets.Sound ss → ps ≡ map encode ss → Passes (genuine_part m) ps → AllByRecursion (Genuine m) ss
  genuine_there ps ss g e a = all_genuine ss g (rw e at a)

  opens : (r : Reader) (bs : List ℕ) (s : Statement) (ss : List Statement) → packets.Written r bs s ss → AllByRecursion (Genuine m) (s ∷ ss) → open_packet m r bs ≡ Ok (s, map encode (s ∷ ss))
  unfolding open_packet
  opens r bs s ss w a =
      let e = packet_back r bs s ss w in
      let c = check_passes (genuine_part m) Seal 0 (map encode (s ∷ ss)) (parts_pass (s ∷ ss) w.sound a) in
      ap (λ x. and_then (carried from_packet x) (λ p. and_then (check_seals m 0 p.1) (λ _. Ok p))) e ∙ ap (λ x. and_then x (λ _. Ok (s, map encode (s ∷ ss)))) c

  was_opened : (r : Reader) (bs : List ℕ) (s : Statement) (ps : List (List ℕ)) → AllBelowBase 256 bs → open_packet m r bs ≡ Ok (s, ps) → (ss : List Statement) × packets.Written r bs s ss × AllByRecursion (Genuine m) (s ∷ ss) × (ps ≡ map encode (s ∷ ss))
  unfolding open_packet
  was_opened r bs s ps u e =
      let a = and_then_ok (carried from_packet (read_packet r bs)) _ (s, ps) e in
      let b = and_then_ok (check_seals m 0 a.0.1) _ (s, ps) a.2 in
      let q : ◌≡◌ {A = Statement × List (List ℕ)} a.0 (s, ps) = let o = b.2 in cc in
      let w = packet_there r bs s ps u (carried_ok from_packet _ _ a.1 ∙ ap Ok q) in
      let p = passes_checked (genuine_part m) Seal 0 a.0.1 b.1 in
      (w.0, w.1, genuine_there ps (s ∷ w.0) w.1.sound w.2 (subst (λ t. Passes (genuine_part m) t.1) q p), w.2)

  pub one_opening : OneOpening m
  one_opening = record { opens = opens; opened = was_opened }

  -- the refusal, by what reading and then checking came to
  by_seals : (r : Reader) (bs : List ℕ) (s : Statement) (ps : List (List ℕ)) → read_packet r bs ≡ Ok (s, ps) → (c : Result (Unit {0}) SealerFault) → Checked (genuine_part m) Seal 0 ps c → Refused m r bs (told {X = Statement × List (List ℕ)} of_sealer (and_then c (λ _. Ok (s, ps))))
  by_seals r bs s ps e c (fine a) = opened s ps e a
  by_seals r bs s ps e c (bad j n q f) = let z : n ≡ j = omega arith in rw z (forged s ps j e f)

  by_reading : (r : Reader) (bs : List ℕ) (x : Result (Statement × List (List ℕ)) PacketFault) → read_packet r bs ≡ x → Refused m r bs (told of_sealer (and_then (carried from_packet x) (λ p. and_then (check_seals m 0 p.1) (λ _. Ok p))))
  by_reading r bs (Ok p) e = by_seals r bs p.0 p.1 e (check_seals m 0 p.1) (checked (genuine_part m) Seal 0 p.1)
  by_reading r bs (Err d) e = unread _ (ap (told of_packet) e)

  refused : (r : Reader) (bs : List ℕ) → Refused m r bs (told of_sealer (open_packet m r bs))
  unfolding open_packet
  refused r bs = by_reading r bs (read_packet r bs) refl

  pub opening : (r : Reader) (bs : List ℕ) (x : Result Packet SealerFault) → ((i : ℕ) → get_or bs i 0 < 256) → seen x ≡ open_packet m r bs → Opening m r bs x
  opening r bs (Err d) t e = record { refused = subst (λ y. Refused m r bs (told of_sealer y)) (sym e) (refused r bs); whole = tt }
  opening r bs (Ok p) t e = record {
    refused = subst (λ y. Refused m r bs (told of_sealer y)) (sym e) (refused r bs);
    whole = was_opened r bs p.first p.parts.bytes.now (All-from_get_or (λ d. d < 256) bs 0 (λ i _. t i)) (sym e);
  }
