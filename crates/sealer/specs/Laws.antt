-- What it means that a packet was opened, in the words of the seals.
use Rattle.std.specs.Prelude.{◌≡◌, ℕ, true, List, ◌∷◌, map, IfOk, Some, None, Ok, Option, Result}
use Rattle.std.specs.Int.Digits.{AllBelowBase}
use Rattle.std.specs.List.{AllByRecursion}
use Rattle.packet.specs.declared.packets.Packet.{Packet}
use Rattle.packet.specs.declared.packets.Reader.{Reader}
use Rattle.refusal.specs.declared.tellings.Layer.TheVariants as layer
use Rattle.refusal.specs.declared.tellings.Refusal.{Refusal}
use Rattle.packet.specs.declared.statements.Statement.{Statement}
use Rattle.packet.specs.Laws as packets
use Rattle.packet.specs.Packets.{read_packet}
use Rattle.packet.specs.Parts.{Passes, FirstFailing}
use Rattle.refusal.specs.Refusals.{of_packet, of_sealer, tells, told}
use Rattle.packet.specs.Statements.{body, encode}
use Rattle.refusal.specs.declared.sealers.SealerFault.{SealerFault}
use Rattle.sealer.specs.Seals.{Meaning, genuine_part, open_packet}

-- the seal of a statement is genuine under its signer's number
abbrev pub Genuine : Meaning → Statement → Type 0
Genuine m s = m s.signer (body s) s.seal ≡ true

-- a packet is opened exactly if it is written of statements under genuine seals
pub record OneOpening (m : Meaning) : Type 0 where
  pub opens : (r : Reader) (bs : List ℕ) (s : Statement) (ss : List Statement) → packets.Written r bs s ss → AllByRecursion (Genuine m) (s ∷ ss) → open_packet m r bs ≡ Ok (s, map encode (s ∷ ss))
  pub opened : (r : Reader) (bs : List ℕ) (s : Statement) (ps : List (List ℕ)) → AllBelowBase 256 bs → open_packet m r bs ≡ Ok (s, ps) → (ss : List Statement) × packets.Written r bs s ss × AllByRecursion (Genuine m) (s ∷ ss) × (ps ≡ map encode (s ∷ ss))

-- what is no packet is refused as such; then the first seal that is not genuine gives the refusal
pub data Refused (m : Meaning) (r : Reader) (bs : List ℕ) : Option Refusal → Type 0 where
  unread : (x : Refusal) → told of_packet (read_packet r bs) ≡ Some x → Refused m r bs (Some x)
  forged : (s : Statement) (ps : List (List ℕ)) (i : ℕ) → read_packet r bs ≡ Ok (s, ps) → FirstFailing (genuine_part m) i ps → Refused m r bs (Some (tells 5 layer.Sealer (Some i)))
  opened : (s : Statement) (ps : List (List ℕ)) → read_packet r bs ≡ Ok (s, ps) → Passes (genuine_part m) ps → Refused m r bs None

-- what the answer to some bytes says of them
pub record Opening (m : Meaning) (r : Reader) (bs : List ℕ) (x : Result Packet SealerFault) : Type 0 where
  pub refused : Refused m r bs (told of_sealer x)
  pub whole : IfOk x (λ p. (ss : List Statement) × packets.Written r bs p.first ss × AllByRecursion (Genuine m) (p.first ∷ ss) × (p.parts.bytes.now ≡ map encode (p.first ∷ ss)))
