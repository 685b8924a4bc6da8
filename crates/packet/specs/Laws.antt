-- What the format keeps, in its own words.
use Rattle.std.specs.Prelude.{◌≡◌, ℕ, ◌^◌, ◌<◌, ◌≤◌, true, false, List, ◌∷◌, map, length, IfOk, Some, None, Ok, Option, Result, slice_index}
use Rattle.std.specs.List.{flat_map, AllByRecursion}
use Rattle.std.specs.Int.Digits.{AllBelowBase}
use Rattle.packet.specs.declared.kinds.Kind.{Kind}
use Rattle.packet.specs.declared.packets.Packet.{Packet}
use Rattle.packet.specs.declared.packets.Reader.{Reader}
use Rattle.refusal.specs.declared.packets.PacketFault.{PacketFault}
use Rattle.refusal.specs.declared.tellings.Layer.TheVariants as layer
use Rattle.refusal.specs.declared.tellings.Refusal.{Refusal}
use Rattle.packet.specs.declared.statements.Statement.{Statement}
use Rattle.packet.specs.Fields.{Fits, proper}
use Rattle.packet.specs.Kinds.{kind_of}
use Rattle.packet.specs.Packets.{takes, has_length, parts_of, sealed_part, read_packet}
use Rattle.packet.specs.Parts.{is_statement, Passes, FirstFailing}
use Rattle.refusal.specs.Refusals.{of_packet, tells, told}
use Rattle.packet.specs.Statements.{body, encode, decode}

-- a proper statement that a program can hold
pub record Sound (s : Statement) : Type 0 where
  pub kept : proper s ≡ true
  pub fits : Fits s
  pub seal : s.seal < 256 ^ 8

-- what is written reads back as itself, what reads as a statement is written back as the same bytes, and the bytes that
-- a seal covers are the statement's body
pub record OneEncoding : Type 0 where
  pub reads_back : (s : Statement) → Sound s → decode (encode s) ≡ Some s
  pub writes_back : (bs : List ℕ) (s : Statement) → AllBelowBase 256 bs → decode bs ≡ Some s → (encode s ≡ bs) × Sound s
  pub sealed : (s : Statement) → Sound s → sealed_part (encode s) ≡ (s.signer, body s, s.seal)

-- bytes that are these statements, written one after another
pub record Written (r : Reader) (bs : List ℕ) (s : Statement) (ss : List Statement) : Type 0 where
  pub taken : takes r s.kind ≡ true
  pub long : has_length s.kind (length bs) ≡ true
  pub sound : AllByRecursion Sound (s ∷ ss)
  pub whole : flat_map encode (s ∷ ss) ≡ bs

-- a packet is accepted exactly if it is so written
pub record OnePacket : Type 0 where
  pub reads_back : (r : Reader) (bs : List ℕ) (s : Statement) (ss : List Statement) → Written r bs s ss → read_packet r bs ≡ Ok (s, map encode (s ∷ ss))
  pub writes_back : (r : Reader) (bs : List ℕ) (s : Statement) (ps : List (List ℕ)) → AllBelowBase 256 bs → read_packet r bs ≡ Ok (s, ps) → (ss : List Statement) × Written r bs s ss × (ps ≡ map encode (s ∷ ss))

-- bytes begin with a kind that the reader takes
abbrev pub Begins : Reader → List ℕ → Kind → Type 0
Begins r bs k = (0 < length bs) × (kind_of (slice_index bs 0) ≡ Some k) × (takes r k ≡ true)

-- the first rule that bytes break gives the refusal
pub data Refused (r : Reader) (bs : List ℕ) : Option Refusal → Type 0 where
  unexpected : ((k : Kind) → ¬ Begins r bs k) → Refused r bs (Some (tells 2 layer.Packet None))
  misfit : (k : Kind) → Begins r bs k → has_length k (length bs) ≡ false → Refused r bs (Some (tells 3 layer.Packet None))
  malformed : (k : Kind) (i : ℕ) → Begins r bs k → has_length k (length bs) ≡ true → FirstFailing is_statement i (parts_of bs) → Refused r bs (Some (tells 4 layer.Packet (Some i)))
  accepted : (k : Kind) → Begins r bs k → has_length k (length bs) ≡ true → Passes is_statement (parts_of bs) → Refused r bs None

-- what the answer to some bytes says of them
pub record Reading (r : Reader) (bs : List ℕ) (x : Result Packet PacketFault) : Type 0 where
  pub refused : Refused r bs (told of_packet x)
  pub whole : IfOk x (λ p. (ss : List Statement) × Written r bs p.first ss × (p.parts.bytes.now ≡ map encode (p.first ∷ ss)))
  pub few : IfOk x (λ p. length p.parts.bytes.now ≤ 13)
