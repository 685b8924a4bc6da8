-- What a packet is: one or more whole statements, of a length that its first kind has.
use Rattle.std.specs.Prelude.{ℕ, ◌/◌, Bool, true, false, cond, ◌||◌, List, [], ◌∷◌, length, take, Some, None, Ok, Err, Option, Result, ◌==◌, slice_index}
use Rattle.std.specs.Simd.{first_chunks}
use Rattle.packet.specs.declared.kinds.Kind.{Kind}
use Rattle.packet.specs.declared.kinds.Kind.TheVariants.{Order, Prepare, Commit, Report, Wish, Checkpoint, Answer}
use Rattle.packet.specs.declared.packets.Reader.{Reader}
use Rattle.packet.specs.declared.packets.Reader.TheVariants.{Replica, Collector, Monitor}
use Rattle.packet.specs.declared.packets.Packet.{Packet}
use Rattle.packet.specs.declared.packets.Sealed.{Sealed}
use Rattle.refusal.specs.declared.packets.PacketFault.{PacketFault}
use Rattle.refusal.specs.declared.packets.PacketFault.TheVariants as fault
use Rattle.packet.specs.declared.statements.Statement.{Statement}
use Rattle.packet.specs.Kinds.{kind_of}
use Rattle.packet.specs.Digits.{number_at}
use Rattle.packet.specs.Parts.{check_statements}
use Rattle.refusal.specs.Refusals.{and_then}
use Rattle.packet.specs.Statements.{read_at}

abbrev replica_takes : Kind → Bool
replica_takes Order = true
replica_takes Prepare = true
replica_takes Commit = true
replica_takes Report = false
replica_takes Wish = true
replica_takes Checkpoint = true
replica_takes Answer = false

abbrev collector_takes : Kind → Bool
collector_takes Order = false
collector_takes Prepare = false
collector_takes Commit = false
collector_takes Report = false
collector_takes Wish = false
collector_takes Checkpoint = false
collector_takes Answer = true

-- the kinds that a packet for each reader may begin with
abbrev pub takes : Reader → Kind → Bool
takes Replica k = replica_takes k
takes Collector k = collector_takes k
takes Monitor k = true

-- the lengths of a packet that begins with each kind
abbrev pub has_length : Kind → ℕ → Bool
has_length Order n = n == 30 || (n == 120 || (n == 210 || (n == 300 || n == 390)))
has_length Prepare n = n == 30
has_length Commit n = n == 30 || n == 90
has_length Report n = n == 30 || n == 120
has_length Wish n = n == 30
has_length Checkpoint n = n == 30
has_length Answer n = n == 30

-- the pieces of thirty bytes
abbrev pub parts_of : List ℕ → List (List ℕ)
parts_of bs = first_chunks 30 (length bs / 30) bs

abbrev pub taken : Reader → Option Kind → Result Kind PacketFault
taken r None = Err fault.Unexpected
taken r (Some k) = cond (takes r k) (Ok k) (Err fault.Unexpected)

abbrev pub first_kind : Reader → List ℕ → Result Kind PacketFault
first_kind r bs = cond (length bs == 0) (Err fault.Unexpected) (taken r (kind_of (slice_index bs 0)))

-- the first statement and all parts, if each is a proper statement
abbrev pub read_parts : List (List ℕ) → Result (Statement × List (List ℕ)) PacketFault
read_parts [] = Err fault.Length
read_parts (p ∷ ps) = and_then (read_at 0 p) (λ s. and_then (check_statements 1 ps) (λ _. Ok (s, p ∷ ps)))

-- what a reader is told of some bytes
unfoldable pub read_packet : Reader → List ℕ → Result (Statement × List (List ℕ)) PacketFault
read_packet r bs = and_then (first_kind r bs) (λ k. cond (has_length k (length bs)) (read_parts (parts_of bs)) (Err fault.Length))

-- a packet that was read, without the reference; a layer above answers with faults of its own
abbrev pub seen : {E : Type 0} → Result Packet E → Result (Statement × List (List ℕ)) E
seen (Ok p) = Ok (p.first, p.parts.bytes.now)
seen (Err e) = Err e

-- the signer, the sealed bytes and the seal in a statement's bytes
abbrev pub sealed_part : List ℕ → ℕ × List ℕ × ℕ
sealed_part p = (slice_index p 1, take 22 p, number_at 8 p 22)

abbrev pub seen_sealed : Sealed → ℕ × List ℕ × ℕ
seen_sealed s = (s.signer, s.body.now, s.seal)
