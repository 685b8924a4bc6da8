-- The thirty bytes of a statement.
use Rattle.std.specs.Prelude.{ℕ, cond, List, ◌∷◌, ◌++◌, length, Some, None, Option, Result, ◌==◌, slice_index}
use Rattle.std.specs.Option.{ok_or, option_and_then}
use Rattle.packet.specs.declared.kinds.Kind.{Kind}
use Rattle.packet.specs.declared.statements.Statement.{Statement}
use Rattle.refusal.specs.declared.packets.PacketFault.{PacketFault}
use Rattle.refusal.specs.declared.packets.PacketFault.TheVariants as fault
use Rattle.packet.specs.Digits.{bytes_of, number_at}
use Rattle.packet.specs.Kinds.{byte_of, kind_of}
use Rattle.packet.specs.Fields.{proper}

-- the 22 bytes that the seal covers: kind 1, signer 1, view 4, slot 4, earlier view 4, command 8
unfoldable pub body : Statement → List ℕ
body s = byte_of s.kind ∷ s.signer ∷ (bytes_of 4 s.view.0 ++ (bytes_of 4 s.slot.0 ++ (bytes_of 4 s.earlier.0 ++ bytes_of 8 s.command)))

-- the thirty bytes: the body and the seal
unfoldable pub encode : Statement → List ℕ
encode s = body s ++ bytes_of 8 s.seal

abbrev pub statement : Kind → ℕ → ℕ → ℕ → ℕ → ℕ → ℕ → Statement
statement k i v n e c t = record { kind = k; signer = i; view = record { 0 = v }; slot = record { 0 = n }; earlier = record { 0 = e }; command = c; seal = t }

-- the fields that thirty bytes hold
abbrev pub fields : Kind → List ℕ → Statement
fields k bs = statement k (slice_index bs 1) (number_at 4 bs 2) (number_at 4 bs 6) (number_at 4 bs 10) (number_at 8 bs 14) (number_at 8 bs 22)

abbrev pub if_proper : Statement → Option Statement
if_proper s = cond (proper s) (Some s) None

-- the proper statement that some bytes hold
unfoldable pub decode : List ℕ → Option Statement
decode bs = cond (length bs == 30) (option_and_then (λ k. if_proper (fields k bs)) (kind_of (slice_index bs 0))) None

-- the same at a place of a packet, where anything else is refused
abbrev pub read_at : ℕ → List ℕ → Result Statement PacketFault
read_at i bs = ok_or (decode bs) (fault.Statement i)
