-- What a seal means, and what a packet under genuine seals is.
use Rattle.std.specs.Prelude.{◌≡◌, ℕ, Bool, true, List, Ok, Result}
use Rattle.packet.specs.declared.packets.Reader.{Reader}
use Rattle.packet.specs.declared.statements.Statement.{Statement}
use Rattle.packet.specs.Packets as packets
use Rattle.packet.specs.Parts.{check_from}
use Rattle.refusal.specs.Refusals.{and_then, carried, from_packet}
use Rattle.packet.specs.Statements.{body}
use Rattle.refusal.specs.declared.sealers.SealerFault.{SealerFault}
use Rattle.refusal.specs.declared.sealers.SealerFault.TheVariants.{Seal}

-- which signer, 22 bytes and tag are genuine
abbrev pub Meaning : Type 0
Meaning = ℕ → List ℕ → ℕ → Bool

-- a statement under a number and a seal
abbrev pub with_seal : Statement → ℕ → ℕ → Statement
with_seal s i t = record { kind = s.kind; signer = i; view = s.view; slot = s.slot; earlier = s.earlier; command = s.command; seal = t }

-- the statement r is s under the number i, with a genuine seal
pub record Signed (genuine : Meaning) (i : ℕ) (s r : Statement) : Type 0 where
  pub same : r ≡ with_seal s i r.seal
  pub sealed : genuine i (body r) r.seal ≡ true

-- the bytes of a statement hold a genuine seal
abbrev pub genuine_part : Meaning → List ℕ → Bool
genuine_part m p = m (packets.sealed_part p).0 (packets.sealed_part p).1 (packets.sealed_part p).2

-- the first part, counted from i, whose seal is not genuine is refused with its place
abbrev pub check_seals : Meaning → ℕ → List (List ℕ) → Result (Unit {0}) SealerFault
check_seals m i ps = check_from (genuine_part m) Seal i ps

-- what a reader who checks seals is told of some bytes: first the packet, then every seal in it
unfoldable pub open_packet : Meaning → Reader → List ℕ → Result (Statement × List (List ℕ)) SealerFault
open_packet m r bs = and_then (carried from_packet (packets.read_packet r bs)) (λ p. and_then (check_seals m 0 p.1) (λ _. Ok p))
