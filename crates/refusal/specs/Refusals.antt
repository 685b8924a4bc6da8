-- The number, the layer and the place of each refusal.
use Rattle.std.specs.Prelude.{ℕ, Some, None, Ok, Err, Option, Result}
use Rattle.refusal.specs.declared.collectors.CollectorFault.{CollectorFault}
use Rattle.refusal.specs.declared.collectors.CollectorFault.TheVariants as collector
use Rattle.refusal.specs.declared.packets.PacketFault.{PacketFault}
use Rattle.refusal.specs.declared.packets.PacketFault.TheVariants as packet
use Rattle.refusal.specs.declared.proofs.ProofFault.{ProofFault}
use Rattle.refusal.specs.declared.proofs.ProofFault.TheVariants as proof
use Rattle.refusal.specs.declared.replicas.ReplicaFault.{ReplicaFault}
use Rattle.refusal.specs.declared.replicas.ReplicaFault.TheVariants as replica
use Rattle.refusal.specs.declared.sealers.SealerFault.{SealerFault}
use Rattle.refusal.specs.declared.sealers.SealerFault.TheVariants as sealer
use Rattle.refusal.specs.declared.tellings.Layer.{Layer}
use Rattle.refusal.specs.declared.tellings.Layer.TheVariants as layer
use Rattle.refusal.specs.declared.tellings.Refusal.{Refusal}

abbrev pub tells : ℕ → Layer → Option ℕ → Refusal
tells n l p = record { number = n; layer = l; place = p }

-- the packet layer's
abbrev pub of_packet : PacketFault → Refusal
of_packet packet.Unexpected = tells 2 layer.Packet None
of_packet packet.Length = tells 3 layer.Packet None
of_packet (packet.Statement i) = tells 4 layer.Packet (Some i)

-- the sealer layer's; a sealer's number above 3 is refused as a signer above 3 is
abbrev pub of_sealer : SealerFault → Refusal
of_sealer (sealer.Packet e) = of_packet e
of_sealer sealer.Number = tells 4 layer.Packet (Some 0)
of_sealer (sealer.Seal i) = tells 5 layer.Sealer (Some i)

-- the proof layer's
abbrev pub of_proof : ProofFault → Refusal
of_proof (proof.Sealer e) = of_sealer e
of_proof proof.Rule = tells 6 layer.Proof None

-- the replica's
abbrev pub of_replica : ReplicaFault → Refusal
of_replica (replica.Proof e) = of_proof e
of_replica replica.Space = tells 1 layer.Replica None
of_replica replica.View = tells 7 layer.Replica None
of_replica replica.Role = tells 8 layer.Replica None
of_replica replica.Slot = tells 9 layer.Replica None
of_replica replica.Unordered = tells 10 layer.Replica None
of_replica replica.Unlike = tells 11 layer.Replica None
of_replica replica.Held = tells 12 layer.Replica None
of_replica replica.Prepared = tells 13 layer.Replica None
of_replica replica.Undecided = tells 14 layer.Replica None
of_replica replica.LastView = tells 15 layer.Replica None

-- the collector's
abbrev pub of_collector : CollectorFault → Refusal
of_collector (collector.Sealer e) = of_sealer e
of_collector collector.Slot = tells 9 layer.Collector None
of_collector collector.Unlike = tells 11 layer.Collector None
of_collector collector.Held = tells 12 layer.Collector None
of_collector collector.Apart = tells 14 layer.Collector None

-- a fault of the layer below, as the layer above carries it: number, layer and place are kept
abbrev pub from_packet : PacketFault → SealerFault
from_packet e = sealer.Packet e

abbrev pub from_sealer : SealerFault → CollectorFault
from_sealer e = collector.Sealer e

abbrev pub proof_from_sealer : SealerFault → ProofFault
proof_from_sealer e = proof.Sealer e

abbrev pub from_proof : ProofFault → ReplicaFault
from_proof e = replica.Proof e

-- the second step on what the first gave, or the first's refusal
abbrev pub and_then : {X Y E : Type 0} → Result X E → (X → Result Y E) → Result Y E
and_then (Ok x) f = f x
and_then (Err e) f = Err e

-- the same value, or the refusal as the layer above carries it
abbrev pub carried : {X E F : Type 0} → (E → F) → Result X E → Result X F
carried from (Ok x) = Ok x
carried from (Err e) = Err (from e)

-- the refusal that a result holds
abbrev pub told : {X E : Type 0} → (E → Refusal) → Result X E → Option Refusal
told refusal (Ok x) = None
told refusal (Err e) = Some (refusal e)
