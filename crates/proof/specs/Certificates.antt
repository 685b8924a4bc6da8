-- Certificates: statements of a view's active replicas, for one slot and one command.
use Rattle.std.specs.Prelude.{ℕ, ◌+◌, Bool, true, false, ◌&&◌, List, [], ◌∷◌, Some, None, Option, ◌==◌}
use Rattle.packet.specs.Kinds.{byte_of}
use Rattle.packet.specs.Parts.{statement_at}
use Rattle.packet.specs.declared.kinds.Kind.{Kind}
use Rattle.packet.specs.declared.kinds.Kind.TheVariants.{Order, Prepare, Commit}
use Rattle.packet.specs.declared.statements.Statement.{Statement}
use Rattle.proof.specs.Roles.{primary, active, backups}

-- a statement of this kind by signer i, for view v, slot n and command c, whatever its seal
unfoldable pub says : Kind → (i v n c : ℕ) → Option Statement → Bool
says k i v n c None = false
says k i v n c (Some s) = byte_of s.kind == byte_of k && (s.signer == i && (s.view.0 == v && (s.slot.0 == n && s.command == c)))

-- from place i on, one such statement by each of these signers, in their order
abbrev pub each_says : Kind → (v n c : ℕ) → List (List ℕ) → ℕ → List ℕ → Bool
each_says k v n c ps i [] = true
each_says k v n c ps i (j ∷ js) = says k j v n c (statement_at ps i) && each_says k v n c ps (i + 1) js

-- at place i the certificate of a prepared slot: the order of the view's primary, then the prepares of its backups
unfoldable pub prepared : (v n c : ℕ) → List (List ℕ) → ℕ → Bool
prepared v n c ps i = says Order (primary v) v n c (statement_at ps i) && each_says Prepare v n c ps (i + 1) (backups v)

-- the certificate of a decision: the commits of the view's active replicas
abbrev pub decided : (v n c : ℕ) → List (List ℕ) → Bool
decided v n c ps = each_says Commit v n c ps 0 (active v)
