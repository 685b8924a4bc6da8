-- The statements that a replica signs, and those of its certificates.
use Rattle.std.specs.Prelude.{ℕ, ◌^◌, ◌<◌, cond, List, [], ◌∷◌, drop, slice_index}
use Rattle.packet.specs.Fields.{Fits}
use Rattle.packet.specs.Statements.{statement}
use Rattle.packet.specs.declared.kinds.Kind.{Kind}
use Rattle.packet.specs.declared.kinds.Kind.TheVariants as kind
use Rattle.packet.specs.declared.statements.Statement.{Statement}
use Rattle.proof.specs.Roles.{primary, active, backups}
use Rattle.slots.specs.Records.{is_there}
use Rattle.slots.specs.declared.records.Certificate.{Certificate}

-- of view v, slot n and command c, by replica i under seal t
abbrev pub order : (i v n c t : ℕ) → Statement
order i v n c t = statement kind.Order i v n 0 c t

abbrev pub prepare : (i v n c t : ℕ) → Statement
prepare i v n c t = statement kind.Prepare i v n 0 c t

abbrev pub commit : (i v n c t : ℕ) → Statement
commit i v n c t = statement kind.Commit i v n 0 c t

abbrev pub report : (i v n e c t : ℕ) → Statement
report i v n e c t = statement kind.Report i v n e c t

abbrev pub wish : (i v t : ℕ) → Statement
wish i v t = statement kind.Wish i v 0 0 0 t

abbrev pub checkpoint : (i n m t : ℕ) → Statement
checkpoint i n m t = statement kind.Checkpoint i 0 n 0 m t

abbrev pub answer : (i n r t : ℕ) → Statement
answer i n r t = statement kind.Answer i 0 n 0 r t

-- one statement of a kind by each of these signers, under the seals in their order
abbrev pub said : Kind → (v n c : ℕ) → (signers seals : List ℕ) → List Statement
said k v n c [] ts = []
said k v n c (i ∷ is) [] = []
said k v n c (i ∷ is) (t ∷ ts) = statement k i v n 0 c t ∷ said k v n c is ts

-- the certificate of a prepared slot: the order of its view's primary and the prepares of the backups
abbrev pub prepared_statements : (n : ℕ) → Certificate → List Statement
prepared_statements n x =
    let v = x.view.0 in
    order (primary v) v n x.command (slice_index x.seals 0) ∷ said kind.Prepare v n x.command (backups v) (drop 1 x.seals)

-- what a report tells: the latest prepared view, its command and its certificate, or nothing
abbrev pub told_command : Certificate → ℕ
told_command x = cond (is_there x) x.command 0

abbrev pub told_statements : (n : ℕ) → Certificate → List Statement
told_statements n x = cond (is_there x) (prepared_statements n x) []

-- the certificate of a decision: the commits of its view's active replicas
abbrev pub decided_statements : (n : ℕ) → Certificate → List Statement
decided_statements n x = said kind.Commit x.view.0 n x.command (active x.view.0) x.seals

-- each number of a statement fits the bytes that it has
pub record Fitting (s : Statement) : Type 0 where
  pub body : Fits s
  pub seal : s.seal < 256 ^ 8
