-- The statement at a place of written statements.
use Rattle.std.proofs.Common.{◌≡◌, ℕ, zero, suc, ◌+◌, List, [], ◌∷◌, map, drop, Some, ap, add-one, arith}
use Rattle.std.specs.List.{AllByRecursion}
use Rattle.packet.proofs.Encodings.{kind_back, reads_back}
use Rattle.packet.specs.Kinds.{byte_of}
use Rattle.packet.specs.Laws.{Sound}
use Rattle.packet.specs.Parts.{statement_at}
use Rattle.packet.specs.Statements.{decode, encode, statement}
use Rattle.packet.specs.declared.kinds.Kind.{Kind}
use Rattle.packet.specs.declared.statements.Statement.{Statement}

-- s stands at place i of ss
pub record Found (ss : List Statement) (i : ℕ) (s : Statement) : Type 0 where
  pub here : drop i ss ≡ s ∷ drop (i + 1) ss
  pub sound : Sound s

nothing : (s : Statement) → decode [] ≡ Some s → ⊥
unfolding decode
nothing s e = let z : ◌≡◌ {A = ℕ} 0 1 = cc in omega arith

found_suc : (ss : List Statement) (i : ℕ) (s : Statement) → AllByRecursion Sound ss → statement_at (map encode ss) i ≡ Some s → (drop i ss ≡ s ∷ drop (suc i) ss) × Sound s
found_suc [] i s g e = absurd (nothing s e)
found_suc (x ∷ ss) zero s g e =
    let r = reads_back x g.0 in
    let q : x ≡ s = cc in
    (ap (λ y. y ∷ ss) q, rw q at g.0)
found_suc (x ∷ ss) (suc i) s g e = found_suc ss i s g.1 e

pub found : (ss : List Statement) (i : ℕ) (s : Statement) → AllByRecursion Sound ss → statement_at (map encode ss) i ≡ Some s → Found ss i s
found ss i s g e = let f = found_suc ss i s g e in record { here = rw add-one f.0; sound = f.1 }

-- a kind is known by its byte
pub same_kind : (j k : Kind) → byte_of j ≡ byte_of k → j ≡ k
same_kind j k e = let a = kind_back j in let b = kind_back k in cc

-- a statement is its fields
pub same_statement : (s : Statement) {k : Kind} {i v n e c : ℕ} → s.kind ≡ k → s.signer ≡ i → s.view.0 ≡ v → s.slot.0 ≡ n → s.earlier.0 ≡ e → s.command ≡ c → s ≡ statement k i v n e c s.seal
same_statement s a b d f g h = rw (← a, ← b, ← d, ← f, ← g, ← h)
