-- Parts of thirty bytes, and checking them in their order.
use Rattle.std.specs.Prelude.{◌≡◌, ℕ, ◌+◌, Bool, true, false, cond, List, [], ◌∷◌, take, drop, is_some, Ok, Err, Option, Result, slice_index_or}
use Rattle.std.specs.List.{AllByRecursion}
use Rattle.refusal.specs.declared.packets.PacketFault.{PacketFault}
use Rattle.refusal.specs.declared.packets.PacketFault.TheVariants as fault
use Rattle.packet.specs.declared.statements.Statement.{Statement}
use Rattle.packet.specs.Statements.{decode}

-- the first part, counted from i, that fails a test is refused with its place
abbrev pub check_from : {X E : Type 0} → (X → Bool) → (ℕ → E) → ℕ → List X → Result (Unit {0}) E
check_from test fault i [] = Ok tt
check_from test fault i (p ∷ ps) = cond (test p) (check_from test fault (i + 1) ps) (Err (fault i))

-- every part passes
abbrev pub Passes : {X : Type 0} → (X → Bool) → List X → Type 0
Passes test ps = AllByRecursion (λ p. test p ≡ true) ps

-- the part at i fails, and every part before it passes
pub record FirstFailing {X : Type 0} (test : X → Bool) (i : ℕ) (ps : List X) : Type 0 where
  pub before : Passes test (take i ps)
  pub part : X
  pub rest : List X
  pub here : drop i ps ≡ part ∷ rest
  pub fails : test part ≡ false

-- thirty bytes that are a proper statement
abbrev pub is_statement : List ℕ → Bool
is_statement p = is_some (decode p)

-- the first part, counted from i, that is none is refused with its place
abbrev pub check_statements : ℕ → List (List ℕ) → Result (Unit {0}) PacketFault
check_statements i ps = check_from is_statement fault.Statement i ps

-- the statement at a place; past the last part there is none
abbrev pub statement_at : List (List ℕ) → ℕ → Option Statement
statement_at ps i = decode (slice_index_or ps i [])
