-- Who signed what. Here and below i and j are replicas, u and v are views, n is a slot and c a command.
use Rattle.std.specs.Prelude.{ℕ}
use Rattle.agreement.specs.Groups.{Group, EachActive}

-- An execution: a group, and all that its replicas ever sign in it.
pub record Execution : Type 1 where
  pub group : Group
  -- i votes in view v to have command c in slot n: it signs an order or a prepare that says so
  pub Voted : (i v n c : ℕ) → Type 0
  -- i signs a commit to command c in slot n, in view v
  pub Committed : (i v n c : ℕ) → Type 0
  -- i signs a report for view v: the latest view in which it saw a certificate for slot n is e, and that was for command c.
  -- An earlier view e of 0 says that it saw none.
  pub Reported : (i v n e c : ℕ) → Type 0

-- A certificate: every correct active replica of view v voted for c. Whoever holds the votes of all active replicas knows
-- this; what the liars among them signed shows nothing.
abbrev pub Certificate : (x : Execution) (v n c : ℕ) → Type 0
Certificate x v n c = EachActive x.group v (λ j. x.Voted j v n c)

-- Settled: every correct active replica of view v committed to c. Whoever holds the commits of all active replicas knows
-- this, and may decide.
abbrev pub Settled : (x : Execution) (v n c : ℕ) → Type 0
Settled x v n c = EachActive x.group v (λ j. x.Committed j v n c)
