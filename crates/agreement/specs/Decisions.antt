-- Decisions, and the list of commands that they are read from.
use Rattle.std.specs.Prelude.{◌≡◌, ℕ, List}
use Rattle.agreement.specs.Lists.{Among}
use Rattle.agreement.specs.Votes.{Execution, Settled}

-- a slot, and the command that somebody decided for it
pub record Decision : Type 0 where
  pub slot : ℕ
  pub command : ℕ

-- a decision is justified if its command was settled in some view
abbrev pub Justified : Execution → Decision → Type 0
Justified x d = (v : ℕ) × Settled x v d.slot d.command

-- the command that changes nothing
abbrev pub empty_command : ℕ
empty_command = 0

-- One list with a command for every slot: the decided command, or the empty one where nothing is decided.
pub record Listing (decisions : List Decision) : Type 0 where
  pub command_at : (n : ℕ) → ℕ
  pub decided : (d : Decision) → Among d decisions → command_at d.slot ≡ d.command
  pub undecided : (n : ℕ) → ((d : Decision) → Among d decisions → ¬ (d.slot ≡ n)) → command_at n ≡ empty_command
