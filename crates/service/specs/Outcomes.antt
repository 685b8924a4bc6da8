-- What a command comes to, and a run of commands.
use Rattle.std.specs.Prelude.{ℕ, ◌-◌, ◌^◌, List, fold}

pub record Outcome (State : Type 0) : Type 0 where
  pub answer : ℕ
  pub after : State

-- a command that is not carried out changes nothing
abbrev pub refused : {State : Type 0} → State → Outcome State
refused state = record { answer = 2 ^ 64 - 1; after = state }

-- the state after the commands, one after another
abbrev pub run : {State : Type 0} → (State → ℕ → State) → State → List ℕ → State
run next state commands = fold next state commands
