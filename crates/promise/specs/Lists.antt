-- One list with a command for every slot, and what carrying it out gives.
use Rattle.std.specs.Prelude.{ℕ, zero, suc, ◌-◌, Some, None, Option}
use Rattle.slots.specs.Cores.{decision}
use Rattle.slots.specs.declared.cores.Core.{Core}
use Rattle.slots.specs.declared.records.Certificate.{Certificate}
use Rattle.promise.specs.Steps.{Setting, result_of, state_of}

abbrev pub command_of : Option Certificate → Option ℕ
command_of None = None
command_of (Some x) = Some x.command

-- the answer to the question for slot n
abbrev pub asked : Core → ℕ → Option ℕ
asked core n = command_of (decision core n)

module _ {State : Type 0} (k : Setting State) (list : (n : ℕ) → ℕ) where
  -- the first state with the first n commands applied in turn, the empty ones left out
  abbrev pub state_after : (n : ℕ) → State
  state_after zero = k.first
  state_after (suc n) = state_of k (state_after n) (list (suc n))

  -- the result of the nth command after those before it, 0 for an empty one
  abbrev pub answer_at : (n : ℕ) → ℕ
  answer_at n = result_of k (state_after (n - 1)) (list n)
