-- The search for a missing slot.
use Rattle.std.proofs.Common.{◌≡◌, ℕ, ◌<◌, ◌≤◌, true}
use Rattle.slots.specs.Cores.{is_decided}
use Rattle.slots.specs.declared.cores.Core.{Core}

-- h is the highest decided slot up to a slot, or 0 where none is
pub record HighestTo (core : Core) (upto h : ℕ) : Type 0 where
  pub above : (n : ℕ) → is_decided core n ≡ true → n ≤ upto → n ≤ h
  pub decided : 0 < h → is_decided core h ≡ true

-- the slots from the count to a slot are decided
abbrev pub AllDecided : Core → ℕ → Type 0
AllDecided core upto = (n : ℕ) → core.count < n → n ≤ upto → is_decided core n ≡ true
