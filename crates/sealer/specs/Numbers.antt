-- What is made for a replica's number.
use Rattle.std.specs.Prelude.{◌≡◌, ℕ, ◌<◌, ◌≤◌, MatchResult, Result}
use Rattle.refusal.specs.declared.sealers.SealerFault.{SealerFault}
use Rattle.refusal.specs.declared.sealers.SealerFault.TheVariants.{Number}

-- for a number below 4 something of which P is true is made, and any other number is refused
abbrev pub Made : {X : Type 0} → ℕ → (X → Type 0) → Result X SealerFault → Type 0
Made number P r = MatchResult r (λ x. (number < 4) × P x) (λ e. (4 ≤ number) × (e ≡ Number))
