-- Strong induction: what holds of n if it holds of all below n holds of every n.
use Rattle.std.proofs.Common.{ℕ, zero, suc, ◌<◌, arith}

module _ (P : ℕ → Type 0) (step : (n : ℕ) → ((m : ℕ) → m < n → P m) → P n) where
  below_bound : (bound n : ℕ) → n < bound → P n
  below_bound zero n h = absurd (omega arith)
  below_bound (suc bound) n h = step n (λ m l. below_bound bound m (omega arith))

  pub strong_induction : (n : ℕ) → P n
  strong_induction n = below_bound (suc n) n (omega arith)
