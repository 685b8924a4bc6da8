-- When a collector closes, in the words of its replicas' results.
use Rattle.std.specs.Prelude.{◌≡◌, ℕ, ◌<◌, ◌≢◌, List, Some, None, Ok, Err, Option, Result, slice_index_or}
use Rattle.refusal.specs.Refusals.{of_collector, tells}
use Rattle.refusal.specs.declared.tellings.Layer.TheVariants as layer
use Rattle.collector.specs.declared.collectors.Closed.{Closed}
use Rattle.collector.specs.declared.collectors.Unclosed.{Unclosed}
use Rattle.collector.specs.declared.collectors.Waiting.{Waiting}
use Rattle.collector.specs.Collectors.{closing}

-- replica i gave result r
abbrev pub Gave : List (Option ℕ) → ℕ → ℕ → Type 0
Gave results i r = slice_index_or results i None ≡ Some r

-- two different replicas gave result r
pub record Pair (results : List (Option ℕ)) (i j r : ℕ) : Type 0 where
  pub apart : j ≢ i
  pub one : Gave results i r
  pub other : Gave results j r

-- two different replicas gave result r, and no lower replica gave what another gave
pub record LowestPair (results : List (Option ℕ)) (r : ℕ) : Type 0 where
  pub lower : ℕ
  pub partner : ℕ
  pub pair : Pair results lower partner r
  pub lowest : (k m s : ℕ) → k < lower → ¬ Pair results k m s

-- a collector closes with such a result; where no two replicas gave the same, it is handed back with refusal 14
abbrev pub Closes : Waiting → Result Closed Unclosed → Type 0
Closes w (Ok c) = (c.slot ≡ w.slot) × LowestPair w.results c.result
Closes w (Err u) = (u.waiting ≡ w) × (of_collector u.fault ≡ tells 14 layer.Collector None) × ((i j r : ℕ) → ¬ Pair w.results i j r)

abbrev pub ClosesExactly : Type 0
ClosesExactly = (w : Waiting) → Closes w (closing w)
