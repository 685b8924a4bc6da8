-- A client's collector, by the packets that it was handed.
use Rattle.std.specs.Prelude.{◌≡◌, ℕ, List, [], ◌∷◌, Ok}
use Rattle.std.specs.Int.Digits.{AllBelowBase}
use Rattle.agreement.specs.Lists.{Among}
use Rattle.collector.specs.Collectors.{new_waiting, added}
use Rattle.collector.specs.declared.collectors.Waiting.{Waiting}
use Rattle.sealer.specs.Seals.{Meaning}
use Rattle.promise.specs.Steps.{Setting}
use Rattle.promise.specs.Histories.{Event, GenuinelyWritten}

-- a collector made for slot n and handed these packets one after another, the newest first; refused ones leave it as it was
pub data Collected (m : Meaning) (n : ℕ) : List (List ℕ) → Waiting → Type 0 where
  made : (w : Waiting) → new_waiting (record { 0 = n }) ≡ Ok w → Collected m n [] w
  handed : {packets : List (List ℕ)} {w : Waiting} (packet : List ℕ) → Collected m n packets w → Collected m n (packet ∷ packets) (added m w packet).1

-- bytes without a seal forged under a correct number
abbrev pub HonestPackets : {State : Type 0} → Setting State → List (List ℕ) → List (Event State) → Type 0
HonestPackets k packets h = (p : List ℕ) → Among p packets → AllBelowBase 256 p × GenuinelyWritten k p h
