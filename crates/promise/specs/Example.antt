-- A history as the promise assumes it, so that the promise is not about nothing. In view 1 replica 0 leads and lies, and replicas 1 and
-- 2 keep the rules. Both take its order of command 7 on slot 1 and prepare; each takes the other's prepare and commits; replica 1 takes
-- both commits, decides, and runs. Replica 1's answer and the same from replica 0 close a collector. Every tag is genuine, so nothing
-- but the premise keeps seals from being forged.
use Rattle.std.specs.Prelude.{◌≡◌, ℕ, true, List, [], ◌∷◌, ◌++◌, replicate, drop, Ok}
use Rattle.packet.specs.Statements.{encode}
use Rattle.packet.specs.declared.statements.Statement.{Statement}
use Rattle.collector.specs.Collectors.{closing}
use Rattle.collector.specs.declared.collectors.Closed.{Closed}
use Rattle.collector.specs.declared.collectors.Waiting.{Waiting}
use Rattle.slots.specs.Cores as cores
use Rattle.slots.specs.declared.cores.Core.{Core}
use Rattle.promise.specs.Statements.{order, prepare, commit, answer}
use Rattle.promise.specs.Steps.{Setting, Member, Call, take, run}
use Rattle.promise.specs.Histories.{Event, History, Unforged, Decided, now}
use Rattle.promise.specs.Collections.{Collected, HonestPackets}

-- services answer 9, and mean nothing
abbrev pub example : Setting ℕ
example = record { genuine = λ i b t. true; result = λ s c. 9; next = λ s c. s; marked = λ s. 0; first = 0; liar = 0 }

abbrev pub space : List ℕ
space = replicate 390 0

abbrev pub member : Core → Member ℕ
member core = record { core = core; state = 0 }

-- an accepted call, and the statement that it writes
abbrev pub wrote : (i : ℕ) → Core → Call → Statement → Core → Event ℕ
wrote i core call s core' = record { who = i; before = member core; call = call; reply = space; answer = Ok 30; after = member core'; reply' = encode s ++ drop 30 space }

-- or that it writes nothing
abbrev pub quiet : (i : ℕ) → Core → Call → Core → Event ℕ
quiet i core call core' = record { who = i; before = member core; call = call; reply = space; answer = Ok 0; after = member core'; reply' = space }

abbrev pub c₀ : Core
c₀ = cores.first_core

-- either replica, i of the two, with the other's number j, before and after its own commit
abbrev pub with_order : (i : ℕ) → Core
with_order i = cores.ordered i c₀ 1 7 0 0

abbrev pub with_prepare : (i j : ℕ) → Core
with_prepare i j = cores.slot_confirmed i (cores.prepare_counted (with_order i) 1 j 0) 1 0

abbrev pub with_one : Core
with_one = cores.commit_counted (with_prepare 1 2) 1 0 0

abbrev pub with_all : Core
with_all = cores.commit_counted with_one 1 2 0

abbrev pub events : List (Event ℕ)
events =
    wrote 1 with_all run (answer 1 1 9 0) (cores.with_count with_all 1)
    ∷ quiet 1 with_one (take (encode (commit 2 1 1 7 0))) with_all
    ∷ quiet 1 (with_prepare 1 2) (take (encode (commit 0 1 1 7 0))) with_one
    ∷ wrote 2 (with_order 2) (take (encode (prepare 1 1 1 7 0))) (commit 2 1 1 7 0) (with_prepare 2 1)
    ∷ wrote 1 (with_order 1) (take (encode (prepare 2 1 1 7 0))) (commit 1 1 1 7 0) (with_prepare 1 2)
    ∷ wrote 2 c₀ (take (encode (order 0 1 1 7 0))) (prepare 2 1 1 7 0) (with_order 2)
    ∷ wrote 1 c₀ (take (encode (order 0 1 1 7 0))) (prepare 1 1 1 7 0) (with_order 1)
    ∷ []

abbrev pub answers : List (List ℕ)
answers = encode (answer 0 1 9 0) ∷ encode (answer 1 1 9 0) ∷ []

pub record Exists : Type 0 where
  pub history : History example events
  pub unforged : Unforged example events
  pub decided : Decided 1 1 7 events
  pub carried : (now example 1 events).core.count ≡ 1
  pub waiting : Waiting
  pub collected : Collected example.genuine 1 answers waiting
  pub honest : HonestPackets example answers events
  pub closed : Closed
  pub closes : closing waiting ≡ Ok closed
