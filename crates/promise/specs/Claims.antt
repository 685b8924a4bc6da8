-- THE GROUP'S PROMISE.
use Rattle.std.specs.Prelude.{◌≡◌, ℕ, true, List, Some, Ok}
use Rattle.agreement.specs.Lists.{Among}
use Rattle.collector.specs.Collectors.{closing}
use Rattle.collector.specs.declared.collectors.Closed.{Closed}
use Rattle.collector.specs.declared.collectors.Waiting.{Waiting}
use Rattle.proof.specs.Roles.{active}
use Rattle.slots.specs.Cores.{is_open}
use Rattle.promise.specs.Steps.{Setting}
use Rattle.promise.specs.Histories.{Event, Decided, runs, Correct, now, History, Unforged}
use Rattle.promise.specs.Lists.{asked, state_after, answer_at}
use Rattle.promise.specs.Rounds.{Round}
use Rattle.promise.specs.Collections.{Collected, HonestPackets}

-- One list of commands, with a command for every slot, explains what happened in a history.
pub record Promise {State : Type 0} (k : Setting State) (h : List (Event State)) : Type 0 where
  pub list : (n : ℕ) → ℕ
  -- a. Wherever a correct replica decided slot n with command c, the nth is c.
  pub decided : (i n c : ℕ) → Correct k i → Decided i n c h → list n ≡ c
  -- Its question for n, while n is open, answers c exactly when it has decided n with c.
  pub tells : (i n c : ℕ) → Correct k i → asked (now k i h).core n ≡ Some c → Decided i n c h
  pub knows : (i n c : ℕ) → Correct k i → is_open (now k i h).core n ≡ true → Decided i n c h → asked (now k i h).core n ≡ Some c
  -- Its count is the number of runs that it accepted.
  pub counts : (i : ℕ) → Correct k i → (now k i h).core.count ≡ runs i h
  -- Its service's state is the first state with the first so many commands applied in turn.
  pub carries : (i : ℕ) → Correct k i → (now k i h).state ≡ state_after k list (now k i h).core.count
  -- b. A collector that was handed no forged answer and closes for slot n shows the nth command's result.
  pub collects : (n : ℕ) (packets : List (List ℕ)) (w : Waiting) (closed : Closed) → Collected k.genuine n packets w → HonestPackets k packets h → closing w ≡ Ok closed → closed.result ≡ answer_at k list n
  -- c. An undisturbed round decides in all three active replicas as led.
  pub rounds : (v n c : ℕ) (h₀ : List (Event State)) → Round k v n c h₀ h → (i : ℕ) → Among i (active v) → Decided i n c h × (asked (now k i h).core n ≡ Some c)

-- For every meaning of seals, every service with states of this type, every number that may break the rules, and every
-- history in which no seal is forged under a correct number.
abbrev pub Promised : (State : Type 0) → Type 0
Promised State = (k : Setting State) (h : List (Event State)) → History k h → Unforged k h → Promise k h
