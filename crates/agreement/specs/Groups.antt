-- A group that bears f faults has 3 f + 1 replicas, numbered from 0. At most f of them lie: they may sign anything and keep
-- anything back. The group goes through views, numbered from 1, and in each of them 2 f + 1 replicas are active.
use Rattle.std.specs.Prelude.{◌≡◌, ℕ, ◌+◌, ◌*◌, ◌<◌, ◌≤◌, List, length}
use Rattle.agreement.specs.Lists.{Among, Distinct}

-- how many replicas a group has that bears f faults
abbrev pub group_size : (f : ℕ) → ℕ
group_size f = 3 * f + 1

-- how many of them make a quorum
abbrev pub quorum_size : (f : ℕ) → ℕ
quorum_size f = 2 * f + 1

-- how many replicas may lie, which of them do, and which are active in view v
pub record Group : Type 0 where
  pub faults : ℕ
  pub liars : List ℕ
  pub active : (v : ℕ) → List ℕ

-- A quorum: so many different replicas of the group that any two quorums share a correct one.
pub record Quorum (f : ℕ) (replicas : List ℕ) : Type 0 where
  pub size : length replicas ≡ quorum_size f
  pub distinct : Distinct replicas
  pub known : {i : ℕ} → Among i replicas → i < group_size f

-- What is assumed of a group: no more replicas lie than it bears, and the active ones of each view are a quorum.
pub record Sound (g : Group) : Type 0 where
  pub few_lie : length g.liars ≤ g.faults
  pub active_quorum : (v : ℕ) → Quorum g.faults (g.active v)

-- a replica of the group that does not lie
pub record Correct (g : Group) (i : ℕ) : Type 0 where
  pub known : i < group_size g.faults
  pub honest : ¬ Among i g.liars

-- P holds of every correct replica that is active in view v
abbrev pub EachActive : (g : Group) (v : ℕ) (P : ℕ → Type 0) → Type 0
EachActive g v P = (j : ℕ) → Correct g j → Among j (g.active v) → P j
