-- The laws as contracts state them. The fact of a contract has to be in `Type 0` and cannot speak of every `Execution`,
-- which is in `Type 1`: its relations are any types. So contracts speak of every trace, whose relations are tests. The
-- lemmas in `proofs/` are about every execution.
use Rattle.std.specs.Prelude.{ℕ, Bool, T}
use Rattle.agreement.specs.Groups.{Group, Sound}
use Rattle.agreement.specs.Votes.{Execution}
use Rattle.agreement.specs.Rules.{Rules}

-- a group, and tests that say what its replicas sign
pub record Trace : Type 0 where
  pub group : Group
  pub voted : (i v n c : ℕ) → Bool
  pub committed : (i v n c : ℕ) → Bool
  pub reported : (i v n e c : ℕ) → Bool

abbrev pub execution : Trace → Execution
execution t = record {
  group = t.group;
  Voted = λ i v n c. T (t.voted i v n c);
  Committed = λ i v n c. T (t.committed i v n c);
  Reported = λ i v n e c. T (t.reported i v n e c);
}

-- the law holds of every sound group
abbrev pub InSoundGroups : (Group → Type 0) → Type 0
InSoundGroups Law = (g : Group) → Sound g → Law g

-- the law holds of every trace that keeps the rules
abbrev pub UnderRules : (Execution → Type 0) → Type 0
UnderRules Law = (t : Trace) → Rules (execution t) → Law (execution t)
