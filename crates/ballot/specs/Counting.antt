-- What counting equal ballots means.
use Rattle.std.specs.Prelude.{◌≡◌, ℕ, ◌≤◌, Bool, true, List, Some, Option, count_by, slice_get}
use Rattle.std.specs.Option.{option_eq}

-- a place counts for a ballot if it holds an equal one
abbrev pub counts_for : {B : Type 0} → (B → B → Bool) → B → Option B → Bool
counts_for same like place = option_eq same place (Some like)

-- how many places count for the ballot
abbrev pub count_of : {B : Type 0} → (B → B → Bool) → List (Option B) → B → ℕ
count_of same places like = count_by (counts_for same like) places

-- what holds of every count, since equality is reflexive, symmetric and transitive
pub record Counting {B : Type 0} (same : B → B → Bool) : Type 0 where
  -- equal ballots are counted alike
  pub alike : (places : List (Option B)) (a b : B) → same a b ≡ true → count_of same places a ≡ count_of same places b
  -- a ballot that stands in a place counts at least itself
  pub itself : (places : List (Option B)) (i : ℕ) (own : B) → slice_get places i ≡ Some (Some own) → 1 ≤ count_of same places own
  -- any two ballots that count for one equal each other
  pub together : (like a b : B) → counts_for same like (Some a) ≡ true → counts_for same like (Some b) ≡ true → same a b ≡ true
