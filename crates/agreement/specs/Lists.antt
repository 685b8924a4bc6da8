-- Membership in a list, and lists without repetition.
use Rattle.std.specs.Prelude.{◌≡◌, List, [], ◌∷◌}

-- x stands in the list
pub data Among {X : Type 0} (x : X) : List X → Type 0 where
  here : {y : X} {ys : List X} → x ≡ y → Among x (y ∷ ys)
  there : {y : X} {ys : List X} → Among x ys → Among x (y ∷ ys)

-- nothing stands in the list twice
pub data Distinct {X : Type 0} : List X → Type 0 where
  none : Distinct []
  more : {x : X} {xs : List X} → ¬ Among x xs → Distinct xs → Distinct (x ∷ xs)
