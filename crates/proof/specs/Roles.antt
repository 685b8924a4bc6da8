-- Who plays which part in view v.
use Rattle.std.specs.Prelude.{ℕ, ◌+◌, ◌-◌, ◌%◌, Bool, true, cond, ◌&&◌, List, [], ◌∷◌, ◌==◌}

abbrev pub primary : ℕ → ℕ
primary v = (v - 1) % 4

abbrev pub spare : ℕ → ℕ
spare v = (v + 2) % 4

abbrev pub everyone : List ℕ
everyone = 0 ∷ 1 ∷ 2 ∷ 3 ∷ []

-- the list without a number
abbrev pub without : ℕ → List ℕ → List ℕ
without i [] = []
without i (j ∷ js) = cond (j == i) (without i js) (j ∷ without i js)

-- all but the spare, by rising number
unfoldable pub active : ℕ → List ℕ
active v = without (spare v) everyone

-- three rising numbers without one of them
abbrev pub two_of : (low middle high i : ℕ) → List ℕ
two_of low middle high i = cond (low == i) (middle ∷ high ∷ []) (cond (middle == i) (low ∷ high ∷ []) (low ∷ middle ∷ []))

-- the active replicas but the primary, by rising number
unfoldable pub backups : ℕ → List ℕ
backups v = without (primary v) (active v)

-- each of these replicas passes a test
abbrev pub every : (ℕ → Bool) → List ℕ → Bool
every p [] = true
every p (i ∷ is) = p i && every p is
