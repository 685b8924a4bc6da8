-- The library's folds and tests over reports are those of the rules.
use Rattle.std.proofs.Common.{◌≡◌, ℕ, max, ◌&&◌, List, [], ◌∷◌, fold, refl, ap, ◌∙◌, arith}
use Rattle.std.specs.List.{list_all}
use Rattle.packet.specs.declared.statements.Statement.{Statement}
use Rattle.proof.specs.Reports.{allows, all_allow, highest}

folded_over : (m : ℕ) (rs : List Statement) → fold (λ h r. max r.earlier.0 h) m rs ≡ max m (highest rs)
folded_over m [] = omega arith
folded_over m (r ∷ rs) = let f = folded_over (max r.earlier.0 m) rs in f ∙ omega arith

pub highest_folded : (rs : List Statement) → fold (λ h r. max r.earlier.0 h) 0 rs ≡ highest rs
highest_folded rs = folded_over 0 rs ∙ omega arith

pub all_allowed : (h c : ℕ) (rs : List Statement) → list_all (allows h c) rs ≡ all_allow h c rs
all_allowed h c [] = refl
all_allowed h c (r ∷ rs) = ap (λ b. allows h c r && b) (all_allowed h c rs)
