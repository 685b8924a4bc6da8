-- Members of a list.
use Rattle.std.proofs.Common.{◌≡◌, List, [], ◌∷◌, map, sym, refl, subst}
use Rattle.agreement.specs.Lists.{Among}
use Rattle.agreement.specs.Lists.Among.{here, there}

-- a member of a mapped list comes from a member of the list
pub among_map : {X Y : Type 0} (f : X → Y) {y : Y} (xs : List X) → Among y (map f xs) → (x : X) × Among x xs × (f x ≡ y)
among_map f [] a = elim a [ ]
among_map f (x ∷ xs) (here e) = (x, here refl, sym e)
among_map f (x ∷ xs) (there a) = let r = among_map f xs a in (r.0, there r.1, r.2)

-- what holds of the first and of each other member holds of each
pub each_cons : {X : Type 0} {P : X → Type 0} {x : X} {xs : List X} → P x → ((y : X) → Among y xs → P y) → (y : X) → Among y (x ∷ xs) → P y
each_cons {P = P} first others y (here e) = subst P (sym e) first
each_cons first others y (there a) = others y a

pub each_of_three : {X : Type 0} (P : X → Type 0) {a b c : X} → P a → P b → P c → (y : X) → Among y (a ∷ b ∷ c ∷ []) → P y
each_of_three P pa pb pc = each_cons {P = P} pa (each_cons {P = P} pb (each_cons {P = P} pc (λ y m. elim m [ ])))

-- what is not the first and not among the others is not in the list
pub not_cons : {X : Type 0} {x y : X} {ys : List X} → ¬ (x ≡ y) → ¬ Among x ys → ¬ Among x (y ∷ ys)
not_cons other new (here e) = other e
not_cons other new (there a) = new a
