-- A loop that maps a list's elements one by one where they stand.
use Rattle.std.proofs.Common.{◌≡◌, refl, ap, arith, ℕ, zero, suc, ◌+◌, ◌<◌, ◌≤◌, List, [], ◌∷◌, map, length, get_or, set}

-- the first i elements are mapped
abbrev pub mapped_to : {A : Type 0} → (A → A) → List A → ℕ → List A
mapped_to f [] i = []
mapped_to f (x ∷ xs) zero = x ∷ xs
mapped_to f (x ∷ xs) (suc i) = f x ∷ mapped_to f xs i

pub mapped_none : {A : Type 0} → (f : A → A) → (xs : List A) → mapped_to f xs 0 ≡ xs
mapped_none f [] = refl
mapped_none f (x ∷ xs) = refl

next : {A : Type 0} → (f : A → A) → (xs : List A) → (i : ℕ) → (d : A) → i < length xs → set (mapped_to f xs i) i (f (get_or (mapped_to f xs i) i d)) ≡ mapped_to f xs (suc i)
next f [] i d h = refl
next f (x ∷ xs) zero d h = let e = mapped_none f xs in cc
next f (x ∷ xs) (suc i) d h = ap (λ ys. f x ∷ ys) (next f xs i d (omega arith))

-- one more, y at i
pub mapped_next : {A : Type 0} → (f : A → A) → (xs ys : List A) → (i : ℕ) → (d y : A) → ys ≡ mapped_to f xs i → y ≡ f (get_or ys i d) → i < length xs → set ys i y ≡ mapped_to f xs (i + 1)
mapped_next f xs ys i d y e g h = let n = next f xs i d h in let z : i + 1 ≡ suc i = omega arith in cc

-- at the end all are
pub mapped_all : {A : Type 0} → (f : A → A) → (xs : List A) → (i : ℕ) → length xs ≤ i → mapped_to f xs i ≡ map f xs
mapped_all f [] i h = refl
mapped_all f (x ∷ xs) zero h = absurd (omega arith)
mapped_all f (x ∷ xs) (suc i) h = ap (λ ys. f x ∷ ys) (mapped_all f xs i (omega arith))
