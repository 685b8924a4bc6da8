-- Two lists of different numbers below m share one if together they are longer than m, counted number by number.
use Rattle.std.proofs.Common.{◌≡◌, ℕ, zero, suc, ◌+◌, ◌<◌, ◌≤◌, cond, eqb, ltb, List, [], ◌∷◌, length, refl, inl, inr, arith}
use native.Mathlib.Decide.{dec_lt}
use Rattle.std.proofs.lemmas.Bool.{cases_eq}
use Rattle.std.proofs.lemmas.Bool.Decides.{nat_tests}
use Rattle.agreement.specs.Lists.{Among, Distinct}
use Rattle.agreement.specs.Lists.Among.{here, there}
use Rattle.agreement.specs.Lists.Distinct.{none, more}

-- how often k stands in the list
abbrev times : ℕ → List ℕ → ℕ
times k [] = 0
times k (x ∷ xs) = cond (eqb k x) 1 0 + times k xs

-- how many of the list are below m
abbrev pub below : ℕ → List ℕ → ℕ
below m [] = 0
below m (x ∷ xs) = cond (ltb x m) 1 0 + below m xs

below_zero : (xs : List ℕ) → below 0 xs ≡ 0
below_zero [] = refl
below_zero (x ∷ xs) = let h = below_zero xs in grind (arith, nat_tests)

below_suc : (m : ℕ) (xs : List ℕ) → below (suc m) xs ≡ times m xs + below m xs
below_suc m [] = refl
below_suc m (x ∷ xs) = let h = below_suc m xs in grind (arith, nat_tests)

pub below_length : (m : ℕ) (xs : List ℕ) → below m xs ≤ length xs
below_length m [] = omega arith
below_length m (x ∷ xs) = let h = below_length m xs in grind (arith, nat_tests)

pub below_all : (m : ℕ) (xs : List ℕ) → ((x : ℕ) → Among x xs → x < m) → below m xs ≡ length xs
below_all m [] small = refl
below_all m (x ∷ xs) small =
    let h = below_all m xs (λ y a. small y (there a)) in
    let l = small x (here refl) in
    grind (arith, nat_tests)

among_times : {k : ℕ} {xs : List ℕ} → Among k xs → 1 ≤ times k xs
among_times (here e) = grind (arith, nat_tests)
among_times (there a) = let h = among_times a in omega arith

times_among : (k : ℕ) (xs : List ℕ) → 1 ≤ times k xs → Among k xs
times_among k [] h = absurd (omega arith)
times_among k (x ∷ xs) h = elim (cases_eq k x) [ inl e ↦ here e | inr n ↦ there (times_among k xs (grind (arith, nat_tests))) ]

distinct_times : (k : ℕ) {xs : List ℕ} → Distinct xs → times k xs ≤ 1
distinct_times k none = omega arith
distinct_times k (more {x} {xs} new d) =
    let h = distinct_times k d in
    let once : k ≡ x → ¬ (1 ≤ times k xs) = λ e i. new (times_among x xs (rw e at i)) in
    grind (arith, nat_tests)

-- a number below m that stands in both lists and not in the third
pub record Common (m : ℕ) (xs ys others : List ℕ) : Type 0 where
  pub number : ℕ
  pub small : number < m
  pub in_xs : Among number xs
  pub in_ys : Among number ys
  pub not_other : ¬ Among number others

-- Each number below m is counted at most once in xs and once in ys. If the two counts exceed m and the count of the
-- others, some number is in xs and in ys and not among the others.
pub common : (m : ℕ) {xs ys : List ℕ} (others : List ℕ) → Distinct xs → Distinct ys → m + below m others < below m xs + below m ys → Common m xs ys others
common zero {xs} {ys} others dx dy many = absurd (omega (arith, below_zero xs, below_zero ys))
common (suc m) {xs} {ys} others dx dy many =
    let x = distinct_times m dx in
    let y = distinct_times m dy in
    elim (dec_lt (1 + times m others) (times m xs + times m ys)) [
      | yes both ↦ record {
        number = m;
        small = omega arith;
        in_xs = times_among m xs (omega arith);
        in_ys = times_among m ys (omega arith);
        not_other = λ a. omega (arith, among_times a);
      }
      | no few ↦
          let r = common m others dx dy (omega (arith, below_suc m xs, below_suc m ys, below_suc m others)) in
          record { number = r.number; small = omega arith; in_xs = r.in_xs; in_ys = r.in_ys; not_other = r.not_other }
    ]
