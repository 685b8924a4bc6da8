-- Primary and backups among the active replicas of a view, and tests over a list of replicas.
use Rattle.std.proofs.Common.{◌≡◌, ℕ, ◌<◌, Bool, true, eqb, List, [], ◌∷◌, refl, inl, inr, arith}
use Rattle.std.proofs.lemmas.Bool.Decides.{nat_tests}
use Rattle.std.proofs.lemmas.Bool.{cases_eq, and_parts, and_from, cond-true, eq-eqb, ne_eqb}
use Rattle.agreement.specs.Lists.{Among}
use Rattle.agreement.specs.Lists.Among.{here, there}
use Rattle.agreement.proofs.Lists.{each_cons}
use Rattle.proof.specs.Roles.{primary, without, active, backups, every}
use Rattle.proof.proofs.Actives.{OneOf, three, active_quorum, parts_differ}
use Rattle.ledger.specs.Sheets.{mark}

pub every_each : (f : ℕ → Bool) {j : ℕ} {js : List ℕ} → every f js ≡ true → Among j js → f j ≡ true
every_each f {js = []} h a = elim a [ ]
every_each f {js = i ∷ js} h (here e) = rw e (and_parts _ _ h).0
every_each f {js = i ∷ js} h (there a) = every_each f (and_parts _ _ h).1 a

pub each_every : (f : ℕ → Bool) (js : List ℕ) → ((j : ℕ) → Among j js → f j ≡ true) → every f js ≡ true
each_every f [] k = refl
each_every f (j ∷ js) k = and_from _ _ (k j (here refl)) (each_every f js (λ i a. k i (there a)))

pub mark_self : (j : ℕ) (f : ℕ → Bool) → mark j f j ≡ true
mark_self j f = cond-true (eqb j j) _ _ (eq-eqb j j refl)

pub mark_keeps : (j i : ℕ) (f : ℕ → Bool) → f i ≡ true → mark j f i ≡ true
mark_keeps j i f h = grind (arith, nat_tests)

pub mark_other : (j i : ℕ) (f : ℕ → Bool) → ¬ (i ≡ j) → mark j f i ≡ true → f i ≡ true
mark_other j i f n h = grind (arith, nat_tests)

pub every_mark : (j : ℕ) (f : ℕ → Bool) (js : List ℕ) → every f js ≡ true → every (mark j f) js ≡ true
every_mark j f js h = each_every (mark j f) js (λ i a. mark_keeps j i f (every_each f h a))

pub active_known : (v : ℕ) {j : ℕ} → Among j (active v) → j < 4
active_known v a = (active_quorum v).known a

pub primary_active : (v : ℕ) → Among (primary v) (active v)
primary_active = parts_differ.leads

pub backup_if : (v : ℕ) {j : ℕ} → Among j (active v) → ¬ (j ≡ primary v) → Among j (backups v)
backup_if v {j} a other = elim (parts_differ.either v j a) [ inl e ↦ absurd (other e) | inr b ↦ b ]

-- whoever is left without i was there, and is not i
left : (i : ℕ) (ks : List ℕ) (j : ℕ) → Among j (without i ks) → Among j ks × (¬ (j ≡ i))
left i [] j a = elim a [ ]
left i (k ∷ ks) j a =
    let others : (j : ℕ) → Among j (without i ks) → Among j (k ∷ ks) × (¬ (j ≡ i)) = λ j b. (there (left i ks j b).0, (left i ks j b).1) in
    elim (cases_eq k i) [
      | inl e ↦ others j (rw (eq-eqb k i e) at a)
      | inr n ↦ each_cons {P = λ j. Among j (k ∷ ks) × (¬ (j ≡ i))} (here refl, n) others j (rw (ne_eqb k i n) at a)
    ]

pub backup_active : (v : ℕ) {j : ℕ} → Among j (backups v) → Among j (active v)
unfolding backups
backup_active v {j} a = (left (primary v) (active v) j a).0

pub not_primary : (v : ℕ) {j : ℕ} → Among j (backups v) → ¬ (j ≡ primary v)
unfolding backups
not_primary v {j} a = (left (primary v) (active v) j a).1

-- of two backups one is not j
one_of_two : (v j a b : ℕ) → Among a (backups v) → Among b (backups v) → ¬ (a ≡ b) → (i : ℕ) × Among i (backups v) × (¬ (i ≡ j))
one_of_two v j a b x y n = elim (cases_eq a j) [
  | inl e ↦ (b, y, omega arith)
  | inr m ↦ (a, x, m)
]

-- a backup other than j
pub other_backup : (v j : ℕ) → (i : ℕ) × Among i (backups v) × (¬ (i ≡ j))
other_backup v j =
    let t = three v in
    let low : ¬ (t.low ≡ primary v) → Among t.low (backups v) = backup_if v (rw t.are (here refl)) in
    let middle : ¬ (t.middle ≡ primary v) → Among t.middle (backups v) = backup_if v (rw t.are (there (here refl))) in
    let high : ¬ (t.high ≡ primary v) → Among t.high (backups v) = backup_if v (rw t.are (there (there (here refl)))) in
    elim t.leads [
      | OneOf.first e ↦ one_of_two v j t.middle t.high (middle (omega arith)) (high (omega arith)) (omega arith)
      | OneOf.second e ↦ one_of_two v j t.low t.high (low (omega arith)) (high (omega arith)) (omega arith)
      | OneOf.third e ↦ one_of_two v j t.low t.middle (low (omega arith)) (middle (omega arith)) (omega arith)
    ]
