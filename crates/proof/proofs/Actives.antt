-- The active replicas of a view are three of four.
use Rattle.std.proofs.Common.{◌≡◌, ℕ, ◌<◌, Bool, true, false, cond, eqb, ◌⊎◌, List, [], ◌∷◌, length, get_or, sym, refl, ap, ◌∙◌, subst, inl, inr, arith}
use Rattle.std.proofs.lemmas.Bool.{cases_eq, eq-eqb, ne_eqb}
use Rattle.agreement.specs.Groups.{Quorum}
use Rattle.agreement.specs.Lists.{Among}
use Rattle.agreement.specs.Lists.Among.{here, there}
use Rattle.agreement.proofs.Groups.{three_of_four}
use Rattle.proof.specs.Laws.{ActiveQuorum, PartsDiffer}
use Rattle.proof.specs.Roles.{primary, spare, active, backups, two_of, without}

-- one of three
pub data OneOf (i a b c : ℕ) : Type 0 where
  first : i ≡ a → OneOf i a b c
  second : i ≡ b → OneOf i a b c
  third : i ≡ c → OneOf i a b c

-- the active replicas by name, with the primary among them and the spare not
pub record Three (v : ℕ) : Type 0 where
  pub low : ℕ
  pub middle : ℕ
  pub high : ℕ
  pub are : active v ≡ low ∷ middle ∷ high ∷ []
  pub low_middle : low < middle
  pub middle_high : middle < high
  pub high_known : high < 4
  pub leads : OneOf (primary v) low middle high
  pub rests : ¬ OneOf (spare v) low middle high

-- by the spare
pub three : (v : ℕ) → Three v
unfolding active
three v = elim (cases_eq (spare v) 0) [
  | inl e ↦ record { low = 1; middle = 2; high = 3; are = rw e; low_middle = omega arith; middle_high = omega arith; high_known = omega arith; leads = OneOf.first (omega arith); rests = λ o. elim o [ OneOf.first z ↦ omega arith | OneOf.second z ↦ omega arith | OneOf.third z ↦ omega arith ] }
  | inr n0 ↦ elim (cases_eq (spare v) 1) [
    | inl e ↦ record { low = 0; middle = 2; high = 3; are = rw e; low_middle = omega arith; middle_high = omega arith; high_known = omega arith; leads = OneOf.second (omega arith); rests = λ o. elim o [ OneOf.first z ↦ omega arith | OneOf.second z ↦ omega arith | OneOf.third z ↦ omega arith ] }
    | inr n1 ↦ elim (cases_eq (spare v) 2) [
      | inl e ↦ elim (cases_eq v 0) [
        | inl z ↦ record { low = 0; middle = 1; high = 3; are = rw e; low_middle = omega arith; middle_high = omega arith; high_known = omega arith; leads = OneOf.first (omega arith); rests = λ o. elim o [ OneOf.first y ↦ omega arith | OneOf.second y ↦ omega arith | OneOf.third y ↦ omega arith ] }
        | inr p ↦ record { low = 0; middle = 1; high = 3; are = rw e; low_middle = omega arith; middle_high = omega arith; high_known = omega arith; leads = OneOf.third (omega arith); rests = λ o. elim o [ OneOf.first y ↦ omega arith | OneOf.second y ↦ omega arith | OneOf.third y ↦ omega arith ] }
      ]
      | inr n2 ↦
          let e : spare v ≡ 3 = omega arith in
          record { low = 0; middle = 1; high = 2; are = rw e; low_middle = omega arith; middle_high = omega arith; high_known = omega arith; leads = OneOf.first (omega arith); rests = λ o. elim o [ OneOf.first y ↦ omega arith | OneOf.second y ↦ omega arith | OneOf.third y ↦ omega arith ] }
    ]
  ]
]

among_one : {i a b c : ℕ} → OneOf i a b c → Among i (a ∷ b ∷ c ∷ [])
among_one (OneOf.first e) = here e
among_one (OneOf.second e) = there (here e)
among_one (OneOf.third e) = there (there (here e))

one_among : {i a b c : ℕ} → Among i (a ∷ b ∷ c ∷ []) → OneOf i a b c
one_among (here e) = OneOf.first e
one_among (there (here e)) = OneOf.second e
one_among (there (there (here e))) = OneOf.third e
one_among (there (there (there a))) = elim a [ ]

pub active_quorum : ActiveQuorum
active_quorum v = let t = three v in subst (Quorum 1) (sym t.are) (three_of_four t.low t.middle t.high t.low_middle t.middle_high t.high_known)

leads : (v : ℕ) → Among (primary v) (active v)
leads v = let t = three v in subst (Among (primary v)) (sym t.are) (among_one t.leads)

rests : (v : ℕ) → ¬ Among (spare v) (active v)
rests v a = let t = three v in t.rests (one_among (subst (Among (spare v)) t.are a))

-- whoever is not taken out stays
stays : (p i : ℕ) (js : List ℕ) → Among i js → (i ≡ p) ⊎ Among i (without p js)
stays p i [] a = elim a [ ]
stays p i (j ∷ js) (here e) = elim (cases_eq j p) [
  | inl z ↦ inl (e ∙ z)
  | inr n ↦ inr (rw (ne_eqb j p n) (here e))
]
stays p i (j ∷ js) (there a) = elim (stays p i js a) [
  | inl z ↦ inl z
  | inr b ↦ inr (elim (cases_eq j p) [ inl z ↦ rw (eq-eqb j p z) b | inr n ↦ rw (ne_eqb j p n) (there b) ])
]

either : (v i : ℕ) → Among i (active v) → (i ≡ primary v) ⊎ Among i (backups v)
unfolding backups
either v i a = stays (primary v) i (active v) a

pub parts_differ : PartsDiffer
parts_differ = record { leads = leads; rests = rests; differ = λ v e. rests v (subst (λ i. Among i (active v)) e (leads v)); either = either }

-- the two that are left without one of three
two_left : (p a b c : ℕ) → a < b → b < c → OneOf p a b c → two_of a b c p ≡ without p (a ∷ b ∷ c ∷ [])
two_left p a b c ab bc (OneOf.first e) = rw (eq-eqb a p (omega arith), ne_eqb b p (λ z. omega arith), ne_eqb c p (λ z. omega arith))
two_left p a b c ab bc (OneOf.second e) = rw (ne_eqb a p (λ z. omega arith), eq-eqb b p (omega arith), ne_eqb c p (λ z. omega arith))
two_left p a b c ab bc (OneOf.third e) = rw (ne_eqb a p (λ z. omega arith), ne_eqb b p (λ z. omega arith), eq-eqb c p (omega arith))

-- the backups, picked from the active list
abbrev picked : ℕ → List ℕ → List ℕ
picked p js = two_of (get_or js 0 0) (get_or js 1 0) (get_or js 2 0) p

pub backups_picked : (v : ℕ) (js : List ℕ) → js ≡ active v → picked (primary v) js ≡ backups v
unfolding backups
backups_picked v js e =
    let t = three v in
    ap (picked (primary v)) (e ∙ t.are) ∙ (two_left (primary v) t.low t.middle t.high t.low_middle t.middle_high t.leads ∙ ap (without (primary v)) (sym t.are))

two_picked : (a b : Bool) (t u v w x y : ℕ) → length (cond a (t ∷ u ∷ []) (cond b (v ∷ w ∷ []) (x ∷ y ∷ []))) ≡ 2
two_picked true b t u v w x y = refl
two_picked false true t u v w x y = refl
two_picked false false t u v w x y = refl

pub backups_two : (v : ℕ) → length (backups v) ≡ 2
backups_two v = let e = ap length (backups_picked v (active v) refl) in sym e ∙ two_picked (eqb (get_or (active v) 0 0) (primary v)) (eqb (get_or (active v) 1 0) (primary v)) _ _ _ _ _ _
