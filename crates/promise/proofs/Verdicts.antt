-- What tests tell that were all passed, and who passes the tests of a part.
use Rattle.std.proofs.Common.{◌≡◌, ℕ, ◌<◌, Bool, true, false, cond, not, eqb, List, [], ◌∷◌, Ok, Err, sym, refl, ◌∙◌, subst, inl, inr, arith}
use Rattle.std.proofs.lemmas.Bool.{cases_eq, and_parts, and_from, cond-true, eqb-false, ne_eqb, not-true, not_from_false}
use Rattle.agreement.specs.Lists.{Among}
use Rattle.agreement.specs.Lists.Among.{here, there}
use Rattle.proof.specs.Roles.{primary, spare, active, backups}
use Rattle.proof.proofs.Actives.{OneOf, three, parts_differ}
use Rattle.ledger.proofs.Groups.{backup_if, backup_active, not_primary}
use Rattle.slots.specs.Checks.{Test, verdict, is_active, is_backup}
use Rattle.promise.proofs.Turns.{Passed}

-- each test holds
abbrev pub Holding : List Test → Type 0
Holding [] = Unit {0}
Holding (t ∷ ts) = (t.holds ≡ true) × Holding ts

held : (t : Test) (ts : List Test) (b : Bool) → t.holds ≡ b → cond b (verdict ts) (Err t.fault) ≡ Ok tt → (t.holds ≡ true) × Passed ts
held t ts true e p = (e, p)
held t ts false e p = let z : ◌≡◌ {A = ℕ} 0 1 = cc in absurd (omega arith)

pub holding : (ts : List Test) → Passed ts → Holding ts
holding [] p = tt
holding (t ∷ ts) p = let h = held t ts t.holds refl p in (h.0, holding ts h.1)

pub passed : (ts : List Test) → Holding ts → Passed ts
passed [] h = refl
passed (t ∷ ts) h = cond-true t.holds (verdict ts) (Err t.fault) h.0 ∙ passed ts h.1

-- all of four but the spare are active
pub active_if : (v i : ℕ) → i < 4 → is_active v i ≡ true → Among i (active v)
active_if v i l a =
    let t = three v in
    let ne = eqb-false i (spare v) (not-true (eqb i (spare v)) a) in
    let n₁ : ¬ (spare v ≡ t.low) = λ z. t.rests (OneOf.first z) in
    let n₂ : ¬ (spare v ≡ t.middle) = λ z. t.rests (OneOf.second z) in
    let n₃ : ¬ (spare v ≡ t.high) = λ z. t.rests (OneOf.third z) in
    let lm = t.low_middle in
    let mh = t.middle_high in
    let hk = t.high_known in
    subst (Among i) (sym t.are) (elim (cases_eq i t.low) [
      | inl e ↦ here e
      | inr a ↦ elim (cases_eq i t.middle) [ inl e ↦ there (here e) | inr b ↦ there (there (here (omega arith))) ]
    ])

pub backup_test : (v i : ℕ) → i < 4 → is_backup v i ≡ true → Among i (backups v)
backup_test v i l b =
    let p = and_parts (is_active v i) (not (eqb i (primary v))) b in
    backup_if v (active_if v i l p.0) (eqb-false i (primary v) (not-true (eqb i (primary v)) p.1))

pub is_active_if : (v i : ℕ) → Among i (active v) → is_active v i ≡ true
is_active_if v i a = not_from_false (eqb i (spare v)) (ne_eqb i (spare v) (λ e. parts_differ.rests v (subst (λ j. Among j (active v)) e a)))

pub is_backup_if : (v i : ℕ) → Among i (backups v) → is_backup v i ≡ true
is_backup_if v i b = and_from (is_active v i) (not (eqb i (primary v))) (is_active_if v i (backup_active v b)) (not_from_false (eqb i (primary v)) (ne_eqb i (primary v) (not_primary v b)))
