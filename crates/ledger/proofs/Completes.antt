-- Which deed makes a slot prepared, or decided.
use Rattle.std.proofs.Common.{◌≡◌, ℕ, ◌<◌, true, ◌⊎◌, List, ◌∷◌, Some, sym, subst, inl, inr, arith}
use Rattle.std.proofs.lemmas.Bool.{cases_eq}
use Rattle.agreement.specs.Lists.Among.{here, there}
use Rattle.proof.specs.Roles.{backups, every}
use Rattle.ledger.specs.Sheets.{Point, Sheet, Deed, idle, enter, collect, order, prepare, commit, certificate, report, mark, may, done, Prepared, Decided}
use Rattle.ledger.proofs.Groups.{every_each, each_every, mark_self, mark_keeps, mark_other, other_backup}
use Rattle.ledger.proofs.Pages.{Fits, none_some}
use Rattle.ledger.proofs.Kept.{Held, slot_of, view_of, kind_of, back, back_prepared, back_settled, newest}
use Rattle.ledger.proofs.Along.{Kept, step, known}

-- the command of an order or a vote
abbrev command_of : Deed → ℕ
command_of idle = 0
command_of (enter v) = 0
command_of (collect n) = 0
command_of (order v n c) = c
command_of (prepare v n j c) = c
command_of (commit v n j c) = c
command_of (certificate n v c) = 0
command_of (report v n e c) = 0

back_decided : {own v n c : ℕ} {l : List Deed} {d : Deed} (f : Deed → ℕ) → ¬ (f (certificate n v c) ≡ f d) → ¬ (f (order v n c) ≡ f d) → ((j : ℕ) → ¬ (f (prepare v n j c) ≡ f d)) → ((j : ℕ) → ¬ (f (commit v n j c) ≡ f d)) → Decided own v n c (d ∷ l) → Decided own v n c l
back_decided f a b e g (inl x) = inl (back f a x)
back_decided f a b e g (inr x) = inr (back_settled f b e g x)

module _ (own : ℕ) (l : List Deed) (s : Sheet) (k : Kept own l s) where
  -- a slot's page in the present view
  page_fits : (v n : ℕ) → v ≡ s.view → Fits own v n l (s.page n)
  page_fits v n e = subst (λ w. Fits own w n l (s.page n)) (sym e) (k.fits n)

  page_held : (v n : ℕ) → v ≡ s.view → s.floor < n → Held own v n l (s.page n)
  page_held v n e lt = subst (λ w. Held own w n l (s.page n)) (sym e) (k.held n lt)

  -- a prepare with which all are held makes the slot prepared
  pub filled : (v n j c : ℕ) → may own s (prepare v n j c) → every (mark j (s.page n).prepares) (backups v) ≡ true → Prepared own v n c (prepare v n j c ∷ l)
  filled v n j c m h =
      let f = page_fits v n m.0 in
      record {
        ordered = there (f.base.ordered c m.2);
        prepares = λ i a ne. elim (cases_eq i j) [
          | inl e ↦ here (cc)
          | inr d ↦ there (f.base.prepares c i m.2 (mark_other j i (s.page n).prepares d (every_each (mark j (s.page n).prepares) h a)) ne)
        ];
      }

  -- and only such a one does
  all_in : (v n j c : ℕ) → may own s (prepare v n j c) → Prepared own v n c (prepare v n j c ∷ l) → every (mark j (s.page n).prepares) (backups v) ≡ true
  all_in v n j c m p =
      let f = page_fits v n m.0 in
      let h = page_held v n m.0 m.1 in
      each_every (mark j (s.page n).prepares) (backups v) (λ i a. elim (cases_eq i own) [
        | inl e ↦ mark_keeps j i (s.page n).prepares (rw e (f.base.own_prepare c m.2 (rw e at a)))
        | inr ne ↦ elim (newest (p.prepares i a ne)) [
          | inl e ↦ let x : i ≡ j = cc in rw x (mark_self j (s.page n).prepares)
          | inr b ↦ mark_keeps j i (s.page n).prepares (h.prepare i c b).1
        ]
      ])

  -- an order comes before the prepares
  too_early : {X : Type 0} (v n c : ℕ) → may own s (order v n c) → Prepared own v n c (order v n c ∷ l) → X
  too_early v n c m p =
      let o = other_backup v own in
      none_some m.2 ((page_held v n m.0 m.1).prepare o.0 c (back kind_of (omega arith) (p.prepares o.0 o.1 o.2))).0

  -- a slot that is prepared was so before the newest deed, or this is the prepare with which all are held
  pub completes : (v n c : ℕ) (d : Deed) → may own s d → Prepared own v n c (d ∷ l) → Prepared own v n c l ⊎ ((j : ℕ) × (d ≡ prepare v n j c) × (every (mark j (s.page n).prepares) (backups v) ≡ true))
  completes v n c idle m p = inl (back_prepared kind_of (omega arith) (λ _. omega arith) p)
  completes v n c (enter w) m p = inl (back_prepared kind_of (omega arith) (λ _. omega arith) p)
  completes v n c (collect f) m p = inl (back_prepared kind_of (omega arith) (λ _. omega arith) p)
  completes v n c (order v' n' c') m p = elim (newest p.ordered) [
    | inl e ↦ too_early v n c (subst (λ (x : Deed). may own s x) (sym e) m) (subst (λ (x : Deed). Prepared own v n c (x ∷ l)) (sym e) p)
    | inr a ↦ inl (record { ordered = a; prepares = λ j i ne. back kind_of (omega arith) (p.prepares j i ne) })
  ]
  completes v n c (prepare v' n' j c') m p = elim (cases_eq v v') [
    | inr ne ↦ inl (back_prepared view_of ne (λ _. ne) p)
    | inl ev ↦ elim (cases_eq n n') [
      | inr ne ↦ inl (back_prepared slot_of ne (λ _. ne) p)
      | inl en ↦ elim (cases_eq c c') [
        | inr ne ↦ inl (back_prepared command_of ne (λ _. ne) p)
        | inl ec ↦
            let e : prepare v' n' j c' ≡ prepare v n j c = cc in
            inr (j, e, all_in v n j c (subst (λ (x : Deed). may own s x) e m) (subst (λ (x : Deed). Prepared own v n c (x ∷ l)) e p))
      ]
    ]
  ]
  completes v n c (commit v' n' j c') m p = inl (back_prepared kind_of (omega arith) (λ _. omega arith) p)
  completes v n c (certificate n' v' c') m p = inl (back_prepared kind_of (omega arith) (λ _. omega arith) p)
  completes v n c (report v' n' e c') m p = inl (back_prepared kind_of (omega arith) (λ _. omega arith) p)

  -- a deed that writes a page above the floor
  by_slot : (v n c : ℕ) (d : Deed) → may own s d → (done own s d).floor < slot_of d → Decided own v n c (d ∷ l) → Decided own v n c l ⊎ ((q : Point) × (((done own s d).page n).decided ≡ Some q))
  by_slot v n c d m above x = elim (cases_eq n (slot_of d)) [
    | inl e ↦ inr (known own (step own d k m) v n c x (rw e above))
    | inr ne ↦ inl (back_decided slot_of ne ne (λ _. ne) (λ _. ne) x)
  ]

  -- a slot that is decided was so before the newest deed, or its page shows a decision after it
  pub decides : (v n c : ℕ) (d : Deed) → may own s d → Decided own v n c (d ∷ l) → Decided own v n c l ⊎ ((q : Point) × (((done own s d).page n).decided ≡ Some q))
  decides v n c idle m x = inl (back_decided kind_of (omega arith) (omega arith) (λ _. omega arith) (λ _. omega arith) x)
  decides v n c (enter w) m x = inl (back_decided kind_of (omega arith) (omega arith) (λ _. omega arith) (λ _. omega arith) x)
  decides v n c (collect f) m x = inl (back_decided kind_of (omega arith) (omega arith) (λ _. omega arith) (λ _. omega arith) x)
  decides v n c (order v' n' c') m x = by_slot v n c (order v' n' c') m m.1 x
  decides v n c (prepare v' n' j c') m x = by_slot v n c (prepare v' n' j c') m m.1 x
  decides v n c (commit v' n' j c') m x = by_slot v n c (commit v' n' j c') m m.1 x
  decides v n c (certificate n' v' c') m x = by_slot v n c (certificate n' v' c') m m.0 x
  decides v n c (report v' n' e c') m x = inl (back_decided kind_of (omega arith) (omega arith) (λ _. omega arith) (λ _. omega arith) x)
