-- All that was done stands on the page, until the slot is collected.
use Rattle.std.proofs.Common.{◌≡◌, ℕ, ◌<◌, ◌≤◌, Bool, true, ◌⊎◌, List, ◌∷◌, Some, None, Option, refl, ap, subst, inl, inr, arith}
use Rattle.std.proofs.lemmas.Bool.{cases_eq, cond_both}
use Rattle.agreement.specs.Lists.{Among}
use Rattle.agreement.specs.Lists.Among.{here, there}
use Rattle.proof.specs.Roles.{active, backups, every}
use Rattle.ledger.specs.Sheets.{Point, at, Page, Deed, idle, enter, collect, order, prepare, commit, certificate, report, mark, first, ordered, with_prepare, with_commit, with_decision, settled, confirmed, dropped, Prepared, Settled}
use Rattle.ledger.proofs.Groups.{each_every, mark_self, mark_keeps}
use Rattle.ledger.proofs.Pages.{Fits, none_some, moved_prepared, moved_settled}

-- the slot whose page a deed writes
abbrev pub slot_of : Deed → ℕ
slot_of idle = 0
slot_of (enter v) = 0
slot_of (collect n) = 0
slot_of (order v n c) = n
slot_of (prepare v n j c) = n
slot_of (commit v n j c) = n
slot_of (certificate n v c) = n
slot_of (report v n e c) = 0

-- the view that a deed has to be done in
abbrev pub view_of : Deed → ℕ
view_of idle = 0
view_of (enter v) = 0
view_of (collect n) = 0
view_of (order v n c) = v
view_of (prepare v n j c) = v
view_of (commit v n j c) = v
view_of (certificate n v c) = 0
view_of (report v n e c) = v

-- a number for each kind of deed
abbrev pub kind_of : Deed → ℕ
kind_of idle = 0
kind_of (enter v) = 1
kind_of (collect n) = 2
kind_of (order v n c) = 3
kind_of (prepare v n j c) = 4
kind_of (commit v n j c) = 5
kind_of (certificate n v c) = 6
kind_of (report v n e c) = 7

-- the newest, or one before it
pub newest : {X : Type 0} {x y : X} {l : List X} → Among x (y ∷ l) → (x ≡ y) ⊎ Among x l
newest (here e) = inl e
newest (there a) = inr a

-- whatever a number tells apart from the newest was there before it
pub back : {X : Type 0} (f : X → ℕ) {x y : X} {l : List X} → ¬ (f x ≡ f y) → Among x (y ∷ l) → Among x l
back f k (here e) = absurd (k (ap f e))
back f k (there a) = a

pub back_prepared : {own v n c : ℕ} {l : List Deed} {d : Deed} (f : Deed → ℕ) → ¬ (f (order v n c) ≡ f d) → ((j : ℕ) → ¬ (f (prepare v n j c) ≡ f d)) → Prepared own v n c (d ∷ l) → Prepared own v n c l
back_prepared f k m = moved_prepared (back f k) (λ j. back f (m j))

pub back_settled : {own v n c : ℕ} {l : List Deed} {d : Deed} (f : Deed → ℕ) → ¬ (f (order v n c) ≡ f d) → ((j : ℕ) → ¬ (f (prepare v n j c) ≡ f d)) → ((j : ℕ) → ¬ (f (commit v n j c) ≡ f d)) → Settled own v n c (d ∷ l) → Settled own v n c l
back_settled f k m i = moved_settled (back f k) (λ j. back f (m j)) (λ j. back f (i j))

-- what the deeds put on the page of slot n in view v
pub record Held (own v n : ℕ) (l : List Deed) (p : Page) : Type 0 where
  pub ordered : (c : ℕ) → Among (order v n c) l → p.order ≡ Some c
  pub prepare : (j c : ℕ) → Among (prepare v n j c) l → (p.order ≡ Some c) × (p.prepares j ≡ true)
  pub commit : (j c : ℕ) → Among (commit v n j c) l → (p.order ≡ Some c) × (p.commits j ≡ true)
  pub certificate : (u c : ℕ) → Among (certificate n u c) l → (q : Point) × (p.decided ≡ Some q)
  pub old_prepared : (u c : ℕ) → u < v → Prepared own u n c l → (q : Point) × (p.prepared ≡ Some q) × (u ≤ q.view)
  pub old_settled : (u c : ℕ) → u < v → Settled own u n c l → (q : Point) × (p.decided ≡ Some q)

-- the two parts for older views hold for the present view as well
module _ {own v n : ℕ} {l : List Deed} (p : Page) (f : Fits own v n l p) (h : Held own v n l p) where
  all_held : (c : ℕ) → Prepared own v n c l → (p.commits own ≡ true) × (p.prepared ≡ Some (at v c))
  all_held c w =
      let o = h.ordered c w.ordered in
      f.base.closed c o (each_every p.prepares (backups v) (λ j a. elim (cases_eq j own) [
        | inl e ↦ rw e (f.base.own_prepare c o (rw e at a))
        | inr k ↦ (h.prepare j c (w.prepares j a k)).1
      ]))

  pub prepared_held : (u c : ℕ) → u ≤ v → Prepared own u n c l → (q : Point) × (p.prepared ≡ Some q) × (u ≤ q.view)
  prepared_held u c le w = elim (cases_eq u v) [
    | inl e ↦ (at v c, (all_held c (subst (λ u. Prepared own u n c l) e w)).1, omega arith)
    | inr k ↦ h.old_prepared u c (omega arith) w
  ]

  pub settled_held : (u c : ℕ) → u ≤ v → Settled own u n c l → (q : Point) × (p.decided ≡ Some q)
  settled_held u c le w = elim (cases_eq u v) [
    | inl e ↦
        let t = subst (λ u. Settled own u n c l) e w in
        f.decides c (h.ordered c t.prepared.ordered) (each_every p.commits (active v) (λ j a. elim (cases_eq j own) [
          | inl e ↦ rw e (all_held c t.prepared).0
          | inr k ↦ (h.commit j c (t.commits j a k)).1
        ]))
    | inr k ↦ h.old_settled u c (omega arith) w
  ]

-- a deed that is not about the page
pub other_held : {own v n : ℕ} {l : List Deed} {p : Page} (d : Deed) → ¬ (n ≡ slot_of d) → Held own v n l p → Held own v n (d ∷ l) p
other_held d k h = record {
  ordered = λ c a. h.ordered c (back slot_of k a);
  prepare = λ j c a. h.prepare j c (back slot_of k a);
  commit = λ j c a. h.commit j c (back slot_of k a);
  certificate = λ u c a. h.certificate u c (back slot_of k a);
  old_prepared = λ u c lt w. h.old_prepared u c lt (back_prepared slot_of k (λ _. k) w);
  old_settled = λ u c lt w. h.old_settled u c lt (back_settled slot_of k (λ _. k) (λ _. k) w);
}

-- a later view is entered: no deed is of that view yet
pub dropped_held : {own v v' n : ℕ} {l : List Deed} (p : Page) → Fits own v n l p → Held own v n l p → ((d : Deed) → Among d l → view_of d ≤ v) → v < v' → Held own v' n l (dropped p)
dropped_held p f h views later = record {
  ordered = λ c a. let k = views _ a in absurd (omega arith);
  prepare = λ j c a. let k = views _ a in absurd (omega arith);
  commit = λ j c a. let k = views _ a in absurd (omega arith);
  certificate = h.certificate;
  old_prepared = λ u c lt w. prepared_held p f h u c (views _ w.ordered) w;
  old_settled = λ u c lt w. settled_held p f h u c (views _ w.prepared.ordered) w;
}

first_keeps : (o w : Option Point) → (q : Point) × (o ≡ Some q) → (q : Point) × (first o w ≡ Some q)
first_keeps None w k = none_some refl k.1
first_keeps (Some p) w k = k

module _ {own v n : ℕ} {l : List Deed} where
  -- a deed of view v brings nothing for older views
  older_prepared : {u c : ℕ} (d : Deed) → view_of d ≡ v → u < v → Prepared own u n c (d ∷ l) → Prepared own u n c l
  older_prepared d e lt = back_prepared view_of (omega arith) (λ _. omega arith)

  older_settled : {u c : ℕ} (d : Deed) → view_of d ≡ v → u < v → Settled own u n c (d ∷ l) → Settled own u n c l
  older_settled d e lt = back_settled view_of (omega arith) (λ _. omega arith) (λ _. omega arith)

  pub ordered_held : (c : ℕ) (p : Page) → Held own v n l p → p.order ≡ None → Held own v n (order v n c ∷ l) (ordered own v c p)
  ordered_held c p h e = record {
    ordered = λ c' a. elim (newest a) [
      | inl i ↦ let j : c' ≡ c = cc in cc
      | inr b ↦ none_some e (h.ordered c' b)
    ];
    prepare = λ j c' a. none_some e (h.prepare j c' (back kind_of (omega arith) a)).0;
    commit = λ j c' a. none_some e (h.commit j c' (back kind_of (omega arith) a)).0;
    certificate = λ u c' a. h.certificate u c' (back kind_of (omega arith) a);
    old_prepared = λ u c' lt w. h.old_prepared u c' lt (older_prepared (order v n c) refl lt w);
    old_settled = λ u c' lt w. h.old_settled u c' lt (older_settled (order v n c) refl lt w);
  }

  pub prepare_held : (j c : ℕ) (p : Page) → Held own v n l p → p.order ≡ Some c → Held own v n (prepare v n j c ∷ l) (confirmed own (at v c) (with_prepare j p))
  prepare_held j c p h e =
      let d : Deed = prepare v n j c in
      let ps : ℕ → Bool = mark j p.prepares in
      let took : (i c' : ℕ) → Among (prepare v n i c') (d ∷ l) → (p.order ≡ Some c') × (ps i ≡ true) = λ i c' a. elim (newest a) [
        | inl g ↦ let x : c ≡ c' = cc in let y : i ≡ j = cc in (cc, rw y (mark_self j p.prepares))
        | inr b ↦ ((h.prepare i c' b).0, mark_keeps j i p.prepares (h.prepare i c' b).1)
      ] in
      cond_both (every ps (backups v)) _ _ (λ (x : Page). Held own v n (d ∷ l) x)
      (λ t. record {
        ordered = λ c' a. h.ordered c' (back kind_of (omega arith) a);
        prepare = took;
        commit = λ i c' a. let b = h.commit i c' (back kind_of (omega arith) a) in (b.0, mark_keeps own i p.commits b.1);
        certificate = λ u c' a. first_keeps p.decided _ (h.certificate u c' (back kind_of (omega arith) a));
        old_prepared = λ u c' lt w. (at v c, refl, omega arith);
        old_settled = λ u c' lt w. first_keeps p.decided _ (h.old_settled u c' lt (older_settled d refl lt w));
      })
      (λ t. record {
        ordered = λ c' a. h.ordered c' (back kind_of (omega arith) a);
        prepare = took;
        commit = λ i c' a. h.commit i c' (back kind_of (omega arith) a);
        certificate = λ u c' a. h.certificate u c' (back kind_of (omega arith) a);
        old_prepared = λ u c' lt w. h.old_prepared u c' lt (older_prepared d refl lt w);
        old_settled = λ u c' lt w. h.old_settled u c' lt (older_settled d refl lt w);
      })

  pub commit_held : (j c : ℕ) (p : Page) → Held own v n l p → p.order ≡ Some c → Held own v n (commit v n j c ∷ l) (settled (at v c) (with_commit j p))
  commit_held j c p h e = record {
    ordered = λ c' a. h.ordered c' (back kind_of (omega arith) a);
    prepare = λ i c' a. h.prepare i c' (back kind_of (omega arith) a);
    commit = λ i c' a. elim (newest a) [
      | inl g ↦ let x : c ≡ c' = cc in let y : i ≡ j = cc in (cc, rw y (mark_self j p.commits))
      | inr b ↦ ((h.commit i c' b).0, mark_keeps j i p.commits (h.commit i c' b).1)
    ];
    certificate = λ u c' a. first_keeps p.decided _ (h.certificate u c' (back kind_of (omega arith) a));
    old_prepared = λ u c' lt w. h.old_prepared u c' lt (older_prepared (commit v n j c) refl lt w);
    old_settled = λ u c' lt w. first_keeps p.decided _ (h.old_settled u c' lt (older_settled (commit v n j c) refl lt w));
  }

  pub certificate_held : (u c : ℕ) (p : Page) → Held own v n l p → Held own v n (certificate n u c ∷ l) (with_decision (at u c) p)
  certificate_held u c p h = record {
    ordered = λ c' a. h.ordered c' (back kind_of (omega arith) a);
    prepare = λ i c' a. h.prepare i c' (back kind_of (omega arith) a);
    commit = λ i c' a. h.commit i c' (back kind_of (omega arith) a);
    certificate = λ _ _ _. (at u c, refl);
    old_prepared = λ u' c' lt w. h.old_prepared u' c' lt (back_prepared kind_of (omega arith) (λ _. omega arith) w);
    old_settled = λ _ _ _ _. (at u c, refl);
  }
