-- All that a page says was done.
use Rattle.std.proofs.Common.{◌≡◌, ℕ, ◌≤◌, Bool, true, false, eqb, ◌⊎◌, List, ◌∷◌, Some, None, Option, sym, refl, ap, ◌∙◌, subst, inl, inr, arith}
use Rattle.std.proofs.lemmas.Bool.{cases_eq, cond-false, cond_both, ne_eqb, both_ways}
use Rattle.agreement.specs.Lists.{Among}
use Rattle.agreement.specs.Lists.Among.{here, there}
use Rattle.proof.specs.Roles.{primary, active, backups, every}
use Rattle.ledger.specs.Sheets.{Point, at, Page, blank, Deed, order, prepare, commit, certificate, mark, first, when, ordered, with_prepare, with_commit, with_prepared, with_decision, settled, confirmed, dropped, Prepared, Settled, Decided}
use Rattle.ledger.proofs.Groups.{every_each, mark_self, mark_keeps, mark_other, every_mark, not_primary, other_backup, primary_active}

-- cases that cannot be
pub none_some : {A : Type 0} {X : Type 0} {o : Option A} {a : A} → o ≡ None → o ≡ Some a → X
none_some e f = let z : ◌≡◌ {A = ℕ} 0 1 = cc in absurd (omega arith)

false_true : {X : Type 0} (b : Bool) → b ≡ false → b ≡ true → X
false_true b e f = absurd (both_ways b e f)

-- a list that has a slot's votes too has it prepared, and settled, too
pub moved_prepared : {own v n c : ℕ} {l l' : List Deed} → (Among (order v n c) l → Among (order v n c) l') → ((j : ℕ) → Among (prepare v n j c) l → Among (prepare v n j c) l') → Prepared own v n c l → Prepared own v n c l'
moved_prepared f g p = record { ordered = f p.ordered; prepares = λ j a k. g j (p.prepares j a k) }

pub moved_settled : {own v n c : ℕ} {l l' : List Deed} → (Among (order v n c) l → Among (order v n c) l') → ((j : ℕ) → Among (prepare v n j c) l → Among (prepare v n j c) l') → ((j : ℕ) → Among (commit v n j c) l → Among (commit v n j c) l') → Settled own v n c l → Settled own v n c l'
moved_settled f g h p = record { prepared = moved_prepared f g p.prepared; commits = λ j a k. h j (p.commits j a k) }

pub more_prepared : {own v n c : ℕ} {l : List Deed} {d : Deed} → Prepared own v n c l → Prepared own v n c (d ∷ l)
more_prepared = moved_prepared there (λ _. there)

more_decided : {own v n c : ℕ} {l : List Deed} {d : Deed} → Decided own v n c l → Decided own v n c (d ∷ l)
more_decided (inl a) = inl (there a)
more_decided (inr p) = inr (moved_settled there (λ _. there) (λ _. there) p)

-- what the order, the votes held and the prepared point of slot n say in view v
pub record Base (own v n : ℕ) (l : List Deed) (o : Option ℕ) (ps cs : ℕ → Bool) (pd : Option Point) : Type 0 where
  pub no_votes : o ≡ None → (j : ℕ) → (ps j ≡ false) × (cs j ≡ false)
  pub ordered : (c : ℕ) → o ≡ Some c → Among (order v n c) l
  pub prepares : (c j : ℕ) → o ≡ Some c → ps j ≡ true → ¬ (j ≡ own) → Among (prepare v n j c) l
  pub commits : (c j : ℕ) → o ≡ Some c → cs j ≡ true → ¬ (j ≡ own) → Among (commit v n j c) l
  pub own_prepare : (c : ℕ) → o ≡ Some c → Among own (backups v) → ps own ≡ true
  pub own_commit : cs own ≡ true → every ps (backups v) ≡ true
  pub closed : (c : ℕ) → o ≡ Some c → every ps (backups v) ≡ true → (cs own ≡ true) × (pd ≡ Some (at v c))
  pub prepared : (q : Point) → pd ≡ Some q → Prepared own q.view n q.command l × (q.view ≤ v)

-- what the whole page says
pub record Fits (own v n : ℕ) (l : List Deed) (p : Page) : Type 0 where
  pub base : Base own v n l p.order p.prepares p.commits p.prepared
  pub decides : (c : ℕ) → p.order ≡ Some c → every p.commits (active v) ≡ true → (q : Point) × (p.decided ≡ Some q)
  pub decided : (q : Point) → p.decided ≡ Some q → Decided own q.view n q.command l

more_base : {own v n : ℕ} {l : List Deed} {o : Option ℕ} {ps cs : ℕ → Bool} {pd : Option Point} {d : Deed} → Base own v n l o ps cs pd → Base own v n (d ∷ l) o ps cs pd
more_base b = record {
  no_votes = b.no_votes;
  ordered = λ c e. there (b.ordered c e);
  prepares = λ c j e h k. there (b.prepares c j e h k);
  commits = λ c j e h k. there (b.commits c j e h k);
  own_prepare = b.own_prepare;
  own_commit = b.own_commit;
  closed = b.closed;
  prepared = λ q e. (more_prepared (b.prepared q e).0, (b.prepared q e).1);
}

-- a deed that is not about the page
pub more_fits : {own v n : ℕ} {l : List Deed} {p : Page} {d : Deed} → Fits own v n l p → Fits own v n (d ∷ l) p
more_fits f = record { base = more_base f.base; decides = f.decides; decided = λ q e. more_decided (f.decided q e) }

-- a page without order and votes
base_none : {own v n : ℕ} {l : List Deed} {pd : Option Point} → ((q : Point) → pd ≡ Some q → Prepared own q.view n q.command l × (q.view ≤ v)) → Base own v n l None (λ _. false) (λ _. false) pd
base_none k = record {
  no_votes = λ e j. (refl, refl);
  ordered = λ c e. none_some refl e;
  prepares = λ c j e. none_some refl e;
  commits = λ c j e. none_some refl e;
  own_prepare = λ c e. none_some refl e;
  own_commit = λ h. false_true false refl h;
  closed = λ c e. none_some refl e;
  prepared = k;
}

pub blank_fits : {own v n : ℕ} {l : List Deed} → Fits own v n l blank
blank_fits = record { base = base_none (λ q e. none_some refl e); decides = λ c e. none_some refl e; decided = λ q e. none_some refl e }

pub dropped_fits : {own v v' n : ℕ} {l : List Deed} {p : Page} → Fits own v n l p → v ≤ v' → Fits own v' n l (dropped p)
dropped_fits f h = record {
  base = base_none (λ q e. let r = f.base.prepared q e in (r.0, omega arith));
  decides = λ c e. none_some refl e;
  decided = f.decided;
}

when_some : (b : Bool) (q r : Point) → when b q ≡ Some r → (b ≡ true) × (q ≡ r)
when_some true q r e = (refl, cc)
when_some false q r e = none_some refl e

first_some : (o w : Option Point) (r : Point) → first o w ≡ Some r → (o ≡ Some r) ⊎ (w ≡ Some r)
first_some None w r e = inr e
first_some (Some p) w r e = inl e

first_is : (o : Option Point) (q : Point) → (r : Point) × (first o (Some q) ≡ Some r)
first_is None q = (q, refl)
first_is (Some p) q = (p, refl)

module _ {own v n : ℕ} {l : List Deed} where
  settled_fits : (c : ℕ) (p : Page) → Base own v n l p.order p.prepares p.commits p.prepared → p.order ≡ Some c → Among own (active v) → ((q : Point) → p.decided ≡ Some q → Decided own q.view n q.command l) → Fits own v n l (settled (at v c) p)
  settled_fits c p b e a old = record {
    base = b;
    decides = λ c' e' h. let r = first_is p.decided (at v c) in (r.0, rw h r.1);
    decided = λ q h. elim (first_some p.decided (when (every p.commits (active v)) (at v c)) q h) [
      | inl g ↦ old q g
      | inr g ↦
          let w = when_some (every p.commits (active v)) (at v c) q g in
          let commits : (j : ℕ) → Among j (active v) → p.commits j ≡ true = λ j i. every_each p.commits w.0 i in
          let s : Settled own v n c l = record {
            prepared = record { ordered = b.ordered c e; prepares = λ j i k. b.prepares c j e (every_each p.prepares (b.own_commit (commits own a)) i) k };
            commits = λ j i k. b.commits c j e (commits j i) k;
          } in
          inr (subst (λ (r : Point). Settled own r.view n r.command l) w.1 s)
    ];
  }

module _ {own v n : ℕ} {l : List Deed} where
  pub ordered_fits : (c : ℕ) (p : Page) → Fits own v n l p → p.order ≡ None → Fits own v n (order v n c ∷ l) (ordered own v c p)
  ordered_fits c p f e =
      let b = f.base in
      let none = b.no_votes e in
      let ps : ℕ → Bool = (ordered own v c p).prepares in
      let others : (j : ℕ) → ¬ (j ≡ own) → ps j ≡ false = λ j k. cond_both (eqb own (primary v)) p.prepares (mark own p.prepares) (λ (g : ℕ → Bool). g j ≡ false) (λ _. (none j).0) (λ _. cond-false (eqb j own) _ _ (ne_eqb j own k) ∙ (none j).0) in
      record {
        base = record {
          no_votes = λ h. none_some h refl;
          ordered = λ c' h. here (let i : c' ≡ c = cc in ap (λ x. order v n x) i);
          prepares = λ c' j h t k. false_true (ps j) (others j k) t;
          commits = λ c' j h t k. false_true (p.commits j) (none j).1 t;
          own_prepare = λ c' h a. ap (λ (g : ℕ → Bool). g own) (cond-false (eqb own (primary v)) p.prepares (mark own p.prepares) (ne_eqb own (primary v) (not_primary v a))) ∙ mark_self own p.prepares;
          own_commit = λ t. false_true (p.commits own) (none own).1 t;
          closed = λ c' h t. let k = other_backup v own in false_true (ps k.0) (others k.0 k.2) (every_each ps t k.1);
          prepared = λ q h. (more_prepared (b.prepared q h).0, (b.prepared q h).1);
        };
        decides = λ c' h t. false_true (p.commits (primary v)) (none (primary v)).1 (every_each p.commits t (primary_active v));
        decided = λ q h. more_decided (f.decided q h);
      }

  pub prepare_fits : (j c : ℕ) (p : Page) → Fits own v n l p → p.order ≡ Some c → Among own (active v) → Fits own v n (prepare v n j c ∷ l) (confirmed own (at v c) (with_prepare j p))
  prepare_fits j c p f e a =
      let b = f.base in
      let l' : List Deed = prepare v n j c ∷ l in
      let ps : ℕ → Bool = mark j p.prepares in
      let taken : (c' i : ℕ) → p.order ≡ Some c' → ps i ≡ true → ¬ (i ≡ own) → Among (prepare v n i c') l' = λ c' i h t m. elim (cases_eq i j) [
        | inl g ↦ here (let x : c' ≡ c = cc in cc)
        | inr g ↦ there (b.prepares c' i h (mark_other j i p.prepares g t) m)
      ] in
      cond_both (every ps (backups v)) _ _ (λ (x : Page). Fits own v n l' x)
      (λ t.
      let full : Prepared own v n c l' = record { ordered = there (b.ordered c e); prepares = λ i m g. taken c i e (every_each ps t m) g } in
      settled_fits c (with_commit own (with_prepared (at v c) (with_prepare j p))) (record {
        no_votes = λ h. none_some h e;
        ordered = λ c' h. there (b.ordered c' h);
        prepares = taken;
        commits = λ c' i h g m. there (b.commits c' i h (mark_other own i p.commits m g) m);
        own_prepare = λ c' h g. mark_keeps j own p.prepares (b.own_prepare c' h g);
        own_commit = λ _. t;
        closed = λ c' h _. (mark_self own p.commits, let x : c ≡ c' = cc in cc);
        prepared = λ q h. subst (λ (r : Point). Prepared own r.view n r.command l' × (r.view ≤ v)) (let x : at v c ≡ q = cc in x) (full, omega arith);
      }) e a (λ q h. more_decided (f.decided q h)))
      (λ t. record {
        base = record {
          no_votes = λ h. none_some h e;
          ordered = λ c' h. there (b.ordered c' h);
          prepares = taken;
          commits = λ c' i h g m. there (b.commits c' i h g m);
          own_prepare = λ c' h g. mark_keeps j own p.prepares (b.own_prepare c' h g);
          own_commit = λ g. every_mark j p.prepares (backups v) (b.own_commit g);
          closed = λ c' h g. false_true (every ps (backups v)) t g;
          prepared = λ q h. (more_prepared (b.prepared q h).0, (b.prepared q h).1);
        };
        decides = f.decides;
        decided = λ q h. more_decided (f.decided q h);
      })

  pub commit_fits : (j c : ℕ) (p : Page) → Fits own v n l p → p.order ≡ Some c → ¬ (j ≡ own) → Among own (active v) → Fits own v n (commit v n j c ∷ l) (settled (at v c) (with_commit j p))
  commit_fits j c p f e k a =
      let b = f.base in
      settled_fits c (with_commit j p) (record {
        no_votes = λ h. none_some h e;
        ordered = λ c' h. there (b.ordered c' h);
        prepares = λ c' i h g m. there (b.prepares c' i h g m);
        commits = λ c' i h g m. elim (cases_eq i j) [
          | inl x ↦ here (let y : c' ≡ c = cc in cc)
          | inr x ↦ there (b.commits c' i h (mark_other j i p.commits x g) m)
        ];
        own_prepare = b.own_prepare;
        own_commit = λ g. b.own_commit (mark_other j own p.commits (λ x. k (sym x)) g);
        closed = λ c' h g. (mark_keeps j own p.commits (b.closed c' h g).0, (b.closed c' h g).1);
        prepared = λ q h. (more_prepared (b.prepared q h).0, (b.prepared q h).1);
      }) e a (λ q h. more_decided (f.decided q h))

  pub certificate_fits : (u c : ℕ) (p : Page) → Fits own v n l p → Fits own v n (certificate n u c ∷ l) (with_decision (at u c) p)
  certificate_fits u c p f = record {
    base = more_base f.base;
    decides = λ c' h t. (at u c, refl);
    decided = λ q h. subst (λ (r : Point). Decided own r.view n r.command (certificate n u c ∷ l)) (let x : at u c ≡ q = cc in x) (inl (here refl));
  }
