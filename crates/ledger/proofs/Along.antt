-- Along all that a replica does its pages say what was done, and so it keeps the rules.
use Rattle.std.proofs.Common.{◌≡◌, ℕ, ◌<◌, ◌≤◌, eqb, ltb, List, [], ◌∷◌, Some, None, Option, sym, refl, ap, ◌∙◌, subst, inl, inr, arith}
use Rattle.std.proofs.lemmas.Bool.{cond_both, cond-true, eqb-true, eqb-false, lt-ltb}
use Rattle.agreement.specs.Lists.{Among}
use Rattle.agreement.specs.Lists.Among.{here, there}
use Rattle.agreement.proofs.Lists.{each_cons}
use Rattle.ledger.specs.Sheets.{Point, at, Page, blank, Sheet, start, Deed, idle, enter, collect, order, prepare, commit, certificate, report, Noted, may, write, done, Did, begin, go, Prepared, Decided}
use Rattle.ledger.specs.Laws.{Good}
use Rattle.ledger.proofs.Pages.{Fits, none_some, moved_prepared, more_fits, blank_fits, dropped_fits, ordered_fits, prepare_fits, commit_fits, certificate_fits}
use Rattle.ledger.proofs.Kept.{Held, slot_of, view_of, newest, other_held, dropped_held, ordered_held, prepare_held, commit_held, certificate_held, prepared_held, settled_held}

pub record Kept (own : ℕ) (l : List Deed) (s : Sheet) : Type 0 where
  pub first_view : 1 ≤ s.view
  pub views : (d : Deed) → Among d l → view_of d ≤ s.view
  pub fits : (n : ℕ) → Fits own s.view n l (s.page n)
  pub held : (n : ℕ) → s.floor < n → Held own s.view n l (s.page n)

module _ (own : ℕ) where
  began : Kept own [] start
  began = record {
    first_view = omega arith;
    views = λ d a. elim a [ ];
    fits = λ n. blank_fits;
    held = λ n h. record { ordered = λ c a. elim a [ ]; prepare = λ j c a. elim a [ ]; commit = λ j c a. elim a [ ]; certificate = λ u c a. elim a [ ]; old_prepared = λ u c lt w. elim w.ordered [ ]; old_settled = λ u c lt w. elim w.prepared.ordered [ ] };
  }

module _ {own : ℕ} {l : List Deed} {s : Sheet} (k : Kept own l s) where
  all_views : (d : Deed) → view_of d ≤ s.view → (x : Deed) → Among x (d ∷ l) → view_of x ≤ s.view
  all_views d h = each_cons {P = λ x. view_of x ≤ s.view} h k.views

  -- a deed that leaves the sheet as it is
  still : (d : Deed) → slot_of d ≡ 0 → view_of d ≤ s.view → Kept own (d ∷ l) s
  still d e h = record {
    first_view = k.first_view;
    views = all_views d h;
    fits = λ n. more_fits (k.fits n);
    held = λ n lt. other_held d (omega arith) (k.held n lt);
  }

  entered : (v : ℕ) → s.view < v → Kept own (enter v ∷ l) (done own s (enter v))
  entered v lt = record {
    first_view = let h = k.first_view in omega arith;
    views = each_cons {P = λ x. view_of x ≤ v} (omega arith) (λ x a. let h = k.views x a in omega arith);
    fits = λ n. more_fits (dropped_fits (k.fits n) (omega arith));
    held = λ n h. other_held (enter v) (omega arith) (dropped_held (s.page n) (k.fits n) (k.held n h) k.views lt);
  }

  collected : (f : ℕ) → s.floor < f → Kept own (collect f ∷ l) (done own s (collect f))
  collected f lt = record {
    first_view = k.first_view;
    views = all_views (collect f) (omega arith);
    fits = λ n. cond_both (ltb f n) (s.page n) blank (λ (x : Page). Fits own s.view n (collect f ∷ l) x) (λ _. more_fits (k.fits n)) (λ _. blank_fits);
    held = λ n h. subst (λ (x : Page). Held own s.view n (collect f ∷ l) x) (sym (cond-true (ltb f n) (s.page n) blank (lt-ltb f n h))) (other_held (collect f) (omega arith) (k.held n (omega arith)));
  }

  -- a deed that writes one page
  wrote : (d : Deed) (p : Page) → view_of d ≤ s.view → Fits own s.view (slot_of d) (d ∷ l) p → Held own s.view (slot_of d) (d ∷ l) p → Kept own (d ∷ l) (write s (slot_of d) p)
  wrote d p h f g = record {
    first_view = k.first_view;
    views = all_views d h;
    fits = λ n. cond_both (eqb n (slot_of d)) p (s.page n) (λ (x : Page). Fits own s.view n (d ∷ l) x) (λ t. rw (eqb-true n (slot_of d) t) f) (λ _. more_fits (k.fits n));
    held = λ n lt. cond_both (eqb n (slot_of d)) p (s.page n) (λ (x : Page). Held own s.view n (d ∷ l) x) (λ t. rw (eqb-true n (slot_of d) t) g) (λ t. other_held d (eqb-false n (slot_of d) t) (k.held n lt));
  }

  -- and is of the present view
  voted : (d : Deed) (p : Page) → view_of d ≡ s.view → s.floor < slot_of d → (Fits own (view_of d) (slot_of d) l (s.page (slot_of d)) → Fits own (view_of d) (slot_of d) (d ∷ l) p) → (Held own (view_of d) (slot_of d) l (s.page (slot_of d)) → Held own (view_of d) (slot_of d) (d ∷ l) p) → Kept own (d ∷ l) (write s (slot_of d) p)
  voted d p e lt f g =
      wrote d p (omega arith)
      (subst (λ v. Fits own v (slot_of d) (d ∷ l) p) e (f (subst (λ v. Fits own v (slot_of d) l (s.page (slot_of d))) (sym e) (k.fits (slot_of d)))))
      (subst (λ v. Held own v (slot_of d) (d ∷ l) p) e (g (subst (λ v. Held own v (slot_of d) l (s.page (slot_of d))) (sym e) (k.held (slot_of d) lt))))

module _ (own : ℕ) where
  pub step : {l : List Deed} {s : Sheet} (d : Deed) → Kept own l s → may own s d → Kept own (d ∷ l) (done own s d)
  step idle k m = still k idle refl (omega arith)
  step (enter v) k m = entered k v m
  step (collect n) k m = collected k n m
  step {s = s} (order v n c) k m = voted k (order v n c) _ m.0 m.1 (λ f. ordered_fits c (s.page n) f m.2) (λ h. ordered_held c (s.page n) h m.2)
  step {s = s} (prepare v n j c) k m = voted k (prepare v n j c) _ m.0 m.1 (λ f. prepare_fits j c (s.page n) f m.2 m.4) (λ h. prepare_held j c (s.page n) h m.2)
  step {s = s} (commit v n j c) k m = voted k (commit v n j c) _ m.0 m.1 (λ f. commit_fits j c (s.page n) f m.2 m.3 m.4) (λ h. commit_held j c (s.page n) h m.2)
  step {s = s} (certificate n v c) k m = wrote k (certificate n v c) _ (omega arith) (certificate_fits v c (s.page n) (k.fits n)) (certificate_held v c (s.page n) (k.held n m.0))
  step (report v n e c) k m = let h = m.0 in still k (report v n e c) refl (omega arith)

  pub kept : {l : List Deed} {s : Sheet} → Did own l s → Kept own l s
  kept begin = began own
  kept (go d r m) = step d (kept r) m

  -- an order is accepted only where the page has none
  fresh : {l : List Deed} {s : Sheet} {X : Type 0} (v n c c' : ℕ) → Kept own l s → may own s (order v n c) → Among (order v n c') l → X
  fresh {l} v n c c' k m a = none_some m.2 ((k.held n m.1).ordered c' (subst (λ w. Among (order w n c') l) m.0 a))

  same_command : {v n c c' : ℕ} → order v n c ≡ order v n c' → c ≡ c'
  same_command e = cc

  one_order : {l : List Deed} {s : Sheet} → Did own l s → (v n c c' : ℕ) → Among (order v n c) l → Among (order v n c') l → c ≡ c'
  one_order begin v n c c' a b = elim a [ ]
  one_order (go d r m) v n c c' (here e) (here f) = same_command (e ∙ sym f)
  one_order (go d r m) v n c c' (here e) (there b) = fresh v n c c' (kept r) (rw (← e) at m) b
  one_order (go d r m) v n c c' (there a) (here f) = fresh v n c' c (kept r) (rw (← f) at m) a
  one_order (go d r m) v n c c' (there a) (there b) = one_order r v n c c' a b

  viewed : {l : List Deed} {s : Sheet} → Did own l s → (v n c : ℕ) → Among (order v n c) l → 1 ≤ v
  viewed begin v n c a = elim a [ ]
  viewed (go {s = s} d r m) v n c (here e) = let k = (kept r).first_view in let w : may own s (order v n c) = rw (← e) at m in omega (arith, w.0)
  viewed (go d r m) v n c (there a) = viewed r v n c a

  -- a deed that has to be done in a view is done in the present one
  timed : (s : Sheet) (d : Deed) → may own s d → 0 < view_of d → view_of d ≡ s.view
  timed s idle m h = absurd (omega arith)
  timed s (enter v) m h = absurd (omega arith)
  timed s (collect n) m h = absurd (omega arith)
  timed s (order v n c) m h = m.0
  timed s (prepare v n j c) m h = m.0
  timed s (commit v n j c) m h = m.0
  timed s (certificate n v c) m h = absurd (omega arith)
  timed s (report v n e c) m h = m.0

  -- When a report was made, all that is ever done in earlier views was done.
  record Made (l : List Deed) (v n e c : ℕ) : Type 0 where
    past : List Deed
    sheet : Sheet
    did : Did own past sheet
    might : may own sheet (report v n e c)
    earlier : (d : Deed) → 0 < view_of d → view_of d < v → Among d l → Among d past
    still_there : (d : Deed) → Among d past → Among d l

  made : {l : List Deed} {s : Sheet} → Did own l s → (v n e c : ℕ) → Among (report v n e c) l → Made l v n e c
  made begin v n e c a = elim a [ ]
  made (go {l = l} {s = s} d r m) v n e c (here i) = record {
    past = l;
    sheet = s;
    did = r;
    might = rw (← i) at m;
    earlier = λ x h lt a. elim (newest a) [ inl j ↦ let k : view_of x ≡ v = ap view_of (j ∙ sym i) in absurd (omega arith) | inr b ↦ b ];
    still_there = λ x a. there a;
  }
  made (go {s = s} d r m) v n e c (there a) =
      let b = made r v n e c a in
      let w = (kept r).views (report v n e c) a in
      record {
        past = b.past;
        sheet = b.sheet;
        did = b.did;
        might = b.might;
        earlier = λ x h lt i. elim (newest i) [
          | inl j ↦ let k : view_of x ≡ view_of d = ap view_of j in let t = timed s d m (omega arith) in absurd (omega arith)
          | inr q ↦ b.earlier x h lt q
        ];
        still_there = λ x i. there (b.still_there x i);
      }

  noted : (o : Option Point) (e c : ℕ) → Noted o e c → (q : Point) → o ≡ Some q → e ≡ q.view
  noted None e c k q h = none_some refl h
  noted (Some p) e c k q h = let i : p ≡ q = cc in k.0 ∙ ap (λ (x : Point). x.view) i

  noted_some : (o : Option Point) (e c : ℕ) → Noted o e c → 0 < e → o ≡ Some (at e c)
  noted_some None e c k h = absurd (omega arith)
  noted_some (Some p) e c k h = rw (k.0, k.1)

  all_reported : {l : List Deed} {s : Sheet} → Did own l s → (u v n c e c' : ℕ) → Prepared own u n c l → Among (report v n e c') l → u < v → u ≤ e
  all_reported r u v n c e c' p a lt =
      let b = made r v n e c' a in
      let k = kept b.did in
      let m = b.might in
      let one = viewed r u n c p.ordered in
      let w : Prepared own u n c b.past = moved_prepared (b.earlier _ one lt) (λ j. b.earlier _ one lt) p in
      let t = prepared_held (b.sheet.page n) (k.fits n) (k.held n m.1) u c (omega arith) w in
      let q = noted (b.sheet.page n).prepared e c' m.2 t.0 t.1 in
      omega arith

  was_prepared : {l : List Deed} {s : Sheet} → Did own l s → (v n e c : ℕ) → Among (report v n e c) l → 0 < e → Prepared own e n c l
  was_prepared r v n e c a h =
      let b = made r v n e c a in
      let p = (((kept b.did).fits n).base.prepared (at e c) (noted_some (b.sheet.page n).prepared e c b.might.2 h)).0 in
      moved_prepared (b.still_there _) (λ j. b.still_there _) p

  pub known : {l : List Deed} {s : Sheet} → Kept own l s → (v n c : ℕ) → Decided own v n c l → s.floor < n → (q : Point) × ((s.page n).decided ≡ Some q)
  known k v n c (inl a) lt = (k.held n lt).certificate v c a
  known {s = s} k v n c (inr w) lt = settled_held (s.page n) (k.fits n) (k.held n lt) v c (k.views _ w.prepared.ordered) w

  pub good : {l : List Deed} {s : Sheet} → Did own l s → Good own l s
  good r = record {
    one_order = one_order r;
    viewed = viewed r;
    all_reported = all_reported r;
    was_prepared = was_prepared r;
    decided = λ n. ((kept r).fits n).decided;
    known = known (kept r);
  }
