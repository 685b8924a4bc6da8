-- Each accepted call is a deed on the pages.
use Rattle.std.proofs.Common.{◌≡◌, ℕ, ◌+◌, ◌%◌, ◌<◌, ◌≤◌, Bool, true, false, cond, not, ◌&&◌, eqb, ltb, List, ◌∷◌, map, length, Some, None, Option, sym, refl, ap, ◌∙◌, subst, inl, inr, arith, length-set, get_or-set_other, get_or-set_same, set-set}
use mathlib.Core.Path.{fun_ext}
use Rattle.std.proofs.lemmas.Bool.{cases_eq, cases_Bool, and_parts, eqb-true, eqb-false, cond-true, cond-false, eq-eqb, ne_eqb, ltb-true, lt-ltb, le-ltb, leb-true, not-true, not_from_false, or_cases}
use Rattle.agreement.specs.Lists.{Among}
use Rattle.packet.specs.Fields.{valid}
use Rattle.packet.specs.Laws.{Sound}
use Rattle.packet.specs.declared.kinds.Kind.TheVariants as kind
use Rattle.packet.specs.declared.statements.Statement.{Statement}
use Rattle.proof.specs.Roles.{primary, active, backups, every}
use Rattle.proof.proofs.Certified.{kept_rule}
use Rattle.ledger.specs.Sheets.{Point, at, Page, Sheet, Deed, write, mark, may, done}
use Rattle.ledger.specs.Sheets as sheets
use Rattle.ledger.proofs.Groups.{primary_active}
use Rattle.slots.specs.Checks.{is_active, like_order, take_order, take_prepare, take_commit, take_certificate, take_mark, lead_tests, led_tests, report_tests, run_tests}
use Rattle.slots.specs.Cores.{is_open, record_at, put, led, ordered, prepare_counted, is_prepared, commit_counted, certified, entered, with_wish, wished, with_mark, is_agreed, collected, mark_kept, with_count}
use Rattle.slots.specs.Records.{blank, has, is_there, certificate, order_of, with_vote, with_order, with_prepare, with_commit, with_decision, all_prepared, prepared_in, all_committed, settled, confirmed, seal_of}
use Rattle.slots.specs.declared.cores.Core.{Core}
use Rattle.slots.specs.declared.records.Certificate.{Certificate}
use Rattle.slots.specs.declared.records.Record.{Record}
use Rattle.slots.specs.declared.records.Votes.{Votes}
use Rattle.promise.specs.Statements.{told_command}
use Rattle.promise.specs.Steps.{Setting, Member, Confirms, Enters, Marks}
use Rattle.promise.proofs.Turns.{Reading, lead, an_order, a_prepare, a_commit, a_certificate, a_wish, a_mark, leave, report_on, show, run, Passed, Readable, Admitted, Does, Answers}
use Rattle.promise.proofs.Verdicts.{holding, active_if}
use Rattle.promise.proofs.Rings.{point_of, page_of, page_at, sheet_of, Sized, in_ring, page_is, put_sheet, put_sized, entered_sheet, entered_sized, collected_sheet, collected_sized}

-- slots were collected, or a view was entered, or neither
abbrev pub shift : Core → Core → Deed
shift core core' = cond (ltb core.floor.0 core'.floor.0) (sheets.collect core'.floor.0) (cond (ltb core.view.0 core'.view.0) (sheets.enter core'.view.0) sheets.idle)

abbrev pub call_deed : Core → Reading → Core → Deed
call_deed core (lead n c ss) core' = sheets.order core.view.0 n c
call_deed core (an_order s ss) core' = sheets.order s.view.0 s.slot.0 s.command
call_deed core (a_prepare s) core' = sheets.prepare s.view.0 s.slot.0 s.signer s.command
call_deed core (a_commit s) core' = sheets.commit s.view.0 s.slot.0 s.signer s.command
call_deed core (a_certificate s ss) core' = sheets.certificate s.slot.0 s.view.0 s.command
call_deed core (a_wish s) core' = shift core core'
call_deed core (a_mark s) core' = shift core core'
call_deed core leave core' = shift core core'
call_deed core (report_on n) core' = sheets.report core.view.0 n (record_at core n).prepared.view.0 (told_command (record_at core n).prepared)
call_deed core (show n) core' = sheets.idle
call_deed core run core' = shift core core'

abbrev pub deed : Core → Reading → Option (List Statement) → Core → Deed
deed core call (Some out) core' = call_deed core call core'
deed core call None core' = sheets.idle

pub record Refined (own : ℕ) (core : Core) (d : Deed) (core' : Core) : Type 0 where
  pub might : may own (sheet_of core) d
  pub sheet : sheet_of core' ≡ done own (sheet_of core) d
  pub sized : Sized core'

-- votes
has_set_at : (votes : Votes) (j t i : ℕ) → j < length votes.held → has (with_vote votes j t) i ≡ mark j (has votes) i
has_set_at votes j t i h = elim (cases_eq i j) [
  | inl e ↦ ap (λ (m : ℕ). has (with_vote votes j t) m) e ∙ get_or-set_same votes.held j true false h ∙ sym (cond-true (eqb i j) _ _ (eq-eqb i j e))
  | inr n ↦ get_or-set_other votes.held j i true false n ∙ sym (cond-false (eqb i j) _ _ (ne_eqb i j n))
]

pub has_set : (votes : Votes) (j t : ℕ) → j < length votes.held → has (with_vote votes j t) ≡ mark j (has votes)
has_set votes j t h = fun_ext (λ i. has_set_at votes j t i h)

prepare_page : (r : Record) (j t : ℕ) → j < length r.prepares.held → page_of (with_prepare r j t) ≡ sheets.with_prepare j (page_of r)
prepare_page r j t h = ap (λ (f : ℕ → Bool). record { order = order_of r; prepares = f; commits = has r.commits; prepared = point_of r.prepared; decided = point_of r.decided }) (has_set r.prepares j t h)

commit_page : (r : Record) (j t : ℕ) → j < length r.commits.held → page_of (with_commit r j t) ≡ sheets.with_commit j (page_of r)
commit_page r j t h = ap (λ (f : ℕ → Bool). record { order = order_of r; prepares = has r.prepares; commits = f; prepared = point_of r.prepared; decided = point_of r.decided }) (has_set r.commits j t h)

-- certificates: there is one of every view but 0
there_is : (v : ℕ) → 1 ≤ v → not (eqb v 0) ≡ true
there_is v l = not_from_false (eqb v 0) (ne_eqb v 0 (omega arith))

a_point : (v c : ℕ) (ts : List ℕ) → 1 ≤ v → point_of (certificate v c ts) ≡ Some (at v c)
a_point v c ts l = cond-true (is_there (certificate v c ts)) _ _ (there_is v l)

prepared_page : (v : ℕ) (r : Record) → 1 ≤ v → page_of (prepared_in v r) ≡ sheets.with_prepared (at v r.command) (page_of r)
prepared_page v r l = ap (λ (p : Option Point). record { order = order_of r; prepares = has r.prepares; commits = has r.commits; prepared = p; decided = point_of r.decided }) (a_point v r.command (r.seal ∷ map (seal_of r.prepares) (backups v)) l)

decision_page : (r : Record) (v c : ℕ) (ts : List ℕ) → 1 ≤ v → page_of (with_decision r (certificate v c ts)) ≡ sheets.with_decision (at v c) (page_of r)
decision_page r v c ts l = ap (λ (p : Option Point). record { order = order_of r; prepares = has r.prepares; commits = has r.commits; prepared = point_of r.prepared; decided = p }) (a_point v c ts l)

abbrev decided_as : Record → Option Point → Page
decided_as r p = record { order = order_of r; prepares = has r.prepares; commits = has r.commits; prepared = point_of r.prepared; decided = p }

settled_by : (v : ℕ) (r : Record) → 1 ≤ v → (b d : Bool) → is_there r.decided ≡ b → all_committed v r ≡ d → page_of (cond (not b && d) (with_decision r (certificate v r.command (map (seal_of r.commits) (active v)))) r) ≡ decided_as r (sheets.first (cond b (Some (at r.decided.view.0 r.decided.command)) None) (sheets.when d (at v r.command)))
settled_by v r l true d e f = ap (decided_as r) (cond-true (is_there r.decided) _ _ e)
settled_by v r l false true e f = ap (decided_as r) (a_point v r.command (map (seal_of r.commits) (active v)) l)
settled_by v r l false false e f = ap (decided_as r) (cond-false (is_there r.decided) _ _ e)

settled_page : (v : ℕ) (r : Record) → 1 ≤ v → page_of (settled v r) ≡ sheets.settled (at v r.command) (page_of r)
settled_page v r l = settled_by v r l (is_there r.decided) (all_committed v r) refl refl

settled_four : {X : Type 0} (f : Record → List X) (v : ℕ) (r : Record) → ((x : Certificate) → f (with_decision r x) ≡ f r) → length (f r) ≡ 4 → length (f (settled v r)) ≡ 4
settled_four f v r same h = elim (cases_Bool (not (is_there r.decided) && all_committed v r)) [
  | inl t ↦ ap (λ (x : Record). length (f x)) (cond-true (not (is_there r.decided) && all_committed v r) _ _ t) ∙ ap length (same _) ∙ h
  | inr t ↦ ap (λ (x : Record). length (f x)) (cond-false (not (is_there r.decided) && all_committed v r) _ _ t) ∙ h
]

-- orders
led_page : (own v c t : ℕ) (r : Record) → own ≡ primary v → page_of (with_order r c t) ≡ sheets.ordered own v c (page_of r)
led_page own v c t r h = ap (λ (f : ℕ → Bool). record { order = Some c; prepares = f; commits = has r.commits; prepared = point_of r.prepared; decided = point_of r.decided }) (sym (cond-true (eqb own (primary v)) (has r.prepares) (mark own (has r.prepares)) (eq-eqb own (primary v) h)))

ordered_page : (own v c s t : ℕ) (r : Record) → ¬ (own ≡ primary v) → own < length r.prepares.held → page_of (with_prepare (with_order r c s) own t) ≡ sheets.ordered own v c (page_of r)
ordered_page own v c s t r h len = ap (λ (f : ℕ → Bool). record { order = Some c; prepares = f; commits = has r.commits; prepared = point_of r.prepared; decided = point_of r.decided }) (has_set r.prepares own t len ∙ sym (cond-false (eqb own (primary v)) (has r.prepares) (mark own (has r.prepares)) (ne_eqb own (primary v) h)))

no_order : (r : Record) → not r.ordered ≡ true → order_of r ≡ None
no_order r h = cond-false r.ordered _ _ (not-true r.ordered h)

like_command : (r : Record) (c : ℕ) → r.ordered ≡ true → like_order r c ≡ true → r.command ≡ c
like_command r c o l = elim (or_cases (not r.ordered) (eqb r.command c) l) [
  | inl n ↦ let z : ◌≡◌ {A = ℕ} 0 1 = let e = not-true r.ordered n in let f = o in cc in absurd (omega arith)
  | inr e ↦ eqb-true r.command c e
]

an_order_held : (r : Record) (c : ℕ) → r.ordered ≡ true → like_order r c ≡ true → order_of r ≡ Some c
an_order_held r c o l = cond-true r.ordered _ _ o ∙ ap Some (like_command r c o l)

no_decision : (r : Record) → not (is_there r.decided) ≡ true → point_of r.decided ≡ None
no_decision r h = cond-false (is_there r.decided) _ _ (not-true (is_there r.decided) h)

-- a record that was put is there, and the last one stays
pub record_put : (core : Core) (n : ℕ) (r : Record) → Sized core → record_at (put core n r) n ≡ r
record_put core n r s = get_or-set_same core.table.records (n % 32) r blank (omega (arith, s.ring))

put_again : (core : Core) (n : ℕ) (a b : Record) → put (put core n a) n b ≡ put core n b
put_again core n a b = ap (λ (rs : List Record). record { view = core.view; count = core.count; floor = core.floor; wishes = core.wishes; table = record { records = rs }; marks = core.marks }) (set-set core.table.records (n % 32) a b)

shift_idle : (core core' : Core) → core'.floor.0 ≡ core.floor.0 → core'.view.0 ≡ core.view.0 → shift core core' ≡ sheets.idle
shift_idle core core' f v = cond-false (ltb core.floor.0 core'.floor.0) _ _ (le-ltb core.floor.0 core'.floor.0 (omega arith)) ∙ cond-false (ltb core.view.0 core'.view.0) _ _ (le-ltb core.view.0 core'.view.0 (omega arith))

shift_enter : (core core' : Core) → core'.floor.0 ≡ core.floor.0 → core.view.0 < core'.view.0 → shift core core' ≡ sheets.enter core'.view.0
shift_enter core core' f v = cond-false (ltb core.floor.0 core'.floor.0) _ _ (le-ltb core.floor.0 core'.floor.0 (omega arith)) ∙ cond-true (ltb core.view.0 core'.view.0) _ _ (lt-ltb core.view.0 core'.view.0 v)

shift_collect : (core core' : Core) → core.floor.0 < core'.floor.0 → shift core core' ≡ sheets.collect core'.floor.0
shift_collect core core' f = cond-true (ltb core.floor.0 core'.floor.0) _ _ (lt-ltb core.floor.0 core'.floor.0 f)

-- a statement of a view and a slot
pub known_signer : (s : Statement) → Sound s → s.signer < 4
known_signer s h = let l = leb-true s.signer 3 (and_parts _ _ h.kept).0 in omega arith

valid_view : (v : ℕ) → valid v ≡ true → 1 ≤ v
valid_view v h = leb-true 1 v (and_parts _ _ h).0

prepare_view : (s : Statement) → Sound s → s.kind ≡ kind.Prepare → 1 ≤ s.view.0
prepare_view s h e = valid_view s.view.0 (and_parts _ _ (kept_rule s kind.Prepare h.kept e)).0

commit_view : (s : Statement) → Sound s → s.kind ≡ kind.Commit → 1 ≤ s.view.0
commit_view s h e = valid_view s.view.0 (and_parts _ _ (kept_rule s kind.Commit h.kept e)).0

module _ (own : ℕ) where
  as_is : {core core' : Core} {d d' : Deed} → d' ≡ d → Refined own core d core' → Refined own core d' core'
  as_is {core} {core'} e r = subst (λ (x : Deed). Refined own core x core') (sym e) r

  pub quiet : (core core' : Core) → sheet_of core' ≡ sheet_of core → Sized core' → Refined own core sheets.idle core'
  quiet core core' e s = record { might = tt; sheet = e; sized = s }

  enters : (core : Core) (v : ℕ) → Sized core → core.view.0 < v → Refined own core (shift core (entered core v)) (entered core v)
  enters core v s lt = as_is (shift_enter core (entered core v) refl lt) (record { might = lt; sheet = entered_sheet core v; sized = entered_sized core v s })

  -- what does not touch the records
  resized : (core core' : Core) → core'.table.records ≡ core.table.records → Sized core → Sized core'
  resized core core' e s = record { ring = rw e s.ring; prepares = λ i. rw e (s.prepares i); commits = λ i. rw e (s.commits i) }

  marks : (core : Core) (n j m : ℕ) → Sized core → core.floor.0 < n → n ≤ core.floor.0 + 32 → Refined own core (shift core (mark_kept own core n j m)) (mark_kept own core n j m)
  marks core n j m s low high =
      let next : Core = with_mark core n j m in
      let sized : Sized next = record { ring = s.ring; prepares = s.prepares; commits = s.commits } in
      elim (cases_Bool (is_agreed own next n)) [
        | inl t ↦ subst (λ (x : Core). Refined own core (shift core x) x) (sym (cond-true (is_agreed own next n) _ _ t))
            (as_is (shift_collect core (collected next n) low) (record { might = low; sheet = collected_sheet next sized n low high; sized = collected_sized next n sized }))
        | inr t ↦ subst (λ (x : Core). Refined own core (shift core x) x) (sym (cond-false (is_agreed own next n) _ _ t)) (as_is (shift_idle core next refl refl) (quiet core next refl sized))
      ]

  module _ (core : Core) (sized : Sized core) (n : ℕ) (opened : is_open core n ≡ true) where
    four_prepares : length (record_at core n).prepares.held ≡ 4
    four_prepares = sized.prepares (n % 32)

    four_commits : length (record_at core n).commits.held ≡ 4
    four_commits = sized.commits (n % 32)

    -- a record that is put reads as a page that is written
    writes : (r : Record) (f : Page → Page) → page_of r ≡ f (page_of (record_at core n)) → sheet_of (put core n r) ≡ write (sheet_of core) n (f (page_at core n))
    writes r f h =
        let w = in_ring core n opened in
        put_sheet core sized n w.0 w.1 r ∙ ap (λ (p : Page). write (sheet_of core) n p) (h ∙ ap f (sym (page_is core n opened)))

    page_order : (o : Option ℕ) → order_of (record_at core n) ≡ o → (page_at core n).order ≡ o
    page_order o h = ap (λ (p : Page). p.order) (page_is core n opened) ∙ h

  module _ (known : own < 4) (core : Core) (sized : Sized core) where
    leads : (n c t : ℕ) → Passed (lead_tests own core n) → Passed (led_tests core n c) → Refined own core (sheets.order core.view.0 n c) (led core n c t)
    leads n c t p q =
        let h = holding (lead_tests own core n) p in
        let g = holding (led_tests core n c) q in
        let o = h.1.0 in
        let mine = eqb-true own (primary core.view.0) h.0 in
        let r = record_at core n in
        record {
          might = (refl, (in_ring core n o).0, page_order core sized n o None (no_order r g.1.1.0), subst (λ i. Among i (active core.view.0)) (sym mine) (primary_active core.view.0));
          sheet = writes core sized n o (with_order r c t) (sheets.ordered own core.view.0 c) (led_page own core.view.0 c t r mine);
          sized = put_sized core n (with_order r c t) sized (four_prepares core sized n o) (four_commits core sized n o);
        }

    orders : (s : Statement) (t : ℕ) → Passed (take_order own core s) → Refined own core (sheets.order s.view.0 s.slot.0 s.command) (ordered own core s.slot.0 s.command s.seal t)
    orders s t p =
        let h = holding (take_order own core s) p in
        let n = s.slot.0 in
        let c = s.command in
        let v = eqb-true s.view.0 core.view.0 h.0 in
        let other = eqb-false s.signer own (not-true _ h.1.0) in
        let mine = active_if core.view.0 own known h.1.1.0 in
        let first = eqb-true s.signer (primary core.view.0) h.1.1.1.0 in
        let o = h.1.1.1.1.0 in
        let r = record_at core n in
        let four = four_prepares core sized n o in
        record {
          might = (v, (in_ring core n o).0, page_order core sized n o None (no_order r h.1.1.1.1.1.1.1.0), subst (λ w. Among own (active w)) (sym v) mine);
          sheet = writes core sized n o (with_prepare (with_order r c s.seal) own t) (sheets.ordered own s.view.0 c) (ordered_page own s.view.0 c s.seal t r (λ q. other (first ∙ ap primary (sym v) ∙ sym q)) (omega arith));
          sized = put_sized core n (with_prepare (with_order r c s.seal) own t) sized (length-set r.prepares.held own true ∙ four) (four_commits core sized n o);
        }

    -- what a prepare or a commit at an ordered slot finds
    pub record Vote (s : Statement) : Type 0 where
      pub same : s.view.0 ≡ core.view.0
      pub other : ¬ (s.signer ≡ own)
      pub mine : Among own (active core.view.0)
      pub opened : is_open core s.slot.0 ≡ true
      pub command : (record_at core s.slot.0).command ≡ s.command
      pub ordered : order_of (record_at core s.slot.0) ≡ Some s.command

    a_vote : (s : Statement) → eqb s.view.0 core.view.0 ≡ true → not (eqb s.signer own) ≡ true → is_active core.view.0 own ≡ true → is_open core s.slot.0 ≡ true → (record_at core s.slot.0).ordered ≡ true → like_order (record_at core s.slot.0) s.command ≡ true → Vote s
    a_vote s v n a o r l = record {
      same = eqb-true s.view.0 core.view.0 v;
      other = eqb-false s.signer own (not-true _ n);
      mine = active_if core.view.0 own known a;
      opened = o;
      command = like_command (record_at core s.slot.0) s.command r l;
      ordered = an_order_held (record_at core s.slot.0) s.command r l;
    }

    pub prepare_vote : (s : Statement) → Passed (take_prepare own core s) → Vote s
    prepare_vote s p =
        let h = holding (take_prepare own core s) p in
        a_vote s h.0 h.1.0 h.1.1.0 h.1.1.1.1.0 h.1.1.1.1.1.0 h.1.1.1.1.1.1.0

    pub commit_vote : (s : Statement) → Passed (take_commit own core s) → Vote s
    commit_vote s p =
        let h = holding (take_commit own core s) p in
        a_vote s h.0 h.1.0 h.1.1.0 h.1.1.1.1.0 h.1.1.1.1.1.0 h.1.1.1.1.1.1.0

    -- the page's prepares are full as the record's are
    pub full_page : (s : Statement) → s.signer < 4 → Vote s → every (mark s.signer (page_at core s.slot.0).prepares) (backups s.view.0) ≡ is_prepared (prepare_counted core s.slot.0 s.signer s.seal) s.slot.0
    full_page s lt x =
        let n = s.slot.0 in
        let r = record_at core n in
        let four = four_prepares core sized n x.opened in
        let e = ap (λ (p : Page). p.prepares) (page_is core n x.opened) in
        ap (λ (f : ℕ → Bool). every f (backups s.view.0)) (ap (mark s.signer) e ∙ sym (has_set r.prepares s.signer s.seal (omega arith)))
        ∙ ap (λ (v : ℕ). all_prepared v (with_prepare r s.signer s.seal)) x.same
        ∙ ap (all_prepared core.view.0) (sym (record_put core n (with_prepare r s.signer s.seal) sized))

    module _ (s : Statement) (sound : Sound s) (x : Vote s) where
      might_vote : (s.view.0 ≡ core.view.0) × (core.floor.0 < s.slot.0) × ((page_at core s.slot.0).order ≡ Some s.command) × (¬ (s.signer ≡ own)) × Among own (active s.view.0)
      might_vote = (x.same, (in_ring core s.slot.0 x.opened).0, page_order core sized s.slot.0 x.opened (Some s.command) x.ordered, x.other, subst (λ w. Among own (active w)) (sym x.same) x.mine)

      -- a record is put that shows the page after the deed
      puts : (d : Deed) (r : Record) (f : Page → Page) → may own (sheet_of core) d → done own (sheet_of core) d ≡ write (sheet_of core) s.slot.0 (f (page_at core s.slot.0)) → page_of r ≡ f (page_of (record_at core s.slot.0)) → length r.prepares.held ≡ 4 → length r.commits.held ≡ 4 → Refined own core d (put core s.slot.0 r)
      puts d r f m e h p c = record {
        might = m;
        sheet = writes core sized s.slot.0 x.opened r f h ∙ sym e;
        sized = put_sized core s.slot.0 r sized p c;
      }

    confirms : (s : Statement) → Sound s → s.kind ≡ kind.Prepare → (b : Bool) → is_prepared (prepare_counted core s.slot.0 s.signer s.seal) s.slot.0 ≡ b → Vote s → (m : _) (out : List Statement) (core' : Core) → Confirms own m b (prepare_counted core s.slot.0 s.signer s.seal) s out core' → Refined own core (sheets.prepare s.view.0 s.slot.0 s.signer s.command) core'
    confirms s sound ek b full x m out core' act =
        let n = s.slot.0 in
        let r = record_at core n in
        let j = s.signer in
        let lt = known_signer s sound in
        let four-p = four_prepares core sized n x.opened in
        let four-c = four_commits core sized n x.opened in
        let e : Record = with_prepare r j s.seal in
        let len-p : length e.prepares.held ≡ 4 = length-set r.prepares.held j true ∙ four-p in
        let first : page_of e ≡ sheets.with_prepare j (page_of r) = prepare_page r j s.seal (omega arith) in
        let test : every (has e.prepares) (backups s.view.0) ≡ b = ap (λ (v : ℕ). all_prepared v e) x.same ∙ ap (all_prepared core.view.0) (sym (record_put core n e sized)) ∙ full in
        by b test len-p four-c first act
      where
        by : (b : Bool) → every (has (with_prepare (record_at core s.slot.0) s.signer s.seal).prepares) (backups s.view.0) ≡ b
            → length (with_prepare (record_at core s.slot.0) s.signer s.seal).prepares.held ≡ 4 → length (record_at core s.slot.0).commits.held ≡ 4
            → page_of (with_prepare (record_at core s.slot.0) s.signer s.seal) ≡ sheets.with_prepare s.signer (page_of (record_at core s.slot.0))
            → Confirms own m b (prepare_counted core s.slot.0 s.signer s.seal) s out core' → Refined own core (sheets.prepare s.view.0 s.slot.0 s.signer s.command) core'
        by false test len-p len-c first act =
            let q : Point = at s.view.0 s.command in
            let e : Record = with_prepare (record_at core s.slot.0) s.signer s.seal in
            subst (λ (y : Core). Refined own core (sheets.prepare s.view.0 s.slot.0 s.signer s.command) y) (sym act.1)
            (puts s sound x _ e (λ p. sheets.confirmed own q (sheets.with_prepare s.signer p)) (might_vote s sound x) refl (sym (cond-false (every (has e.prepares) (backups s.view.0)) _ _ test) ∙ ap (sheets.confirmed own q) first) len-p len-c)
        by true test len-p len-c first act =
            let n = s.slot.0 in
            let v = core.view.0 in
            let q : Point = at s.view.0 s.command in
            let e : Record = with_prepare (record_at core n) s.signer s.seal in
            let counted : Core = put core n e in
            let low : 1 ≤ v = let a = prepare_view s sound ek in let b = x.same in omega arith in
            let z : Record = with_commit (prepared_in v e) own act.0 in
            let same : at v e.command ≡ q = λ i. record { view = sym x.same i; command = x.command i } in
            let one : page_of (settled v z) ≡ sheets.settled q (sheets.with_commit own (sheets.with_prepared q (page_of e))) =
            settled_page v z low
            ∙ ap (sheets.settled (at v e.command)) (commit_page (prepared_in v e) own act.0 (omega arith) ∙ ap (sheets.with_commit own) (prepared_page v e low))
            ∙ ap (λ (w : Point). sheets.settled w (sheets.with_commit own (sheets.with_prepared w (page_of e)))) same in
            let at_last : core' ≡ put core n (settled v z) = act.3 ∙ ap (λ (r : Record). put counted n (confirmed own v act.0 r)) (record_put core n e sized) ∙ put_again core n e (settled v z) in
            let len : length (settled v z).prepares.held ≡ 4 = settled_four (λ (r : Record). r.prepares.held) v z (λ y. refl) len-p in
            let len' : length (settled v z).commits.held ≡ 4 = settled_four (λ (r : Record). r.commits.held) v z (λ y. refl) (length-set e.commits.held own true ∙ len-c) in
            subst (λ (y : Core). Refined own core (sheets.prepare s.view.0 s.slot.0 s.signer s.command) y) (sym at_last)
            (puts s sound x _ (settled v z) (λ p. sheets.confirmed own q (sheets.with_prepare s.signer p)) (might_vote s sound x) refl (one ∙ sym (cond-true (every (has e.prepares) (backups s.view.0)) _ _ test) ∙ ap (sheets.confirmed own q) first) len len')

    commits : (s : Statement) → Sound s → s.kind ≡ kind.Commit → Vote s → Refined own core (sheets.commit s.view.0 s.slot.0 s.signer s.command) (commit_counted core s.slot.0 s.signer s.seal)
    commits s sound ek x =
        let n = s.slot.0 in
        let v = core.view.0 in
        let r = record_at core n in
        let lt = known_signer s sound in
        let four-p = four_prepares core sized n x.opened in
        let four-c = four_commits core sized n x.opened in
        let low : 1 ≤ v = let a = commit_view s sound ek in let b = x.same in omega arith in
        let z : Record = with_commit r s.signer s.seal in
        let same : at v r.command ≡ at s.view.0 s.command = λ i. record { view = sym x.same i; command = x.command i } in
        puts s sound x (sheets.commit s.view.0 n s.signer s.command) (settled v z) (λ p. sheets.settled (at s.view.0 s.command) (sheets.with_commit s.signer p)) (might_vote s sound x) refl
        (settled_page v z low ∙ ap (λ (w : Point). sheets.settled w (page_of z)) same ∙ ap (sheets.settled (at s.view.0 s.command)) (commit_page r s.signer s.seal (omega arith)))
        (settled_four (λ (y : Record). y.prepares.held) v z (λ y. refl) four-p)
        (settled_four (λ (y : Record). y.commits.held) v z (λ y. refl) (length-set r.commits.held s.signer true ∙ four-c))

    decides : (s : Statement) (ts : List ℕ) → 1 ≤ s.view.0 → Passed (take_certificate core s) → Refined own core (sheets.certificate s.slot.0 s.view.0 s.command) (certified core s.slot.0 (certificate s.view.0 s.command ts))
    decides s ts low p =
        let h = holding (take_certificate core s) p in
        let n = s.slot.0 in
        let o = h.0 in
        let r = record_at core n in
        record {
          might = ((in_ring core n o).0, ap (λ (y : Page). y.decided) (page_is core n o) ∙ no_decision r h.1.1.0);
          sheet = writes core sized n o (with_decision r (certificate s.view.0 s.command ts)) (sheets.with_decision (at s.view.0 s.command)) (decision_page r s.view.0 s.command ts low);
          sized = put_sized core n (with_decision r (certificate s.view.0 s.command ts)) sized (four_prepares core sized n o) (four_commits core sized n o);
        }

    wishes : (s : Statement) (m : _) (b : Bool) (v : ℕ) (out : List Statement) (core' : Core) → ltb core.view.0 v ≡ b → Enters own m b (with_wish core s.signer s.view.0) v out core' → Refined own core (shift core core') core'
    wishes s m false v out core' lt act =
        let next = with_wish core s.signer s.view.0 in
        subst (λ (x : Core). Refined own core (shift core x) x) (sym act.1) (as_is (shift_idle core next refl refl) (quiet core next refl (record { ring = sized.ring; prepares = sized.prepares; commits = sized.commits })))
    wishes s m true v out core' lt act =
        let next : Core = with_wish core s.signer s.view.0 in
        let r = enters next v (record { ring = sized.ring; prepares = sized.prepares; commits = sized.commits }) (ltb-true core.view.0 v lt) in
        subst (λ (x : Core). Refined own core (shift core x) x) (sym act.3) (record { might = r.might; sheet = r.sheet; sized = r.sized })

    marked : (s : Statement) → Passed (take_mark own core s) → Refined own core (shift core (mark_kept own core s.slot.0 s.signer s.command)) (mark_kept own core s.slot.0 s.signer s.command)
    marked s p =
        let h = holding (take_mark own core s) p in
        let n = s.slot.0 in
        let w : (core.floor.0 < n) × (n ≤ core.floor.0 + 32) = elim (or_cases (eqb n (core.floor.0 + 16)) (eqb n (core.floor.0 + 32)) h.1.0) [
          | inl e ↦ let q = eqb-true n (core.floor.0 + 16) e in (omega arith, omega arith)
          | inr e ↦ let q = eqb-true n (core.floor.0 + 32) e in (omega arith, omega arith)
        ] in
        marks core n s.signer s.command sized w.0 w.1

    told : (x : Certificate) (b : Bool) → is_there x ≡ b → sheets.Noted (cond b (Some (at x.view.0 x.command)) None) x.view.0 (cond b x.command 0)
    told x true e = (refl, refl)
    told x false e = elim (cases_eq x.view.0 0) [
      | inl z ↦ z
      | inr n ↦ let t = not_from_false (eqb x.view.0 0) (ne_eqb x.view.0 0 n) in let z : ◌≡◌ {A = ℕ} 0 1 = cc in absurd (omega arith)
    ]

    reports : (n : ℕ) → Passed (report_tests core n) → Refined own core (sheets.report core.view.0 n (record_at core n).prepared.view.0 (told_command (record_at core n).prepared)) core
    reports n p =
        let h = holding (report_tests core n) p in
        let o = h.0 in
        let x = (record_at core n).prepared in
        record {
          might = (refl, (in_ring core n o).0, subst (λ (y : Page). sheets.Noted y.prepared x.view.0 (told_command x)) (sym (page_is core n o)) (told x (is_there x) refl));
          sheet = refl;
          sized = sized;
        }

    runs_on : (b : Bool) (m : _) (slot mark : ℕ) (out : List Statement) (core' : Core) → slot ≡ core.count + 1 → is_open core (core.count + 1) ≡ true → Marks own m b (with_count core slot) slot mark out core' → Refined own core (shift core core') core'
    runs_on false m slot mark out core' e o act = subst (λ (x : Core). Refined own core (shift core x) x) (sym act.1) (as_is (shift_idle core (with_count core slot) refl refl) (quiet core (with_count core slot) refl (record { ring = sized.ring; prepares = sized.prepares; commits = sized.commits })))
    runs_on true m slot mark out core' e o act =
        let w = in_ring core (core.count + 1) o in
        let w₀ = w.0 in
        let w₁ = w.1 in
        let r = marks (with_count core slot) slot own mark (record { ring = sized.ring; prepares = sized.prepares; commits = sized.commits }) (omega arith) (omega arith) in
        subst (λ (x : Core). Refined own core (shift core x) x) (sym act.3) (record { might = r.might; sheet = r.sheet; sized = r.sized })

  module _ {State : Type 0} (k : Setting State) (m m' : Member State) (known : own < 4) (sized : Sized m.core) where
    onto : (d : Deed) (core' : Core) → m'.core ≡ core' → Refined own m.core d core' → Refined own m.core d m'.core
    onto d core' e r = subst (λ (x : Core). Refined own m.core d x) (sym e) r

    shifted : (core' : Core) → m'.core ≡ core' → Refined own m.core (shift m.core core') core' → Refined own m.core (shift m.core m'.core) m'.core
    shifted core' e r = subst (λ (x : Core). Refined own m.core (shift m.core x) x) (sym e) r

    acts : (call : Reading) (out : List Statement) → Readable call → Admitted own k.genuine m.core call → Does own k m call out m' → Refined own m.core (call_deed m.core call m'.core) m'.core
    acts (lead n c ss) out w a d = onto _ _ d.0.1.after (leads known m.core sized n c d.0.1.seal a.0 a.3)
    acts (an_order s ss) out w a d = onto _ _ d.0.3 (orders known m.core sized s d.0.0 a.2)
    acts (a_prepare s) out w a d = confirms known m.core sized s w.1.sound.0 w.0 (is_prepared (prepare_counted m.core s.slot.0 s.signer s.seal) s.slot.0) refl (prepare_vote known m.core sized s a.1) k.genuine out m'.core d.0
    acts (a_commit s) out w a d = onto _ _ d.0.1 (commits known m.core sized s w.1.sound.0 w.0 (commit_vote known m.core sized s a.1))
    acts (a_certificate s ss) out w a d = onto _ _ d.0.1 (decides known m.core sized s _ (commit_view s w.1.sound.0 w.0) a.2)
    acts (a_wish s) out w a d = wishes known m.core sized s k.genuine (ltb m.core.view.0 (wished own (with_wish m.core s.signer s.view.0))) (wished own (with_wish m.core s.signer s.view.0)) out m'.core refl d.0
    acts (a_mark s) out w a d = shifted _ d.0.1 (marked known m.core sized s a.1)
    acts leave out w a d = shifted _ d.0.3 (enters m.core (m.core.view.0 + 1) sized (omega arith))
    acts (report_on n) out w a d = onto _ m.core (ap (λ (x : Member State). x.core) d.1) (reports known m.core sized n a)
    acts (show n) out w a d = let e = ap (λ (x : Member State). x.core) d.1 in quiet m.core m'.core (ap sheet_of e) (rw e sized)
    acts run out w a d =
        let h = holding (run_tests m.core) a in
        runs_on known m.core sized (eqb (d.slot % 16) 0) k.genuine d.slot (k.marked m'.state) d.rest m'.core d.next h.0 d.marks

pub refines : {State : Type 0} (own : ℕ) (k : Setting State) (m m' : Member State) → own < 4 → Sized m.core → (call : Reading) (a : Option (List Statement)) → Readable call → Answers own k m call a m' → Refined own m.core (deed m.core call a m'.core) m'.core
refines own k m m' known sized call (Some out) w x = acts own k m m' known sized call out w x.0 x.1
refines own k m m' known sized call None w x = let e = ap (λ (y : Member _). y.core) x.1 in quiet own m.core m'.core (ap sheet_of e) (rw e sized)
