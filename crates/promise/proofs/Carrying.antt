-- What a replica carries out is read from the list, and so are its answers.
use Rattle.std.proofs.Common.{◌≡◌, ℕ, suc, ◌+◌, ◌-◌, ◌%◌, Bool, true, false, eqb, ltb, ◌⊎◌, List, ◌∷◌, Some, None, Option, sym, refl, ap, ◌∙◌, subst, inl, inr, arith}
use Rattle.std.proofs.lemmas.Bool.{cases_eq, cases_Bool, and_parts, and_from, cond-true, cond-false, eq-eqb, ne_eqb}
use Rattle.agreement.specs.Lists.Among.{there}
use Rattle.packet.specs.declared.statements.Statement.{Statement}
use Rattle.ledger.specs.Sheets.{Point, at, Page}
use Rattle.ledger.proofs.Along.{good}
use Rattle.ledger.proofs.Pages.{none_some}
use Rattle.slots.specs.Checks.{run_tests}
use Rattle.slots.specs.Cores.{is_open, is_decided, record_at, with_wish, wished, with_mark, is_agreed, collected, mark_kept, with_count, prepare_counted, is_prepared}
use Rattle.slots.specs.Records.{is_there}
use Rattle.slots.specs.declared.cores.Core.{Core}
use Rattle.slots.specs.declared.records.Certificate.{Certificate}
use Rattle.promise.specs.Statements.{answer}
use Rattle.promise.specs.Steps.{Setting, Member, Confirms, Enters, Marks, result_of, state_of}
use Rattle.promise.specs.Histories.{Correct}
use Rattle.promise.specs.Lists.{asked, command_of, state_after, answer_at}
use Rattle.promise.proofs.Turns.{Reading, lead, an_order, a_prepare, a_commit, a_certificate, a_wish, a_mark, leave, report_on, show, run, ran, runs, Answers, Turn, Written, Decided, Course, now, Unforged}
use Rattle.promise.proofs.Turns.Course.{none, more}
use Rattle.promise.proofs.Verdicts.{holding}
use Rattle.promise.proofs.Rings.{point_of, page_at, in_ring, page_is}
use Rattle.promise.proofs.Logs.{all_logged, now_own, now_other}
use Rattle.promise.proofs.Backs.{some_same, Right, said_backed}
use Rattle.promise.proofs.Decisions.{listed, Within, decided_within, to_log, from_log, list_has}

-- what a call does to the count and to the service's state: nothing, or one slot more
pub record Idle {State : Type 0} (m m' : Member State) (ran : ℕ) : Type 0 where
  pub count : m'.core.count ≡ m.core.count
  pub state : m'.state ≡ m.state
  pub not_ran : ran ≡ 0

pub record Ran {State : Type 0} (k : Setting State) (m m' : Member State) (ran : ℕ) : Type 0 where
  pub count : m'.core.count ≡ m.core.count + 1
  pub opened : is_open m.core (m.core.count + 1) ≡ true
  pub decided : is_there (record_at m.core (m.core.count + 1)).decided ≡ true
  pub state : m'.state ≡ state_of k m.state (record_at m.core (m.core.count + 1)).decided.command
  pub one : ran ≡ 1

module _ {State : Type 0} (own : ℕ) (k : Setting State) (m m' : Member State) where
  kept_count : (core : Core) (n j x : ℕ) → (mark_kept own core n j x).count ≡ core.count
  kept_count core n j x =
      let next : Core = with_mark core n j x in
      elim (cases_Bool (is_agreed own next n)) [
        | inl t ↦ ap (λ (c : Core). c.count) (cond-true (is_agreed own next n) (collected next n) next t)
        | inr t ↦ ap (λ (c : Core). c.count) (cond-false (is_agreed own next n) (collected next n) next t)
      ]

  confirm_count : (b : Bool) (core : Core) (s : Statement) (out : List Statement) → Confirms own k.genuine b core s out m'.core → m'.core.count ≡ core.count
  confirm_count false core s out act = ap (λ (c : Core). c.count) act.1
  confirm_count true core s out act = ap (λ (c : Core). c.count) act.3

  enter_count : (b : Bool) (core : Core) (v : ℕ) (out : List Statement) → Enters own k.genuine b core v out m'.core → m'.core.count ≡ core.count
  enter_count false core v out act = ap (λ (c : Core). c.count) act.1
  enter_count true core v out act = ap (λ (c : Core). c.count) act.3

  mark_count : (b : Bool) (core : Core) (n x : ℕ) (rest : List Statement) → Marks own k.genuine b core n x rest m'.core → m'.core.count ≡ core.count
  mark_count false core n x rest act = ap (λ (c : Core). c.count) act.1
  mark_count true core n x rest act = ap (λ (c : Core). c.count) act.3 ∙ kept_count core n own x

  refused_run : (call : Reading) → ran call None ≡ 0
  refused_run (lead n c ss) = refl
  refused_run (an_order s ss) = refl
  refused_run (a_prepare s) = refl
  refused_run (a_commit s) = refl
  refused_run (a_certificate s ss) = refl
  refused_run (a_wish s) = refl
  refused_run (a_mark s) = refl
  refused_run leave = refl
  refused_run (report_on n) = refl
  refused_run (show n) = refl
  refused_run run = refl

  pub moved : (call : Reading) (a : Option (List Statement)) → Answers own k m call a m' → Idle m m' (ran call a) ⊎ Ran k m m' (ran call a)
  moved call None st = inl (record { count = ap (λ (x : Member State). x.core.count) st.1; state = ap (λ (x : Member State). x.state) st.1; not_ran = refused_run call })
  moved (lead n c ss) (Some out) st = inl (record { count = ap (λ (c : Core). c.count) st.1.0.1.after; state = st.1.1; not_ran = refl })
  moved (an_order s ss) (Some out) st = inl (record { count = ap (λ (c : Core). c.count) st.1.0.3; state = st.1.1; not_ran = refl })
  moved (a_prepare s) (Some out) st = inl (record {
    count =
        let counted = prepare_counted m.core s.slot.0 s.signer s.seal in
        confirm_count (is_prepared counted s.slot.0) counted s out st.1.0;
    state = st.1.1;
    not_ran = refl;
  })
  moved (a_commit s) (Some out) st = inl (record { count = ap (λ (c : Core). c.count) st.1.0.1; state = st.1.1; not_ran = refl })
  moved (a_certificate s ss) (Some out) st = inl (record { count = ap (λ (c : Core). c.count) st.1.0.1; state = st.1.1; not_ran = refl })
  moved (a_wish s) (Some out) st = inl (record {
    count =
        let next = with_wish m.core s.signer s.view.0 in
        enter_count (ltb m.core.view.0 (wished own next)) next (wished own next) out st.1.0;
    state = st.1.1;
    not_ran = refl;
  })
  moved (a_mark s) (Some out) st = inl (record { count = ap (λ (c : Core). c.count) st.1.0.1 ∙ kept_count m.core s.slot.0 s.signer s.command; state = st.1.1; not_ran = refl })
  moved leave (Some out) st = inl (record { count = ap (λ (c : Core). c.count) st.1.0.3; state = st.1.1; not_ran = refl })
  moved (report_on n) (Some out) st = inl (record { count = ap (λ (x : Member State). x.core.count) st.1.1; state = ap (λ (x : Member State). x.state) st.1.1; not_ran = refl })
  moved (show n) (Some out) st = inl (record { count = ap (λ (x : Member State). x.core.count) st.1.1; state = ap (λ (x : Member State). x.state) st.1.1; not_ran = refl })
  moved run (Some out) st =
      let t = holding (run_tests m.core) st.0 in
      let a = st.1 in
      let n = m.core.count + 1 in
      let c : a.command ≡ (record_at m.core n).decided.command = a.decided ∙ ap (λ (x : ℕ). (record_at m.core x).decided.command) a.next in
      inr (record {
        count = mark_count (eqb (a.slot % 16) 0) (with_count m.core a.slot) a.slot (k.marked m'.state) a.rest a.marks ∙ a.next;
        opened = t.0;
        decided = t.1.0;
        state = a.state ∙ ap (λ (x : ℕ). state_of k m.state x) c;
        one = refl;
      })

-- the answer to a question, and what it says of the record
asked_told : (core : Core) (n : ℕ) → is_open core n ≡ true → is_there (record_at core n).decided ≡ true → asked core n ≡ Some (record_at core n).decided.command
asked_told core n o t = ap command_of (cond-true (is_decided core n) (Some (record_at core n).decided) None (and_from _ _ o t))

record Told (core : Core) (n c : ℕ) : Type 0 where
  opened : is_open core n ≡ true
  there : is_there (record_at core n).decided ≡ true
  command : (record_at core n).decided.command ≡ c

told_of : (core : Core) (n c : ℕ) → asked core n ≡ Some c → Told core n c
told_of core n c e = elim (cases_Bool (is_decided core n)) [
  | inl t ↦
      let p = and_parts _ _ t in
      record { opened = p.0; there = p.1; command = some_same (sym (ap command_of (cond-true (is_decided core n) (Some (record_at core n).decided) None t)) ∙ e) }
  | inr t ↦ none_some (ap command_of (cond-false (is_decided core n) (Some (record_at core n).decided) None t)) e
]

-- the page of a decided slot
page_told : (core : Core) (n : ℕ) → is_open core n ≡ true → is_there (record_at core n).decided ≡ true → (page_at core n).decided ≡ Some (at (record_at core n).decided.view.0 (record_at core n).decided.command)
page_told core n o t = ap (λ (x : Page). x.decided) (page_is core n o) ∙ cond-true (is_there (record_at core n).decided) _ _ t

-- a page with a decision is of a record with one
there_if : (x : Certificate) (q : Point) → point_of x ≡ Some q → is_there x ≡ true
there_if x q e = elim (cases_Bool (is_there x)) [ inl t ↦ t | inr t ↦ none_some (cond-false (is_there x) _ _ t) e ]

module _ {State : Type 0} (k : Setting State) (H : List (Turn State)) (course : Course k H) (unf : Unforged k H) where
  pub has : {i n c : ℕ} → Decided i n c H → listed H n ≡ c
  has {i} {n} {c} d = let l = to_log d in list_has k H course unf i l.0 n c l.1

  pub tells : (i n c : ℕ) → asked (now k i H).core n ≡ Some c → Decided i n c H
  tells i n c e =
      let core = (now k i H).core in
      let o = told_of core n c e in
      let x = (record_at core n).decided in
      let d = from_log k H course unf i x.view.0 n x.command ((good i (all_logged k course i).did).decided n (at x.view.0 x.command) (page_told core n o.opened o.there)) in
      subst (λ (y : ℕ). Decided i n y H) o.command d

  pub knows : (i n c : ℕ) → is_open (now k i H).core n ≡ true → Decided i n c H → asked (now k i H).core n ≡ Some c
  knows i n c o d =
      let core = (now k i H).core in
      let w = in_ring core n o in
      let l = to_log d in
      let q = (good i (all_logged k course i).did).known l.0 n c l.1 w.0 in
      let t = there_if (record_at core n).decided q.0 (sym (ap (λ (x : Page). x.decided) (page_is core n o)) ∙ q.1) in
      let a = asked_told core n o t in
      a ∙ ap Some (sym (has (tells i n (record_at core n).decided.command a)) ∙ has d)

  -- what a replica carries out is the next of the list
  next_is : {h : List (Turn State)} → Course k h → Within h H → (i : ℕ) → is_open (now k i h).core ((now k i h).core.count + 1) ≡ true → is_there (record_at (now k i h).core ((now k i h).core.count + 1)).decided ≡ true → listed H ((now k i h).core.count + 1) ≡ (record_at (now k i h).core ((now k i h).core.count + 1)).decided.command
  next_is {h} r sub i o t =
      let core = (now k i h).core in
      let n = core.count + 1 in
      let x = (record_at core n).decided in
      list_has k H course unf i x.view.0 n x.command (decided_within sub ((good i (all_logged k r i).did).decided n (at x.view.0 x.command) (page_told core n o t)))

  answered_on : (h : List (Turn State)) (i : ℕ) (e : Turn State) → e.who ≡ i → e.before ≡ now k e.who h → Answers e.who k e.before e.call e.answer e.after → Answers i k (now k i h) e.call e.answer e.after
  answered_on h i e q b st = subst (λ (m : Member State). Answers i k m e.call e.answer e.after) (b ∙ ap (λ (j : ℕ). now k j h) q) (subst (λ (j : ℕ). Answers j k e.before e.call e.answer e.after) q st)

  runs_own : (i : ℕ) (e : Turn State) (h : List (Turn State)) → e.who ≡ i → runs i (e ∷ h) ≡ ran e.call e.answer + runs i h
  runs_own i e h q = ap (λ (x : ℕ). x + runs i h) (cond-true (eqb e.who i) _ _ (eq-eqb e.who i q))

  runs_other : (i : ℕ) (e : Turn State) (h : List (Turn State)) → ¬ (e.who ≡ i) → runs i (e ∷ h) ≡ runs i h
  runs_other i e h q = ap (λ (x : ℕ). x + runs i h) (cond-false (eqb e.who i) _ _ (ne_eqb e.who i q)) ∙ omega arith

  pub record Carried (i : ℕ) (h : List (Turn State)) (m : Member State) : Type 0 where
    pub count : m.core.count ≡ runs i h
    pub state : m.state ≡ state_after k (listed H) m.core.count

  carry : (i : ℕ) (m m' : Member State) (r : ℕ) (h h' : List (Turn State)) → runs i h' ≡ r + runs i h → (is_open m.core (m.core.count + 1) ≡ true → is_there (record_at m.core (m.core.count + 1)).decided ≡ true → listed H (m.core.count + 1) ≡ (record_at m.core (m.core.count + 1)).decided.command) → Carried i h m → Idle m m' r ⊎ Ran k m m' r → Carried i h' m'
  carry i m m' r h h' e d c (inl x) = record { count = omega (arith, x.count, x.not_ran, c.count); state = x.state ∙ c.state ∙ ap (λ (n : ℕ). state_after k (listed H) n) (sym x.count) }
  carry i m m' r h h' e d c (inr x) =
      let n = d x.opened x.decided in
      let one : m.core.count + 1 ≡ suc m.core.count = omega arith in
      record {
        count = omega (arith, x.count, x.one, c.count);
        state =
            x.state
            ∙ ap (λ (y : State). state_of k y (record_at m.core (m.core.count + 1)).decided.command) c.state
            ∙ ap (λ (y : ℕ). state_of k (state_after k (listed H) m.core.count) y) (sym n ∙ ap (listed H) one)
            ∙ ap (λ (y : ℕ). state_after k (listed H) y) (sym (x.count ∙ one));
      }

  pub carried : {h : List (Turn State)} → Course k h → Within h H → (i : ℕ) → Carried i h (now k i h)
  carried none sub i = record { count = refl; state = refl }
  carried (more {h} e r ce b w st) sub i =
      let before = carried r (λ x a. sub x (there a)) i in
      elim (cases_eq e.who i) [
        | inl q ↦ subst (λ (m : Member State). Carried i (e ∷ h) m) (sym (now_own k i e h q)) (carry i (now k i h) e.after (ran e.call e.answer) h (e ∷ h) (runs_own i e h q) (λ o t. next_is r (λ x a. sub x (there a)) i o t) before (moved i k (now k i h) e.after e.call e.answer (answered_on h i e q b st)))
        | inr q ↦ subst (λ (m : Member State). Carried i (e ∷ h) m) (sym (now_other k i e h q)) (record { count = before.count ∙ sym (runs_other i e h q); state = before.state })
      ]

  -- an answer is right
  abbrev Fair : (n r : ℕ) → Type 0
  Fair n r = r ≡ answer_at k (listed H) n

  fair : (h : List (Turn State)) → Course k h → Within h H → (i : ℕ) → Correct k i → Right Fair k h i
  fair h r sub i c out m' ok act =
      let core = (now k i h).core in
      let n = core.count + 1 in
      let t = holding (run_tests core) ok in
      let is = next_is r sub i t.0 t.1.0 in
      let before : n - 1 ≡ core.count = omega arith in
      let s : (now k i h).state ≡ state_after k (listed H) (n - 1) = (carried r sub i).state ∙ ap (λ (x : ℕ). state_after k (listed H) x) (sym before) in
      ap (λ (x : State). result_of k x (record_at core n).decided.command) s ∙ ap (λ (x : ℕ). result_of k (state_after k (listed H) (n - 1)) x) (sym is)

  pub answers : (i n r t : ℕ) → Correct k i → Written i (answer i n r t) H → r ≡ answer_at k (listed H) n
  answers i n r t c w = (said_backed Fair k H fair course (λ x a. a) unf i c (answer i n r t) w).by
