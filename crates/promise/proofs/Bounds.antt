-- No replica enters a view that there is not.
use Rattle.std.proofs.Common.{◌≡◌, ℕ, zero, suc, ◌+◌, ◌≤◌, ◌%◌, Bool, true, false, eqb, ltb, List, get_or, set, length, Some, None, Option, sym, refl, subst, inl, inr, arith, length-set, get_or-set_other, get_or-set_same}
use Rattle.std.proofs.lemmas.Bool.{cases_eq, cases_Bool, cases_lt, and_parts, cond-true, cond-false, leb-true, ltb-true}
use Rattle.std.proofs.lemmas.List.{get_or_past}
use Rattle.packet.specs.declared.fields.View.{View}
use Rattle.packet.specs.declared.kinds.Kind.TheVariants as kind
use Rattle.packet.specs.declared.statements.Statement.{Statement}
use Rattle.proof.proofs.Certified.{kept_rule}
use Rattle.slots.specs.Checks.{leave_tests}
use Rattle.slots.specs.Cores.{wish_of, with_wish, others_wish, wished, second_highest, with_mark, is_agreed, collected, mark_kept, with_count, prepare_counted, is_prepared, first_core}
use Rattle.slots.specs.declared.cores.Core.{Core}
use Rattle.promise.specs.Steps.{Setting, Member, Confirms, Enters, Marks}
use Rattle.promise.proofs.Turns.{Reading, lead, an_order, a_prepare, a_commit, a_certificate, a_wish, a_mark, leave, report_on, show, run, Readable, Answers, Turn, Course, now}
use Rattle.promise.proofs.Turns.Course.{none, more}
use Rattle.promise.proofs.Verdicts.{holding}
use Rattle.promise.proofs.Logs.{now_own, now_other}

pub record Bounded (core : Core) : Type 0 where
  pub view : core.view.0 ≤ 4000000000
  pub wishes : (j : ℕ) → wish_of core j ≤ 4000000000

alike : (core core' : Core) → core'.view.0 ≡ core.view.0 → core'.wishes ≡ core.wishes → Bounded core → Bounded core'
alike core core' v w b = record { view = rw v b.view; wishes = λ j. rw w (b.wishes j) }

set_bounded : (ws : List View) (j i v : ℕ) → v ≤ 4000000000 → (get_or ws i (record { 0 = 0 })).0 ≤ 4000000000 → (get_or (set ws j (record { 0 = v })) i (record { 0 = 0 })).0 ≤ 4000000000
set_bounded ws j i v h b = elim (cases_eq i j) [
  | inl e ↦ elim (cases_lt j (length ws)) [
    | inl lt ↦ rw e (subst (λ (x : View). x.0 ≤ 4000000000) (sym (get_or-set_same ws j (record { 0 = v }) (record { 0 = 0 }) lt)) h)
    | inr ge ↦
        let l = length-set ws j (record { 0 = v }) in
        subst (λ (x : View). x.0 ≤ 4000000000) (sym (get_or_past (set ws j (record { 0 = v })) i (record { 0 = 0 }) (omega arith))) (omega arith)
  ]
  | inr n ↦ subst (λ (x : View). x.0 ≤ 4000000000) (sym (get_or-set_other ws j i (record { 0 = v }) (record { 0 = 0 }) n)) b
]

second_bounded : (a b c d m : ℕ) → a ≤ m → b ≤ m → c ≤ m → d ≤ m → second_highest a b c d ≤ m
second_bounded a b c d m h i j l = omega arith

module _ {State : Type 0} (own : ℕ) (k : Setting State) (m m' : Member State) (b : Bounded m.core) where
  same : (core : Core) → m'.core ≡ core → core.view.0 ≡ m.core.view.0 → core.wishes ≡ m.core.wishes → Bounded m'.core
  same core e v w = subst (λ (c : Core). Bounded c) (sym e) (alike m.core core v w b)

  marked : (core : Core) (n j x : ℕ) → Bounded core → Bounded (mark_kept own core n j x)
  marked core n j x h =
      let next : Core = with_mark core n j x in
      elim (cases_Bool (is_agreed own next n)) [
        | inl t ↦ subst (λ (c : Core). Bounded c) (sym (cond-true (is_agreed own next n) (collected next n) next t)) (alike core (collected next n) refl refl h)
        | inr t ↦ subst (λ (c : Core). Bounded c) (sym (cond-false (is_agreed own next n) (collected next n) next t)) (alike core next refl refl h)
      ]

  confirmed : (d : Bool) (core : Core) (s : Statement) (out : List Statement) → Confirms own k.genuine d core s out m'.core → Bounded core → Bounded m'.core
  confirmed false core s out act h = subst (λ (c : Core). Bounded c) (sym act.1) h
  confirmed true core s out act h = subst (λ (c : Core). Bounded c) (sym act.3) (alike core _ refl refl h)

  enters : (d : Bool) (core : Core) (v : ℕ) (out : List Statement) → Enters own k.genuine d core v out m'.core → v ≤ 4000000000 → Bounded core → Bounded m'.core
  enters false core v out act l h = subst (λ (c : Core). Bounded c) (sym act.1) h
  enters true core v out act l h = subst (λ (c : Core). Bounded c) (sym act.3) (record { view = l; wishes = h.wishes })

  marks : (d : Bool) (core : Core) (n x : ℕ) (rest : List Statement) → Marks own k.genuine d core n x rest m'.core → Bounded core → Bounded m'.core
  marks false core n x rest act h = subst (λ (c : Core). Bounded c) (sym act.1) h
  marks true core n x rest act h = subst (λ (c : Core). Bounded c) (sym act.3) (marked core n own x h)

  other : (core : Core) → Bounded core → (j : ℕ) → others_wish own core j ≤ 4000000000
  other core h j = elim (cases_Bool (eqb j own)) [
    | inl t ↦ subst (λ (x : ℕ). x ≤ 4000000000) (sym (cond-true (eqb j own) 0 (wish_of core j) t)) (omega arith)
    | inr t ↦ subst (λ (x : ℕ). x ≤ 4000000000) (sym (cond-false (eqb j own) 0 (wish_of core j) t)) (h.wishes j)
  ]

  pub stays : (call : Reading) (a : Option (List Statement)) → Readable call → Answers own k m call a m' → Bounded m'.core
  stays call None w st = subst (λ (x : Member State). Bounded x.core) (sym st.1) b
  stays (lead n c ss) (Some out) w st = same _ st.1.0.1.after refl refl
  stays (an_order s ss) (Some out) w st = same _ st.1.0.3 refl refl
  stays (a_prepare s) (Some out) w st =
      let counted = prepare_counted m.core s.slot.0 s.signer s.seal in
      confirmed (is_prepared counted s.slot.0) counted s out st.1.0 (alike m.core counted refl refl b)
  stays (a_commit s) (Some out) w st = same _ st.1.0.1 refl refl
  stays (a_certificate s ss) (Some out) w st = same _ st.1.0.1 refl refl
  stays (a_wish s) (Some out) w st =
      let next = with_wish m.core s.signer s.view.0 in
      let v = leb-true s.view.0 4000000000 (and_parts _ _ (and_parts _ _ (kept_rule s kind.Wish w.1.sound.0.kept w.0)).0).1 in
      let h : Bounded next = record { view = b.view; wishes = λ j. set_bounded m.core.wishes s.signer j s.view.0 v (b.wishes j) } in
      enters (ltb m.core.view.0 (wished own next)) next (wished own next) out st.1.0 (second_bounded _ _ _ _ 4000000000 (other next h 0) (other next h 1) (other next h 2) (other next h 3)) h
  stays (a_mark s) (Some out) w st = subst (λ (c : Core). Bounded c) (sym st.1.0.1) (marked m.core s.slot.0 s.signer s.command b)
  stays leave (Some out) w st =
      let t = ltb-true m.core.view.0 4000000000 (holding (leave_tests m.core) st.0).0 in
      enters true m.core (m.core.view.0 + 1) out st.1.0 (omega arith) b
  stays (report_on n) (Some out) w st = subst (λ (x : Member State). Bounded x.core) (sym st.1.1) b
  stays (show n) (Some out) w st = subst (λ (x : Member State). Bounded x.core) (sym st.1.1) b
  stays run (Some out) w st =
      let a = st.1 in
      marks (eqb (a.slot % 16) 0) (with_count m.core a.slot) a.slot (k.marked m'.state) a.rest a.marks (alike m.core (with_count m.core a.slot) refl refl b)

module _ {State : Type 0} (k : Setting State) where
  began : Bounded first_core
  began = record { view = omega arith; wishes = λ j. first_wish j }
    where
      first_wish : (j : ℕ) → wish_of first_core j ≤ 4000000000
      first_wish zero = omega arith
      first_wish (suc zero) = omega arith
      first_wish (suc (suc zero)) = omega arith
      first_wish (suc (suc (suc zero))) = omega arith
      first_wish (suc (suc (suc (suc j)))) = omega arith

  pub bounded : {ts : List (Turn State)} → Course k ts → (i : ℕ) → Bounded (now k i ts).core
  bounded none i = began
  bounded (more {h} e r c b w st) i = elim (cases_eq e.who i) [
    | inl q ↦ subst (λ (m : Member State). Bounded m.core) (sym (now_own k i e h q)) (stays e.who k e.before e.after (subst (λ (m : Member State). Bounded m.core) (sym b) (bounded r e.who)) e.call e.answer w st)
    | inr q ↦ subst (λ (m : Member State). Bounded m.core) (sym (now_other k i e h q)) (bounded r i)
  ]
