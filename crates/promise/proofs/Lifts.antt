-- A history of bytes read as a history of statements. Calls without room for a reply and calls that cannot be read are refused,
-- change nothing, and are left out.
use Rattle.std.proofs.Common.{◌≡◌, ℕ, ◌≤◌, Bool, cond, eqb, leb, List, [], ◌∷◌, ◌++◌, length, take, drop, Some, None, Ok, Err, Option, Result, refl, ap, ◌∙◌, inl, inr, arith}
use Rattle.std.proofs.lemmas.Bool.{cases_eq, cases_lt, cond-true, cond-false, eq-eqb, ne_eqb, le-leb}
use Rattle.std.proofs.lemmas.List.{take-append-le, take_all}
use Rattle.std.specs.Int.Digits.{AllBelowBase}
use Rattle.std.specs.List.{flat_map, AllByRecursion}
use Rattle.packet.specs.Statements.{encode}
use Rattle.packet.specs.declared.statements.Statement.{Statement}
use Rattle.packet.proofs.Readings.{and_then_ok}
use Rattle.refusal.specs.Refusals.{and_then}
use Rattle.refusal.specs.declared.replicas.ReplicaFault.{ReplicaFault}
use Rattle.refusal.specs.declared.replicas.ReplicaFault.TheVariants as fault
use Rattle.slots.specs.Checks.{test, verdict}
use Rattle.promise.specs.Statements.{Fitting}
use Rattle.slots.specs.declared.cores.Core.{Core}
use Rattle.promise.specs.Steps.{Setting, Member, Call, judge, judge_call, packet_of, Accepts, Refuses, Stepped}
use Rattle.promise.specs.Histories.{Event, History, Correct}
use Rattle.promise.specs.Histories.History.{none, more}
use Rattle.promise.specs.Histories as histories
use Rattle.promise.proofs.Turns.{Reading, Readable, Answers, Turn, Course}
use Rattle.promise.proofs.Turns as turns
use Rattle.promise.proofs.Readings.{Reads, readable, readability}
use Rattle.promise.proofs.Passing.{admitted_passes, performed}

module _ {State : Type 0} where
  abbrev pub turn_of : Event State → Reading → Option (List Statement) → Turn State
  turn_of e r a = record { who = e.who; before = e.before; call = r; answer = a; after = e.after }

  -- what was answered, in statements
  pub data Told (e : Event State) : Option (List Statement) → Type 0 where
    wrote : (count : ℕ) (out : List Statement) → e.answer ≡ Ok count → AllByRecursion Fitting out → histories.written e ≡ flat_map encode out → Told e (Some out)
    refused : (f : ReplicaFault) → e.answer ≡ Err f → Told e None

module _ {State : Type 0} (k : Setting State) where
  pub data Lifted : List (Event State) → List (Turn State) → Type 0 where
    nothing : Lifted [] []
    kept : {h : List (Event State)} {ts : List (Turn State)} (e : Event State) (r : Reading) (a : Option (List Statement)) → Reads e.call r → Told e a → Lifted h ts → Lifted (e ∷ h) (turn_of e r a ∷ ts)
    left_out : {h : List (Event State)} {ts : List (Turn State)} (e : Event State) (f : ReplicaFault) → e.answer ≡ Err f → e.after ≡ histories.now k e.who h → (390 ≤ length e.reply → (r : Reading) → ¬ Reads e.call r) → Lifted h ts → Lifted (e ∷ h) ts

  pub same_now : (i : ℕ) {h : List (Event State)} {ts : List (Turn State)} → Lifted h ts → histories.now k i h ≡ turns.now k i ts
  same_now i nothing = refl
  same_now i (kept e r a x t l) = ap (λ (m : Member State). cond (eqb e.who i) e.after m) (same_now i l)
  same_now i (left_out {h} e f q s w l) = elim (cases_eq e.who i) [
    | inl p ↦ cond-true (eqb e.who i) _ _ (eq-eqb e.who i p) ∙ s ∙ ap (λ (j : ℕ). histories.now k j h) p ∙ same_now i l
    | inr p ↦ cond-false (eqb e.who i) _ _ (ne_eqb e.who i p) ∙ same_now i l
  ]

  -- how a call is judged where there is room, and where there is none
  judged : (own : ℕ) (core : Core) (call : Call) (reply : List ℕ) → 390 ≤ length reply → judge own k.genuine core call reply ≡ judge_call own k.genuine core call
  judged own core call reply room = ap (λ (b : Bool). and_then (verdict (test fault.Space b ∷ [])) (λ _. judge_call own k.genuine core call)) (le-leb 390 (length reply) room)

  -- a history, read
  pub record Lifting (h : List (Event State)) : Type 0 where
    pub turns : List (Turn State)
    pub lifted : Lifted h turns
    pub course : Course k turns

  longer : {h : List (Event State)} (e : Event State) (l : Lifting h) → Correct k e.who → e.before ≡ histories.now k e.who h → (r : Reading) (a : Option (List Statement)) → Reads e.call r → Told e a → Answers e.who k e.before r a e.after → Lifting (e ∷ h)
  longer e l c b r a x t st = record { turns = turn_of e r a ∷ l.turns; lifted = kept e r a x t l.lifted; course = Course.more (turn_of e r a) l.course c (b ∙ same_now e.who l.lifted) (readable e.call r x) st }

  -- an accepted call
  accepted : {h : List (Event State)} (e : Event State) (l : Lifting h) → Correct k e.who → e.before ≡ histories.now k e.who h → AllBelowBase 256 (histories.handed e.call) → (count : ℕ) → e.answer ≡ Ok count → Accepts e.who k e.before e.call e.reply count e.after e.reply' → Lifting (e ∷ h)
  accepted e l c b u count q st =
      let v = and_then_ok (verdict (test fault.Space (leb 390 (length e.reply)) ∷ [])) _ tt st.passed in
      let p = performed e.who k e.before e.after e.call st.out u v.2 st.fitting st.acts in
      let front : take count e.reply' ≡ packet_of e.call st.out = ap (take count) st.space ∙ ap (λ (n : ℕ). take n (packet_of e.call st.out ++ drop count e.reply)) st.counted ∙ take-append-le _ (packet_of e.call st.out) _ (omega arith) ∙ take_all _ (packet_of e.call st.out) (omega arith) in
      let w : histories.written e ≡ flat_map encode p.out = ap (λ a. histories.written_in a e.reply') q ∙ front ∙ p.whole in
      longer e l c b p.reading (Some p.out) p.reads (wrote count p.out q p.fitting w) (p.admitted, p.does)

  -- a refused one
  rejected : {h : List (Event State)} (e : Event State) (l : Lifting h) → Correct k e.who → e.before ≡ histories.now k e.who h → AllBelowBase 256 (histories.handed e.call) → (f : ReplicaFault) → e.answer ≡ Err f → Refuses e.who k e.before e.call e.reply f e.after e.reply' → Lifting (e ∷ h)
  rejected e l c b u f q st = elim (cases_lt (length e.reply) 390) [
    | inr room ↦ elim (readability e.call u) [
      | inl r ↦ longer e l c b r.0 None r.1 (refused f q) (
        (λ ad.
            let ok = judged e.who e.before.core e.call e.reply room ∙ admitted_passes e.who k.genuine e.before.core e.call r.0 r.1 ad in
            let no = st.fault in
            let z : ◌≡◌ {A = ℕ} 0 1 = cc in
            absurd (omega arith)),
        st.member,
      )
      | inr unread ↦ record { turns = l.turns; lifted = left_out e f q (st.member ∙ b) (λ _ r. unread r) l.lifted; course = l.course }
    ]
    | inl short ↦ record { turns = l.turns; lifted = left_out e f q (st.member ∙ b) (λ room. absurd (omega arith)) l.lifted; course = l.course }
  ]

  pub lift : {h : List (Event State)} → History k h → Lifting h
  lift none = record { turns = []; lifted = nothing; course = Course.none }
  lift (more {h} e r c b u st) = by (lift r) e.answer refl st
    where
      by : Lifting h → (a : Result ℕ ReplicaFault) → e.answer ≡ a → Stepped e.who k e.before e.call e.reply a e.after e.reply' → Lifting (e ∷ h)
      by l (Ok count) q s = accepted e l c b u count q s
      by l (Err f) q s = rejected e l c b u f q s
