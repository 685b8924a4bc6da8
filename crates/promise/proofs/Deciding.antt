-- Who has decided by a history of bytes has by its reading, and the other way round.
use Rattle.std.proofs.Common.{◌≡◌, ℕ, List, [], ◌∷◌, Some, None, Ok, Option, sym, refl, ap, ◌∙◌, subst, inl, inr, arith}
use Rattle.packet.specs.declared.kinds.Kind.TheVariants as kind
use Rattle.packet.specs.declared.statements.Statement.{Statement}
use Rattle.ledger.proofs.Pages.{none_some}
use Rattle.promise.specs.Statements.{commit}
use Rattle.promise.specs.Steps.{Setting, Member, Call}
use Rattle.promise.specs.Steps as steps
use Rattle.promise.specs.Histories.{Event}
use Rattle.promise.specs.Histories as histories
use Rattle.promise.proofs.Turns.{Reading, lead, an_order, a_prepare, a_commit, a_certificate, leave, report_on, show, run, Turn}
use Rattle.promise.proofs.Turns as turns
use Rattle.promise.proofs.Readings.{Reads, Taken, readable, statements_of, statements_back, reads_as}
use Rattle.promise.proofs.Lifts.{turn_of, Told, wrote, Lifted}
use Rattle.promise.proofs.Lowered.{lowered, raised}

some_pair : {s s' : Statement} {ss ss' : List Statement} → ◌≡◌ {A = Option (Statement × List Statement)} (Some (s, ss)) (Some (s', ss')) → (s ≡ s') × (ss ≡ ss')
some_pair e = let f : ◌≡◌ {A = Statement × List Statement} _ _ = cc in (ap (λ p. p.0) f, ap (λ p. p.1) f)

-- a reading with statements is of a packet that is taken
pub is_take : (call : Call) (r : Reading) (s : Statement) (ss : List Statement) → Reads call r → statements_of r ≡ Some (s, ss) → (bs : List ℕ) × (call ≡ steps.take bs) × Taken bs s ss
is_take (steps.lead n c bs) r s ss x e = none_some (ap statements_of x.2) e
is_take (steps.take bs) r s ss x e =
    let p = some_pair (sym (statements_back bs x.0 x.1.0 x.1.1) ∙ ap statements_of (sym x.1.2) ∙ e) in
    (bs, refl, subst (λ y. Taken bs y ss) p.0 (subst (λ y. Taken bs x.0 y) p.1 x.1.1))
is_take steps.leave r s ss x e = none_some (ap statements_of x) e
is_take (steps.report_on n) r s ss x e = none_some (ap statements_of x) e
is_take (steps.show n) r s ss x e = none_some (ap statements_of x) e
is_take steps.run r s ss x e = none_some (ap statements_of x) e

pub is_lead : (call : Call) (r : Reading) (n c : ℕ) (ss : List Statement) → Reads call r → r ≡ lead n c ss → (bs : List ℕ) × (call ≡ steps.lead n c bs)
is_lead (steps.lead m d bs) r n c ss x e =
    let q : ◌≡◌ {A = Reading} (lead m d x.0) (lead n c ss) = sym x.2 ∙ e in
    let a : m ≡ n = cc in
    let b : d ≡ c = cc in
    (bs, λ i. steps.lead (a i) (b i) bs)
is_lead (steps.take bs) r n c ss x e = none_some (ap statements_of e) (ap statements_of x.1.2 ∙ statements_back bs x.0 x.1.0 x.1.1)
is_lead steps.leave r n c ss x e = let z : ◌≡◌ {A = ℕ} 0 1 = cc in absurd (omega arith)
is_lead (steps.report_on m) r n c ss x e = let z : ◌≡◌ {A = ℕ} 0 1 = cc in absurd (omega arith)
is_lead (steps.show m) r n c ss x e = let z : ◌≡◌ {A = ℕ} 0 1 = cc in absurd (omega arith)
is_lead steps.run r n c ss x e = let z : ◌≡◌ {A = ℕ} 0 1 = cc in absurd (omega arith)

module _ {State : Type 0} where
  pub took_reading : (e : Event State) (s : Statement) (ss : List Statement) (r : Reading) → histories.Took s ss e → Reads e.call r → r ≡ Rattle.promise.proofs.Readings.reading_of s.kind s ss
  took_reading e s ss r t x = reads_as t.0 s ss r t.2 (subst (λ c. Reads c r) t.1 x)

module _ {State : Type 0} (k : Setting State) {h : List (Event State)} {ts : List (Turn State)} (l : Lifted k h ts) where
  down : {i : ℕ} (P : Event State → Type 0) (Q : Turn State → Type 0) → ((e : Event State) (r : Reading) (a : Option (List Statement)) → Reads e.call r → P e → Q (turn_of e r a)) → histories.Accepted i h P → turns.Accepted i ts Q
  down P Q f x =
      let y = lowered k x.count x.answered x.stands l in
      record { turn = turn_of x.event y.reading (Some y.out); stands = y.stands; own = x.own; out = y.out; answered = refl; such = f x.event y.reading (Some y.out) y.reads x.such }

  told_count : (e : Event State) (a : Option (List Statement)) (out : List Statement) → a ≡ Some out → Told e a → (count : ℕ) × (e.answer ≡ Ok count)
  told_count e (Some o) out q (wrote count _ p f w) = (count, p)
  told_count e None out q t = none_some refl q

  up : {i : ℕ} (P : Event State → Type 0) (Q : Turn State → Type 0) → ((e : Event State) (r : Reading) (a : Option (List Statement)) → Reads e.call r → Q (turn_of e r a) → P e) → turns.Accepted i ts Q → histories.Accepted i h P
  up P Q f x =
      let y = raised k x.stands l in
      let c = told_count y.event y.answer x.out (sym (ap (λ (t : Turn State). t.answer) y.is) ∙ x.answered) y.told in
      record { event = y.event; stands = y.stands; own = sym (ap (λ (t : Turn State). t.who) y.is) ∙ x.own; count = c.0; answered = c.1; such = f y.event y.reading y.answer y.reads (subst Q y.is x.such) }

  pub decided_down : {i n c : ℕ} → histories.Decided i n c h → turns.Decided i n c ts
  decided_down {n = n} {c} (inl x) = inl (down (histories.TookCertificate n c) (turns.TookCertificate n c) (λ e r a rd t.
      let s = commit t.signer t.view n c t.seal in
      record { signer = t.signer; view = t.view; seal = t.seal; rest = t.rest; called = several s t.rest t.several r (took_reading e s t.rest r (subst (λ y. histories.Took y t.rest e) t.commits t.took) rd) refl }) x)
    where
      several : (s : Statement) (ss : List Statement) → ¬ (ss ≡ []) → (r : Reading) → r ≡ Rattle.promise.proofs.Readings.reading_of s.kind s ss → s.kind ≡ kind.Commit → r ≡ a_certificate s ss
      several s [] ne r e q = absurd (ne refl)
      several s (y ∷ ys) ne r e q = e ∙ ap (λ kd. Rattle.promise.proofs.Readings.reading_of kd s (y ∷ ys)) q
  decided_down {n = n} {c} (inr d) =
      let v = d.0 in
      let w = d.1 in
      inr (
        v,
        record {
          ordered = elim w.ordered [
            | inl x ↦ inl (down (histories.Led v n c) (turns.Led v n c) (λ e r a rd t. let y = subst (λ cl. Reads cl r) t.1 rd in (y.0, y.2, t.2)) x)
            | inr x ↦ inr (down (histories.TookOrder v n c) (turns.TookOrder v n c) (λ e r a rd t. (t.0, (t.1.0, took_reading e _ t.1.0 r t.1.1 rd))) x)
          ];
          prepares = λ j a ne. down (histories.TookPrepare j v n c) (turns.TookPrepare j v n c) (λ e r _ rd t. (t.0, took_reading e _ [] r t.1 rd)) (w.prepares j a ne);
          commits = λ j a ne. down (histories.TookCommit j v n c) (turns.TookCommit j v n c) (λ e r _ rd t. (t.0, took_reading e _ [] r t.1 rd)) (w.commits j a ne);
        },
      )

  pub decided_up : {i n c : ℕ} → turns.Decided i n c ts → histories.Decided i n c h
  decided_up {n = n} {c} (inl x) = inl (up (histories.TookCertificate n c) (turns.TookCertificate n c) (λ e r a rd t.
      let s = commit t.signer t.view n c t.seal in
      record { first = s; rest = t.rest; several = (subst turns.Readable t.called (readable e.call r rd)).2; signer = t.signer; view = t.view; seal = t.seal; commits = refl; took = is_take e.call r s t.rest rd (ap statements_of t.called) }) x)
  decided_up {n = n} {c} (inr d) =
      let v = d.0 in
      let w = d.1 in
      inr (
        v,
        record {
          ordered = elim w.ordered [
            | inl x ↦ inl (up (histories.Led v n c) (turns.Led v n c) (λ e r a rd t. let y = is_lead e.call r n c t.0 rd t.1 in (y.0, y.1, t.2)) x)
            | inr x ↦ inr (up (histories.TookOrder v n c) (turns.TookOrder v n c) (λ e r a rd t. (t.0, (t.1.0, is_take e.call r _ t.1.0 rd (ap statements_of t.1.1)))) x)
          ];
          prepares = λ j a ne. up (histories.TookPrepare j v n c) (turns.TookPrepare j v n c) (λ e r _ rd t. (t.0, is_take e.call r _ [] rd (ap statements_of t.1))) (w.prepares j a ne);
          commits = λ j a ne. up (histories.TookCommit j v n c) (turns.TookCommit j v n c) (λ e r _ rd t. (t.0, is_take e.call r _ [] rd (ap statements_of t.1))) (w.commits j a ne);
        },
      )
