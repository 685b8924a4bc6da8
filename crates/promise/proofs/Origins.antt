-- Which call a deed came from, and what was checked of it.
use Rattle.std.proofs.Common.{◌≡◌, ℕ, ◌&&◌, cond, eqb, ltb, List, ◌∷◌, Some, None, Option, sym, refl, ap, ◌∙◌, subst, inl, inr}
use Rattle.std.proofs.lemmas.Bool.{cases_Bool, and_parts, cond-true, cond-false, eqb-true, eqb-false, not-true}
use Rattle.std.specs.List.{AllByRecursion}
use Rattle.packet.specs.Fields.{rule, valid}
use Rattle.packet.specs.Laws.{Sound}
use Rattle.packet.specs.Statements.{statement}
use Rattle.packet.specs.declared.kinds.Kind.{Kind}
use Rattle.packet.specs.declared.kinds.Kind.TheVariants as kind
use Rattle.packet.specs.declared.statements.Statement.{Statement}
use Rattle.proof.specs.Laws.{Backed, Decided}
use Rattle.proof.specs.Roles.{primary}
use Rattle.proof.proofs.Certified.{kept_rule}
use Rattle.proof.proofs.Kept.{is_backed, kept}
use Rattle.proof.proofs.Places.{same_statement}
use Rattle.sealer.specs.Laws.{Genuine}
use Rattle.sealer.specs.Seals.{Meaning}
use Rattle.ledger.specs.Sheets.{Deed}
use Rattle.ledger.specs.Sheets as sheets
use Rattle.slots.specs.Checks.{take_order, lead_tests}
use Rattle.slots.specs.declared.cores.Core.{Core}
use Rattle.promise.specs.Statements.{order, prepare, commit}
use Rattle.promise.specs.Steps.{Setting, Member}
use Rattle.promise.proofs.Turns.{Reading, lead, an_order, a_prepare, a_commit, a_certificate, a_wish, a_mark, leave, report_on, show, run, Readable, Admitted, Answers}
use Rattle.promise.proofs.Verdicts.{holding}
use Rattle.promise.proofs.Refines.{shift, call_deed, deed}

-- an order, a prepare or a commit of these numbers
pub said : (k : Kind) → ((v n e c : ℕ) → rule k v n e c ≡ (valid v && (valid n && eqb e 0))) → (s : Statement) → Sound s → s.kind ≡ k → {i v n c : ℕ} → s.signer ≡ i → s.view.0 ≡ v → s.slot.0 ≡ n → s.command ≡ c → s ≡ statement k i v n 0 c s.seal
said k plain s h e i v n c =
    let r = sym (plain s.view.0 s.slot.0 s.earlier.0 s.command) ∙ kept_rule s k h.kept e in
    same_statement s e i v n (eqb-true s.earlier.0 0 (and_parts _ _ (and_parts _ _ r).1).1) c

module _ (own : ℕ) (m : Meaning) (core core' : Core) where
  pub data OrderFrom (v n c : ℕ) : Reading → Type 0 where
    led : (ss : List Statement) → core.view.0 ≡ v → own ≡ primary v → AllByRecursion (Genuine m) ss → Backed v n c ss → OrderFrom v n c (lead n c ss)
    took : (s : Statement) (ss : List Statement) → s ≡ order (primary v) v n c s.seal → ¬ (own ≡ primary v) → AllByRecursion (Genuine m) (s ∷ ss) → Backed v n c ss → OrderFrom v n c (an_order s ss)

  pub data PrepareFrom (v n j c : ℕ) : Reading → Type 0 where
    took_prepare : (s : Statement) → s ≡ prepare j v n c s.seal → Genuine m s → PrepareFrom v n j c (a_prepare s)

  pub data CommitFrom (v n j c : ℕ) : Reading → Type 0 where
    took_commit : (s : Statement) → s ≡ commit j v n c s.seal → Genuine m s → CommitFrom v n j c (a_commit s)

  pub data CertificateFrom (n v c : ℕ) : Reading → Type 0 where
    took_certificate : (s : Statement) (ss : List Statement) → Decided v n c (s ∷ ss) → AllByRecursion (Genuine m) (s ∷ ss) → CertificateFrom n v c (a_certificate s ss)

  -- where a deed came from
  abbrev pub From : Deed → Reading → Type 0
  From sheets.idle call = Unit {0}
  From (sheets.enter v) call = Unit {0}
  From (sheets.collect f) call = Unit {0}
  From (sheets.order v n c) call = OrderFrom v n c call
  From (sheets.prepare v n j c) call = PrepareFrom v n j c call
  From (sheets.commit v n j c) call = CommitFrom v n j c call
  From (sheets.certificate n v c) call = CertificateFrom n v c call
  From (sheets.report v n e c) call = call ≡ report_on n

  shifted : (call : Reading) → From (shift core core') call
  shifted call = elim (cases_Bool (ltb core.floor.0 core'.floor.0)) [
    | inl t ↦ subst (λ (d : Deed). From d call) (sym (cond-true (ltb core.floor.0 core'.floor.0) _ _ t)) tt
    | inr t ↦ subst (λ (d : Deed). From d call) (sym (cond-false (ltb core.floor.0 core'.floor.0) _ _ t)) (elim (cases_Bool (ltb core.view.0 core'.view.0)) as (λ _. From (cond (ltb core.view.0 core'.view.0) (sheets.enter core'.view.0) sheets.idle) call) [
      | inl u ↦ subst (λ (d : Deed). From d call) (sym (cond-true (ltb core.view.0 core'.view.0) _ _ u)) tt
      | inr u ↦ subst (λ (d : Deed). From d call) (sym (cond-false (ltb core.view.0 core'.view.0) _ _ u)) tt
    ])
  ]

  pub call_from : (call : Reading) → Readable call → Admitted own m core call → From (call_deed core call core') call
  call_from (lead n c ss) w a =
      let h = holding (lead_tests own core n) a.0 in
      led ss refl (eqb-true own (primary core.view.0) h.0) a.1 (is_backed ss w.sound core.view.0 n c 0 ss refl a.2)
  call_from (an_order s ss) w a =
      let h = holding (take_order own core s) a.2 in
      let v = eqb-true s.view.0 core.view.0 h.0 in
      let other = eqb-false s.signer own (not-true _ h.1.0) in
      let first : s.signer ≡ primary s.view.0 = eqb-true s.signer (primary core.view.0) h.1.1.1.0 ∙ ap primary (sym v) in
      took s ss (said kind.Order (λ _ _ _ _. refl) s w.1.sound.0 w.0 first refl refl refl) (λ q. other (first ∙ sym q)) a.0 (is_backed (s ∷ ss) w.1.sound s.view.0 s.slot.0 s.command 1 ss refl a.1)
  call_from (a_prepare s) w a = took_prepare s (said kind.Prepare (λ _ _ _ _. refl) s w.1.sound.0 w.0 refl refl refl refl) a.0
  call_from (a_commit s) w a = took_commit s (said kind.Commit (λ _ _ _ _. refl) s w.1.sound.0 w.0 refl refl refl refl) a.0
  call_from (a_certificate s ss) w a = took_certificate s ss (elim (kept _ s ss w.1 kind.Commit w.0 a.1) [ inl e ↦ absurd (w.2 e) | inr d ↦ d ]) a.0
  call_from (a_wish s) w a = shifted (a_wish s)
  call_from (a_mark s) w a = shifted (a_mark s)
  call_from leave w a = shifted leave
  call_from (report_on n) w a = refl
  call_from (show n) w a = tt
  call_from run w a = shifted run

-- a deed that is told from idleness came from an accepted call
pub record Came {State : Type 0} (own : ℕ) (k : Setting State) (m m' : Member State) (call : Reading) (a : Option (List Statement)) (d : Deed) : Type 0 where
  pub out : List Statement
  pub answered : a ≡ Some out
  pub from : From own k.genuine m.core m'.core d call

abbrev pub Busy : Deed → Type 0
Busy sheets.idle = ⊥
Busy (sheets.enter v) = Unit {0}
Busy (sheets.collect f) = Unit {0}
Busy (sheets.order v n c) = Unit {0}
Busy (sheets.prepare v n j c) = Unit {0}
Busy (sheets.commit v n j c) = Unit {0}
Busy (sheets.certificate n v c) = Unit {0}
Busy (sheets.report v n e c) = Unit {0}

pub came : {State : Type 0} (own : ℕ) (k : Setting State) (m m' : Member State) (call : Reading) (a : Option (List Statement)) (d : Deed) → Readable call → Answers own k m call a m' → deed m.core call a m'.core ≡ d → Busy d → Came own k m m' call a d
came own k m m' call None d w st e b = absurd (subst (λ (x : Deed). Busy x) (sym e) b)
came own k m m' call (Some out) d w st e b = record { out = out; answered = refl; from = subst (λ (x : Deed). From own k.genuine m.core m'.core x call) e (call_from own k.genuine m.core m'.core call w st.0) }
