-- All decisions of a history are read from one list.
use Rattle.std.proofs.Common.{◌≡◌, ℕ, ◌<◌, Bool, true, false, ◌⊎◌, List, [], ◌∷◌, Some, None, Option, sym, refl, ap, ◌∙◌, subst, inl, inr, arith}
use Rattle.std.proofs.lemmas.Bool.{cases_eq}
use Rattle.agreement.specs.Lists.{Among}
use Rattle.agreement.specs.Lists.Among.{here, there}
use Rattle.agreement.specs.Votes.{Settled}
use Rattle.agreement.proofs.Laws.{settled_agree}
use Rattle.packet.specs.declared.kinds.Kind.TheVariants as kind
use Rattle.packet.specs.declared.statements.Statement.{Statement}
use Rattle.proof.specs.Laws.{EachSays, Says}
use Rattle.proof.specs.Laws.EachSays.{more as says_more}
use Rattle.proof.specs.Roles.{primary, backups, every}
use Rattle.ledger.specs.Sheets.{Point, Page, Sheet, Deed, mark, Prepared}
use Rattle.ledger.specs.Sheets as sheets
use Rattle.ledger.proofs.Along.{good, kept}
use Rattle.ledger.proofs.Completes.{completes, decides}
use Rattle.ledger.proofs.Pages.{none_some}
use Rattle.slots.specs.Cores.{prepare_counted, is_prepared}
use Rattle.slots.specs.declared.cores.Core.{Core}
use Rattle.promise.specs.Statements.{order, prepare, commit}
use Rattle.promise.specs.Steps.{Setting, Member, Confirms}
use Rattle.promise.specs.Histories.{Correct}
use Rattle.promise.proofs.Turns.{Reading, lead, an_order, a_prepare, a_commit, a_certificate, Readable, Admitted, Does, Answers, Turn, Accepted, Led, TookOrder, Decided, Course, now, Unforged}
use Rattle.promise.proofs.Turns.Course.{none, more}
use Rattle.promise.proofs.Rings.{page_at, sheet_of, Sized}
use Rattle.promise.proofs.Refines.{call_deed, deed, known_signer, prepare_vote, full_page}
use Rattle.promise.proofs.Logs.{turn_deed, log, log_own, log_other, logged, source, all_logged, refined, now_own}
use Rattle.promise.proofs.Origins.{OrderFrom, led, took, PrepareFrom, took_prepare, CommitFrom, took_commit, CertificateFrom, took_certificate, came}
use Rattle.promise.proofs.Backs.{cert_says}
use Rattle.promise.proofs.Rules.{Said, said_more, world, rightly, commit_part, given, origin, rules}

abbrev pub pick : Option Point → ℕ → ℕ
pick None d = d
pick (Some q) d = q.command

-- the newest decision that stands in a page of slot n, or the empty command
abbrev pub listed : {State : Type 0} → List (Turn State) → ℕ → ℕ
listed [] n = 0
listed (e ∷ h) n = pick (page_at e.after.core n).decided (listed h n)

-- all turns of h stand in H
abbrev pub Within : {State : Type 0} → List (Turn State) → List (Turn State) → Type 0
Within {State} h H = (x : Turn State) → Among x h → Among x H

module _ {State : Type 0} where
  pub log_within : (h H : List (Turn State)) (i : ℕ) → Within h H → {d : Deed} → Among d (log i h) → Among d (log i H)
  log_within h H i sub {d} a =
      let s = source i h a in
      subst (λ (x : Deed). Among x (log i H)) s.is (logged i H (sub s.turn s.stands) s.own)

  prepared_within : {h H : List (Turn State)} {i v n c : ℕ} → Within h H → Prepared i v n c (log i h) → Prepared i v n c (log i H)
  prepared_within {h} {H} {i = i} sub p = record { ordered = log_within h H i sub p.ordered; prepares = λ j a ne. log_within h H i sub (p.prepares j a ne) }

  pub decided_within : {h H : List (Turn State)} {i v n c : ℕ} → Within h H → sheets.Decided i v n c (log i h) → sheets.Decided i v n c (log i H)
  decided_within {h} {H} {i = i} sub (inl a) = inl (log_within h H i sub a)
  decided_within {h} {H} {i = i} sub (inr s) = inr (record { prepared = prepared_within sub s.prepared; commits = λ j a ne. log_within h H i sub (s.commits j a ne) })

  pub deed_is : (e : Turn State) (out : List Statement) (call : Reading) → e.answer ≡ Some out → e.call ≡ call → turn_deed e ≡ call_deed e.before.core call e.after.core
  deed_is e out call a b = ap (λ (x : Option (List Statement)). deed e.before.core e.call x e.after.core) a ∙ ap (λ (x : Reading). call_deed e.before.core x e.after.core) b

  pub in_log : (i : ℕ) (h : List (Turn State)) {d : Deed} (e : Turn State) → Among e h → e.who ≡ i → turn_deed e ≡ d → Among d (log i h)
  in_log i h e a q f = subst (λ (x : Deed). Among x (log i h)) f (logged i h a q)

  order_in : {i v n c : ℕ} {h : List (Turn State)} → Accepted i h (Led v n c) ⊎ Accepted i h (TookOrder v n c) → Among (sheets.order v n c) (log i h)
  order_in {i} {n = n} {c} {h} (inl a) =
      let w = a.such in
      in_log i h a.turn a.stands a.own (deed_is a.turn a.out (lead n c w.0) a.answered w.1 ∙ ap (λ (v : ℕ). sheets.order v n c) w.2)
  order_in {i} {v} {n} {c} {h} (inr a) =
      let w = a.such in
      in_log i h a.turn a.stands a.own (deed_is a.turn a.out (an_order (order (primary v) v n c w.0) w.1.0) a.answered w.1.1)

  -- what the calls say, as deeds
  pub to_log : {i n c : ℕ} {h : List (Turn State)} → Decided i n c h → (v : ℕ) × sheets.Decided i v n c (log i h)
  to_log {i} {n} {c} {h} (inl a) =
      let w = a.such in
      (w.view, inl (in_log i h a.turn a.stands a.own (deed_is a.turn a.out (a_certificate (commit w.signer w.view n c w.seal) w.rest) a.answered w.called)))
  to_log {i} {n} {c} {h} (inr d) =
      let v = d.0 in
      let w = d.1 in (
        v,
        inr (record {
          prepared = record {
            ordered = order_in w.ordered;
            prepares = λ j a ne. let x = w.prepares j a ne in in_log i h x.turn x.stands x.own (deed_is x.turn x.out (a_prepare (prepare j v n c x.such.0)) x.answered x.such.1);
          };
          commits = λ j a ne. let x = w.commits j a ne in in_log i h x.turn x.stands x.own (deed_is x.turn x.out (a_commit (commit j v n c x.such.0)) x.answered x.such.1);
        }),
      )

-- the first of a certificate
first_says : {v n c : ℕ} {js : List ℕ} {s : Statement} {ss : List Statement} → EachSays kind.Commit v n c js (s ∷ ss) → (j : ℕ) × Says kind.Commit j v n c s
first_says (says_more {j} x r) = (j, x)

module _ {State : Type 0} (k : Setting State) where
  pub order_call : {own : ℕ} {core core' : Core} {v n c : ℕ} {call : Reading} → OrderFrom own k.genuine core core' v n c call → ((ss : List Statement) × (call ≡ lead n c ss) × (core.view.0 ≡ v)) ⊎ ((t : ℕ) × ((ss : List Statement) × (call ≡ an_order (order (primary v) v n c t) ss)))
  order_call (led ss ev mine g b) = inl (ss, refl, ev)
  order_call (took s ss e not_mine g b) = inr (s.seal, (ss, ap (λ (x : Statement). an_order x ss) e))

  pub prepare_call : {own : ℕ} {core core' : Core} {v n j c : ℕ} {call : Reading} → PrepareFrom own k.genuine core core' v n j c call → (t : ℕ) × (call ≡ a_prepare (prepare j v n c t))
  prepare_call (took_prepare s e g) = (s.seal, ap a_prepare e)

  pub commit_call : {own : ℕ} {core core' : Core} {v n j c : ℕ} {call : Reading} → CommitFrom own k.genuine core core' v n j c call → (t : ℕ) × (call ≡ a_commit (commit j v n c t))
  commit_call (took_commit s e g) = (s.seal, ap a_commit e)

  record DecisionCall (n c : ℕ) (call : Reading) : Type 0 where
    signer : ℕ
    view : ℕ
    seal : ℕ
    rest : List Statement
    called : call ≡ a_certificate (commit signer view n c seal) rest

  decision_call : {own : ℕ} {core core' : Core} {v n c : ℕ} {call : Reading} → CertificateFrom own k.genuine core core' n v c call → DecisionCall n c call
  decision_call {v = v} (took_certificate s ss d g) = let f = first_says d.each in record { signer = f.0; view = v; seal = s.seal; rest = ss; called = ap (λ (x : Statement). a_certificate x ss) f.1 }

  -- deeds, as what the calls say
  pub from_log : (h : List (Turn State)) → Course k h → Unforged k h → (i v n c : ℕ) → sheets.Decided i v n c (log i h) → Decided i n c h
  from_log h course unf i v n c (inl a) =
      let o = origin k h course unf i (sheets.certificate n v c) tt a in
      let d = decision_call o.from in
      inl (record { turn = o.turn; stands = o.stands; own = o.own; out = o.out; answered = o.answered; such = record { signer = d.signer; view = d.view; seal = d.seal; rest = d.rest; called = d.called } })
  from_log h course unf i v n c (inr s) = inr (
    v,
    record {
      ordered =
          let o = origin k h course unf i (sheets.order v n c) tt s.prepared.ordered in
          elim (order_call o.from) [
            | inl w ↦ inl (record { turn = o.turn; stands = o.stands; own = o.own; out = o.out; answered = o.answered; such = w })
            | inr w ↦ inr (record { turn = o.turn; stands = o.stands; own = o.own; out = o.out; answered = o.answered; such = w })
          ];
      prepares = λ j a ne.
          let o = origin k h course unf i (sheets.prepare v n j c) tt (s.prepared.prepares j a ne) in
          record { turn = o.turn; stands = o.stands; own = o.own; out = o.out; answered = o.answered; such = prepare_call o.from };
      commits = λ j a ne.
          let o = origin k h course unf i (sheets.commit v n j c) tt (s.commits j a ne) in
          record { turn = o.turn; stands = o.stands; own = o.own; out = o.out; answered = o.answered; such = commit_call o.from };
    },
  )

  -- the commit that a completing prepare writes
  confirm_part : (own : ℕ) (m m' : Member State) {v n j c : ℕ} {call : Reading} (out : List Statement) → own < 4 → Sized m.core → Readable call → PrepareFrom own k.genuine m.core m'.core v n j c call → Admitted own k.genuine m.core call → Does own k m call out m' → every (mark j (page_at m.core n).prepares) (backups v) ≡ true → (t : ℕ) × Among (commit own v n c t) out
  confirm_part own m m' {v} {n} {j} {c} out known sized w (took_prepare s e g) ad act full =
      let whole : every (mark s.signer (page_at m.core s.slot.0).prepares) (backups s.view.0) ≡ true = subst (λ (x : Statement). every (mark x.signer (page_at m.core x.slot.0).prepares) (backups x.view.0) ≡ true) (sym e) full in
      let vote = prepare_vote own known m.core sized s ad.1 in
      let r = by (is_prepared (prepare_counted m.core s.slot.0 s.signer s.seal) s.slot.0) (sym (full_page own known m.core sized s (known_signer s w.1.sound.0) vote) ∙ whole) act.0 in
      (r.0, subst (λ (x : Statement). Among (commit own x.view.0 x.slot.0 x.command r.0) out) e r.1)
    where
      by : (d : Bool) → d ≡ true → Confirms own k.genuine d (prepare_counted m.core s.slot.0 s.signer s.seal) s out m'.core → (t : ℕ) × Among (commit own s.view.0 s.slot.0 s.command t) out
      by false q a = let z : ◌≡◌ {A = ℕ} 0 1 = cc in absurd (omega arith)
      by true q a = (a.0, subst (λ o. Among (commit own s.view.0 s.slot.0 s.command a.0) o) (sym a.2) (here refl))

  -- whoever is prepared has written its commit
  new_said : (i : ℕ) (e : Turn State) (h : List (Turn State)) → Course k h → Correct k e.who → e.before ≡ now k e.who h → Readable e.call → Answers e.who k e.before e.call e.answer e.after → e.who ≡ i → (v n c : ℕ) → (Prepared i v n c (log i h) → Said i (commit i v n c) h) → Prepared i v n c (log i (e ∷ h)) → Said i (commit i v n c) (e ∷ h)
  new_said i e h r ce b w st q v n c ih p =
      let lg = all_logged k r i in
      let f = refined k i e h q ce b lg.sized w st in
      elim (completes i (log i h) (sheet_of (now k i h).core) (kept i lg.did) v n c (turn_deed e) f.might (subst (λ l. Prepared i v n c l) (log_own i e h q) p)) [
        | inl old ↦ said_more (ih old)
        | inr x ↦
            let same : e.before ≡ now k i h = b ∙ ap (λ (j : ℕ). now k j h) q in
            let cm = came e.who k e.before e.after e.call e.answer (sheets.prepare v n x.0 c) w st x.1 tt in
            let st2 : Answers e.who k e.before e.call (Some cm.out) e.after = subst (λ (y : Option (List Statement)). Answers e.who k e.before e.call y e.after) cm.answered st in
            let u = confirm_part e.who e.before e.after cm.out ce.known (subst (λ (m : Member State). Sized m.core) (sym same) lg.sized) w cm.from st2.0 st2.1 (subst (λ (m : Member State). every (mark x.0 (page_at m.core n).prepares) (backups v) ≡ true) (sym same) x.2) in
            subst (λ (j : ℕ). Said j (commit j v n c) (e ∷ h)) q (u.0, record { turn = e; stands = here refl; own = refl; out = cm.out; answered = cm.answered; part = u.1; signed = refl })
      ]

  prepared_said : {h : List (Turn State)} → Course k h → (i v n c : ℕ) → Prepared i v n c (log i h) → Said i (commit i v n c) h
  prepared_said none i v n c p = elim p.ordered [ ]
  prepared_said (more {h} e r ce b w st) i v n c p = elim (cases_eq e.who i) [
    | inl q ↦ new_said i e h r ce b w st q v n c (prepared_said r i v n c) p
    | inr q ↦ said_more (prepared_said r i v n c (subst (λ l. Prepared i v n c l) (log_other i e h q) p))
  ]

  module _ (H : List (Turn State)) (course : Course k H) (unf : Unforged k H) where
    -- what is decided is settled
    pub settled : (i v n c : ℕ) → sheets.Decided i v n c (log i H) → Settled (world k H) v n c
    settled i v n c (inl a) j cj act =
        let o = origin k H course unf i (sheets.certificate n v c) tt a in
        given k H course unf o.stands (cert_says k o.from act) (rightly k cj)
    settled i v n c (inr s) j cj act = elim (cases_eq j i) [
      | inl e ↦ subst (λ (x : ℕ). Said x (commit x v n c) H) (sym e) (prepared_said course i v n c s.prepared)
      | inr ne ↦
          let o = origin k H course unf i (sheets.commit v n j c) tt (s.commits j act ne) in
          given k H course unf o.stands (commit_part k o.from) (rightly k cj)
    ]

    abbrev Just : ℕ → ℕ → Type 0
    Just n c = (u : ℕ) × Settled (world k H) u n c

    by_page : (e : Turn State) (h : List (Turn State)) → Course k (e ∷ h) → Within (e ∷ h) H → (n : ℕ) (o : Option Point) → (page_at e.after.core n).decided ≡ o → (o ≡ None → Just n (listed h n)) → Just n (pick o (listed h n))
    by_page e h r sub n None q f = f refl
    by_page e h r sub n (Some p) q f =
        let i = e.who in
        let lg = all_logged k r i in
        let d = (good i lg.did).decided n p (ap (λ (m : Member State). (page_at m.core n).decided) (now_own k i e h refl) ∙ q) in
        (p.view, settled i p.view n p.command (decided_within sub d))

    just : {h : List (Turn State)} → Course k h → Within h H → (i v n c : ℕ) → sheets.Decided i v n c (log i h) → Just n (listed h n)
    just none sub i v n c (inl a) = elim a [ ]
    just none sub i v n c (inr s) = elim s.prepared.ordered [ ]
    just (more {h} e r ce b w st) sub i v n c d =
        by_page e h (more e r ce b w st) sub n (page_at e.after.core n).decided refl (λ q. elim (cases_eq e.who i) [
          | inl y ↦
              let lg = all_logged k r i in
              let f = refined k i e h y ce b lg.sized w st in
              elim (decides i (log i h) (sheet_of (now k i h).core) (kept i lg.did) v n c (turn_deed e) f.might (subst (λ l. sheets.Decided i v n c l) (log_own i e h y) d)) [
                | inl old ↦ just r (λ x a. sub x (there a)) i v n c old
                | inr x ↦ none_some q (ap (λ (s : Sheet). (s.page n).decided) f.sheet ∙ x.1)
              ]
          | inr y ↦ just r (λ x a. sub x (there a)) i v n c (subst (λ l. sheets.Decided i v n c l) (log_other i e h y) d)
        ])

    -- the list has every decision
    pub list_has : (i v n c : ℕ) → sheets.Decided i v n c (log i H) → listed H n ≡ c
    list_has i v n c d =
        let j = just course (λ x a. a) i v n c d in
        settled_agree (rules k H course unf) n j.0 v (listed H n) c j.1 (settled i v n c d)
