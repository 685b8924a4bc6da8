-- All that a correct replica wrote rests on what it did.
use Rattle.std.proofs.Common.{◌≡◌, ℕ, ◌+◌, ◌%◌, Bool, true, false, eqb, ltb, List, [], ◌∷◌, ◌++◌, Some, Option, sym, refl, ap, ◌∙◌, subst, inl, inr}
use Rattle.std.proofs.lemmas.Bool.{cases_eq, cases_Bool, cond-true, cond-false}
use Rattle.std.specs.List.{AllByRecursion}
use Rattle.agreement.specs.Lists.{Among}
use Rattle.agreement.specs.Lists.Among.{here, there}
use Rattle.packet.specs.Laws.{Sound}
use Rattle.packet.specs.Statements.{statement}
use Rattle.packet.specs.declared.kinds.Kind.{Kind}
use Rattle.packet.specs.declared.kinds.Kind.TheVariants as kind
use Rattle.packet.specs.declared.statements.Statement.{Statement}
use Rattle.proof.specs.Roles.{active}
use Rattle.sealer.specs.Laws.{Genuine}
use Rattle.ledger.specs.Sheets.{at, Page, Deed, mark, Prepared}
use Rattle.ledger.specs.Sheets as sheets
use Rattle.ledger.proofs.Pages.{more_prepared}
use Rattle.ledger.proofs.Kept.{newest}
use Rattle.ledger.proofs.Along.{Kept, kept}
use Rattle.ledger.proofs.Completes.{filled}
use Rattle.slots.specs.Checks.{take_prepare, report_tests, show_tests, run_tests}
use Rattle.slots.specs.Cores.{is_open, record_at, with_wish, wished, with_count, prepare_counted, is_prepared}
use Rattle.slots.specs.Records.{is_there}
use Rattle.slots.specs.declared.records.Certificate.{Certificate}
use Rattle.slots.specs.declared.cores.Core.{Core}
use Rattle.promise.specs.Statements.{said, prepared_statements, told_statements, decided_statements}
use Rattle.promise.specs.Steps.{Setting, Member, result_of, Confirms, Enters, Marks, Runs}
use Rattle.promise.specs.Histories.{Correct}
use Rattle.promise.proofs.Turns.{Reading, lead, an_order, a_prepare, a_commit, a_certificate, a_wish, a_mark, leave, report_on, show, run, handed, Passed, Readable, Admitted, Does, Answers, Turn, Written, Course, now, Honest, Unforged}
use Rattle.promise.proofs.Turns.Course.{none, more}
use Rattle.promise.proofs.Verdicts.{holding}
use Rattle.promise.proofs.Rings.{point_of, sheet_of, Sized, page_is}
use Rattle.promise.proofs.Refines.{call_deed, deed, refines, known_signer, prepare_vote, full_page}
use Rattle.promise.proofs.Logs.{turn_deed, log, log_own, log_other, source, all_logged, was}
use Rattle.promise.proofs.Origins.{CertificateFrom, took_certificate, came}

pub some_same : {A : Type 0} {a b : A} → ◌≡◌ {A = Option A} (Some a) (Some b) → a ≡ b
some_same e = cc

-- each of a list
pub all_each : {X : Type 0} (P : X → Type 0) {x : X} (xs : List X) → AllByRecursion P xs → Among x xs → P x
all_each P [] h a = elim a [ ]
all_each P (y ∷ ys) h (here e) = subst P (sym e) h.0
all_each P (y ∷ ys) h (there a) = all_each P ys h.1 a

-- what a statement of one kind by each of these signers is
pub said_one : (k : Kind) (v n c : ℕ) {s : Statement} (js ts : List ℕ) → Among s (said k v n c js ts) → (j : ℕ) × Among j js × ((t : ℕ) × (s ≡ statement k j v n 0 c t))
said_one k v n c [] ts a = elim a [ ]
said_one k v n c (j ∷ js) [] a = elim a [ ]
said_one k v n c (j ∷ js) (t ∷ ts) (here e) = (j, here refl, (t, e))
said_one k v n c (j ∷ js) (t ∷ ts) (there a) = let r = said_one k v n c js ts a in (r.0, there r.1, r.2)

-- what a statement under the own number rests on; Q says what answers are right
abbrev pub ByKind : (Q : (n r : ℕ) → Type 0) → Kind → (i : ℕ) → Statement → List Deed → Type 0
ByKind Q kind.Order i s l = Among (sheets.order s.view.0 s.slot.0 s.command) l
ByKind Q kind.Prepare i s l = Among (sheets.order s.view.0 s.slot.0 s.command) l
ByKind Q kind.Commit i s l = Prepared i s.view.0 s.slot.0 s.command l
ByKind Q kind.Report i s l = Among (sheets.report s.view.0 s.slot.0 s.earlier.0 s.command) l
ByKind Q kind.Wish i s l = Unit {0}
ByKind Q kind.Checkpoint i s l = Unit {0}
ByKind Q kind.Answer i s l = Q s.slot.0 s.command

pub record Backed (Q : (n r : ℕ) → Type 0) (i : ℕ) (s : Statement) (l : List Deed) : Type 0 where
  pub by : ByKind Q s.kind i s l

more_kind : (Q : (n r : ℕ) → Type 0) (k : Kind) (i : ℕ) (s : Statement) (l : List Deed) (d : Deed) → ByKind Q k i s l → ByKind Q k i s (d ∷ l)
more_kind Q kind.Order i s l d x = there x
more_kind Q kind.Prepare i s l d x = there x
more_kind Q kind.Commit i s l d x = more_prepared x
more_kind Q kind.Report i s l d x = there x
more_kind Q kind.Wish i s l d x = tt
more_kind Q kind.Checkpoint i s l d x = tt
more_kind Q kind.Answer i s l d x = x

pub more_backed : {Q : (n r : ℕ) → Type 0} {i : ℕ} {s : Statement} {l : List Deed} {d : Deed} → Backed Q i s l → Backed Q i s (d ∷ l)
more_backed {Q} {i} {s} {l} {d} x = record { by = more_kind Q s.kind i s l d x.by }

-- the statements of a prepared certificate rest on its order
cert_backed : (Q : (n r : ℕ) → Type 0) (i n : ℕ) (x : Certificate) {s : Statement} {l : List Deed} → Among (sheets.order x.view.0 n x.command) l → Among s (prepared_statements n x) → Backed Q i s l
cert_backed Q i n x {s} {l} o a = elim (newest a) [
  | inl e ↦ subst (λ (y : Statement). Backed Q i y l) (sym e) (record { by = o })
  | inr q ↦ let r = said_one kind.Prepare x.view.0 n x.command _ _ q in subst (λ (y : Statement). Backed Q i y l) (sym r.2.1) (record { by = o })
]

module _ {State : Type 0} where
  pub written_more : {i : ℕ} {s : Statement} {h : List (Turn State)} {e : Turn State} → Written i s h → Written i s (e ∷ h)
  written_more w = record { turn = w.turn; stands = there w.stands; own = w.own; out = w.out; answered = w.answered; part = w.part; signed = w.signed }

module _ {State : Type 0} (k : Setting State) where
  -- what a call was handed, and is genuine under a correct number, had been written
  pub attest : {e : Turn State} {s : Statement} {h : List (Turn State)} → Unforged k h → Among e h → Among s (handed e.call) → Correct k s.signer → Genuine k.genuine s → Written s.signer s h
  attest {h = []} u b a c g = elim b [ ]
  attest {e} {s} {h = x ∷ h} u (here p) a c g = written_more (u.0 s (subst (λ (y : Turn State). Among s (handed y.call)) p a) c g)
  attest {h = x ∷ h} u (there b) a c g = written_more (attest u.1 b a c g)

  -- what a statement that was handed in says
  pub record Given (k' : Kind) (j v n c : ℕ) (call : Reading) : Type 0 where
    pub given : Statement
    pub inside : Among given (handed call)
    pub genuine : Genuine k.genuine given
    pub says : given ≡ statement k' j v n 0 c given.seal

  -- a certificate that was taken has the commit of each active replica
  pub cert_says : {own : ℕ} {core core' : Core} {n v c : ℕ} {call : Reading} → CertificateFrom own k.genuine core core' n v c call → {j : ℕ} → Among j (active v) → Given kind.Commit j v n c call
  cert_says (took_certificate s ss d g) {j} a = let r = d.committed j a in record { given = r.0; inside = r.1; genuine = all_each (Genuine k.genuine) (s ∷ ss) g r.1; says = r.2 }

module _ (Q : (n r : ℕ) → Type 0) {State : Type 0} (k : Setting State) where
  -- what a run answers is as it should be
  abbrev pub Right : List (Turn State) → ℕ → Type 0
  Right h i = (out : List Statement) (m' : Member State) → Passed (run_tests (now k i h).core) → Runs i k (now k i h) out m' → Q ((now k i h).core.count + 1) (result_of k (now k i h).state (record_at (now k i h).core ((now k i h).core.count + 1)).decided.command)

  module _ (i : ℕ) (h : List (Turn State)) (course : Course k h) (unf : Unforged k h) (ok : Correct k i) (right : Right h i) (ih : (s : Statement) → Written i s h → Backed Q i s (log i h)) where
    one : {s b : Statement} {out rest : List Statement} {l : List Deed} → out ≡ b ∷ rest → Among s out → Backed Q i b l → (Among s rest → Backed Q i s l) → Backed Q i s l
    one {s} {l = l} e a x f = elim (newest (subst (λ o. Among s o) e a)) [
      | inl q ↦ subst (λ (y : Statement). Backed Q i y l) (sym q) x
      | inr b ↦ f b
    ]

    no_more : {s : Statement} {X : Type 0} {out : List Statement} → out ≡ [] → Among s out → X
    no_more {s} e a = elim (subst (λ o. Among s o) e a) [ ]

    none_here : {s : Statement} {X : Type 0} → Among s [] → X
    none_here a = elim a [ ]

    -- a statement of the own number that was handed in had been written
    again : {s : Statement} {d : Deed} → Honest k s h → Genuine k.genuine s → s.signer ≡ i → Backed Q i s (d ∷ log i h)
    again {s} hon g e = more_backed (ih s (subst (λ (j : ℕ). Written j s h) e (hon (subst (λ (j : ℕ). Correct k j) (sym e) ok) g)))

    -- the own commit in a certificate that was taken
    own_commit : (u n c : ℕ) → Among i (active u) → sheets.Decided i u n c (log i h) → Prepared i u n c (log i h)
    own_commit u n c a (inr x) = x.prepared
    own_commit u n c a (inl x) =
        let src = source i h x in
        let w = was k course src.stands in
        let e = src.turn in
        let cm = came e.who k e.before e.after e.call e.answer (sheets.certificate n u c) w.readable w.answers src.is tt in
        let r = cert_says k cm.from a in
        let signer : r.given.signer ≡ i = ap (λ (b : Statement). b.signer) r.says in
        let wr = attest k unf src.stands r.inside (subst (λ (j : ℕ). Correct k j) (sym signer) ok) r.genuine in
        (subst (λ (b : Statement). Backed Q i b (log i h)) r.says (ih r.given (subst (λ (j : ℕ). Written j r.given h) signer wr))).by

    module _ (m' : Member State) where
      kp : Kept i (log i h) (sheet_of (now k i h).core)
      kp = kept i (all_logged k course i).did

      sized : Sized (now k i h).core
      sized = (all_logged k course i).sized

      confirm_backed : (b : Bool) (s : Statement) (out : List Statement) → Sound s → Passed (take_prepare i (now k i h).core s) → is_prepared (prepare_counted (now k i h).core s.slot.0 s.signer s.seal) s.slot.0 ≡ b → Confirms i k.genuine b (prepare_counted (now k i h).core s.slot.0 s.signer s.seal) s out m'.core → sheets.may i (sheet_of (now k i h).core) (sheets.prepare s.view.0 s.slot.0 s.signer s.command) → {x : Statement} → Among x out → Backed Q i x (sheets.prepare s.view.0 s.slot.0 s.signer s.command ∷ log i h)
      confirm_backed false s out sd v full act may a = no_more act.0 a
      confirm_backed true s out sd v full act may a = one act.2 a (record { by = filled i (log i h) (sheet_of (now k i h).core) kp s.view.0 s.slot.0 s.signer s.command may (full_page i ok.known (now k i h).core sized s (known_signer s sd) (prepare_vote i ok.known (now k i h).core sized s v) ∙ full) }) none_here

      enter_backed : (b : Bool) (next : Core) (v : ℕ) (out : List Statement) → Enters i k.genuine b next v out m'.core → {x : Statement} {d : Deed} → Among x out → Backed Q i x (d ∷ log i h)
      enter_backed false next v out act a = no_more act.0 a
      enter_backed true next v out act a = one act.2 a (record { by = tt }) none_here

      mark_backed : (b : Bool) (core : Core) (n mk : ℕ) (rest : List Statement) → Marks i k.genuine b core n mk rest m'.core → {x : Statement} {d : Deed} → Among x rest → Backed Q i x (d ∷ log i h)
      mark_backed false core n mk rest act a = no_more act.0 a
      mark_backed true core n mk rest act a = one act.2 a (record { by = tt }) none_here

      point_there : (x : Certificate) → is_there x ≡ true → point_of x ≡ Some (at x.view.0 x.command)
      point_there x e = cond-true (is_there x) _ _ e

      told_backed : (n : ℕ) → is_open (now k i h).core n ≡ true → {s : Statement} {d : Deed} → Among s (told_statements n (record_at (now k i h).core n).prepared) → Backed Q i s (d ∷ log i h)
      told_backed n op {s} {d} a =
          let x = (record_at (now k i h).core n).prepared in
          elim (cases_Bool (is_there x)) [
            | inl e ↦
                let pg = ap (λ (p : Page). p.prepared) (page_is (now k i h).core n op) ∙ point_there x e in
                let pr = ((kp.fits n).base.prepared (at x.view.0 x.command) pg).0 in
                cert_backed Q i n x (there pr.ordered) (subst (λ o. Among s o) (cond-true (is_there x) _ _ e) a)
            | inr e ↦ no_more (cond-false (is_there x) _ _ e) a
          ]

      shown_backed : (n : ℕ) → is_open (now k i h).core n ≡ true → is_there (record_at (now k i h).core n).decided ≡ true → {s : Statement} {d : Deed} → Among s (decided_statements n (record_at (now k i h).core n).decided) → s.signer ≡ i → Backed Q i s (d ∷ log i h)
      shown_backed n op e {s} {d} a q =
          let x = (record_at (now k i h).core n).decided in
          let pg = ap (λ (p : Page). p.decided) (page_is (now k i h).core n op) ∙ point_there x e in
          let dc = (kp.fits n).decided (at x.view.0 x.command) pg in
          let r = said_one kind.Commit x.view.0 n x.command (active x.view.0) x.seals a in
          let j : r.0 ≡ i = sym (ap (λ (b : Statement). b.signer) r.2.1) ∙ q in
          subst (λ (b : Statement). Backed Q i b (d ∷ log i h)) (sym r.2.1) (record { by = more_prepared (subst (λ (y : ℕ). Prepared y x.view.0 n x.command (log i h)) refl (own_commit x.view.0 n x.command (subst (λ (y : ℕ). Among y (active x.view.0)) j r.1) dc)) })

      pub wrote_backed : (call : Reading) (out : List Statement) → Readable call → Admitted i k.genuine (now k i h).core call → Does i k (now k i h) call out m' → ((s : Statement) → Among s (handed call) → Honest k s h) → {s : Statement} → Among s out → s.signer ≡ i → Backed Q i s (call_deed (now k i h).core call m'.core ∷ log i h)
      wrote_backed (lead n c ss) out w ad act hon {s} a e =
          let l = act.0.1 in
          one (act.0.2 ∙ ap (λ (o : List Statement). o ++ ss) l.written) a (record { by = here refl }) (λ b. again (hon s b) (all_each (Genuine k.genuine) ss ad.1 b) e)
      wrote_backed (an_order x ss) out w ad act hon a e = one act.0.2 a (record { by = here refl }) none_here
      wrote_backed (a_prepare x) out w ad act hon a e =
          let r = refines i k (now k i h) m' ok.known sized (a_prepare x) (Some out) w (ad, act) in
          confirm_backed (is_prepared (prepare_counted (now k i h).core x.slot.0 x.signer x.seal) x.slot.0) x out w.1.sound.0 ad.1 refl act.0 r.might a
      wrote_backed (a_commit x) out w ad act hon a e = no_more act.0.0 a
      wrote_backed (a_certificate x ss) out w ad act hon a e = no_more act.0.0 a
      wrote_backed (a_wish x) out w ad act hon a e =
          let next = with_wish (now k i h).core x.signer x.view.0 in
          enter_backed (ltb (now k i h).core.view.0 (wished i next)) next (wished i next) out act.0 a
      wrote_backed (a_mark x) out w ad act hon a e = no_more act.0.0 a
      wrote_backed leave out w ad act hon a e = one act.0.2 a (record { by = tt }) none_here
      wrote_backed (report_on n) out w ad act hon a e =
          let t = holding (report_tests (now k i h).core n) ad in
          one act.0.written a (record { by = here refl }) (λ b. told_backed n t.0 b)
      wrote_backed (show n) out w ad act hon {s} a e =
          let t = holding (show_tests (now k i h).core n) ad in
          shown_backed n t.0 t.1.0 (subst (λ o. Among s o) act.0 a) e
      wrote_backed run out w ad act hon {s} a e =
          let core = (now k i h).core in
          let state = (now k i h).state in
          let c : act.command ≡ (record_at core (core.count + 1)).decided.command = act.decided ∙ ap (λ (n : ℕ). (record_at core n).decided.command) act.next in
          let rightly = subst (λ (n : ℕ). Q n (result_of k state act.command)) (sym act.next) (subst (λ (y : ℕ). Q (core.count + 1) (result_of k state y)) (sym c) (right out m' ad act)) in
          one act.written a (record { by = rightly }) (λ b. mark_backed (eqb (act.slot % 16) 0) (with_count (now k i h).core act.slot) act.slot (k.marked m'.state) act.rest act.marks b)

  log_backed : (i : ℕ) (s : Statement) (e : Turn State) (h : List (Turn State)) → Backed Q i s (log i h) → Backed Q i s (log i (e ∷ h))
  log_backed i s e h x = elim (cases_eq e.who i) [
    | inl q ↦ subst (λ l. Backed Q i s l) (sym (log_own i e h q)) (more_backed x)
    | inr q ↦ subst (λ l. Backed Q i s l) (sym (log_other i e h q)) x
  ]

  -- the newest call's packet
  new_backed : (i : ℕ) (e : Turn State) (h : List (Turn State)) → Course k h → Unforged k (e ∷ h) → Correct k i → Right h i → ((s : Statement) → Written i s h → Backed Q i s (log i h)) → e.before ≡ now k e.who h → Readable e.call → Answers e.who k e.before e.call e.answer e.after → e.who ≡ i → (out : List Statement) → e.answer ≡ Some out → (s : Statement) → Among s out → s.signer ≡ i → Backed Q i s (log i (e ∷ h))
  new_backed i e h r u c right ih b w st q out an s a sg =
      let same : e.before ≡ now k i h = b ∙ ap (λ (j : ℕ). now k j h) q in
      let st1 : Answers i k e.before e.call e.answer e.after = subst (λ (j : ℕ). Answers j k e.before e.call e.answer e.after) q st in
      let st2 : Answers i k (now k i h) e.call e.answer e.after = subst (λ (m : Member State). Answers i k m e.call e.answer e.after) same st1 in
      let st3 : Answers i k (now k i h) e.call (Some out) e.after = subst (λ (x : Option (List Statement)). Answers i k (now k i h) e.call x e.after) an st2 in
      let x = wrote_backed i h r u.1 c right ih e.after e.call out w st3.0 st3.1 u.0 a sg in
      let d : turn_deed e ≡ call_deed (now k i h).core e.call e.after.core = ap (λ (x : Option (List Statement)). deed e.before.core e.call x e.after.core) an ∙ ap (λ (m : Member State). call_deed m.core e.call e.after.core) same in
      subst (λ l. Backed Q i s l) (sym (log_own i e h q)) (subst (λ (y : Deed). Backed Q i s (y ∷ log i h)) (sym d) x)

  module _ (H : List (Turn State)) (right : (h : List (Turn State)) → Course k h → ((x : Turn State) → Among x h → Among x H) → (i : ℕ) → Correct k i → Right h i) where
    pub said_backed : {h : List (Turn State)} → Course k h → ((x : Turn State) → Among x h → Among x H) → Unforged k h → (i : ℕ) → Correct k i → (s : Statement) → Written i s h → Backed Q i s (log i h)
    said_backed none sub u i c s w = elim w.stands [ ]
    said_backed (more {h} e r ce b rd st) sub u i c s w =
        let ih = said_backed r (λ x a. sub x (there a)) u.1 i c in
        elim (newest w.stands) [
          | inl p ↦
              let who : e.who ≡ i = ap (λ (y : Turn State). y.who) (sym p) ∙ w.own in
              let an : e.answer ≡ Some w.out = ap (λ (y : Turn State). y.answer) (sym p) ∙ w.answered in
              new_backed i e h r u c (right h r (λ x a. sub x (there a)) i c) ih b rd st who w.out an s w.part w.signed
          | inr a ↦ log_backed i s e h (ih s (record { turn = w.turn; stands = a; own = w.own; out = w.out; answered = w.answered; part = w.part; signed = w.signed }))
        ]
