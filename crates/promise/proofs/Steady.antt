-- While the active replicas of a view stay in it: what they hold of a slot that was ordered there.
use Rattle.std.proofs.Common.{◌≡◌, ℕ, ◌<◌, Bool, true, false, not, ◌&&◌, eqb, leb, List, [], ◌∷◌, ◌++◌, map, Some, None, Ok, Option, sym, refl, ap, ◌∙◌, subst, inl, inr, arith}
use Rattle.std.proofs.lemmas.Bool.{cases_eq, cases_lt, cases_Bool, cond-true, cond-false, eq-eqb, ne_eqb, not_from_false, or_left, or_right}
use Rattle.std.specs.List.{AllByRecursion}
use Rattle.agreement.specs.Groups as groups
use Rattle.agreement.specs.Lists.{Among}
use Rattle.agreement.specs.Lists.Among.{here, there}
use Rattle.agreement.specs.Votes.{Settled}
use Rattle.agreement.proofs.Groups.{quorums_overlap}
use Rattle.agreement.proofs.Laws.{settled_binds}
use Rattle.packet.specs.Statements.{encode}
use Rattle.packet.specs.declared.statements.Statement.{Statement}
use Rattle.proof.specs.Reports.{check_backing}
use Rattle.proof.specs.Roles.{primary, active, backups}
use Rattle.proof.proofs.Actives.{active_quorum}
use Rattle.sealer.specs.Laws.{Genuine}
use Rattle.ledger.specs.Sheets.{Point, at, Page, Sheet, Deed, done}
use Rattle.ledger.specs.Sheets as sheets
use Rattle.ledger.proofs.Along.{good, Kept, kept}
use Rattle.ledger.proofs.Groups.{primary_active}
use Rattle.ledger.proofs.Pages.{none_some}
use Rattle.slots.specs.Checks.{is_active, is_backup, like_order, like_decision, take_order, take_prepare, take_commit}
use Rattle.slots.specs.Cores.{is_open, in_window, record_at, prepare_counted, is_prepared}
use Rattle.slots.specs.Records.{has, is_there, order_of}
use Rattle.slots.specs.declared.cores.Core.{Core}
use Rattle.slots.specs.declared.records.Record.{Record}
use Rattle.promise.specs.Statements.{order, prepare, commit}
use Rattle.promise.specs.Steps.{Setting, Member, Confirms}
use Rattle.promise.specs.Histories.{Correct}
use Rattle.promise.proofs.Turns.{Reading, lead, an_order, a_prepare, a_commit, a_certificate, a_wish, a_mark, leave, report_on, show, run, Admitted, Answers, Turn, Course, now, Unforged}
use Rattle.promise.proofs.Turns.Course.{more}
use Rattle.promise.proofs.Verdicts.{passed, is_active_if, is_backup_if}
use Rattle.promise.proofs.Rings.{page_at, sheet_of, in_ring, page_is}
use Rattle.promise.proofs.Refines.{deed}
use Rattle.promise.proofs.Logs.{log, Logged, all_logged, refined, now_own, now_other}
use Rattle.promise.proofs.Backs.{some_same, all_each}
use Rattle.promise.proofs.Rules.{world, four, sound, rightly, backed, own_vote, rules}
use Rattle.promise.proofs.Decisions.{settled}

-- calls of a round
abbrev pub Calm : Reading → Type 0
Calm (lead n c ss) = Unit {0}
Calm (an_order s ss) = Unit {0}
Calm (a_prepare s) = Unit {0}
Calm (a_commit s) = Unit {0}
Calm (a_certificate s ss) = ⊥
Calm (a_wish s) = ⊥
Calm (a_mark s) = ⊥
Calm leave = ⊥
Calm (report_on n) = ⊥
Calm (show n) = ⊥
Calm run = ⊥

calm_sheet : (own : ℕ) (s : Sheet) (core core' : Core) (call : Reading) (a : Option (List Statement)) → Calm call → ((done own s (deed core call a core')).view ≡ s.view) × ((done own s (deed core call a core')).floor ≡ s.floor)
calm_sheet own s core core' call None h = (refl, refl)
calm_sheet own s core core' (lead n c ss) (Some out) h = (refl, refl)
calm_sheet own s core core' (an_order x ss) (Some out) h = (refl, refl)
calm_sheet own s core core' (a_prepare x) (Some out) h = (refl, refl)
calm_sheet own s core core' (a_commit x) (Some out) h = (refl, refl)
calm_sheet own s core core' (a_certificate x ss) (Some out) h = absurd h
calm_sheet own s core core' (a_wish x) (Some out) h = absurd h
calm_sheet own s core core' (a_mark x) (Some out) h = absurd h
calm_sheet own s core core' leave (Some out) h = absurd h
calm_sheet own s core core' (report_on n) (Some out) h = absurd h
calm_sheet own s core core' (show n) (Some out) h = absurd h
calm_sheet own s core core' run (Some out) h = absurd h

-- a command that is the ordered one
ordered_like : (r : Record) (c : ℕ) → order_of r ≡ Some c → (r.ordered ≡ true) × (like_order r c ≡ true)
ordered_like r c e = elim (cases_Bool r.ordered) [
  | inl t ↦ (t, or_right (not r.ordered) (eqb r.command c) (eq-eqb r.command c (some_same (sym (cond-true r.ordered (Some r.command) None t) ∙ e))))
  | inr t ↦ none_some (cond-false r.ordered (Some r.command) None t) e
]

not_yet : (b : Bool) → ¬ (b ≡ true) → not b ≡ true
not_yet true f = absurd (f refl)
not_yet false f = refl

module _ {State : Type 0} (k : Setting State) where
  -- what the calls of a round write is genuine
  pub calm_genuine : (own : ℕ) (m m' : Member State) (call : Reading) (out : List Statement) → Calm call → Answers own k m call (Some out) m' → {s : Statement} → Among s out → Genuine k.genuine s
  calm_genuine own m m' (lead n c ss) out h st {s} a =
      let l = st.1.0.1 in
      all_each (Genuine k.genuine) (order own m.core.view.0 n c l.seal ∷ ss) (l.genuine, st.0.1) (subst (λ o. Among s o) (st.1.0.2 ∙ ap (λ (o : List Statement). o ++ ss) l.written) a)
  calm_genuine own m m' (an_order x ss) out h st {s} a =
      let act = st.1.0 in
      all_each (Genuine k.genuine) (prepare own x.view.0 x.slot.0 x.command act.0 ∷ []) (act.1, tt) (subst (λ o. Among s o) act.2 a)
  calm_genuine own m m' (a_prepare x) out h st {s} a = by (is_prepared (prepare_counted m.core x.slot.0 x.signer x.seal) x.slot.0) st.1.0
    where
      by : (d : Bool) → Confirms own k.genuine d (prepare_counted m.core x.slot.0 x.signer x.seal) x out m'.core → Genuine k.genuine s
      by false act = elim (subst (λ o. Among s o) act.0 a) [ ]
      by true act = all_each (Genuine k.genuine) (commit own x.view.0 x.slot.0 x.command act.0 ∷ []) (act.1, tt) (subst (λ o. Among s o) act.2 a)
  calm_genuine own m m' (a_commit x) out h st {s} a = elim (subst (λ o. Among s o) st.1.0.0 a) [ ]
  calm_genuine own m m' (a_certificate x ss) out h st a = absurd h
  calm_genuine own m m' (a_wish x) out h st a = absurd h
  calm_genuine own m m' (a_mark x) out h st a = absurd h
  calm_genuine own m m' leave out h st a = absurd h
  calm_genuine own m m' (report_on n) out h st a = absurd h
  calm_genuine own m m' (show n) out h st a = absurd h
  calm_genuine own m m' run out h st a = absurd h

  -- a call that nothing refuses is accepted
  pub accepts : (own : ℕ) (m m' : Member State) (call : Reading) (a : Option (List Statement)) → Answers own k m call a m' → Admitted own k.genuine m.core call → (out : List Statement) × (a ≡ Some out)
  accepts own m m' call None st ok = absurd (st.0 ok)
  accepts own m m' call (Some out) st ok = (out, refl)

  not_liar : {i : ℕ} → Correct k i → ¬ Among i (k.liar ∷ [])
  not_liar c (here e) = c.honest e
  not_liar c (there a) = elim a [ ]

  pub correctly : {i : ℕ} → Correct k i → groups.Correct (four k) i
  correctly c = record { known = c.known; honest = not_liar c }

  module _ (v n c : ℕ) where
    pub record Steady (h : List (Turn State)) : Type 0 where
      pub course : Course k h
      pub unforged : Unforged k h
      pub views : (i : ℕ) → Among i (active v) → (now k i h).core.view.0 ≡ v
      pub opens : (i : ℕ) → Among i (active v) → is_open (now k i h).core n ≡ true

    opens_at : (f g : ℕ) → f ≡ g → (in_window g n && leb n 4000000000) ≡ true → (in_window f n && leb n 4000000000) ≡ true
    opens_at f g e h = rw e h

    -- a call of a round leaves view and floor
    pub steady_more : (e : Turn State) (h : List (Turn State)) → Steady h → Course k (e ∷ h) → Unforged k (e ∷ h) → Calm e.call → Steady (e ∷ h)
    steady_more e h s (more _ r ce b w st) u calm = record {
      course = more e r ce b w st;
      unforged = u;
      views = λ i a. elim (cases_eq e.who i) [
        | inl q ↦
            let f = refined k i e h q ce b (all_logged k r i).sized w st in
            ap (λ (m : Member State). m.core.view.0) (now_own k i e h q) ∙ ap (λ (x : Sheet). x.view) f.sheet ∙ (calm_sheet i (sheet_of (now k i h).core) e.before.core e.after.core e.call e.answer calm).0 ∙ s.views i a
        | inr q ↦ ap (λ (m : Member State). m.core.view.0) (now_other k i e h q) ∙ s.views i a
      ];
      opens = λ i a. elim (cases_eq e.who i) [
        | inl q ↦
            let f = refined k i e h q ce b (all_logged k r i).sized w st in
            let fl : (now k i (e ∷ h)).core.floor.0 ≡ (now k i h).core.floor.0 = ap (λ (m : Member State). m.core.floor.0) (now_own k i e h q) ∙ ap (λ (x : Sheet). x.floor) f.sheet ∙ (calm_sheet i (sheet_of (now k i h).core) e.before.core e.after.core e.call e.answer calm).1 in
            opens_at (now k i (e ∷ h)).core.floor.0 (now k i h).core.floor.0 fl (s.opens i a)
        | inr q ↦ subst (λ (m : Member State). is_open m.core n ≡ true) (sym (now_other k i e h q)) (s.opens i a)
      ];
    }

    module _ (right : (i : ℕ) → Among i (active v) → Correct k i) (h : List (Turn State)) (s : Steady h) where
      lg : (i : ℕ) → Logged k i h
      lg i = all_logged k s.course i

      kp : (i : ℕ) → Kept i (log i h) (sheet_of (now k i h).core)
      kp i = kept i (all_logged k s.course i).did

      low : (i : ℕ) → Among i (active v) → (now k i h).core.floor.0 < n
      low i a = (in_ring (now k i h).core n (s.opens i a)).0

      -- a decision on the slot is for what the primary ordered
      same_command : (u c' : ℕ) → Among (sheets.order v n c) (log (primary v) h) → Settled (world k h) u n c' → c' ≡ c
      same_command u c' o l = elim (cases_lt u v) [
        | inl lt ↦
            let p = primary v in
            sym ((settled_binds (rules k h s.course s.unforged) u n c' l).votes p v c lt (correctly (right p (primary_active v))) (own_vote k h s.course s.unforged p v n c o))
        | inr ge ↦ elim (cases_eq u v) [
          | inl e ↦
              let p = primary v in
              let ok = right p (primary_active v) in
              let pr = (backed k h s.course s.unforged ok (l p (correctly ok) (subst (λ (w : ℕ). Among p (active w)) (sym e) (primary_active v)))).by in
              (good p (all_logged k s.course p).did).one_order v n c' c (subst (λ (w : ℕ). Among (sheets.order w n c') (log p h)) e pr.ordered) o
          | inr ne ↦
              let w = quorums_overlap {g = four k} (sound k) (active u) (active v) (active_quorum u) (active_quorum v) in
              let pr = (backed k h s.course s.unforged (rightly k w.correct) (l w.replica w.correct w.in_left)).by in
              let up = (kp w.replica).views (sheets.order u n c') pr.ordered in
              let now_in = s.views w.replica w.in_right in
              absurd (omega arith)
        ]
      ]

      -- like the decision, if there is one
      pub like : (i : ℕ) → Among i (active v) → Among (sheets.order v n c) (log (primary v) h) → like_decision (record_at (now k i h).core n) c ≡ true
      like i a o =
          let core = (now k i h).core in
          let x = (record_at core n).decided in
          elim (cases_Bool (is_there x)) [
            | inl t ↦
                let pg = ap (λ (y : Page). y.decided) (page_is core n (s.opens i a)) ∙ cond-true (is_there x) _ _ t in
                let d = (good i (lg i).did).decided n (at x.view.0 x.command) pg in
                or_right (not (is_there x)) (eqb x.command c) (eq-eqb x.command c (same_command x.view.0 x.command o (settled k h s.course s.unforged i x.view.0 n x.command d)))
            | inr t ↦ or_left (not (is_there x)) (eqb x.command c) (not_from_false (is_there x) t)
          ]

      pub page_order : (i : ℕ) → Among i (active v) → Among (sheets.order v n c) (log i h) → (page_at (now k i h).core n).order ≡ Some c
      page_order i a o = ((kp i).held n (low i a)).ordered c (subst (λ (w : ℕ). Among (sheets.order w n c) (log i h)) (sym (s.views i a)) o)

      pub held : (i : ℕ) → Among i (active v) → Among (sheets.order v n c) (log i h) → ((record_at (now k i h).core n).ordered ≡ true) × (like_order (record_at (now k i h).core n) c ≡ true)
      held i a o = ordered_like (record_at (now k i h).core n) c (sym (ap (λ (x : Page). x.order) (page_is (now k i h).core n (s.opens i a))) ∙ page_order i a o)

      -- a vote that is held was taken
      pub prepare_taken : (i j : ℕ) → Among i (active v) → Among (sheets.order v n c) (log i h) → ¬ (j ≡ i) → has (record_at (now k i h).core n).prepares j ≡ true → Among (sheets.prepare v n j c) (log i h)
      prepare_taken i j a o ne t =
          let pg = ap (λ (x : Page). x.prepares j) (page_is (now k i h).core n (s.opens i a)) ∙ t in
          subst (λ (w : ℕ). Among (sheets.prepare w n j c) (log i h)) (s.views i a) (((kp i).fits n).base.prepares c j (page_order i a o) pg ne)

      pub commit_taken : (i j : ℕ) → Among i (active v) → Among (sheets.order v n c) (log i h) → ¬ (j ≡ i) → has (record_at (now k i h).core n).commits j ≡ true → Among (sheets.commit v n j c) (log i h)
      commit_taken i j a o ne t =
          let pg = ap (λ (x : Page). x.commits j) (page_is (now k i h).core n (s.opens i a)) ∙ t in
          subst (λ (w : ℕ). Among (sheets.commit w n j c) (log i h)) (s.views i a) (((kp i).fits n).base.commits c j (page_order i a o) pg ne)

      module _ (i : ℕ) (mine : Among i (active v)) (o : Among (sheets.order v n c) (log (primary v) h)) where
        core : Core
        core = (now k i h).core

        in_view : (P : ℕ → Type 0) → P v → P (now k i h).core.view.0
        in_view P x = subst P (sym (s.views i mine)) x

        pub takes_order : (t : ℕ) (ss : List Statement) → ¬ (i ≡ primary v) → (record_at (now k i h).core n).ordered ≡ false → AllByRecursion (Genuine k.genuine) (order (primary v) v n c t ∷ ss) → check_backing v n c (map encode (order (primary v) v n c t ∷ ss)) 1 ≡ Ok tt → Admitted i k.genuine (now k i h).core (an_order (order (primary v) v n c t) ss)
        takes_order t ss ne unordered g b = (
          g,
          b,
          passed (take_order i (now k i h).core (order (primary v) v n c t)) (
            eq-eqb v (now k i h).core.view.0 (sym (s.views i mine)),
            (
              not_from_false _ (ne_eqb (primary v) i (λ e. ne (sym e))),
              (
                in_view (λ w. is_active w i ≡ true) (is_active_if v i mine),
                (
                  in_view (λ w. eqb (primary v) (primary w) ≡ true) (eq-eqb (primary v) (primary v) refl),
                  (
                    s.opens i mine,
                    (or_left (not (record_at (now k i h).core n).ordered) (eqb (record_at (now k i h).core n).command c) (not_from_false _ unordered), (like i mine o, (not_from_false _ unordered, tt))),
                  ),
                ),
              ),
            ),
          ),
        )

        pub takes_prepare : (j t : ℕ) → Among j (backups v) → ¬ (j ≡ i) → Among (sheets.order v n c) (log i h) → Genuine k.genuine (prepare j v n c t) → ¬ (has (record_at (now k i h).core n).prepares j ≡ true) → Admitted i k.genuine (now k i h).core (a_prepare (prepare j v n c t))
        takes_prepare j t b ne own g fresh = (
          g,
          passed (take_prepare i (now k i h).core (prepare j v n c t)) (
            eq-eqb v (now k i h).core.view.0 (sym (s.views i mine)),
            (
              not_from_false _ (ne_eqb j i ne),
              (
                in_view (λ w. is_active w i ≡ true) (is_active_if v i mine),
                (
                  in_view (λ w. is_backup w j ≡ true) (is_backup_if v j b),
                  (
                    s.opens i mine,
                    ((held i mine own).0, ((held i mine own).1, (like i mine o, (not_yet (has (record_at (now k i h).core n).prepares j) fresh, tt)))),
                  ),
                ),
              ),
            ),
          ),
        )

        pub takes_commit : (j t : ℕ) → Among j (active v) → ¬ (j ≡ i) → Among (sheets.order v n c) (log i h) → Genuine k.genuine (commit j v n c t) → ¬ (has (record_at (now k i h).core n).commits j ≡ true) → Admitted i k.genuine (now k i h).core (a_commit (commit j v n c t))
        takes_commit j t b ne own g fresh = (
          g,
          passed (take_commit i (now k i h).core (commit j v n c t)) (
            eq-eqb v (now k i h).core.view.0 (sym (s.views i mine)),
            (
              not_from_false _ (ne_eqb j i ne),
              (
                in_view (λ w. is_active w i ≡ true) (is_active_if v i mine),
                (
                  in_view (λ w. is_active w j ≡ true) (is_active_if v j b),
                  (
                    s.opens i mine,
                    ((held i mine own).0, ((held i mine own).1, (like i mine o, (not_yet (has (record_at (now k i h).core n).commits j) fresh, tt)))),
                  ),
                ),
              ),
            ),
          ),
        )
