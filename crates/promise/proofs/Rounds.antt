-- A round that nothing disturbs decides.
use Rattle.std.proofs.Common.{◌≡◌, ℕ, ◌<◌, true, ◌⊎◌, List, [], ◌∷◌, ◌++◌, map, Some, Ok, Option, sym, refl, ap, ◌∙◌, subst, inl, inr, arith}
use Rattle.std.proofs.lemmas.Bool.{cases_eq}
use Rattle.std.specs.List.{AllByRecursion}
use Rattle.agreement.specs.Lists.{Among}
use Rattle.agreement.specs.Lists.Among.{here, there}
use Rattle.packet.specs.Statements.{encode}
use Rattle.packet.specs.declared.statements.Statement.{Statement}
use Rattle.proof.specs.Reports.{check_backing}
use Rattle.proof.specs.Roles.{primary, active, backups}
use Rattle.proof.proofs.Feeding.{among_left, among_right}
use Rattle.proof.proofs.Shifted.{rest_alike}
use Rattle.sealer.specs.Laws.{Genuine}
use Rattle.ledger.specs.Sheets.{Deed}
use Rattle.ledger.specs.Sheets as sheets
use Rattle.ledger.proofs.Along.{Kept, kept}
use Rattle.ledger.proofs.Groups.{primary_active, backup_active, backup_if, not_primary}
use Rattle.ledger.proofs.Kept.{newest}
use Rattle.slots.specs.Cores.{is_open, record_at}
use Rattle.promise.specs.Statements.{order, prepare, commit}
use Rattle.promise.specs.Steps.{Setting, Member}
use Rattle.promise.proofs.Turns.{Reading, lead, an_order, a_prepare, a_commit, Admitted, Answers, Turn, Accepted, Written, Led, TookOrder, Decided, Course, now, Unforged, Delivered, HandsPrepare, HandsCommit, Deliveries, Round}
use Rattle.promise.proofs.Turns.Course.{more}
use Rattle.promise.proofs.Turns.Deliveries.{start, a_prepare_more, a_commit_more}
use Rattle.promise.proofs.Rings.{sheet_of, in_ring}
use Rattle.promise.proofs.Logs.{log, source, all_logged, now_other, was}
use Rattle.promise.proofs.Origins.{came}
use Rattle.promise.proofs.Rules.{backed}
use Rattle.promise.proofs.Decisions.{log_within, deed_is, in_log, prepare_call, commit_call}
use Rattle.promise.proofs.Steady.{Calm, calm_genuine, accepts, Steady, steady_more, held, prepare_taken, commit_taken, takes_order, takes_prepare, takes_commit}

split : {X : Type 0} {x : X} (xs : List X) {ys : List X} → Among x (xs ++ ys) → Among x xs ⊎ Among x ys
split [] a = inr a
split (y ∷ xs) (here e) = inl (here e)
split (y ∷ xs) (there a) = elim (split xs a) [ inl b ↦ inl (there b) | inr b ↦ inr b ]

module _ {State : Type 0} (k : Setting State) where
  record Newest (e : Turn State) (h : List (Turn State)) : Type 0 where
    course : Course k h
    before : e.before ≡ now k e.who h
    answers : Answers e.who k e.before e.call e.answer e.after

  newest_of : (e : Turn State) (h : List (Turn State)) → Course k (e ∷ h) → Newest e h
  newest_of e h (more _ r c b w st) = record { course = r; before = b; answers = st }

  course_tail : (es : List (Turn State)) {h : List (Turn State)} → Course k (es ++ h) → Course k h
  course_tail [] r = r
  course_tail (e ∷ es) {h} r = course_tail es (newest_of e (es ++ h) r).course

  unforged_tail : (es h : List (Turn State)) → Unforged k (es ++ h) → Unforged k h
  unforged_tail [] h u = u
  unforged_tail (e ∷ es) h u = unforged_tail es h u.1

  -- a call that nothing refuses is accepted
  accept_at : (e : Turn State) (h : List (Turn State)) (call : Reading) → Newest e h → e.call ≡ call → Admitted e.who k.genuine (now k e.who h).core call → (out : List Statement) × (e.answer ≡ Some out)
  accept_at e h call w q ok = accepts k e.who e.before e.after e.call e.answer w.answers
      (subst (λ (m : Member State). Admitted e.who k.genuine m.core e.call) (sym w.before) (subst (λ (x : Reading). Admitted e.who k.genuine (now k e.who h).core x) (sym q) ok))

  module _ (v n c : ℕ) (h : List (Turn State)) (H : List (Turn State)) (rd : Round k v n c h H) (course : Course k (rd.deliveries ++ (rd.second ∷ rd.first ∷ rd.leads ∷ h))) (unf : Unforged k (rd.deliveries ++ (rd.second ∷ rd.first ∷ rd.leads ∷ h))) where
    base_course : Course k (rd.second ∷ rd.first ∷ rd.leads ∷ h)
    base_course = course_tail rd.deliveries course

    base_unforged : Unforged k (rd.second ∷ rd.first ∷ rd.leads ∷ h)
    base_unforged = unforged_tail rd.deliveries (rd.second ∷ rd.first ∷ rd.leads ∷ h) unf

    w₃ : Newest rd.second (rd.first ∷ rd.leads ∷ h)
    w₃ = newest_of rd.second (rd.first ∷ rd.leads ∷ h) base_course

    w₂ : Newest rd.first (rd.leads ∷ h)
    w₂ = newest_of rd.first (rd.leads ∷ h) w₃.course

    w₁ : Newest rd.leads h
    w₁ = newest_of rd.leads h w₂.course

    s₀ : Steady k v n c h
    s₀ = record { course = w₁.course; unforged = base_unforged.1.1.1; views = rd.in_view; opens = rd.opened }

    s₁ : Steady k v n c (rd.leads ∷ h)
    s₁ = steady_more k v n c rd.leads h s₀ w₂.course base_unforged.1.1 (subst Calm (sym rd.led) tt)

    s₂ : Steady k v n c (rd.first ∷ rd.leads ∷ h)
    s₂ = steady_more k v n c rd.first (rd.leads ∷ h) s₁ w₃.course base_unforged.1 (subst Calm (sym rd.first_order) tt)

    s₃ : Steady k v n c (rd.second ∷ rd.first ∷ rd.leads ∷ h)
    s₃ = steady_more k v n c rd.second (rd.first ∷ rd.leads ∷ h) s₂ base_course base_unforged (subst Calm (sym rd.second_order) tt)

    st₁ : Answers rd.leads.who k rd.leads.before (lead n c rd.proof) (Some (order (primary v) v n c rd.seal ∷ rd.proof)) rd.leads.after
    st₁ = subst (λ (x : Reading). Answers rd.leads.who k rd.leads.before x (Some (order (primary v) v n c rd.seal ∷ rd.proof)) rd.leads.after) rd.led
        (subst (λ (x : Option (List Statement)). Answers rd.leads.who k rd.leads.before rd.leads.call x rd.leads.after) rd.accepted w₁.answers)

    view₁ : rd.leads.before.core.view.0 ≡ v
    view₁ = ap (λ (m : Member State). m.core.view.0) (w₁.before ∙ ap (λ (j : ℕ). now k j h) rd.leader) ∙ rd.in_view (primary v) (primary_active v)

    order_genuine : AllByRecursion (Genuine k.genuine) (order (primary v) v n c rd.seal ∷ rd.proof)
    order_genuine = (calm_genuine k rd.leads.who rd.leads.before rd.leads.after (lead n c rd.proof) _ tt st₁ (here refl), st₁.0.1)

    order_backed : check_backing v n c (map encode (order (primary v) v n c rd.seal ∷ rd.proof)) 1 ≡ Ok tt
    order_backed = rest_alike v n c (encode (order (primary v) v n c rd.seal)) (map encode rd.proof) ∙ subst (λ (w : ℕ). check_backing w n c (map encode rd.proof) 0 ≡ Ok tt) view₁ st₁.0.2

    led₁ : Among (sheets.order v n c) (log (primary v) (rd.leads ∷ h))
    led₁ = in_log (primary v) (rd.leads ∷ h) rd.leads (here refl) rd.leader (deed_is rd.leads _ (lead n c rd.proof) rd.accepted rd.led ∙ ap (λ (w : ℕ). sheets.order w n c) view₁)

    led₂ : Among (sheets.order v n c) (log (primary v) (rd.first ∷ rd.leads ∷ h))
    led₂ = log_within (rd.leads ∷ h) (rd.first ∷ rd.leads ∷ h) (primary v) (λ x a. there a) led₁

    -- before the round nothing of it was done
    not_ordered : (i : ℕ) {X : Type 0} → Among i (active v) → Among (sheets.order v n c) (log i h) → X
    not_ordered i a o =
        let s = (held k v n c rd.correct h s₀ i a o).0 in
        let e = rd.unordered i a in
        let z : ◌≡◌ {A = ℕ} 0 1 = cc in
        absurd (omega arith)

    kp₀ : (i : ℕ) → Kept i (log i h) (sheet_of (now k i h).core)
    kp₀ i = kept i (all_logged k w₁.course i).did

    low₀ : (i : ℕ) → Among i (active v) → (now k i h).core.floor.0 < n
    low₀ i a = (in_ring (now k i h).core n (rd.opened i a)).0

    not_prepared : (i j : ℕ) {X : Type 0} → Among i (active v) → Among (sheets.prepare v n j c) (log i h) → X
    not_prepared i j a x =
        let o = (((kp₀ i).held n (low₀ i a)).prepare j c (subst (λ (w : ℕ). Among (sheets.prepare w n j c) (log i h)) (sym (rd.in_view i a)) x)).0 in
        not_ordered i a (subst (λ (w : ℕ). Among (sheets.order w n c) (log i h)) (rd.in_view i a) (((kp₀ i).fits n).base.ordered c o))

    not_committed : (i j : ℕ) {X : Type 0} → Among i (active v) → Among (sheets.commit v n j c) (log i h) → X
    not_committed i j a x =
        let o = (((kp₀ i).held n (low₀ i a)).commit j c (subst (λ (w : ℕ). Among (sheets.commit w n j c) (log i h)) (sym (rd.in_view i a)) x)).0 in
        not_ordered i a (subst (λ (w : ℕ). Among (sheets.order w n c) (log i h)) (rd.in_view i a) (((kp₀ i).fits n).base.ordered c o))

    -- the backups take the order
    first_active : Among rd.first.who (active v)
    first_active = backup_active v rd.first_backup

    second_active : Among rd.second.who (active v)
    second_active = backup_active v rd.second_backup

    same₁ : (i : ℕ) → ¬ (i ≡ primary v) → now k i (rd.leads ∷ h) ≡ now k i h
    same₁ i ne = now_other k i rd.leads h (λ e. ne (sym e ∙ rd.leader))

    took₂ : (out : List Statement) × (rd.first.answer ≡ Some out)
    took₂ =
        let i = rd.first.who in
        let ne = not_primary v rd.first_backup in
        let unordered = ap (λ (m : Member State). (record_at m.core n).ordered) (same₁ i ne) ∙ rd.unordered i first_active in
        accept_at rd.first (rd.leads ∷ h) _ w₂ rd.first_order (takes_order k v n c rd.correct (rd.leads ∷ h) s₁ i first_active led₁ rd.seal rd.proof ne unordered order_genuine order_backed)

    took₃ : (out : List Statement) × (rd.second.answer ≡ Some out)
    took₃ =
        let i = rd.second.who in
        let ne = not_primary v rd.second_backup in
        let same = now_other k i rd.first (rd.leads ∷ h) (λ e. rd.two (sym e)) ∙ same₁ i ne in
        let unordered = ap (λ (m : Member State). (record_at m.core n).ordered) same ∙ rd.unordered i second_active in
        accept_at rd.second (rd.first ∷ rd.leads ∷ h) _ w₃ rd.second_order (takes_order k v n c rd.correct (rd.first ∷ rd.leads ∷ h) s₂ i second_active led₂ rd.seal rd.proof ne unordered order_genuine order_backed)

    order₂ : Among (sheets.order v n c) (log rd.first.who (rd.second ∷ rd.first ∷ rd.leads ∷ h))
    order₂ = in_log rd.first.who (rd.second ∷ rd.first ∷ rd.leads ∷ h) rd.first (there (here refl)) refl (deed_is rd.first took₂.0 _ took₂.1 rd.first_order)

    order₃ : Among (sheets.order v n c) (log rd.second.who (rd.second ∷ rd.first ∷ rd.leads ∷ h))
    order₃ = in_log rd.second.who (rd.second ∷ rd.first ∷ rd.leads ∷ h) rd.second (here refl) refl (deed_is rd.second took₃.0 _ took₃.1 rd.second_order)

    ordered : (i : ℕ) → Among i (active v) → Among (sheets.order v n c) (log i (rd.second ∷ rd.first ∷ rd.leads ∷ h))
    ordered i a = elim (cases_eq i (primary v)) [
      | inl e ↦ subst (λ (j : ℕ). Among (sheets.order v n c) (log j (rd.second ∷ rd.first ∷ rd.leads ∷ h))) (sym e) (log_within (rd.first ∷ rd.leads ∷ h) (rd.second ∷ rd.first ∷ rd.leads ∷ h) (primary v) (λ x a. there a) led₂)
      | inr ne ↦ elim (rd.both i (backup_if v a ne)) [
        | inl e ↦ subst (λ (j : ℕ). Among (sheets.order v n c) (log j (rd.second ∷ rd.first ∷ rd.leads ∷ h))) e order₂
        | inr e ↦ subst (λ (j : ℕ). Among (sheets.order v n c) (log j (rd.second ∷ rd.first ∷ rd.leads ∷ h))) e order₃
      ]
    ]

    abbrev base : List (Turn State)
    base = rd.second ∷ rd.first ∷ rd.leads ∷ h

    abbrev Start : Turn State → Type 0
    Start x = (x ≡ rd.second) ⊎ ((x ≡ rd.first) ⊎ (x ≡ rd.leads))

    -- a turn of the round's start, or one before it
    in_base : (x : Turn State) → Among x (rd.second ∷ rd.first ∷ rd.leads ∷ h) → Start x ⊎ Among x h
    in_base x (here e) = inl (inl e)
    in_base x (there (here e)) = inl (inr (inl e))
    in_base x (there (there (here e))) = inl (inr (inr e))
    in_base x (there (there (there a))) = inr a

    -- it leads or is handed an order
    module _ (P : Reading → Type 0) (leads : P (lead n c rd.proof)) (orders : P (an_order (order (primary v) v n c rd.seal) rd.proof)) where
      at_start : (x : Turn State) → Start x → P x.call
      at_start x (inl e) = subst (λ (y : Turn State). P y.call) (sym e) (subst P (sym rd.second_order) orders)
      at_start x (inr (inl e)) = subst (λ (y : Turn State). P y.call) (sym e) (subst P (sym rd.first_order) orders)
      at_start x (inr (inr e)) = subst (λ (y : Turn State). P y.call) (sym e) (subst P (sym rd.led) leads)

    calm_start : (x : Turn State) → Start x → Calm x.call
    calm_start = at_start Calm tt tt

    -- so it is handed no vote
    abbrev NoVote : Reading → Type 0
    NoVote call = (s : Statement) → (¬ (call ≡ a_prepare s)) × (¬ (call ≡ a_commit s))

    no_vote : (x : Turn State) → Start x → NoVote x.call
    no_vote = at_start NoVote
        (λ s. (λ e. let z : ◌≡◌ {A = ℕ} 0 1 = cc in absurd (omega arith), λ e. let z : ◌≡◌ {A = ℕ} 0 1 = cc in absurd (omega arith)))
        (λ s. (λ e. let z : ◌≡◌ {A = ℕ} 0 1 = cc in absurd (omega arith), λ e. let z : ◌≡◌ {A = ℕ} 0 1 = cc in absurd (omega arith)))

    -- all deliveries so far were accepted
    record Going (es : List (Turn State)) : Type 0 where
      steady : Steady k v n c (es ++ base)
      calm : (x : Turn State) → Among x es → Calm x.call
      taken : (x : Turn State) → Among x es → (out : List Statement) × (x.answer ≡ Some out)

    within : (es : List (Turn State)) (x : Turn State) → Among x base → Among x (es ++ base)
    within es x a = among_right es base a

    -- what was written of the round is genuine
    genuine_written : (es : List (Turn State)) → Going es → (j : ℕ) (s : Statement) → Written j s (es ++ base) → (Written j s h → Genuine k.genuine s) → Genuine k.genuine s
    genuine_written es g j s w old =
        let x = w.turn in
        let st = (was k g.steady.course w.stands).answers in
        let st' : Answers x.who k x.before x.call (Some w.out) x.after = subst (λ (y : Option (List Statement)). Answers x.who k x.before x.call y x.after) w.answered st in
        let from : Calm x.call → Genuine k.genuine s = λ cm. calm_genuine k x.who x.before x.after x.call w.out cm st' w.part in
        elim (split es w.stands) [
          | inl a ↦ from (g.calm x a)
          | inr a ↦ elim (in_base x a) [
            | inl y ↦ from (calm_start x y)
            | inr y ↦ old (record { turn = x; stands = y; own = w.own; out = w.out; answered = w.answered; part = w.part; signed = w.signed })
          ]
        ]

    module _ (es : List (Turn State)) (g : Going es) (i : ℕ) (mine : Among i (active v)) where
      order_now : Among (sheets.order v n c) (log i (es ++ base))
      order_now = log_within base (es ++ base) i (within es) (ordered i mine)

      led_now : Among (sheets.order v n c) (log (primary v) (es ++ base))
      led_now = log_within base (es ++ base) (primary v) (within es) (ordered (primary v) (primary_active v))

      prepare_ok : (j t : ℕ) → Among j (backups v) → ¬ (j ≡ i) → Written j (prepare j v n c t) (es ++ base) → ¬ Delivered i es (HandsPrepare j v n c) → Admitted i k.genuine (now k i (es ++ base)).core (a_prepare (prepare j v n c t))
      prepare_ok j t b ne w fresh =
          let old : Written j (prepare j v n c t) h → Genuine k.genuine (prepare j v n c t) = λ x. not_ordered j (backup_active v b) (backed k h s₀.course s₀.unforged {s = prepare j v n c} (rd.correct j (backup_active v b)) (t, x)).by in
          takes_prepare k v n c rd.correct (es ++ base) g.steady i mine led_now j t b ne order_now (genuine_written es g j (prepare j v n c t) w old) (λ has.
          let src = source i (es ++ base) (prepare_taken k v n c rd.correct (es ++ base) g.steady i j mine order_now ne has) in
          let x = src.turn in
          let wx = was k g.steady.course src.stands in
          let cm = came x.who k x.before x.after x.call x.answer (sheets.prepare v n j c) wx.readable wx.answers src.is tt in
          let cl = prepare_call k cm.from in
          elim (split es src.stands) [
            | inl a ↦ fresh (record { turn = x; stands = a; own = src.own; such = cl })
            | inr a ↦ elim (in_base x a) [
              | inl y ↦ (no_vote x y (prepare j v n c cl.0)).0 cl.1
              | inr y ↦ not_prepared i j mine (in_log i h x y src.own src.is)
            ]
          ])

      commit_ok : (j t : ℕ) → Among j (active v) → ¬ (j ≡ i) → Written j (commit j v n c t) (es ++ base) → ¬ Delivered i es (HandsCommit j v n c) → Admitted i k.genuine (now k i (es ++ base)).core (a_commit (commit j v n c t))
      commit_ok j t b ne w fresh =
          let old : Written j (commit j v n c t) h → Genuine k.genuine (commit j v n c t) = λ x. not_ordered j b (backed k h s₀.course s₀.unforged {s = commit j v n c} (rd.correct j b) (t, x)).by.ordered in
          takes_commit k v n c rd.correct (es ++ base) g.steady i mine led_now j t b ne order_now (genuine_written es g j (commit j v n c t) w old) (λ has.
          let src = source i (es ++ base) (commit_taken k v n c rd.correct (es ++ base) g.steady i j mine order_now ne has) in
          let x = src.turn in
          let wx = was k g.steady.course src.stands in
          let cm = came x.who k x.before x.after x.call x.answer (sheets.commit v n j c) wx.readable wx.answers src.is tt in
          let cl = commit_call k cm.from in
          elim (split es src.stands) [
            | inl a ↦ fresh (record { turn = x; stands = a; own = src.own; such = cl })
            | inr a ↦ elim (in_base x a) [
              | inl y ↦ (no_vote x y (commit j v n c cl.0)).1 cl.1
              | inr y ↦ not_committed i j mine (in_log i h x y src.own src.is)
            ]
          ])

    one_more : (e : Turn State) (es : List (Turn State)) (call : Reading) → Going es → Course k (e ∷ (es ++ base)) → Unforged k (e ∷ (es ++ base)) → e.call ≡ call → Calm call → Admitted e.who k.genuine (now k e.who (es ++ base)).core call → Going (e ∷ es)
    one_more e es call g r u q cm ok =
        let calm : Calm e.call = subst Calm (sym q) cm in
        let acc = accept_at e (es ++ base) call (newest_of e (es ++ base) r) q ok in
        record {
          steady = steady_more k v n c e (es ++ base) g.steady r u calm;
          calm = λ x a. elim (newest a) [ inl p ↦ subst (λ (y : Turn State). Calm y.call) (sym p) calm | inr b ↦ g.calm x b ];
          taken = λ x a. elim (newest a) [ inl p ↦ subst (λ (y : Turn State). (out : List Statement) × (y.answer ≡ Some out)) (sym p) acc | inr b ↦ g.taken x b ];
        }

    going : {es : List (Turn State)} → Deliveries v n c base es → Course k (es ++ base) → Unforged k (es ++ base) → Going es
    going start r u = record { steady = s₃; calm = λ x a. elim a [ ]; taken = λ x a. elim a [ ] }
    going (a_prepare_more {es} d e j t mine b ne q w fresh) r u =
        let g = going d (newest_of e (es ++ base) r).course u.1 in
        one_more e es (a_prepare (prepare j v n c t)) g r u q tt (prepare_ok es g e.who mine j t b ne w fresh)
    going (a_commit_more {es} d e j t mine b ne q w fresh) r u =
        let g = going d (newest_of e (es ++ base) r).course u.1 in
        one_more e es (a_commit (commit j v n c t)) g r u q tt (commit_ok es g e.who mine j t b ne w fresh)

    gone : Going rd.deliveries
    gone = going rd.each course unf

    pub round_open : (i : ℕ) → Among i (active v) → is_open (now k i (rd.deliveries ++ base)).core n ≡ true
    round_open i a = gone.steady.opens i a

    late : (x : Turn State) → Among x base → Among x (rd.deliveries ++ base)
    late x a = among_right rd.deliveries base a

    round_ordered : (i : ℕ) → Among i (active v) → Accepted i (rd.deliveries ++ base) (Led v n c) ⊎ Accepted i (rd.deliveries ++ base) (TookOrder v n c)
    round_ordered i a = elim (cases_eq i (primary v)) [
      | inl e ↦ inl (record { turn = rd.leads; stands = late rd.leads (there (there (here refl))); own = rd.leader ∙ sym e; out = order (primary v) v n c rd.seal ∷ rd.proof; answered = rd.accepted; such = (rd.proof, rd.led, view₁) })
      | inr ne ↦ inr (elim (rd.both i (backup_if v a ne)) [
        | inl e ↦ record { turn = rd.first; stands = late rd.first (there (here refl)); own = e; out = took₂.0; answered = took₂.1; such = (rd.seal, (rd.proof, rd.first_order)) }
        | inr e ↦ record { turn = rd.second; stands = late rd.second (here refl); own = e; out = took₃.0; answered = took₃.1; such = (rd.seal, (rd.proof, rd.second_order)) }
      ])
    ]

    pub round_decided : (i : ℕ) → Among i (active v) → Decided i n c (rd.deliveries ++ base)
    round_decided i a = inr (
      v,
      record {
        ordered = round_ordered i a;
        prepares = λ j b ne.
            let d = rd.all_prepares i j a b ne in
            let t = gone.taken d.turn d.stands in
            record { turn = d.turn; stands = among_left rd.deliveries base d.stands; own = d.own; out = t.0; answered = t.1; such = d.such };
        commits = λ j b ne.
            let d = rd.all_commits i j a b ne in
            let t = gone.taken d.turn d.stands in
            record { turn = d.turn; stands = among_left rd.deliveries base d.stands; own = d.own; out = t.0; answered = t.1; such = d.such };
      },
    )
