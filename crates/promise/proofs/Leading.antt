-- A round of bytes, read.
use Rattle.std.proofs.Common.{◌≡◌, ℕ, ◌+◌, ◌≤◌, true, List, [], ◌∷◌, ◌++◌, length, Some, sym, refl, ap, ◌∙◌, subst, arith}
use Rattle.std.proofs.lemmas.Bool.{and_parts, and_from, eq-eqb, le-leb, or_left}
use Rattle.std.proofs.lemmas.Bool.Decides.{nat_tests}
use Rattle.std.specs.List.{flat_map, AllByRecursion}
use Rattle.agreement.specs.Lists.Among.{here, there}
use Rattle.packet.specs.Fields.{valid}
use Rattle.packet.specs.Packets.{has_length, parts_of}
use Rattle.packet.specs.Proofs.{ProofWritten, has_proof_length}
use Rattle.packet.specs.Statements.{encode}
use Rattle.packet.specs.declared.kinds.Kind.TheVariants as kind
use Rattle.packet.specs.declared.statements.Statement.{Statement}
use Rattle.packet.proofs.Readings.{length_joined, parts_joined}
use Rattle.proof.specs.Roles.{primary}
use Rattle.proof.proofs.Feeding.{among_left, among_right}
use Rattle.ledger.proofs.Along.{kept as all_kept}
use Rattle.ledger.proofs.Groups.{primary_active}
use Rattle.slots.specs.Cores.{is_open, record_at}
use Rattle.promise.specs.Statements.{Fitting, order}
use Rattle.promise.specs.Steps.{Setting, Member, Call}
use Rattle.promise.specs.Steps as steps
use Rattle.promise.specs.Histories.{Event, History}
use Rattle.promise.specs.Histories.History.{more}
use Rattle.promise.specs.Histories as histories
use Rattle.promise.specs.Rounds as rounds
use Rattle.promise.proofs.Turns.{Reading, lead, an_order, a_prepare, a_commit, Turn, Course, HandsPrepare, HandsCommit, Delivered}
use Rattle.promise.proofs.Turns as turns
use Rattle.promise.proofs.Readings.{same_fitting, Reads, Taken, reads_as}
use Rattle.promise.proofs.Rings.{in_ring}
use Rattle.promise.proofs.Logs.{all_logged, was}
use Rattle.promise.proofs.Bounds.{bounded}
use Rattle.promise.proofs.Passing.{one_proof_reading}
use Rattle.promise.proofs.Lifts.{turn_of, Lifted, same_now, lift}
use Rattle.promise.proofs.Lowered.{lowered, told_wrote}
use Rattle.promise.proofs.Delivering.{handed_bytes, Down, KeptAt, kept_ok, kept_roomy, vote_called}

-- an order in front of a proof has the length of an order
order_length : (n : ℕ) → has_proof_length n ≡ true → has_length kind.Order (30 + n) ≡ true
order_length n h = grind (arith, nat_tests)

module _ {State : Type 0} (k : Setting State) where
  tail : (es : List (Event State)) (h : List (Event State)) → History k (es ++ h) → History k h
  tail [] h r = r
  tail (e ∷ es) h (more _ r c b u st) = tail es h r

  before_of : (e : Event State) (h : List (Event State)) → History k (e ∷ h) → e.before ≡ histories.now k e.who h
  before_of e h (more _ r c b u st) = b

  module _ (v n c : ℕ) (h₀ H : List (Event State)) (rd : rounds.Round k v n c h₀ H) (hist : History k (rd.deliveries ++ (rd.second ∷ rd.first ∷ rd.leads ∷ h₀))) (ts : List (Turn State)) (course : Course k ts) (l : Lifted k (rd.deliveries ++ (rd.second ∷ rd.first ∷ rd.leads ∷ h₀)) ts) where
    abbrev base : List (Event State)
    base = rd.second ∷ rd.first ∷ rd.leads ∷ h₀

    base_history : History k (rd.second ∷ rd.first ∷ rd.leads ∷ h₀)
    base_history = tail rd.deliveries (rd.second ∷ rd.first ∷ rd.leads ∷ h₀) hist

    lead_history : History k (rd.leads ∷ h₀)
    lead_history = tail (rd.second ∷ rd.first ∷ []) (rd.leads ∷ h₀) base_history

    view₁ : rd.leads.before.core.view.0 ≡ v
    view₁ = ap (λ (m : Member State). m.core.view.0) (before_of rd.leads h₀ lead_history ∙ ap (λ (j : ℕ). histories.now k j h₀) rd.leader) ∙ rd.in_view (primary v) (primary_active v)

    valid_view : valid v ≡ true
    valid_view =
        let i = primary v in
        let z = lift k (tail (rd.leads ∷ []) h₀ lead_history) in
        let same = same_now k i z.lifted in
        let e : (turns.now k i z.turns).core.view.0 ≡ v = ap (λ (m : Member State). m.core.view.0) (sym same) ∙ rd.in_view i (primary_active v) in
        let low = (all_kept i (all_logged k z.course i).did).first_view in
        let high = (bounded k z.course i).view in
        and_from _ _ (le-leb 1 v (subst (λ (x : ℕ). 1 ≤ x) e low)) (le-leb v 4000000000 (subst (λ (x : ℕ). x ≤ 4000000000) e high))

    valid_slot : valid n ≡ true
    valid_slot =
        let o = rd.opened (primary v) (primary_active v) in
        let w = in_ring (histories.now k (primary v) h₀).core n o in
        and_from _ _ (le-leb 1 n (omega arith)) (and_parts _ _ o).1

    -- what the lead wrote
    pub record Ordered : Type 0 where
      pub seal : ℕ
      pub proof : List Statement
      pub written : ProofWritten rd.proof proof
      pub fitting : AllByRecursion Fitting (order (primary v) v n c seal ∷ proof)
      pub whole : histories.written rd.leads ≡ flat_map encode (order (primary v) v n c seal ∷ proof)

    pub ordered : Ordered
    ordered =
        let x = lowered k rd.count rd.accepted (among_right rd.deliveries base (there (there (here refl)))) l in
        let w = was k course x.stands in
        let y = subst (λ cl. Reads cl x.reading) rd.led x.reads in
        let st = (subst (λ r. turns.Answers rd.leads.who k rd.leads.before r (Some x.out) rd.leads.after) y.2 w.answers).1.0 in
        let s = st.1.seal in
        let out : x.out ≡ order (primary v) v n c s ∷ y.0 =
        st.2 ∙ ap (λ (o : List Statement). o ++ y.0) st.1.written
        ∙ ap (λ (i : ℕ). order i rd.leads.before.core.view.0 n c s ∷ y.0) rd.leader
        ∙ ap (λ (u : ℕ). order (primary v) u n c s ∷ y.0) view₁ in
        record { seal = s; proof = y.0; written = y.1; fitting = subst (AllByRecursion Fitting) out x.fitting; whole = x.whole ∙ ap (flat_map encode) out }

    -- its packet is an order
    pub packet : Taken (histories.written rd.leads) (order (primary v) v n c ordered.seal) ordered.proof
    packet =
        let f = ordered.fitting.0 in
        let pl = ap length (sym ordered.written.whole) ∙ length_joined ordered.proof in
        let wl = ap length ordered.whole ∙ length_joined (order (primary v) v n c ordered.seal ∷ ordered.proof) in
        let both : 30 + length rd.proof ≡ length (histories.written rd.leads) = omega (arith, pl, wl) in
        record {
          taken = refl;
          long = subst (λ (x : ℕ). has_length kind.Order x ≡ true) both (order_length (length rd.proof) ordered.written.long);
          sound = (record { kept = and_from _ _ (le-leb (primary v) 3 (omega arith)) (and_from _ _ valid_view (and_from _ _ valid_slot refl)); fits = f.body; seal = f.seal }, ordered.written.sound);
          whole = sym ordered.whole;
        }

    pub reads_order : (call : Call) → call ≡ steps.take (histories.written rd.leads) → Reads call (an_order (order (primary v) v n c ordered.seal) ordered.proof)
    reads_order call q = subst (λ y. Reads y (an_order (order (primary v) v n c ordered.seal) ordered.proof)) (sym q) (order (primary v) v n c ordered.seal, (ordered.proof, packet, refl))

    is_order : (call : Call) (r : Reading) → call ≡ steps.take (histories.written rd.leads) → Reads call r → r ≡ an_order (order (primary v) v n c ordered.seal) ordered.proof
    is_order call r q x = reads_as (histories.written rd.leads) (order (primary v) v n c ordered.seal) ordered.proof r packet (subst (λ y. Reads y r) q x)

    module _ (d : Down k v n c (rd.second ∷ rd.first ∷ rd.leads ∷ h₀) rd.deliveries ts) where
      pub k₂ : KeptAt k rd.second (rd.first ∷ rd.leads ∷ h₀) d.rest
      k₂ = kept_roomy k rd.second_roomy _ (reads_order rd.second.call rd.second_order) d.lifted

      pub k₁ : KeptAt k rd.first (rd.leads ∷ h₀) k₂.rest
      k₁ = kept_roomy k rd.first_roomy _ (reads_order rd.first.call rd.first_order) k₂.lifted

      pub k₀ : KeptAt k rd.leads h₀ k₁.rest
      k₀ = kept_ok k rd.count rd.accepted k₁.lifted

      answered : k₀.answer ≡ Some (order (primary v) v n c ordered.seal ∷ ordered.proof)
      answered =
          let t = told_wrote k rd.leads k₀.answer rd.count rd.accepted k₀.told in
          let e = sym (parts_joined t.0) ∙ ap parts_of (sym t.3 ∙ ordered.whole) ∙ parts_joined (order (primary v) v n c ordered.seal ∷ ordered.proof) in
          t.1 ∙ ap Some (same_fitting t.0 (order (primary v) v n c ordered.seal ∷ ordered.proof) t.2 ordered.fitting e)

      led : k₀.reading ≡ lead n c ordered.proof
      led =
          let y = subst (λ cl. Reads cl k₀.reading) rd.led k₀.reads in
          y.2 ∙ ap (lead n c) (one_proof_reading rd.proof y.0 ordered.proof y.1 ordered.written)

      whole : ts ≡ d.front ++ (turn_of rd.second k₂.reading k₂.answer ∷ turn_of rd.first k₁.reading k₁.answer ∷ turn_of rd.leads k₀.reading k₀.answer ∷ k₀.rest)
      whole = d.is ∙ ap (λ r. d.front ++ r) (k₂.is ∙ ap (λ r. turn_of rd.second k₂.reading k₂.answer ∷ r) (k₁.is ∙ ap (λ r. turn_of rd.first k₁.reading k₁.answer ∷ r) k₀.is))

      same : (i : ℕ) → histories.now k i h₀ ≡ turns.now k i k₀.rest
      same i = same_now k i k₀.lifted

      pub round : turns.Round k v n c k₀.rest ts
      round = record {
        correct = rd.correct;
        in_view = λ i a. ap (λ (m : Member State). m.core.view.0) (sym (same i)) ∙ rd.in_view i a;
        opened = λ i a. subst (λ (m : Member State). is_open m.core n ≡ true) (same i) (rd.opened i a);
        unordered = λ i a. ap (λ (m : Member State). (record_at m.core n).ordered) (sym (same i)) ∙ rd.unordered i a;
        leads = turn_of rd.leads k₀.reading k₀.answer;
        leader = rd.leader;
        proof = ordered.proof;
        led = led;
        seal = ordered.seal;
        accepted = answered;
        first = turn_of rd.first k₁.reading k₁.answer;
        second = turn_of rd.second k₂.reading k₂.answer;
        first_backup = rd.first_backup;
        second_backup = rd.second_backup;
        two = rd.differ;
        both = rd.both;
        first_order = is_order rd.first.call k₁.reading rd.first_order k₁.reads;
        second_order = is_order rd.second.call k₂.reading rd.second_order k₂.reads;
        deliveries = d.front;
        whole = whole;
        each = subst (λ r. turns.Deliveries v n c r d.front) (k₂.is ∙ ap (λ r. turn_of rd.second k₂.reading k₂.answer ∷ r) (k₁.is ∙ ap (λ r. turn_of rd.first k₁.reading k₁.answer ∷ r) k₀.is)) d.each;
        all_prepares = λ i j a b ne.
            let x = rd.complete kind.Prepare i j a b ne in
            let y = d.forth x.event x.stands in
            let u = handed_bytes hist (among_left rd.deliveries base x.stands) in
            record { turn = y.0; stands = y.1; own = y.2 ∙ x.own; such = (x.hands.1.0, vote_called k v n c base kind.Prepare j x.hands.1.0 x.bytes x.event.call y.0.call refl (λ m q. eq-eqb m 30 q) u x.hands.0 x.hands.1.1 y.3) };
        all_commits = λ i j a b ne.
            let x = rd.complete kind.Commit i j a b ne in
            let y = d.forth x.event x.stands in
            let u = handed_bytes hist (among_left rd.deliveries base x.stands) in
            record { turn = y.0; stands = y.1; own = y.2 ∙ x.own; such = (x.hands.1.0, vote_called k v n c base kind.Commit j x.hands.1.0 x.bytes x.event.call y.0.call refl (λ m q. or_left _ _ (eq-eqb m 30 q)) u x.hands.0 x.hands.1.1 y.3) };
      }
