-- The deliveries of a round, read.
use Rattle.std.proofs.Common.{◌≡◌, ℕ, ◌≤◌, true, List, [], ◌∷◌, ◌++◌, length, Some, Ok, Option, sym, refl, ap, ◌∙◌, subst, arith}
use Rattle.std.proofs.lemmas.Bool.{eq-eqb, or_left}
use Rattle.std.proofs.lemmas.List.{append-nil}
use Rattle.std.specs.Int.Digits.{AllBelowBase}
use Rattle.std.specs.List.{flat_map}
use Rattle.agreement.specs.Lists.{Among}
use Rattle.agreement.specs.Lists.Among.{here, there}
use Rattle.agreement.proofs.Lists.{each_cons}
use Rattle.packet.specs.Packets.{has_length, takes}
use Rattle.packet.specs.Statements.{encode, decode, statement}
use Rattle.packet.specs.declared.kinds.Kind.{Kind}
use Rattle.packet.specs.declared.kinds.Kind.TheVariants as kind
use Rattle.packet.specs.declared.packets.Reader.TheVariants.{Replica}
use Rattle.packet.specs.declared.statements.Statement.{Statement}
use Rattle.packet.proofs.Encodings.{one_encoding, reads_as}
use Rattle.packet.proofs.Readings.{length_joined}
use Rattle.proof.specs.Roles.{active}
use Rattle.promise.specs.Steps.{Setting, Call}
use Rattle.promise.specs.Steps as steps
use Rattle.promise.specs.Histories.{Event, History}
use Rattle.promise.specs.Histories.History.{none, more}
use Rattle.promise.specs.Histories as histories
use Rattle.promise.specs.Rounds.{Hands, Delivery, VotesBy}
use Rattle.promise.specs.Rounds as rounds
use Rattle.promise.proofs.Turns.{Reading, a_prepare, a_commit, Turn, HandsPrepare, HandsCommit}
use Rattle.promise.proofs.Turns as turns
use Rattle.promise.proofs.Readings.{Reads, Taken, reading_of, statements_of}
use Rattle.promise.proofs.Readings as readings
use Rattle.promise.proofs.Lifts.{turn_of, Told, Lifted, kept, left_out}
use Rattle.promise.proofs.Lowered.{written_lowered}
use Rattle.promise.proofs.Deciding.{is_take}

-- a vote that was decoded is a packet
packet_of_vote : (bs : List ℕ) (s : Statement) → AllBelowBase 256 bs → decode bs ≡ Some s → takes Replica s.kind ≡ true → ((n : ℕ) → n ≡ 30 → has_length s.kind n ≡ true) → Taken bs s []
packet_of_vote bs s u e t l =
    let w = one_encoding.writes_back bs s u e in
    let whole : flat_map encode (s ∷ []) ≡ bs = append-nil (encode s) ∙ w.0 in
    record { taken = t; long = l (length bs) (ap length (sym whole) ∙ length_joined (s ∷ []) ∙ omega arith); sound = (w.1, tt); whole = whole }

-- and a packet of one statement decodes to it
decodes : (bs : List ℕ) (s : Statement) → Taken bs s [] → decode bs ≡ Some s
decodes bs s w = reads_as s bs (sym w.whole ∙ append-nil (encode s)) w.sound.0

pub handed_bytes : {State : Type 0} {k : Setting State} {h : List (Event State)} {e : Event State} → History k h → Among e h → AllBelowBase 256 (histories.handed e.call)
handed_bytes none a = elim a [ ]
handed_bytes (more x r c b u st) (here p) = subst (λ y. AllBelowBase 256 (histories.handed y.call)) (sym p) u
handed_bytes (more x r c b u st) (there a) = handed_bytes r a

module _ {State : Type 0} (k : Setting State) where
  -- an event that was not left out
  pub record KeptAt (e : Event State) (h : List (Event State)) (ts : List (Turn State)) : Type 0 where
    pub reading : Reading
    pub answer : Option (List Statement)
    pub reads : Reads e.call reading
    pub told : Told e answer
    pub rest : List (Turn State)
    pub lifted : Lifted k h rest
    pub is : ts ≡ turn_of e reading answer ∷ rest

  pub kept_ok : {e : Event State} {h : List (Event State)} {ts : List (Turn State)} (count : ℕ) → e.answer ≡ Ok count → Lifted k (e ∷ h) ts → KeptAt e h ts
  kept_ok count q (kept e r a x t l) = record { reading = r; answer = a; reads = x; told = t; rest = _; lifted = l; is = refl }
  kept_ok count q (left_out e f p s w l) = let z : ◌≡◌ {A = ℕ} 0 1 = cc in absurd (omega arith)

  pub kept_roomy : {e : Event State} {h : List (Event State)} {ts : List (Turn State)} → 390 ≤ length e.reply → (r : Reading) → Reads e.call r → Lifted k (e ∷ h) ts → KeptAt e h ts
  kept_roomy room r' x' (kept e r a x t l) = record { reading = r; answer = a; reads = x; told = t; rest = _; lifted = l; is = refl }
  kept_roomy room r' x' (left_out e f p s w l) = absurd (w room r' x')

  module _ (v n c : ℕ) (base : List (Event State)) where
    -- turns of these events, in front of those of the base
    pub record Down (es : List (Event State)) (ts : List (Turn State)) : Type 0 where
      pub front : List (Turn State)
      pub rest : List (Turn State)
      pub is : ts ≡ front ++ rest
      pub lifted : Lifted k base rest
      pub each : turns.Deliveries v n c rest front
      pub back : (t : Turn State) → Among t front → (e : Event State) × Among e es × (t.who ≡ e.who) × Reads e.call t.call
      pub forth : (e : Event State) → Among e es → (t : Turn State) × Among t front × (t.who ≡ e.who) × Reads e.call t.call

    pub vote_called : (kd : Kind) (j t : ℕ) (bs : List ℕ) (call : Call) (r : Reading) → takes Replica kd ≡ true → ((n : ℕ) → n ≡ 30 → has_length kd n ≡ true) → AllBelowBase 256 (histories.handed call) → call ≡ steps.take bs → decode bs ≡ Some (statement kd j v n 0 c t) → Reads call r → r ≡ reading_of kd (statement kd j v n 0 c t) []
    vote_called kd j t bs call r tk l u q d x =
        readings.reads_as bs (statement kd j v n 0 c t) [] r (packet_of_vote bs (statement kd j v n 0 c t) (subst (λ (y : Call). AllBelowBase 256 (histories.handed y)) q u) d tk l) (subst (λ y. Reads y r) q x)

    vote_reads : (kd : Kind) (j t : ℕ) (bs : List ℕ) (call : Call) → takes Replica kd ≡ true → ((n : ℕ) → n ≡ 30 → has_length kd n ≡ true) → AllBelowBase 256 (histories.handed call) → call ≡ steps.take bs → decode bs ≡ Some (statement kd j v n 0 c t) → Reads call (reading_of kd (statement kd j v n 0 c t) [])
    vote_reads kd j t bs call tk l u q d =
        subst (λ y. Reads y (reading_of kd (statement kd j v n 0 c t) [])) (sym q) (statement kd j v n 0 c t, ([], packet_of_vote bs (statement kd j v n 0 c t) (subst (λ (y : Call). AllBelowBase 256 (histories.handed y)) q u) d tk l, refl))

    handed_vote : (kd : Kind) (j t : ℕ) (call : Call) (r : Reading) → Reads call r → statements_of r ≡ Some (statement kd j v n 0 c t, []) → (bs : List ℕ) × Hands kd j v n c bs call
    handed_vote kd j t call r x e = let w = is_take call r (statement kd j v n 0 c t) [] x e in (w.0, (w.1, (t, decodes w.0 (statement kd j v n 0 c t) w.2)))

    module _ {es : List (Event State)} (e : Event State) (j : ℕ) (bs : List ℕ) (receives : Among e.who (active v)) (other : ¬ (j ≡ e.who)) (wrote : histories.Written j bs (es ++ base)) (room : 390 ≤ length e.reply) (u : AllBelowBase 256 (histories.handed e.call)) (ih : (ts : List (Turn State)) → Lifted k (es ++ base) ts → Down es ts) where
      -- a vote of one kind
      deliver_as : {ts : List (Turn State)} → (kd : Kind) → takes Replica kd ≡ true → ((m : ℕ) → m ≡ 30 → has_length kd m ≡ true) → ((s : Statement) → statements_of (reading_of kd s []) ≡ Some (s, []))
          → ((front rest : List (Turn State)) → turns.Deliveries v n c rest front → (x : Turn State) (t : ℕ) → Among x.who (active v) → ¬ (j ≡ x.who) → x.call ≡ reading_of kd (statement kd j v n 0 c t) [] → turns.Written j (statement kd j v n 0 c t) (front ++ rest) → ¬ turns.Delivered x.who front (λ call. (t : ℕ) × (call ≡ reading_of kd (statement kd j v n 0 c t) [])) → turns.Deliveries v n c rest (x ∷ front))
          → Hands kd j v n c bs e.call → ¬ rounds.Delivered kd e.who j v n c es → Lifted k (e ∷ (es ++ base)) ts → Down (e ∷ es) ts
      deliver_as kd taken long alone another h once l =
          let t = h.1.0 in
          let s = statement kd j v n 0 c t in
          let b : AllBelowBase 256 bs = subst (λ (y : Call). AllBelowBase 256 (histories.handed y)) h.0 u in
          let w = one_encoding.writes_back bs s b h.1.1 in
          let x = kept_roomy room (reading_of kd s []) (vote_reads kd j t bs e.call taken long u h.0 h.1.1) l in
          let called : x.reading ≡ reading_of kd s [] = vote_called kd j t bs e.call x.reading taken long u h.0 h.1.1 x.reads in
          let d = ih x.rest x.lifted in
          let written = written_lowered k s (record { body = w.1.fits; seal = w.1.seal }) refl x.lifted (subst (λ p. histories.Written j p (es ++ base)) (sym w.0) wrote) in
          record {
            front = turn_of e x.reading x.answer ∷ d.front;
            rest = d.rest;
            is = x.is ∙ ap (λ r. turn_of e x.reading x.answer ∷ r) d.is;
            lifted = d.lifted;
            each = another d.front d.rest d.each (turn_of e x.reading x.answer) t receives other called (subst (λ r. turns.Written j s r) d.is written) (λ y.
                let z = d.back y.turn y.stands in
                let g = handed_vote kd j y.such.0 z.0.call y.turn.call z.3 (ap statements_of y.such.1 ∙ alone (statement kd j v n 0 c y.such.0)) in
                once (record { event = z.0; stands = z.1; own = sym z.2 ∙ y.own; bytes = g.0; hands = g.1 }));
            back = each_cons {P = λ t. (y : Event State) × Among y (e ∷ es) × (t.who ≡ y.who) × Reads y.call t.call} (e, here refl, refl, x.reads) (λ t a. let z = d.back t a in (z.0, there z.1, z.2, z.3));
            forth = each_cons {P = λ y. (t : Turn State) × Among t (turn_of e x.reading x.answer ∷ d.front) × (t.who ≡ y.who) × Reads y.call t.call} (turn_of e x.reading x.answer, here refl, refl, x.reads) (λ y a. let z = d.forth y a in (z.0, there z.1, z.2, z.3));
          }

      deliver : {ts : List (Turn State)} → (kd : Kind) → VotesBy kd v j → Hands kd j v n c bs e.call → ¬ rounds.Delivered kd e.who j v n c es → Lifted k (e ∷ (es ++ base)) ts → Down (e ∷ es) ts
      deliver kind.Order votes h once l = absurd votes
      deliver kind.Prepare votes h once l = deliver_as kind.Prepare refl (λ m q. eq-eqb m 30 q) (λ s. refl) (λ front rest d x t r o q w f. turns.Deliveries.a_prepare_more d x j t r votes o q w f) h once l
      deliver kind.Commit votes h once l = deliver_as kind.Commit refl (λ m q. or_left _ _ (eq-eqb m 30 q)) (λ s. refl) (λ front rest d x t r o q w f. turns.Deliveries.a_commit_more d x j t r votes o q w f) h once l
      deliver kind.Report votes h once l = absurd votes
      deliver kind.Wish votes h once l = absurd votes
      deliver kind.Checkpoint votes h once l = absurd votes
      deliver kind.Answer votes h once l = absurd votes

    history_tail : (e : Event State) (h : List (Event State)) → History k (e ∷ h) → History k h
    history_tail e h (more _ r c b u st) = r

    pub down : {es : List (Event State)} {ts : List (Turn State)} → rounds.Deliveries v n c base es → History k (es ++ base) → Lifted k (es ++ base) ts → Down es ts
    down {ts = ts} rounds.start r l = record { front = []; rest = ts; is = refl; lifted = l; each = turns.Deliveries.start; back = λ t a. elim a [ ]; forth = λ e a. elim a [ ] }
    down (rounds.next {es} d e x) r l =
        deliver e x.signer x.bytes x.receives x.other x.wrote x.roomy (handed_bytes r (here refl)) (λ ts m. down d (history_tail e (es ++ base) r) m) x.vote x.votes x.hands x.once l
