-- The example is a history, and all that it has to be.
use Rattle.std.proofs.Common.{◌≡◌, ℕ, Bool, true, ltb, List, [], ◌∷◌, ◌&&◌, ◌++◌, ◌⊎◌, drop, length, replicate, None, Ok, sym, refl, ap, ◌∙◌, subst, inl, inr, arith}
use Rattle.std.proofs.lemmas.Bool.{and_parts, ltb-true}
use Rattle.std.proofs.lemmas.List.{append-nil}
use Rattle.std.specs.Prelude.{slice_index}
use Rattle.std.specs.Int.Digits.{AllBelowBase}
use Rattle.agreement.specs.Lists.{Among}
use Rattle.agreement.specs.Lists.Among.{here, there}
use Rattle.packet.specs.Statements.{encode, decode, body}
use Rattle.packet.specs.declared.statements.Statement.{Statement}
use Rattle.proof.specs.Checks.{check_packet}
use Rattle.proof.specs.Reports.{check_backing}
use Rattle.proof.specs.Roles.{active, backups}
use Rattle.sealer.specs.Seals.{open_packet}
use Rattle.promise.specs.Statements.{order, prepare, commit, answer, Fitting}
use Rattle.packet.specs.Fields.{proper}
use Rattle.packet.specs.Laws.{Sound}
use Rattle.packet.specs.Packets.{takes, has_length, parts_of, read_packet}
use Rattle.packet.specs.declared.packets.Reader.TheVariants.{Replica}
use Rattle.promise.specs.Collections.{Collected, HonestPackets}
use Rattle.promise.proofs.Readings.{Taken}
use Rattle.packet.proofs.Readings.{parts_joined}
use Rattle.slots.specs.Cores as cores
use Rattle.promise.specs.Steps.{take, run, Stepped}
use Rattle.promise.specs.Histories.{Event, History, Correct, Unforged, Written, written, GenuinelyWritten, Accepted, TookPrepare, TookCommit, Decided}
use Rattle.promise.specs.Histories.History.{none, more}
use Rattle.promise.specs.Example.{example, space, member, c₀, with_order, with_prepare, with_one, with_all, events, answers, Exists}

below : List ℕ → Bool
below [] = true
below (d ∷ ds) = ltb d 256 && below ds

all_below : (ds : List ℕ) → below ds ≡ true → AllBelowBase 256 ds
unfolding below
all_below [] h = tt
all_below (d ∷ ds) h = let p = and_parts (ltb d 256) (below ds) h in (ltb-true d 256 p.0, all_below ds p.1)

-- numbers as small as these fit
small : (s : Statement) → ltb s.signer 256 && (ltb s.view.0 256 && (ltb s.slot.0 256 && (ltb s.earlier.0 256 && (ltb s.command 256 && ltb s.seal 256)))) ≡ true → Fitting s
small s h =
    let a = and_parts _ _ h in
    let b = and_parts _ _ a.1 in
    let c = and_parts _ _ b.1 in
    let d = and_parts _ _ c.1 in
    let e = and_parts _ _ d.1 in
    let l0 = ltb-true s.signer 256 a.0 in
    let l1 = ltb-true s.view.0 256 b.0 in
    let l2 = ltb-true s.slot.0 256 c.0 in
    let l3 = ltb-true s.earlier.0 256 d.0 in
    let l4 = ltb-true s.command 256 e.0 in
    let l5 = ltb-true s.seal 256 e.1 in
    record { body = record { view = omega arith; slot = omega arith; earlier = omega arith; command = omega arith }; seal = omega arith }

takes_order : (i : ℕ) → (i ≡ 1) ⊎ (i ≡ 2) → Stepped i example (member c₀) (take (encode (order 0 1 1 7 0))) space (Ok 30) (member (with_order i)) (encode (prepare i 1 1 7 0) ++ drop 30 space)
unfolding active backups body check_packet check_backing decode encode open_packet read_packet
takes_order i (inl e) = subst (λ (i : ℕ). Stepped i example (member c₀) (take (encode (order 0 1 1 7 0))) space (Ok 30) (member (with_order i)) (encode (prepare i 1 1 7 0) ++ drop 30 space)) (sym e)
    (record { passed = refl; out = prepare 1 1 1 7 0 ∷ []; fitting = (small (prepare 1 1 1 7 0) refl, tt); acts = ((0, refl, refl, refl), refl); counted = refl; space = refl })
takes_order i (inr e) = subst (λ (i : ℕ). Stepped i example (member c₀) (take (encode (order 0 1 1 7 0))) space (Ok 30) (member (with_order i)) (encode (prepare i 1 1 7 0) ++ drop 30 space)) (sym e)
    (record { passed = refl; out = prepare 2 1 1 7 0 ∷ []; fitting = (small (prepare 2 1 1 7 0) refl, tt); acts = ((0, refl, refl, refl), refl); counted = refl; space = refl })

runs : Stepped 1 example (member with_all) run space (Ok 30) (member (cores.with_count with_all 1)) (encode (answer 1 1 9 0) ++ drop 30 space)
unfolding active backups body encode
runs = record {
  passed = refl;
  out = answer 1 1 9 0 ∷ [];
  fitting = (small (answer 1 1 9 0) refl, tt);
  acts = record { slot = 1; next = refl; command = 7; decided = refl; seal = 0; genuine = refl; rest = []; written = refl; state = refl; marks = (refl, refl) };
  counted = refl;
  space = refl;
}

takes_prepare_1 : Stepped 1 example (member (with_order 1)) (take (encode (prepare 2 1 1 7 0))) space (Ok 30) (member (with_prepare 1 2)) (encode (commit 1 1 1 7 0) ++ drop 30 space)
unfolding active backups body check_packet check_backing decode encode open_packet read_packet
takes_prepare_1 = record { passed = refl; out = commit 1 1 1 7 0 ∷ []; fitting = (small (commit 1 1 1 7 0) refl, tt); acts = ((0, refl, refl, refl), refl); counted = refl; space = refl }

takes_prepare_2 : Stepped 2 example (member (with_order 2)) (take (encode (prepare 1 1 1 7 0))) space (Ok 30) (member (with_prepare 2 1)) (encode (commit 2 1 1 7 0) ++ drop 30 space)
unfolding active backups body check_packet check_backing decode encode open_packet read_packet
takes_prepare_2 = record { passed = refl; out = commit 2 1 1 7 0 ∷ []; fitting = (small (commit 2 1 1 7 0) refl, tt); acts = ((0, refl, refl, refl), refl); counted = refl; space = refl }

takes_commit_0 : Stepped 1 example (member (with_prepare 1 2)) (take (encode (commit 0 1 1 7 0))) space (Ok 0) (member with_one) space
unfolding active backups body check_packet check_backing decode encode open_packet read_packet
takes_commit_0 = record { passed = refl; out = []; fitting = tt; acts = ((refl, refl), refl); counted = refl; space = refl }

takes_commit_2 : Stepped 1 example (member with_one) (take (encode (commit 2 1 1 7 0))) space (Ok 0) (member with_all) space
unfolding active backups body check_packet check_backing decode encode open_packet read_packet
takes_commit_2 = record { passed = refl; out = []; fitting = tt; acts = ((refl, refl), refl); counted = refl; space = refl }

one : Correct example 1
one = record { known = omega arith; honest = λ e. absurd (omega arith) }

two : Correct example 2
two = record { known = omega arith; honest = λ e. absurd (omega arith) }

bytes_below : (s : Statement) → below (encode s) ≡ true → AllBelowBase 256 (encode s)
bytes_below s h = all_below (encode s) h

history : History example events
unfolding below body encode
history =
    more _ (more _ (more _ (more _ (more _ (more _ (more _ none
    one refl (bytes_below (order 0 1 1 7 0) refl) (takes_order 1 (inl refl)))
    two refl (bytes_below (order 0 1 1 7 0) refl) (takes_order 2 (inr refl)))
    one refl (bytes_below (prepare 2 1 1 7 0) refl) takes_prepare_1)
    two refl (bytes_below (prepare 1 1 1 7 0) refl) takes_prepare_2)
    one refl (bytes_below (commit 0 1 1 7 0) refl) takes_commit_0)
    one refl (bytes_below (commit 2 1 1 7 0) refl) takes_commit_2)
    one refl tt runs

-- bytes of one statement hold no forged seal if its signer, where correct, wrote it
single : (s : Statement) (h : List (Event ℕ)) → slice_index (encode s) 1 ≡ s.signer → (Correct example s.signer → Written s.signer (encode s) h) → GenuinelyWritten example (encode s) h
single s h q f p a st g c =
    let b : parts_of (encode s) ≡ encode s ∷ [] = ap parts_of (sym (append-nil (encode s))) ∙ parts_joined (s ∷ []) in
    is_it (subst (λ ps. Among p ps) b a) c
  where
    is_it : Among p (encode s ∷ []) → Correct example (slice_index p 1) → Written (slice_index p 1) p h
    is_it (here e) c =
        let i : slice_index p 1 ≡ s.signer = ap (λ x. slice_index x 1) e ∙ q in
        subst (λ x. Written (slice_index p 1) x h) (sym e) (subst (λ j. Written j (encode s) h) (sym i) (f (subst (λ j. Correct example j) i c)))
    is_it (there a) c = elim a [ ]

-- an event wrote its statement
wrote_it : (i : ℕ) (s : Statement) (e : Event ℕ) (h : List (Event ℕ)) → Among e h → e.who ≡ i → parts_of (written e) ≡ encode s ∷ [] → slice_index (encode s) 1 ≡ i → Written i (encode s) h
wrote_it i s e h a q p g = record { event = e; stands = a; own = q; part = subst (λ ps. Among (encode s) ps) (sym p) (here refl); signed = g }

lies : {X : Type 0} → Correct example 0 → X
lies c = absurd (c.honest refl)

empty : (h : List (Event ℕ)) → GenuinelyWritten example [] h
empty h p a st g c = elim a [ ]

unforged : Unforged example events
unfolding body encode
unforged = (
  empty _,
  (
    single (commit 2 1 1 7 0) _ refl (λ c. wrote_it 2 (commit 2 1 1 7 0) _ _ (there (here refl)) refl refl refl),
    (
      single (commit 0 1 1 7 0) _ refl lies,
      (
        single (prepare 1 1 1 7 0) _ refl (λ c. wrote_it 1 (prepare 1 1 1 7 0) _ _ (there (there (here refl))) refl refl refl),
        (
          single (prepare 2 1 1 7 0) _ refl (λ c. wrote_it 2 (prepare 2 1 1 7 0) _ _ (here refl) refl refl refl),
          (
            single (order 0 1 1 7 0) _ refl lies,
            (
              single (order 0 1 1 7 0) _ refl lies,
              tt,
            ),
          ),
        ),
      ),
    ),
  ),
)

sound_of : (s : Statement) → proper s ≡ true → Fitting s → Sound s
sound_of s p f = record { kept = p; fits = f.body; seal = f.seal }

-- a vote of this round is a packet
packet : (s : Statement) → takes Replica s.kind ≡ true → has_length s.kind (length (encode s)) ≡ true → proper s ≡ true → Fitting s → Taken (encode s) s []
packet s t l p f = record { taken = t; long = l; sound = (sound_of s p f, tt); whole = append-nil (encode s) }

decided : Decided 1 1 7 events
unfolding active backups body encode
decided = inr (
  1,
  record {
    ordered = inr (record { event = _; stands = there (there (there (there (there (there (here refl)))))); own = refl; count = 30; answered = refl; such = (0, ([], (encode (order 0 1 1 7 0), refl, packet (order 0 1 1 7 0) refl refl refl (small (order 0 1 1 7 0) refl)))) });
    prepares = prepares;
    commits = commits;
  },
)
  where
    prepare_2 : Accepted 1 events (TookPrepare 2 1 1 7)
    prepare_2 = record { event = _; stands = there (there (there (there (here refl)))); own = refl; count = 30; answered = refl; such = (0, (encode (prepare 2 1 1 7 0), refl, packet (prepare 2 1 1 7 0) refl refl refl (small (prepare 2 1 1 7 0) refl))) }

    commit_0 : Accepted 1 events (TookCommit 0 1 1 7)
    commit_0 = record { event = _; stands = there (there (here refl)); own = refl; count = 0; answered = refl; such = (0, (encode (commit 0 1 1 7 0), refl, packet (commit 0 1 1 7 0) refl refl refl (small (commit 0 1 1 7 0) refl))) }

    commit_2 : Accepted 1 events (TookCommit 2 1 1 7)
    commit_2 = record { event = _; stands = there (here refl); own = refl; count = 0; answered = refl; such = (0, (encode (commit 2 1 1 7 0), refl, packet (commit 2 1 1 7 0) refl refl refl (small (commit 2 1 1 7 0) refl))) }

    prepares : (j : ℕ) → Among j (backups 1) → ¬ (j ≡ 1) → Accepted 1 events (TookPrepare j 1 1 7)
    prepares j (here e) ne = absurd (ne e)
    prepares j (there (here e)) ne = subst (λ x. Accepted 1 events (TookPrepare x 1 1 7)) (sym e) prepare_2
    prepares j (there (there a)) ne = elim a [ ]

    commits : (j : ℕ) → Among j (active 1) → ¬ (j ≡ 1) → Accepted 1 events (TookCommit j 1 1 7)
    commits j (here e) ne = subst (λ x. Accepted 1 events (TookCommit x 1 1 7)) (sym e) commit_0
    commits j (there (here e)) ne = absurd (ne e)
    commits j (there (there (here e))) ne = subst (λ x. Accepted 1 events (TookCommit x 1 1 7)) (sym e) commit_2
    commits j (there (there (there a))) ne = elim a [ ]

honest : HonestPackets example answers events
unfolding below body encode
honest p (here e) = subst (λ x. AllBelowBase 256 x × GenuinelyWritten example x events) (sym e) (bytes_below (answer 0 1 9 0) refl, single (answer 0 1 9 0) events refl lies)
honest p (there (here e)) = subst (λ x. AllBelowBase 256 x × GenuinelyWritten example x events) (sym e) (bytes_below (answer 1 1 9 0) refl, single (answer 1 1 9 0) events refl (λ c. wrote_it 1 (answer 1 1 9 0) _ _ (here refl) refl refl refl))
honest p (there (there a)) = elim a [ ]

pub exists : Exists
unfolding body check_packet decode encode open_packet read_packet
exists = record {
  history = history;
  unforged = unforged;
  decided = decided;
  carried = refl;
  waiting = _;
  collected = Collected.handed (encode (answer 0 1 9 0)) (Collected.handed (encode (answer 1 1 9 0)) (Collected.made (record { slot = record { 0 = 1 }; results = replicate 4 None }) refl));
  honest = honest;
  closed = record { slot = record { 0 = 1 }; result = 9 };
  closes = refl;
}
