-- What a history of bytes says, its reading says, and the other way round.
use Rattle.std.proofs.Common.{◌≡◌, ℕ, ◌+◌, true, cond, eqb, List, [], ◌∷◌, map, is_some, Some, None, Ok, Err, Option, Result, sym, refl, ap, ◌∙◌, subst, inl, inr, arith}
use Rattle.std.proofs.lemmas.Bool.{cases_eq, cond-true, cond-false, eq-eqb, ne_eqb}
use Rattle.std.specs.List.{flat_map, AllByRecursion}
use Rattle.agreement.specs.Lists.{Among}
use Rattle.agreement.specs.Lists.Among.{here, there}
use Rattle.agreement.proofs.Lists.{among_map}
use Rattle.packet.specs.Laws.{Sound}
use Rattle.packet.specs.Packets.{parts_of}
use Rattle.packet.specs.Statements.{encode}
use Rattle.packet.specs.declared.kinds.Kind.{Kind}
use Rattle.packet.specs.declared.kinds.Kind.TheVariants as kind
use Rattle.packet.specs.declared.statements.Statement.{Statement}
use Rattle.packet.proofs.Encodings.{one_encoding, same_encoding}
use Rattle.packet.proofs.Readings.{parts_joined}
use Rattle.refusal.specs.declared.replicas.ReplicaFault.{ReplicaFault}
use Rattle.sealer.specs.Seals.{genuine_part}
use Rattle.promise.specs.Statements.{Fitting}
use Rattle.promise.specs.Steps.{Setting, Member, Call}
use Rattle.promise.specs.Steps as steps
use Rattle.promise.specs.Histories.{Event, History, Correct}
use Rattle.promise.specs.Histories as histories
use Rattle.promise.proofs.Turns.{Reading, lead, an_order, a_prepare, a_commit, a_certificate, a_wish, a_mark, leave, report_on, show, run, Readable, Turn}
use Rattle.promise.proofs.Turns as turns
use Rattle.promise.proofs.Readings.{Reads, readable, reading_of, handed_as}
use Rattle.promise.proofs.Backs.{all_each}
use Rattle.promise.proofs.Lifts.{turn_of, Told, wrote, refused, Lifted, nothing, kept, left_out}

-- runs
no_run : (k : Kind) (s : Statement) (ss : List Statement) (a : Option (List Statement)) → turns.ran (reading_of k s ss) a ≡ 0
no_run kind.Order s ss a = refl
no_run kind.Prepare s ss a = refl
no_run kind.Commit s [] a = refl
no_run kind.Commit s (x ∷ xs) a = refl
no_run kind.Report s ss a = refl
no_run kind.Wish s ss a = refl
no_run kind.Checkpoint s ss a = refl
no_run kind.Answer s ss a = refl

refused_ran : (call : Call) (f : ReplicaFault) → histories.ran call (Err f) ≡ 0
refused_ran (steps.lead n c bs) f = refl
refused_ran (steps.take bs) f = refl
refused_ran steps.leave f = refl
refused_ran (steps.report_on n) f = refl
refused_ran (steps.show n) f = refl
refused_ran steps.run f = refl

module _ {State : Type 0} where
  ran_run : (e : Event State) (a : Option (List Statement)) → Told e a → histories.ran steps.run e.answer ≡ turns.ran run a
  ran_run e (Some out) (wrote count _ q f w) = ap (histories.ran steps.run) q
  ran_run e None (refused f q) = ap (histories.ran steps.run) q

  same_ran : (e : Event State) (call : Call) (r : Reading) (a : Option (List Statement)) → Reads call r → Told e a → histories.ran call e.answer ≡ turns.ran r a
  same_ran e (steps.lead n c bs) r a x t = sym (ap (λ y. turns.ran y a) x.2)
  same_ran e (steps.take bs) r a x t = sym (ap (λ y. turns.ran y a) x.1.2 ∙ no_run x.0.kind x.0 x.1.0 a)
  same_ran e steps.leave r a x t = sym (ap (λ y. turns.ran y a) x)
  same_ran e (steps.report_on n) r a x t = sym (ap (λ y. turns.ran y a) x)
  same_ran e (steps.show n) r a x t = sym (ap (λ y. turns.ran y a) x)
  same_ran e steps.run r a x t = ran_run e a t ∙ sym (ap (λ y. turns.ran y a) x)

-- the statements of what can be read are sound
sounds : (r : Reading) → Readable r → AllByRecursion Sound (turns.handed r)
sounds (lead n c ss) w = w.sound
sounds (an_order s ss) w = w.1.sound
sounds (a_prepare s) w = w.1.sound
sounds (a_commit s) w = w.1.sound
sounds (a_certificate s ss) w = w.1.sound
sounds (a_wish s) w = w.1.sound
sounds (a_mark s) w = w.1.sound
sounds leave w = tt
sounds (report_on n) w = tt
sounds (show n) w = tt
sounds run w = tt

map_among : {X Y : Type 0} (f : X → Y) {x : X} (xs : List X) → Among x xs → Among (f x) (map f xs)
map_among f [] a = elim a [ ]
map_among f (y ∷ ys) (here e) = here (ap f e)
map_among f (y ∷ ys) (there a) = there (map_among f ys a)

module _ {State : Type 0} (k : Setting State) where
  pub same_runs : (i : ℕ) {h : List (Event State)} {ts : List (Turn State)} → Lifted k h ts → histories.runs i h ≡ turns.runs i ts
  same_runs i nothing = refl
  same_runs i (kept {h} {ts} e r a x t l) = ap (λ (n : ℕ). cond (eqb e.who i) n 0 + histories.runs i h) (same_ran e e.call r a x t) ∙ ap (λ (n : ℕ). cond (eqb e.who i) (turns.ran r a) 0 + n) (same_runs i l)
  same_runs i (left_out {h} e f q s w l) =
      let z : histories.ran e.call e.answer ≡ 0 = ap (histories.ran e.call) q ∙ refused_ran e.call f in
      elim (cases_eq e.who i) [
        | inl p ↦ ap (λ (n : ℕ). n + histories.runs i h) (cond-true (eqb e.who i) _ _ (eq-eqb e.who i p) ∙ z) ∙ zero_plus ∙ same_runs i l
        | inr p ↦ ap (λ (n : ℕ). n + histories.runs i h) (cond-false (eqb e.who i) _ _ (ne_eqb e.who i p)) ∙ zero_plus ∙ same_runs i l
      ]
    where
      zero_plus : {n : ℕ} → 0 + n ≡ n
      zero_plus = omega arith

  -- an accepted call is a turn
  pub record Lowered (e : Event State) (ts : List (Turn State)) : Type 0 where
    pub reading : Reading
    pub out : List Statement
    pub stands : Among (turn_of e reading (Some out)) ts
    pub reads : Reads e.call reading
    pub fitting : AllByRecursion Fitting out
    pub whole : histories.written e ≡ flat_map encode out

  pub told_wrote : (e : Event State) (a : Option (List Statement)) (count : ℕ) → e.answer ≡ Ok count → Told e a → (out : List Statement) × (a ≡ Some out) × AllByRecursion Fitting out × (histories.written e ≡ flat_map encode out)
  told_wrote e (Some out) count q (wrote n _ p f w) = (out, refl, f, w)
  told_wrote e None count q (refused f p) = let z : ◌≡◌ {A = ℕ} 0 1 = cc in absurd (omega arith)

  more_lowered : {e : Event State} {t : Turn State} {ts : List (Turn State)} → Lowered e ts → Lowered e (t ∷ ts)
  more_lowered x = record { reading = x.reading; out = x.out; stands = there x.stands; reads = x.reads; fitting = x.fitting; whole = x.whole }

  pub lowered : {h : List (Event State)} {ts : List (Turn State)} {e : Event State} (count : ℕ) → e.answer ≡ Ok count → Among e h → Lifted k h ts → Lowered e ts
  lowered count q a nothing = elim a [ ]
  lowered {e = e} count q (here p) (kept {ts = ts} x r b rd t l) =
      let w = told_wrote x b count (ap (λ (y : Event State). y.answer) (sym p) ∙ q) t in
      subst (λ (y : Event State). Lowered y (turn_of x r b ∷ ts)) (sym p) (record { reading = r; out = w.0; stands = here (ap (turn_of x r) (sym w.1)); reads = rd; fitting = w.2; whole = w.3 })
  lowered count q (there a) (kept x r b rd t l) = more_lowered (lowered count q a l)
  lowered count q (here p) (left_out x f y s w l) = let o = ap (λ (z : Event State). z.answer) p in let z : ◌≡◌ {A = ℕ} 0 1 = cc in absurd (omega arith)
  lowered count q (there a) (left_out x f y s w l) = lowered count q a l

  -- a turn is a call
  pub record Raised (t : Turn State) (h : List (Event State)) : Type 0 where
    pub event : Event State
    pub stands : Among event h
    pub reading : Reading
    pub answer : Option (List Statement)
    pub is : t ≡ turn_of event reading answer
    pub reads : Reads event.call reading
    pub told : Told event answer

  more_raised : {t : Turn State} {e : Event State} {h : List (Event State)} → Raised t h → Raised t (e ∷ h)
  more_raised x = record { event = x.event; stands = there x.stands; reading = x.reading; answer = x.answer; is = x.is; reads = x.reads; told = x.told }

  pub raised : {h : List (Event State)} {ts : List (Turn State)} {t : Turn State} → Among t ts → Lifted k h ts → Raised t h
  raised a nothing = elim a [ ]
  raised (here p) (kept e r b rd t l) = record { event = e; stands = here refl; reading = r; answer = b; is = p; reads = rd; told = t }
  raised (there a) (kept e r b rd t l) = more_raised (raised a l)
  raised a (left_out e f q s w l) = more_raised (raised a l)

  -- a statement that was written in bytes was written
  pub written_lowered : {i : ℕ} {h : List (Event State)} {ts : List (Turn State)} (s : Statement) → Fitting s → s.signer ≡ i → Lifted k h ts → histories.Written i (encode s) h → turns.Written i s ts
  written_lowered {i} {h} {ts} s f g l w = by w.event.answer refl
    where
      by : (a : Result ℕ ReplicaFault) → w.event.answer ≡ a → turns.Written i s ts
      by (Ok count) q =
          let x = lowered count q w.stands l in
          let parts = among_map encode x.out (subst (λ ps. Among (encode s) ps) (ap parts_of x.whole ∙ parts_joined x.out) w.part) in
          let fit = all_each Fitting x.out x.fitting parts.1 in
          let same = same_encoding parts.0 s fit.body fit.seal f.body f.seal parts.2 in
          record { turn = turn_of w.event x.reading (Some x.out); stands = x.stands; own = w.own; out = x.out; answered = refl; part = subst (λ y. Among y x.out) same parts.1; signed = g }
      by (Err f) q = elim (subst (λ ps. Among (encode s) ps) (ap (λ a. parts_of (histories.written_in a w.event.reply')) q) w.part) [ ]

  -- no seal is forged in what bytes hand in, so none in what their reading does
  pub honest : (s : Statement) (bytes : List ℕ) (ss : List Statement) {h : List (Event State)} {ts : List (Turn State)} → Lifted k h ts → bytes ≡ flat_map encode ss → Sound s → Among s ss → histories.GenuinelyWritten k bytes h → turns.Honest k s ts
  honest s bytes ss {h} l e d a g c m =
      let p = encode s in
      let sealed = one_encoding.sealed s d in
      let signer = ap (λ x. x.0) sealed in
      let inside : Among (encode s) (parts_of bytes) = subst (λ ps. Among (encode s) ps) (sym (ap parts_of e ∙ parts_joined ss)) (map_among encode ss a) in
      let genuine : genuine_part k.genuine (encode s) ≡ true = ap (λ x. k.genuine x.0 x.1 x.2) sealed ∙ m in
      let w = g p inside (ap is_some (one_encoding.reads_back s d)) genuine (subst (λ (i : ℕ). Correct k i) (sym signer) c) in
      written_lowered s (record { body = d.fits; seal = d.seal }) refl l (subst (λ (i : ℕ). histories.Written i (encode s) h) signer w)

  pub unforged_lowered : {h : List (Event State)} {ts : List (Turn State)} → Lifted k h ts → histories.Unforged k h → turns.Unforged k ts
  unforged_lowered nothing u = tt
  unforged_lowered (kept {h} {ts} e r a x t l) u = ((λ s b. honest s (histories.handed e.call) (turns.handed r) l (handed_as e.call r x) (all_each Sound (turns.handed r) (sounds r (readable e.call r x)) b) b u.0), unforged_lowered l u.1)
  unforged_lowered (left_out e f q s w l) u = unforged_lowered l u.1
