-- A call of bytes that can be read passes exactly if its reading does, and does the same.
use Rattle.std.proofs.Common.{◌≡◌, ℕ, Bool, false, eqb, List, [], ◌∷◌, ◌++◌, map, length, Ok, Result, sym, refl, ap, ◌∙◌, subst, arith}
use Rattle.std.proofs.lemmas.Bool.{ne_eqb}
use Rattle.std.proofs.lemmas.Grind.{flat_map-append}
use Rattle.std.proofs.lemmas.List.{append-nil}
use Rattle.std.specs.Int.Digits.{AllBelowBase}
use Rattle.std.specs.List.{flat_map, AllByRecursion}
use Rattle.packet.specs.Laws.{Sound}
use Rattle.packet.specs.Proofs.{ProofWritten}
use Rattle.packet.specs.Statements.{encode}
use Rattle.packet.specs.declared.kinds.Kind.{Kind}
use Rattle.packet.specs.declared.kinds.Kind.TheVariants as kind
use Rattle.packet.specs.declared.statements.Statement.{Statement}
use Rattle.packet.proofs.Encodings.{one_encoding}
use Rattle.packet.proofs.Readings.{and_then_ok}
use Rattle.packet.proofs.Runs.{one_proof}
use Rattle.proof.specs.Checks.{check_packet, check_proof, rule_of}
use Rattle.refusal.specs.Refusals.{and_then, carried, from_proof}
use Rattle.sealer.specs.Laws.{Genuine}
use Rattle.sealer.specs.Seals.{Meaning}
use Rattle.sealer.proofs.Openings.{carried_ok}
use Rattle.slots.specs.Checks.{verdict, take_tests, lead_tests, led_tests}
use Rattle.slots.specs.declared.cores.Core.{Core}
use Rattle.promise.specs.Statements.{Fitting}
use Rattle.promise.specs.Steps.{Setting, Member, Call, judge_call, seal_in, Acts, Takes, TakesRead, packet_of}
use Rattle.promise.specs.Steps as steps
use Rattle.promise.specs.Histories as histories
use Rattle.promise.proofs.Turns.{Reading, lead, leave, report_on, show, run, Admitted, Does, seal_of}
use Rattle.promise.proofs.Readings.{all_fitting, never, lone, Reads, Taken, reading_of, same_encodings, proof_passes, packet_passes, proof_passed, packet_passed}

-- a proof is read in one way
pub one_proof_reading : (bs : List ℕ) (ss ss' : List Statement) → ProofWritten bs ss → ProofWritten bs ss' → ss ≡ ss'
one_proof_reading bs ss ss' w w' =
    let e : ◌≡◌ {A = Result (List (List ℕ)) _} (Ok (map encode ss)) (Ok (map encode ss')) = sym (one_proof.reads_back bs ss w) ∙ one_proof.reads_back bs ss' w' in
    same_encodings ss ss' w.sound w'.sound cc

-- a certificate is no lone commit
several : (s x : Statement) (xs : List Statement) → eqb (length (map encode (s ∷ x ∷ xs))) 1 ≡ false
several s x xs = ne_eqb _ _ (omega arith)

module _ (own : ℕ) (m : Meaning) (core : Core) where
  take_admits : (bs : List ℕ) (s : Statement) (ss : List Statement) → Taken bs s ss → AllByRecursion (Genuine m) (s ∷ ss) → (k : Kind) → s.kind ≡ k → rule_of k s.view.0 s.slot.0 s.command (map encode (s ∷ ss)) ≡ Ok tt → verdict (take_tests k own core s (eqb (length (map encode (s ∷ ss))) 1)) ≡ Ok tt → Admitted own m core (reading_of k s ss)
  take_admits bs s ss w g kind.Order e r v = (g, r, v)
  take_admits bs s ss w g kind.Prepare e r v = (g.0, v)
  take_admits bs s [] w g kind.Commit e r v = (g.0, v)
  take_admits bs s (x ∷ xs) w g kind.Commit e r v = (g, r, subst (λ (b : Bool). verdict (take_tests kind.Commit own core s b) ≡ Ok tt) (several s x xs) v)
  take_admits bs s ss w g kind.Report e r v = never bs s ss w kind.Report e refl
  take_admits bs s ss w g kind.Wish e r v = (g.0, v)
  take_admits bs s ss w g kind.Checkpoint e r v = (g.0, v)
  take_admits bs s ss w g kind.Answer e r v = never bs s ss w kind.Answer e refl

  take_passes : (bs : List ℕ) (s : Statement) (ss : List Statement) → Taken bs s ss → (k : Kind) → s.kind ≡ k → Admitted own m core (reading_of k s ss) → AllByRecursion (Genuine m) (s ∷ ss) × (rule_of k s.view.0 s.slot.0 s.command (map encode (s ∷ ss)) ≡ Ok tt) × (verdict (take_tests k own core s (eqb (length (map encode (s ∷ ss))) 1)) ≡ Ok tt)
  take_passes bs s ss w kind.Order e a = (a.0, a.1, a.2)
  take_passes bs s ss w kind.Prepare e a = (subst (λ (r : List Statement). AllByRecursion (Genuine m) (s ∷ r)) (sym (lone bs s ss w kind.Prepare e (λ n. refl))) (a.0, tt), refl, a.1)
  take_passes bs s [] w kind.Commit e a = ((a.0, tt), refl, a.1)
  take_passes bs s (x ∷ xs) w kind.Commit e a = (a.0, a.1, subst (λ (b : Bool). verdict (take_tests kind.Commit own core s b) ≡ Ok tt) (sym (several s x xs)) a.2)
  take_passes bs s ss w kind.Report e a = never bs s ss w kind.Report e refl
  take_passes bs s ss w kind.Wish e a = (subst (λ (r : List Statement). AllByRecursion (Genuine m) (s ∷ r)) (sym (lone bs s ss w kind.Wish e (λ n. refl))) (a.0, tt), refl, a.1)
  take_passes bs s ss w kind.Checkpoint e a = (subst (λ (r : List Statement). AllByRecursion (Genuine m) (s ∷ r)) (sym (lone bs s ss w kind.Checkpoint e (λ n. refl))) (a.0, tt), refl, a.1)
  take_passes bs s ss w kind.Answer e a = never bs s ss w kind.Answer e refl

  -- what passes can be read
  pub record Passes (call : Call) : Type 0 where
    pub reading : Reading
    pub reads : Reads call reading
    pub admitted : Admitted own m core reading

  pub call_passes : (call : Call) → AllBelowBase 256 (histories.handed call) → judge_call own m core call ≡ Ok tt → Passes call
  call_passes (steps.lead n c bs) u e =
      let a = and_then_ok (verdict (lead_tests own core n)) _ tt e in
      let b = and_then_ok (carried from_proof (check_proof m core.view.0 n c bs)) _ tt a.2 in
      let p = proof_passed m core.view.0 n c bs u (carried_ok from_proof _ _ b.1) in
      record { reading = lead n c p.statements; reads = (p.statements, p.written, refl); admitted = (a.1, p.genuine, p.backed, b.2) }
  call_passes (steps.take bs) u e =
      let a = and_then_ok (carried from_proof (check_packet m bs)) _ tt e in
      let s = a.0.0 in
      let p = packet_passed m bs a.0 u (carried_ok from_proof _ _ a.1) in
      let v = subst (λ (ps : List (List ℕ)). verdict (take_tests s.kind own core s (eqb (length ps) 1)) ≡ Ok tt) p.parts a.2 in
      record { reading = reading_of s.kind s p.rest; reads = (s, (p.rest, p.written, refl)); admitted = take_admits bs s p.rest p.written p.genuine s.kind refl p.rule v }
  call_passes steps.leave u e = record { reading = leave; reads = refl; admitted = e }
  call_passes (steps.report_on n) u e = record { reading = report_on n; reads = refl; admitted = e }
  call_passes (steps.show n) u e = record { reading = show n; reads = refl; admitted = e }
  call_passes steps.run u e = record { reading = run; reads = refl; admitted = e }

  -- and what is admitted passes
  pub admitted_passes : (call : Call) (r : Reading) → Reads call r → Admitted own m core r → judge_call own m core call ≡ Ok tt
  admitted_passes (steps.lead n c bs) r x ad =
      let a = subst (λ (y : Reading). Admitted own m core y) x.2 ad in
      ap (λ y. and_then y (λ _. and_then (carried from_proof (check_proof m core.view.0 n c bs)) (λ _. verdict (led_tests core n c)))) a.0
      ∙ ap (λ y. and_then (carried from_proof y) (λ _. verdict (led_tests core n c))) (proof_passes m core.view.0 n c bs x.0 x.1 a.1 a.2)
      ∙ a.3
  admitted_passes (steps.take bs) r x ad =
      let s = x.0 in
      let ss = x.1.0 in
      let t = take_passes bs s ss x.1.1 s.kind refl (subst (λ (y : Reading). Admitted own m core y) x.1.2 ad) in
      ap (λ y. and_then (carried from_proof y) (λ p. verdict (take_tests p.0.kind own core p.0 (eqb (length p.1) 1)))) (packet_passes m bs s ss x.1.1 t.0 t.1)
      ∙ t.2
  admitted_passes steps.leave r x ad = subst (λ (y : Reading). Admitted own m core y) x ad
  admitted_passes (steps.report_on n) r x ad = subst (λ (y : Reading). Admitted own m core y) x ad
  admitted_passes (steps.show n) r x ad = subst (λ (y : Reading). Admitted own m core y) x ad
  admitted_passes steps.run r x ad = subst (λ (y : Reading). Admitted own m core y) x ad

-- the seals in the bytes
seals_in : (ss : List Statement) → AllByRecursion Sound ss → map seal_in (map encode ss) ≡ map seal_of ss
seals_in [] h = refl
seals_in (s ∷ ss) h =
    let e = ap (λ p. p.2) (one_encoding.sealed s h.0) in
    let r = seals_in ss h.1 in
    λ i. e i ∷ r i

module _ {State : Type 0} (own : ℕ) (k : Setting State) (m m' : Member State) where
  -- a packet that passed does what its reading does
  take_does : (s : Statement) (ss : List Statement) (bs : List ℕ) → Taken bs s ss → (kd : Kind) → s.kind ≡ kd → (out : List Statement) → Takes own k.genuine kd m.core s (map seal_of (s ∷ ss)) out m'.core → m'.state ≡ m.state → Does own k m (reading_of kd s ss) out m'
  take_does s ss bs w kind.Order e out t st = (t, st)
  take_does s ss bs w kind.Prepare e out t st = (t, st)
  take_does s [] bs w kind.Commit e out t st = (t, st)
  take_does s (x ∷ xs) bs w kind.Commit e out t st = ((t.0, subst (λ (b : Bool). steps.Commits own k.genuine b m.core s (map seal_of (s ∷ x ∷ xs)) m'.core) (more_seals s x xs) t.1), st)
    where
      more_seals : (s x : Statement) (xs : List Statement) → eqb (length (map seal_of (s ∷ x ∷ xs))) 1 ≡ false
      more_seals s x xs = ne_eqb _ _ (omega arith)
  take_does s ss bs w kind.Report e out t st = absurd t
  take_does s ss bs w kind.Wish e out t st = (t, st)
  take_does s ss bs w kind.Checkpoint e out t st = (t, st)
  take_does s ss bs w kind.Answer e out t st = absurd t

all_joined : {X : Type 0} (P : X → Type 0) (xs ys : List X) → AllByRecursion P xs → AllByRecursion P ys → AllByRecursion P (xs ++ ys)
all_joined P [] ys a b = b
all_joined P (x ∷ xs) ys a b = (a.0, all_joined P xs ys a.1 b)

module _ {State : Type 0} (own : ℕ) (k : Setting State) (m m' : Member State) where
  -- an accepted call, as it is read, with all that it wrote
  pub record Performed (call : Call) (packet : List ℕ) : Type 0 where
    pub reading : Reading
    pub reads : Reads call reading
    pub admitted : Admitted own k.genuine m.core reading
    pub out : List Statement
    pub fitting : AllByRecursion Fitting out
    pub whole : packet ≡ flat_map encode out
    pub does : Does own k m reading out m'

  pub performed : (call : Call) (out : List Statement) → AllBelowBase 256 (histories.handed call) → judge_call own k.genuine m.core call ≡ Ok tt → AllByRecursion Fitting out → Acts own k m call out m' → Performed call (packet_of call out)
  performed (steps.lead n c bs) out u e f act =
      let a = and_then_ok (verdict (lead_tests own m.core n)) _ tt e in
      let b = and_then_ok (carried from_proof (check_proof k.genuine m.core.view.0 n c bs)) _ tt a.2 in
      let p = proof_passed k.genuine m.core.view.0 n c bs u (carried_ok from_proof _ _ b.1) in
      let ss = p.statements in
      record {
        reading = lead n c ss;
        reads = (ss, p.written, refl);
        admitted = (a.1, p.genuine, p.backed, b.2);
        out = out ++ ss;
        fitting = all_joined Fitting out ss f (all_fitting ss p.written.sound);
        whole = ap (λ r. flat_map encode out ++ r) (sym p.written.whole) ∙ sym (flat_map-append encode out ss);
        does = ((out, act.0, refl), act.1);
      }
  performed (steps.take bs) out u e f act =
      let a = and_then_ok (carried from_proof (check_packet k.genuine bs)) _ tt e in
      let s = a.0.0 in
      let q = carried_ok from_proof _ _ a.1 in
      let p = packet_passed k.genuine bs a.0 u q in
      let v = subst (λ (ps : List (List ℕ)). verdict (take_tests s.kind own m.core s (eqb (length ps) 1)) ≡ Ok tt) p.parts a.2 in
      let t₀ : Takes own k.genuine s.kind m.core s (map seal_in a.0.1) out m'.core = subst (λ r. TakesRead own k.genuine m.core r out m'.core) q act.0 in
      let t : Takes own k.genuine s.kind m.core s (map seal_of (s ∷ p.rest)) out m'.core = subst (λ ts. Takes own k.genuine s.kind m.core s ts out m'.core) (ap (map seal_in) p.parts ∙ seals_in (s ∷ p.rest) p.written.sound) t₀ in
      record {
        reading = reading_of s.kind s p.rest;
        reads = (s, (p.rest, p.written, refl));
        admitted = take_admits own k.genuine m.core bs s p.rest p.written p.genuine s.kind refl p.rule v;
        out = out;
        fitting = f;
        whole = append-nil (flat_map encode out);
        does = take_does own k m m' s p.rest bs p.written s.kind refl out t act.1;
      }
  performed steps.leave out u e f act = record { reading = leave; reads = refl; admitted = e; out = out; fitting = f; whole = append-nil (flat_map encode out); does = act }
  performed (steps.report_on n) out u e f act = record { reading = report_on n; reads = refl; admitted = e; out = out; fitting = f; whole = append-nil (flat_map encode out); does = act }
  performed (steps.show n) out u e f act = record { reading = show n; reads = refl; admitted = e; out = out; fitting = f; whole = append-nil (flat_map encode out); does = act }
  performed steps.run out u e f act = record { reading = run; reads = refl; admitted = e; out = out; fitting = f; whole = append-nil (flat_map encode out); does = act }
