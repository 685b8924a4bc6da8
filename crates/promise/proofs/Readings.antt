-- How a call of bytes is read as a call of statements: what passes here passes there, and the other way round.
use Rattle.std.proofs.Common.{◌≡◌, ℕ, suc, ◌*◌, true, false, eqb, ◌⊎◌, List, [], ◌∷◌, map, length, Some, None, Ok, Err, Option, Result, sym, refl, ap, ◌∙◌, subst, inl, inr, arith}
use Rattle.std.proofs.lemmas.List.{nil_from_length}
use Rattle.std.proofs.lemmas.Bool.{eqb-true}
use Rattle.std.specs.Int.Digits.{AllBelowBase}
use Rattle.std.specs.List.{flat_map, AllByRecursion}
use Rattle.packet.specs.Laws as packets
use Rattle.packet.specs.Laws.{Sound}
use Rattle.packet.specs.Packets.{has_length, read_packet, takes}
use Rattle.packet.specs.Proofs.{ProofWritten, read_proof}
use Rattle.packet.specs.Statements.{encode}
use Rattle.packet.specs.declared.kinds.Kind.{Kind}
use Rattle.packet.specs.declared.kinds.Kind.TheVariants as kind
use Rattle.packet.specs.declared.packets.Reader.TheVariants.{Replica}
use Rattle.packet.specs.declared.statements.Statement.{Statement}
use Rattle.packet.proofs.Encodings.{same_encoding}
use Rattle.packet.proofs.Readings.{and_then_ok, length_joined, packet_back, packet_there}
use Rattle.packet.proofs.Runs.{one_proof}
use Rattle.proof.specs.Checks.{check_packet, check_proof, check_rule}
use Rattle.proof.specs.Reports.{check_backing}
use Rattle.refusal.specs.Refusals.{and_then, carried, proof_from_sealer}
use Rattle.sealer.specs.Laws.{Genuine}
use Rattle.sealer.specs.Seals.{Meaning}
use Rattle.sealer.proofs.Openings.{carried_ok, one_opening}
use Rattle.sealer.proofs.Runs.{one_proof_opening}
use Rattle.promise.specs.Statements.{Fitting}
use Rattle.promise.specs.Steps.{Setting, Member, Call, judge_call, seal_in, Acts, Commits, Takes, TakesRead, behind, packet_of}
use Rattle.promise.specs.Steps as steps
use Rattle.promise.specs.Histories as histories
use Rattle.promise.proofs.Turns.{Reading, lead, an_order, a_prepare, a_commit, a_certificate, a_wish, a_mark, leave, report_on, show, run, Packet, Readable, Admitted, Does, seal_of}
use Rattle.promise.proofs.Turns as turns

-- a packet by the kind of its first statement; nobody takes a packet that begins with a report or an answer
abbrev pub reading_of : Kind → Statement → List Statement → Reading
reading_of kind.Order s ss = an_order s ss
reading_of kind.Prepare s ss = a_prepare s
reading_of kind.Commit s [] = a_commit s
reading_of kind.Commit s (r ∷ rs) = a_certificate s (r ∷ rs)
reading_of kind.Report s ss = leave
reading_of kind.Wish s ss = a_wish s
reading_of kind.Checkpoint s ss = a_mark s
reading_of kind.Answer s ss = leave

abbrev pub Taken : List ℕ → Statement → List Statement → Type 0
Taken bs s ss = packets.Written Replica bs s ss

abbrev pub Reads : Call → Reading → Type 0
Reads (steps.lead n c bs) r = (ss : List Statement) × ProofWritten bs ss × (r ≡ lead n c ss)
Reads (steps.take bs) r = (s : Statement) × ((ss : List Statement) × Taken bs s ss × (r ≡ reading_of s.kind s ss))
Reads steps.leave r = r ≡ leave
Reads (steps.report_on n) r = r ≡ report_on n
Reads (steps.show n) r = r ≡ show n
Reads steps.run r = r ≡ run

-- what a packet's length says of its statements
length_of : (bs : List ℕ) (s : Statement) (ss : List Statement) → Taken bs s ss → length bs ≡ 30 * suc (length ss)
length_of bs s ss w = ap length (sym w.whole) ∙ length_joined (s ∷ ss)

alone : (k : Kind) (n m : ℕ) → (has_length k n ≡ eqb n 30) → has_length k n ≡ true → n ≡ 30 * suc m → m ≡ 0
alone k n m e h l = let t = eqb-true n 30 (sym e ∙ h) in omega arith

-- the statements of a reading
abbrev pub statements_of : Reading → Option (Statement × List Statement)
statements_of (lead n c ss) = None
statements_of (an_order s ss) = Some (s, ss)
statements_of (a_prepare s) = Some (s, [])
statements_of (a_commit s) = Some (s, [])
statements_of (a_certificate s ss) = Some (s, ss)
statements_of (a_wish s) = Some (s, [])
statements_of (a_mark s) = Some (s, [])
statements_of leave = None
statements_of (report_on n) = None
statements_of (show n) = None
statements_of run = None

module _ (bs : List ℕ) (s : Statement) (ss : List Statement) (w : Taken bs s ss) where
  pub lone : (k : Kind) → s.kind ≡ k → ((n : ℕ) → has_length k n ≡ eqb n 30) → ss ≡ []
  lone k e h = nil_from_length ss (alone k (length bs) (length ss) (h (length bs)) (rw e at w.long) (length_of bs s ss w))

  pub never : {X : Type 0} (k : Kind) → s.kind ≡ k → takes Replica k ≡ false → X
  never k e f = let t : takes Replica k ≡ true = rw e at w.taken in let z : ◌≡◌ {A = ℕ} 0 1 = cc in absurd (omega arith)

  as_packet : Packet s ss
  as_packet = subst (λ b. packets.Written Replica b s ss) (sym w.whole) w

  packet_alone : ss ≡ [] → Packet s []
  packet_alone e = subst (λ r. Packet s r) e as_packet

  by_kind : (k : Kind) → s.kind ≡ k → Readable (reading_of k s ss) × (statements_of (reading_of k s ss) ≡ Some (s, ss)) × (turns.handed (reading_of k s ss) ≡ s ∷ ss)
  by_kind kind.Order e = ((e, as_packet), refl, refl)
  by_kind kind.Prepare e = let n = lone kind.Prepare e (λ m. refl) in ((e, packet_alone n), ap (λ r. Some (s, r)) (sym n), ap (λ r. s ∷ r) (sym n))
  by_kind kind.Commit e = by_rest ss w refl
    where
      by_rest : (rs : List Statement) → Taken bs s rs → rs ≡ ss → Readable (reading_of kind.Commit s rs) × (statements_of (reading_of kind.Commit s rs) ≡ Some (s, rs)) × (turns.handed (reading_of kind.Commit s rs) ≡ s ∷ rs)
      by_rest [] w q = ((e, subst (λ b. packets.Written Replica b s []) (sym w.whole) w), refl, refl)
      by_rest (r ∷ rs) w q = ((e, subst (λ b. packets.Written Replica b s (r ∷ rs)) (sym w.whole) w, λ z. let y : ◌≡◌ {A = ℕ} 0 1 = cc in absurd (omega arith)), refl, refl)
  by_kind kind.Report e = never kind.Report e refl
  by_kind kind.Wish e = let n = lone kind.Wish e (λ m. refl) in ((e, packet_alone n), ap (λ r. Some (s, r)) (sym n), ap (λ r. s ∷ r) (sym n))
  by_kind kind.Checkpoint e = let n = lone kind.Checkpoint e (λ m. refl) in ((e, packet_alone n), ap (λ r. Some (s, r)) (sym n), ap (λ r. s ∷ r) (sym n))
  by_kind kind.Answer e = never kind.Answer e refl

  pub statements_back : statements_of (reading_of s.kind s ss) ≡ Some (s, ss)
  statements_back = (by_kind s.kind refl).1

pub readable : (call : Call) (r : Reading) → Reads call r → Readable r
readable (steps.lead n c bs) r x = subst Readable (sym x.2) (subst (λ b. ProofWritten b x.0) (sym x.1.whole) x.1)
readable (steps.take bs) r x = subst Readable (sym x.1.2) (by_kind bs x.0 x.1.0 x.1.1 x.0.kind refl).0
readable steps.leave r x = subst Readable (sym x) tt
readable (steps.report_on n) r x = subst Readable (sym x) tt
readable (steps.show n) r x = subst Readable (sym x) tt
readable steps.run r x = subst Readable (sym x) tt

pub handed_as : (call : Call) (r : Reading) → Reads call r → histories.handed call ≡ flat_map encode (turns.handed r)
handed_as (steps.lead n c bs) r x = sym x.1.whole ∙ ap (λ y. flat_map encode (turns.handed y)) (sym x.2)
handed_as (steps.take bs) r x = sym x.1.1.whole ∙ ap (flat_map encode) (sym (by_kind bs x.0 x.1.0 x.1.1 x.0.kind refl).2) ∙ ap (λ y. flat_map encode (turns.handed y)) (sym x.1.2)
handed_as steps.leave r x = ap (λ y. flat_map encode (turns.handed y)) (sym x)
handed_as (steps.report_on n) r x = ap (λ y. flat_map encode (turns.handed y)) (sym x)
handed_as (steps.show n) r x = ap (λ y. flat_map encode (turns.handed y)) (sym x)
handed_as steps.run r x = ap (λ y. flat_map encode (turns.handed y)) (sym x)

-- sound statements fit
pub all_fitting : (ss : List Statement) → AllByRecursion Sound ss → AllByRecursion Fitting ss
all_fitting [] h = tt
all_fitting (s ∷ ss) h = (record { body = h.0.fits; seal = h.0.seal }, all_fitting ss h.1)

-- statements that fit are read in one way
pub same_fitting : (xs ys : List Statement) → AllByRecursion Fitting xs → AllByRecursion Fitting ys → map encode xs ≡ map encode ys → xs ≡ ys
same_fitting [] [] a b e = refl
same_fitting [] (y ∷ ys) a b e = let z : ◌≡◌ {A = ℕ} 0 1 = cc in absurd (omega arith)
same_fitting (x ∷ xs) [] a b e = let z : ◌≡◌ {A = ℕ} 0 1 = cc in absurd (omega arith)
same_fitting (x ∷ xs) (y ∷ ys) a b e =
    let front : encode x ≡ encode y = cc in
    let rest : map encode xs ≡ map encode ys = cc in
    let p = same_encoding x y a.0.body a.0.seal b.0.body b.0.seal front in
    let q = same_fitting xs ys a.1 b.1 rest in
    λ i. p i ∷ q i

pub same_encodings : (xs ys : List Statement) → AllByRecursion Sound xs → AllByRecursion Sound ys → map encode xs ≡ map encode ys → xs ≡ ys
same_encodings xs ys a b e = same_fitting xs ys (all_fitting xs a) (all_fitting ys b) e

-- bytes are one packet
pub one_reading : (bs : List ℕ) (s s' : Statement) (ss ss' : List Statement) → Taken bs s ss → Taken bs s' ss' → (s ≡ s') × (ss ≡ ss')
one_reading bs s s' ss ss' w w' =
    let e : ◌≡◌ {A = Result (Statement × List (List ℕ)) _} (Ok (s, map encode (s ∷ ss))) (Ok (s', map encode (s' ∷ ss'))) = sym (packet_back Replica bs s ss w) ∙ packet_back Replica bs s' ss' w' in
    let f : ◌≡◌ {A = Statement × List (List ℕ)} (s, map encode (s ∷ ss)) (s', map encode (s' ∷ ss')) = cc in
    let g = same_encodings (s ∷ ss) (s' ∷ ss') w.sound w'.sound (ap (λ p. p.1) f) in
    (ap (λ p. p.0) f, let h = g in cc)

pub reads_as : (bs : List ℕ) (s : Statement) (ss : List Statement) (r : Reading) → Taken bs s ss → Reads (steps.take bs) r → r ≡ reading_of s.kind s ss
reads_as bs s ss r w x =
    let u = one_reading bs s x.0 ss x.1.0 w x.1.1 in
    x.1.2 ∙ ap (λ y. reading_of y.kind y x.1.0) (sym u.0) ∙ ap (reading_of s.kind s) (sym u.1)

-- whether a call can be read
pub readability : (call : Call) → AllBelowBase 256 (histories.handed call) → ((r : Reading) × Reads call r) ⊎ ((r : Reading) → ¬ Reads call r)
readability (steps.lead n c bs) u = by (read_proof bs) refl
  where
    by : (x : Result (List (List ℕ)) _) → read_proof bs ≡ x → ((r : Reading) × Reads (steps.lead n c bs) r) ⊎ ((r : Reading) → ¬ Reads (steps.lead n c bs) r)
    by (Ok ps) e = let w = one_proof.writes_back bs ps u e in inl (lead n c w.0, (w.0, w.1, refl))
    by (Err f) e = inr (λ r x. let g = one_proof.reads_back bs x.0 x.1 in let z : ◌≡◌ {A = ℕ} 0 1 = cc in omega arith)
readability (steps.take bs) u = by (read_packet Replica bs) refl
  where
    by : (x : Result (Statement × List (List ℕ)) _) → read_packet Replica bs ≡ x → ((r : Reading) × Reads (steps.take bs) r) ⊎ ((r : Reading) → ¬ Reads (steps.take bs) r)
    by (Ok p) e = let w = packet_there Replica bs p.0 p.1 u e in inl (reading_of p.0.kind p.0 w.0, (p.0, (w.0, w.1, refl)))
    by (Err f) e = inr (λ r x. let g = packet_back Replica bs x.0 x.1.0 x.1.1 in let z : ◌≡◌ {A = ℕ} 0 1 = cc in omega arith)
readability steps.leave u = inl (leave, refl)
readability (steps.report_on n) u = inl (report_on n, refl)
readability (steps.show n) u = inl (show n, refl)
readability steps.run u = inl (run, refl)

-- a proof, and a packet, that passes
pub proof_passes : (m : Meaning) (v n c : ℕ) (bs : List ℕ) (ss : List Statement) → ProofWritten bs ss → AllByRecursion (Genuine m) ss → check_backing v n c (map encode ss) 0 ≡ Ok tt → check_proof m v n c bs ≡ Ok tt
unfolding check_proof
proof_passes m v n c bs ss w g h = ap (λ x. and_then (carried proof_from_sealer x) (λ ps. check_backing v n c ps 0)) ((one_proof_opening m).opens bs ss w g) ∙ h

pub packet_passes : (m : Meaning) (bs : List ℕ) (s : Statement) (ss : List Statement) → Taken bs s ss → AllByRecursion (Genuine m) (s ∷ ss) → check_rule s (map encode (s ∷ ss)) ≡ Ok tt → check_packet m bs ≡ Ok (s, map encode (s ∷ ss))
unfolding check_packet
packet_passes m bs s ss w g h =
    ap (λ x. and_then (carried proof_from_sealer x) (λ p. and_then (check_rule p.0 p.1) (λ _. Ok p))) ((one_opening m).opens Replica bs s ss w g)
    ∙ ap (λ x. and_then x (λ _. Ok (s, map encode (s ∷ ss)))) h

pub record ProofPassed (m : Meaning) (v n c : ℕ) (bs : List ℕ) : Type 0 where
  pub statements : List Statement
  pub written : ProofWritten bs statements
  pub genuine : AllByRecursion (Genuine m) statements
  pub backed : check_backing v n c (map encode statements) 0 ≡ Ok tt

pub proof_passed : (m : Meaning) (v n c : ℕ) (bs : List ℕ) → AllBelowBase 256 bs → check_proof m v n c bs ≡ Ok tt → ProofPassed m v n c bs
unfolding check_proof
proof_passed m v n c bs u e =
    let a = and_then_ok _ _ tt e in
    let w = (one_proof_opening m).opened bs a.0 u (carried_ok proof_from_sealer _ _ a.1) in
    record { statements = w.0; written = w.1; genuine = w.2; backed = subst (λ ps. check_backing v n c ps 0 ≡ Ok tt) w.3 a.2 }

pub record PacketPassed (m : Meaning) (bs : List ℕ) (p : Statement × List (List ℕ)) : Type 0 where
  pub rest : List Statement
  pub written : Taken bs p.0 rest
  pub genuine : AllByRecursion (Genuine m) (p.0 ∷ rest)
  pub parts : p.1 ≡ map encode (p.0 ∷ rest)
  pub rule : check_rule p.0 (map encode (p.0 ∷ rest)) ≡ Ok tt

pub packet_passed : (m : Meaning) (bs : List ℕ) (p : Statement × List (List ℕ)) → AllBelowBase 256 bs → check_packet m bs ≡ Ok p → PacketPassed m bs p
unfolding check_packet
packet_passed m bs p u e =
    let a = and_then_ok _ _ p e in
    let b = and_then_ok (check_rule a.0.0 a.0.1) _ p a.2 in
    let q : ◌≡◌ {A = Statement × List (List ℕ)} a.0 p = let o = b.2 in cc in
    let w = (one_opening m).opened Replica bs p.0 p.1 u (carried_ok proof_from_sealer _ _ a.1 ∙ ap Ok q) in
    let r : check_rule p.0 p.1 ≡ Ok tt = subst (λ y. check_rule y.0 y.1 ≡ Ok tt) q b.1 in
    record { rest = w.0; written = w.1; genuine = w.2; parts = w.3; rule = subst (λ x. check_rule p.0 x ≡ Ok tt) w.3 r }
