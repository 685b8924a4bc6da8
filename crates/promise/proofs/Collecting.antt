-- What a collector holds was written, and so what it shows is right.
use Rattle.std.proofs.Common.{◌≡◌, ℕ, zero, suc, ◌<◌, Bool, true, false, cond, eqb, List, [], ◌∷◌, length, replicate, get_or, set, Some, None, Ok, Err, Result, sym, refl, ap, ◌∙◌, subst, inl, inr, arith, length-set, get_or-set_other, get_or-set_same}
use Rattle.std.proofs.lemmas.Bool.{cases_eq, and_parts, eqb-true}
use Rattle.std.specs.Int.Digits.{AllBelowBase}
use Rattle.agreement.specs.Lists.{Among}
use Rattle.agreement.specs.Lists.Among.{here, there}
use Rattle.packet.specs.Laws as packets
use Rattle.packet.specs.Laws.{Sound}
use Rattle.packet.specs.Packets.{takes}
use Rattle.packet.specs.declared.kinds.Kind.{Kind}
use Rattle.packet.specs.declared.kinds.Kind.TheVariants as kind
use Rattle.packet.specs.declared.packets.Reader.TheVariants.{Collector}
use Rattle.packet.specs.declared.statements.Statement.{Statement}
use Rattle.proof.proofs.Certified.{kept_rule}
use Rattle.proof.proofs.Places.{same_statement}
use Rattle.packet.specs.Fields.{valid}
use Rattle.packet.proofs.Readings.{cond_ok}
use Rattle.refusal.specs.Refusals.{carried, from_sealer}
use Rattle.refusal.specs.declared.collectors.CollectorFault.{CollectorFault}
use Rattle.sealer.specs.Laws.{Genuine}
use Rattle.sealer.specs.Seals.{Meaning, open_packet}
use Rattle.sealer.proofs.Openings.{carried_ok, one_opening}
use Rattle.collector.specs.Collectors.{by_opening, by_check, check_answer, with_result, closing}
use Rattle.collector.specs.Laws.{Gave, Closes}
use Rattle.collector.specs.declared.collectors.Closed.{Closed}
use Rattle.collector.specs.declared.collectors.Waiting.{Waiting}
use Rattle.collector.proofs.Pairs.{closes_exactly}
use Rattle.ledger.proofs.Pages.{none_some}
use Rattle.promise.specs.Statements.{answer}
use Rattle.promise.specs.Steps.{Setting}
use Rattle.promise.specs.Histories.{Event, Correct}
use Rattle.promise.specs.Collections.{Collected, HonestPackets}
use Rattle.promise.proofs.Refines.{known_signer}
use Rattle.promise.proofs.Turns as turns
use Rattle.promise.proofs.Backs.{some_same}
use Rattle.promise.proofs.Lifts.{Lifted}
use Rattle.promise.proofs.Lowered.{honest}

-- the collector takes answers only
is_answer : (k : Kind) → takes Collector k ≡ true → k ≡ kind.Answer
is_answer kind.Order e = let z : ◌≡◌ {A = ℕ} 0 1 = cc in absurd (omega arith)
is_answer kind.Prepare e = let z : ◌≡◌ {A = ℕ} 0 1 = cc in absurd (omega arith)
is_answer kind.Commit e = let z : ◌≡◌ {A = ℕ} 0 1 = cc in absurd (omega arith)
is_answer kind.Report e = let z : ◌≡◌ {A = ℕ} 0 1 = cc in absurd (omega arith)
is_answer kind.Wish e = let z : ◌≡◌ {A = ℕ} 0 1 = cc in absurd (omega arith)
is_answer kind.Checkpoint e = let z : ◌≡◌ {A = ℕ} 0 1 = cc in absurd (omega arith)
is_answer kind.Answer e = refl

-- one of the packets is i's answer r for slot n
pub record Answered (m : Meaning) (i n r : ℕ) (ps : List (List ℕ)) : Type 0 where
  pub packet : List ℕ
  pub stands : Among packet ps
  pub statement : Statement
  pub rest : List Statement
  pub written : packets.Written Collector packet statement rest
  pub genuine : Genuine m statement
  pub says : statement ≡ answer i n r statement.seal

more_answered : {m : Meaning} {i n r : ℕ} {p : List ℕ} {ps : List (List ℕ)} → Answered m i n r ps → Answered m i n r (p ∷ ps)
more_answered a = record { packet = a.packet; stands = there a.stands; statement = a.statement; rest = a.rest; written = a.written; genuine = a.genuine; says = a.says }

-- what a collector holds
pub record Holds (m : Meaning) (n : ℕ) (ps : List (List ℕ)) (w : Waiting) : Type 0 where
  pub slot : w.slot.0 ≡ n
  pub long : length w.results ≡ 4
  pub gave : (i r : ℕ) → Gave w.results i r → Answered m i n r ps

more_holds : {m : Meaning} {n : ℕ} {p : List ℕ} {ps : List (List ℕ)} {w : Waiting} → Holds m n ps w → Holds m n (p ∷ ps) w
more_holds h = record { slot = h.slot; long = h.long; gave = λ i r g. more_answered (h.gave i r g) }

nobody_gave : (n i r : ℕ) → get_or (replicate n None) i None ≡ Some r → ⊥
nobody_gave zero i r e = none_some refl e
nobody_gave (suc n) zero r e = none_some refl e
nobody_gave (suc n) (suc i) r e = nobody_gave n i r e

module _ (m : Meaning) (n : ℕ) where
  begins : (b : Bool) (w : Waiting) → cond b (Ok (record { slot = record { 0 = n }; results = replicate 4 None })) (Err Rattle.refusal.specs.declared.collectors.CollectorFault.TheVariants.Slot) ≡ Ok w → Holds m n [] w
  begins true w e =
      let q : ◌≡◌ {A = Waiting} (record { slot = record { 0 = n }; results = replicate 4 None }) w = cc in
      subst (λ (x : Waiting). Holds m n [] x) q (record { slot = refl; long = refl; gave = λ i r g. absurd (nobody_gave 4 i r g) })
  begins false w e = let z : ◌≡◌ {A = ℕ} 0 1 = cc in absurd (omega arith)

  module _ (p : List ℕ) (ps : List (List ℕ)) (u : AllBelowBase 256 p) (w : Waiting) (h : Holds m n ps w) where
    takes_one : (s : Statement) (xs : List (List ℕ)) → open_packet m Collector p ≡ Ok (s, xs) → s.slot.0 ≡ w.slot.0 → Holds m n (p ∷ ps) (with_result w s)
    takes_one s xs o same =
        let y = (one_opening m).opened Collector p s xs u o in
        let d = y.1.sound.0 in
        let kd = is_answer s.kind y.1.taken in
        let t = kept_rule s kind.Answer d.kept kd in
        let view = eqb-true s.view.0 0 (and_parts _ _ t).0 in
        let early = eqb-true s.earlier.0 0 (and_parts _ _ (and_parts _ _ t).1).1 in
        let four : s.signer < 4 = known_signer s d in
        let long = h.long in
        record {
          slot = h.slot;
          long = length-set w.results s.signer (Some s.command) ∙ h.long;
          gave = λ i r g. elim (cases_eq i s.signer) [
            | inl e ↦
                let c : s.command ≡ r = some_same (sym (get_or-set_same w.results s.signer (Some s.command) None (omega arith)) ∙ sym (ap (λ (j : ℕ). get_or (set w.results s.signer (Some s.command)) j None) e) ∙ g) in
                record { packet = p; stands = here refl; statement = s; rest = y.0; written = y.1; genuine = y.2.0; says = same_statement s kd (sym e) view (same ∙ h.slot) early c }
            | inr ne ↦ more_answered (h.gave i r (sym (get_or-set_other w.results s.signer i (Some s.command) None ne) ∙ g))
          ];
        }

    by_answered : (s : Statement) (xs : List (List ℕ)) → open_packet m Collector p ≡ Ok (s, xs) → (c : Result (Unit {0}) CollectorFault) → check_answer w s ≡ c → Holds m n (p ∷ ps) (by_check w s c).1
    by_answered s xs o (Ok x) q = takes_one s xs o (eqb-true s.slot.0 w.slot.0 (cond_ok (eqb s.slot.0 w.slot.0) _ _ x q).0)
    by_answered s xs o (Err f) q = more_holds h

    opened : (c : Result (Statement × List (List ℕ)) CollectorFault) → carried from_sealer (open_packet m Collector p) ≡ c → Holds m n (p ∷ ps) (by_opening w c).1
    opened (Ok x) q = by_answered x.0 x.1 (carried_ok from_sealer _ _ q) (check_answer w x.0) refl
    opened (Err f) q = more_holds h

  pub holds_all : {ps : List (List ℕ)} {w : Waiting} → Collected m n ps w → ((p : List ℕ) → Among p ps → AllBelowBase 256 p) → Holds m n ps w
  holds_all (Collected.made w e) u = begins (valid n) w e
  holds_all (Collected.handed {packets = ps} {w = w} p c) u = opened p ps (u p (here refl)) w (holds_all c (λ x a. u x (there a))) (carried from_sealer (open_packet m Collector p)) refl

module _ {State : Type 0} (k : Setting State) {h : List (Event State)} {ts : List (turns.Turn State)} (l : Lifted k h ts) (n : ℕ) (ps : List (List ℕ)) (hp : HonestPackets k ps h) where
  -- a correct replica's result was written
  given : {i r : ℕ} → Answered k.genuine i n r ps → Correct k i → (t : ℕ) × turns.Written i (answer i n r t) ts
  given {i} {r} a c =
      let q : a.statement.signer ≡ i = ap (λ (s : Statement). s.signer) a.says in
      let w = honest k a.statement a.packet (a.statement ∷ a.rest) l (sym a.written.whole) a.written.sound.0 (here refl) (hp a.packet a.stands).1 (subst (λ (j : ℕ). Correct k j) (sym q) c) a.genuine in
      (a.statement.seal, subst (λ (s : Statement). turns.Written i s ts) a.says (subst (λ (j : ℕ). turns.Written j a.statement ts) q w))

  -- one of two is correct, and what it answered is what both gave
  pub collected : (w : Waiting) (closed : Closed) → Collected k.genuine n ps w → closing w ≡ Ok closed → (right : ℕ) → ((i t : ℕ) → Correct k i → turns.Written i (answer i n closed.result t) ts → closed.result ≡ right) → closed.result ≡ right
  collected w closed c e right f =
      let all = holds_all k.genuine n c (λ p a. (hp p a).0) in
      let x = (subst (Closes w) e (closes_exactly w)).1 in
      let one = all.gave x.lower closed.result x.pair.one in
      let other = all.gave x.partner closed.result x.pair.other in
      elim (cases_eq x.lower k.liar) [
        | inl q ↦
            let ok : Correct k x.partner = record { known = low other; honest = λ z. x.pair.apart (z ∙ sym q) } in
            let g = given other ok in
            f x.partner g.0 ok g.1
        | inr ne ↦
            let ok : Correct k x.lower = record { known = low one; honest = ne } in
            let g = given one ok in
            f x.lower g.0 ok g.1
      ]
    where
      low : {i : ℕ} → Answered k.genuine i n closed.result ps → i < 4
      low a = subst (λ (j : ℕ). j < 4) (ap (λ (s : Statement). s.signer) a.says) (known_signer a.statement a.written.sound.0)
