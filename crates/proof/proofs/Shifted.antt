-- Statements behind an order are judged as the same statements alone.
use Rattle.std.proofs.Common.{◌≡◌, ℕ, zero, suc, ◌+◌, ◌-◌, ◌<◌, ◌≤◌, Bool, true, false, cond, ◌&&◌, ◌||◌, eqb, List, [], ◌∷◌, length, take, drop, get_or, zip, Some, None, Ok, Err, Option, Result, sym, refl, ap, ◌∙◌, arith}
use Rattle.std.specs.List.{list_all}
use Rattle.std.proofs.Math.Bool.{and-false}
use Rattle.std.proofs.Math.Dec.{eqb-suc-suc}
use Rattle.std.proofs.lemmas.List.{drop-drop, take_rest}
use Rattle.packet.specs.Parts.{statement_at}
use Rattle.packet.specs.Statements.{decode}
use Rattle.packet.specs.declared.kinds.Kind.{Kind}
use Rattle.packet.specs.declared.kinds.Kind.TheVariants.{Order, Prepare}
use Rattle.packet.specs.declared.statements.Statement.{Statement}
use Rattle.refusal.specs.Refusals.{and_then}
use Rattle.refusal.specs.declared.proofs.ProofFault.{ProofFault}
use Rattle.refusal.specs.declared.proofs.ProofFault.TheVariants.{Rule}
use Rattle.proof.specs.Certificates.{each_says, prepared, says}
use Rattle.proof.specs.Laws.{RestAlike}
use Rattle.proof.specs.Reports.{behind, certified, check_backing, check_reports, grouped, group_of, holds, justify, report_at, reports_from, reports_on}
use Rattle.proof.specs.Roles.{backups, primary}

module _ (p : List ℕ) (ps : List (List ℕ)) where
  pub each_alike : (k : Kind) (v n c i : ℕ) (js : List ℕ) → each_says k v n c (p ∷ ps) (suc i) js ≡ each_says k v n c ps i js
  each_alike k v n c i [] = refl
  each_alike k v n c i (j ∷ js) =
      let z : suc i + 1 ≡ suc (i + 1) = omega arith in
      ap (λ q. says k j v n c (statement_at ps i) && each_says k v n c (p ∷ ps) q js) z ∙ ap (λ b. says k j v n c (statement_at ps i) && b) (each_alike k v n c (i + 1) js)

  prepared_alike : (v n c i : ℕ) → prepared v n c (p ∷ ps) (suc i) ≡ prepared v n c ps i
  unfolding prepared
  prepared_alike v n c i =
      let z : suc i + 1 ≡ suc (i + 1) = omega arith in
      ap (λ q. says Order (primary v) v n c (statement_at ps i) && each_says Prepare v n c (p ∷ ps) q (backups v)) z ∙ ap (λ b. says Order (primary v) v n c (statement_at ps i) && b) (each_alike Prepare v n c (i + 1) (backups v))

  grouped_alike : (v n i : ℕ) (o : Option Statement) → grouped v n (p ∷ ps) (suc i) o ≡ grouped v n ps i o
  grouped_alike v n i None = refl
  grouped_alike v n i (Some r) =
      let z : suc i + 1 ≡ suc (i + 1) = omega arith in
      ap (λ q. cond (reports_on v n r && certified n (p ∷ ps) q r) (Ok r) (Err Rule)) z ∙ ap (λ b. cond (reports_on v n r && (eqb r.earlier.0 0 || b)) (Ok r) (Err Rule)) (prepared_alike r.earlier.0 n r.command (i + 1))

  report_alike : (v n i : ℕ) → report_at v n (p ∷ ps) (suc i) ≡ report_at v n ps i
  unfolding report_at
  report_alike v n i = grouped_alike v n i (statement_at ps i)

  behind_alike : (i : ℕ) (b : Bool) → cond b (suc i + 1) (suc i + 4) ≡ suc (cond b (i + 1) (i + 4))
  behind_alike i true = omega arith
  behind_alike i false = omega arith

  after_alike : (k v n i : ℕ) → ((j : ℕ) → reports_from k v n (p ∷ ps) (suc j) ≡ reports_from k v n ps j) → (o : Result Statement ProofFault) → and_then o (λ r. and_then (reports_from k v n (p ∷ ps) (behind (suc i) r)) (λ rs. Ok (r ∷ rs))) ≡ and_then o (λ r. and_then (reports_from k v n ps (behind i r)) (λ rs. Ok (r ∷ rs)))
  after_alike k v n i alike (Err e) = refl
  after_alike k v n i alike (Ok r) = ap (λ x. and_then x (λ rs. Ok (r ∷ rs))) (ap (reports_from k v n (p ∷ ps)) (behind_alike i (eqb r.earlier.0 0)) ∙ alike (behind i r))

  reports_alike : (k v n i : ℕ) → reports_from k v n (p ∷ ps) (suc i) ≡ reports_from k v n ps i
  reports_alike zero v n i = ap (λ b. cond b (Ok []) (Err Rule)) (eqb-suc-suc i (length ps))
  reports_alike (suc k) v n i =
      ap (λ o. and_then o (λ r. and_then (reports_from k v n (p ∷ ps) (behind (suc i) r)) (λ rs. Ok (r ∷ rs)))) (report_alike v n i)
      ∙ after_alike k v n i (reports_alike k v n) (report_at v n ps i)

  backing_alike : (v n c : ℕ) → check_backing v n c (p ∷ ps) 1 ≡ check_backing v n c ps 0
  unfolding check_backing check_reports
  backing_alike v n c =
      ap (λ b. cond (eqb v 1) (holds b) (check_reports v n c (p ∷ ps) 1)) (eqb-suc-suc (length ps) 0)
      ∙ ap (λ x. cond (eqb v 1) (holds (eqb (length ps) 0)) (and_then x (λ rs. holds (justify c rs)))) (reports_alike 3 v n 0)

pub rest_alike : RestAlike
rest_alike v n c p ps = backing_alike p ps v n c

-- votes taken with their signers, pair by pair
module _ (k : Kind) (v n c : ℕ) where
  abbrev pub said_by : ℕ × List ℕ → Bool
  said_by p = says k p.0 v n c (decode p.1)

  pub each_paired : (js : List ℕ) (ps : List (List ℕ)) → length js ≤ length ps → list_all said_by (zip js ps) ≡ each_says k v n c ps 0 js
  each_paired [] ps h = refl
  each_paired (j ∷ js) [] h = absurd (omega arith)
  each_paired (j ∷ js) (p ∷ ps) h = ap (λ b. said_by (j, p) && b) (each_paired js ps (omega arith) ∙ sym (each_alike p ps k v n c 0 js))

  -- too few for their signers
  pub each_short : (js : List ℕ) (ps : List (List ℕ)) → length ps < length js → each_says k v n c ps 0 js ≡ false
  unfolding says decode
  each_short [] ps h = absurd (omega arith)
  each_short (j ∷ js) [] h = refl
  each_short (j ∷ js) (p ∷ ps) h = ap (λ b. said_by (j, p) && b) (each_alike p ps k v n c 0 js ∙ each_short js ps (omega arith)) ∙ and-false (said_by (j, p))

-- a certificate by the part in front and the parts behind it
pub prepared_front : (v n c : ℕ) (ps : List (List ℕ)) → 0 < length ps → prepared v n c ps 0 ≡ (says Order (primary v) v n c (decode (get_or ps 0 [])) && each_says Prepare v n c (drop 1 ps) 0 (backups v))
unfolding prepared
prepared_front v n c [] h = absurd (omega arith)
prepared_front v n c (p ∷ ps) h = ap (λ b. says Order (primary v) v n c (decode p) && b) (each_alike p ps Prepare v n c 0 (backups v))

pub prepared_none : (v n c : ℕ) (ps : List (List ℕ)) → length ps ≡ 0 → prepared v n c ps 0 ≡ false
unfolding prepared says decode
prepared_none v n c [] h = refl
prepared_none v n c (p ∷ ps) h = absurd (omega arith)

pub prepared_as : (v n c i : ℕ) (js : List ℕ) (ps : List (List ℕ)) → 0 < length ps → i ≡ primary v → js ≡ backups v → says Order i v n c (decode (get_or ps 0 [])) ≡ true → each_says Prepare v n c (drop 1 ps) 0 js ≡ prepared v n c ps 0
prepared_as v n c i js ps h ei ej e =
    let front = prepared_front v n c ps h in
    let said : says Order (primary v) v n c (decode (get_or ps 0 [])) ≡ true = rw ei at e in
    ap (each_says Prepare v n c (drop 1 ps) 0) ej ∙ sym (front ∙ ap (λ b. b && each_says Prepare v n c (drop 1 ps) 0 (backups v)) said)

-- the group in front, by its report and the certificate behind it
module _ (v n : ℕ) where
  abbrev found : List (List ℕ) → Statement → Bool → Result (Statement × List (List ℕ)) ProofFault
  found ps r b = cond (reports_on v n r && (eqb r.earlier.0 0 || b)) (Ok (r, drop (cond (eqb r.earlier.0 0) 1 4) ps)) (Err Rule)

  by_test : (p : List ℕ) (ps : List (List ℕ)) (r : Statement) (b : Bool) → and_then {Y = Statement × List (List ℕ)} (cond b (Ok r) (Err Rule)) (λ r. Ok (r, drop (behind 0 r) (p ∷ ps))) ≡ cond b (Ok (r, drop (cond (eqb r.earlier.0 0) 1 4) (p ∷ ps))) (Err Rule)
  by_test p ps r true = refl
  by_test p ps r false = refl

  group_is : (ps : List (List ℕ)) (r : Statement) → 0 < length ps → decode (get_or ps 0 []) ≡ Some r → group_of v n ps ≡ found ps r (prepared r.earlier.0 n r.command (drop 1 ps) 0)
  unfolding report_at
  group_is [] r h e = absurd (omega arith)
  group_is (p ∷ ps) r h e =
      ap (λ o. and_then {Y = Statement × List (List ℕ)} (grouped v n (p ∷ ps) 0 o) (λ r. Ok (r, drop (behind 0 r) (p ∷ ps)))) e
      ∙ (by_test p ps r (reports_on v n r && certified n (p ∷ ps) 1 r) ∙ ap (found (p ∷ ps) r) (prepared_alike p ps r.earlier.0 n r.command 0))

  pub group_none : (ps : List (List ℕ)) → length ps ≡ 0 → group_of v n ps ≡ Err Rule
  unfolding report_at decode
  group_none [] h = refl
  group_none (p ∷ ps) h = absurd (omega arith)

  pub group_unread : (ps : List (List ℕ)) → 0 < length ps → decode (get_or ps 0 []) ≡ None → group_of v n ps ≡ Err Rule
  unfolding report_at
  group_unread [] h e = absurd (omega arith)
  group_unread (p ∷ ps) h e = ap (λ o. and_then {Y = Statement × List (List ℕ)} (grouped v n (p ∷ ps) 0 o) (λ r. Ok (r, drop (behind 0 r) (p ∷ ps)))) e

  pub group_unlike : (ps : List (List ℕ)) (r : Statement) → 0 < length ps → decode (get_or ps 0 []) ≡ Some r → reports_on v n r ≡ false → group_of v n ps ≡ Err Rule
  group_unlike ps r h e a = group_is ps r h e ∙ rw a refl

  -- the parts behind the first, as a slice of them has them
  rest_is : (ps : List (List ℕ)) (k i j : ℕ) → k ≡ i + j → take (length (drop i ps) - j) (drop j (drop i ps)) ≡ drop k ps
  rest_is ps k i j e = take_rest (drop i ps) j ∙ (drop-drop j i ps ∙ ap (λ m. drop m ps) (sym e))

  pub group_alone : (ps rest : List (List ℕ)) (r : Statement) → rest ≡ take (length ps - 1) (drop 1 ps) → 0 < length ps → decode (get_or ps 0 []) ≡ Some r → reports_on v n r ≡ true → r.earlier.0 ≡ 0 → group_of v n ps ≡ Ok (r, rest)
  group_alone ps rest r q h e a z = group_is ps r h e ∙ (rw (a, z) refl ∙ ap (λ t. Ok (r, t)) (sym (q ∙ take_rest ps 1)))

  pub group_certified : (ps rest : List (List ℕ)) (r : Statement) → rest ≡ take (length ps - 1) (drop 1 ps) → 0 < length ps → decode (get_or ps 0 []) ≡ Some r → reports_on v n r ≡ true → eqb r.earlier.0 0 ≡ false → (b : Bool) → prepared r.earlier.0 n r.command rest 0 ≡ b → group_of v n ps ≡ cond b (Ok (r, take (length rest - 3) (drop 3 rest))) (Err Rule)
  group_certified ps rest r q h e a z b p =
      let w : rest ≡ drop 1 ps = q ∙ take_rest ps 1 in
      let t : take (length rest - 3) (drop 3 rest) ≡ drop 4 ps = rw w (rest_is ps 4 1 3 (omega arith)) in
      let c : prepared r.earlier.0 n r.command (drop 1 ps) 0 ≡ b = rw w at p in
      group_is ps r h e ∙ (rw (a, z, c) refl ∙ ap (λ x. cond b (Ok (r, x)) (Err Rule)) (sym t))

  -- reports from a place on are those of the parts from there on
  reports_dropped : (k m : ℕ) (ps : List (List ℕ)) → m ≤ length ps → reports_from k v n ps m ≡ reports_from k v n (drop m ps) 0
  reports_dropped k zero ps h = refl
  reports_dropped k (suc m) [] h = absurd (omega arith)
  reports_dropped k (suc m) (p ∷ ps) h = reports_alike p ps k v n m ∙ reports_dropped k m ps (omega arith)

  pub step_err : (k : ℕ) (ps : List (List ℕ)) (e : ProofFault) → group_of v n ps ≡ Err e → reports_from (suc k) v n ps 0 ≡ Err e
  step_err k ps e h = by_report (report_at v n ps 0) h
    where
      by_report : (o : Result Statement ProofFault) → and_then {Y = Statement × List (List ℕ)} o (λ r. Ok (r, drop (behind 0 r) ps)) ≡ Err e → and_then o (λ r. and_then (reports_from k v n ps (behind 0 r)) (λ rs. Ok (r ∷ rs))) ≡ Err e
      by_report (Ok r) h = let z : ◌≡◌ {A = ℕ} 0 1 = cc in absurd (omega arith)
      by_report (Err d) h = let q : d ≡ e = cc in ap Err q

  report_in : Statement → Result (Statement × List (List ℕ)) ProofFault → Statement
  report_in r (Ok p) = p.0
  report_in r (Err e) = r

  parts_in : List (List ℕ) → Result (Statement × List (List ℕ)) ProofFault → List (List ℕ)
  parts_in ps (Ok p) = p.1
  parts_in ps (Err e) = ps

  in_front : (ps rest : List (List ℕ)) (r : Statement) (o : Result Statement ProofFault) → and_then {Y = Statement × List (List ℕ)} o (λ x. Ok (x, drop (behind 0 x) ps)) ≡ Ok (r, rest) → (o ≡ Ok r) × (drop (behind 0 r) ps ≡ rest)
  unfolding report_in parts_in
  in_front ps rest r (Ok x) h =
      let q : x ≡ r = ap (report_in r) h in
      (ap Ok q, ap (λ y. drop (behind 0 y) ps) (sym q) ∙ ap (parts_in rest) h)
  in_front ps rest r (Err e) h = let z : ◌≡◌ {A = ℕ} 0 1 = cc in absurd (omega arith)

  pub step_ok : (k : ℕ) (ps rest : List (List ℕ)) (r : Statement) → group_of v n ps ≡ Ok (r, rest) → behind 0 r ≤ length ps → reports_from (suc k) v n ps 0 ≡ and_then (reports_from k v n rest 0) (λ rs. Ok (r ∷ rs))
  step_ok k ps rest r h b =
      let a = in_front ps rest r (report_at v n ps 0) h in
      ap (λ o. and_then o (λ r. and_then (reports_from k v n ps (behind 0 r)) (λ rs. Ok (r ∷ rs)))) a.0
      ∙ ap (λ o. and_then o (λ rs. Ok (r ∷ rs))) (reports_dropped k (behind 0 r) ps b ∙ ap (λ t. reports_from k v n t 0) a.1)

  -- what checking three reports comes to, group by group
  module _ (c : ℕ) where
    abbrev judged : Result (List Statement) ProofFault → Result (Unit {0}) ProofFault
    judged o = and_then o (λ rs. holds (justify c rs))

    pub first_fails : (ps : List (List ℕ)) (e : ProofFault) → group_of v n ps ≡ Err e → check_reports v n c ps 0 ≡ Err e
    unfolding check_reports
    first_fails ps e h = ap judged (step_err 2 ps e h)

    pub second_fails : (ps p : List (List ℕ)) (r : Statement) (e : ProofFault) → group_of v n ps ≡ Ok (r, p) → behind 0 r ≤ length ps → group_of v n p ≡ Err e → check_reports v n c ps 0 ≡ Err e
    unfolding check_reports
    second_fails ps p r e h b h1 = ap judged (step_ok 2 ps p r h b ∙ ap (λ o. and_then o (λ rs. Ok (r ∷ rs))) (step_err 1 p e h1))

    pub third_fails : (ps p q : List (List ℕ)) (r s : Statement) (e : ProofFault) → group_of v n ps ≡ Ok (r, p) → behind 0 r ≤ length ps → group_of v n p ≡ Ok (s, q) → behind 0 s ≤ length p → group_of v n q ≡ Err e → check_reports v n c ps 0 ≡ Err e
    unfolding check_reports
    third_fails ps p q r s e h b h1 b1 h2 =
        ap judged (step_ok 2 ps p r h b ∙ ap (λ o. and_then o (λ rs. Ok (r ∷ rs))) (step_ok 1 p q s h1 b1 ∙ ap (λ o. and_then o (λ rs. Ok (s ∷ rs))) (step_err 0 q e h2)))

    pub three_stand : (ps p q t : List (List ℕ)) (r s u : Statement) → group_of v n ps ≡ Ok (r, p) → behind 0 r ≤ length ps → group_of v n p ≡ Ok (s, q) → behind 0 s ≤ length p → group_of v n q ≡ Ok (u, t) → behind 0 u ≤ length q → check_reports v n c ps 0 ≡ judged (cond (eqb 0 (length t)) (Ok (r ∷ s ∷ u ∷ [])) (Err Rule))
    unfolding check_reports
    three_stand ps p q t r s u h b h1 b1 h2 b2 =
        ap judged (step_ok 2 ps p r h b ∙ (ap (λ o. and_then o (λ rs. Ok (r ∷ rs))) (step_ok 1 p q s h1 b1 ∙ ap (λ o. and_then o (λ rs. Ok (s ∷ rs))) (step_ok 0 q t u h2 b2)) ∙ by_end (eqb 0 (length t))))
      where
        by_end : (b : Bool) → and_then (and_then (and_then (cond b (Ok []) (Err Rule)) (λ rs. Ok (u ∷ rs))) (λ rs. Ok (s ∷ rs))) (λ rs. Ok (r ∷ rs)) ≡ cond b (Ok (r ∷ s ∷ u ∷ [])) (Err Rule)
        by_end true = refl
        by_end false = refl

  pub backing_behind : (c : ℕ) (ps rest : List (List ℕ)) → 0 < length ps → rest ≡ take (length ps - 1) (drop 1 ps) → check_backing v n c rest 0 ≡ check_backing v n c ps 1
  backing_behind c [] rest h e = absurd (omega arith)
  backing_behind c (p ∷ ps) rest h e = ap (λ t. check_backing v n c t 0) (e ∙ take_rest (p ∷ ps) 1) ∙ sym (backing_alike p ps v n c)

-- where not even the order stands, nothing backs it
pub backing_none : (v n c : ℕ) (ps : List (List ℕ)) → length ps ≡ 0 → check_backing v n c ps 1 ≡ Err Rule
unfolding check_backing check_reports report_at decode
backing_none v n c [] h = by_view (eqb v 1)
  where
    by_view : (b : Bool) → cond b (holds (eqb 0 1)) (Err Rule) ≡ Err Rule
    by_view true = refl
    by_view false = refl
backing_none v n c (p ∷ ps) h = absurd (omega arith)
