-- What the reports behind an order say.
use Rattle.std.proofs.Common.{◌≡◌, ℕ, zero, suc, ◌+◌, ◌<◌, ◌≤◌, Bool, true, false, ◌&&◌, eqb, ltb, leb, List, [], ◌∷◌, ◌++◌, map, length, drop, Some, None, Ok, Option, sym, refl, ap, ◌∙◌, subst, arith}
use Rattle.std.proofs.lemmas.List.{drop_all, length-map}
use Rattle.std.proofs.lemmas.Bool.{and_parts, eqb-true, eqb-false, leb-true, ltb-true}
use Rattle.std.proofs.lemmas.Bool.Decides.{nat_tests}
use Rattle.std.specs.List.{AllByRecursion}
use Rattle.agreement.specs.Groups.{Quorum}
use Rattle.agreement.specs.Lists.{Among}
use Rattle.agreement.specs.Lists.Among.{here, there}
use Rattle.agreement.specs.Reports as agreement
use Rattle.agreement.proofs.Groups.{three_of_four}
use Rattle.agreement.proofs.Lists.{each_cons}
use Rattle.packet.proofs.Readings.{and_then_ok, cond_ok}
use Rattle.packet.specs.Fields.{valid}
use Rattle.packet.specs.Laws.{Sound}
use Rattle.packet.specs.Parts.{statement_at}
use Rattle.packet.specs.Statements.{encode}
use Rattle.packet.specs.Kinds.{byte_of}
use Rattle.packet.specs.declared.kinds.Kind.TheVariants.{Report}
use Rattle.packet.specs.declared.statements.Statement.{Statement}
use Rattle.refusal.specs.declared.proofs.ProofFault.TheVariants.{Rule}
use Rattle.proof.specs.Certificates.{prepared}
use Rattle.proof.specs.Laws.{Group, Justified, Reporting, report_of, reports_of, spread}
use Rattle.proof.specs.Reports.{all_allow, allows, behind, certified, check_reports, grouped, highest, justify, report_at, reports_from, reports_on, rising}
use Rattle.proof.proofs.Certified.{is_prepared, kept_rule}
use Rattle.proof.proofs.Places.{found, same_kind, same_statement}

-- a report names a view below its own
report_below : (v n e c : ℕ) (rest : Bool) → (valid v && (valid n && (ltb e v && rest))) ≡ true → e < v
report_below v n e c rest h =
    let a = and_parts (valid v) (valid n && (ltb e v && rest)) h in
    let b = and_parts (valid n) (ltb e v && rest) a.1 in
    ltb-true e v (and_parts (ltb e v) rest b.1).0

module _ (ss : List Statement) (sound : AllByRecursion Sound ss) (v n : ℕ) where
  -- the group of report r stands at place i
  record Gathered (i : ℕ) (r : Statement) : Type 0 where
    certificate : List Statement
    stands : Reporting v n (record { report = r; certificate = certificate })
    whole : drop i ss ≡ r ∷ (certificate ++ drop (behind i r) ss)

  module _ (i : ℕ) (r : Statement) (at : statement_at (map encode ss) i ≡ Some r) (on : reports_on v n r ≡ true) where
    kind_is : r.kind ≡ Report
    kind_is = same_kind r.kind Report (eqb-true _ _ (and_parts (eqb (byte_of r.kind) (byte_of Report)) (eqb r.view.0 v && eqb r.slot.0 n) on).0)

    view_slot : (r.view.0 ≡ v) × (r.slot.0 ≡ n)
    view_slot =
        let a = and_parts (eqb (byte_of r.kind) (byte_of Report)) (eqb r.view.0 v && eqb r.slot.0 n) on in
        let b = and_parts (eqb r.view.0 v) (eqb r.slot.0 n) a.1 in
        (eqb-true _ _ b.0, eqb-true _ _ b.1)

    known : r.signer < 4
    known = let f = found ss i r sound at in let l = leb-true r.signer 3 (and_parts (leb r.signer 3) _ f.sound.kept).0 in omega arith

    below : r.earlier.0 < v
    below =
        let f = found ss i r sound at in
        let l = report_below r.view.0 r.slot.0 r.earlier.0 r.command _ (kept_rule r Report f.sound.kept kind_is) in
        omega (arith, view_slot.0)

    by_earlier : (b : Bool) → eqb r.earlier.0 0 ≡ b → certified n (map encode ss) (i + 1) r ≡ true → Gathered i r
    by_earlier true e h = record {
      certificate = [];
      stands = record { says = same_statement r kind_is refl view_slot.0 view_slot.1 refl refl; known = known; below = below; alone = λ _. refl; certified = λ p. let z = eqb-true r.earlier.0 0 e in absurd (omega arith) };
      whole = rw e (found ss i r sound at).here;
    }
    by_earlier false e h =
        let q : prepared r.earlier.0 n r.command (map encode ss) (i + 1) ≡ true = rw e at h in
        let c = is_prepared ss sound r.earlier.0 n r.command (i + 1) q in
        let z : (i + 1) + 3 ≡ i + 4 = omega arith in
        record {
          certificate = c.certificate;
          stands = record { says = same_statement r kind_is refl view_slot.0 view_slot.1 refl refl; known = known; below = below; alone = λ p. absurd (eqb-false r.earlier.0 0 e p); certified = λ _. c.stands };
          whole = rw e ((found ss i r sound at).here ∙ ap (λ t. r ∷ t) (c.whole ∙ ap (λ p. c.certificate ++ drop p ss) z));
        }

  gathered : (i : ℕ) (r : Statement) (o : Option Statement) → statement_at (map encode ss) i ≡ o → grouped v n (map encode ss) i o ≡ Ok r → Gathered i r
  gathered i r None at e = let z : ◌≡◌ {A = ℕ} 0 1 = cc in absurd (omega arith)
  gathered i r (Some s) at e =
      let a = cond_ok (reports_on v n s && certified n (map encode ss) (i + 1) s) (Ok s) Rule r e in
      let q : s ≡ r = let o = a.1 in cc in
      let b = and_parts (reports_on v n s) (certified n (map encode ss) (i + 1) s) a.0 in
      subst (Gathered i) q (by_earlier i s at b.0 (eqb s.earlier.0 0) refl b.1)

  -- the groups of these reports stand from place i on
  record Standing (k i : ℕ) (rs : List Statement) : Type 0 where
    groups : List Group
    same : map (λ g. g.report) groups ≡ rs
    many : length groups ≡ k
    stands : (g : Group) → Among g groups → Reporting v n g
    whole : drop i ss ≡ spread groups

  one_more : (k i : ℕ) (r : Statement) (rs : List Statement) → Gathered i r → Standing k (behind i r) rs → Standing (suc k) i (r ∷ rs)
  one_more k i r rs g t = record {
    groups = record { report = r; certificate = g.certificate } ∷ t.groups;
    same = ap (λ q. r ∷ q) t.same;
    many = ap suc t.many;
    stands = each_cons {P = Reporting v n} g.stands t.stands;
    whole = g.whole ∙ ap (λ q. r ∷ (g.certificate ++ q)) t.whole;
  }

  standing : (k i : ℕ) (rs : List Statement) → reports_from k v n (map encode ss) i ≡ Ok rs → Standing k i rs
  unfolding report_at
  standing zero i rs e =
      let a = cond_ok (eqb i (length (map encode ss))) (Ok []) Rule rs e in
      let l = eqb-true i (length (map encode ss)) a.0 in
      let m = length-map ss encode in
      record { groups = []; same = let o = a.1 in cc; many = refl; stands = λ g x. elim x [ ]; whole = drop_all i ss (omega arith) }
  standing (suc k) i rs e =
      let a = and_then_ok (report_at v n (map encode ss) i) _ rs e in
      let b = and_then_ok (reports_from k v n (map encode ss) (behind i a.0)) _ rs a.2 in
      let g = gathered i a.0 (statement_at (map encode ss) i) refl a.1 in
      let q : a.0 ∷ b.0 ≡ rs = let o = b.2 in cc in
      subst (Standing (suc k) i) q (one_more k i a.0 b.0 g (standing k (behind i a.0) b.0 b.1))

-- three rising signers are a quorum
quorum_of : (v n : ℕ) (gs : List Group) → length gs ≡ 3 → ((g : Group) → Among g gs → Reporting v n g) → rising (map (λ g. g.report) gs) ≡ true → Quorum 1 (map agreement.signer_of (reports_of gs))
quorum_of v n [] l s h = absurd (omega arith)
quorum_of v n (a ∷ []) l s h = absurd (omega arith)
quorum_of v n (a ∷ b ∷ []) l s h = absurd (omega arith)
quorum_of v n (a ∷ b ∷ c ∷ []) l s h =
    let i = a.report.signer in
    let j = b.report.signer in
    let k = c.report.signer in
    let p = and_parts (ltb i j) (ltb j k && true) h in
    let q = and_parts (ltb j k) true p.1 in
    three_of_four i j k (ltb-true i j p.0) (ltb-true j k q.0) (s c (there (there (here refl)))).known
quorum_of v n (a ∷ b ∷ c ∷ d ∷ gs) l s h = absurd (omega arith)

abbrev highest_of : List Group → ℕ
highest_of gs = highest (map (λ g. g.report) gs)

-- no report names a view above the highest, and the highest is named
under_highest : (r : agreement.Report) (gs : List Group) → Among r (reports_of gs) → r.earlier ≤ highest_of gs
under_highest r [] x = elim x [ ]
under_highest r (g ∷ gs) (here e) = let z = ap (λ q. q.earlier) e in omega arith
under_highest r (g ∷ gs) (there x) = let l = under_highest r gs x in omega arith

highest_under : (m : ℕ) (gs : List Group) → ((r : agreement.Report) → Among r (reports_of gs) → r.earlier ≤ m) → highest_of gs ≤ m
highest_under m [] f = omega arith
highest_under m (g ∷ gs) f =
    let a = f (report_of g) (here refl) in
    let b = highest_under m gs (λ r x. f r (there x)) in
    omega arith

-- a report that names a view as high as h, above 0, names the command
named : (h c : ℕ) (r : agreement.Report) (gs : List Group) → all_allow h c (map (λ g. g.report) gs) ≡ true → Among r (reports_of gs) → h ≤ r.earlier → 0 < h → r.command ≡ c
named h c r [] e x l p = elim x [ ]
named h c r (g ∷ gs) e (here q) l p =
    let a = (and_parts (allows h c g.report) (all_allow h c (map (λ g. g.report) gs)) e).0 in
    let z = ap (λ t. t.earlier) q in
    let y = ap (λ t. t.command) q in
    let w : g.report.command ≡ c = grind (arith, nat_tests) in
    y ∙ w
named h c r (g ∷ gs) e (there x) l p = named h c r gs (and_parts (allows h c g.report) (all_allow h c (map (λ g. g.report) gs)) e).1 x l p

binds : (c : ℕ) (gs : List Group) → all_allow (highest_of gs) c (map (λ g. g.report) gs) ≡ true → (r : agreement.Report) → Among r (reports_of gs) → agreement.Highest r (reports_of gs) → 0 < r.earlier → r.command ≡ c
binds c gs e r x top p =
    let u = under_highest r gs x in
    named (highest_of gs) c r gs e x (highest_under r.earlier gs top) (omega arith)

pub is_justified : (ss : List Statement) → AllByRecursion Sound ss → (v n c i : ℕ) (rest : List Statement) → drop i ss ≡ rest → check_reports v n c (map encode ss) i ≡ Ok tt → Justified v n c rest
unfolding check_reports justify
is_justified ss sound v n c i rest d e =
    let a = and_then_ok (reports_from 3 v n (map encode ss) i) _ tt e in
    let t = standing ss sound v n 3 i a.0 a.1 in
    let j = (cond_ok (rising a.0 && all_allow (highest a.0) c a.0) (Ok tt) Rule tt a.2).0 in
    let k = subst (λ rs. (rising rs && all_allow (highest rs) c rs) ≡ true) (sym t.same) j in
    let b = and_parts (rising (map (λ g. g.report) t.groups)) (all_allow (highest_of t.groups) c (map (λ g. g.report) t.groups)) k in
    record {
      groups = t.groups;
      whole = sym d ∙ t.whole;
      reporting = t.stands;
      quorum = quorum_of v n t.groups t.many t.stands b.0;
      highest_binds = binds c t.groups b.1;
    }
