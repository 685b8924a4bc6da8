-- What the law of agreement takes from the rules.
use Rattle.std.proofs.Common.{◌≡◌, ℕ, ◌<◌, List, [], ◌∷◌, ◌++◌, map, sym, ap, subst, inl, inr}
use Rattle.agreement.specs.Groups.{Correct, Quorum}
use Rattle.agreement.specs.Lists.{Among}
use Rattle.agreement.specs.Lists.Among.{here, there}
use Rattle.agreement.specs.Reports as agreement
use Rattle.agreement.specs.Traces.{Trace, execution}
use Rattle.agreement.specs.Votes.{Execution, Certificate, Settled}
use Rattle.agreement.proofs.Lists.{among_map}
use Rattle.packet.specs.declared.kinds.Kind.{Kind}
use Rattle.packet.specs.declared.kinds.Kind.TheVariants.{Order, Prepare, Commit, Report, Wish, Checkpoint, Answer}
use Rattle.packet.specs.declared.statements.Statement.{Statement}
use Rattle.proof.specs.Laws.{Decided, FeedsAgreement, Group, Justified, Prepared, Recorded, Unforged, report_of, reports_of, spread}
use Rattle.proof.specs.Roles.{active}

pub among_left : {X : Type 0} {s : X} (xs ys : List X) → Among s xs → Among s (xs ++ ys)
among_left [] ys a = elim a [ ]
among_left (x ∷ xs) ys (here e) = here e
among_left (x ∷ xs) ys (there a) = there (among_left xs ys a)

pub among_right : {X : Type 0} {s : X} (xs ys : List X) → Among s ys → Among s (xs ++ ys)
among_right [] ys a = a
among_right (x ∷ xs) ys a = there (among_right xs ys a)

-- a group's report and its certificate stand among the statements
report_among : (g : Group) (gs : List Group) → Among g gs → Among g.report (spread gs)
report_among g [] a = elim a [ ]
report_among g (x ∷ gs) (here e) = here (ap (λ y. y.report) e)
report_among g (x ∷ gs) (there a) = there (among_right x.certificate (spread gs) (report_among g gs a))

certificate_among : (g : Group) (s : Statement) (gs : List Group) → Among g gs → Among s g.certificate → Among s (spread gs)
certificate_among g s [] a m = elim a [ ]
certificate_among g s (x ∷ gs) (here e) m = there (among_left x.certificate (spread gs) (subst (λ y. Among s y.certificate) e m))
certificate_among g s (x ∷ gs) (there a) m = there (among_right x.certificate (spread gs) (certificate_among g s gs a m))

-- What its signer did, by an execution of the group, if it signed the statement: as `Recorded` says of a trace.
abbrev pub RecordedIn : Execution → Kind → (i v n e c : ℕ) → Type 0
RecordedIn x Order i v n e c = x.Voted i v n c
RecordedIn x Prepare i v n e c = x.Voted i v n c
RecordedIn x Commit i v n e c = x.Committed i v n c
RecordedIn x Report i v n e c = x.Reported i v n e c
RecordedIn x Wish i v n e c = Unit {0}
RecordedIn x Checkpoint i v n e c = Unit {0}
RecordedIn x Answer i v n e c = Unit {0}

-- none of the statements is forged under a correct replica's number of this group: as `Unforged` says of a trace
pub record UnforgedIn (x : Execution) (ss : List Statement) : Type 0 where
  pub four : x.group.faults ≡ 1
  pub roles : (v : ℕ) → x.group.active v ≡ active v
  pub signed : (s : Statement) → Among s ss → Correct x.group s.signer → RecordedIn x s.kind s.signer s.view.0 s.slot.0 s.earlier.0 s.command

recorded_in : (t : Trace) (k : Kind) (i v n e c : ℕ) → Recorded t k i v n e c → RecordedIn (execution t) k i v n e c
recorded_in t Order i v n e c h = h
recorded_in t Prepare i v n e c h = h
recorded_in t Commit i v n e c h = h
recorded_in t Report i v n e c h = h
recorded_in t Wish i v n e c h = h
recorded_in t Checkpoint i v n e c h = h
recorded_in t Answer i v n e c h = h

unforged_in : (t : Trace) (ss : List Statement) → Unforged t ss → UnforgedIn (execution t) ss
unforged_in t ss u = record {
  four = u.four;
  roles = u.roles;
  signed = λ s a k. recorded_in t s.kind _ _ _ _ _ (u.signed s a k);
}

module _ (x : Execution) (ss : List Statement) (u : UnforgedIn x ss) where
  -- what a statement among them says, its correct signer did
  did : (s r : Statement) → Among s ss → s ≡ r → Correct x.group r.signer → RecordedIn x r.kind r.signer r.view.0 r.slot.0 r.earlier.0 r.command
  did s r a e k = subst (λ y. RecordedIn x y.kind y.signer y.view.0 y.slot.0 y.earlier.0 y.command) e (u.signed s a (subst (λ y. Correct x.group y.signer) (sym e) k))

  pub certifies : (v n c : ℕ) (cs : List Statement) → ((s : Statement) → Among s cs → Among s ss) → Prepared v n c cs → Certificate x v n c
  certifies v n c cs inside p j k a =
      let s = p.voted j (subst (Among j) (u.roles v) a) in
      elim s.2 [
        | inl e ↦ did s.0 _ (inside s.0 s.1) e k
        | inr e ↦ did s.0 _ (inside s.0 s.1) e k
      ]

  pub settles : (v n c : ℕ) → Decided v n c ss → Settled x v n c
  settles v n c d j k a = let s = d.committed j (subst (Among j) (u.roles v) a) in did s.0 _ s.1 s.2 k

  module _ (v n c : ℕ) (j : Justified v n c ss) where
    within : (s : Statement) → Among s (spread j.groups) → Among s ss
    within s a = subst (Among s) (sym j.whole) a

    group_of : (r : agreement.Report) → Among r (reports_of j.groups) → (g : Group) × Among g j.groups × (report_of g ≡ r)
    group_of r a = among_map report_of j.groups a

    was_signed : (r : agreement.Report) → Among r (reports_of j.groups) → Correct x.group r.signer → x.Reported r.signer v n r.earlier r.command
    was_signed r a k =
        let g = group_of r a in
        let d = did g.0.report _ (within _ (report_among g.0 j.groups g.1)) (j.reporting g.0 g.1).says in
        subst (λ q. Correct x.group q.signer → x.Reported q.signer v n q.earlier q.command) g.2 d k

    is_below : (r : agreement.Report) → Among r (reports_of j.groups) → r.earlier < v
    is_below r a = let g = group_of r a in subst (λ q. q.earlier < v) g.2 (j.reporting g.0 g.1).below

    is_certified : (r : agreement.Report) → Among r (reports_of j.groups) → 0 < r.earlier → Certificate x r.earlier n r.command
    is_certified r a =
        let g = group_of r a in
        subst (λ q. 0 < q.earlier → Certificate x q.earlier n q.command) g.2
        (λ p. certifies _ n _ g.0.certificate (λ s m. within s (certificate_among g.0 s j.groups g.1 m)) ((j.reporting g.0 g.1).certified p))

    pub justifies : agreement.Justification x v n c
    justifies = record {
      reports = reports_of j.groups;
      quorum = subst (λ f. Quorum f (map agreement.signer_of (reports_of j.groups))) (sym u.four) j.quorum;
      signed = λ {r} a k. was_signed r a k;
      below = λ {r} a. is_below r a;
      certified = λ {r} a. is_certified r a;
      highest_binds = λ {r} a. j.highest_binds r a;
    }

pub feeds_agreement : FeedsAgreement
feeds_agreement = record { votes = λ t v n c ss u j. justifies (execution t) ss (unforged_in t ss u) v n c j; decisions = λ t v n c ss u d. settles (execution t) ss (unforged_in t ss u) v n c d }
