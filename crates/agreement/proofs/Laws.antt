-- The laws of agreement, in any execution that keeps the rules.
use Rattle.std.proofs.Common.{◌≡◌, ℕ, ◌<◌, ◌≤◌, sym, ◌∙◌, inl, inr, arith}
use Rattle.std.proofs.lemmas.Bool.{cases_eq, cases_lt}
use Rattle.agreement.specs.Groups.{Quorum, Correct, EachActive}
use Rattle.agreement.specs.Votes.{Execution, Certificate, Settled}
use Rattle.agreement.specs.Reports.{signer_of, Justification}
use Rattle.agreement.specs.Rules.{Rules}
use Rattle.agreement.specs.Laws.{Shared, CertificatesAgree, SettledBinds, SettledAgree}
use Rattle.agreement.proofs.Lists.{among_map}
use Rattle.agreement.proofs.Induction.{strong_induction}
use Rattle.agreement.proofs.Groups.{quorums_overlap}
use Rattle.agreement.proofs.Reports.{Top, top}

module _ {x : Execution} (rules : Rules x) where
  active : (v : ℕ) → Quorum x.group.faults (x.group.active v)
  active v = rules.sound.active_quorum v

  -- some correct replica is active in view v,
  pub correct_active : (v : ℕ) → Shared x.group (x.group.active v) (x.group.active v)
  correct_active v = quorums_overlap rules.sound _ _ (active v) (active v)

  -- and what holds of every correct active replica of view v holds of this one
  at_active : (v : ℕ) {P : ℕ → Type 0} → EachActive x.group v P → P (correct_active v).replica
  at_active v each = let s = correct_active v in each s.replica s.correct s.in_left

  -- It voted once, so two certificates name one command.
  pub certificates_agree : CertificatesAgree x
  certificates_agree v n c c' p q = rules.one_vote (correct_active v).correct (at_active v p) (at_active v q)

  -- View 0 has no justification, since that would have a report, of a lower view still,
  justified_viewed : (v n c : ℕ) → Justification x v n c → 1 ≤ v
  justified_viewed v n c j =
      let s = quorums_overlap rules.sound _ _ j.quorum j.quorum in
      let r = among_map signer_of j.reports s.in_left in
      omega (arith, j.below r.1)

  -- and so no certificate.
  pub certificate_viewed : (v n c : ℕ) → Certificate x v n c → 1 ≤ v
  certificate_viewed v n c cert = elim (cases_eq v 1) [
    | inl first ↦ omega arith
    | inr other ↦ justified_viewed v n c (rules.vote_justified (correct_active v).correct (at_active v cert) other)
  ]

  -- What follows where command c is settled in view v.
  module _ (v n c : ℕ) (settled : Settled x v n c) where
    pub settled_certificate : Certificate x v n c
    settled_certificate = rules.commit_certified (correct_active v).correct (at_active v settled)

    pub settled_viewed : 1 ≤ v
    settled_viewed = certificate_viewed v n c settled_certificate

    -- The reports for a later view u have a highest one, which names view v or a later one: the active replicas of v and
    -- the signers share a correct replica, which committed in view v and left nothing out of its report.
    carried : (u c' : ℕ) → v < u → (j : Justification x u n c') → (t : Top j.reports) × (v ≤ t.report.earlier)
    carried u c' later j =
        let s = quorums_overlap rules.sound _ _ (active v) j.quorum in
        let r = among_map signer_of j.reports s.in_right in
        let correct : Correct x.group r.0.signer = rw r.2 s.correct in
        let committed = settled r.0.signer correct (rw r.2 s.in_left) in
        let told = rules.report_complete correct committed (j.signed r.1 correct) later in
        let t = top j.reports r.1 in
        (t, omega (arith, t.highest r.0 r.1))

    -- That report has a certificate. So if the certificates from view v up to view u are for c, view u votes for c.
    justified_for : (u c' : ℕ) → v < u → ((w d : ℕ) → v ≤ w → w < u → Certificate x w n d → d ≡ c) → Justification x u n c' → c' ≡ c
    justified_for u c' later before j =
        let t = carried u c' later j in
        let r = t.0.report in
        let stands = t.0.stands in
        let above : 0 < r.earlier = omega (arith, t.1, settled_viewed) in
        sym (j.highest_binds stands t.0.highest above) ∙ before r.earlier r.command t.1 (j.below stands) (j.certified stands above)

    -- By induction on the view, all certificates from view v on are for c.
    pub certificate_bound : (u c' : ℕ) → v ≤ u → Certificate x u n c' → c' ≡ c
    certificate_bound = strong_induction (λ u. (c' : ℕ) → v ≤ u → Certificate x u n c' → c' ≡ c) (λ u bound c' from cert. elim (cases_eq v u) [
      | inl same ↦ certificates_agree u n c' c cert (rw same at settled_certificate)
      | inr other ↦
          let j = rules.vote_justified (correct_active u).correct (at_active u cert) (omega (arith, settled_viewed)) in
          justified_for u c' (omega arith) (λ w d since below. bound w below d since) j
    ])

    pub justified_bound : (u c' : ℕ) → v < u → Justification x u n c' → c' ≡ c
    justified_bound u c' later j = justified_for u c' later (λ w d since _. certificate_bound w d since) j

    pub vote_bound : (i u c' : ℕ) → v < u → Correct x.group i → x.Voted i u n c' → c' ≡ c
    vote_bound i u c' later correct vote = justified_bound u c' later (rules.vote_justified correct vote (omega (arith, settled_viewed)))

    pub commit_bound : (i u c' : ℕ) → v ≤ u → Correct x.group i → x.Committed i u n c' → c' ≡ c
    commit_bound i u c' from correct commit = certificate_bound u c' from (rules.commit_certified correct commit)

  pub settled_binds : SettledBinds x
  settled_binds v n c settled = record {
    justified = justified_bound v n c settled;
    votes = vote_bound v n c settled;
    certificates = certificate_bound v n c settled;
    commits = commit_bound v n c settled;
  }

  -- The certificate of the later one is bound by the earlier one.
  pub settled_agree : SettledAgree x
  settled_agree n u v c c' p q = elim (cases_lt u v) [
    | inl before ↦ sym (certificate_bound u n c p v c' (omega arith) (settled_certificate v n c' q))
    | inr after ↦ certificate_bound v n c' q u c after (settled_certificate u n c p)
  ]
