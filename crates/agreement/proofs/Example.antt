-- The example keeps the rules.
use Rattle.std.proofs.Common.{◌≡◌, ℕ, ◌<◌, ◌≤◌, T, eqb, ◌⊎◌, List, [], ◌∷◌, sym, refl, ◌∙◌, inl, inr, arith}
use Rattle.std.proofs.lemmas.Bool.{cases_eq, cond_both}
use Rattle.std.proofs.lemmas.Bool.Decides.{nat_tests}
use Rattle.agreement.specs.Lists.{Among}
use Rattle.agreement.specs.Lists.Among.{here, there}
use Rattle.agreement.specs.Groups.{Quorum, Correct}
use Rattle.agreement.specs.Votes.{Execution, Certificate}
use Rattle.agreement.specs.Reports.{Report, Highest, Justification}
use Rattle.agreement.specs.Rules.{Rules}
use Rattle.agreement.specs.Traces.{execution}
use Rattle.agreement.specs.Example.{four, voted_for, example, RulesKept}
use Rattle.agreement.proofs.Lists.{each_of_three}
use Rattle.agreement.proofs.Groups.{three_of_four}

abbrev x : Execution
x = execution example

quorum : (v : ℕ) → Quorum 1 (four.active v)
quorum v =
    cond_both (eqb v 1) _ _ (Quorum 1) (λ _. three_of_four 0 1 2 (omega arith) (omega arith) (omega arith))
    (λ _. cond_both (eqb v 2) _ _ (Quorum 1) (λ _. three_of_four 1 2 3 (omega arith) (omega arith) (omega arith))
    (λ _. three_of_four 0 2 3 (omega arith) (omega arith) (omega arith)))

honest : {i : ℕ} → Correct four i → ¬ (i ≡ 3)
honest ok e = ok.honest (here e)

-- what a correct replica's vote tells
record Vote (i v n c : ℕ) : Type 0 where
  from : 1 ≤ v
  to : v ≤ 3
  slot : n ≡ 1
  command : c ≡ voted_for v

vote : (i v n c : ℕ) → ¬ (i ≡ 3) → T (example.voted i v n c) → Vote i v n c
vote i v n c ok t = record { from = grind (arith, nat_tests); to = grind (arith, nat_tests); slot = grind (arith, nat_tests); command = grind (arith, nat_tests) }

commit_vote : (i v n c : ℕ) → T (example.committed i v n c) → T (example.voted i v n c)
commit_vote i v n c t = grind (arith, nat_tests)

-- a commit in view 1 is by replica 0
commit_first : (i v n c : ℕ) → ¬ (i ≡ 3) → T (example.committed i v n c) → (1 < v) ⊎ (i ≡ 0)
commit_first i v n c ok t = grind (arith, nat_tests)

-- the commits of a correct replica stand in its later reports
complete : (i u v n c e c' : ℕ) → ¬ (i ≡ 3) → T (example.committed i u n c) → T (example.reported i v n e c') → u < v → u ≤ e
complete i u v n c e c' ok t r lt = let first = commit_first i u n c ok t in grind (arith, nat_tests)

-- what holds of the three views
by_view : (P : ℕ → Type 0) (v : ℕ) → 1 ≤ v → v ≤ 3 → P 1 → P 2 → P 3 → P v
by_view P v from to p q r =
    elim (cases_eq v 1) [
      | inl e ↦ rw e p
      | inr n1 ↦ elim (cases_eq v 2) [ inl e ↦ rw e q | inr n2 ↦ let e : v ≡ 3 = omega arith in rw e r ]
    ]

certificate : (v : ℕ) → 1 ≤ v → v ≤ 3 → Certificate x v 1 (voted_for v)
certificate v from to =
    by_view (λ w. Certificate x w 1 (voted_for w)) v from to
    (λ j _. each_of_three (λ y. T (example.voted y 1 1 5)) tt tt tt j)
    (λ j _. each_of_three (λ y. T (example.voted y 2 1 7)) tt tt tt j)
    (λ j _. each_of_three (λ y. T (example.voted y 3 1 7)) tt tt tt j)

abbrev report : (i e c : ℕ) → Report
report i e c = record { signer = i; earlier = e; command = c }

-- the reports for view 2: none of the signers saw a certificate
abbrev second_reports : List Report
second_reports = report 1 0 0 ∷ report 2 0 0 ∷ report 3 0 0 ∷ []

none_seen : (r : Report) → Among r second_reports → r.earlier ≡ 0
none_seen = each_of_three (λ s. s.earlier ≡ 0) refl refl refl

second : Justification x 2 1 7
second = record {
  reports = second_reports;
  quorum = quorum 2;
  signed = λ {r} m _. each_of_three (λ s. T (example.reported s.signer 2 1 s.earlier s.command)) tt tt tt r m;
  below = λ {r} m. each_of_three (λ s. s.earlier < 2) (omega arith) (omega arith) (omega arith) r m;
  certified = λ {r} m above. absurd (omega (arith, none_seen r m));
  highest_binds = λ {r} m _ above. absurd (omega (arith, none_seen r m));
}

-- the reports for view 3: the highest is that of replica 2, and not that of replica 0
abbrev third_reports : List Report
third_reports = report 0 1 5 ∷ report 2 2 7 ∷ report 3 0 0 ∷ []

third : Justification x 3 1 7
third = record {
  reports = third_reports;
  quorum = quorum 3;
  signed = λ {r} m _. each_of_three (λ s. T (example.reported s.signer 3 1 s.earlier s.command)) tt tt tt r m;
  below = λ {r} m. each_of_three (λ s. s.earlier < 3) (omega arith) (omega arith) (omega arith) r m;
  certified = λ {r} m. each_of_three (λ s. 0 < s.earlier → Certificate x s.earlier 1 s.command) (λ _. certificate 1 (omega arith) (omega arith)) (λ _. certificate 2 (omega arith) (omega arith)) (λ above. absurd (omega arith)) r m;
  highest_binds = λ {r} m. each_of_three (λ s. Highest s third_reports → 0 < s.earlier → s.command ≡ 7) (λ highest _. absurd (omega (arith, highest (report 2 2 7) (there (here refl))))) (λ _ _. refl) (λ _ above. absurd (omega arith)) r m;
}

justification : (v : ℕ) → 1 ≤ v → v ≤ 3 → ¬ (v ≡ 1) → Justification x v 1 (voted_for v)
justification v from to = by_view (λ w. ¬ (w ≡ 1) → Justification x w 1 (voted_for w)) v from to (λ other. absurd (other refl)) (λ _. second) (λ _. third)

rules : Rules x
rules = record {
  sound = record { few_lie = omega arith; active_quorum = quorum };
  one_vote = λ {i} {v} {n} {c} {c'} ok s t. (vote i v n c (honest ok) s).command ∙ sym (vote i v n c' (honest ok) t).command;
  commit_certified = λ {i} {v} {n} {c} ok t.
      let f = vote i v n c (honest ok) (commit_vote i v n c t) in
      rw (f.slot, f.command) (certificate v f.from f.to);
  vote_justified = λ {i} {v} {n} {c} ok t other.
      let f = vote i v n c (honest ok) t in
      rw (f.slot, f.command) (justification v f.from f.to other);
  report_complete = λ {i} {u} {v} {n} {c} {e} {c'} ok. complete i u v n c e c' (honest ok);
}

pub rules_kept : RulesKept
rules_kept = record {
  rules = rules;
  certified = certificate 1 (omega arith) (omega arith);
  lone_commit = tt;
  settled = λ j _. each_of_three (λ y. T (example.committed y 2 1 7)) tt tt tt j;
  settled_again = λ j _. each_of_three (λ y. T (example.committed y 3 1 7)) tt tt tt j;
}
