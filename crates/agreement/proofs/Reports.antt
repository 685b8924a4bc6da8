-- Among reports there is one with the highest earlier view.
use Rattle.std.proofs.Common.{◌≤◌, List, [], ◌∷◌, refl, inl, inr, arith}
use Rattle.std.proofs.lemmas.Bool.{cases_lt}
use Rattle.agreement.specs.Lists.{Among}
use Rattle.agreement.specs.Lists.Among.{here, there}
use Rattle.agreement.specs.Reports.{Report}
use Rattle.agreement.proofs.Lists.{each_cons}

-- a report of the list, and no other names a later view
pub record Top (reports : List Report) : Type 0 where
  pub report : Report
  pub stands : Among report reports
  pub highest : (s : Report) → Among s reports → s.earlier ≤ report.earlier

top_cons : (r : Report) (reports : List Report) → Top (r ∷ reports)
top_cons r [] = record { report = r; stands = here refl; highest = each_cons (omega arith) (λ s a. elim a [ ]) }
top_cons r (q ∷ reports) =
    let t = top_cons q reports in
    elim (cases_lt r.earlier t.report.earlier) [
      | inl l ↦ record { report = t.report; stands = there t.stands; highest = each_cons (omega arith) t.highest }
      | inr g ↦ record { report = r; stands = here refl; highest = each_cons (omega arith) (λ s a. omega (arith, t.highest s a)) }
    ]

pub top : {r : Report} (reports : List Report) → Among r reports → Top reports
top [] a = elim a [ ]
top (r ∷ reports) a = top_cons r reports
