-- What quorums share, and the quorums of four replicas.
use Rattle.std.proofs.Common.{ℕ, ◌<◌, [], ◌∷◌, refl, arith}
use Rattle.agreement.specs.Lists.Distinct.{none, more}
use Rattle.agreement.specs.Groups.{Group, group_size, Quorum, Sound}
use Rattle.agreement.specs.Laws.{QuorumsOverlap}
use Rattle.agreement.proofs.Lists.{each_of_three, not_cons}
use Rattle.agreement.proofs.Counting.{below_length, below_all, common}

-- Two quorums share a correct replica: 2 (2 f + 1) exceeds 3 f + 1 by f + 1, and at most f lie.
pub quorums_overlap : {g : Group} → Sound g → QuorumsOverlap g
quorums_overlap {g} sound left right p q =
    let all : ℕ = group_size g.faults in
    let l = below_all all left (λ _. p.known) in
    let r = below_all all right (λ _. q.known) in
    let lying = below_length all g.liars in
    let s = common all g.liars p.distinct q.distinct (omega (arith, sound.few_lie, p.size, q.size)) in
    record { replica = s.number; correct = record { known = s.small; honest = s.not_other }; in_left = s.in_xs; in_right = s.in_ys }

-- three of four replicas, by rising number, are a quorum that bears one fault
pub three_of_four : (a b c : ℕ) → a < b → b < c → c < 4 → Quorum 1 (a ∷ b ∷ c ∷ [])
three_of_four a b c ab bc c4 = record {
  size = refl;
  distinct = more (not_cons (omega arith) (not_cons (omega arith) (λ m. elim m [ ]))) (more (not_cons (omega arith) (λ m. elim m [ ])) (more (λ m. elim m [ ]) none));
  known = λ {i} m. each_of_three (λ j. j < 4) (omega arith) (omega arith) (omega arith) i m;
}
