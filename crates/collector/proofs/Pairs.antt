-- A count of two is a pair, and so the first result that agrees is that of the lowest replica of a pair.
use Rattle.std.proofs.Common.{◌≡◌, ℕ, zero, suc, ◌<◌, ◌≤◌, Bool, true, false, cond, ◌≢◌, List, [], ◌∷◌, length, get_or, set, find, Some, None, count_by, Option, nat_eq, refl, inl, inr, arith}
use Rattle.std.proofs.lemmas.List.{get_or-set_same, get_or-set_other, get_or_past}
use Rattle.std.proofs.lemmas.List.Sums.{sum_by-cons, sum_by-set, get_or-le-sum_by}
use Rattle.std.proofs.lemmas.Bool.{cases_Bool, eq-eqb, leb-true, le-leb}
use Rattle.std.proofs.lemmas.Bool.Decides.{nat_tests}
use Rattle.std.specs.List.{flat_map}
use Rattle.std.specs.Option.{option_to_list}
use Rattle.ballot.specs.Counting.{counts_for, count_of}
use Rattle.collector.specs.declared.collectors.Waiting.{Waiting}
use Rattle.collector.specs.Collectors.{agrees, agreed_result, closed_as}
use Rattle.collector.specs.Laws.{Gave, Pair, LowestPair, Closes, ClosesExactly}

-- places that pass a test, counted; past the last place stands one that does not
module _ {X : Type 0} (test : X → Bool) (d : X) (fails : test d ≡ false) where
  abbrev one_at : X → ℕ
  one_at x = cond (test x) 1 0

  within : (xs : List X) (i : ℕ) → test (get_or xs i d) ≡ true → i < length xs
  within xs i a = grind (arith, get_or_past xs i d)

  some_place : (xs : List X) → 1 ≤ count_by test xs → (j : ℕ) × (test (get_or xs j d) ≡ true)
  some_place [] h = absurd (omega arith)
  some_place (x ∷ xs) h =
      elim (cases_Bool (test x)) [
        | inl e ↦ (0, e)
        | inr e ↦ let r = some_place xs (grind (arith, nat_tests, sum_by-cons one_at x xs)) in (suc r.0, r.1)
      ]

  -- of two places that pass, one is another than a given one
  another_place : (xs : List X) (i : ℕ) → test (get_or xs i d) ≡ true → 2 ≤ count_by test xs → (j : ℕ) × (j ≢ i) × (test (get_or xs j d) ≡ true)
  another_place xs i a h =
      let r = some_place (set xs i d) (grind (arith, nat_tests, sum_by-set one_at xs i d d, within xs i a)) in
      let apart : r.0 ≢ i = λ e. cc (r.1, e, get_or-set_same xs i d d (within xs i a), fails) in
      (r.0, apart, rw (get_or-set_other xs i r.0 d d apart) at r.1)

  two_places : (xs : List X) (i j : ℕ) → j ≢ i → test (get_or xs i d) ≡ true → test (get_or xs j d) ≡ true → 2 ≤ count_by test xs
  two_places xs i j n a b =
      grind (arith, nat_tests, sum_by-set one_at xs i d d, within xs i a, get_or-set_other xs i j d d n, within (set xs i d) j, get_or-le-sum_by one_at (set xs i d) j d)

-- a place counts for the result that it holds, and for no other
counts : (r : ℕ) (place : Option ℕ) → place ≡ Some r → counts_for nat_eq r place ≡ true
counts r place e = rw e (eq-eqb r r refl)

holds : (r : ℕ) (place : Option ℕ) → counts_for nat_eq r place ≡ true → place ≡ Some r
holds r None e = cc
holds r (Some s) e = grind (arith, nat_tests)

-- the first held result that passes a test
module _ (test : ℕ → Bool) where
  record First (places : List (Option ℕ)) (r : ℕ) : Type 0 where
    at : ℕ
    stands : get_or places at None ≡ Some r
    passes : test r ≡ true
    before : (k s : ℕ) → k < at → get_or places k None ≡ Some s → test s ≡ false

  -- a place in front that holds no such result
  behind : (place : Option ℕ) (places : List (Option ℕ)) (r : ℕ) → ((s : ℕ) → place ≡ Some s → test s ≡ false) → First places r → First (place ∷ places) r
  behind place places r fails f = record {
    at = suc f.at;
    stands = f.stands;
    passes = f.passes;
    before = elim [ zero ↦ λ s l q. fails s q | suc k ↦ λ s l q. f.before k s (omega arith) q ];
  }

  first_found : (places : List (Option ℕ)) (r : ℕ) → find test (flat_map option_to_list places) ≡ Some r → First places r
  first_found [] r e = cc
  first_found (None ∷ places) r e = behind None places r (λ s q. cc) (first_found places r e)
  first_found (Some p ∷ places) r e =
      elim (cases_Bool (test p)) [
        | inl a ↦ record { at = 0; stands = grind arith; passes = grind arith; before = λ k s l q. absurd (omega arith) }
        | inr a ↦ behind (Some p) places r (λ s q. cc) (first_found places r (rw a at e))
      ]

  none_found : (places : List (Option ℕ)) → find test (flat_map option_to_list places) ≡ None → (k s : ℕ) → get_or places k None ≡ Some s → test s ≡ false
  none_found [] e k s q = cc
  none_found (place ∷ places) e zero s q = grind arith
  none_found (place ∷ places) e (suc k) s q = grind (arith, none_found places)

module _ (results : List (Option ℕ)) where
  pair_agrees : (i j r : ℕ) → Pair results i j r → agrees results r ≡ true
  pair_agrees i j r p =
      le-leb 2 (count_of nat_eq results r) (two_places (counts_for nat_eq r) None refl results i j p.apart (counts r _ p.one) (counts r _ p.other))

  agrees_pair : (i r : ℕ) → Gave results i r → agrees results r ≡ true → (j : ℕ) × Pair results i j r
  agrees_pair i r gave a =
      let m = another_place (counts_for nat_eq r) None refl results i (counts r _ gave) (leb-true 2 (count_of nat_eq results r) a) in
      (m.0, record { apart = m.1; one = gave; other = holds r _ m.2 })

  lowest_pair : (r : ℕ) → agreed_result results ≡ Some r → LowestPair results r
  lowest_pair r e =
      let f = first_found (agrees results) results r e in
      let p = agrees_pair f.at r f.stands f.passes in
      record {
        lower = f.at;
        partner = p.0;
        pair = p.1;
        lowest = λ k m s l q. cc (f.before k s l q.one, pair_agrees k m s q);
      }

  no_pair : agreed_result results ≡ None → (i j r : ℕ) → ¬ Pair results i j r
  no_pair e i j r q = cc (none_found (agrees results) results e i r q.one, pair_agrees i j r q)

closes_as : (w : Waiting) (o : Option ℕ) → agreed_result w.results ≡ o → Closes w (closed_as w o)
closes_as w (Some r) e = (refl, lowest_pair w.results r e)
closes_as w None e = (refl, refl, no_pair w.results e)

pub closes_exactly : ClosesExactly
closes_exactly w = closes_as w (agreed_result w.results) refl
