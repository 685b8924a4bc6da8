-- The group's promise stands.
use Rattle.std.proofs.Common.{◌≡◌, ℕ, true, List, ◌∷◌, Some, sym, ap, ◌∙◌, subst}
use Rattle.agreement.specs.Lists.{Among}
use Rattle.proof.specs.Roles.{active}
use Rattle.slots.specs.Cores.{is_open}
use Rattle.promise.specs.Steps.{Setting, Member}
use Rattle.promise.specs.Histories.{Event, History, Unforged}
use Rattle.promise.specs.Histories as histories
use Rattle.promise.specs.Lists.{asked, state_after, answer_at}
use Rattle.promise.specs.Rounds as rounds
use Rattle.promise.specs.Claims.{Promise, Promised}
use Rattle.promise.proofs.Turns.{Turn, Course}
use Rattle.promise.proofs.Turns as turns
use Rattle.promise.proofs.Decisions.{listed}
use Rattle.promise.proofs.Carrying.{has, tells, knows, carried, answers}
use Rattle.promise.proofs.Rounds.{round_decided, round_open}
use Rattle.promise.proofs.Lifts.{Lifted, same_now, lift}
use Rattle.promise.proofs.Lowered.{same_runs, unforged_lowered}
use Rattle.promise.proofs.Deciding.{decided_down, decided_up}
use Rattle.promise.proofs.Collecting.{collected}
use Rattle.promise.proofs.Delivering.{down}
use Rattle.promise.proofs.Leading.{round}

module _ {State : Type 0} (k : Setting State) (h : List (Event State)) (hist : History k h) (unf : Unforged k h) where
  course : Course k (lift k hist).turns
  course = (lift k hist).course

  unforged : turns.Unforged k (lift k hist).turns
  unforged = unforged_lowered k (lift k hist).lifted unf

  knows_it : (i n c : ℕ) → is_open (histories.now k i h).core n ≡ true → histories.Decided i n c h → asked (histories.now k i h).core n ≡ Some c
  knows_it i n c o d =
      let same = same_now k i (lift k hist).lifted in
      subst (λ (m : Member State). asked m.core n ≡ Some c) (sym same) (knows k (lift k hist).turns course unforged i n c (subst (λ (m : Member State). is_open m.core n ≡ true) same o) (decided_down k (lift k hist).lifted d))

  in_round : (v n c : ℕ) (h₀ : List (Event State)) → rounds.Round k v n c h₀ h → (i : ℕ) → Among i (active v) → histories.Decided i n c h
  in_round v n c h₀ rd i a =
      let hist' = subst (λ x. History k x) rd.whole hist in
      let l' = subst (λ x. Lifted k x (lift k hist).turns) rd.whole (lift k hist).lifted in
      let d = down k v n c (rd.second ∷ rd.first ∷ rd.leads ∷ h₀) rd.each hist' l' in
      let r = round k v n c h₀ h rd hist' (lift k hist).turns course l' d in
      let x = round_decided k v n c _ _ r (subst (λ y. Course k y) r.whole course) (subst (λ y. turns.Unforged k y) r.whole unforged) i a in
      decided_up k (lift k hist).lifted (subst (λ y. turns.Decided i n c y) (sym r.whole) x)

  open_in_round : (v n c : ℕ) (h₀ : List (Event State)) → rounds.Round k v n c h₀ h → (i : ℕ) → Among i (active v) → is_open (histories.now k i h).core n ≡ true
  open_in_round v n c h₀ rd i a =
      let hist' = subst (λ x. History k x) rd.whole hist in
      let l' = subst (λ x. Lifted k x (lift k hist).turns) rd.whole (lift k hist).lifted in
      let d = down k v n c (rd.second ∷ rd.first ∷ rd.leads ∷ h₀) rd.each hist' l' in
      let r = round k v n c h₀ h rd hist' (lift k hist).turns course l' d in
      let x = round_open k v n c _ _ r (subst (λ y. Course k y) r.whole course) (subst (λ y. turns.Unforged k y) r.whole unforged) i a in
      subst (λ (m : Member State). is_open m.core n ≡ true) (ap (turns.now k i) (sym r.whole) ∙ sym (same_now k i (lift k hist).lifted)) x

  pub promise : Promise k h
  promise = record {
    list = listed (lift k hist).turns;
    decided = λ i n c ok d. has k (lift k hist).turns course unforged (decided_down k (lift k hist).lifted d);
    tells = λ i n c ok e. decided_up k (lift k hist).lifted (tells k (lift k hist).turns course unforged i n c (subst (λ (m : Member State). asked m.core n ≡ Some c) (same_now k i (lift k hist).lifted) e));
    knows = λ i n c ok o d. knows_it i n c o d;
    counts = λ i ok. ap (λ (m : Member State). m.core.count) (same_now k i (lift k hist).lifted) ∙ (carried k (lift k hist).turns course unforged course (λ x a. a) i).count ∙ sym (same_runs k i (lift k hist).lifted);
    carries = λ i ok. subst (λ (m : Member State). m.state ≡ state_after k (listed (lift k hist).turns) m.core.count) (sym (same_now k i (lift k hist).lifted)) (carried k (lift k hist).turns course unforged course (λ x a. a) i).state;
    collects = λ n packets w closed c hp e. collected k (lift k hist).lifted n packets hp w closed c e (answer_at k (listed (lift k hist).turns) n) (λ i t ok wr. answers k (lift k hist).turns course unforged i n closed.result t ok wr);
    rounds = λ v n c h₀ rd i a.
        let d = in_round v n c h₀ rd i a in
        (d, knows_it i n c (open_in_round v n c h₀ rd i a) d);
  }

pub promised : (State : Type 0) → Promised State
promised State k h hist unf = promise k h hist unf
