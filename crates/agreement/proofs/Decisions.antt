-- One list that every justified decision is read from.
use Rattle.std.proofs.Common.{◌≡◌, ℕ, cond, eqb, List, [], ◌∷◌, sym, refl, ap, arith}
use Rattle.std.proofs.lemmas.Bool.Decides.{nat_tests}
use Rattle.agreement.specs.Lists.{Among}
use Rattle.agreement.specs.Lists.Among.{here, there}
use Rattle.agreement.specs.Votes.{Execution}
use Rattle.agreement.specs.Rules.{Rules}
use Rattle.agreement.specs.Decisions.{Decision, empty_command}
use Rattle.agreement.specs.Laws.{OneList}
use Rattle.agreement.proofs.Laws.{settled_agree}

-- the first decision on slot n, or the empty command
abbrev first_on : List Decision → ℕ → ℕ
first_on [] n = empty_command
first_on (d ∷ ds) n = cond (eqb d.slot n) d.command (first_on ds n)

-- decisions on one slot are of one command
abbrev Consistent : List Decision → Type 0
Consistent ds = (d e : Decision) → Among d ds → Among e ds → d.slot ≡ e.slot → d.command ≡ e.command

first_decided : (d : Decision) {ds : List Decision} → Consistent ds → Among d ds → first_on ds d.slot ≡ d.command
first_decided d agree (here {y} {ys} e) =
    let same = agree y d (here refl) (here e) (ap (λ (z : Decision). z.slot) (sym e)) in
    grind (arith, nat_tests)
first_decided d agree (there {y} {ys} a) =
    let h = first_decided d (λ p q i j. agree p q (there i) (there j)) a in
    let same = agree y d (here refl) (there a) in
    grind (arith, nat_tests)

first_undecided : (ds : List Decision) (n : ℕ) → ((d : Decision) → Among d ds → ¬ (d.slot ≡ n)) → first_on ds n ≡ empty_command
first_undecided [] n none = refl
first_undecided (d ∷ ds) n none =
    let h = first_undecided ds n (λ e a. none e (there a)) in
    let other = none d (here refl) in
    grind (arith, nat_tests)

pub one_list : {x : Execution} → Rules x → OneList x
one_list rules ds justified =
    let consistent : Consistent ds = λ d e a b same.
    let p = justified d a in
    let q = justified e b in
    settled_agree rules d.slot p.0 q.0 d.command e.command p.1 (rw same q.1) in
    record { command_at = first_on ds; decided = λ d. first_decided d consistent; undecided = first_undecided ds }
