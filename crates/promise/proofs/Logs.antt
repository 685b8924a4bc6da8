-- The deeds of each replica of a history.
use Rattle.std.proofs.Common.{◌≡◌, ℕ, zero, suc, ◌%◌, cond, eqb, List, [], ◌∷◌, replicate, length, get_or, sym, refl, ap, ◌∙◌, subst, inl, inr}
use mathlib.Core.Path.{fun_ext}
use Rattle.std.proofs.lemmas.Bool.{cases_eq, cases_Bool, cond-true, cond-false, eq-eqb, ne_eqb}
use Rattle.agreement.specs.Lists.{Among}
use Rattle.agreement.specs.Lists.Among.{here, there}
use Rattle.ledger.specs.Sheets.{Page, Sheet, start, Deed, Did}
use Rattle.ledger.specs.Sheets.Did.{begin, go}
use Rattle.ledger.specs.Sheets as sheets
use Rattle.slots.specs.Cores.{first_core, in_window}
use Rattle.slots.specs.Records.{blank}
use Rattle.slots.specs.declared.records.Record.{Record}
use Rattle.promise.specs.Steps.{Setting, Member}
use Rattle.promise.specs.Histories.{Correct}
use Rattle.promise.proofs.Turns.{Turn, Readable, Answers, Course, now}
use Rattle.promise.proofs.Turns.Course.{none, more}
use Rattle.promise.proofs.Rings.{page_of, page_at, sheet_of, Sized, blank_page}
use Rattle.promise.proofs.Refines.{deed, Refined, refines}

all_blank : (k i : ℕ) → get_or (replicate k blank) i blank ≡ blank
all_blank zero i = refl
all_blank (suc k) zero = refl
all_blank (suc k) (suc i) = all_blank k i

no_votes_long : (x : Record) → x ≡ blank → (length x.prepares.held ≡ 4) × (length x.commits.held ≡ 4)
no_votes_long x e = subst (λ (y : Record). (length y.prepares.held ≡ 4) × (length y.commits.held ≡ 4)) (sym e) (refl, refl)

first_sized : Sized first_core
first_sized = record { ring = refl; prepares = λ i. (no_votes_long _ (all_blank 32 i)).0; commits = λ i. (no_votes_long _ (all_blank 32 i)).1 }

first_page : (n : ℕ) → page_at first_core n ≡ sheets.blank
first_page n = elim (cases_Bool (in_window 0 n)) [
  | inl t ↦ cond-true (in_window 0 n) _ _ t ∙ ap page_of (all_blank 32 (n % 32)) ∙ blank_page
  | inr t ↦ cond-false (in_window 0 n) _ _ t
]

first_sheet : sheet_of first_core ≡ start
first_sheet = ap (λ (p : ℕ → Page). record { view = 1; floor = 0; page = p }) (fun_ext first_page)

module _ {State : Type 0} where
  abbrev pub turn_deed : Turn State → Deed
  turn_deed e = deed e.before.core e.call e.answer e.after.core

  -- the deeds of replica i, the newest first
  abbrev pub log : (i : ℕ) → List (Turn State) → List Deed
  log i [] = []
  log i (e ∷ h) = cond (eqb e.who i) (turn_deed e ∷ log i h) (log i h)

  pub log_own : (i : ℕ) (e : Turn State) (h : List (Turn State)) → e.who ≡ i → log i (e ∷ h) ≡ turn_deed e ∷ log i h
  log_own i e h q = cond-true (eqb e.who i) _ _ (eq-eqb e.who i q)

  pub log_other : (i : ℕ) (e : Turn State) (h : List (Turn State)) → ¬ (e.who ≡ i) → log i (e ∷ h) ≡ log i h
  log_other i e h q = cond-false (eqb e.who i) _ _ (ne_eqb e.who i q)

  pub logged : (i : ℕ) {e : Turn State} (h : List (Turn State)) → Among e h → e.who ≡ i → Among (turn_deed e) (log i h)
  logged i [] a q = elim a [ ]
  logged i {e} (x ∷ h) (here p) q = subst (λ l. Among (turn_deed e) l) (sym (log_own i x h (ap (λ (y : Turn State). y.who) (sym p) ∙ q))) (here (ap turn_deed p))
  logged i {e} (x ∷ h) (there a) q = elim (cases_eq x.who i) [
    | inl p ↦ subst (λ l. Among (turn_deed e) l) (sym (log_own i x h p)) (there (logged i h a q))
    | inr p ↦ subst (λ l. Among (turn_deed e) l) (sym (log_other i x h p)) (logged i h a q)
  ]

  -- the turn that a deed came from
  pub record Source (i : ℕ) (d : Deed) (h : List (Turn State)) : Type 0 where
    pub turn : Turn State
    pub stands : Among turn h
    pub own : turn.who ≡ i
    pub is : turn_deed turn ≡ d

  later : {i : ℕ} {d : Deed} {h : List (Turn State)} {e : Turn State} → Source i d h → Source i d (e ∷ h)
  later s = record { turn = s.turn; stands = there s.stands; own = s.own; is = s.is }

  from_cons : {i : ℕ} {d : Deed} {h : List (Turn State)} (e : Turn State) → e.who ≡ i → (Among d (log i h) → Source i d h) → Among d (turn_deed e ∷ log i h) → Source i d (e ∷ h)
  from_cons e q f (here p) = record { turn = e; stands = here refl; own = q; is = sym p }
  from_cons e q f (there a) = later (f a)

  pub source : (i : ℕ) {d : Deed} (h : List (Turn State)) → Among d (log i h) → Source i d h
  source i [] a = elim a [ ]
  source i {d} (x ∷ h) a = elim (cases_eq x.who i) [
    | inl p ↦ from_cons x p (source i h) (subst (λ l. Among d l) (log_own i x h p) a)
    | inr p ↦ later (source i h (subst (λ l. Among d l) (log_other i x h p) a))
  ]

module _ {State : Type 0} (k : Setting State) where
  -- what a replica has down is what its deeds made
  pub record Logged (i : ℕ) (h : List (Turn State)) : Type 0 where
    pub did : Did i (log i h) (sheet_of (now k i h).core)
    pub sized : Sized (now k i h).core

  pub now_own : (i : ℕ) (e : Turn State) (h : List (Turn State)) → e.who ≡ i → now k i (e ∷ h) ≡ e.after
  now_own i e h q = cond-true (eqb e.who i) _ _ (eq-eqb e.who i q)

  pub now_other : (i : ℕ) (e : Turn State) (h : List (Turn State)) → ¬ (e.who ≡ i) → now k i (e ∷ h) ≡ now k i h
  now_other i e h q = cond-false (eqb e.who i) _ _ (ne_eqb e.who i q)

  -- a call by i, on what i was before it
  pub refined : (i : ℕ) (e : Turn State) (h : List (Turn State)) → e.who ≡ i → Correct k e.who → e.before ≡ now k e.who h → Sized (now k i h).core → Readable e.call → Answers e.who k e.before e.call e.answer e.after → Refined i (now k i h).core (turn_deed e) e.after.core
  refined i e h q c b s readable a =
      let same : e.before ≡ now k i h = b ∙ ap (λ (j : ℕ). now k j h) q in
      let sized : Sized e.before.core = subst (λ (m : Member State). Sized m.core) (sym same) s in
      let r = refines e.who k e.before e.after c.known sized e.call e.answer readable a in
      subst (λ (m : Member State). Refined i m.core (turn_deed e) e.after.core) same (subst (λ (j : ℕ). Refined j e.before.core (turn_deed e) e.after.core) q r)

  pub all_logged : {h : List (Turn State)} → Course k h → (i : ℕ) → Logged i h
  all_logged none i = record { did = subst (λ (s : Sheet). Did i [] s) (sym first_sheet) begin; sized = first_sized }
  all_logged (more {h} e r c b readable a) i =
      let before = all_logged r i in
      elim (cases_eq e.who i) [
        | inl q ↦
            let f = refined i e h q c b before.sized readable a in
            let step : Did i (turn_deed e ∷ log i h) (sheet_of e.after.core) = subst (λ (x : Sheet). Did i (turn_deed e ∷ log i h) x) (sym f.sheet) (go (turn_deed e) before.did f.might) in
            record {
              did = subst (λ (m : Member State). Did i (log i (e ∷ h)) (sheet_of m.core)) (sym (now_own i e h q)) (subst (λ l. Did i l (sheet_of e.after.core)) (sym (log_own i e h q)) step);
              sized = subst (λ (m : Member State). Sized m.core) (sym (now_own i e h q)) f.sized;
            }
        | inr q ↦ record {
          did = subst (λ (m : Member State). Did i (log i (e ∷ h)) (sheet_of m.core)) (sym (now_other i e h q)) (subst (λ l. Did i l (sheet_of (now k i h).core)) (sym (log_other i e h q)) before.did);
          sized = subst (λ (m : Member State). Sized m.core) (sym (now_other i e h q)) before.sized;
        }
      ]

  -- what a turn of a history was
  pub record Was (e : Turn State) : Type 0 where
    pub correct : Correct k e.who
    pub readable : Readable e.call
    pub answers : Answers e.who k e.before e.call e.answer e.after

  pub was : {h : List (Turn State)} {e : Turn State} → Course k h → Among e h → Was e
  was none a = elim a [ ]
  was (more x r c b readable s) (here p) = subst (λ (y : Turn State). Was y) (sym p) (record { correct = c; readable = readable; answers = s })
  was (more x r c b readable s) (there a) = was r a
