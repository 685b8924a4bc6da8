-- Every history keeps the rules of agreement.
use Rattle.std.proofs.Common.{◌≡◌, ℕ, ◌⊎◌, List, [], ◌∷◌, ◌++◌, Some, Option, sym, refl, ap, ◌∙◌, subst, inl, inr, arith}
use Rattle.std.proofs.lemmas.Bool.{cases_eq}
use Rattle.std.specs.List.{AllByRecursion}
use Rattle.agreement.specs.Groups.{Group, Sound as SoundGroup}
use Rattle.agreement.specs.Groups as groups
use Rattle.agreement.specs.Lists.{Among}
use Rattle.agreement.specs.Lists.Among.{here, there}
use Rattle.agreement.specs.Reports.{Justification}
use Rattle.agreement.specs.Rules.{Rules}
use Rattle.agreement.specs.Votes.{Execution, Certificate}
use Rattle.packet.specs.Laws.{Sound}
use Rattle.packet.specs.declared.kinds.Kind.{Kind}
use Rattle.packet.specs.declared.kinds.Kind.TheVariants as kind
use Rattle.packet.specs.declared.statements.Statement.{Statement}
use Rattle.proof.specs.Laws.{Backed as OrderBacked}
use Rattle.proof.specs.Roles.{primary, active}
use Rattle.proof.proofs.Actives.{active_quorum}
use Rattle.proof.proofs.Feeding.{RecordedIn, UnforgedIn, justifies}
use Rattle.proof.proofs.Places.{same_statement}
use Rattle.sealer.specs.Laws.{Genuine}
use Rattle.ledger.specs.Laws.{Good}
use Rattle.ledger.specs.Sheets.{Deed, mark, Prepared}
use Rattle.ledger.specs.Sheets as sheets
use Rattle.ledger.proofs.Along.{good}
use Rattle.ledger.proofs.Groups.{backup_if}
use Rattle.slots.specs.declared.cores.Core.{Core}
use Rattle.promise.specs.Statements.{order, prepare, commit, report}
use Rattle.promise.specs.Steps.{Setting, Member}
use Rattle.promise.specs.Histories.{Correct}
use Rattle.promise.proofs.Turns.{Reading, handed, Readable, Does, Answers, Turn, Written, Course, now, Unforged}
use Rattle.promise.proofs.Rings.{sheet_of}
use Rattle.promise.proofs.Logs.{log, source, all_logged, was}
use Rattle.promise.proofs.Origins.{said, OrderFrom, led, took, PrepareFrom, took_prepare, CommitFrom, took_commit, From, came, Busy}
use Rattle.promise.proofs.Backs.{all_each, Backed, written_more, attest, Given, said_backed}

-- i wrote the statement, under some seal
abbrev pub Said : {State : Type 0} → (i : ℕ) → (ℕ → Statement) → List (Turn State) → Type 0
Said i s h = (t : ℕ) × Written i (s t) h

pub said_more : {State : Type 0} {i : ℕ} {s : ℕ → Statement} {h : List (Turn State)} {e : Turn State} → Said i s h → Said i s (e ∷ h)
said_more w = (w.0, written_more w.1)

-- the four, of which one may break the rules
abbrev pub four : {State : Type 0} → Setting State → Group
four k = record { faults = 1; liars = k.liar ∷ []; active = active }

-- what they wrote
abbrev pub world : {State : Type 0} → Setting State → List (Turn State) → Execution
world k h = record {
  group = four k;
  Voted = λ i v n c. Said i (order i v n c) h ⊎ Said i (prepare i v n c) h;
  Committed = λ i v n c. Said i (commit i v n c) h;
  Reported = λ i v n e c. Said i (report i v n e c) h;
}

module _ {State : Type 0} (k : Setting State) where
  pub sound : SoundGroup (four k)
  sound = record { few_lie = omega arith; active_quorum = active_quorum }

  pub rightly : {i : ℕ} → groups.Correct (four k) i → Correct k i
  rightly c = record { known = c.known; honest = λ e. c.honest (here e) }

  -- what is written of a statement is what its signer did
  recorded : (k' : Kind) (s : Statement) {h : List (Turn State)} → Sound s → s.kind ≡ k' → Written s.signer s h → RecordedIn (world k h) k' s.signer s.view.0 s.slot.0 s.earlier.0 s.command
  recorded kind.Order s {h} d e w = inl (s.seal, subst (λ (y : Statement). Written s.signer y h) (said kind.Order (λ _ _ _ _. refl) s d e refl refl refl refl) w)
  recorded kind.Prepare s {h} d e w = inr (s.seal, subst (λ (y : Statement). Written s.signer y h) (said kind.Prepare (λ _ _ _ _. refl) s d e refl refl refl refl) w)
  recorded kind.Commit s {h} d e w = (s.seal, subst (λ (y : Statement). Written s.signer y h) (said kind.Commit (λ _ _ _ _. refl) s d e refl refl refl refl) w)
  recorded kind.Report s {h} d e w = (s.seal, subst (λ (y : Statement). Written s.signer y h) (same_statement s e refl refl refl refl refl) w)
  recorded kind.Wish s d e w = tt
  recorded kind.Checkpoint s d e w = tt
  recorded kind.Answer s d e w = tt

  -- statements that were handed in, genuine ones, are not forged
  pub unforged_in : {e : Turn State} {h : List (Turn State)} → Unforged k h → Among e h → (ss : List Statement) → ((s : Statement) → Among s ss → Among s (handed e.call)) → AllByRecursion (Genuine k.genuine) ss → AllByRecursion Sound ss → UnforgedIn (world k h) ss
  unforged_in u a ss inside g d = record {
    four = refl;
    roles = λ v. refl;
    signed = λ s b c. recorded s.kind s (all_each Sound ss d b) refl (attest k u a (inside s b) (rightly c) (all_each (Genuine k.genuine) ss g b));
  }

  -- an order's own vote
  own_part : (own : ℕ) (m m' : Member State) {v n c : ℕ} {call : Reading} (out : List Statement) → OrderFrom own k.genuine m.core m'.core v n c call → Does own k m call out m' → (t : ℕ) × (Among (order own v n c t) out ⊎ Among (prepare own v n c t) out)
  own_part own m m' {v} {n} {c} out (led ss ev mine g b) act =
      let l = act.0.1 in
      let e = act.0.2 ∙ ap (λ (o : List Statement). o ++ ss) l.written in
      (l.seal, inl (subst (λ (w : ℕ). Among (order own w n c l.seal) out) ev (subst (λ o. Among (order own m.core.view.0 n c l.seal) o) (sym e) (here refl))))
  own_part own m m' {v} {n} {c} out (took s ss b not_mine g j) act =
      let t = act.0 in
      (t.0, inr (subst (λ (x : Statement). Among (prepare own x.view.0 x.slot.0 x.command t.0) out) b (subst (λ o. Among (prepare own s.view.0 s.slot.0 s.command t.0) o) (sym t.2) (here refl))))

  -- the statements behind an order were handed in, are genuine and sound, and back it
  pub record Borne (v n c : ℕ) (call : Reading) : Type 0 where
    pub statements : List Statement
    pub inside : (s : Statement) → Among s statements → Among s (handed call)
    pub genuine : AllByRecursion (Genuine k.genuine) statements
    pub sounds : AllByRecursion Sound statements
    pub backs : OrderBacked v n c statements

  borne : {own : ℕ} {core core' : Core} {v n c : ℕ} {call : Reading} → Readable call → OrderFrom own k.genuine core core' v n c call → Borne v n c call
  borne w (led ss ev mine g b) = record { statements = ss; inside = λ s a. a; genuine = g; sounds = w.sound; backs = b }
  borne w (took s ss e not_mine g b) = record { statements = ss; inside = λ s a. there a; genuine = g.1; sounds = w.1.sound.1; backs = b }

  -- the primary's order, if another's
  primary_part : {own : ℕ} {core core' : Core} {v n c : ℕ} {call : Reading} → OrderFrom own k.genuine core core' v n c call → (own ≡ primary v) ⊎ Given k kind.Order (primary v) v n c call
  primary_part (led ss ev mine g b) = inl mine
  primary_part (took s ss e not_mine g b) = inr (record { given = s; inside = here refl; genuine = g.0; says = e })

  prepare_part : {own : ℕ} {core core' : Core} {v n j c : ℕ} {call : Reading} → PrepareFrom own k.genuine core core' v n j c call → Given k kind.Prepare j v n c call
  prepare_part (took_prepare s e g) = record { given = s; inside = here refl; genuine = g; says = e }

  pub commit_part : {own : ℕ} {core core' : Core} {v n j c : ℕ} {call : Reading} → CommitFrom own k.genuine core core' v n j c call → Given k kind.Commit j v n c call
  commit_part (took_commit s e g) = record { given = s; inside = here refl; genuine = g; says = e }

  module _ (h : List (Turn State)) (course : Course k h) (unf : Unforged k h) where
    pub well : (i : ℕ) → Good i (log i h) (sheet_of (now k i h).core)
    well i = good i (all_logged k course i).did

    -- what was handed in and is genuine was written
    pub given : {e : Turn State} {k' : Kind} {j v n c : ℕ} → Among e h → Given k k' j v n c e.call → Correct k j → Said j (λ t. Rattle.packet.specs.Statements.statement k' j v n 0 c t) h
    given {k' = k'} {j} {v} {n} {c} a r ok =
        let q : r.given.signer ≡ j = ap (λ (x : Statement). x.signer) r.says in
        let w = attest k unf a r.inside (subst (λ (i : ℕ). Correct k i) (sym q) ok) r.genuine in
        (r.given.seal, subst (λ (x : Statement). Written j x h) r.says (subst (λ (i : ℕ). Written i r.given h) q w))

    -- the turn that a deed came from
    pub record Origin (i : ℕ) (d : Deed) : Type 0 where
      pub turn : Turn State
      pub stands : Among turn h
      pub own : turn.who ≡ i
      pub out : List Statement
      pub answered : turn.answer ≡ Some out
      pub from : From turn.who k.genuine turn.before.core turn.after.core d turn.call
      pub readable : Readable turn.call
      pub answers : Answers turn.who k turn.before turn.call (Some out) turn.after

    pub origin : (i : ℕ) (d : Deed) → Busy d → Among d (log i h) → Origin i d
    origin i d busy a =
        let s = source i h a in
        let w = was k course s.stands in
        let e = s.turn in
        let c = came e.who k e.before e.after e.call e.answer d w.readable w.answers s.is busy in
        record { turn = e; stands = s.stands; own = s.own; out = c.out; answered = c.answered; from = c.from; readable = w.readable; answers = subst (λ (x : Option (List Statement)). Answers e.who k e.before e.call x e.after) c.answered w.answers }

    pub own_vote : (i v n c : ℕ) → Among (sheets.order v n c) (log i h) → (world k h).Voted i v n c
    own_vote i v n c a =
        let o = origin i (sheets.order v n c) tt a in
        let e = o.turn in
        let p = own_part e.who e.before e.after o.out o.from o.answers.1 in
        subst (λ (j : ℕ). Said j (order j v n c) h ⊎ Said j (prepare j v n c) h) o.own (elim p.1 [
          | inl x ↦ inl (p.0, record { turn = e; stands = o.stands; own = refl; out = o.out; answered = o.answered; part = x; signed = refl })
          | inr x ↦ inr (p.0, record { turn = e; stands = o.stands; own = refl; out = o.out; answered = o.answered; part = x; signed = refl })
        ])

    pub prepared_cert : (i v n c : ℕ) → Prepared i v n c (log i h) → Certificate (world k h) v n c
    prepared_cert i v n c p j cj a = elim (cases_eq j i) [
      | inl e ↦ own_vote j v n c (subst (λ (x : ℕ). Among (sheets.order v n c) (log x h)) (sym e) p.ordered)
      | inr ne ↦ elim (cases_eq j (primary v)) [
        | inl e ↦
            let o = origin i (sheets.order v n c) tt p.ordered in
            elim (primary_part o.from) [
              | inl q ↦ absurd (ne (e ∙ sym q ∙ o.own))
              | inr r ↦ inl (subst (λ (x : ℕ). Said x (order x v n c) h) (sym e) (given o.stands r (subst (λ (x : ℕ). Correct k x) e (rightly cj))))
            ]
        | inr np ↦
            let o = origin i (sheets.prepare v n j c) tt (p.prepares j (backup_if v a np) ne) in
            inr (given o.stands (prepare_part o.from) (rightly cj))
      ]
    ]

    pub backed : {i : ℕ} {s : ℕ → Statement} → Correct k i → (w : Said i s h) → Backed (λ _ _. Unit {0}) i (s w.0) (log i h)
    backed {i} {s} c w = said_backed (λ _ _. Unit {0}) k h (λ _ _ _ _ _ _ _ _ _. tt) course (λ x a. a) unf i c (s w.0) w.1

    pub voted_order : (i v n c : ℕ) → Correct k i → (world k h).Voted i v n c → Among (sheets.order v n c) (log i h)
    voted_order i v n c ok (inl w) = (backed ok w).by
    voted_order i v n c ok (inr w) = (backed ok w).by

    justified : (i v n c : ℕ) → ¬ (v ≡ 1) → Among (sheets.order v n c) (log i h) → Justification (world k h) v n c
    justified i v n c ne a =
        let o = origin i (sheets.order v n c) tt a in
        let b = borne o.readable o.from in
        justifies (world k h) b.statements (unforged_in unf o.stands b.statements b.inside b.genuine b.sounds) v n c (b.backs.later ne)

    pub rules : Rules (world k h)
    rules = record {
      sound = sound;
      one_vote = λ {i} {v} {n} {c} {c'} ok x y. (well i).one_order v n c c' (voted_order i v n c (rightly ok) x) (voted_order i v n c' (rightly ok) y);
      commit_certified = λ {i} {v} {n} {c} ok x. prepared_cert i v n c (backed (rightly ok) x).by;
      vote_justified = λ {i} {v} {n} {c} ok x ne. justified i v n c ne (voted_order i v n c (rightly ok) x);
      report_complete = λ {i} {u} {v} {n} {c} {e} {c'} ok x y lt. (well i).all_reported u v n c e c' (backed (rightly ok) x).by (backed (rightly ok) y).by lt;
    }
