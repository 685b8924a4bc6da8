-- What a certificate's statements say.
use Rattle.std.proofs.Common.{◌≡◌, ℕ, suc, ◌+◌, true, ◌&&◌, eqb, List, [], ◌∷◌, ◌++◌, map, length, drop, Some, None, Option, sym, refl, ap, ◌∙◌, subst, inl, inr, arith}
use Rattle.std.proofs.lemmas.List.{append-nil, drop_all}
use Rattle.std.proofs.lemmas.Bool.{and_parts, eqb-true}
use Rattle.std.specs.List.{AllByRecursion}
use Rattle.agreement.specs.Lists.{Among}
use Rattle.agreement.specs.Lists.Among.{here, there}
use Rattle.packet.specs.Fields.{proper, rule, valid}
use Rattle.packet.specs.Laws.{Sound}
use Rattle.packet.specs.Parts.{statement_at}
use Rattle.packet.specs.Statements.{encode}
use Rattle.packet.specs.declared.kinds.Kind.{Kind}
use Rattle.packet.specs.declared.kinds.Kind.TheVariants.{Order, Prepare, Commit}
use Rattle.packet.specs.declared.statements.Statement.{Statement}
use Rattle.proof.specs.Certificates.{decided, each_says, prepared, says}
use Rattle.proof.specs.Laws.{Decided, EachSays, Prepared, Says, SomeOf, Votes}
use Rattle.proof.specs.Laws.EachSays.{none, more}
use Rattle.proof.specs.Roles.{active, backups, primary}
use Rattle.proof.proofs.Actives.{backups_two, parts_differ, three}
use Rattle.proof.proofs.Places.{Found, found, same_kind, same_statement}

-- kinds whose statements name no earlier view
abbrev Plain : Kind → Type 0
Plain k = (v n e c : ℕ) → rule k v n e c ≡ true → e ≡ 0

plain_vote : (v n e : ℕ) → (valid v && (valid n && eqb e 0)) ≡ true → e ≡ 0
plain_vote v n e h = eqb-true e 0 (and_parts (valid n) (eqb e 0) (and_parts (valid v) (valid n && eqb e 0) h).1).1

plain_order : Plain Order
plain_order v n e c h = plain_vote v n e h

plain_prepare : Plain Prepare
plain_prepare v n e c h = plain_vote v n e h

plain_commit : Plain Commit
plain_commit v n e c h = plain_vote v n e h

-- a kind and its rule
pub kept_rule : (s : Statement) (k : Kind) → proper s ≡ true → s.kind ≡ k → rule k s.view.0 s.slot.0 s.earlier.0 s.command ≡ true
kept_rule s k h e = subst (λ j. rule j s.view.0 s.slot.0 s.earlier.0 s.command ≡ true) e (and_parts _ _ h).1

module _ (ss : List Statement) (sound : AllByRecursion Sound ss) where
  said : (k : Kind) → Plain k → (i v n c p : ℕ) (o : Option Statement) → statement_at (map encode ss) p ≡ o → says k i v n c o ≡ true → (s : Statement) × Says k i v n c s × Found ss p s
  unfolding says
  said k plain i v n c p None e h = let z : ◌≡◌ {A = ℕ} 0 1 = cc in absurd (omega arith)
  said k plain i v n c p (Some s) e h =
      let f = found ss p s sound e in
      let a = and_parts _ _ h in
      let b = and_parts _ _ a.1 in
      let d = and_parts _ _ b.1 in
      let g = and_parts _ _ d.1 in
      let kind = same_kind s.kind k (eqb-true _ _ a.0) in
      let early = plain _ _ _ _ (kept_rule s k f.sound.kept kind) in
      (s, same_statement s kind (eqb-true _ _ b.0) (eqb-true _ _ d.0) (eqb-true _ _ g.0) early (eqb-true _ _ g.1), f)

  -- the statements of these signers stand from place p on
  record Standing (k : Kind) (v n c p : ℕ) (js : List ℕ) : Type 0 where
    statements : List Statement
    each : EachSays k v n c js statements
    whole : drop p ss ≡ statements ++ drop (p + length js) ss

  standing : (k : Kind) → Plain k → (v n c p : ℕ) (js : List ℕ) → each_says k v n c (map encode ss) p js ≡ true → Standing k v n c p js
  standing k plain v n c p [] h = record { statements = []; each = none; whole = let z : p + 0 ≡ p = omega arith in rw z }
  standing k plain v n c p (j ∷ js) h =
      let a = and_parts _ _ h in
      let s = said k plain j v n c p (statement_at (map encode ss) p) refl a.0 in
      let r = standing k plain v n c (p + 1) js a.1 in
      let z : (p + 1) + length js ≡ p + suc (length js) = omega arith in
      record { statements = s.0 ∷ r.statements; each = more s.1 r.each; whole = s.2.here ∙ ap (λ t. s.0 ∷ t) (r.whole ∙ ap (λ q. r.statements ++ drop q ss) z) }

-- whoever is among the signers signed one of the statements
signed_one : (k : Kind) (v n c i : ℕ) (js : List ℕ) (ss : List Statement) → EachSays k v n c js ss → Among i js → SomeOf (Says k i v n c) ss
signed_one k v n c i js ss none a = elim a [ ]
signed_one k v n c i (j ∷ js) (s ∷ ss) (more x r) (here e) = (s, here refl, subst (λ y. Says k y v n c s) (sym e) x)
signed_one k v n c i (j ∷ js) (s ∷ ss) (more x r) (there a) = let t = signed_one k v n c i js ss r a in (t.0, there t.1, t.2)

-- the primary by its order, the backups by their prepares
all_voted : (v n c : ℕ) (o : Statement) (ss : List Statement) → Says Order (primary v) v n c o → EachSays Prepare v n c (backups v) ss → (i : ℕ) → Among i (active v) → SomeOf (Votes i v n c) (o ∷ ss)
all_voted v n c o ss x r i a = elim (parts_differ.either v i a) [
  | inl e ↦ (o, here refl, inl (subst (λ y. Says Order y v n c o) (sym e) x))
  | inr b ↦ let t = signed_one Prepare v n c i (backups v) ss r b in (t.0, there t.1, inr t.2)
]

module _ (ss : List Statement) (sound : AllByRecursion Sound ss) where
  pub record Certified (v n c p : ℕ) : Type 0 where
    pub certificate : List Statement
    pub stands : Prepared v n c certificate
    pub whole : drop p ss ≡ certificate ++ drop (p + 3) ss

  pub is_prepared : (v n c p : ℕ) → prepared v n c (map encode ss) p ≡ true → Certified v n c p
  unfolding prepared
  is_prepared v n c p h =
      let a = and_parts _ _ h in
      let o = said ss sound Order plain_order (primary v) v n c p (statement_at (map encode ss) p) refl a.0 in
      let r = standing ss sound Prepare plain_prepare v n c (p + 1) (backups v) a.1 in
      let two = backups_two v in
      let z : (p + 1) + length (backups v) ≡ p + 3 = omega arith in
      record {
        certificate = o.0 ∷ r.statements;
        stands = record { order = o.0; prepares = r.statements; whole = refl; ordered = o.1; seconded = r.each; voted = all_voted v n c o.0 r.statements o.1 r.each };
        whole = o.2.here ∙ ap (λ t. o.0 ∷ t) (r.whole ∙ ap (λ q. r.statements ++ drop q ss) z);
      }

  pub is_decided : (v n c : ℕ) → length ss ≡ 3 → decided v n c (map encode ss) ≡ true → Decided v n c ss
  is_decided v n c l h =
      let r = standing ss sound Commit plain_commit v n c 0 (active v) h in
      let t = ap length (three v).are in
      let z : drop (0 + length (active v)) ss ≡ [] = drop_all (0 + length (active v)) ss (omega arith) in
      let e : ss ≡ r.statements = r.whole ∙ (ap (λ q. r.statements ++ q) z ∙ append-nil r.statements) in
      let each : EachSays Commit v n c (active v) ss = subst (EachSays Commit v n c (active v)) (sym e) r.each in
      record { each = each; committed = λ i a. signed_one Commit v n c i (active v) ss each a }
