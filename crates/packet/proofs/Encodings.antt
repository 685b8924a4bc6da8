-- A statement has one encoding.
use Rattle.std.proofs.Common.{◌≡◌, ℕ, ◌^◌, ◌<◌, Bool, true, false, cond, eqb, List, [], ◌∷◌, ◌++◌, length, get_or, drop, Some, None, Ok, Option, sym, refl, ap, ◌∙◌, subst, arith}
use Rattle.std.proofs.lemmas.Bool.{cond-true, eqb-true}
use Rattle.std.proofs.lemmas.Bool.Decides.{nat_tests}
use Rattle.std.proofs.lemmas.Option.{option_and_then_some}
use Rattle.std.proofs.lemmas.List.{drop_more, drop_all, append-nil}
use Rattle.std.specs.Option.{ok_or, option_and_then}
use Rattle.std.specs.Int.Digits.{AllBelowBase}
use Rattle.packet.specs.declared.kinds.Kind.{Kind}
use Rattle.packet.specs.declared.kinds.Kind.TheVariants.{Order, Prepare, Commit, Report, Wish, Checkpoint, Answer}
use Rattle.packet.specs.declared.statements.Statement.{Statement}
use Rattle.packet.specs.Digits.{bytes_of, number_at}
use Rattle.packet.specs.Kinds.{byte_of, kind_of}
use Rattle.packet.specs.Fields.{Fits, proper}
use Rattle.packet.specs.Statements.{body, encode, decode, fields, if_proper, statement}
use Rattle.packet.specs.Packets.{sealed_part}
use Rattle.packet.specs.Laws.{OneEncoding, Sound}
use Rattle.packet.proofs.Digits.{bytes_part, four_back, eight_back, number_small}

-- options
cond_some : {X : Type 0} (b : Bool) (o : Option X) (x : X) → cond b o None ≡ Some x → (b ≡ true) × (o ≡ Some x)
cond_some true o x e = (refl, e)
cond_some false o x e = let z : ◌≡◌ {A = ℕ} 0 1 = cc in absurd (omega arith)

-- what is written reads back
pub kind_back : (k : Kind) → kind_of (byte_of k) ≡ Some k
kind_back Order = refl
kind_back Prepare = refl
kind_back Commit = refl
kind_back Report = refl
kind_back Wish = refl
kind_back Checkpoint = refl
kind_back Answer = refl

same_fields : (s : Statement) (v l e c m : ℕ) → v ≡ s.view.0 → l ≡ s.slot.0 → e ≡ s.earlier.0 → c ≡ s.command → m ≡ s.seal → statement s.kind s.signer v l e c m ≡ s
same_fields s v l e c m ev el ee ec em = rw (ev, el, ee, ec, em)

fields_again : (s : Statement) → Fits s → s.seal < 256 ^ 8 → fields s.kind (encode s) ≡ s
unfolding encode body
fields_again s f t =
    same_fields s _ _ _ _ _ (four_back s.view.0 f.view) (four_back s.slot.0 f.slot) (four_back s.earlier.0 f.earlier) (eight_back s.command f.command) (eight_back s.seal t)

fields_back : (s : Statement) → Sound s → fields s.kind (encode s) ≡ s
fields_back s g = fields_again s g.fits g.seal

first_byte : (s : Statement) → get_or (encode s) 0 0 ≡ byte_of s.kind
unfolding encode body
first_byte s = refl

-- two statements whose numbers fit have two encodings
pub same_encoding : (r s : Statement) → Fits r → r.seal < 256 ^ 8 → Fits s → s.seal < 256 ^ 8 → encode r ≡ encode s → r ≡ s
same_encoding r s f t g u e =
    let k : ◌≡◌ {A = Option Kind} (Some r.kind) (Some s.kind) = sym (kind_back r.kind) ∙ ap kind_of (sym (first_byte r) ∙ ap (λ bs. get_or bs 0 0) e ∙ first_byte s) ∙ kind_back s.kind in
    let q : r.kind ≡ s.kind = cc in
    sym (fields_again r f t) ∙ ap (λ k. fields k (encode r)) q ∙ ap (fields s.kind) e ∙ fields_again s g u

pub reads_back : (s : Statement) → Sound s → decode (encode s) ≡ Some s
unfolding decode encode body
reads_back s g =
    ap (option_and_then (λ k. if_proper (fields k (encode s)))) (kind_back s.kind) ∙ (ap if_proper (fields_back s g) ∙ cond-true (proper s) _ _ g.kept)

-- what is read writes back
kind_there : (b : ℕ) (k : Kind) → kind_of b ≡ Some k → byte_of k ≡ b
kind_there b Order h = grind (arith, nat_tests)
kind_there b Prepare h = grind (arith, nat_tests)
kind_there b Commit h = grind (arith, nat_tests)
kind_there b Report h = grind (arith, nat_tests)
kind_there b Wish h = grind (arith, nat_tests)
kind_there b Checkpoint h = grind (arith, nat_tests)
kind_there b Answer h = grind (arith, nat_tests)

glued : (x y : ℕ) (p q r t w b0 b1 b2 b6 b10 b14 b22 b30 : List ℕ) → b0 ≡ x ∷ b1 → b1 ≡ y ∷ b2 → b2 ≡ p ++ b6 → b6 ≡ q ++ b10 → b10 ≡ r ++ b14 → b14 ≡ t ++ b22 → b22 ≡ w ++ b30 → b30 ≡ [] → x ∷ y ∷ (p ++ (q ++ (r ++ (t ++ w)))) ≡ b0
glued x y p q r t w b0 b1 b2 b6 b10 b14 b22 b30 e0 e1 e2 e6 e10 e14 e22 e30 = let n = append-nil w in cc

fields_there : (k : Kind) (bs : List ℕ) → AllBelowBase 256 bs → length bs ≡ 30 → byte_of k ≡ get_or bs 0 0 → encode (fields k bs) ≡ bs
unfolding encode body
fields_there k bs u len ek =
    glued _ _ (bytes_of 4 (number_at 4 bs 2)) (bytes_of 4 (number_at 4 bs 6)) (bytes_of 4 (number_at 4 bs 10)) (bytes_of 8 (number_at 8 bs 14)) (bytes_of 8 (number_at 8 bs 22)) bs (drop 1 bs) (drop 2 bs) (drop 6 bs) (drop 10 bs) (drop 14 bs) (drop 22 bs) (drop 30 bs)
    (rw ek (drop_more bs 0 0 (omega arith)))
    (drop_more bs 1 0 (omega arith))
    (bytes_part 4 bs 2 u (omega arith))
    (bytes_part 4 bs 6 u (omega arith))
    (bytes_part 4 bs 10 u (omega arith))
    (bytes_part 8 bs 14 u (omega arith))
    (bytes_part 8 bs 22 u (omega arith))
    (drop_all 30 bs (omega arith))

sound_at : (k : Kind) (bs : List ℕ) (s : Statement) → AllBelowBase 256 bs → length bs ≡ 30 → if_proper (fields k bs) ≡ Some s → (fields k bs ≡ s) × Sound s
sound_at k bs s u len e =
    let p = cond_some (proper (fields k bs)) (Some (fields k bs)) s e in
    let q : fields k bs ≡ s = cc in
    let n : Fits (fields k bs) = record {
      view = number_small 4 bs 2 u (omega arith);
      slot = number_small 4 bs 6 u (omega arith);
      earlier = number_small 4 bs 10 u (omega arith);
      command = number_small 8 bs 14 u (omega arith);
    } in
    let f : Sound (fields k bs) = record { kept = p.0; fits = n; seal = number_small 8 bs 22 u (omega arith) } in
    (q, subst Sound q f)

pub writes_back : (bs : List ℕ) (s : Statement) → AllBelowBase 256 bs → decode bs ≡ Some s → (encode s ≡ bs) × Sound s
unfolding decode
writes_back bs s u e =
    let a = cond_some (eqb (length bs) 30) _ s e in
    let len = eqb-true (length bs) 30 a.0 in
    let b : (k : Kind) × (kind_of (get_or bs 0 0) ≡ Some k) × (if_proper (fields k bs) ≡ Some s) = option_and_then_some (λ k. if_proper (fields k bs)) (kind_of (get_or bs 0 0)) s a.1 (λ k h g. (k, h, g)) in
    let d = sound_at b.0 bs s u len b.2 in
    (ap encode (sym d.0) ∙ fields_there b.0 bs u len (kind_there (get_or bs 0 0) b.0 b.1), d.1)

-- the bytes that a seal covers
sealed_back : (s : Statement) → Sound s → sealed_part (encode s) ≡ (s.signer, body s, s.seal)
unfolding encode body
sealed_back s g = ap (λ t. (s.signer, body s, t)) (eight_back s.seal g.seal)

pub one_encoding : OneEncoding
one_encoding = record { reads_back = reads_back; writes_back = writes_back; sealed = sealed_back }

-- the same, as the code's contracts say it
pub reads_as : (s : Statement) (bs : List ℕ) → bs ≡ encode s → Sound s → decode bs ≡ Some s
reads_as s bs e g = ap decode e ∙ reads_back s g

pub ok_or_ok : {X E : Type 0} (o : Option X) (e : E) (x : X) → ok_or o e ≡ Ok x → o ≡ Some x
ok_or_ok None e x h = let z : ◌≡◌ {A = ℕ} 0 1 = cc in absurd (omega arith)
ok_or_ok (Some y) e x h = cc

-- bytes that begin with no kind, and bytes that begin with one
pub undecoded : (bs : List ℕ) → length bs ≡ 30 → kind_of (get_or bs 0 0) ≡ None → decode bs ≡ None
unfolding decode
undecoded bs l e = rw (l, e) refl

pub decoded : (bs : List ℕ) (k : Kind) → length bs ≡ 30 → kind_of (get_or bs 0 0) ≡ Some k → decode bs ≡ if_proper (fields k bs)
unfolding decode
decoded bs k l e = rw (l, e) refl
