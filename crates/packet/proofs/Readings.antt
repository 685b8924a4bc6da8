-- A packet is its statements, and the first rule that bytes break gives the refusal.
use Rattle.std.proofs.Common.{◌≡◌, ℕ, zero, suc, ◌*◌, ◌/◌, ◌<◌, ◌≤◌, Bool, true, false, cond, eqb, List, [], ◌∷◌, ◌++◌, map, length, get_or, take, drop, is_some, Some, None, Ok, Err, Option, Result, sym, refl, ap, ◌∙◌, subst, arith}
use Rattle.std.proofs.ByRecursion.{All-take, All-drop, All-from_get_or}
use Rattle.std.proofs.lemmas.List.{length-append, length-drop, take_at, drop_at, take-append-drop, nil_from_length, length-map}
use Rattle.std.proofs.lemmas.Bool.{eqb-true, eqb-false, ne_eqb}
use Rattle.std.proofs.lemmas.Bool.Decides.{nat_tests}
use Rattle.std.specs.Option.{ok_or}
use Rattle.std.specs.Simd.{first_chunks}
use Rattle.std.specs.Int.Digits.{AllBelowBase}
use Rattle.std.specs.List.{flat_map, AllByRecursion}
use Rattle.packet.specs.declared.kinds.Kind.{Kind}
use Rattle.packet.specs.declared.kinds.Kind.TheVariants.{Order, Prepare, Commit, Report, Wish, Checkpoint, Answer}
use Rattle.packet.specs.declared.packets.Packet.{Packet}
use Rattle.packet.specs.declared.packets.Reader.{Reader}
use Rattle.refusal.specs.declared.packets.PacketFault.{PacketFault}
use Rattle.refusal.specs.declared.packets.PacketFault.TheVariants as fault
use Rattle.packet.specs.declared.statements.Statement.{Statement}
use Rattle.packet.specs.Kinds.{byte_of, kind_of}
use Rattle.packet.specs.Laws.{Sound, Written, OnePacket, Begins, Reading, Refused}
use Rattle.packet.specs.Laws.Refused.{unexpected, misfit, malformed, accepted}
use Rattle.packet.specs.Packets.{takes, has_length, parts_of, taken, first_kind, read_parts, read_packet, seen}
use Rattle.packet.specs.Parts.{check_statements, is_statement, Passes}
use Rattle.refusal.specs.Refusals.{and_then, of_packet, told}
use Rattle.packet.specs.Statements.{body, encode, decode, read_at}
use Rattle.packet.proofs.Checks.{Checked, checked, check_passes, passes_checked}
use Rattle.packet.proofs.Checks.Checked.{fine, bad}
use Rattle.packet.proofs.Encodings.{kind_back, ok_or_ok, reads_back, writes_back}

-- results
pub and_then_ok : {X Y E : Type 0} (r : Result X E) (f : X → Result Y E) (y : Y) → and_then r f ≡ Ok y → (x : X) × (r ≡ Ok x) × (f x ≡ Ok y)
and_then_ok (Ok x) f y e = (x, refl, e)
and_then_ok (Err d) f y e = let z : ◌≡◌ {A = ℕ} 0 1 = cc in absurd (omega arith)

pub cond_ok : {X E : Type 0} (b : Bool) (r : Result X E) (d : E) (x : X) → cond b r (Err d) ≡ Ok x → (b ≡ true) × (r ≡ Ok x)
cond_ok true r d x e = (refl, e)
cond_ok false r d x e = let z : ◌≡◌ {A = ℕ} 0 1 = cc in absurd (omega arith)

cond_ok_else : {X E : Type 0} (b : Bool) (r : Result X E) (d : E) (x : X) → cond b (Err d) r ≡ Ok x → (b ≡ false) × (r ≡ Ok x)
cond_ok_else true r d x e = let z : ◌≡◌ {A = ℕ} 0 1 = cc in absurd (omega arith)
cond_ok_else false r d x e = (refl, e)

-- every length of a packet is that of whole statements, thirteen at most
whole_length : (k : Kind) (n : ℕ) → has_length k n ≡ true → (30 * (n / 30) ≡ n) × (n ≤ 390)
whole_length Order n h = (grind (arith, nat_tests), grind (arith, nat_tests))
whole_length Prepare n h = (grind (arith, nat_tests), grind (arith, nat_tests))
whole_length Commit n h = (grind (arith, nat_tests), grind (arith, nat_tests))
whole_length Report n h = (grind (arith, nat_tests), grind (arith, nat_tests))
whole_length Wish n h = (grind (arith, nat_tests), grind (arith, nat_tests))
whole_length Checkpoint n h = (grind (arith, nat_tests), grind (arith, nat_tests))
whole_length Answer n h = (grind (arith, nat_tests), grind (arith, nat_tests))

-- statements that are written, cut apart again
length_encode : (s : Statement) → length (encode s) ≡ 30
unfolding encode body
length_encode s = refl

first_encode : (s : Statement) (rest : List ℕ) → get_or (encode s ++ rest) 0 0 ≡ byte_of s.kind
unfolding encode body
first_encode s rest = refl

pub length_joined : (ss : List Statement) → length (flat_map encode ss) ≡ 30 * length ss
length_joined [] = refl
length_joined (s ∷ ss) =
    let a = length-append (encode s) (flat_map encode ss) in
    let l = length_encode s in
    let ih = length_joined ss in
    omega arith

cut_joined : (ss : List Statement) → first_chunks 30 (length ss) (flat_map encode ss) ≡ map encode ss
cut_joined [] = refl
cut_joined (s ∷ ss) =
    let t = take_at (encode s) (flat_map encode ss) 30 (length_encode s) in
    let d = drop_at (encode s) (flat_map encode ss) 30 (length_encode s) in
    rw (t, d, cut_joined ss)

pub parts_joined : (ss : List Statement) → parts_of (flat_map encode ss) ≡ map encode ss
parts_joined ss =
    let l = length_joined ss in
    let n : length (flat_map encode ss) / 30 ≡ length ss = omega arith in
    ap (λ m. first_chunks 30 m (flat_map encode ss)) n ∙ cut_joined ss

reads_at : (i : ℕ) (s : Statement) → Sound s → read_at i (encode s) ≡ Ok s
reads_at i s g = ap (λ o. ok_or o (fault.Statement i)) (reads_back s g)

pub all_statements : (ss : List Statement) → AllByRecursion Sound ss → Passes is_statement (map encode ss)
all_statements [] g = tt
all_statements (s ∷ ss) g = (ap is_some (reads_back s g.0), all_statements ss g.1)

read_written : (s : Statement) (ss : List Statement) → AllByRecursion Sound (s ∷ ss) → read_parts (map encode (s ∷ ss)) ≡ Ok (s, map encode (s ∷ ss))
read_written s ss g =
    ap (λ r. and_then r (λ t. and_then (check_statements 1 (map encode ss)) (λ _. Ok (t, map encode (s ∷ ss))))) (reads_at 0 s g.0)
    ∙ ap (λ r. and_then r (λ _. Ok (s, map encode (s ∷ ss)))) (check_passes is_statement fault.Statement 1 (map encode ss) (all_statements ss g.1))

accepts : (r : Reader) (bs : List ℕ) (k : Kind) → eqb (length bs) 0 ≡ false → kind_of (get_or bs 0 0) ≡ Some k → takes r k ≡ true → has_length k (length bs) ≡ true → read_packet r bs ≡ read_parts (parts_of bs)
unfolding read_packet
accepts r bs k e0 e1 e2 e3 = rw (e0, e1, e2, e3)

pub packet_back : (r : Reader) (bs : List ℕ) (s : Statement) (ss : List Statement) → Written r bs s ss → read_packet r bs ≡ Ok (s, map encode (s ∷ ss))
packet_back r bs s ss w =
    let e = w.whole in
    let l : length bs ≡ 30 * suc (length ss) = ap length (sym e) ∙ length_joined (s ∷ ss) in
    let a = accepts r bs s.kind (ne_eqb (length bs) 0 (λ z. omega arith)) (rw (← e, first_encode s (flat_map encode ss)) (kind_back s.kind)) w.taken w.long in
    let p : parts_of bs ≡ map encode (s ∷ ss) = rw (← e) (parts_joined (s ∷ ss)) in
    a ∙ (ap read_parts p ∙ read_written s ss w.sound)

-- bytes whose parts are statements, joined again
pub record Cut (n : ℕ) (bs : List ℕ) : Type 0 where
  pub statements : List Statement
  pub sound : AllByRecursion Sound statements
  pub whole : flat_map encode statements ≡ bs
  pub parts : first_chunks 30 n bs ≡ map encode statements

cut_more : (n : ℕ) (bs : List ℕ) (s : Statement) → AllBelowBase 256 bs → decode (take 30 bs) ≡ Some s → (c : Cut n (drop 30 bs)) → AllByRecursion Sound (s ∷ c.statements) × (flat_map encode (s ∷ c.statements) ≡ bs) × (first_chunks 30 (suc n) bs ≡ map encode (s ∷ c.statements))
cut_more n bs s u e c =
    let w = writes_back (take 30 bs) s (All-take _ 30 bs u) e in
    let t = take-append-drop 30 bs in
    let v = w.0 in
    let x = c.whole in
    let p = c.parts in
    ((w.1, c.sound), cc, cc)

some_statement : (o : Option Statement) → is_some o ≡ true → (s : Statement) × (o ≡ Some s)
some_statement (Some s) e = (s, refl)
some_statement None e = let z : ◌≡◌ {A = ℕ} 0 1 = cc in absurd (omega arith)

pub cut_checked : (n : ℕ) (bs : List ℕ) → AllBelowBase 256 bs → 30 * n ≡ length bs → Passes is_statement (first_chunks 30 n bs) → Cut n bs
cut_checked zero bs u l p = let z = nil_from_length bs (omega arith) in record { statements = []; sound = tt; whole = sym z; parts = refl }
cut_checked (suc n) bs u l p =
    let s = some_statement (decode (take 30 bs)) p.0 in
    let m : 30 * n ≡ length (drop 30 bs) = simp length-drop (omega arith) in
    let c = cut_checked n (drop 30 bs) (All-drop _ 30 bs u) m p.1 in
    let g = cut_more n bs s.0 u s.1 c in
    record { statements = s.0 ∷ c.statements; sound = g.0; whole = g.1; parts = g.2 }

read_parts_ok : (n : ℕ) (bs : List ℕ) (s : Statement) (ps : List (List ℕ)) → AllBelowBase 256 bs → 30 * n ≡ length bs → read_parts (first_chunks 30 n bs) ≡ Ok (s, ps) → (ss : List Statement) × AllByRecursion Sound (s ∷ ss) × (flat_map encode (s ∷ ss) ≡ bs) × (ps ≡ map encode (s ∷ ss))
read_parts_ok zero bs s ps u l e = let z : ◌≡◌ {A = ℕ} 0 1 = cc in absurd (omega arith)
read_parts_ok (suc n) bs s ps u l e =
    let a = and_then_ok (read_at 0 (take 30 bs)) _ (s, ps) e in
    let b = and_then_ok (check_statements 1 (first_chunks 30 n (drop 30 bs))) _ (s, ps) a.2 in
    let same : ◌≡◌ {A = Statement × List (List ℕ)} (a.0, first_chunks 30 (suc n) bs) (s, ps) = let o = b.2 in cc in
    let m : 30 * n ≡ length (drop 30 bs) = simp length-drop (omega arith) in
    let c = cut_checked n (drop 30 bs) (All-drop _ 30 bs u) m (passes_checked is_statement fault.Statement 1 _ b.1) in
    let d : decode (take 30 bs) ≡ Some s = ok_or_ok _ _ _ a.1 ∙ ap (λ x. Some x.0) same in
    let g = cut_more n bs s u d c in
    (c.statements, g.0, g.1, sym (ap (λ x. x.1) same) ∙ g.2)

pub packet_there : (r : Reader) (bs : List ℕ) (s : Statement) (ps : List (List ℕ)) → AllBelowBase 256 bs → read_packet r bs ≡ Ok (s, ps) → (ss : List Statement) × Written r bs s ss × (ps ≡ map encode (s ∷ ss))
unfolding read_packet
packet_there r bs s ps u e =
    let a = and_then_ok (first_kind r bs) _ (s, ps) e in
    let k = a.0 in
    let b = cond_ok_else (eqb (length bs) 0) (taken r (kind_of (get_or bs 0 0))) fault.Unexpected k a.1 in
    let t = taken_ok r (kind_of (get_or bs 0 0)) k b.1 in
    let l = cond_ok (has_length k (length bs)) (read_parts (parts_of bs)) fault.Length (s, ps) a.2 in
    let p = read_parts_ok (length bs / 30) bs s ps u (whole_length k (length bs) l.0).0 l.1 in
    let f : s.kind ≡ k = first_is s (flat_map encode p.0) bs k p.2 t.0 in
    (p.0, record { taken = rw f t.1; long = rw f l.0; sound = p.1; whole = p.2 }, p.3)
  where
    taken_ok : (r : Reader) (o : Option Kind) (k : Kind) → taken r o ≡ Ok k → (o ≡ Some k) × (takes r k ≡ true)
    taken_ok r None k e = let z : ◌≡◌ {A = ℕ} 0 1 = cc in absurd (omega arith)
    taken_ok r (Some j) k e = let c = cond_ok (takes r j) (Ok j) fault.Unexpected k e in let q : j ≡ k = let d = c.1 in cc in (ap Some q, rw q at c.0)

    first_is : (s : Statement) (rest bs : List ℕ) (k : Kind) → encode s ++ rest ≡ bs → kind_of (get_or bs 0 0) ≡ Some k → s.kind ≡ k
    first_is s rest bs k w e =
        let f = first_encode s rest in
        let b = kind_back s.kind in
        cc

pub one_packet : OnePacket
one_packet = record { reads_back = packet_back; writes_back = packet_there }

length_chunked : (n : ℕ) (bs : List ℕ) → length (first_chunks 30 n bs) ≡ n
length_chunked zero bs = refl
length_chunked (suc n) bs = ap suc (length_chunked n (drop 30 bs))

-- reading the parts is refused as checking them is
told_parts : (p : List ℕ) (ps : List (List ℕ)) (o : Option Statement) (c : Result (Unit {0}) PacketFault) → told {X = Statement × List (List ℕ)} of_packet (and_then (ok_or o (fault.Statement 0)) (λ s. and_then c (λ _. Ok (s, p ∷ ps)))) ≡ told of_packet (cond (is_some o) c (Err (fault.Statement 0)))
told_parts p ps None c = refl
told_parts p ps (Some s) (Ok x) = refl
told_parts p ps (Some s) (Err e) = refl

-- the tests in their order, each with what came before it
module _ (r : Reader) (bs : List ℕ) where
  abbrev after_kind : Kind → Result (Statement × List (List ℕ)) PacketFault
  after_kind k = cond (has_length k (length bs)) (read_parts (parts_of bs)) (Err fault.Length)

  by_check : (k : Kind) → Begins r bs k → has_length k (length bs) ≡ true → (c : Result (Unit {0}) PacketFault) → Checked is_statement fault.Statement 0 (parts_of bs) c → Refused r bs (told of_packet c)
  by_check k g h (Ok x) (fine a) = accepted k g h a
  by_check k g h (Err e) (bad j n m f) = let z : n ≡ j = omega arith in rw z (malformed k j g h f)

  by_parts : (k : Kind) → Begins r bs k → has_length k (length bs) ≡ true → (ps : List (List ℕ)) → parts_of bs ≡ ps → 0 < length ps → Refused r bs (told of_packet (read_parts ps))
  by_parts k g h [] e l = absurd (omega arith)
  by_parts k g h (p ∷ ps) e l = rw (told_parts p ps (decode p) (check_statements 1 ps)) (by_check k g h _ (rw e (checked is_statement fault.Statement 0 (p ∷ ps))))

  by_length : (k : Kind) → Begins r bs k → (b : Bool) → has_length k (length bs) ≡ b → Refused r bs (told of_packet (cond b (read_parts (parts_of bs)) (Err fault.Length)))
  by_length k g false h = misfit k g h
  by_length k g true h =
      let w = whole_length k (length bs) h in
      let z = g.0 in
      let l : 0 < length (parts_of bs) = rw length_chunked (omega arith) in
      by_parts k g h (parts_of bs) refl l

  by_taker : (k : Kind) → 0 < length bs → kind_of (get_or bs 0 0) ≡ Some k → (b : Bool) → takes r k ≡ b → Refused r bs (told of_packet (and_then (cond b (Ok k) (Err fault.Unexpected)) after_kind))
  by_taker k l e true t = by_length k (l, e, t) (has_length k (length bs)) refl
  by_taker k l e false t = unexpected other
    where
      other : (j : Kind) → ¬ Begins r bs j
      other j g =
          let a = g.1 in
          let b = g.2 in
          let q : j ≡ k = cc in
          let z : ◌≡◌ {A = ℕ} 0 1 = cc in
          omega arith

  by_kind : 0 < length bs → (o : Option Kind) → kind_of (get_or bs 0 0) ≡ o → Refused r bs (told of_packet (and_then (taken r o) after_kind))
  by_kind l None e = unexpected (λ k g. let a = g.1 in let z : ◌≡◌ {A = ℕ} 0 1 = cc in omega arith)
  by_kind l (Some k) e = by_taker k l e (takes r k) refl

  by_size : (b : Bool) → eqb (length bs) 0 ≡ b → Refused r bs (told of_packet (and_then (cond b (Err fault.Unexpected) (taken r (kind_of (get_or bs 0 0)))) after_kind))
  by_size true e = unexpected (λ k g. let z = eqb-true (length bs) 0 e in let l = g.0 in omega arith)
  by_size false e = by_kind (let z = eqb-false (length bs) 0 e in omega arith) (kind_of (get_or bs 0 0)) refl

refused_in_order : (r : Reader) (bs : List ℕ) → Refused r bs (told of_packet (read_packet r bs))
unfolding read_packet
refused_in_order r bs = by_size r bs (eqb (length bs) 0) refl

-- the same of the answer that the code gives
few_parts : (r : Reader) (bs : List ℕ) (s : Statement) (ss : List Statement) (ps : List (List ℕ)) → Written r bs s ss → ps ≡ map encode (s ∷ ss) → length ps ≤ 13
few_parts r bs s ss ps w e =
    let l : length bs ≡ 30 * suc (length ss) = ap length (sym w.whole) ∙ length_joined (s ∷ ss) in
    let m = length-map (s ∷ ss) encode in
    let n = ap length e in
    let b = (whole_length s.kind (length bs) w.long).1 in
    omega arith

pub reading : (r : Reader) (bs : List ℕ) (x : Result Packet PacketFault) → ((i : ℕ) → get_or bs i 0 < 256) → seen x ≡ read_packet r bs → Reading r bs x
reading r bs (Err d) t e = record { refused = subst (λ y. Refused r bs (told of_packet y)) (sym e) (refused_in_order r bs); whole = tt; few = tt }
reading r bs (Ok p) t e =
    let w = packet_there r bs p.first p.parts.bytes.now (All-from_get_or (λ d. d < 256) bs 0 (λ i _. t i)) (sym e) in
    record {
      refused = subst (λ y. Refused r bs (told of_packet y)) (sym e) (refused_in_order r bs);
      whole = w;
      few = few_parts r bs p.first w.0 p.parts.bytes.now w.1 w.2;
    }
