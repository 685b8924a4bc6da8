-- What a replica holds besides its sealer and its service, and what changes it.
use Rattle.std.specs.Prelude.{ℕ, zero, suc, ◌+◌, ◌-◌, ◌/◌, ◌%◌, min, max, Bool, true, false, ◌≡◌, ◌<◌, ◌≤◌, MatchOption, cond, ◌&&◌, List, map, get_or, replicate, Some, None, Option, ◌==◌, nat_le, nat_lt, slice_index_or, slice_set}
use Rattle.ballot.specs.Counting.{count_of}
use Rattle.ballot.specs.Marks.{mark_of, held_mark, same_mark}
use Rattle.ballot.specs.declared.marks.Mark.{Mark}
use Rattle.ballot.specs.declared.marks.MarkBallot.{MarkBallot}
use Rattle.packet.specs.declared.fields.Slot.{Slot}
use Rattle.slots.specs.Records.{blank, with_order, with_prepare, with_commit, with_decision, dropped, all_prepared, settled, confirmed, is_there}
use Rattle.slots.specs.declared.cores.Core.{Core}
use Rattle.slots.specs.declared.records.Certificate.{Certificate}
use Rattle.slots.specs.declared.records.Record.{Record}

abbrev pub no_mark : MarkBallot
no_mark = record { held = false; slot = record { 0 = 0 }; mark = 0 }

-- view 1, nothing carried out, nothing collected, nothing held
abbrev pub first_core : Core
first_core = record {
  view = record { 0 = 1 };
  count = 0;
  floor = record { 0 = 0 };
  wishes = replicate 4 (record { 0 = 0 });
  table = record { records = replicate 32 blank };
  marks = replicate 2 (replicate 4 no_mark);
}

-- slots floor + 1 to floor + 32 are open, up to the last slot
abbrev pub in_window : (floor n : ℕ) → Bool
in_window floor n = nat_lt floor n && nat_le n (floor + 32)

abbrev pub is_open : Core → ℕ → Bool
is_open core n = in_window core.floor.0 n && nat_le n 4000000000

-- the record of slot n stands at n modulo 32
abbrev pub record_at : Core → ℕ → Record
record_at core n = slice_index_or core.table.records (n % 32) blank

abbrev pub with_records : Core → List Record → Core
with_records core rs = record { view = core.view; count = core.count; floor = core.floor; wishes = core.wishes; table = record { records = rs }; marks = core.marks }

abbrev pub put : Core → ℕ → Record → Core
put core n r = with_records core (slice_set core.table.records (n % 32) r)

-- an order of command c under seal t is accepted; whoever does not lead adds the own prepare under seal u
abbrev pub led : Core → (n c t : ℕ) → Core
led core n c t = put core n (with_order (record_at core n) c t)

abbrev pub ordered : (own : ℕ) → Core → (n c t u : ℕ) → Core
ordered own core n c t u = put core n (with_prepare (with_order (record_at core n) c t) own u)

-- signer j's prepare is counted
abbrev pub prepare_counted : Core → (n j t : ℕ) → Core
prepare_counted core n j t = put core n (with_prepare (record_at core n) j t)

-- order and both prepares are held
abbrev pub is_prepared : Core → ℕ → Bool
is_prepared core n = all_prepared core.view.0 (record_at core n)

-- the slot is prepared in the present view, and the own commit under seal t is a vote
abbrev pub slot_confirmed : (own : ℕ) → Core → (n t : ℕ) → Core
slot_confirmed own core n t = put core n (confirmed own core.view.0 t (record_at core n))

-- signer j's commit is counted
abbrev pub commit_counted : Core → (n j t : ℕ) → Core
commit_counted core n j t = put core n (settled core.view.0 (with_commit (record_at core n) j t))

-- the slot is decided by a certificate
abbrev pub certified : Core → ℕ → Certificate → Core
certified core n x = put core n (with_decision (record_at core n) x)

-- a view is entered: orders and votes go
abbrev pub entered : Core → ℕ → Core
entered core v = record { view = record { 0 = v }; count = core.count; floor = core.floor; wishes = core.wishes; table = record { records = map dropped core.table.records }; marks = core.marks }

-- signer j's highest wish
abbrev pub wish_of : Core → ℕ → ℕ
wish_of core j = (get_or core.wishes j (record { 0 = 0 })).0

abbrev pub with_wish : Core → (j v : ℕ) → Core
with_wish core j v = record { view = core.view; count = core.count; floor = core.floor; wishes = slice_set core.wishes j (record { 0 = v }); table = core.table; marks = core.marks }

-- the wish of another; the own counts nothing
abbrev pub others_wish : (own : ℕ) → Core → ℕ → ℕ
others_wish own core j = cond (j == own) 0 (wish_of core j)

abbrev pub second_highest : (a b c d : ℕ) → ℕ
second_highest a b c d = max (min (max a b) (max c d)) (max (min a b) (min c d))

-- the second highest wish of the others
abbrev pub wished : (own : ℕ) → Core → ℕ
wished own core = second_highest (others_wish own core 0) (others_wish own core 1) (others_wish own core 2) (others_wish own core 3)

-- the marks of slot n stand in row n / 16 modulo 2, by signer
abbrev pub row : Core → ℕ → List MarkBallot
row core n = slice_index_or core.marks (n / 16 % 2) (replicate 4 no_mark)

abbrev pub mark_at : Core → (n j : ℕ) → MarkBallot
mark_at core n j = slice_index_or (row core n) j no_mark

-- whether signer j's mark of slot n is held
abbrev pub has_mark : Core → (n j : ℕ) → Bool
has_mark core n j = (mark_at core n j).held && (mark_at core n j).slot.0 == n

abbrev pub mark_if_held : Core → (n j : ℕ) → Option Mark
mark_if_held core n j = cond (has_mark core n j) (Some (mark_of (mark_at core n j))) None

abbrev pub with_marks : Core → List (List MarkBallot) → Core
with_marks core ms = record { view = core.view; count = core.count; floor = core.floor; wishes = core.wishes; table = core.table; marks = ms }

abbrev pub with_mark : Core → (n j m : ℕ) → Core
with_mark core n j m = with_marks core (slice_set core.marks (n / 16 % 2) (slice_set (row core n) j (record { held = true; slot = record { 0 = n }; mark = m })))

-- the own mark of slot n is held, and with it three equal ones or more
abbrev pub is_agreed : (own : ℕ) → Core → ℕ → Bool
is_agreed own core n = has_mark core n own && nat_le 3 (count_of same_mark (map held_mark (row core n)) (mark_of (mark_at core n own)))

-- the k records above the floor hold nothing
abbrev pub cleared : List Record → (floor k : ℕ) → List Record
cleared rs floor zero = rs
cleared rs floor (suc k) = slice_set (cleared rs floor k) ((floor + k + 1) % 32) blank

-- a mark at or below the floor goes
abbrev pub mark_above : (floor : ℕ) → MarkBallot → MarkBallot
mark_above floor m = cond (nat_le m.slot.0 floor) no_mark m

-- slots up to n are collected: their records and marks go
abbrev pub collected : Core → ℕ → Core
collected core n = record {
  view = core.view;
  count = core.count;
  floor = record { 0 = n };
  wishes = core.wishes;
  table = record { records = cleared core.table.records core.floor.0 (n - core.floor.0) };
  marks = map (map (mark_above n)) core.marks;
}

-- a mark is kept, and where the marks of its slot agree the floor moves there
abbrev pub mark_kept : (own : ℕ) → Core → (n j m : ℕ) → Core
mark_kept own core n j m =
    let next = with_mark core n j m in
    cond (is_agreed own next n) (collected next n) next

abbrev pub with_count : Core → ℕ → Core
with_count core k = record { view = core.view; count = k; floor = core.floor; wishes = core.wishes; table = core.table; marks = core.marks }

-- whether the decision of slot n is held, while it is open
abbrev pub is_decided : Core → ℕ → Bool
is_decided core n = is_open core n && is_there (record_at core n).decided

-- The question for slot n: its decision.
abbrev pub decision : Core → ℕ → Option Certificate
decision core n = cond (is_decided core n) (Some (record_at core n).decided) None

-- Slot n is missing: it is above the count and not decided, and some slot above it is.
abbrev pub Missing : Core → ℕ → Type 0
Missing core n = core.count < n × (is_decided core n ≡ false) × (m : ℕ) × n < m × (is_decided core m ≡ true)

-- The question for a missing slot answers one, or that there is none.
abbrev pub AnswersMissing : Core → Option Slot → Type 0
AnswersMissing core x = MatchOption x ((n : ℕ) → ¬ Missing core n) (λ slot. Missing core slot.0)

-- h is the highest decided slot, or 0 where none is
pub record Highest (core : Core) (h : ℕ) : Type 0 where
  pub above : (n : ℕ) → is_decided core n ≡ true → n ≤ h
  pub decided : 0 < h → is_decided core h ≡ true
