-- The booking service.
use Rattle.std.specs.Prelude.{◌≡◌, ℕ, ◌%◌, ◌^◌, cond, ◌&&◌, ◌≢◌, ◌⊎◌, List, ◌∷◌, ◌++◌, replicate, Some, None, fold, Option, ◌==◌, nat_lt, slice_index, slice_index_or, slice_set}
use Rattle.std.specs.List.{AllByRecursion}
use Rattle.service.specs.Commands.{first_byte, second_byte, third_byte, given}
use Rattle.service.specs.Marks.{mark_with}
use Rattle.service.specs.Outcomes.{Outcome, refused, run}
use Rattle.service.specs.declared.bookings.Request.{Request}
use Rattle.service.specs.declared.bookings.Request.TheVariants.{Book, Free}

-- 42 hex to book, 46 hex to free
abbrev pub asked : ℕ → ℕ → ℕ → Option Request
asked kind place holder = cond (kind == 0x42) (Some (Book place holder)) (given (kind == 0x46) (Free place holder))

-- the kind, a place below 32, a holder above 0, five zero bytes
abbrev pub request_of : ℕ → Option Request
request_of command =
    cond (nat_lt (second_byte command) 32 && nat_lt 0 (third_byte command) && command % 2 ^ 40 == 0)
    (asked (first_byte command) (second_byte command) (third_byte command))
    None

-- the state: each place's holder, 0 where the place is free
abbrev pub Holders : Type 0
Holders = List ℕ

abbrev pub first_holders : Holders
first_holders = replicate 32 0

abbrev pub holder_at : Holders → ℕ → Option ℕ
holder_at holders place = given (nat_lt place 32) (slice_index holders place)

-- the place goes from one holder to another and the answer is 1; if it is not theirs, nothing changes and the answer is 0
abbrev pub passed : Holders → ℕ → ℕ → ℕ → Outcome Holders
passed holders place from to =
    cond (slice_index holders place == from)
    (record { answer = 1; after = slice_set holders place to })
    (record { answer = 0; after = holders })

-- booking takes a free place, freeing needs the present holder
abbrev pub by_request : Holders → Option Request → Outcome Holders
by_request holders None = refused holders
by_request holders (Some (Book place holder)) = passed holders place 0 holder
by_request holders (Some (Free place holder)) = passed holders place holder 0

abbrev pub booking_result : Holders → ℕ → ℕ
booking_result holders command = (by_request holders (request_of command)).answer

abbrev pub booking_next : Holders → ℕ → Holders
booking_next holders command = (by_request holders (request_of command)).after

abbrev pub booking_mark : Holders → ℕ
booking_mark holders = fold mark_with 0 holders

-- the command booked the place, which was free, for this holder
pub record Booked (holders : Holders) (command place holder : ℕ) : Type 0 where
  pub free : slice_index_or holders place 0 ≡ 0
  pub asks : request_of command ≡ Some (Book place holder)

-- the command freed the place for its holder
pub record Freed (holders : Holders) (command place holder : ℕ) : Type 0 where
  pub free : holder ≡ 0
  pub asks : request_of command ≡ Some (Free place (slice_index holders place))

-- among the commands the place was booked for this holder, and these are the ones since, none of which freed it
pub record HeldSince (commands : List ℕ) (place holder : ℕ) : Type 0 where
  pub before : List ℕ
  pub booking : ℕ
  pub since : List ℕ
  pub parts : commands ≡ before ++ (booking ∷ since)
  pub asks : request_of booking ≡ Some (Book place holder)
  pub kept : AllByRecursion (λ c. request_of c ≢ Some (Free place holder)) since

pub record BookingLaws : Type 0 where
  -- a command changes a place's holder only by booking it while it is free, or by freeing it for its holder
  pub changes : (holders : Holders) (command place : ℕ) → slice_index (booking_next holders command) place ≢ slice_index holders place → Booked holders command place (slice_index (booking_next holders command) place) ⊎ Freed holders command place (slice_index (booking_next holders command) place)
  -- whoever holds a place after a run from the first state booked it, and did not free it since
  pub held : (commands : List ℕ) (place : ℕ) → slice_index (run booking_next first_holders commands) place ≢ 0 → HeldSince commands place (slice_index (run booking_next first_holders commands) place)
