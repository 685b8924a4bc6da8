-- The lines of the two services.
use Rattle.std.specs.Prelude.{ℕ, List, [], ◌∷◌}
use Rattle.service.specs.Bookings.{booking_mark, booking_next, first_holders}
use Rattle.service.specs.Recorders.{first_channels, recorder_mark, recorder_next}
use Rattle.cases.specs.Lines.{Line, line}

-- the mark after one command, from the first state
abbrev pub recorder_after : ℕ → ℕ
recorder_after command = recorder_mark (recorder_next first_channels command)

abbrev pub booking_after : ℕ → ℕ
booking_after command = booking_mark (booking_next first_holders command)

abbrev pub service_lines : List Line
service_lines =
    line "the mark after one sample of 7 on channel 15" 38 (recorder_after 0x530F_0000_0000_0007)
    ∷ line "the mark after one sample of 7 on channel 14" 36518 (recorder_after 0x530E_0000_0000_0007)
    ∷ line "the mark after place 30 is booked for holder 5" 155 (booking_after 0x421E_0500_0000_0000)
    ∷ []
