-- The parts of a command: eight bytes as one number, high byte first.
use Rattle.std.specs.Prelude.{ℕ, ◌-◌, ◌/◌, ◌%◌, ◌^◌, ◌++◌, Bool, true, false, List, Some, None, Option, Result, codes, length, ok_or, replicate}
use Rattle.std.specs.Fmt.{digits}
use Rattle.service.specs.declared.commands.UnknownCommand.{UnknownCommand}

abbrev pub first_byte : ℕ → ℕ
first_byte command = command / 2 ^ 56 % 256

abbrev pub second_byte : ℕ → ℕ
second_byte command = command / 2 ^ 48 % 256

abbrev pub third_byte : ℕ → ℕ
third_byte command = command / 2 ^ 40 % 256

-- a value, if the test holds
abbrev pub given : {A : Type 0} → Bool → A → Option A
given true a = Some a
given false a = None

-- what a service reads a command as, or the command itself where the service does not know it
abbrev pub read_as : {A : Type 0} → (ℕ → Option A) → ℕ → Result A UnknownCommand
read_as asked command = ok_or (asked command) (record { 0 = command })

-- a command in sixteen digits of base sixteen: zeros stand before those that it needs
abbrev pub sixteen_digits : ℕ → List ℕ
sixteen_digits command = replicate (16 - length (digits 16 false command)) 48 ++ digits 16 false command

-- what the error says
abbrev pub unknown_text : ℕ → List ℕ
unknown_text command = codes "the service has no command 0x"
    ++ (sixteen_digits command ++ codes ": the client wrote it wrongly, or meant another service")
