-- How a service's mark is made: from 0, by taking in the numbers of its state one after another.
use Rattle.std.specs.Prelude.{ℕ, ◌+◌, ◌*◌, ◌%◌, ◌^◌}

abbrev pub mark_with : ℕ → ℕ → ℕ
mark_with mark number = (31 * mark + number) % 2 ^ 64
