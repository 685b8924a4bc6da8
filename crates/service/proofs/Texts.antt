-- What is printed of a command.
use Rattle.std.proofs.Common.{◌≡◌, ℕ, ◌-◌, ◌^◌, ◌∷◌, [], false, ◌++◌, rules}
use Rattle.std.specs.Fmt.{padded_integral, format_spec, digits, char_count}
use Rattle.service.specs.Commands.{sixteen_digits}

pub in_sixteen : (n : ℕ) → padded_integral (format_spec 32 0 4 16 (2 ^ 64 - 1)) false [] (digits 16 false n) ≡ sixteen_digits n
unfolding padded_integral char_count
in_sixteen n = search rules
