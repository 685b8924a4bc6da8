-- Numbers on the wire: high byte first.
use Rattle.std.specs.Prelude.{ℕ, zero, suc, ◌+◌, ◌*◌, ◌/◌, ◌%◌, List, [], ◌∷◌, ◌++◌, slice_index}

-- a number in w bytes
abbrev pub bytes_of : ℕ → ℕ → List ℕ
bytes_of zero n = []
bytes_of (suc w) n = bytes_of w (n / 256) ++ (n % 256 ∷ [])

-- the number in the w bytes from place i on
abbrev pub number_at : ℕ → List ℕ → ℕ → ℕ
number_at zero bs i = 0
number_at (suc w) bs i = number_at w bs i * 256 + slice_index bs (i + w)
