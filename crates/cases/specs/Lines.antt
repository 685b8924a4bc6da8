-- What a line of the table is, and when it holds.
use Rattle.std.specs.Prelude.{◌≡◌, ℕ}
use Prim.Native.String.{String}

-- what the line shows, the figure that is expected, and the one that the definitions give
pub record Line : Type 0 where
  pub shows : String
  pub expected : ℕ
  pub given : ℕ

abbrev pub line : String → ℕ → ℕ → Line
line shows expected given = record { shows = shows; expected = expected; given = given }

abbrev pub Holds : Line → Type 0
Holds l = l.given ≡ l.expected
