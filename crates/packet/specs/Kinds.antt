-- The byte of each kind.
use Rattle.std.specs.Prelude.{ℕ, cond, Some, None, Option, Result, ◌==◌}
use Rattle.std.specs.Option.{ok_or}
use Rattle.packet.specs.declared.kinds.Kind.{Kind}
use Rattle.packet.specs.declared.kinds.UnknownKind.{UnknownKind}
use Rattle.packet.specs.declared.kinds.Kind.TheVariants.{Order, Prepare, Commit, Report, Wish, Checkpoint, Answer}

-- the byte that a statement of each kind begins with: O P C R W K A
abbrev pub byte_of : Kind → ℕ
byte_of Order = 0x4F
byte_of Prepare = 0x50
byte_of Commit = 0x43
byte_of Report = 0x52
byte_of Wish = 0x57
byte_of Checkpoint = 0x4B
byte_of Answer = 0x41

abbrev if_byte : Kind → ℕ → Option Kind → Option Kind
if_byte k b other = cond (b == byte_of k) (Some k) other

-- the kind that a first byte names
abbrev pub kind_of : ℕ → Option Kind
kind_of b = if_byte Order b (if_byte Prepare b (if_byte Commit b (if_byte Report b (if_byte Wish b (if_byte Checkpoint b (if_byte Answer b None))))))

-- the same, where any other byte is an error that holds it
abbrev pub kind_named : ℕ → Result Kind UnknownKind
kind_named b = ok_or (kind_of b) (record { 0 = b })
