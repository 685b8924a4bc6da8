-- Which fields a statement of each kind uses, and their ranges; an unused field is zero.
use Rattle.std.specs.Prelude.{ℕ, ◌%◌, ◌^◌, ◌<◌, Bool, not, ◌&&◌, ◌||◌, ◌==◌, nat_le, nat_lt}
use Rattle.packet.specs.declared.kinds.Kind.{Kind}
use Rattle.packet.specs.declared.kinds.Kind.TheVariants.{Order, Prepare, Commit, Report, Wish, Checkpoint, Answer}
use Rattle.packet.specs.declared.statements.Statement.{Statement}

-- there is a view, or a slot, of this number
abbrev pub valid : ℕ → Bool
valid n = nat_le 1 n && nat_le n 4000000000

-- the rule of each kind for its view, slot, earlier view and command
abbrev pub rule : Kind → ℕ → ℕ → ℕ → ℕ → Bool
rule Order v s e c = valid v && (valid s && e == 0)
rule Prepare v s e c = valid v && (valid s && e == 0)
rule Commit v s e c = valid v && (valid s && e == 0)
rule Report v s e c = valid v && (valid s && (nat_lt e v && (not (e == 0) || c == 0)))
rule Wish v s e c = valid v && (s == 0 && (e == 0 && c == 0))
rule Checkpoint v s e c = v == 0 && (valid s && (s % 16 == 0 && e == 0))
rule Answer v s e c = v == 0 && (valid s && e == 0)

abbrev pub proper : Statement → Bool
proper s = nat_le s.signer 3 && rule s.kind s.view.0 s.slot.0 s.earlier.0 s.command

-- each number under the seal fits the bytes that it has
pub record Fits (s : Statement) : Type 0 where
  pub view : s.view.0 < 256 ^ 4
  pub slot : s.slot.0 < 256 ^ 4
  pub earlier : s.earlier.0 < 256 ^ 4
  pub command : s.command < 256 ^ 8
