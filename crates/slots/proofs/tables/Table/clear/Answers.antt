use Rattle.std.proofs.Common.{◌≡◌, ◌-◌, arith, rules}
use Rattle.slots.proofs.tables.Table.clear.Goals as goal

pub returns : goal.returns
returns c = let e : c.loop-below.below - c.args.floor.0 ≡ c.args.slot.0 - c.args.floor.0 = omega arith in search (rules, e)
