-- What a collector takes, keeps and closes with.
use Rattle.std.specs.Prelude.{ℕ, Bool, if◌then◌else◌, List, replicate, find, Some, None, Ok, Err, Option, Result, ◌==◌, nat_eq, nat_le, slice_index_or, slice_set}
use Rattle.std.specs.List.{flat_map}
use Rattle.std.specs.Option.{option_to_list}
use Rattle.ballot.specs.Counting.{count_of}
use Rattle.packet.specs.Fields.{valid}
use Rattle.packet.specs.declared.fields.Slot.{Slot}
use Rattle.packet.specs.declared.packets.Reader.TheVariants as reader
use Rattle.packet.specs.declared.statements.Statement.{Statement}
use Rattle.refusal.specs.Refusals.{carried, from_sealer}
use Rattle.refusal.specs.declared.collectors.CollectorFault.{CollectorFault}
use Rattle.refusal.specs.declared.collectors.CollectorFault.TheVariants as fault
use Rattle.sealer.specs.Seals.{Meaning, open_packet}
use Rattle.collector.specs.declared.collectors.Closed.{Closed}
use Rattle.collector.specs.declared.collectors.Unclosed.{Unclosed}
use Rattle.collector.specs.declared.collectors.Waiting.{Waiting}

-- a collector is made for a slot that there is
abbrev pub new_waiting : Slot → Result Waiting CollectorFault
new_waiting n = if valid n.0 then Ok (record { slot = n; results = replicate 4 None }) else Err fault.Slot

-- an answer is for the collector's slot, not unlike what its signer said before, and the first of its signer
abbrev pub check_first : Option ℕ → ℕ → Result (Unit {0}) CollectorFault
check_first None r = Ok tt
check_first (Some kept) r = if kept == r then Err fault.Held else Err fault.Unlike

abbrev pub check_answer : Waiting → Statement → Result (Unit {0}) CollectorFault
check_answer w s = if s.slot.0 == w.slot.0 then check_first (slice_index_or w.results s.signer None) s.command else Err fault.Slot

-- the result is kept in its signer's place
abbrev pub with_result : Waiting → Statement → Waiting
with_result w s = record { slot = w.slot; results = slice_set w.results s.signer (Some s.command) }

-- what an answer comes to, and the collector after it: a refusal leaves it as it was
abbrev pub by_check : Waiting → Statement → Result (Unit {0}) CollectorFault → Result (Unit {0}) CollectorFault × Waiting
by_check w s (Ok x) = (Ok tt, with_result w s)
by_check w s (Err e) = (Err e, w)

abbrev pub by_opening : Waiting → Result (Statement × List (List ℕ)) CollectorFault → Result (Unit {0}) CollectorFault × Waiting
by_opening w (Ok p) = by_check w p.0 (check_answer w p.0)
by_opening w (Err e) = (Err e, w)

abbrev pub added : Meaning → Waiting → List ℕ → Result (Unit {0}) CollectorFault × Waiting
added m w bs = by_opening w (carried from_sealer (open_packet m reader.Collector bs))

-- a result that two places hold
abbrev pub agrees : List (Option ℕ) → ℕ → Bool
agrees places r = nat_le 2 (count_of nat_eq places r)

-- the first of the held results, in the order of their places, that agrees with another
abbrev pub agreed_result : List (Option ℕ) → Option ℕ
agreed_result places = find (agrees places) (flat_map option_to_list places)

abbrev pub closed_as : Waiting → Option ℕ → Result Closed Unclosed
closed_as w (Some r) = Ok (record { slot = w.slot; result = r })
closed_as w None = Err (record { waiting = w; fault = fault.Apart })

abbrev pub closing : Waiting → Result Closed Unclosed
closing w = closed_as w (agreed_result w.results)
