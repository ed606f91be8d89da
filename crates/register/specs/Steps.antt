-- How the code hands on what is due. No answer depends on it.
use Rattle.std.specs.Prelude.{◌<◌, Result, Ok, Err}
use Rattle.quantity.specs.declared.refusals.Refusal.{Refusal}
use Rattle.entry.specs.declared.entries.Entry.{Entry}
use Rattle.register.specs.declared.registers.Register.{Register}
use Rattle.register.specs.declared.steps.Accepted.{Accepted}
use Rattle.register.specs.declared.steps.Accepted.TheVariants.{Again, New}
use Rattle.register.specs.declared.steps.Billed.{Billed}
use Rattle.register.specs.Registers.{Due}
use Rattle.register.specs.Registers.Due.{refuse, repeat, enter}

-- of the call of an entry
abbrev pub accepted_by : Due → Entry → Result Accepted Refusal
accepted_by (refuse refusal) e = Err refusal
accepted_by (repeat sheet) e = Ok (Again sheet)
accepted_by (enter sheet) e = Ok (New sheet e)

abbrev pub bill : Accepted → Billed
bill (Again sheet) = record { sheet = sheet; charged = record { 0 = 0 } }
bill (New sheet e) = record { sheet = sheet; charged = e.price }

-- a new key is accepted only where there is room
abbrev pub RoomFor : Register → Accepted → Type 0
RoomFor r (Again sheet) = Unit {0}
RoomFor r (New sheet e) = r.count < 512
