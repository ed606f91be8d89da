-- Document 02, (x), "Request keys on the bill", and (xi), "Month end".

-- an entry: its key, its bands, when two entries have one customer and key, and the same bands; the entry of a call, and one of
-- zeros
pub use Rattle.entry.specs.declared.entries.Entry.{Entry}
pub use Rattle.entry.specs.Entries.{key_of, value_of, set_of, bands_in, marks_to, ratable, keyed, Call, call_of}
unfoldable pub use Rattle.entry.specs.Entries.{same_text, same_key, same_values, same_bands, entry_ok, entry_of, no_entry}
-- "a register of at most 512 entries", opened empty; 19 where it is not sound
pub use Rattle.register.specs.declared.registers.Register.{Register}
pub use Rattle.register.specs.Registers.{entry_at, repeated}
unfoldable pub use Rattle.register.specs.Registers.{opened, sound}
-- what a call comes to, in the order of the refusals, and what it leaves
pub use Rattle.register.specs.Registers.{Due, rated_due, billed_by, after_by}
unfoldable pub use Rattle.register.specs.Registers.{known, held, place_due, due_of, with_entry, billed_of, after_of}
-- a customer's total
unfoldable pub use Rattle.register.specs.Registers.{price_for, total_in, owed_of}
-- (xi) what a closing leaves: "the entries go, and the others move together in their order"
pub use Rattle.ledger.specs.Closings.{Among, Moved, Cleared}
unfoldable pub use Rattle.ledger.specs.Closings.{others, moved_to, without, closed_of}
-- "over any sequence of calls since the register was opened empty": histories and their sums
pub use Rattle.ledger.specs.Histories.{History, accepted, charge, settled, payment, same_caller, adds, total, keys_of, ends, Ended, owing, in_use}
unfoldable pub use Rattle.ledger.specs.Histories.{used, sum_first, since, upon, unended, keys, charged, handed_out}
-- what bills and closings do to a register, and what never matters
pub use Rattle.ledger.specs.Histories.{Calls, Again, SameEntry, SameRegister, CouldBeLeft, Full}
unfoldable pub use Rattle.ledger.specs.Histories.{onward, spares, left, told}
