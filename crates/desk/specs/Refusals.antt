-- Document 01, "Refusal numbers": the twelve, with 16 to 19 of document 02, request (x); and "bands from the lowest, each 3, 2,
-- 4". The order of each call stands in its own definition.
pub use Rattle.quantity.specs.declared.refusals.Refusal.{Refusal}
pub use Rattle.quantity.specs.Refusals.{number_of, or_else}
pub use Rattle.measurement.specs.Lists.{taken_at, fault_of, all_by, list_by}
unfoldable pub use Rattle.measurement.specs.Lists.{refusal_in, marks_in, values_in, all_of, list_of}
