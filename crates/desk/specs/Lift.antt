-- Document 01, "The lift list".

-- sets of bands and their order
unfoldable pub use Rattle.sets.specs.Masks.{bands_in, size, is_mask, part, smaller, before, choose, masks_in_order, filter}
-- what a set reaches, and which sets are listed
pub use Rattle.sets.specs.Highest.{highest}
pub use Rattle.lift.specs.Reach.{better_by, meets_by, Listed}
unfoldable pub use Rattle.lift.specs.Reach.{lifted, reaches, listed_mask, lift_list}
-- the call: its answer, and the lent buffer afterwards
pub use Rattle.lift.specs.Calls.{places_of, buffer_by}
unfoldable pub use Rattle.lift.specs.Calls.{in_targets, count_of, answer_of}
pub use Rattle.laws.specs.Lists.{front}
