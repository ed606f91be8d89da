-- Document 01, "Background and reverberation": the two rules, a raw band, octave and specimen means.

-- "c(d), for d from 60 to 149"
unfoldable pub use Rattle.energy.specs.Corrections.{BackgroundRule, background_rule, c}
-- the field rule and the laboratory rule, each "also a call of its own"
unfoldable pub use Rattle.rooms.specs.Background.{field_level, field_mark, field_of, laboratory_level, laboratory_of}
-- "The time becomes the nearest hundredth, a tie upward, in 10..2000."; "k, the greatest whole k with .."
unfoldable pub use Rattle.intake.specs.Times.{in_time, time_of}
unfoldable pub use Rattle.energy.specs.Corrections.{TimeRule, time_rule, k}
-- "A raw band holds four floats"; "source less field-corrected receiving level plus k"
pub use Rattle.rooms.specs.declared.raw.RawBand.{RawBand}
pub use Rattle.rooms.specs.Raw.{difference, derived, after_time, after_background, after_receiving, after_source}
unfoldable pub use Rattle.rooms.specs.Raw.{raw_of}
-- "An octave or specimen mean is a limit if any of its three values is"
pub use Rattle.means.specs.Sets.{mean_at, mark_at}
unfoldable pub use Rattle.means.specs.Sets.{marks_to, means_of, octaves_of, specimens_of}
