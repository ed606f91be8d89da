-- Document 01, "Rating (000, 3.2 and 4.2)": deficits, the position, the curve method and its shifts.

-- "band deficit is max(0, 10X + 10K - x)"; "total at most the limit"
pub use Rattle.rating.specs.Curve.{deficit_by}
unfoldable pub use Rattle.rating.specs.Curve.{deficit, total, within}
-- "the greatest whole X"; "the least whole Y"
pub use Rattle.rating.specs.Curve.{stricter_by, IsPosition}
-- "The number of curve shifts is the distance from that start to the accepted position."
pub use Rattle.rating.specs.Curve.{start_by, shifted_by, taken_off}
unfoldable pub use Rattle.rating.specs.Curve.{start_of, shifted, first_from, shifts_of, position_of, rating_of}
