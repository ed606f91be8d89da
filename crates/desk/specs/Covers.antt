-- Document 01, "Covers and grades".

-- "Improvement rating = 78 - derived rating; its term = -(impact term + 10), the impact term rounded first"
pub use Rattle.products.specs.declared.covers.Cover.{Cover}
pub use Rattle.products.specs.Covers.{floor_at, improvement_of, cover_by}
unfoldable pub use Rattle.products.specs.Covers.{floor, derived_set, cover_of}
-- "Under 20 grade 0; 20 to 24 grade 1; .."
pub use Rattle.products.specs.declared.grades.Side.{Side}
pub use Rattle.products.specs.declared.grades.Grade.{Grade}
pub use Rattle.products.specs.Grades.{deciding_of, sheet_grade, graded_by, graded}
unfoldable pub use Rattle.products.specs.Grades.{grade_of, grades_of}
