-- `products::grades::grade_of` meets its contract: the numbers of a sheet are small. Assumes nothing.
use Rattle.products.proofs.Improvements.{given_small}
use Rattle.products.proofs.grades.grade_of.Goals as goal

pub sheet_grade-requires : goal.sheet_grade-requires
sheet_grade-requires c = given_small _ _ _ c.in_ok-sheet.ensures
