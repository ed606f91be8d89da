-- The answers of the calls on rooms, specimens, covers, doors and windows.
use Rattle.std.specs.Prelude.{List, ℕ, ℤ, Float, length}
use Rattle.kinds.specs.declared.kinds.Kind.TheVariants.{A3, A1}
use Rattle.kinds.specs.Kinds.{bands_of}
use Rattle.rooms.specs.declared.raw.RawBand.{RawBand}
use Rattle.rooms.specs.Background.{field_of, laboratory_of}
use Rattle.rooms.specs.Raw.{raw_of}
use Rattle.means.specs.Sets.{octaves_of, specimens_of}
use Rattle.products.specs.Covers.{cover_of, improvement_answer}
use Rattle.products.specs.Grades.{grades_of, graded_answer}
use Rattle.quantity.specs.Answers.{Answer}
use Rattle.door.specs.Sides.{side_of}
use Rattle.door.specs.Lists.{set_from, readings_from}
use Rattle.intake.specs.Taken.{taken_answer}
use Rattle.measurement.specs.Lists.{intake_answer}
use Rattle.door.specs.Given.{level_answer}

-- imbrolt_correct_field
unfoldable pub field_answer : ℤ → ℤ → Answer ℤ
field_answer total background = taken_answer (field_of total background)

-- imbrolt_correct_laboratory
unfoldable pub laboratory_answer : ℤ → ℤ → Answer ℤ
laboratory_answer total background = level_answer (laboratory_of total background)

-- imbrolt_standardized
unfoldable pub raw_answer : RawBand → Answer ℤ
raw_answer raw = taken_answer (raw_of raw)

-- imbrolt_octaves
unfoldable pub octaves_answer : List ℤ → ℕ → Answer ℤ
octaves_answer values marks = intake_answer (octaves_of (set_from values marks)) (bands_of A1)

-- imbrolt_specimens
unfoldable pub specimens_answer : List ℕ → List Float → Answer ℤ
specimens_answer marks values = intake_answer (specimens_of (readings_from marks values) (length values)) (bands_of A3)

-- imbrolt_cover
unfoldable pub cover_answer : List ℤ → ℕ → Answer ℤ
cover_answer values marks = improvement_answer (cover_of (set_from values marks))

-- imbrolt_grade
unfoldable pub grade_answer : ℕ → List ℕ → List Float → Answer ℤ
grade_answer side marks values = graded_answer (grades_of (readings_from marks values) (length values) (side_of side))
