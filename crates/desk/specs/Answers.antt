-- Document 01, "Language form for each place": "For any answer that is an enum, a definition gives this paper's number and values
-- for each case. The promises use that definition."

-- a refusal's number, or the values given
pub use Rattle.quantity.specs.Answers.{Answer, flag}
-- a value in tenths and its mark
pub use Rattle.intake.specs.Taken.{taken_answer}
-- rating, first term, second term, whether there is one, shifts, mark
pub use Rattle.rating.specs.Sheets.{term_of, term_flag, sheet_numbers, rated_answer}
-- the values of so many bands, then their marks
unfoldable pub use Rattle.laws.specs.Lists.{listed}
unfoldable pub use Rattle.measurement.specs.Lists.{set_numbers}
pub use Rattle.measurement.specs.Lists.{intake_answer}
-- improvement rating, term, mark
pub use Rattle.products.specs.Covers.{improvement_answer}
-- rating, C, Ctr, deciding number, grade, mark
pub use Rattle.products.specs.Grades.{grade_numbers, graded_answer}
-- the count of a lift list, the length of an answer line
pub use Rattle.lift.specs.Calls.{count_answer}
pub use Rattle.line.specs.Answers.{wrote_answer}
-- a sheet and what is charged now; a customer's total
pub use Rattle.register.specs.Registers.{billed_answer, owed_answer}
