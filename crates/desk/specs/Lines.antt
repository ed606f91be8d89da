-- Document 01, "Request and answer lines".

-- the texts of requests and of answers
pub use Rattle.quantity.specs.Keys.{KeyOk}
unfoldable pub use Rattle.quantity.specs.Keys.{key_byte}
pub use Rattle.request.specs.Texts.{Band, BandOk}
pub use Rattle.answer.specs.Texts.{tab, line_feed, hyphen, point, digit, kind_text}
unfoldable pub use Rattle.answer.specs.Texts.{line_text, decimal, number_text, rated_text, no_request_text}
unfoldable pub use Rattle.request.specs.Texts.{level_text, band_text, request_text}
-- the request that a line is, and its answer
pub use Rattle.request.specs.Reading.{Request}
unfoldable pub use Rattle.request.specs.Reading.{request_of}
pub use Rattle.reply.specs.Answers.{judged_by, answer_to}
unfoldable pub use Rattle.request.specs.Gathering.{first_fault, marks_of, values_of}
unfoldable pub use Rattle.reply.specs.Answers.{set_of, judged, answer_of}
-- the same where it stands in a longer input
unfoldable pub use Rattle.request.specs.Reading.{request_at}
unfoldable pub use Rattle.reply.specs.Answers.{reply_to, reply_at, reply_text}
-- a whole run: one answer for each line, in order
unfoldable pub use Rattle.line.specs.Answers.{lines_of, answers_to, answers_of}
-- "The library writes an answer line from an offset that the caller names; bytes before it and after the line keep their
-- contents."
unfoldable pub use Rattle.line.specs.Answers.{fits_at, placed, wrote_of}
-- a run in parts: what one block call answers, and what it carries on
pub use Rattle.line.specs.declared.blocks.Progress.{Progress}
pub use Rattle.line.specs.Blocks.{Step, Block, Answered}
unfoldable pub use Rattle.line.specs.Blocks.{feed_after, piece_at, step_at, block_from, block_of}
-- and a run by such calls, whatever is read and whatever room there is
pub use Rattle.line.specs.Blocks.{answers_from, Run}
