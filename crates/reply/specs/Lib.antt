-- What a request is answered, as document 01 has it; then what the code carries between its parts.
pub mod Answers
