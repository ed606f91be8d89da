-- Document 01, "Language form for each place": "For any answer that is an enum, a definition gives this paper's number and values
-- for each case. The promises use that definition." Here is what such a definition gives; each stands in the crate that has
-- the enum.
use Rattle.std.specs.Prelude.{Bool, true, false, List, ℕ, ℤ, pos}

-- an answer in the paper's numbers: that of a refusal, or the values given
pub data Answer (A : Type 0) : Type 0 where
  refused : ℕ → Answer A
  numbers : List A → Answer A

-- a mark among the values
abbrev pub flag : Bool → ℤ
flag true = pos 1
flag false = pos 0
