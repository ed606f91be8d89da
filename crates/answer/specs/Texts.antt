-- Document 01, "Request and answer lines": numbers, kinds and the text of an answer, as lists of bytes.
use Rattle.std.specs.Prelude.{Bool, true, false, List, [], ◌∷◌, ◌++◌, ℕ, zero, suc, ◌+◌, ◌/◌, ◌%◌, ltb, ℤ, pos, negsuc, Option, None, Some, Result, Ok, Err}
use Rattle.quantity.specs.Refusals.{number_of}
use Rattle.quantity.specs.declared.quantities.Decibels.{Decibels}
use Rattle.quantity.specs.declared.refusals.Refusal.{Refusal}
use Rattle.kinds.specs.declared.kinds.Kind.{Kind}
use Rattle.kinds.specs.declared.kinds.Kind.TheVariants.{A3, A1, I3, I1}
use Rattle.rating.specs.declared.sheets.Sheet.{Sheet}
use Rattle.answer.specs.declared.texts.Field.{Field}
use Rattle.answer.specs.declared.texts.Field.TheVariants.{Number, Count, Sign, Nothing}

-- the bytes of lines
abbrev pub tab : ℕ
tab = 9

abbrev pub line_feed : ℕ
line_feed = 10

abbrev pub hyphen : ℕ
hyphen = 45

abbrev pub point : ℕ
point = 46

-- the digit of a number below ten
abbrev pub digit : ℕ → ℕ
digit n = 48 + n

-- "parted by tabs, ended by a line feed": the first field, then the others
unfoldable pub others : List (List ℕ) → List ℕ
others [] = line_feed ∷ []
others (f ∷ fs) = tab ∷ (f ++ others fs)

unfoldable pub line_text : List ℕ → List (List ℕ) → List ℕ
line_text f fs = f ++ others fs

-- a number in decimal, without needless zeros; it has at most so many digits
unfoldable pub decimal_by : ℕ → ℕ → List ℕ
decimal_by zero n = []
decimal_by (suc more) n = elim (ltb n 10) [ true ↦ digit n ∷ [] | false ↦ decimal_by more (n / 10) ++ (digit (n % 10) ∷ []) ]

unfoldable pub decimal : ℕ → List ℕ
decimal n = decimal_by (suc n) n

-- a minus where it is negative
unfoldable pub number_text : ℤ → List ℕ
number_text (pos n) = decimal n
number_text (negsuc n) = hyphen ∷ decimal (suc n)

-- the two letters of a kind: 65 is A, 73 is I
abbrev pub kind_text : Kind → List ℕ
kind_text A3 = 65 ∷ digit 3 ∷ []
kind_text A1 = 65 ∷ digit 1 ∷ []
kind_text I3 = 73 ∷ digit 3 ∷ []
kind_text I1 = 73 ∷ digit 1 ∷ []

-- "second term (`-` for impact)"
unfoldable pub term_text : Option Decibels → List ℕ
term_text (Some d) = number_text d.0
term_text None = hyphen ∷ []

-- "mark (`=` or `L`)": 76 is L, 61 is =
abbrev pub set_text : Bool → List ℕ
set_text true = 76 ∷ []
set_text false = 61 ∷ []

-- "Answer: kind, key, 0, rating, first term, second term (`-` for impact), shifts, mark (`=` or `L`).": what follows the key
abbrev pub sheet_fields : Sheet → List (List ℕ)
sheet_fields s =
    (digit 0 ∷ []) ∷ number_text s.rating.0 ∷ number_text s.first.0 ∷ term_text s.second ∷ decimal s.shifts ∷ set_text s.limit ∷ []

-- "Refused: kind, key, number"
abbrev pub fields_of : Result Sheet Refusal → List (List ℕ)
fields_of (Ok s) = sheet_fields s
fields_of (Err r) = decimal (number_of r) ∷ []

unfoldable pub rated_text : Kind → List ℕ → Result Sheet Refusal → List ℕ
rated_text kind key rated = line_text (kind_text kind) (key ∷ fields_of rated)

-- "for 11, `?`, `?`, 11": 63 is ?
unfoldable pub no_request_text : List ℕ
no_request_text = line_text (63 ∷ []) ((63 ∷ []) ∷ decimal 11 ∷ [])

-- the text of one field of the code, and the texts of those that are there; texts behind tabs, without the line feed
unfoldable pub field_texts : Field → List (List ℕ)
field_texts (Number z) = number_text z ∷ []
field_texts (Count n) = decimal n ∷ []
field_texts (Sign b) = (b ∷ []) ∷ []
field_texts Nothing = []

unfoldable pub texts_of : List Field → List (List ℕ)
texts_of [] = []
texts_of (f ∷ fs) = field_texts f ++ texts_of fs

unfoldable pub tabbed : List (List ℕ) → List ℕ
tabbed [] = []
tabbed (t ∷ ts) = tab ∷ (t ++ tabbed ts)
