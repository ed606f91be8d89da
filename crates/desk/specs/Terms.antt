-- Document 01, "Sums of energies": the terms, and the sheet that holds them; their rounding is document 02's, request (ii).
unfoldable pub use Rattle.rating.specs.Terms.{least_to, greatest_to, weighted, airborne_term, impact_term}
-- "Each term is then rounded to a whole dB": "a half goes to the even whole number, by size and with the sign put back"
unfoldable pub use Rattle.quantity.specs.Quantities.{even_half, half_even}
-- rating, terms, shifts and mark: "A set with any limit band is marked as a limit set"
pub use Rattle.rating.specs.declared.sheets.Sheet.{Sheet}
pub use Rattle.rating.specs.Sheets.{first_by, second_by}
unfoldable pub use Rattle.curve.specs.Bands.{accepted, limited}
unfoldable pub use Rattle.rating.specs.Sheets.{sheet_of}
