-- Document 01, "Quantities and ranges"; the rounding of a term from document 02, request (ii), and the range of prices from
-- its request (x).
use Rattle.std.specs.Prelude.{Bool, ◌&&◌, cond, ℕ, suc, ◌+◌, ◌/◌, ◌%◌, leb, ℤ, pos, negsuc, neg_ℤ, ◌≤ℤ◌, get_or}
use Rattle.std.specs.Int.Signed.{le_z}
use Rattle.quantity.specs.declared.quantities.Tenths.{Tenths}
use Rattle.quantity.specs.declared.quantities.BandSet.{BandSet}

-- z lies from a to b
pub record InRange (a b z : ℤ) : Type 0 where
  pub low : a ≤ℤ z
  pub high : z ≤ℤ b

-- "Every measured or derived band value lies in -200..1500 tenths."
unfoldable pub in_range : ℤ → Bool
in_range z = le_z (negsuc 199) z && le_z z (pos 1500)

-- a value in tenths
abbrev pub tenths : ℤ → Tenths
tenths z = record { 0 = z }

abbrev pub nought : Tenths
nought = tenths (pos 0)

-- "a half goes to the even whole number": of a size of n tenths the whole part, or one more. Up to 4 tenths past the whole part
-- go down, from 6 on they go up, and at 5 an odd whole part goes up, an even one stays
unfoldable pub even_half : ℕ → ℕ
even_half n = cond (leb (n % 10) 4) (n / 10) (cond (leb 6 (n % 10)) (suc (n / 10)) (n / 10 + n / 10 % 2))

-- "by size and with the sign put back": a term of t tenths in whole decibels
unfoldable pub half_even : ℤ → ℤ
half_even (pos n) = pos (even_half n)
half_even (negsuc n) = neg_ℤ (pos (even_half (suc n)))

-- "price in fen .. (0..1,000,000)"
unfoldable pub priced : ℕ → Bool
priced p = leb p 1000000

-- the value of band i, counted from 0, in tenths
abbrev pub band_of : BandSet → ℕ → ℤ
band_of s i = (get_or s.values i nought).0
