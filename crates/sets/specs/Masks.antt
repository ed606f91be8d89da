-- Document 01, "The lift list": sets of bands. "Each is a 16-bit number, bit 0 the lowest band."
use Rattle.std.specs.Prelude.{Bool, false, not, cond, ◌&&◌, ◌||◌, List, [], ◌∷◌, ◌++◌, map, ℕ, zero, suc, ◌+◌, ◌^◌, eqb, leb, ltb, length}
use Rattle.laws.specs.Tests.{all_to, bit}

-- the bands of a set from band i on, where `left` more are looked at
unfoldable pub bands_from : ℕ → ℕ → ℕ → List ℕ
bands_from zero i m = []
bands_from (suc left) i m = let rest = bands_from left (suc i) m in cond (bit m i) (i ∷ rest) rest

-- the bands of a set, from the lowest up
unfoldable pub bands_in : ℕ → List ℕ
bands_in m = bands_from 16 0 m

-- how many bands a set has
unfoldable pub size : ℕ → ℕ
size m = length (bands_in m)

-- "A set of 1 to 3 bands", of n bands
unfoldable pub is_mask : ℕ → ℕ → Bool
is_mask n m = ltb m (2 ^ n) && leb 1 (size m) && leb (size m) 3

-- every band of p is a band of m
unfoldable pub part : ℕ → ℕ → Bool
part p m = all_to (λ i. not (bit p i) || bit m i) 16

-- "smaller non-empty part": p is a part of m, not the whole, and not empty
unfoldable pub smaller : ℕ → ℕ → Bool
smaller p m = part p m && not (eqb p m) && not (eqb p 0)

-- two lists of numbers, by the first that differs
unfoldable pub earlier : List ℕ → List ℕ → Bool
earlier [] r = false
earlier (a ∷ l) [] = false
earlier (a ∷ l) (b ∷ r) = ltb a b || (eqb a b && earlier l r)

-- "Order: by size, then by lowest band, next band, last band."
unfoldable pub before : ℕ → ℕ → Bool
before m p = earlier (size m ∷ bands_in m) (size p ∷ bands_in p)

-- all sets of so many bands, out of `left` bands from band i on: those with band i, then those without
unfoldable pub choose : ℕ → ℕ → ℕ → List ℕ
choose zero left i = 0 ∷ []
choose (suc bands) zero i = []
choose (suc bands) (suc left) i = map (λ (m : ℕ). 2 ^ i + m) (choose bands left (suc i)) ++ choose (suc bands) left (suc i)

-- all sets of 1 to 3 of n bands, in order
unfoldable pub masks_in_order : ℕ → List ℕ
masks_in_order n = choose 1 n 0 ++ (choose 2 n 0 ++ choose 3 n 0)

-- those that pass a test, in the same order
unfoldable pub filter : (ℕ → Bool) → List ℕ → List ℕ
filter ok [] = []
filter ok (m ∷ ms) = let rest = filter ok ms in cond (ok m) (m ∷ rest) rest
