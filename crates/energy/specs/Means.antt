-- Document 01, "Sums of energies", the mean of three: G, the number v, and the mean m + v.
use Rattle.std.specs.Prelude.{Bool, ℕ, ◌+◌, ◌*◌, ◌-◌, ◌^◌, ◌≤◌, min, leb}
use Rattle.laws.specs.Extremes.{greatest}
use Rattle.energy.specs.Energies.{F}

-- "G(j) the greatest n with n^200 x 10^(2j-1) <= 3^200 x 10^1800"
unfoldable pub MeanRule : ℕ → ℕ → Type 0
MeanRule j n = n ^ 200 * 10 ^ (2 * j - 1) ≤ 3 ^ 200 * 10 ^ 1800

-- "v the number of j >= 1 with S <= G(j)": S <= G(j) says S^200 x 10^(2j-1) <= 3^200 x 10^1800. For every sum of three it
-- is below 2 ^ 6
unfoldable pub mean_rule : ℕ → ℕ → Bool
mean_rule S j = leb (S ^ 200 * 10 ^ (2 * j - 1)) (3 ^ 200 * 10 ^ 1800)

unfoldable pub v : ℕ → ℕ
v S = greatest 6 (mean_rule S)

-- the least of three, and the sum of their energies above it
abbrev pub least₃ : ℕ → ℕ → ℕ → ℕ
least₃ x y z = min x (min y z)

abbrev pub sum₃ : ℕ → ℕ → ℕ → ℕ
sum₃ x y z = F (x - least₃ x y z) + F (y - least₃ x y z) + F (z - least₃ x y z)

-- "The mean is m + v", of three values counted in tenths from one floor
unfoldable pub mean₃ : ℕ → ℕ → ℕ → ℕ
mean₃ x y z = least₃ x y z + v (sum₃ x y z)
