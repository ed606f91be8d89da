-- Document 01, "Background and reverberation": the numbers c and k.
use Rattle.std.specs.Prelude.{Bool, ℕ, ◌+◌, ◌*◌, ◌-◌, ◌^◌, ◌≤◌, leb, ℤ, pos, negsuc, ◌-ℤ◌}
use Rattle.laws.specs.Extremes.{greatest}
use Rattle.energy.specs.Energies.{F}

-- "B(j) the greatest n with n^200 x 10^(2j-1) <= 10^1800"
unfoldable pub BackgroundRule : ℕ → ℕ → Type 0
BackgroundRule j n = n ^ 200 * 10 ^ (2 * j - 1) ≤ 10 ^ 1800

-- "c(d), for d from 60 to 149, is the number of j >= 1 with 10^9 - F(d) <= B(j)": that says
-- (10^9 - F(d))^200 x 10^(2j-1) <= 10^1800
unfoldable pub background_rule : ℕ → ℕ → Bool
background_rule d j = leb ((10 ^ 9 - F d) ^ 200 * 10 ^ (2 * j - 1)) (10 ^ 1800)

unfoldable pub c : ℕ → ℕ
c d = greatest 4 (background_rule d)

-- "the greatest whole k with T^200 >= 50^200 x 10^(2k-1), T in hundredths (for k < 1 the power of ten stands on the other
-- side)"
unfoldable pub TimeRule : ℕ → ℤ → Type 0
TimeRule t (pos ℕ.zero) = 50 ^ 200 ≤ t ^ 200 * 10 ^ 1
TimeRule t (pos (ℕ.suc n)) = 50 ^ 200 * 10 ^ (2 * n + 1) ≤ t ^ 200
TimeRule t (negsuc n) = 50 ^ 200 ≤ t ^ 200 * 10 ^ (2 * n + 3)

-- with i = k + 70, both sides times 10^141. For every accepted time i is below 2 ^ 8
unfoldable pub time_rule : ℕ → ℕ → Bool
time_rule t i = leb (50 ^ 200 * 10 ^ (2 * i)) (t ^ 200 * 10 ^ 141)

unfoldable pub k : ℕ → ℤ
k t = pos (greatest 8 (time_rule t)) -ℤ pos 70
