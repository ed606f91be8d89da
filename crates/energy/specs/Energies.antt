-- Document 01, "Sums of energies": F, H and the number u. Each is its rule; the tables are in the code.
use Rattle.std.specs.Prelude.{Bool, ℕ, ◌+◌, ◌*◌, ◌^◌, ◌≤◌, leb}
use Rattle.laws.specs.Extremes.{greatest}

-- "F(d) .. is the greatest whole n with n^100 x 10^d <= 10^900" (above 900 that is 0)
unfoldable pub energy_rule : ℕ → ℕ → Bool
energy_rule d n = leb (n ^ 100 * 10 ^ d) (10 ^ 900)

unfoldable pub F : ℕ → ℕ
F d = greatest 30 (energy_rule d)

-- "H(j) is the least n with n^200 >= 10^(1799 + 2j)"
unfoldable pub AtLeast : ℕ → ℕ → Type 0
AtLeast j n = 10 ^ (1799 + 2 * j) ≤ n ^ 200

-- "u the number of j >= 1 with H(j) <= S": H(j) <= S says S^200 >= 10^(1799 + 2j). For every sum of sixteen bands it is
-- below 2 ^ 8
unfoldable pub level_rule : ℕ → ℕ → Bool
level_rule S j = leb (10 ^ (1799 + 2 * j)) (S ^ 200)

unfoldable pub u : ℕ → ℕ
u S = greatest 8 (level_rule S)

-- the sum of the energies of one to sixteen bands, the least of them among them
abbrev pub Summed : ℕ → Type 0
Summed S = (1000000000 ≤ S) × (S ≤ 16000000000)
