-- Sums by index: over naturals and over integers.
use Rattle.std.specs.Prelude.{ℕ, zero, suc, ◌+◌, ℤ, pos, ◌+ℤ◌}

-- f 0 + f 1 + .. + f (n - 1)
unfoldable pub sum_to : (ℕ → ℕ) → ℕ → ℕ
sum_to f zero = 0
sum_to f (suc n) = sum_to f n + f n

unfoldable pub sumℤ : (ℕ → ℤ) → ℕ → ℤ
sumℤ f zero = pos 0
sumℤ f (suc n) = sumℤ f n +ℤ f n
