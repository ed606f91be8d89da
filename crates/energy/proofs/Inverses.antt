-- Division by a power of ten as a product: for a number up to 10 ^ 9, what `inverse_of` gives is exact. By cases of the power.
-- Assumes nothing.
use mathlib.Core.Path.{◌≡◌}
use Prim.Native.Nat.{ℕ, zero, suc, ◌+◌, ◌*◌, ◌/◌, ◌^◌, ◌≤◌, ◌<◌}
use native.Mathlib.Omega.{arith}
use Rattle.energy.specs.Tabled.{inverse_of}

-- the product stays below 2 ^ 64, and its quotient is the number's
pub record Exact (n k : ℕ) : Type 0 where
  pub fits : n * inverse_of k < 18446744073709551616
  pub is : n * inverse_of k / 2 ^ (33 + 3 * k) ≡ n / 10 ^ k

pub exact : (n k : ℕ) → n ≤ 1000000000 → k < 10 → Exact n k
unfolding inverse_of
exact n zero h l = record { fits = omega arith; is = omega arith }
exact n (suc zero) h l = record { fits = omega arith; is = omega arith }
exact n (suc (suc zero)) h l = record { fits = omega arith; is = omega arith }
exact n (suc (suc (suc zero))) h l = record { fits = omega arith; is = omega arith }
exact n (suc (suc (suc (suc zero)))) h l = record { fits = omega arith; is = omega arith }
exact n (suc (suc (suc (suc (suc zero))))) h l = record { fits = omega arith; is = omega arith }
exact n (suc (suc (suc (suc (suc (suc zero)))))) h l = record { fits = omega arith; is = omega arith }
exact n (suc (suc (suc (suc (suc (suc (suc zero))))))) h l = record { fits = omega arith; is = omega arith }
exact n (suc (suc (suc (suc (suc (suc (suc (suc zero)))))))) h l = record { fits = omega arith; is = omega arith }
exact n (suc (suc (suc (suc (suc (suc (suc (suc (suc zero))))))))) h l = record { fits = omega arith; is = omega arith }
exact n (suc (suc (suc (suc (suc (suc (suc (suc (suc (suc k)))))))))) h l = absurd (omega arith)
