-- Tests of the numbers below n, and of the bits of a number.
use Rattle.std.specs.Prelude.{Bool, true, false, ◌&&◌, ◌||◌, ℕ, zero, suc, ◌/◌, ◌%◌, ◌^◌, eqb}

-- every i below n passes
unfoldable pub all_to : (ℕ → Bool) → ℕ → Bool
all_to ok zero = true
all_to ok (suc n) = all_to ok n && ok n

-- some i below n passes
unfoldable pub any_to : (ℕ → Bool) → ℕ → Bool
any_to ok zero = false
any_to ok (suc n) = any_to ok n || ok n

-- bit i of a number
abbrev pub bit : ℕ → ℕ → Bool
bit m i = eqb (m / 2 ^ i % 2) 1
