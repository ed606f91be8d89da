-- "The greatest n with ..", "the least n with ..", "the number of j >= 1 with ..": what these words of the paper mean, and
-- a search that computes the greatest.
use Rattle.std.specs.Prelude.{Bool, true, false, cond, ◌≡◌, ℕ, zero, suc, ◌+◌, ◌^◌, ◌≤◌}

-- n is the greatest number of which R holds
pub record Greatest (R : ℕ → Type 0) (n : ℕ) : Type 0 where
  pub holds : R n
  pub best : (m : ℕ) → R m → m ≤ n

-- n is the least number of which R holds
pub record Least (R : ℕ → Type 0) (n : ℕ) : Type 0 where
  pub holds : R n
  pub best : (m : ℕ) → R m → n ≤ m

abbrev pub one_if : Bool → ℕ
one_if true = 1
one_if false = 0

-- how many j from 1 to b pass the test
unfoldable pub count_to : (ℕ → Bool) → ℕ → ℕ
count_to ok zero = 0
count_to ok (suc b) = count_to ok b + one_if (ok (suc b))

-- the number of j >= 1 that pass the test, however large, is n: counted far enough, it is n from there on
pub record Number (ok : ℕ → Bool) (n : ℕ) : Type 0 where
  pub enough : ℕ
  pub count : (b : ℕ) → enough ≤ b → count_to ok b ≡ n

-- the greatest n below 2 ^ bits that passes, where passing is kept by all smaller numbers: bit by bit, the highest first
unfoldable pub settle : (ℕ → Bool) → ℕ → ℕ → ℕ
settle ok zero n = n
settle ok (suc k) n = settle ok k (cond (ok (n + 2 ^ k)) (n + 2 ^ k) n)

unfoldable pub greatest : ℕ → (ℕ → Bool) → ℕ
greatest bits ok = settle ok bits 0
