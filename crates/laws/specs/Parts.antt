-- An integer by two naturals: z is P z less N z, and one of the two is 0.
-- The prover's arithmetic reads naturals only; through P and N it reads integers.
use Rattle.std.specs.Prelude.{cond, ℕ, suc, ℤ, pos, negsuc}
use Rattle.std.specs.Int.Signed.{le_z}

-- what z is above 0: the greater of z and 0, as a natural
abbrev pub P : ℤ → ℕ
P (pos n) = n
P (negsuc n) = 0

-- what z is below 0
abbrev pub N : ℤ → ℕ
N (pos n) = 0
N (negsuc n) = suc n

-- the lesser and the greater of two
abbrev pub lesser : ℤ → ℤ → ℤ
lesser a b = cond (le_z a b) a b

abbrev pub greater : ℤ → ℤ → ℤ
greater a b = cond (le_z a b) b a
