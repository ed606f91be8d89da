-- Document 01, "Sums of energies": the mean of three values in tenths.
use Rattle.std.specs.Prelude.{ℕ, ◌+◌, ℤ, pos, ◌+ℤ◌, ◌-ℤ◌}
use Rattle.laws.specs.Parts.{P, lesser}
use Rattle.energy.specs.Energies.{F}
use Rattle.energy.specs.Means.{v}

-- "m the least"
abbrev pub least_of₃ : ℤ → ℤ → ℤ → ℤ
least_of₃ x y z = lesser x (lesser y z)

-- "S the sum of F(x - m)"
abbrev pub energies_of₃ : ℤ → ℤ → ℤ → ℤ → ℕ
energies_of₃ m x y z = F (P (x -ℤ m)) + F (P (y -ℤ m)) + F (P (z -ℤ m))

-- "The mean is m + v."
unfoldable pub mean_of₃ : ℤ → ℤ → ℤ → ℤ
mean_of₃ x y z = least_of₃ x y z +ℤ pos (v (energies_of₃ (least_of₃ x y z) x y z))
