-- Document 01, "Sums of energies": F, the steps u and v, and the mean of three.

-- "F(d), for d from 0 to 900, is the greatest whole n with n^100 x 10^d <= 10^900; above 900 it is 0."
unfoldable pub use Rattle.energy.specs.Energies.{energy_rule, F}
-- "u the number of j >= 1 with H(j) <= S"
unfoldable pub use Rattle.energy.specs.Energies.{AtLeast, level_rule, u}
-- "Mean of three x .. The mean is m + v."
unfoldable pub use Rattle.energy.specs.Means.{MeanRule, mean_rule, v}
pub use Rattle.means.specs.Means.{least_of₃, energies_of₃}
unfoldable pub use Rattle.means.specs.Means.{mean_of₃}
