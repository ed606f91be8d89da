-- Every pencil check of the table holds, by computation; a lift list is computed by gains, which is proved to be the list by
-- ratings. Assumes nothing.
use mathlib.Core.Path.{◌≡◌, refl, ◌∙◌}
use lib.Dec.{T}
use lib.IntN.{ℤ, pos}
use mathlib.Core.List.{List}
use Prim.Native.Nat.{ℕ}
use Rattle.laws.specs.Extremes.{greatest, settle}
use Rattle.laws.specs.Lists.{listed}
use Rattle.laws.specs.Sums.{sum_to, sumℤ}
use Rattle.quantity.specs.Quantities.{even_half, half_even, in_range}
use Rattle.energy.specs.Energies.{F, energy_rule, u, level_rule}
use Rattle.energy.specs.Corrections.{c, k, background_rule, time_rule}
use Rattle.curve.specs.Bands.{accepted, limited}
use Rattle.laws.specs.Tests.{all_to, any_to}
use Rattle.curve.specs.Levels.{level_by, total_at}
use Rattle.kinds.specs.declared.kinds.Kind.{Kind}
use Rattle.kinds.specs.declared.kinds.Kind.TheVariants.{A3}
use Rattle.kinds.specs.Kinds.{references_of, reference_of, spectra_c, spectra_ctr, C, Ctr}
use Rattle.kinds.specs.Numbers.{entries_of}
use Rattle.rating.specs.Curve.{deficit, total, within, start_of, shifted, first_from, shifts_of, position_of, rating_of}
use Rattle.rating.specs.Terms.{least_to, greatest_to, weighted, airborne_term, impact_term}
use Rattle.rating.specs.Sheets.{sheet_of, rated_of}
use Rattle.sets.specs.Masks.{choose, masks_in_order, filter}
use Rattle.lift.specs.Reach.{lift_list}
use Rattle.lift.specs.Calls.{in_targets}
use Rattle.sets.specs.Gains.{gains_of, least_of, listed_by, by_gains}
use Rattle.lift.proofs.Quick.{listable, quick_list, quick-is}
use Rattle.products.specs.Covers.{floor, derived_set, cover_of}
use Rattle.pencil.specs.Cases.{All, table, Bands, at, even, dipped, twice_dipped}

-- a list's row, by gains
by-gains : (kind : Kind) (x : Bands) (t : ℤ) (ms : List ℕ) → T (listable kind x t) → quick_list kind x t ≡ ms → lift_list kind (at x) t ≡ ms
by-gains kind x t ms w e = quick-is kind x t w ∙ e

pub checked : All table
unfolding table greatest settle sum_to sumℤ even_half half_even in_range F energy_rule u level_rule c k background_rule time_rule references_of reference_of spectra_c spectra_ctr C Ctr deficit total within start_of shifted first_from shifts_of position_of rating_of least_to greatest_to weighted airborne_term impact_term accepted limited all_to any_to listable quick_list in_targets listed entries_of level_by total_at by_gains listed_by gains_of least_of filter masks_in_order choose sheet_of rated_of floor derived_set cover_of
checked =
    (refl, (refl, (refl, (refl, (refl, (refl, (by-gains A3 even (pos 53) _ tt refl, (refl, (by-gains A3 dipped (pos 52) _ tt refl, (refl, (by-gains A3 twice_dipped (pos 52) _ tt refl, (refl, (refl, (refl, (refl, (refl, (refl, (refl, (refl, (refl, (refl, (refl, (refl, (refl, (refl, (refl, (refl, (refl, (refl, (refl, (refl, (refl, (refl, tt)))))))))))))))))))))))))))))))))
