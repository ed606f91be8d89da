-- An answer of the call counts no more sets than thirds have. Assumes nothing.
use mathlib.Core.Path.{◌≡◌}
use mathlib.Core.Bool.{Bool, true, false}
use Prim.Native.Nat.{ℕ, ◌≤◌}
use native.Mathlib.Omega.{arith}
use lib.Dec.{leb}
use lib.IntN.{ℤ}
use lib.ListN.{length}
use Rattle.laws.proofs.Tests.{clash}
use Rattle.quantity.specs.Quantities.{band_of}
use Rattle.quantity.specs.declared.quantities.BandSet.{BandSet}
use Rattle.quantity.specs.declared.refusals.Refusal.{Refusal}
use Rattle.quantity.specs.declared.refusals.Refusal.TheVariants.{TargetNotBetter, TargetRange, OutputTooSmall}
use Rattle.kinds.specs.declared.kinds.Kind.{Kind}
use Rattle.kinds.specs.declared.kinds.Kind.TheVariants.{A3, A1, I3, I1}
use Rattle.kinds.specs.Kinds.{airborne}
use Rattle.rating.specs.Sheets.{asked, rated_of}
use Rattle.lift.specs.Reach.{better_by, lift_list}
use Rattle.lift.specs.Calls.{in_targets, places_of, count_of, answer_by, answer_of}
use Rattle.lift.proofs.Listing.{list-room}
use Rattle.std.specs.Prelude.{Result, Ok, Err}
use Rattle.rating.specs.declared.sheets.Sheet.{Sheet}

places-small : (k : Kind) → places_of k ≤ 696
places-small A3 = omega arith
places-small A1 = omega arith
places-small I3 = omega arith
places-small I1 = omega arith

pub count_small : (k : Kind) (s : BandSet) (t : ℤ) (room n : ℕ) → answer_of k s t room ≡ Ok n → n ≤ 696
unfolding answer_of count_of
count_small k s t room n e = by (rated_of k s) e
  where
    tests : (a b x : Bool) → asked a (asked b (asked x (Ok (length (lift_list k (band_of s) t))) OutputTooSmall) TargetNotBetter) TargetRange ≡ Ok n
        → n ≤ 696
    tests false b x h = clash cc
    tests true false x h = clash cc
    tests true true false h = clash cc
    tests true true true h =
        let q : n ≡ length (lift_list k (band_of s) t) = cc in
        omega (arith, list-room k (band_of s) t 696 (places-small k))

    by : (r : Result Sheet Refusal) → answer_by r k s t room ≡ Ok n → n ≤ 696
    by (Err q) h = clash cc
    by (Ok sheet) h = tests (in_targets t) (better_by (airborne k) t sheet.rating.0) (leb (places_of k) room) h
