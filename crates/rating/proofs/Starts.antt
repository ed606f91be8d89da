-- Where the curve method starts, in document 01's words: at the mean of the bands rounded to a whole dB, and 5 dB from there.
-- What rounding up and down is is said over ℤ, and no other number is that. Assumes nothing.
use mathlib.Core.Path.{◌≡◌, sym, ap}
use mathlib.Core.Bool.{Bool, true, false}
use Prim.Native.Nat.{ℕ, ◌+◌, ◌*◌, ◌<◌}
use native.Mathlib.Omega.{arith}
use lib.IntN.{ℤ, pos, ◌+ℤ◌, ◌-ℤ◌, ◌*ℤ◌}
use lib.Signed.{◌≤ℤ◌, ◌<ℤ◌}
use Rattle.laws.specs.Parts.{P, N}
use Rattle.laws.specs.Sums.{sumℤ}
use Rattle.laws.proofs.Ints.{plus, minus, times-P, times-N, le-made, lt-made, le_read, lt-read}
use Rattle.laws.proofs.Floor.{floor-is, floor-unique, ceiling-is, ceiling-unique}
use Rattle.curve.proofs.Searched.{count-some}
use Rattle.kinds.specs.declared.kinds.Kind.{Kind}
use Rattle.kinds.specs.Kinds.{airborne, bands_of}
use Rattle.kinds.proofs.Facts.{count-of}
use Rattle.rating.specs.Curve.{floor_of, ceiling_of, start_by, start_of}

-- c is the least whole number that is not below z / m
pub record RoundedUp (m : ℕ) (z c : ℤ) : Type 0 where
  pub reached : z ≤ℤ (pos m *ℤ c)
  pub least : (pos m *ℤ (c -ℤ pos 1)) <ℤ z

-- f is the greatest whole number that is not above z / m
pub record RoundedDown (m : ℕ) (z f : ℤ) : Type 0 where
  pub reached : (pos m *ℤ f) ≤ℤ z
  pub greatest : z <ℤ (pos m *ℤ (f +ℤ pos 1))

module _ (m : ℕ) (some : 0 < m) (z : ℤ) where
  one_less : (c : ℤ) → m * P (c -ℤ pos 1) + (m * N c + m) ≡ m * N (c -ℤ pos 1) + m * P c
  one_less c = let e : m * (P (c -ℤ pos 1) + (N c + 1)) ≡ m * (N (c -ℤ pos 1) + (P c + 0)) = ap (λ (n : ℕ). m * n) (minus c (pos 1)) in omega arith

  one_more : (f : ℤ) → m * P (f +ℤ pos 1) + m * N f ≡ m * N (f +ℤ pos 1) + (m * P f + m)
  one_more f = let e : m * (P (f +ℤ pos 1) + (N f + 0)) ≡ m * (N (f +ℤ pos 1) + (P f + 1)) = ap (λ (n : ℕ). m * n) (plus f (pos 1)) in omega arith

  up_is : RoundedUp m z (ceiling_of z m)
  up_is =
      let c : ℤ = ceiling_of z m in
      let w = ceiling-is m some z in
      record {
        reached = le-made (omega (arith, w.low, times-P m c, times-N m c));
        least = lt-made (omega (arith, w.high, one_less c, times-P m (c -ℤ pos 1), times-N m (c -ℤ pos 1)));
      }

  up-only : (c : ℤ) → RoundedUp m z c → c ≡ ceiling_of z m
  up-only c w = ceiling-unique m some z c (record {
    low = omega (arith, le_read w.reached, times-P m c, times-N m c);
    high = omega (arith, lt-read w.least, one_less c, times-P m (c -ℤ pos 1), times-N m (c -ℤ pos 1));
  })

  down_is : RoundedDown m z (floor_of z m)
  down_is =
      let f : ℤ = floor_of z m in
      let w = floor-is m some z in
      record {
        reached = le-made (omega (arith, w.low, times-P m f, times-N m f));
        greatest = lt-made (omega (arith, w.high, one_more f, times-P m (f +ℤ pos 1), times-N m (f +ℤ pos 1)));
      }

  down-only : (f : ℤ) → RoundedDown m z f → f ≡ floor_of z m
  down-only f w = floor-unique m some z f (record {
    low = omega (arith, le_read w.reached, times-P m f, times-N m f);
    high = omega (arith, lt-read w.greatest, one_more f, times-P m (f +ℤ pos 1), times-N m (f +ℤ pos 1));
  })

-- up for airborne, down for impact
abbrev pub RoundedBy : Bool → ℕ → ℤ → ℤ → Type 0
RoundedBy true = RoundedUp
RoundedBy false = RoundedDown

-- "plus 5", "minus 5"
abbrev pub five_from : Bool → ℤ → ℤ
five_from true r = r +ℤ pos 5
five_from false r = r -ℤ pos 5

-- r is "the mean of the bands in dB rounded up to a whole dB", for impact "rounded down": ten times the number of bands times
-- the mean in dB is the sum of the bands in tenths
abbrev pub MeanRounded : Kind → (ℕ → ℤ) → ℤ → Type 0
MeanRounded k x r = RoundedBy (airborne k) (10 * bands_of k) (sumℤ x (bands_of k)) r

module _ (m : ℕ) (some : 0 < m) (z : ℤ) where
  start-by : (sign : Bool) (r : ℤ) → RoundedBy sign m z r → start_by sign z m ≡ five_from sign r
  start-by true r w = ap (λ (c : ℤ). c +ℤ pos 5) (sym (up-only m some z r w))
  start-by false r w = ap (λ (f : ℤ). f -ℤ pos 5) (sym (down-only m some z r w))

  rounds : (sign : Bool) → (r : ℤ) × RoundedBy sign m z r
  rounds true = (ceiling_of z m, up_is m some z)
  rounds false = (floor_of z m, down_is m some z)

module _ (k : Kind) (x : ℕ → ℤ) where
  tens : 0 < 10 * bands_of k
  tens = omega (arith, count-some (count-of k))

  -- "airborne starts at the mean of the bands in dB rounded up to a whole dB, plus 5 ..; impact starts at the mean rounded
  -- down, minus 5": whatever number is the mean so rounded
  pub start-from-mean : (r : ℤ) → MeanRounded k x r → start_of k x ≡ five_from (airborne k) r
  unfolding start_of
  start-from-mean = start-by (10 * bands_of k) tens (sumℤ x (bands_of k)) (airborne k)

  -- and some number is
  pub mean-rounds : (r : ℤ) × MeanRounded k x r
  mean-rounds = rounds (10 * bands_of k) tens (sumℤ x (bands_of k)) (airborne k)
