-- From units to what is taken: a float of 256 or more is at least 2560 units at either scale, so out of both ranges, and what
-- the code tests of a smaller one is its range. Assumes nothing.
use mathlib.Core.Path.{◌≡◌, refl, sym, ◌∙◌, ap}
use mathlib.Core.Bool.{Bool, true, false, cond}
use mathlib.Core.Logic.{◌⊎◌, inl, inr, ⊎_elim}
use Prim.Native.Nat.{ℕ, ◌*◌, ◌≤◌, ◌<◌}
use native.Mathlib.Nat.{lt_of_mul-lt-mul_left, mul-le-mul_right}
use native.Mathlib.Omega.{arith}
use borrow.Author.Tests.{le-leb, lt-leb, ltb-false}
use lib.Dec.{ltb}
use lib.IntN.{ℤ, pos, negsuc}
use lib.Ieee.{Float, nan, inf, fin, up, down, is_nan}
use lib.Ieee.Fits.{down_pos}
use Rattle.laws.proofs.Tests.{clash}
use Rattle.laws.specs.Parts.{P, N}
use Rattle.quantity.specs.Quantities.{in_range}
use Rattle.quantity.proofs.Rim.{range-low, range-high}
use Rattle.quantity.specs.declared.refusals.Refusal.TheVariants.{NotFinite, BandRange, TimeRange}
use Rattle.intake.specs.declared.rounding.Whole.{Whole}
use Rattle.intake.specs.declared.rounding.Whole.TheVariants as whole
use Rattle.intake.specs.Nearest.{nearest, whole_of}
use Rattle.intake.specs.Taken.{ranged, float_taken}
use Rattle.intake.specs.Times.{in_time, timed, time_of}
use Rattle.intake.proofs.Nearest.{Near, near}
use Rattle.std.specs.Prelude.{Result, Err}
use Rattle.quantity.specs.declared.quantities.Hundredths.{Hundredths}
use Rattle.quantity.specs.declared.refusals.Refusal.{Refusal}
use Rattle.intake.specs.declared.singles.Taken.{Taken}

-- ---- far from 0

far-out : (s : Bool) (n d : ℕ) (t : ℤ) → 0 < d → Near s n d t → 2560 * d ≤ n → (2559 < P t) ⊎ (2559 < N t)
far-out false n d t p f h =
    let g : d * 2559 < d * P t = omega (arith, f.high) in
    inl (lt_of_mul-lt-mul_left d g)
far-out true n d t p f h =
    let g : d * 2559 < d * N t = omega (arith, f.low) in
    inr (lt_of_mul-lt-mul_left d g)

beyond : (scale : ℕ) (s : Bool) (m : ℕ) (e : ℤ) → 10 ≤ scale → 256 * down e ≤ m * up e
    → (2559 < P (nearest scale s m e)) ⊎ (2559 < N (nearest scale s m e))
beyond scale s m e h g =
    far-out s (scale * (m * up e)) (down e) (nearest scale s m e) (down_pos e) (near s (scale * (m * up e)) (down e) (down_pos e))
    (omega (arith, mul-le-mul_right (m * up e) h))

-- ---- a time's range

time-high : (t : ℤ) → 2000 < P t → in_time t ≡ false
unfolding in_time
time-high (pos n) h = rw (le-leb 10 n (omega arith), lt-leb n 2000 h)
time-high (negsuc n) h = absurd (omega arith)

time-below : (t : ℤ) → 0 < N t → in_time t ≡ false
unfolding in_time
time-below (pos n) h = absurd (omega arith)
time-below (negsuc n) h = refl

-- ---- what is taken, by the units

-- where what is said of a float beyond is what is said of its units, they need not be told apart
by_units : {R : Type 0} (f : Whole → R) (scale : ℕ) (s : Bool) (m : ℕ) (e : ℤ) → 10 ≤ scale
    → ((2559 < P (nearest scale s m e)) ⊎ (2559 < N (nearest scale s m e)) → f whole.Beyond ≡ f (whole.Units (nearest scale s m e)))
    → f (whole_of scale (fin s m e)) ≡ f (whole.Units (nearest scale s m e))
unfolding whole_of
by_units f scale s m e h out = go (ltb (m * up e) (256 * down e)) (λ k. ltb-false (m * up e) (256 * down e) k)
  where
    go : (b : Bool) → (b ≡ false → 256 * down e ≤ m * up e)
        → f (cond b (whole.Units (nearest scale s m e)) whole.Beyond) ≡ f (whole.Units (nearest scale s m e))
    go true g = refl
    go false g = out (beyond scale s m e h (g refl))

abbrev pub taken_by : Bool → Whole → Result Taken Refusal
taken_by limit (whole.Units t) = ranged limit t
taken_by limit whole.Beyond = Err BandRange
taken_by limit whole.NotFinite = Err NotFinite

out_of_range : (limit : Bool) (t : ℤ) → in_range t ≡ false → Err BandRange ≡ ranged limit t
out_of_range limit t k = rw k

taken-by : (limit : Bool) (x : Float) → taken_by limit (whole_of 10 x) ≡ float_taken limit x
unfolding whole_of float_taken
taken-by limit nan = refl
taken-by limit (inf s) = refl
taken-by limit (fin s m e) =
    let t = nearest 10 s m e in
    by_units (taken_by limit) 10 s m e (omega arith)
    (⊎_elim (λ p. out_of_range limit t (sym (range-high t (omega arith)))) (λ p. out_of_range limit t (sym (range-low t (omega arith)))))

abbrev pub time_by : Whole → Result Hundredths Refusal
time_by (whole.Units t) = timed t
time_by whole.Beyond = Err TimeRange
time_by whole.NotFinite = Err NotFinite

out-of-time : (t : ℤ) → in_time t ≡ false → Err TimeRange ≡ timed t
out-of-time t k = rw k

time-by : (x : Float) → time_by (whole_of 100 x) ≡ time_of x
unfolding whole_of time_of
time-by nan = refl
time-by (inf s) = refl
time-by (fin s m e) =
    let t = nearest 100 s m e in
    by_units time_by 100 s m e (omega arith)
    (⊎_elim (λ p. out-of-time t (time-high t (omega arith))) (λ p. out-of-time t (time-below t (omega arith))))

-- ---- what is no number is not finite
pub no_number : (scale : ℕ) (x : Float) → is_nan x ≡ true → whole_of scale x ≡ whole.NotFinite
unfolding whole_of is_nan
no_number scale nan e = refl
no_number scale (inf s) e = refl
no_number scale (fin s m k) e = clash cc

-- ---- what is taken of a float that was read in units

pub taken_read : (limit : Bool) (x : Float) (w : Whole) → w ≡ whole_of 10 x → float_taken limit x ≡ taken_by limit w
taken_read limit x w e = sym (ap (taken_by limit) e ∙ taken-by limit x)

pub time_read : (x : Float) (w : Whole) → w ≡ whole_of 100 x → time_of x ≡ time_by w
time_read x w e = sym (ap time_by e ∙ time-by x)
