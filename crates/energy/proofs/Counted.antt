-- u by the start of its stretch: as many more as of the next three thresholds are not missed; and when one is. Assumes nothing.
use mathlib.Core.Path.{◌≡◌, sym, ap}
use mathlib.Core.Bool.{Bool, true, false}
use mathlib.Core.List.{List}
use Prim.Native.Nat.{ℕ, zero, suc, ◌+◌, ◌-◌, ◌/◌, ◌%◌, ◌≤◌, ◌<◌}
use native.Mathlib.Nat.{add-zero}
use native.Mathlib.Omega.{arith}
use lib.Dec.{lit≤}
use lib.ListN.{get_or}
use Rattle.energy.specs.Energies.{u, Summed}
use Rattle.energy.specs.Tabled.{Stepped, reach, start_in, missed_by, missed_at, MeanTabled, Summed₃}

pub reach_most : (many : Bool) → reach many ≤ 901
reach_most true = lit≤ tt
reach_most false = lit≤ tt

-- the start of a stretch of means, by where it stands
pub turn_fits : (table : List ℕ) (S i : ℕ) → MeanTabled table → Summed₃ S → i ≡ (S - 1) / 33554432 - 29 → get_or table (150 + i) 0 ≤ 48
turn_fits table S i m h e = rw e (m.fits S h)

-- what the low bits tell of a threshold within 2 ^ 31 of a sum
pub bits-reached : (S H : ℕ) → H ≤ S → S < H + 2147483648 → missed_by S (H % 4294967296) ≡ 0
unfolding missed_by
bits-reached S H a b = omega arith

pub bits_above : (S H : ℕ) → S < H → H ≤ S + 2147483648 → missed_by S (H % 4294967296) ≡ 1
unfolding missed_by
bits_above S H a b = omega arith

module _ {many : Bool} {table : List ℕ} (steps : Stepped many table) (S : ℕ) (h : Summed S) where
  abbrev k : ℕ
  k = start_in many table S

  abbrev bits : ℕ
  bits = missed_at S table (reach many + k) + missed_at S table (reach many + k + 1) + missed_at S table (reach many + k + 2)

  first : missed_at S table (reach many + k) ≡ missed_at S table (reach many + k + 0)
  first = ap (missed_at S table) (sym (add-zero (reach many + k)))

  -- n past the start, n thresholds are passed and the others missed
  told : (n : ℕ) → u S ≡ k + n → u S + bits ≡ k + 3
  told zero e = omega (arith, first, steps.missed S 0 h (omega arith) (omega arith), steps.missed S 1 h (omega arith) (omega arith), steps.missed S 2 h (omega arith) (omega arith))
  told (suc zero) e = omega (arith, first, steps.passed S 0 h (omega arith) (omega arith), steps.missed S 1 h (omega arith) (omega arith), steps.missed S 2 h (omega arith) (omega arith))
  told (suc (suc zero)) e = omega (arith, first, steps.passed S 0 h (omega arith) (omega arith), steps.passed S 1 h (omega arith) (omega arith), steps.missed S 2 h (omega arith) (omega arith))
  told (suc (suc (suc zero))) e = omega (arith, first, steps.passed S 0 h (omega arith) (omega arith), steps.passed S 1 h (omega arith) (omega arith), steps.passed S 2 h (omega arith) (omega arith))
  told (suc (suc (suc (suc n)))) e = absurd (omega (arith, steps.most S h))

  pub counted : (bits ≤ k + 3) × (k + 3 - bits ≡ u S)
  counted =
      let e : u S + bits ≡ k + 3 = told (u S - k) (omega (arith, steps.least S h)) in
      (omega arith, omega arith)
