-- The starts: u at the start of a stretch is at most three below u within it, and of the next three thresholds the low 32 bits tell
-- whether a sum of that stretch has reached them, since they lie within 2 ^ 31 of it. Computed tests over the 94 stretches.
-- Assumes nothing.
use mathlib.Core.Path.{◌≡◌, refl}
use mathlib.Core.Bool.{Bool, cond}
use mathlib.Core.List.{List, [], ◌∷◌}
use Prim.Native.Nat.{ℕ, zero, suc, ◌+◌, ◌*◌, ◌-◌, ◌/◌, ◌%◌, ◌≤◌, ◌<◌}
use native.Mathlib.Nat.{le_trans}
use native.Mathlib.Decide.{dec_le, dec_lt}
use native.Mathlib.Omega.{arith}
use borrow.Author.Tests.{lt-ltb, le-ltb}
use lib.Dec.{T, leb, ltb, leb→le}
use lib.ListN.{get_or}
use Rattle.laws.proofs.Table.{every, at}
use Rattle.energy.specs.Energies.{u, Summed}
use Rattle.energy.specs.Tabled.{stretch_of, missed_by}
use Rattle.energy.proofs.Lists.{levels, starts}
use Rattle.energy.proofs.Thresholds.{levels-are}
use Rattle.energy.proofs.Counted.{bits-reached, bits_above}

-- where stretch i begins, and where the next one does
begin : ℕ → ℕ
begin i = cond (ltb i 50) ((i + 14) * 67108864) ((i - 34) * 268435456)

next : ℕ → ℕ
next i = cond (ltb i 50) ((i + 15) * 67108864) ((i - 33) * 268435456)

-- a sum lies in its stretch
record Lies (S : ℕ) : Type 0 where
  among : stretch_of S < 94
  behind : begin (stretch_of S) ≤ S
  before : S < next (stretch_of S)

pub stretch-low : (S : ℕ) → S < 4294967296 → stretch_of S ≡ S / 67108864 - 14
unfolding stretch_of
stretch-low S l = rw (lt-ltb S 4294967296 l) refl

pub stretch-high : (S : ℕ) → 4294967296 ≤ S → stretch_of S ≡ S / 268435456 + 34
unfolding stretch_of
stretch-high S l = rw (le-ltb S 4294967296 l) refl

bounds-low : (i : ℕ) → i < 50 → (begin i ≡ (i + 14) * 67108864) × (next i ≡ (i + 15) * 67108864)
unfolding begin next
bounds-low i l = (rw (lt-ltb i 50 l) refl, rw (lt-ltb i 50 l) refl)

bounds-high : (i : ℕ) → 50 ≤ i → (begin i ≡ (i - 34) * 268435456) × (next i ≡ (i - 33) * 268435456)
unfolding begin next
bounds-high i l = (rw (le-ltb i 50 l) refl, rw (le-ltb i 50 l) refl)

lies : (S : ℕ) → Summed S → Lies S
lies S h = go (dec_lt S 4294967296)
  where
    go : Dec (S < 4294967296) → Lies S
    go (yes l) =
        let e : stretch_of S ≡ S / 67108864 - 14 = stretch-low S l in
        let b = bounds-low (stretch_of S) (omega (arith, h.0)) in
        record { among = omega (arith, h.0); behind = omega (arith, h.0, b.0); before = omega (arith, h.0, b.1) }
    go (no l) =
        let e : stretch_of S ≡ S / 268435456 + 34 = stretch-high S (omega arith) in
        let b = bounds-high (stretch_of S) (omega arith) in
        record { among = omega (arith, h.1); behind = omega (arith, h.1, b.0); before = omega (arith, h.1, b.1) }

-- the tests of stretch i with start k
fits : ℕ → ℕ → Bool
fits i k = leb k 120

low : ℕ → ℕ → Bool
low i k = leb (get_or (0 ∷ levels) k 0) (begin i)

high : ℕ → ℕ → Bool
high i k = leb (next i) (get_or levels (k + 3) 0 + 1000000000000 * (k / 120))

three : List ℕ
three = 0 ∷ 0 ∷ 0 ∷ []

ahead : ℕ → ℕ → ℕ → ℕ → Bool
ahead i k t x = leb (get_or levels (k + t) 0) (begin i + 2147483648)

back : ℕ → ℕ → ℕ → ℕ → Bool
back i k t x = leb (next i) (get_or levels (k + t) 0 + 2147483648)

checked-fits : T (every fits 0 starts)
unfolding fits starts
checked-fits = tt

checked-low : T (every low 0 starts)
unfolding low begin starts levels
checked-low = tt

checked-high : T (every high 0 starts)
unfolding high next starts levels
checked-high = tt

checked-ahead : T (every (λ i k. every (ahead i k) 0 three) 0 starts)
unfolding ahead three begin starts levels
checked-ahead = tt

checked-back : T (every (λ i k. every (back i k) 0 three) 0 starts)
unfolding back three next starts levels
checked-back = tt

-- the start of a sum's stretch
abbrev pub start_of : ℕ → ℕ
start_of S = get_or starts (stretch_of S) 0

pub stretch_among : (S : ℕ) → Summed S → stretch_of S < 94
stretch_among S h = (lies S h).among

pub start_fits : (S : ℕ) → Summed S → start_of S ≤ 120
unfolding fits starts
start_fits S h = leb→le (start_of S) 120 (at fits starts checked-fits (stretch_of S) (lies S h).among)

pub start-least : (S : ℕ) → Summed S → start_of S ≤ u S
unfolding low starts
start-least S h = go (start_of S) (start_fits S h) (at low starts checked-low (stretch_of S) (lies S h).among)
  where
    go : (k : ℕ) → k ≤ 120 → T (low (stretch_of S) k) → k ≤ u S
    go zero g t = omega arith
    go (suc k) g t =
        levels-are.reached S k h (omega arith) (le_trans (leb→le (get_or levels k 0) (begin (stretch_of S)) t) (lies S h).behind)

pub start-most : (S : ℕ) → Summed S → u S ≤ start_of S + 3
unfolding high starts
start-most S h = go (dec_lt (start_of S) 120)
  where
    over : next (stretch_of S) ≤ get_or levels (start_of S + 3) 0 + 1000000000000 * (start_of S / 120)
    over = leb→le (next (stretch_of S)) (get_or levels (start_of S + 3) 0 + 1000000000000 * (start_of S / 120))
        (at high starts checked-high (stretch_of S) (lies S h).among)

    go : Dec (start_of S < 120) → u S ≤ start_of S + 3
    go (yes l) = levels-are.missed S (start_of S + 3) h (omega arith) (omega (arith, over, (lies S h).before))
    go (no l) = omega (arith, levels-are.most S h)

module _ (S : ℕ) (h : Summed S) (t : ℕ) (l : t < 3) where
  abbrev H : ℕ
  H = get_or levels (start_of S + t) 0

  within : start_of S + t < 123
  within = omega (arith, start_fits S h)

  above : H ≤ S + 2147483648
  unfolding ahead three starts
  above = omega (
    arith,
    leb→le H (begin (stretch_of S) + 2147483648)
        (at (ahead (stretch_of S) (start_of S)) three (at (λ i k. every (ahead i k) 0 three) starts checked-ahead (stretch_of S) (lies S h).among) t l),
    (lies S h).behind,
  )

  below : S < H + 2147483648
  unfolding back three starts
  below = omega (
    arith,
    leb→le (next (stretch_of S)) (H + 2147483648)
        (at (back (stretch_of S) (start_of S)) three (at (λ i k. every (back i k) 0 three) starts checked-back (stretch_of S) (lies S h).among) t l),
    (lies S h).before,
  )

  pub low-passed : start_of S + t < u S → missed_by S (H % 4294967296) ≡ 0
  low-passed p = go (dec_le H S)
    where
      go : Dec (H ≤ S) → missed_by S (H % 4294967296) ≡ 0
      go (yes q) = bits-reached S H q below
      go (no q) = absurd (omega (arith, levels-are.missed S (start_of S + t) h within (omega arith)))

  pub low-missed : u S ≤ start_of S + t → missed_by S (H % 4294967296) ≡ 1
  low-missed p = go (dec_le H S)
    where
      go : Dec (H ≤ S) → missed_by S (H % 4294967296) ≡ 1
      go (yes q) = absurd (omega (arith, levels-are.reached S (start_of S + t) h within q))
      go (no q) = bits_above S H (omega arith) above
