-- What the rounding of a term means: the nearest whole decibel and, of two that are as near, the even one. There is only one
-- such number; its size does not depend on the sign; and it is what document 01's rule gave, "half going up", but at the ties
-- where that gave an odd number. Assumes nothing.
use mathlib.Core.Path.{◌≡◌, refl, sym, ◌∙◌}
use mathlib.Core.Bool.{Bool, true, false, ◌&&◌, cond}
use Prim.Native.Nat.{ℕ, suc, ◌+◌, ◌*◌, ◌/◌, ◌%◌, ◌≤◌, ◌<◌}
use native.Mathlib.Nat.{le_antisymm}
use native.Mathlib.Omega.{arith}
use borrow.Author.Tests.{leb-true, leb-false, eqb-true, eqb-false}
use lib.Dec.{leb, eqb}
use lib.IntN.{ℤ, pos, negsuc, neg_ℤ, ◌+ℤ◌, ◌-ℤ◌, ◌*ℤ◌}
use lib.Signed.{shr_z, ◌≤ℤ◌}
use Rattle.laws.specs.Parts.{P, N}
use Rattle.laws.proofs.Ints.{ints, plus, minus, opposite, times-P, times-N, apart, eq-made}
use Rattle.laws.proofs.Floor.{IsFloor, floor-is}
use Rattle.laws.proofs.Bits.{even_odd}
use Rattle.quantity.specs.Quantities.{even_half, half_even}

-- ---- the meaning

-- how far z is from 0, by the parts of z that omega reads
abbrev pub size : ℤ → ℕ
size z = P z + N z

-- r is t tenths in whole decibels: 10 r - 5 <= t <= 10 r + 5, and at a tie, where t ends in 5, r is even
pub record IsHalfEven (t r : ℤ) : Type 0 where
  pub low : (pos 10 *ℤ r -ℤ pos 5) ≤ℤ t
  pub high : t ≤ℤ (pos 10 *ℤ r +ℤ pos 5)
  pub even : size t % 10 ≡ 5 → size r % 2 ≡ 0

-- the two bounds by parts, and back
module _ (t r : ℤ) where
  half-even-read : IsHalfEven t r → (10 * P r + N t ≤ P t + 10 * N r + 5) × (P t + 10 * N r ≤ 10 * P r + N t + 5)
  half-even-read h = (
    omega (ints, h.low, minus (pos 10 *ℤ r) (pos 5), times-P 10 r, times-N 10 r),
    omega (ints, h.high, plus (pos 10 *ℤ r) (pos 5), times-P 10 r, times-N 10 r),
  )

  half-even-made : 10 * P r + N t ≤ P t + 10 * N r + 5 → P t + 10 * N r ≤ 10 * P r + N t + 5 → (size t % 10 ≡ 5 → size r % 2 ≡ 0) → IsHalfEven t r
  half-even-made a b e = record {
    low = omega (ints, minus (pos 10 *ℤ r) (pos 5), times-P 10 r, times-N 10 r);
    high = omega (ints, plus (pos 10 *ℤ r) (pos 5), times-P 10 r, times-N 10 r);
    even = e;
  }

-- ---- the definition has it

-- the same of a size of n tenths, m its whole decibels; at a tie m is the even one of the whole part and the next
pub record IsEvenHalf (n m : ℕ) : Type 0 where
  pub low : 10 * m ≤ n + 5
  pub high : n ≤ 10 * m + 5
  pub tie : n % 10 ≡ 5 → m ≡ n / 10 + n / 10 % 2

pub even-half-is : (n : ℕ) → IsEvenHalf n (even_half n)
unfolding even_half
even-half-is n = go (leb (n % 10) 4) (leb 6 (n % 10)) refl refl
  where
    go : (down up : Bool) → leb (n % 10) 4 ≡ down → leb 6 (n % 10) ≡ up
        → IsEvenHalf n (cond down (n / 10) (cond up (suc (n / 10)) (n / 10 + n / 10 % 2)))
    go true up d u =
        let h : n % 10 ≤ 4 = leb-true (n % 10) 4 d in
        record { low = omega arith; high = omega arith; tie = λ e. absurd (omega arith) }
    go false true d u =
        let h : 6 ≤ n % 10 = leb-true 6 (n % 10) u in
        record { low = omega arith; high = omega arith; tie = λ e. absurd (omega arith) }
    go false false d u =
        let h : 4 < n % 10 = leb-false (n % 10) 4 d in
        let k : n % 10 < 6 = leb-false 6 (n % 10) u in
        record { low = omega arith; high = omega arith; tie = λ e. refl }

pub even-half-unique : (n m : ℕ) → IsEvenHalf n m → m ≡ even_half n
even-half-unique n m h = go (eqb (n % 10) 5) refl
  where
    d : IsEvenHalf n (even_half n)
    d = even-half-is n

    go : (tied : Bool) → eqb (n % 10) 5 ≡ tied → m ≡ even_half n
    go true e = h.tie (eqb-true (n % 10) 5 e) ∙ sym (d.tie (eqb-true (n % 10) 5 e))
    go false e = omega (arith, h.low, h.high, d.low, d.high, eqb-false (n % 10) 5 e)

pub half-even-is : (t : ℤ) → IsHalfEven t (half_even t)
unfolding half_even
half-even-is (pos n) =
    let h : IsEvenHalf n (even_half n) = even-half-is n in
    half-even-made (pos n) (pos (even_half n)) (omega (arith, h.low)) (omega (arith, h.high)) (λ e. omega (arith, h.tie (omega arith)))
half-even-is (negsuc n) =
    let h : IsEvenHalf (suc n) (even_half (suc n)) = even-half-is (suc n) in
    let r : ℤ = neg_ℤ (pos (even_half (suc n))) in
    half-even-made (negsuc n) r (omega (arith, h.low, opposite (pos (even_half (suc n))))) (omega (arith, h.high, opposite (pos (even_half (suc n)))))
    (λ e. omega (arith, h.tie (omega arith), opposite (pos (even_half (suc n)))))

pub half-even-near : (t : ℤ) → (10 * P (half_even t) + N t ≤ P t + 10 * N (half_even t) + 5) × (P t + 10 * N (half_even t) ≤ 10 * P (half_even t) + N t + 5)
half-even-near t = half-even-read t (half_even t) (half-even-is t)

-- ---- there is no other

-- of two such numbers neither is above the other: they would be one apart at a tie, and both even
one_way : (t q r : ℤ) → IsHalfEven t q → IsHalfEven t r → P q + N r ≤ P r + N q
one_way t q r a b = go (leb (P q + N r) (P r + N q)) refl
  where
    go : (le : Bool) → leb (P q + N r) (P r + N q) ≡ le → P q + N r ≤ P r + N q
    go true e = leb-true (P q + N r) (P r + N q) e
    go false e =
        let above : P r + N q < P q + N r = leb-false (P q + N r) (P r + N q) e in
        let tie : size t % 10 ≡ 5 = omega (arith, half-even-read t q a, half-even-read t r b, apart t) in
        even_odd (size q / 2 + size r / 2) (P r + N q) _ (omega (arith, half-even-read t q a, half-even-read t r b, a.even tie, b.even tie))

pub half-even-unique : (t r : ℤ) → IsHalfEven t r → r ≡ half_even t
half-even-unique t r h =
    let d : IsHalfEven t (half_even t) = half-even-is t in
    eq-made (le_antisymm (one_way t r (half_even t) h d) (one_way t (half_even t) r d h))

-- ---- "with the sign put back"

pub half-even-signed : (t : ℤ) → half_even (neg_ℤ t) ≡ neg_ℤ (half_even t)
half-even-signed t =
    let h : IsHalfEven t (half_even t) = half-even-is t in
    sym (half-even-unique (neg_ℤ t) (neg_ℤ (half_even t))
    (half-even-made (neg_ℤ t) (neg_ℤ (half_even t))
    (omega (arith, half-even-near t, opposite t, opposite (half_even t)))
    (omega (arith, half-even-near t, opposite t, opposite (half_even t)))
    (λ e. omega (arith, h.even (omega (arith, opposite t)), opposite (half_even t)))))

-- ---- the rule before

-- "half going up", document 01: the whole part of (t + 5) / 10, taken downward
abbrev pub half_up : ℤ → ℤ
half_up t = shr_z (t +ℤ pos 5) 10

-- a tie at which that gives an odd number
abbrev pub odd_tie : ℤ → Bool
odd_tie t = eqb (size t % 10) 5 && eqb (size (half_up t) % 2) 1

-- there, and there alone, the rule now differs, and gives one less
pub half-even-or-up : (t : ℤ) → half_even t ≡ cond (odd_tie t) (half_up t -ℤ pos 1) (half_up t)
half-even-or-up t = sym (half-even-unique t _ (go (eqb (size t % 10) 5) (eqb (size up % 2) 1) refl refl))
  where
    up : ℤ
    up = half_up t

    is_up : (10 * P up + N t ≤ P t + 10 * N up + 5) × (P t + 10 * N up < 10 * P up + N t + 5)
    is_up =
        let f : IsFloor 10 (t +ℤ pos 5) up = floor-is 10 (omega arith) (t +ℤ pos 5) in
        (omega (arith, f.low, plus t (pos 5)), omega (arith, f.high, plus t (pos 5)))

    go : (tie odd : Bool) → eqb (size t % 10) 5 ≡ tie → eqb (size up % 2) 1 ≡ odd → IsHalfEven t (cond (tie && odd) (up -ℤ pos 1) up)
    go true true e o =
        half-even-made t (up -ℤ pos 1)
        (omega (arith, is_up, minus up (pos 1)))
        (omega (arith, is_up, minus up (pos 1), eqb-true (size t % 10) 5 e, apart t))
        (λ s. omega (arith, eqb-true (size up % 2) 1 o, minus up (pos 1), apart up, apart (up -ℤ pos 1)))
    go true false e o = half-even-made t up (omega (arith, is_up)) (omega (arith, is_up)) (λ s. even (size up) o)
      where
        even : (m : ℕ) → eqb (m % 2) 1 ≡ false → m % 2 ≡ 0
        even m q = omega (arith, eqb-false (m % 2) 1 q)
    go false odd e o = half-even-made t up (omega (arith, is_up)) (omega (arith, is_up)) (λ s. absurd (eqb-false (size t % 10) 5 e s))

-- ---- counted from -1000 dB

-- 1000 less is as even
lowered : (n : ℕ) → n % 2 ≡ 0 → size (pos n -ℤ pos 1000) % 2 ≡ 0
lowered n h = go (leb (size r % 2) 0) refl
  where
    r : ℤ
    r = pos n -ℤ pos 1000

    go : (le : Bool) → leb (size r % 2) 0 ≡ le → size r % 2 ≡ 0
    go true l = omega (arith, leb-true (size r % 2) 0 l)
    go false l = even_odd (N r + n / 2) (size r / 2 + 500) _ (omega (arith, leb-false (size r % 2) 0 l, minus (pos n) (pos 1000)))

-- so that what rounds the count rounds the term
pub half-even-counted : (t : ℤ) (n : ℕ) → n + N t ≡ 10000 + P t → pos (even_half n) -ℤ pos 1000 ≡ half_even t
half-even-counted t n e =
    let h : IsEvenHalf n (even_half n) = even-half-is n in
    let r : ℤ = pos (even_half n) -ℤ pos 1000 in
    half-even-unique t r
    (half-even-made t r
    (omega (arith, h.low, minus (pos (even_half n)) (pos 1000)))
    (omega (arith, h.high, minus (pos (even_half n)) (pos 1000)))
    (λ s. lowered (even_half n) (omega (arith, h.tie (omega (arith, apart t))))))
