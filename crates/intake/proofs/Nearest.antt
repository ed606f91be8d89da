-- What the nearest whole number means, and that it depends on the fraction alone: the two inequalities of a nearest number,
-- multiplied through, hold of any equal fraction, and only one number meets them. Assumes nothing.
use mathlib.Core.Path.{◌≡◌, refl, sym, ◌∙◌, ap, subst}
use mathlib.Core.Bool.{Bool, true, false}
use Prim.Native.Nat.{ℕ, zero, suc, ◌+◌, ◌*◌, ◌-◌, ◌/◌, ◌≤◌, ◌<◌}
use native.Mathlib.Nat.{div-add-mod', mod-lt, mul_comm, mul_assoc, mul-le-mul_right, mul-lt-mul_of_pos_right, mul-pos, add-mul, mul-add}
use native.Mathlib.Omega.{arith}
use lib.IntN.{ℤ, pos, neg_ℤ, ◌+ℤ◌, ◌-ℤ◌, ◌*ℤ◌}
use lib.Signed.{◌≤ℤ◌, ◌<ℤ◌}
use Rattle.laws.specs.Parts.{P, N}
use Rattle.laws.proofs.Ints.{ints, plus, minus, opposite, times-P, times-N}
use Rattle.laws.proofs.Floor.{IsFloor, floor-is, floor-unique}
use Rattle.intake.specs.Nearest.{signed_by, nearest_to, held_of, size_of}

-- ---- the meaning

-- t is the whole number nearest n / d, negative where s, a tie going to the greater: (2 t - 1) d <= 2 n < (2 t + 1) d
pub record IsNearest (s : Bool) (n d : ℕ) (t : ℤ) : Type 0 where
  pub low : (pos d *ℤ ((pos 2 *ℤ t) -ℤ pos 1)) ≤ℤ signed_by s (2 * n)
  pub high : signed_by s (2 * n) <ℤ (pos d *ℤ ((pos 2 *ℤ t) +ℤ pos 1))

-- the same by naturals: `more` and `less` are the two parts of n with its sign, of which one is 0
abbrev pub more : Bool → ℕ → ℕ
more false n = n
more true n = 0

abbrev pub less : Bool → ℕ → ℕ
less false n = 0
less true n = n

pub record Near (s : Bool) (n d : ℕ) (t : ℤ) : Type 0 where
  pub low : 2 * (d * P t) + 2 * less s n ≤ d + 2 * more s n + 2 * (d * N t)
  pub high : d + 2 * more s n + 2 * (d * N t) < 2 * (d * P t) + 2 * less s n + 2 * d

signed_parts : (s : Bool) (n : ℕ) → (P (signed_by s (2 * n)) ≡ 2 * more s n) × (N (signed_by s (2 * n)) ≡ 2 * less s n)
signed_parts false n = (refl, refl)
signed_parts true n = opposite (pos (2 * n))

double : (d x : ℕ) → 2 * d * x ≡ 2 * (d * x)
double d x = mul_assoc 2 d x

-- d and the signed 2 n, by parts
sum-parts : (s : Bool) (n d : ℕ) → P (pos d +ℤ signed_by s (2 * n)) + 2 * less s n ≡ N (pos d +ℤ signed_by s (2 * n)) + (d + 2 * more s n)
sum-parts s n d = omega (arith, plus (pos d) (signed_by s (2 * n)), signed_parts s n)

floor-near : (s : Bool) (n d : ℕ) (t : ℤ) → IsFloor (2 * d) (pos d +ℤ signed_by s (2 * n)) t → Near s n d t
floor-near s n d t f = record {
  low = omega (arith, sum-parts s n d, f.low, double d (P t), double d (N t));
  high = omega (arith, sum-parts s n d, f.high, double d (P t), double d (N t));
}

near-floor : (s : Bool) (n d : ℕ) (t : ℤ) → Near s n d t → IsFloor (2 * d) (pos d +ℤ signed_by s (2 * n)) t
near-floor s n d t f = record {
  low = omega (arith, sum-parts s n d, f.low, double d (P t), double d (N t));
  high = omega (arith, sum-parts s n d, f.high, double d (P t), double d (N t));
}

pub near : (s : Bool) (n d : ℕ) → 0 < d → Near s n d (nearest_to s n d)
unfolding nearest_to
near s n d h = floor-near s n d (nearest_to s n d) (floor-is (2 * d) (omega arith) (pos d +ℤ signed_by s (2 * n)))

pub near-unique : (s : Bool) (n d : ℕ) (t : ℤ) → 0 < d → Near s n d t → t ≡ nearest_to s n d
unfolding nearest_to
near-unique s n d t h f = floor-unique (2 * d) (omega arith) (pos d +ℤ signed_by s (2 * n)) t (near-floor s n d t f)

-- ---- equal fractions round alike

module _ (s : Bool) (n k : ℕ) where
  more-times : more s (n * k) ≡ more s n * k
  more-times = go s
    where
      go : (s : Bool) → more s (n * k) ≡ more s n * k
      go false = refl
      go true = omega arith

  less-times : less s (n * k) ≡ less s n * k
  less-times = go s
    where
      go : (s : Bool) → less s (n * k) ≡ less s n * k
      go false = omega arith
      go true = refl

-- both inequalities times k
times-le : (a b c d e k : ℕ) → 2 * a + 2 * b ≤ c + 2 * d + 2 * e → 2 * (a * k) + 2 * (b * k) ≤ c * k + 2 * (d * k) + 2 * (e * k)
times-le a b c d e k h =
    omega (arith, mul-le-mul_right k h, add-mul (2 * a) (2 * b) k, mul_assoc 2 a k, mul_assoc 2 b k, add-mul (c + 2 * d) (2 * e) k, add-mul c (2 * d) k, mul_assoc 2 d k, mul_assoc 2 e k)

times-lt : (a b c d e k : ℕ) → 0 < k → c + 2 * d + 2 * e < 2 * a + 2 * b + 2 * c → c * k + 2 * (d * k) + 2 * (e * k) < 2 * (a * k) + 2 * (b * k) + 2 * (c * k)
times-lt a b c d e k p h =
    omega (arith, mul-lt-mul_of_pos_right h p, add-mul (2 * a + 2 * b) (2 * c) k, add-mul (2 * a) (2 * b) k, mul_assoc 2 a k, mul_assoc 2 b k, add-mul (c + 2 * d) (2 * e) k, add-mul c (2 * d) k, mul_assoc 2 c k, mul_assoc 2 d k, mul_assoc 2 e k)

swap : (d x k : ℕ) → d * k * x ≡ d * x * k
swap d x k = mul_assoc d k x ∙ ap (λ (y : ℕ). d * y) (mul_comm k x) ∙ sym (mul_assoc d x k)

near_times : (s : Bool) (n d k : ℕ) (t : ℤ) → 0 < k → Near s n d t → Near s (n * k) (d * k) t
near_times s n d k t h f = record {
  low = omega (arith, times-le (d * P t) (less s n) d (more s n) (d * N t) k f.low, swap d (P t) k, swap d (N t) k, more-times s n k, less-times s n k);
  high = omega (arith, times-lt (d * P t) (less s n) d (more s n) (d * N t) k h f.high, swap d (P t) k, swap d (N t) k, more-times s n k, less-times s n k);
}

-- n / d and m / c are one number
pub same-fraction : (s : Bool) (n d m c : ℕ) → 0 < d → 0 < c → n * c ≡ m * d → nearest_to s n d ≡ nearest_to s m c
same-fraction s n d m c p q e =
    let here : Near s (n * c) (d * c) (nearest_to s n d) = near_times s n d c (nearest_to s n d) q (near s n d p) in
    let there : Near s (m * d) (c * d) (nearest_to s m c) = near_times s m c d (nearest_to s m c) p (near s m c q) in
    near-unique s (n * c) (d * c) (nearest_to s n d) (mul-pos p q) here
    ∙ sym (near-unique s (n * c) (d * c) (nearest_to s m c) (mul-pos p q)
    (subst (λ (x : ℕ). Near s x (d * c) (nearest_to s m c)) (sym e)
    (subst (λ (x : ℕ). Near s (m * d) x (nearest_to s m c)) (mul_comm c d) there)))

-- ---- the code's way: the size, and then the sign

around : (x d : ℕ) → 0 < d → (2 * (d * (x / (2 * d))) ≤ x) × (x < 2 * (d * (x / (2 * d))) + 2 * d)
around x d h =
    let q = x / (2 * d) in
    let e : q * (2 * d) ≡ 2 * (d * q) = mul_comm q (2 * d) ∙ mul_assoc 2 d q in
    let p : 0 < 2 * d = omega arith in
    (omega (arith, e, div-add-mod' x (2 * d)), omega (arith, e, div-add-mod' x (2 * d), mod-lt x p))

near-negative : (n d q : ℕ) → 2 * n ≤ d + 2 * (d * q) → d + 2 * (d * q) < 2 * n + 2 * d → Near true n d (neg_ℤ (pos q))
near-negative n d zero h g = record { low = omega arith; high = omega arith }
near-negative n d (suc q) h g = record { low = omega arith; high = omega arith }

pub sized : (s : Bool) (n d : ℕ) → 0 < d → signed_by s (size_of s n d) ≡ nearest_to s n d
unfolding size_of
sized false n d h =
    let a = around (2 * n + d - 0) d h in
    near-unique false n d (pos ((2 * n + d - 0) / (2 * d))) h (record { low = omega arith; high = omega arith })
sized true n d h =
    let a = around (2 * n + d - 1) d h in
    near-unique true n d (neg_ℤ (pos ((2 * n + d - 1) / (2 * d)))) h
    (near-negative n d ((2 * n + d - 1) / (2 * d)) (omega arith) (omega arith))

-- from 2 ^ 16 parts on, and for a float below 256, it is small
pub size_small : (s : Bool) (n d : ℕ) → 65536 ≤ d → d ≤ 2147483648 → n ≤ 1677721600 → size_of s n d < 2147483648
unfolding size_of
size_small s n d h g k =
    let x = 2 * n + d - held_of s in
    omega (arith, around x d (omega arith), mul-le-mul_right (x / (2 * d)) h)

-- ---- the meaning, over ℤ

-- d times twice a number and 1 more or less, by parts
multiple : (d a b x y u v : ℕ) → a + (x + u) ≡ b + (y + v) → d * a + (d * x + d * u) ≡ d * b + (d * y + d * v)
multiple d a b x y u v e =
    sym (mul-add d a (x + u) ∙ ap (λ (z : ℕ). d * a + z) (mul-add d x u))
    ∙ ap (λ (z : ℕ). d * z) e
    ∙ (mul-add d b (y + v) ∙ ap (λ (z : ℕ). d * b + z) (mul-add d y v))

twice : (d x y : ℕ) → x ≡ 2 * y → d * x ≡ 2 * (d * y)
twice d x y e = ap (λ (z : ℕ). d * z) e ∙ sym (mul_assoc d 2 y) ∙ ap (λ (z : ℕ). z * y) (mul_comm d 2) ∙ mul_assoc 2 d y

-- the two ends, (2 t - 1) d and (2 t + 1) d
low_end : ℕ → ℤ → ℤ
low_end d t = pos d *ℤ ((pos 2 *ℤ t) -ℤ pos 1)

high_end : ℕ → ℤ → ℤ
high_end d t = pos d *ℤ ((pos 2 *ℤ t) +ℤ pos 1)

ends : (d : ℕ) (t : ℤ)
    → (P (low_end d t) + 2 * (d * N t) + d ≡ N (low_end d t) + 2 * (d * P t))
    × (P (high_end d t) + 2 * (d * N t) ≡ N (high_end d t) + 2 * (d * P t) + d)
unfolding low_end high_end
ends d t =
    let w = pos 2 *ℤ t in
    let pw = twice d (P w) (P t) (times-P 2 t) in
    let nw = twice d (N w) (N t) (times-N 2 t) in
    let lo = w -ℤ pos 1 in
    let hi = w +ℤ pos 1 in
    let m = multiple d (P lo) (N lo) (N w) (P w) 1 0 (minus w (pos 1)) in
    let q = multiple d (P hi) (N hi) (N w) (P w) 0 1 (plus w (pos 1)) in
    (omega (arith, pw, nw, m, times-P d lo, times-N d lo), omega (arith, pw, nw, q, times-P d hi, times-N d hi))

pub is-nearest : (s : Bool) (n d : ℕ) → 0 < d → IsNearest s n d (nearest_to s n d)
unfolding low_end high_end
is-nearest s n d h =
    let t = nearest_to s n d in
    let f = near s n d h in
    let p = signed_parts s n in
    record { low = omega (ints, p, ends d t, f.low); high = omega (ints, p, ends d t, f.high) }

pub nearest-unique : (s : Bool) (n d : ℕ) (t : ℤ) → 0 < d → IsNearest s n d t → t ≡ nearest_to s n d
unfolding low_end high_end
nearest-unique s n d t h f =
    let p = signed_parts s n in
    near-unique s n d t h (record { low = omega (ints, p, ends d t, f.low); high = omega (ints, p, ends d t, f.high) })
