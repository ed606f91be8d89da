-- The background correction c by its 90 values, and the reverberation steps by thresholds: each is its rule's; c is the number of
-- j that count, of all j. Assumes nothing.
use mathlib.Core.Path.{◌≡◌, ap, subst}
use mathlib.Core.Bool.{Bool, not}
use Prim.Native.Nat.{ℕ, suc, ◌+◌, ◌*◌, ◌-◌, ◌^◌, ◌≤◌, ◌<◌}
use native.Mathlib.Nat.{pow-le-pow_left, mul-le-mul_left, mul-le-mul_right, le_trans, lt_of_le_of_lt, not-le_of_lt}
use native.Mathlib.Omega.{arith}
use lib.Dec.{T, leb, leb→le, lit<, lit≤, T_not}
use lib.IntN.{pos, ◌-ℤ◌}
use lib.ListN.{get_or}
use Rattle.std.specs.List.Sorted.{IsNonDecreasing}
use Rattle.laws.specs.Extremes.{Greatest, Number, greatest, settle}
use Rattle.laws.proofs.Extremes.{Down, edge, found, found-is, greatest-unique}
use Rattle.laws.proofs.Table.{both, both_left, both_right, every, at}
use Rattle.energy.specs.Energies.{F, energy_rule}
use Rattle.energy.specs.Corrections.{c, background_rule, BackgroundRule, k, time_rule}
use Rattle.energy.proofs.Powers.{ten-up, pass-down}
use Rattle.energy.proofs.Weights.{down-place, number-within}
use Rattle.energy.proofs.Thresholds.{Reached, threshold, rising, meets, misses}
use Rattle.energy.proofs.Lists.{backgrounds, times}

-- ---- c
down-c : (d : ℕ) → Down (background_rule d)
unfolding background_rule
down-c d = down-place (10 ^ 1800) (10 ^ 9 - F d)

-- the rule at an entry: it counts, one more does not, and 16 does not
exact : ℕ → ℕ → Bool
exact i x = both (background_rule (60 + i) x) (both (not (background_rule (60 + i) (suc x))) (not (background_rule (60 + i) (2 ^ 4))))

checked-c : T (every exact 0 backgrounds)
unfolding exact backgrounds background_rule F greatest settle energy_rule
checked-c = tt

-- the entry for 60 + i is the greatest that counts, and 16 does not count
entry-c : (i : ℕ) → i < 90
    → Greatest (λ j. T (background_rule (60 + i) j)) (get_or backgrounds i 0) × (T (background_rule (60 + i) (2 ^ 4)) → ⊥)
unfolding exact backgrounds
entry-c i h =
    let x : ℕ = get_or backgrounds i 0 in
    let a : Bool = background_rule (60 + i) x in
    let b : Bool = background_rule (60 + i) (suc x) in
    let e : Bool = background_rule (60 + i) (2 ^ 4) in
    let t : T (exact i x) = at exact backgrounds checked-c i h in
    let w : T (both (not b) (not e)) = both_right a (both (not b) (not e)) t in (
      edge (background_rule (60 + i)) (down-c (60 + i)) x (both_left a (both (not b) (not e)) t) (T_not b (both_left (not b) (not e) w)),
      T_not e (both_right (not b) (not e) w),
    )

pub c-greatest : (i : ℕ) → i < 90 → Greatest (λ j. T (background_rule (60 + i) j)) (c (60 + i))
unfolding c
c-greatest i h =
    found 4 (background_rule (60 + i)) (down-c (60 + i))
    (down-c (60 + i) 0 (get_or backgrounds i 0) (omega arith) (entry-c i h).0.holds) (entry-c i h).1

pub background-is : (i : ℕ) → i < 90 → get_or backgrounds i 0 ≡ c (60 + i)
background-is i h = greatest-unique (entry-c i h).0 (c-greatest i h)

-- the meaning of c: by any B that is the greatest with its rule, c(d) is the number of j >= 1 with 10^9 - F(d) <= B(j), of
-- all j
pub c-number : (B : ℕ → ℕ) → ((j : ℕ) → Greatest (BackgroundRule j) (B j)) → (d : ℕ) → 60 ≤ d → d < 150
    → Number (λ j. leb (10 ^ 9 - F d) (B j)) (c d)
unfolding BackgroundRule background_rule
c-number B is-B d a b =
    let e : 60 + (d - 60) ≡ d = omega arith in
    number-within (10 ^ 1800) B is-B (10 ^ 9 - F d)
    (subst (λ (n : ℕ). Greatest (λ j. T (background_rule n j)) (c n)) e (c-greatest (d - 60) (omega arith)))

-- ---- k: need i is 50 ^ 200 x 10 ^ (2 i), size t is t ^ 200 x 10 ^ 141
abbrev pub need_k : ℕ → ℕ
need_k i = 50 ^ 200 * 10 ^ (2 * i)

abbrev pub size_k : ℕ → ℕ
size_k t = t ^ 200 * 10 ^ 141

up-k : (a b : ℕ) → a ≤ b → size_k a ≤ size_k b
up-k a b h = mul-le-mul_right (10 ^ 141) (pow-le-pow_left h 200)

pub down-k : (t : ℕ) → Down (time_rule t)
unfolding time_rule
down-k t m n h p = pass-down (need_k m) (need_k n) (size_k t) (mul-le-mul_left (50 ^ 200) (ten-up (omega arith))) p

pub top-k : (t : ℕ) → t ≤ 2000 → T (time_rule t (2 ^ 8)) → ⊥
unfolding time_rule
top-k t h p =
    not-le_of_lt (lt_of_le_of_lt (up-k t 2000 h) (lit< {m = size_k 2000} {n = need_k (2 ^ 8)} tt))
    (leb→le (need_k (2 ^ 8)) (size_k t) p)

checked-k : T (every (threshold need_k size_k) 0 times)
unfolding times
checked-k = tt

pub times-rise : IsNonDecreasing times
unfolding times
times-rise = rising need_k size_k up-k times checked-k (λ i j h. mul-le-mul_left (50 ^ 200) (ten-up (omega arith)))

pub base-k : (t : ℕ) → 10 ≤ t → need_k 0 ≤ size_k t
base-k t h = le_trans (lit≤ {m = need_k 0} {n = size_k 10} tt) (up-k 10 t h)

-- what the table's search gives, less 70, is k
pub time-is : (t r : ℕ) → 10 ≤ t → t ≤ 2000 → Reached times t r → pos r -ℤ pos 70 ≡ k t
unfolding k time_rule times
time-is t r a b reach =
    ap (λ (n : ℕ). pos n -ℤ pos 70)
    (found-is 8 (time_rule t) (down-k t) (top-k t b) r
    (meets need_k size_k up-k times checked-k t r reach (base-k t a))
    (misses need_k size_k up-k times checked-k t r reach
    (lt_of_le_of_lt (up-k t 2000 b) (lit< {m = size_k 2000} {n = need_k 231} tt))))
