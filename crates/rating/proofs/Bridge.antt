-- From the naturals of the code to the definitions over ℤ, for both signs at once: position p is p - 24 dB for airborne and
-- 168 - p dB for impact, a level is a value counted from its entry, and so each deficit is 10 p less the level.
-- Assumes nothing.
use mathlib.Core.Path.{◌≡◌, sym, ◌∙◌, ap}
use mathlib.Core.Bool.{Bool, true, false, cond}
use Prim.Native.Nat.{ℕ, zero, suc, ◌+◌, ◌*◌, ◌-◌, ◌/◌, ◌%◌, ◌≤◌, ◌<◌}
use native.Mathlib.Nat.{div-add-mod', mod-lt, add-zero, add-suc, suc-add}
use native.Mathlib.Omega.{arith}
use lib.IntN.{ℤ, pos, neg_ℤ, ◌+ℤ◌, ◌-ℤ◌, ◌*ℤ◌}
use lib.Signed.{shr_z}
use Rattle.laws.specs.Parts.{P, N}
use Rattle.laws.proofs.Ints.{plus, minus, opposite, apart, times-P, times-N, eq-made}
use Rattle.laws.proofs.Floor.{floor-unique}
use Rattle.curve.specs.Levels.{bottom}
use Rattle.curve.proofs.Counted.{PartsOf}
use Rattle.kinds.proofs.Facts.{Tuned}
use Rattle.kinds.specs.Numbers.{entry_by}
use Rattle.rating.specs.Curve.{deficit_by, start_by, shifted_by, first_from}

-- decibels in tenths
abbrev ten : ℤ → ℤ
ten z = pos 10 *ℤ z

-- position p in decibels
abbrev pub position_by : Bool → ℕ → ℤ
position_by true p = pos p -ℤ pos 24
position_by false p = pos 168 -ℤ pos p

-- what an entry is, by the parts of its reference value
abbrev pub EntryOf : Bool → ℤ → ℕ → Type 0
EntryOf true K e = e + 10 * P K ≡ 240 + 10 * N K
EntryOf false K e = e + 10 * N K ≡ 1680 + 10 * P K

pub entry-parts : (sign : Bool) (K : ℤ) → bottom sign ≤ entry_by sign K → EntryOf sign K (entry_by sign K)
entry-parts true K h = omega (arith, minus (pos 240) (ten K), times-P 10 K, times-N 10 K, apart (pos 240 -ℤ ten K))
entry-parts false K h = omega (arith, plus (pos 1680) (ten K), times-P 10 K, times-N 10 K, apart (pos 1680 +ℤ ten K))

-- the deficit at position p is 10 p less the level
pub deficit-level : (sign : Bool) (K x : ℤ) (p entry level : ℕ) → EntryOf sign K entry → PartsOf sign x entry level
    → deficit_by sign (position_by sign p) K x ≡ 10 * p - level
deficit-level true K x p entry level e l =
    let X : ℤ = pos p -ℤ pos 24 in
    omega (arith, minus (pos p) (pos 24), times-P 10 X, times-N 10 X, times-P 10 K, times-N 10 K, plus (ten X) (ten K), minus (ten X +ℤ ten K) x, apart (ten X +ℤ ten K -ℤ x))
deficit-level false K x p entry level e l =
    let Y : ℤ = pos 168 -ℤ pos p in
    omega (arith, minus (pos 168) (pos p), times-P 10 Y, times-N 10 Y, times-P 10 K, times-N 10 K, minus x (ten K), minus (x -ℤ ten K) (ten Y), apart (x -ℤ ten K -ℤ ten Y))

-- ---- the start: E is the sum of the entries, add what the kind adds, m ten for each band
abbrev pub SumOf : Bool → ℤ → ℕ → ℕ → Type 0
SumOf true x E level = level + N x ≡ E + P x
SumOf false x E level = level + P x ≡ E + N x

divided : (n m : ℕ) → 0 < m → (n / m * m + n % m ≡ n) × (n % m < m)
divided n m h = (div-add-mod' n m, mod-lt n h)

pub start_is : (sign : Bool) (sum : ℤ) (E add m level : ℕ) → 0 < m → Tuned sign E add m → SumOf sign sum E level
    → start_by sign sum m ≡ position_by sign ((level + add) / m)
start_is true sum E add m level h t l =
    let p : ℕ = (level + add) / m in
    let q : ℤ = pos 29 -ℤ pos p in
    let w : m * (P q + p) ≡ m * (N q + 29) = ap (λ (k : ℕ). m * k) (omega (arith, minus (pos 29) (pos p))) in
    let d = divided (level + add) m h in
    let f : q ≡ shr_z (neg_ℤ sum) m = floor-unique m h (neg_ℤ sum) q (record { low = omega (arith, opposite sum, d); high = omega (arith, opposite sum, d) }) in
    ap (λ (z : ℤ). neg_ℤ z +ℤ pos 5) (sym f) ∙ eq-made (omega (arith, plus (neg_ℤ q) (pos 5), opposite q, minus (pos 29) (pos p), minus (pos p) (pos 24)))
start_is false sum E add m level h t l =
    let p : ℕ = (level + add) / m in
    let q : ℤ = pos 173 -ℤ pos p in
    let w : m * (P q + p) ≡ m * (N q + 173) = ap (λ (k : ℕ). m * k) (omega (arith, minus (pos 173) (pos p))) in
    let d = divided (level + add) m h in
    let f : q ≡ shr_z sum m = floor-unique m h sum q (record { low = omega (arith, d); high = omega (arith, d) }) in
    ap (λ (z : ℤ). z -ℤ pos 5) (sym f) ∙ eq-made (omega (arith, minus q (pos 5), minus (pos 173) (pos p), minus (pos 168) (pos p)))

-- ---- shifts
pub shifted-is : (sign : Bool) (p s : ℕ) → s ≤ p → shifted_by sign (position_by sign p) s ≡ position_by sign (p - s)
shifted-is true p s h = eq-made (omega (arith, minus (pos p -ℤ pos 24) (pos s), minus (pos p) (pos 24), minus (pos (p - s)) (pos 24)))
shifted-is false p s h = eq-made (omega (arith, plus (pos 168 -ℤ pos p) (pos s), minus (pos 168) (pos p), minus (pos 168) (pos (p - s))))

first-at : (ok : ℕ → Bool) (tries s d : ℕ) → d ≤ tries → ((e : ℕ) → e < d → ok (s + e) ≡ false) → ok (s + d) ≡ true
    → first_from ok tries s ≡ s + d
unfolding first_from
first-at ok zero s d h f t = omega arith
first-at ok (suc tries) s zero h f t =
    ap (λ (b : Bool). cond b s (first_from ok tries (suc s))) (ap ok (sym (add-zero s)) ∙ t) ∙ sym (add-zero s)
first-at ok (suc tries) s (suc d) h f t =
    ap (λ (b : Bool). cond b s (first_from ok tries (suc s))) (ap ok (sym (add-zero s)) ∙ f 0 (omega arith))
    ∙ first-at ok tries (suc s) d (omega arith) (λ e q. ap ok (suc-add s e ∙ sym (add-suc s e)) ∙ f (suc e) (omega arith))
    (ap ok (suc-add s d ∙ sym (add-suc s d)) ∙ t)
    ∙ suc-add s d ∙ sym (add-suc s d)

pub first-is : (ok : ℕ → Bool) (tries d : ℕ) → d ≤ tries → ((e : ℕ) → e < d → ok e ≡ false) → ok d ≡ true → first_from ok tries 0 ≡ d
first-is ok tries d h f t =
    first-at ok tries 0 d h (λ e q. ap ok (none e) ∙ f e q) (ap ok (none d) ∙ t) ∙ none d
  where
    none : (i : ℕ) → 0 + i ≡ i
    none i = omega arith
