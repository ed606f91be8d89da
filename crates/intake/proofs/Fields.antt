-- From the bits of a float to units. A finite pattern is q * 2 ^ k / 2 ^ 149, and the definition depends on that fraction
-- alone. By the size of k it is beyond 256, rounds to 0, or is q over a smaller power of two. Assumes nothing.
use mathlib.Core.Path.{◌≡◌, refl, sym, ◌∙◌, ap, subst}
use mathlib.Core.Bool.{Bool, true, false, cond}
use Prim.Native.Nat.{ℕ, zero, suc, ◌+◌, ◌*◌, ◌-◌, ◌/◌, ◌%◌, ◌^◌, ◌≤◌, ◌<◌}
use native.Mathlib.Nat.{mul_comm, mul_assoc, mul-le-mul_right, mul-lt-mul_of_pos_right, lt_of_mul-lt-mul_right, le_of_mul-le-mul_right, le_trans, lt_of_lt_of_le}
use native.Mathlib.Omega.{arith}
use borrow.Author.Tests.{lt-ltb, le-ltb, eq-eqb, ne_eqb}
use lib.Dec.{leb, eqb}
use lib.IntN.{ℤ, pos}
use lib.Pow.{pow-add, pow_pos, pow_mono}
use lib.Ieee.{Float, nan, inf, fin, binary32, up, down, of_fields, of_bits}
use lib.Ieee.Exact.{HasValue, odd_sign}
use lib.Ieee.Fits.{down_pos}
use Rattle.intake.specs.Nearest.{nearest_to, whole_of}
use Rattle.intake.specs.declared.rounding.Whole.TheVariants.{Units, Beyond, NotFinite}
use Rattle.intake.proofs.Nearest.{Near, same-fraction, near-unique}

-- ---- a float of the value a / c

across : (c d : ℕ) → 256 * c * d ≡ 256 * d * c
across c d = mul_assoc 256 c d ∙ ap (λ (y : ℕ). 256 * y) (mul_comm c d) ∙ sym (mul_assoc 256 d c)

-- x c ≡ a d lets a bound on a / c pass to x / d
passes-lt : (x d a c : ℕ) → 0 < c → 0 < d → x * c ≡ a * d → a < 256 * c → x < 256 * d
passes-lt x d a c p q e h =
    lt_of_mul-lt-mul_right c
    (subst (λ (y : ℕ). y < 256 * d * c) (sym e)
    (subst (λ (y : ℕ). a * d < y) (across c d) (mul-lt-mul_of_pos_right h q)))

passes-le : (x d a c : ℕ) → 0 < c → x * c ≡ a * d → 256 * c ≤ a → 256 * d ≤ x
passes-le x d a c p e h =
    let g : 256 * d * c ≤ x * c =
    subst (λ (y : ℕ). 256 * d * c ≤ y) (sym e)
    (subst (λ (y : ℕ). y ≤ a * d) (across c d) (mul-le-mul_right d h)) in
    le_of_mul-le-mul_right g p

pub value_in : (scale : ℕ) (v : Float) (s : Bool) (a c : ℕ) → 0 < c → HasValue v s a c → a < 256 * c
    → whole_of scale v ≡ Units (nearest_to s (scale * a) c)
unfolding whole_of
value_in scale nan s a c p h l = absurd h
value_in scale (inf t) s a c p h l = absurd h
value_in scale (fin t m e) s a c p h l =
    rw (lt-ltb (m * up e) (256 * down e) (passes-lt (m * up e) (down e) a c p (down_pos e) h.1 l))
    (ap Units
    (ap (λ (b : Bool). nearest_to b (scale * (m * up e)) (down e)) h.0
    ∙ same-fraction s (scale * (m * up e)) (down e) (scale * a) c (down_pos e) p
    (mul_assoc scale (m * up e) c ∙ ap (λ (y : ℕ). scale * y) h.1 ∙ sym (mul_assoc scale a (down e)))))

pub value_out : (scale : ℕ) (v : Float) (s : Bool) (a c : ℕ) → 0 < c → HasValue v s a c → 256 * c ≤ a → whole_of scale v ≡ Beyond
unfolding whole_of
value_out scale nan s a c p h l = absurd h
value_out scale (inf t) s a c p h l = absurd h
value_out scale (fin t m e) s a c p h l =
    rw (le-ltb (m * up e) (256 * down e) (passes-le (m * up e) (down e) a c p h.1 l))

-- ---- q * 2 ^ k / 2 ^ l by the size of k

far : (q k l : ℕ) → 8388608 ≤ q → l ≤ k + 15 → 256 * 2 ^ l ≤ q * 2 ^ k
far q k l h g =
    le_trans
    (subst (λ (y : ℕ). y ≤ 2 ^ (23 + k)) (pow-add 2 8 l) (pow_mono {i = 8 + l} {j = 23 + k} (omega arith)))
    (subst (λ (y : ℕ). y ≤ q * 2 ^ k) (sym (pow-add 2 23 k)) (mul-le-mul_right (2 ^ k) h))

close : (q k l : ℕ) → q < 16777216 → k + 16 ≤ l → q * 2 ^ k < 256 * 2 ^ l
close q k l h g =
    lt_of_lt_of_le
    (subst (λ (y : ℕ). q * 2 ^ k < y) (sym (pow-add 2 24 k)) (mul-lt-mul_of_pos_right h (pow_pos k)))
    (subst (λ (y : ℕ). 2 ^ (24 + k) ≤ y) (pow-add 2 8 l) (pow_mono {i = 24 + k} {j = 8 + l} (omega arith)))

tiny : (scale q k l : ℕ) → scale ≤ 100 → q < 16777216 → k + 32 ≤ l → 2 * (scale * (q * 2 ^ k)) < 2 ^ l
tiny scale q k l b h g =
    let a = q * 2 ^ k in
    let top : a < 2 ^ (24 + k) = subst (λ (y : ℕ). a < y) (sym (pow-add 2 24 k)) (mul-lt-mul_of_pos_right h (pow_pos k)) in
    let more : 256 * 2 ^ (24 + k) ≤ 2 ^ l = subst (λ (y : ℕ). y ≤ 2 ^ l) (pow-add 2 8 (24 + k)) (pow_mono {i = 8 + (24 + k)} {j = l} (omega arith)) in
    omega (arith, mul-le-mul_right a b)

to-nought : (s : Bool) (n d : ℕ) → 2 * n < d → nearest_to s n d ≡ pos 0
to-nought s n d h = sym (near-unique s n d (pos 0) (omega arith) (go s))
  where
    go : (s : Bool) → Near s n d (pos 0)
    go false = record { low = omega arith; high = omega arith }
    go true = record { low = omega arith; high = omega arith }

shortened : (s : Bool) (scale q k p l : ℕ) → k + p ≡ l → nearest_to s (scale * (q * 2 ^ k)) (2 ^ l) ≡ nearest_to s (scale * q) (2 ^ p)
shortened s scale q k p l e =
    same-fraction s (scale * (q * 2 ^ k)) (2 ^ l) (scale * q) (2 ^ p) (pow_pos l) (pow_pos p)
    (ap (λ (y : ℕ). y * 2 ^ p) (sym (mul_assoc scale q (2 ^ k)))
    ∙ mul_assoc (scale * q) (2 ^ k) (2 ^ p)
    ∙ ap (λ (y : ℕ). scale * q * y) (sym (pow-add 2 k p) ∙ ap (λ (y : ℕ). 2 ^ y) e))

-- ---- by the field of the exponent

not_finite : (scale : ℕ) (s : Bool) (x t : ℕ) → x ≡ 255 → NotFinite ≡ whole_of scale (of_fields binary32 s x t)
unfolding of_fields whole_of
not_finite scale s zero t e = absurd (omega arith)
not_finite scale s (suc x) t e = rw (eq-eqb (suc x) 255 e) (go (eqb t 0))
  where
    go : (b : Bool) → NotFinite ≡ whole_of scale (cond b (inf s) nan)
    go true = refl
    go false = refl

-- a field from 1 to 254
normal : (s : Bool) (k t : ℕ) → k < 254 → HasValue (of_fields binary32 s (suc k) t) s ((8388608 + t) * 2 ^ k) (2 ^ 149)
unfolding of_fields
normal s k t h = rw (ne_eqb (suc k) 255 (λ e. omega arith)) (odd_sign 24 s (8388608 + t) k 149)

subnormal : (s : Bool) (t : ℕ) → HasValue (of_fields binary32 s 0 t) s (t * 2 ^ 0) (2 ^ 149)
unfolding of_fields
subnormal s t = odd_sign 24 s t 0 149

field-far : (scale : ℕ) (s : Bool) (x t : ℕ) → 134 < x → x < 255 → Beyond ≡ whole_of scale (of_fields binary32 s x t)
field-far scale s zero t h g = absurd (omega arith)
field-far scale s (suc k) t h g =
    sym (value_out scale (of_fields binary32 s (suc k) t) s ((8388608 + t) * 2 ^ k) (2 ^ 149) (pow_pos 149)
    (normal s k t (omega arith)) (far (8388608 + t) k 149 (omega arith) (omega arith)))

field-tiny : (scale : ℕ) (s : Bool) (x t : ℕ) → scale ≤ 100 → t < 8388608 → x < 119
    → Units (pos 0) ≡ whole_of scale (of_fields binary32 s x t)
field-tiny scale s x t b h g = go x g
  where
    by : (x q k : ℕ) → q < 16777216 → k + 32 ≤ 149 → HasValue (of_fields binary32 s x t) s (q * 2 ^ k) (2 ^ 149)
        → Units (pos 0) ≡ whole_of scale (of_fields binary32 s x t)
    by x q k l m v =
        sym (value_in scale (of_fields binary32 s x t) s (q * 2 ^ k) (2 ^ 149) (pow_pos 149) v (close q k 149 l (omega arith))
        ∙ ap Units (to-nought s (scale * (q * 2 ^ k)) (2 ^ 149) (tiny scale q k 149 b l m)))

    go : (x : ℕ) → x < 119 → Units (pos 0) ≡ whole_of scale (of_fields binary32 s x t)
    go zero g = by 0 t 0 (omega arith) (omega arith) (subnormal s t)
    go (suc k) g = by (suc k) (8388608 + t) k (omega arith) (omega arith) (normal s k t (omega arith))

field-middle : (scale : ℕ) (s : Bool) (x t : ℕ) (r : ℤ) → t < 8388608 → 119 ≤ x → x ≤ 134
    → r ≡ nearest_to s (scale * (8388608 + t)) (2 ^ (150 - x)) → Units r ≡ whole_of scale (of_fields binary32 s x t)
field-middle scale s zero t r h g l e = absurd (omega arith)
field-middle scale s (suc k) t r h g l e =
    let q = 8388608 + t in
    let p = 150 - suc k in
    sym (value_in scale (of_fields binary32 s (suc k) t) s (q * 2 ^ k) (2 ^ 149) (pow_pos 149)
    (normal s k t (omega arith)) (close q k 149 (omega arith) (omega arith))
    ∙ ap Units (shortened s scale q k p 149 (omega arith) ∙ sym e))

-- ---- the same of a bit pattern
module _ (scale b : ℕ) where
  pub bits_not_finite : b % 2147483648 / 8388608 ≡ 255 → NotFinite ≡ whole_of scale (of_bits binary32 b)
  unfolding of_bits
  bits_not_finite e = not_finite scale (leb 2147483648 b) (b % 2147483648 / 8388608) (b % 8388608) e

  pub bits_far : 134 < b % 2147483648 / 8388608 → b % 2147483648 / 8388608 < 255 → Beyond ≡ whole_of scale (of_bits binary32 b)
  unfolding of_bits
  bits_far h g = field-far scale (leb 2147483648 b) (b % 2147483648 / 8388608) (b % 8388608) h g

  pub bits_tiny : scale ≤ 100 → b % 2147483648 / 8388608 < 119 → Units (pos 0) ≡ whole_of scale (of_bits binary32 b)
  unfolding of_bits
  bits_tiny h g = field-tiny scale (leb 2147483648 b) (b % 2147483648 / 8388608) (b % 8388608) h (omega arith) g

  -- with the sign that the pattern has
  pub bits_middle : (r : ℤ) → 119 ≤ b % 2147483648 / 8388608 → b % 2147483648 / 8388608 ≤ 134
      → r ≡ nearest_to (leb 2147483648 b) (scale * (8388608 + b % 8388608)) (2 ^ (150 - b % 2147483648 / 8388608)) → Units r ≡ whole_of scale (of_bits binary32 b)
  unfolding of_bits
  bits_middle r h g l =
      field-middle scale (leb 2147483648 b) (b % 2147483648 / 8388608) (b % 8388608) r (omega arith) h g l

-- the four sizes of the exponent's field
pub ruleset field_laws = (bits_not_finite, bits_far, bits_tiny, bits_middle)
