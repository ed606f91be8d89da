-- Bits of a number by halving, and a number put together from its bits: two numbers below 2 ^ n with the same n bits are one,
-- and any n bits are those of a number. Assumes nothing.
use mathlib.Core.Path.{◌≡◌, refl, sym, ◌∙◌, ap, ap₂, subst}
use mathlib.Core.Bool.{Bool, true, false, not, ◌||◌}
use mathlib.Core.Logic.{◌⊎◌, inl, inr}
use Prim.Native.Nat.{ℕ, zero, suc, ◌+◌, ◌*◌, ◌/◌, ◌%◌, ◌^◌, ◌<◌}
use native.Mathlib.Nat.{le_refl, div-one, zero-div, div-eq_of_lt, pow-succ', div-div-eq-div-mul}
use native.Mathlib.Decide.{dec_lt}
use native.Mathlib.Omega.{arith}
use borrow.Author.Tests.{eq-eqb, ne_eqb, eqb-true, eqb-false}
use lib.Dec.{T, eqb}
use Rattle.laws.specs.Extremes.{one_if}
use Rattle.laws.specs.Tests.{bit}

-- the lowest bit, and a bit above it
bit-low : (m : ℕ) → bit m 0 ≡ eqb (m % 2) 1
bit-low m = ap (λ (n : ℕ). eqb (n % 2) 1) (div-one m)

next-half : (m i : ℕ) → m / 2 ^ suc i ≡ m / 2 / 2 ^ i
next-half m i = ap (λ (d : ℕ). m / d) (pow-succ' 2 i) ∙ sym (div-div-eq-div-mul m 2 (2 ^ i))

bit-next : (m i : ℕ) → bit m (suc i) ≡ bit (m / 2) i
bit-next m i = ap (λ (n : ℕ). eqb (n % 2) 1) (next-half m i)

-- zero has no bit, and no number one past its length
pub zero_bit : (i : ℕ) → bit 0 i ≡ false
zero_bit i = ne_eqb (0 / 2 ^ i % 2) 1 (λ e. omega (arith, ap (λ (q : ℕ). q % 2) (zero-div (2 ^ i))))

pub bit_past : (m i : ℕ) → m < 2 ^ i → bit m i ≡ false
bit_past m i h = ap (λ (q : ℕ). eqb (q % 2) 1) (div-eq_of_lt h)

-- a bit put on top of a number: it is there, and the others are as they were
lower-half : (m i : ℕ) → (m + 2 ^ suc i) / 2 ≡ m / 2 + 2 ^ i
lower-half m i = omega arith

pub bit-here : (i m : ℕ) → m < 2 ^ i → bit (m + 2 ^ i) i ≡ true
bit-here zero m h = let one : m + 2 ^ 0 ≡ 1 = omega arith in ap (λ (n : ℕ). bit n 0) one
bit-here (suc i) m h = bit-next (m + 2 ^ suc i) i ∙ ap (λ (n : ℕ). bit n i) (lower-half m i) ∙ bit-here i (m / 2) (omega arith)

pub bit-other : (i m j : ℕ) → m < 2 ^ i → (j ≡ i → ⊥) → bit (m + 2 ^ i) j ≡ bit m j
bit-other zero m zero h f = absurd (f refl)
bit-other zero m (suc j) h f =
    let same : (m + 2 ^ 0) / 2 ≡ m / 2 = omega arith in
    bit-next (m + 2 ^ 0) j ∙ ap (λ (n : ℕ). bit n j) same ∙ sym (bit-next m j)
bit-other (suc i) m zero h f =
    let same : (m + 2 ^ suc i) % 2 ≡ m % 2 = omega arith in
    bit-low (m + 2 ^ suc i) ∙ ap (λ (r : ℕ). eqb r 1) same ∙ sym (bit-low m)
bit-other (suc i) m (suc j) h f =
    bit-next (m + 2 ^ suc i) j ∙ ap (λ (n : ℕ). bit n j) (lower-half m i)
    ∙ bit-other i (m / 2) j (omega arith) (λ e. f (ap suc e)) ∙ sym (bit-next m j)

-- the number whose bits below n are those of f
unfoldable pub pack : (ℕ → Bool) → ℕ → ℕ
pack f zero = 0
pack f (suc n) = one_if (f 0) + 2 * pack (λ i. f (suc i)) n

odd : (b : Bool) (r : ℕ) → eqb ((one_if b + 2 * r) % 2) 1 ≡ b
odd true r = eq-eqb ((1 + 2 * r) % 2) 1 (omega arith)
odd false r = ne_eqb ((0 + 2 * r) % 2) 1 (λ e. omega arith)

half : (b : Bool) (r : ℕ) → (one_if b + 2 * r) / 2 ≡ r
half true r = omega arith
half false r = omega arith

pub pack-bit : (f : ℕ → Bool) (n i : ℕ) → i < n → bit (pack f n) i ≡ f i
unfolding pack
pack-bit f zero i h = absurd (omega arith)
pack-bit f (suc n) zero h = bit-low (pack f (suc n)) ∙ odd (f 0) (pack (λ i. f (suc i)) n)
pack-bit f (suc n) (suc i) h =
    bit-next (pack f (suc n)) i
    ∙ ap (λ (m : ℕ). bit m i) (half (f 0) (pack (λ i. f (suc i)) n))
    ∙ pack-bit (λ i. f (suc i)) n i (omega arith)

pack-same : (f g : ℕ → Bool) (n : ℕ) → ((i : ℕ) → i < n → f i ≡ g i) → pack f n ≡ pack g n
unfolding pack
pack-same f g zero h = refl
pack-same f g (suc n) h =
    ap₂ (λ (b : Bool) (r : ℕ). one_if b + 2 * r) (h 0 (omega arith))
    (pack-same (λ i. f (suc i)) (λ i. g (suc i)) n (λ i p. h (suc i) (omega arith)))

pub pack-below : (f : ℕ → Bool) (n : ℕ) → pack f n < 2 ^ n
unfolding pack
pack-below f zero = omega arith
pack-below f (suc n) = go (f 0) (pack (λ i. f (suc i)) n) (pack-below (λ i. f (suc i)) n)
  where
    go : (b : Bool) (r : ℕ) → r < 2 ^ n → one_if b + 2 * r < 2 ^ suc n
    go true r h = omega arith
    go false r h = omega arith

-- a number is put together from its own bits
lowest : (m : ℕ) → one_if (eqb (m % 2) 1) ≡ m % 2
lowest m = go (eqb (m % 2) 1) refl
  where
    go : (b : Bool) → eqb (m % 2) 1 ≡ b → one_if b ≡ m % 2
    go true e = sym (eqb-true (m % 2) 1 e)
    go false e = omega (arith, eqb-false (m % 2) 1 e)

pack-of : (n m : ℕ) → m < 2 ^ n → pack (bit m) n ≡ m
unfolding pack
pack-of zero m h = omega arith
pack-of (suc n) m h =
    let low : one_if (bit m 0) ≡ m % 2 = ap one_if (bit-low m) ∙ lowest m in
    let up : pack (λ i. bit m (suc i)) n ≡ m / 2 =
    pack-same (λ i. bit m (suc i)) (bit (m / 2)) n (λ i p. bit-next m i) ∙ pack-of n (m / 2) (omega arith) in
    omega arith

pub same_bits : (n m p : ℕ) → m < 2 ^ n → p < 2 ^ n → ((i : ℕ) → i < n → bit m i ≡ bit p i) → m ≡ p
same_bits n m p h k e = sym (pack-of n m h) ∙ pack-same (bit m) (bit p) n e ∙ pack-of n p k

-- a place where g passes and f does not
pub record Apart (f g : ℕ → Bool) (n : ℕ) : Type 0 where
  pub place : ℕ
  pub below : place < n
  pub without : f place ≡ false
  pub having : g place ≡ true

-- where g passes wherever f does, the two are one below n, or some place is apart
pub parted : (f g : ℕ → Bool) (n : ℕ) → ((i : ℕ) → i < n → T (not (f i) || g i)) → ((i : ℕ) → i < n → f i ≡ g i) ⊎ Apart f g n
parted f g zero h = inl (λ i p. absurd (omega arith))
parted f g (suc n) h = go (parted f g n (λ i p. h i (omega arith))) (f n) refl (g n) refl
  where
    last : f n ≡ g n → ((i : ℕ) → i < n → f i ≡ g i) → (i : ℕ) → i < suc n → f i ≡ g i
    last e before i p = pick (dec_lt i n)
      where
        pick : Dec (i < n) → f i ≡ g i
        pick (yes q) = before i q
        pick (no q) = let s : n ≡ i = omega arith in subst (λ (j : ℕ). f j ≡ g j) s e

    go : ((i : ℕ) → i < n → f i ≡ g i) ⊎ Apart f g n
        → (a : Bool) → f n ≡ a → (b : Bool) → g n ≡ b → ((i : ℕ) → i < suc n → f i ≡ g i) ⊎ Apart f g (suc n)
    go (inr q) a d b e = inr (record { place = q.place; below = omega (arith, q.below); without = q.without; having = q.having })
    go (inl s) true d true e = inl (last (d ∙ sym e) s)
    go (inl s) false d false e = inl (last (d ∙ sym e) s)
    go (inl s) false d true e = inr (record { place = n; below = le_refl (suc n); without = d; having = e })
    go (inl s) true d false e = absurd (subst T (ap₂ (λ (a b : Bool). not a || b) d e) (h n (le_refl (suc n))))
