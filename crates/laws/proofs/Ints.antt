-- Integers through their two natural parts. Each operation is one equation with no subtraction, each order one inequality:
-- with the set `ints` and one law for each compound term, omega proves facts over ℤ. Assumes nothing.
use mathlib.Core.Path.{◌≡◌, refl, sym, ◌∙◌, ap, subst}
use mathlib.Core.Bool.{Bool, true, false, not, cond}
use Prim.Native.Nat.{ℕ, zero, suc, ◌+◌, ◌*◌, ◌-◌, ◌≤◌, ◌<◌}
use native.Mathlib.Omega.{arith}
use borrow.Author.Tests.{ltb-false, leb-false}
use lib.Dec.{T, ltb, ltb→lt, nltb→le, leb→le, le→leb, lt→ltb}
use lib.IntN.{ℤ, pos, negsuc, neg_ℤ, ◌+ℤ◌, ◌-ℤ◌, ◌*ℤ◌, sub_ℕ}
use lib.Signed.{◌≤ℤ◌, ◌<ℤ◌, le_z, lt_z, mag}
use mir.Val.{SFits}
use mir.Syntax.{w32}
use Rattle.laws.specs.Parts.{P, N}

-- of a choice by a test, what each case shows
pub cond-case : (c : Bool) (x y : ℤ) (R : ℤ → Type 0) → (T c → R x) → (T (not c) → R y) → R (cond c x y)
cond-case true x y R f g = f tt
cond-case false x y R f g = g tt

-- one of the two parts is 0
pub apart : (z : ℤ) → P z - N z ≡ P z
apart (pos n) = omega arith
apart (negsuc n) = omega arith

sub_parts : (a b : ℕ) → P (sub_ℕ a b) + b ≡ N (sub_ℕ a b) + a
sub_parts a b = cond-case (ltb a b) (negsuc (b - suc a)) (pos (a - b)) (λ z. P z + b ≡ N z + a)
    (λ t. below a b (ltb→lt a b t)) (λ t. above a b (nltb→le a b t))
  where
    below : (a b : ℕ) → a < b → 0 + b ≡ suc (b - suc a) + a
    below a b h = omega arith

    above : (a b : ℕ) → b ≤ a → (a - b) + b ≡ 0 + a
    above a b h = omega arith

pub plus : (x y : ℤ) → P (x +ℤ y) + (N x + N y) ≡ N (x +ℤ y) + (P x + P y)
plus (pos a) (pos b) = omega arith
plus (pos a) (negsuc b) = omega (arith, sub_parts a (suc b))
plus (negsuc a) (pos b) = omega (arith, sub_parts b (suc a))
plus (negsuc a) (negsuc b) = omega arith

neg-P : (x : ℤ) → P (neg_ℤ x) ≡ N x
neg-P (pos zero) = refl
neg-P (pos (suc n)) = refl
neg-P (negsuc n) = refl

neg-N : (x : ℤ) → N (neg_ℤ x) ≡ P x
neg-N (pos zero) = refl
neg-N (pos (suc n)) = refl
neg-N (negsuc n) = refl

pub opposite : (x : ℤ) → (P (neg_ℤ x) ≡ N x) × (N (neg_ℤ x) ≡ P x)
opposite x = (neg-P x, neg-N x)

pub minus : (x y : ℤ) → P (x -ℤ y) + (N x + P y) ≡ N (x -ℤ y) + (P x + N y)
minus x y = omega (arith, plus x (neg_ℤ y), neg-P y, neg-N y)

-- a natural multiple
pub times-P : (k : ℕ) (x : ℤ) → P (pos k *ℤ x) ≡ k * P x
times-P k (pos n) = refl
times-P k (negsuc n) = neg-P (pos (k * suc n)) ∙ omega arith

pub times-N : (k : ℕ) (x : ℤ) → N (pos k *ℤ x) ≡ k * N x
times-N k (pos n) = omega arith
times-N k (negsuc n) = neg-N (pos (k * suc n))

-- ---- the order, to and from the parts
le_parts : (x y : ℤ) → T (le_z x y) → P x + N y ≤ P y + N x
le_parts (pos a) (pos b) t = omega (arith, leb→le a b t)
le_parts (pos a) (negsuc b) t = absurd t
le_parts (negsuc a) (pos b) t = omega arith
le_parts (negsuc a) (negsuc b) t = omega (arith, leb→le b a t)

parts-le : (x y : ℤ) → P x + N y ≤ P y + N x → T (le_z x y)
parts-le (pos a) (pos b) h = le→leb a b (omega arith)
parts-le (pos a) (negsuc b) h = absurd (omega arith)
parts-le (negsuc a) (pos b) h = tt
parts-le (negsuc a) (negsuc b) h = le→leb b a (omega arith)

lt-parts : (x y : ℤ) → T (lt_z x y) → P x + N y < P y + N x
lt-parts (pos a) (pos b) t = omega (arith, ltb→lt a b t)
lt-parts (pos a) (negsuc b) t = absurd t
lt-parts (negsuc a) (pos b) t = omega arith
lt-parts (negsuc a) (negsuc b) t = omega (arith, ltb→lt b a t)

parts-lt : (x y : ℤ) → P x + N y < P y + N x → T (lt_z x y)
parts-lt (pos a) (pos b) h = lt→ltb a b (omega arith)
parts-lt (pos a) (negsuc b) h = absurd (omega arith)
parts-lt (negsuc a) (pos b) h = tt
parts-lt (negsuc a) (negsuc b) h = lt→ltb b a (omega arith)

pub le_read : {x y : ℤ} → x ≤ℤ y → P x + N y ≤ P y + N x
le_read {x} {y} h = le_parts x y h.le

pub le-made : {x y : ℤ} → P x + N y ≤ P y + N x → x ≤ℤ y
le-made {x} {y} h = record { le = parts-le x y h }

pub lt-read : {x y : ℤ} → x <ℤ y → P x + N y < P y + N x
lt-read {x} {y} h = lt-parts x y h.lt

pub lt-made : {x y : ℤ} → P x + N y < P y + N x → x <ℤ y
lt-made {x} {y} h = record { lt = parts-lt x y h }

pub eq-read : {x y : ℤ} → x ≡ y → P x + N y ≡ P y + N x
eq-read {x} {y} e = omega (arith, ap P e, ap N e)

pub eq-made : {x y : ℤ} → P x + N y ≡ P y + N x → x ≡ y
eq-made {x = pos a} {y = pos b} h = ap pos (omega arith)
eq-made {x = pos a} {y = negsuc b} h = absurd (omega arith)
eq-made {x = negsuc a} {y = pos b} h = absurd (omega arith)
eq-made {x = negsuc a} {y = negsuc b} h = ap negsuc (omega arith)

-- what a test of signed numbers in the code says
pub lt_yes : (x y : ℤ) → lt_z x y ≡ true → P x + N y < P y + N x
lt_yes x y e = lt-parts x y (subst T (sym e) tt)

pub lt_no : (x y : ℤ) → lt_z x y ≡ false → P y + N x ≤ P x + N y
lt_no (pos a) (pos b) e = omega (arith, ltb-false a b e)
lt_no (pos a) (negsuc b) e = omega arith
lt_no (negsuc a) (pos b) e = absurd (subst T e tt)
lt_no (negsuc a) (negsuc b) e = omega (arith, ltb-false b a e)

pub le_yes : (x y : ℤ) → le_z x y ≡ true → P x + N y ≤ P y + N x
le_yes x y e = le_parts x y (subst T (sym e) tt)

pub le-no : (x y : ℤ) → le_z x y ≡ false → P y + N x < P x + N y
le-no (pos a) (pos b) e = omega (arith, leb-false a b e)
le-no (pos a) (negsuc b) e = omega arith
le-no (negsuc a) (pos b) e = absurd (subst T e tt)
le-no (negsuc a) (negsuc b) e = omega (arith, leb-false b a e)

-- tests from the parts
pub le-true : (x y : ℤ) → P x + N y ≤ P y + N x → le_z x y ≡ true
le-true x y h = go (le_z x y) refl
  where
    go : (b : Bool) → le_z x y ≡ b → b ≡ true
    go true e = refl
    go false e = absurd (omega (arith, le-no x y e))

pub le-false : (x y : ℤ) → P y + N x < P x + N y → le_z x y ≡ false
le-false x y h = go (le_z x y) refl
  where
    go : (b : Bool) → le_z x y ≡ b → b ≡ false
    go true e = absurd (omega (arith, le_yes x y e))
    go false e = refl

pub lt-true : (x y : ℤ) → P x + N y < P y + N x → lt_z x y ≡ true
lt-true x y h = go (lt_z x y) refl
  where
    go : (b : Bool) → lt_z x y ≡ b → b ≡ true
    go true e = refl
    go false e = absurd (omega (arith, lt_no x y e))

pub lt-false : (x y : ℤ) → P y + N x ≤ P x + N y → lt_z x y ≡ false
lt-false x y h = go (lt_z x y) refl
  where
    go : (b : Bool) → lt_z x y ≡ b → b ≡ false
    go true e = absurd (omega (arith, lt_yes x y e))
    go false e = refl

mag-below : (z : ℤ) → P z < 2147483648 → N z ≤ 2147483648 → mag z < 2147483648
mag-below (pos n) p q = omega arith
mag-below (negsuc n) p q = omega arith

pub fits-made : {z : ℤ} → P z < 2147483648 → N z ≤ 2147483648 → SFits w32 z
fits-made {z} p q = record { sfits = mag-below z p q }

-- for omega: the order over ℤ, read and made
pub ruleset ints = (arith, le_read, le-made, lt-read, lt-made, eq-read, eq-made, lt_yes, lt_no, le_yes, le-no)
