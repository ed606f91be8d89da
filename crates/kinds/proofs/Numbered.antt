-- Kinds by their numbers: a number is that of at most one kind, and each kind has one. Assumes nothing.
use mathlib.Core.Path.{◌≡◌, refl, ap}
use Prim.Native.Nat.{ℕ, zero, suc}
use Rattle.std.specs.Prelude.{Some, None}
use Rattle.std.proofs.lemmas.Option.{same_Some}
use Rattle.kinds.specs.declared.kinds.Kind.{Kind}
use Rattle.kinds.specs.declared.kinds.Kind.TheVariants.{A3, A1, I3, I1}
use Rattle.kinds.specs.Kinds.{kind_of, kind_number}

-- a number that is none of the four
pub unknown : (n : ℕ) → (n ≡ 0 → ⊥) → (n ≡ 1 → ⊥) → (n ≡ 2 → ⊥) → (n ≡ 3 → ⊥) → None ≡ kind_of n
unknown zero a b c d = absurd (a refl)
unknown (suc zero) a b c d = absurd (b refl)
unknown (suc (suc zero)) a b c d = absurd (c refl)
unknown (suc (suc (suc zero))) a b c d = absurd (d refl)
unknown (suc (suc (suc (suc n)))) a b c d = refl

-- there and back
pub kind-of-number : (k : Kind) → kind_of (kind_number k) ≡ Some k
kind-of-number A3 = refl
kind-of-number A1 = refl
kind-of-number I3 = refl
kind-of-number I1 = refl

pub kind-number-of : (n : ℕ) (k : Kind) → kind_of n ≡ Some k → n ≡ kind_number k
kind-number-of zero k e = ap kind_number (same_Some A3 k e)
kind-number-of (suc zero) k e = ap kind_number (same_Some A1 k e)
kind-number-of (suc (suc zero)) k e = ap kind_number (same_Some I3 k e)
kind-number-of (suc (suc (suc zero))) k e = ap kind_number (same_Some I1 k e)
kind-number-of (suc (suc (suc (suc n)))) k e = cc
