-- Document 01, "Sums of energies": the airborne terms, the impact term, in tenths.
use Rattle.std.specs.Prelude.{ℕ, zero, suc, ◌-◌, ℤ, pos, ◌+ℤ◌, ◌-ℤ◌, ◌*ℤ◌}
use Rattle.laws.specs.Parts.{P, lesser, greater}
use Rattle.laws.specs.Sums.{sum_to}
use Rattle.energy.specs.Energies.{F, u}
use Rattle.kinds.specs.declared.kinds.Kind.{Kind}
use Rattle.kinds.specs.Kinds.{bands_of}
use Rattle.rating.specs.Curve.{rating_of}

-- the least, and the greatest, of f 0 to f n
unfoldable pub least_to : (ℕ → ℤ) → ℕ → ℤ
least_to f zero = f 0
least_to f (suc n) = lesser (least_to f n) (f (suc n))

unfoldable pub greatest_to : (ℕ → ℤ) → ℕ → ℤ
greatest_to f zero = f 0
greatest_to f (suc n) = greater (greatest_to f n) (f (suc n))

-- "a = x - 10L for each band"
abbrev pub less : (ℕ → ℤ) → (ℕ → ℤ) → ℕ → ℤ
less x L i = x i -ℤ pos 10 *ℤ L i

-- "m the least a, S the sum of F(a - m), u the number of j >= 1 with H(j) <= S. The weighted difference is m - u tenths."
abbrev pub least_energies : (ℕ → ℤ) → ℕ → ℕ
least_energies a n = sum_to (λ i. F (P (a i -ℤ least_to a (n - 1)))) n

unfoldable pub weighted : (ℕ → ℤ) → ℕ → ℤ
weighted a n = least_to a (n - 1) -ℤ pos (u (least_energies a n))

-- "The term in tenths is that less 10 times the rating."
unfoldable pub airborne_term : Kind → (ℕ → ℤ) → (ℕ → ℤ) → ℤ
airborne_term k x L = weighted (less x L) (bands_of k) -ℤ pos 10 *ℤ rating_of k x

-- "M the greatest x, S the sum of F(M - x) over all bands of the kind, u as before; the term in tenths is M + u - 150 - 10
-- times the rating"
abbrev pub greatest_energies : (ℕ → ℤ) → ℕ → ℕ
greatest_energies x n = sum_to (λ i. F (P (greatest_to x (n - 1) -ℤ x i))) n

unfoldable pub impact_term : Kind → (ℕ → ℤ) → ℤ
impact_term k x =
    greatest_to x (bands_of k - 1) +ℤ pos (u (greatest_energies x (bands_of k))) -ℤ pos 150 -ℤ pos 10 *ℤ rating_of k x
