-- Document 01, "Quantities and ranges": what each kind owns; the spectra of "Sums of energies" (000, table 3.1.3); and kinds by
-- their numbers.
use Rattle.std.specs.Prelude.{Bool, true, false, List, [], ◌∷◌, ℕ, zero, suc, ℤ, pos, neg_ℤ, get_or, Option, None, Some}
use Rattle.kinds.specs.declared.kinds.Kind.{Kind}
use Rattle.kinds.specs.declared.kinds.Kind.TheVariants.{A3, A1, I3, I1}

abbrev pub neg : ℕ → ℤ
neg n = neg_ℤ (pos n)

-- airborne, or impact
abbrev pub airborne : Kind → Bool
airborne A3 = true
airborne A1 = true
airborne I3 = false
airborne I1 = false

abbrev pub bands_of : Kind → ℕ
bands_of A3 = 16
bands_of A1 = 5
bands_of I3 = 16
bands_of I1 = 5

-- the sum limit, in tenths
abbrev pub limit_of : Kind → ℕ
limit_of A3 = 320
limit_of A1 = 100
limit_of I3 = 320
limit_of I1 = 100

-- the reference values K, in dB
unfoldable pub references_of : Kind → List ℤ
references_of A3 = neg 19 ∷ neg 16 ∷ neg 13 ∷ neg 10 ∷ neg 7 ∷ neg 4 ∷ neg 1 ∷ pos 0 ∷ pos 1 ∷ pos 2 ∷ pos 3 ∷ pos 4 ∷ pos 4 ∷ pos 4 ∷ pos 4 ∷ pos 4 ∷ []
references_of A1 = neg 16 ∷ neg 7 ∷ pos 0 ∷ pos 3 ∷ pos 4 ∷ []
references_of I3 = pos 2 ∷ pos 2 ∷ pos 2 ∷ pos 2 ∷ pos 2 ∷ pos 2 ∷ pos 1 ∷ pos 0 ∷ neg 1 ∷ neg 2 ∷ neg 3 ∷ neg 6 ∷ neg 9 ∷ neg 12 ∷ neg 15 ∷ neg 18 ∷ []
references_of I1 = pos 2 ∷ pos 2 ∷ pos 0 ∷ neg 3 ∷ neg 16 ∷ []

unfoldable pub reference_of : Kind → ℕ → ℤ
reference_of k i = get_or (references_of k) i (pos 0)

-- the spectra L, in dB: C and Ctr, of thirds and of octaves (an impact kind has none)
unfoldable pub spectra_c : Kind → List ℤ
spectra_c A3 = neg 29 ∷ neg 26 ∷ neg 23 ∷ neg 21 ∷ neg 19 ∷ neg 17 ∷ neg 15 ∷ neg 13 ∷ neg 12 ∷ neg 11 ∷ neg 10 ∷ neg 9 ∷ neg 9 ∷ neg 9 ∷ neg 9 ∷ neg 9 ∷ []
spectra_c A1 = neg 21 ∷ neg 14 ∷ neg 8 ∷ neg 5 ∷ neg 4 ∷ []
spectra_c I3 = []
spectra_c I1 = []

unfoldable pub spectra_ctr : Kind → List ℤ
spectra_ctr A3 = neg 20 ∷ neg 20 ∷ neg 18 ∷ neg 16 ∷ neg 15 ∷ neg 14 ∷ neg 13 ∷ neg 12 ∷ neg 11 ∷ neg 9 ∷ neg 8 ∷ neg 9 ∷ neg 10 ∷ neg 11 ∷ neg 13 ∷ neg 15 ∷ []
spectra_ctr A1 = neg 14 ∷ neg 10 ∷ neg 7 ∷ neg 4 ∷ neg 6 ∷ []
spectra_ctr I3 = []
spectra_ctr I1 = []

unfoldable pub C : Kind → ℕ → ℤ
C k i = get_or (spectra_c k) i (pos 0)

unfoldable pub Ctr : Kind → ℕ → ℤ
Ctr k i = get_or (spectra_ctr k) i (pos 0)

-- the kind of a number
abbrev pub kind_of : ℕ → Option Kind
kind_of zero = Some A3
kind_of (suc zero) = Some A1
kind_of (suc (suc zero)) = Some I3
kind_of (suc (suc (suc zero))) = Some I1
kind_of (suc (suc (suc (suc n)))) = None

-- and the number of a kind
abbrev pub kind_number : Kind → ℕ
kind_number A3 = 0
kind_number A1 = 1
kind_number I3 = 2
kind_number I1 = 3
