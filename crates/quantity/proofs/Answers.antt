-- The paper's numbers tell refusals apart, and marks: each is read back from its number. So answers with the same numbers are the
-- same answer. Assumes nothing.
use mathlib.Core.Path.{◌≡◌, refl, sym, ◌∙◌, ap}
use mathlib.Core.Bool.{Bool, true, false}
use mathlib.Core.List.{List, [], ◌∷◌}
use Prim.Native.Nat.{ℕ, zero, suc}
use lib.IntN.{ℤ, pos, negsuc}
use lib.ListN.{get_or}
use Rattle.quantity.specs.declared.refusals.Refusal.{Refusal}
use Rattle.quantity.specs.declared.refusals.Refusal.TheVariants.{BandCount, NotFinite, ReadingMissing, BandRange, BackgroundTooNear, DerivedRange, TimeRange, TargetNotBetter, TargetRange, OutputTooSmall, NotARequest, SpecimenCount, PriceRange, OtherBands, RegisterFull, RegisterDamaged}
use Rattle.quantity.specs.Refusals.{number_of}
use Rattle.quantity.specs.Answers.{flag}
use Rattle.quantity.specs.Answers.Answer.{refused, numbers}
use Rattle.laws.proofs.Tests.{clash}

-- the refusals by their numbers, from 0; at a number that none has, any
cases : List Refusal
cases =
    BandCount ∷ BandCount ∷ NotFinite ∷ ReadingMissing ∷ BandRange ∷ BackgroundTooNear ∷ DerivedRange ∷ TimeRange ∷ TargetNotBetter ∷ TargetRange ∷ OutputTooSmall ∷ NotARequest
    ∷ SpecimenCount ∷ BandCount ∷ BandCount ∷ BandCount ∷ PriceRange ∷ OtherBands ∷ RegisterFull ∷ RegisterDamaged ∷ []

with_number : ℕ → Refusal
with_number n = get_or cases n BandCount

with-number : (r : Refusal) → with_number (number_of r) ≡ r
unfolding with_number cases
with-number BandCount = refl
with-number NotFinite = refl
with-number ReadingMissing = refl
with-number BandRange = refl
with-number BackgroundTooNear = refl
with-number DerivedRange = refl
with-number TimeRange = refl
with-number TargetNotBetter = refl
with-number TargetRange = refl
with-number OutputTooSmall = refl
with-number NotARequest = refl
with-number SpecimenCount = refl
with-number PriceRange = refl
with-number OtherBands = refl
with-number RegisterFull = refl
with-number RegisterDamaged = refl

pub number-one : (a b : Refusal) → number_of a ≡ number_of b → a ≡ b
number-one a b e = sym (with-number a) ∙ ap with_number e ∙ with-number b

marked : ℤ → Bool
marked (pos zero) = false
marked (pos (suc n)) = true
marked (negsuc n) = true

flag-back : (t : Bool) → marked (flag t) ≡ t
unfolding marked
flag-back true = refl
flag-back false = refl

pub flag_one : (s t : Bool) → flag s ≡ flag t → s ≡ t
flag_one s t e = sym (flag-back s) ∙ ap marked e ∙ flag-back t

-- values are no refusal
pub differ : {A B : Type 0} {n : ℕ} {xs : List A} → refused n ≡ numbers xs → B
differ e = clash cc
