-- What the field writers leave: stores at the front are texts, and each field's text is put together from its parts.
-- Assumes nothing.
use mathlib.Core.Path.{◌≡◌, refl, sym, ◌∙◌, ap}
use mathlib.Core.Bool.{Bool, true, false}
use mathlib.Core.List.{List, [], ◌∷◌, ◌++◌}
use Prim.Native.Nat.{ℕ, ◌+◌, ◌/◌, ◌%◌, ◌≤◌, ◌<◌}
use native.Mathlib.Omega.{arith}
use lib.IntN.{ℤ, pos, negsuc}
use lib.ListN.{length, set, length-append}
use Rattle.laws.specs.Parts.{P, N}
use Rattle.quantity.specs.Refusals.{number_of}
use Rattle.quantity.specs.declared.refusals.Refusal.{Refusal}
use Rattle.quantity.specs.declared.refusals.Refusal.TheVariants.{BandCount, NotFinite, ReadingMissing, BandRange, BackgroundTooNear, DerivedRange, TimeRange, TargetNotBetter, TargetRange, OutputTooSmall, NotARequest, SpecimenCount, PriceRange, OtherBands, RegisterFull, RegisterDamaged}
use Rattle.rating.specs.declared.sheets.Sheet.{Sheet}
use Rattle.answer.specs.Texts.{tab, hyphen, digit, others, line_text, decimal, number_text, term_text, set_text, sheet_fields, no_request_text}
use Rattle.laws.specs.Lists.{front}
use Rattle.answer.proofs.Decimals.{decimal-one, decimal-more}
use Rattle.laws.proofs.Fronts.{front-more}
pub use Rattle.laws.proofs.Fronts.{tail-length}

pub stored1 : (l : List ℕ) (x : ℕ) → 1 ≤ length l → set l 0 x ≡ front (x ∷ []) l
stored1 l x h = front-more [] l 0 x refl h

pub stored2 : (l : List ℕ) (x y : ℕ) → 2 ≤ length l → set (set l 0 x) 1 y ≡ front (x ∷ y ∷ []) l
stored2 l x y h = ap (λ (r : List ℕ). set r 1 y) (stored1 l x (omega arith)) ∙ front-more (x ∷ []) l 1 y refl h

pub stored3 : (l : List ℕ) (x y z : ℕ) → 3 ≤ length l → set (set (set l 0 x) 1 y) 2 z ≡ front (x ∷ y ∷ z ∷ []) l
stored3 l x y z h = ap (λ (r : List ℕ). set r 2 z) (stored2 l x y (omega arith)) ∙ front-more (x ∷ y ∷ []) l 2 z refl h

pub stored7 : (l : List ℕ) → 7 ≤ length l
    → set (set (set (set (set (set (set l 0 63) 1 9) 2 63) 3 9) 4 49) 5 49) 6 10 ≡ front no_request_text l
unfolding no_request_text line_text others decimal Rattle.answer.specs.Texts.decimal_by
stored7 l h =
    ap (λ (r : List ℕ). set (set (set (set r 3 9) 4 49) 5 49) 6 10) (stored3 l 63 9 63 (omega arith))
    ∙ ap (λ (r : List ℕ). set (set (set r 4 49) 5 49) 6 10) (front-more (63 ∷ 9 ∷ 63 ∷ []) l 3 9 refl (omega arith))
    ∙ ap (λ (r : List ℕ). set (set r 5 49) 6 10) (front-more (63 ∷ 9 ∷ 63 ∷ 9 ∷ []) l 4 49 refl (omega arith))
    ∙ ap (λ (r : List ℕ). set r 6 10) (front-more (63 ∷ 9 ∷ 63 ∷ 9 ∷ 49 ∷ []) l 5 49 refl (omega arith))
    ∙ front-more (63 ∷ 9 ∷ 63 ∷ 9 ∷ 49 ∷ 49 ∷ []) l 6 10 refl (omega arith)

pub none-length : 7 ≡ length no_request_text
unfolding no_request_text line_text others decimal Rattle.answer.specs.Texts.decimal_by
none-length = refl

-- digits
pub digits-one : (n : ℕ) (l : List ℕ) → n < 10 → 1 ≤ length l → set l 0 (digit n) ≡ front (decimal n) l
digits-one n l h k = stored1 l (digit n) k ∙ ap (λ (t : List ℕ). front t l) (sym (decimal-one n h))

two_digits : (n : ℕ) → 10 ≤ n → n < 100 → decimal n ≡ digit (n / 10) ∷ digit (n % 10) ∷ []
two_digits n h k = decimal-more n h ∙ ap (λ (t : List ℕ). t ++ (digit (n % 10) ∷ [])) (decimal-one (n / 10) (omega arith))

pub two-length : (n : ℕ) → 10 ≤ n → n < 100 → 2 ≡ length (decimal n)
two-length n h k = sym (ap length (two_digits n h k))

pub one-length : (n : ℕ) → n < 10 → 1 ≡ length (decimal n)
one-length n h = sym (ap length (decimal-one n h))

pub digits-two : (n : ℕ) (l : List ℕ) → 10 ≤ n → n < 100 → 2 ≤ length l → set (set l 0 (digit (n / 10))) 1 (digit (n % 10)) ≡ front (decimal n) l
digits-two n l h k m = stored2 l (digit (n / 10)) (digit (n % 10)) m ∙ ap (λ (t : List ℕ). front t l) (sym (two_digits n h k))

pub more-length : (n : ℕ) → 10 ≤ n → length (decimal n) ≡ length (decimal (n / 10)) + 1
more-length n h = ap length (decimal-more n h) ∙ length-append (decimal (n / 10)) (digit (n % 10) ∷ [])

pub digits_more : (n k : ℕ) (l r : List ℕ) → 10 ≤ n → k ≡ length (decimal (n / 10)) → r ≡ front (decimal (n / 10)) l → length (decimal n) ≤ length l
    → set r k (digit (n % 10)) ≡ front (decimal n) l
digits_more n k l r h e f m =
    ap (λ (x : List ℕ). set x k (digit (n % 10))) f
    ∙ front-more (decimal (n / 10)) l k (digit (n % 10)) e (omega (arith, more-length n h))
    ∙ ap (λ (t : List ℕ). front t l) (sym (decimal-more n h))

-- numbers
pub number-below : (z : ℤ) → 0 < N z → number_text z ≡ hyphen ∷ decimal (N z)
unfolding number_text
number-below (pos n) h = absurd (omega arith)
number-below (negsuc n) h = refl

pub number-above : (z : ℤ) → N z ≡ 0 → number_text z ≡ decimal (P z)
unfolding number_text
number-above (pos n) h = refl
number-above (negsuc n) h = absurd (omega arith)

pub number_small : (r : Refusal) → number_of r < 100
number_small BandCount = omega arith
number_small NotFinite = omega arith
number_small ReadingMissing = omega arith
number_small BandRange = omega arith
number_small BackgroundTooNear = omega arith
number_small DerivedRange = omega arith
number_small TimeRange = omega arith
number_small TargetNotBetter = omega arith
number_small TargetRange = omega arith
number_small OutputTooSmall = omega arith
number_small NotARequest = omega arith
number_small SpecimenCount = omega arith
number_small PriceRange = omega arith
number_small OtherBands = omega arith
number_small RegisterFull = omega arith
number_small RegisterDamaged = omega arith

pub below_length : (z : ℤ) → 0 < N z → length (number_text z) ≡ 1 + length (decimal (N z))
below_length z h = ap length (number-below z h) ∙ omega arith

pub above-length : (z : ℤ) → N z ≡ 0 → length (number_text z) ≡ length (decimal (P z))
above-length z h = ap length (number-above z h)

-- the lengths of whole answers
pub others-length : (f : List ℕ) (fs : List (List ℕ)) → length (others (f ∷ fs)) ≡ 1 + (length f + length (others fs))
unfolding others
others-length f fs = omega (arith, length-append f (others fs))

pub end-length : length (others []) ≡ 1
unfolding others
end-length = refl

pub mark-length : (t : Bool) → length (set_text t) ≡ 1
mark-length true = refl
mark-length false = refl

pub sheet-length : (s : Sheet)
    → length (others (sheet_fields s)) ≡ 9 + (length (number_text s.rating.0) + length (number_text s.first.0) + length (term_text s.second)) + length (decimal s.shifts)
sheet-length s =
    let f5 : List (List ℕ) = set_text s.limit ∷ [] in
    let f4 : List (List ℕ) = decimal s.shifts ∷ f5 in
    let f3 : List (List ℕ) = term_text s.second ∷ f4 in
    let f2 : List (List ℕ) = number_text s.first.0 ∷ f3 in
    let f1 : List (List ℕ) = number_text s.rating.0 ∷ f2 in
    omega (
      arith,
      others-length (digit 0 ∷ []) f1,
      others-length (number_text s.rating.0) f2,
      others-length (number_text s.first.0) f3,
      others-length (term_text s.second) f4,
      others-length (decimal s.shifts) f5,
      others-length (set_text s.limit) [],
      end-length,
      mark-length s.limit,
    )

pub refused-length : (n : ℕ) → length (others (decimal n ∷ [])) ≡ 2 + length (decimal n)
refused-length n = omega (arith, others-length (decimal n) [], end-length)

-- a number behind a tab
pub number-front : (z : ℤ) (l : List ℕ) {xs : List ℕ} → 0 < N z → xs ≡ front (tab ∷ hyphen ∷ decimal (N z)) l → xs ≡ front (tab ∷ number_text z) l
number-front z l h e = e ∙ ap (λ (t : List ℕ). front (tab ∷ t) l) (sym (number-below z h))

pub count-front : (z : ℤ) (l : List ℕ) {xs : List ℕ} → N z ≡ 0 → xs ≡ front (tab ∷ decimal (P z)) l → xs ≡ front (tab ∷ number_text z) l
count-front z l h e = e ∙ ap (λ (t : List ℕ). front (tab ∷ t) l) (sym (number-above z h))

-- digits written, how long numbers are, and answers
pub ruleset digits = (one-length, two-length, more-length, digits-one, digits-two, digits_more)

pub ruleset number_lengths = (below_length, above-length)

pub ruleset answer_lengths = (sheet-length, refused-length)

-- what is written behind what was written
pub ruleset numbers = (number_lengths, stored2, tail-length, count-front)
