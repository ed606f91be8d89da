-- Document 01, "Pencil checks": the cases marked P, as one table over the definitions, with the ties of document 02, request (ii).
-- Each row is a claim that is computed.
use Rattle.std.specs.Prelude.{false, List, [], ◌∷◌, ◌++◌, map, ◌≡◌, ℕ, ◌-◌, ℤ, pos, neg_ℤ, get_or, length, replicate, Option, None, Some, Ok, Err}
use Rattle.quantity.specs.declared.refusals.Refusal.{Refusal}
use Rattle.quantity.specs.declared.refusals.Refusal.TheVariants.{BandCount}
use Rattle.quantity.specs.declared.quantities.BandSet.{BandSet}
use Rattle.quantity.specs.declared.quantities.Decibels.{Decibels}
use Rattle.energy.specs.Corrections.{c, k}
use Rattle.kinds.specs.declared.kinds.Kind.{Kind}
use Rattle.kinds.specs.declared.kinds.Kind.TheVariants.{A3, A1, I3}
use Rattle.kinds.specs.Kinds.{C, Ctr}
use Rattle.rating.specs.Curve.{total, rating_of}
use Rattle.rating.specs.Terms.{airborne_term, impact_term}
use Rattle.rating.specs.Sheets.{rated_of, decibels}
use Rattle.lift.specs.Reach.{lift_list}
use Rattle.products.specs.Covers.{cover_of}
use Rattle.quantity.specs.Quantities.{tenths, nought, half_even}

-- bands from the lowest, in tenths
abbrev pub Bands : Type 0
Bands = List ℤ

abbrev pub at : Bands → ℕ → ℤ
at x i = get_or x i (pos 0)

-- the same as a band set with no marks: its values, then zeros
abbrev pub set_of : Bands → BandSet
set_of x = record { values = map tenths x ++ replicate (16 - length x) nought; marks = 0; len = length x }

-- sixteen times 50.0
abbrev pub fifties : Bands
fifties = pos 500 ∷ pos 500 ∷ pos 500 ∷ pos 500 ∷ pos 500 ∷ pos 500 ∷ pos 500 ∷ pos 500 ∷ pos 500 ∷ pos 500 ∷ pos 500 ∷ pos 500 ∷ pos 500 ∷ pos 500 ∷ pos 500 ∷ pos 500 ∷ []

-- the octaves of the line K2
abbrev pub octaves : Bands
octaves = pos 240 ∷ pos 330 ∷ pos 400 ∷ pos 430 ∷ pos 440 ∷ []

-- the four octaves of the line K4
abbrev pub four : Bands
four = pos 240 ∷ pos 330 ∷ pos 400 ∷ pos 430 ∷ []

-- the reference floor
abbrev pub floor : Bands
floor = pos 670 ∷ pos 675 ∷ pos 680 ∷ pos 685 ∷ pos 690 ∷ pos 695 ∷ pos 700 ∷ pos 705 ∷ pos 710 ∷ pos 715 ∷ pos 720 ∷ pos 720 ∷ pos 720 ∷ pos 720 ∷ pos 720 ∷ pos 720 ∷ []

-- the reference floor less 0 0 0 2 6 10 14 18 22 26 30 30 30 30 30 30 dB
abbrev pub covered : Bands
covered = pos 670 ∷ pos 675 ∷ pos 680 ∷ pos 665 ∷ pos 630 ∷ pos 595 ∷ pos 560 ∷ pos 525 ∷ pos 490 ∷ pos 455 ∷ pos 420 ∷ pos 420 ∷ pos 420 ∷ pos 420 ∷ pos 420 ∷ pos 420 ∷ []

-- a cover's improvements of 0 0 0 2 6 10 14 18 22 26 30 30 30 30 30 30 dB
abbrev pub improvements : Bands
improvements = pos 0 ∷ pos 0 ∷ pos 0 ∷ pos 20 ∷ pos 60 ∷ pos 100 ∷ pos 140 ∷ pos 180 ∷ pos 220 ∷ pos 260 ∷ pos 300 ∷ pos 300 ∷ pos 300 ∷ pos 300 ∷ pos 300 ∷ pos 300 ∷ []

-- x = K + 50 dB, with 500 Hz at 40.0, and with 400 and 500 Hz each 8 dB down
abbrev pub even : Bands
even = pos 310 ∷ pos 340 ∷ pos 370 ∷ pos 400 ∷ pos 430 ∷ pos 460 ∷ pos 490 ∷ pos 500 ∷ pos 510 ∷ pos 520 ∷ pos 530 ∷ pos 540 ∷ pos 540 ∷ pos 540 ∷ pos 540 ∷ pos 540 ∷ []

abbrev pub dipped : Bands
dipped = pos 310 ∷ pos 340 ∷ pos 370 ∷ pos 400 ∷ pos 430 ∷ pos 460 ∷ pos 490 ∷ pos 400 ∷ pos 510 ∷ pos 520 ∷ pos 530 ∷ pos 540 ∷ pos 540 ∷ pos 540 ∷ pos 540 ∷ pos 540 ∷ []

abbrev pub twice_dipped : Bands
twice_dipped = pos 310 ∷ pos 340 ∷ pos 370 ∷ pos 400 ∷ pos 430 ∷ pos 460 ∷ pos 410 ∷ pos 420 ∷ pos 510 ∷ pos 520 ∷ pos 530 ∷ pos 540 ∷ pos 540 ∷ pos 540 ∷ pos 540 ∷ pos 540 ∷ []

-- 50.0 with the last of sixteen thirds at 43.0; 50.0 with the lowest of five octaves at 36.0; 68.0, twice 66.0, then 30.0
abbrev pub last_weak : Bands
last_weak = pos 500 ∷ pos 500 ∷ pos 500 ∷ pos 500 ∷ pos 500 ∷ pos 500 ∷ pos 500 ∷ pos 500 ∷ pos 500 ∷ pos 500 ∷ pos 500 ∷ pos 500 ∷ pos 500 ∷ pos 500 ∷ pos 500 ∷ pos 430 ∷ []

abbrev pub lowest_weak : Bands
lowest_weak = pos 360 ∷ pos 500 ∷ pos 500 ∷ pos 500 ∷ pos 500 ∷ []

abbrev pub rumbling : Bands
rumbling = pos 680 ∷ pos 660 ∷ pos 660 ∷ pos 300 ∷ pos 300 ∷ pos 300 ∷ pos 300 ∷ pos 300 ∷ pos 300 ∷ pos 300 ∷ pos 300 ∷ pos 300 ∷ pos 300 ∷ pos 300 ∷ pos 300 ∷ pos 300 ∷ []

-- one pencil check
pub data Case : Type 0 where
  -- a set of a kind has this sheet: rating, first term, second term, count of shifts, no mark
  rates : Kind → Bands → ℤ → ℤ → Option Decibels → ℕ → Case
  -- a set of a kind is refused
  refuses : Kind → Bands → Refusal → Case
  -- a set's rating alone
  rating : Kind → Bands → ℤ → Case
  -- the total of a set's deficits at a position
  totals : Kind → Bands → ℤ → ℕ → Case
  -- the lift list of a set at a target
  lists : Kind → Bands → ℤ → List ℕ → Case
  -- a cover's improvement rating and term, of its improvements
  improves : Bands → ℤ → ℤ → Case
  -- tenths in whole decibels
  rounds : ℤ → ℤ → Case
  -- a set's term by a spectrum, and its impact term, in tenths
  weighs : Kind → Bands → (ℕ → ℤ) → ℤ → Case
  sums : Kind → Bands → ℤ → Case
  -- c(d), and k(T)
  background : ℕ → ℕ → Case
  time : ℕ → ℤ → Case

-- what a check claims
abbrev pub Claim : Case → Type 0
Claim (rates k x r t u s) = rated_of k (set_of x) ≡ Ok (record { rating = decibels r; first = decibels t; second = u; shifts = s; limit = false })
Claim (refuses k x r) = rated_of k (set_of x) ≡ Err r
Claim (rating k x r) = rating_of k (at x) ≡ r
Claim (totals k x p t) = total k (at x) p ≡ t
Claim (lists k x t ms) = lift_list k (at x) t ≡ ms
Claim (improves x r t) = cover_of (set_of x) ≡ Ok (record { improvement = decibels r; term = decibels t; limit = false })
Claim (rounds t r) = half_even t ≡ r
Claim (weighs k x L t) = airborne_term k (at x) L ≡ t
Claim (sums k x t) = impact_term k (at x) ≡ t
Claim (background d n) = c d ≡ n
Claim (time t z) = k t ≡ z

abbrev pub All : List Case → Type 0
All [] = Unit {0}
All (x ∷ xs) = Claim x × All xs

unfoldable pub table : List Case
table =
    -- the four lines of the whole example
    rates A3 fifties (pos 50) (pos 0) (Some (decibels (pos 0))) 5 ∷
    rates A1 octaves (pos 42) (neg_ℤ (pos 2)) (Some (decibels (neg_ℤ (pos 6)))) 0 ∷
    rates I3 floor (pos 78) (neg_ℤ (pos 10)) None 13 ∷
    refuses A1 four BandCount ∷
    -- K + 50 dB rates 52, with a total of exactly 320; target 53 lists nothing
    rating A3 even (pos 52) ∷
    totals A3 even (pos 52) 320 ∷
    lists A3 even (pos 53) [] ∷
    -- with 500 Hz at 40.0; target 52 lists 128 alone
    rating A3 dipped (pos 51) ∷
    lists A3 dipped (pos 52) (128 ∷ []) ∷
    -- with 400 and 500 Hz each 8 dB down; target 52 lists 192 alone
    rating A3 twice_dipped (pos 51) ∷
    lists A3 twice_dipped (pos 52) (192 ∷ []) ∷
    -- the covered floor, and the cover
    rating I3 covered (pos 59) ∷
    improves improvements (pos 19) (neg_ℤ (pos 10)) ∷
    -- ties: 0.5 gives 0, -1.5 gives -2, 2.5 gives 2; with the other sign the same size
    rounds (pos 5) (pos 0) ∷
    rounds (neg_ℤ (pos 15)) (neg_ℤ (pos 2)) ∷
    rounds (pos 25) (pos 2) ∷
    rounds (neg_ℤ (pos 5)) (pos 0) ∷
    rounds (pos 15) (pos 2) ∷
    rounds (neg_ℤ (pos 25)) (neg_ℤ (pos 2)) ∷
    -- and where they stand: Ctr of 0.5, C of -1.5, an impact term of 2.5
    weighs A3 last_weak (Ctr A3) (pos 5) ∷
    rates A3 last_weak (pos 49) (neg_ℤ (pos 1)) (Some (decibels (pos 0))) 6 ∷
    weighs A1 lowest_weak (C A1) (neg_ℤ (pos 15)) ∷
    rates A1 lowest_weak (pos 51) (neg_ℤ (pos 2)) (Some (decibels (neg_ℤ (pos 4)))) 2 ∷
    sums I3 rumbling (pos 25) ∷
    rates I3 rumbling (pos 54) (pos 2) None 23 ∷
    -- corrections
    background 60 13 ∷
    background 61 12 ∷
    background 70 10 ∷
    background 149 1 ∷
    time 10 (neg_ℤ (pos 70)) ∷
    time 50 (pos 0) ∷
    time 100 (pos 30) ∷
    time 2000 (pos 160) ∷ []
