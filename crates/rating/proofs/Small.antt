-- Every sheet of an accepted set has small numbers: its position is below 500, its terms are within 1000 dB before they are
-- rounded. So no sum of them wraps. Assumes nothing.
use mathlib.Core.Path.{◌≡◌, refl, sym, ◌∙◌, ap, subst}
use mathlib.Core.Bool.{Bool, true, false, cond}
use mathlib.Core.List.{List}
use Prim.Native.Nat.{ℕ, zero, suc, ◌+◌, ◌≤◌, ◌<◌}
use native.Mathlib.Omega.{arith}
use lib.Dec.{eqb}
use lib.IntN.{ℤ, pos, ◌-ℤ◌}
use Rattle.laws.specs.Parts.{P, N}
use Rattle.laws.proofs.Ints.{minus, apart}
use Rattle.quantity.specs.Quantities.{half_even, band_of}
use Rattle.quantity.specs.declared.quantities.BandSet.{BandSet}
use Rattle.quantity.specs.declared.refusals.Refusal.TheVariants.{BandCount, BandRange}
use Rattle.quantity.proofs.Halves.{half-even-near}
use Rattle.energy.specs.Energies.{u}
use Rattle.curve.specs.Bands.{accepted}
use Rattle.curve.specs.Levels.{at, Entries, level_at, least_of, energies_of, start_at}
use Rattle.curve.proofs.Searched.{count_most, count-some, level-at-most, least-below, Found, found}
use Rattle.kinds.specs.declared.kinds.Kind.{Kind}
use Rattle.kinds.specs.declared.kinds.Kind.TheVariants.{A3, A1, I3, I1}
use Rattle.kinds.specs.Kinds.{airborne, bands_of, limit_of}
use Rattle.kinds.specs.Numbers.{entries_of, first_of, second_of, start_add, rating_at}
use Rattle.kinds.proofs.Facts.{count-of, first-fit, second-fit}
use Rattle.rating.specs.declared.sheets.Sheet.{Sheet}
use Rattle.rating.specs.Curve.{first_from, rating_of, shifts_of, within, shifted, start_of}
use Rattle.rating.specs.Sheets.{asked, second_by, sheet_of, rated_of, term_of}
use Rattle.rating.specs.Found.{rating_by, term_of as termAt}
use Rattle.rating.proofs.Weighing.{u-small, term-small}
use Rattle.rating.proofs.Meaning.{start-below, rating-is}
use Rattle.rating.proofs.Sheeted.{first-is, second-given}
use Rattle.rating.specs.Bounds.{Small, SmallSheet}
use Rattle.laws.proofs.Tests.{clash}
use borrow.Author.Tests.{eqb-true}
use Rattle.std.specs.Prelude.{Ok, Option}
use Rattle.quantity.specs.declared.quantities.Decibels.{Decibels}

rating-by : (sign : Bool) (o p : ℕ) → o < 200 → p < 500 → (P (rating_by sign o p) < 500) × (N (rating_by sign o p) < 500)
rating-by true o p h k =
    (omega (arith, minus (pos p) (pos o), apart (pos p -ℤ pos o)), omega (arith, minus (pos p) (pos o), apart (pos p -ℤ pos o)))
rating-by false o p h k =
    (omega (arith, minus (pos o) (pos p), apart (pos o -ℤ pos p)), omega (arith, minus (pos o) (pos p), apart (pos o -ℤ pos p)))

-- the search tries 500 positions
first-most : (ok : ℕ → Bool) (tries s : ℕ) → first_from ok tries s ≤ s + tries
unfolding first_from
first-most ok zero s = omega arith
first-most ok (suc tries) s = go (ok s) (first-most ok tries (suc s))
  where
    go : (b : Bool) → first_from ok tries (suc s) ≤ suc s + tries → cond b s (first_from ok tries (suc s)) ≤ s + suc tries
    go true h = omega arith
    go false h = omega arith

pub shifts-most : (k : Kind) (x : ℕ → ℤ) → shifts_of k x ≤ 500
unfolding shifts_of
shifts-most k x = first-most (λ s. within k x (shifted k (start_of k x) s)) 500 0

pub origin-small : (k : Kind) → rating_at k < 200
origin-small A3 = omega arith
origin-small A1 = omega arith
origin-small I3 = omega arith
origin-small I1 = omega arith

half-small : (t : ℤ) → Small t → Small (half_even t)
half-small t h = (omega (arith, half-even-near t, apart (half_even t)), omega (arith, half-even-near t, apart (half_even t)))

module _ (k : Kind) (s : BandSet) (acc : accepted s (bands_of k) ≡ true) where
  abbrev n : ℕ
  n = bands_of k

  abbrev search : Found (level_at (airborne k) s (entries_of k)) n (limit_of k) (start_at (level_at (airborne k) s (entries_of k)) n (start_add k))
  search = found (level_at (airborne k) s (entries_of k)) n (limit_of k) (start_at (level_at (airborne k) s (entries_of k)) n (start_add k))

  abbrev p : ℕ
  p = search.place

  place-small : p < 500
  place-small = omega (arith, start-below k s acc, search.settled.distance)

  rating-at : rating_of k (band_of s) ≡ rating_by (airborne k) (rating_at k) p
  rating-at = rating-is k s acc p search.moves search.settled

  -- a term by any fitting entries
  term-by : (ws : List ℕ) → ((i : ℕ) → i < 16 → Entries (airborne k) (at ws i))
      → Small (half_even (termAt (airborne k) (rating_at k) (level_at (airborne k) s ws) n p))
  term-by ws fits =
      let g : ℕ → ℕ = level_at (airborne k) s ws in
      let one : 1 ≤ n = count-some (count-of k) in
      let l : least_of g n < 5000 =
      omega (arith, least-below g n 0 one, level-at-most (airborne k) s ws n (count_most (count-of k)) acc fits 0 one) in
      let w : u (energies_of g n (least_of g n)) < 500 = omega (arith, u-small (energies_of g n (least_of g n))) in
      half-small (termAt (airborne k) (rating_at k) g n p)
      (term-small (airborne k) (rating_at k) (least_of g n) (u (energies_of g n (least_of g n))) p (origin-small k) l w place-small)

  second-by : (sign : Bool) → airborne k ≡ sign → Small (term_of (second_by sign k (band_of s)))
  second-by true e =
      subst (λ (t : Option Decibels). Small (term_of t)) (second-given k s acc p rating-at e ∙ ap (λ (b : Bool). second_by b k (band_of s)) e)
      (term-by (second_of k) (second-fit k))
  second-by false e = (omega arith, omega arith)

  pub rating-near : (P (rating_of k (band_of s)) < 500) × (N (rating_of k (band_of s)) < 500)
  rating-near = subst (λ (z : ℤ). (P z < 500) × (N z < 500)) (sym rating-at) (rating-by (airborne k) (rating_at k) p (origin-small k) place-small)

  pub sheet-small : SmallSheet (sheet_of k s)
  unfolding sheet_of
  sheet-small = record {
    rating = (omega (arith, rating-near.0), omega (arith, rating-near.1));
    first = subst Small (first-is k s acc p rating-at) (term-by (first_of k) (first-fit k));
    second = second-by (airborne k) refl;
  }

-- a rating that was given is that of an accepted set
pub record RatedBy (k : Kind) (s : BandSet) (sheet : Sheet) : Type 0 where
  pub len : s.len ≡ bands_of k
  pub acc : accepted s (bands_of k) ≡ true
  pub same : sheet ≡ sheet_of k s
  pub small : SmallSheet sheet

pub rated-by : (k : Kind) (s : BandSet) (sheet : Sheet) → rated_of k s ≡ Ok sheet → RatedBy k s sheet
unfolding rated_of
rated-by k s sheet e = go (eqb s.len (bands_of k)) (accepted s (bands_of k)) refl refl e
  where
    go : (a b : Bool) → eqb s.len (bands_of k) ≡ a → accepted s (bands_of k) ≡ b → asked a (asked b (Ok (sheet_of k s)) BandRange) BandCount ≡ Ok sheet
        → RatedBy k s sheet
    go true true h f g =
        let q : sheet ≡ sheet_of k s = cc in
        record { len = eqb-true s.len (bands_of k) h; acc = f; same = q; small = subst SmallSheet (sym q) (sheet-small k s f) }
    go true false h f g = clash cc
    go false b h f g = clash cc

-- its count of shifts is that of the search
pub rated-shifts : (k : Kind) (s : BandSet) (sheet : Sheet) → rated_of k s ≡ Ok sheet → sheet.shifts ≤ 500
unfolding sheet_of
rated-shifts k s sheet e = rw (rated-by k s sheet e).same (shifts-most k (band_of s))
