-- What is computed of each kind: its entries are none below and none too high, it counts thirds or octaves, and what it adds
-- before the division tunes its start. Assumes nothing.
use mathlib.Core.Path.{◌≡◌, refl}
use mathlib.Core.Bool.{Bool, true, false}
use mathlib.Core.List.{List}
use mathlib.Core.Logic.{inl, inr}
use Prim.Native.Nat.{ℕ, ◌+◌, ◌*◌, ◌≤◌, ◌<◌}
use native.Mathlib.Omega.{arith}
use lib.Dec.{T, leb, leb→le, lit<, lit≤}
use lib.ListN.{length}
use Rattle.laws.specs.Lists.{listed}
use Rattle.laws.specs.Sums.{sum_to}
use Rattle.laws.proofs.Table.{both, both_left, both_right, every, at as entry_at}
use Rattle.curve.specs.Levels.{at, bottom, Entries, Count}
use Rattle.curve.proofs.Searched.{count_most}
use Rattle.kinds.specs.declared.kinds.Kind.{Kind}
use Rattle.kinds.specs.declared.kinds.Kind.TheVariants.{A3, A1, I3, I1}
use Rattle.kinds.specs.Kinds.{airborne, bands_of, limit_of, reference_of, references_of, C, Ctr, spectra_c, spectra_ctr}
use Rattle.kinds.specs.Numbers.{entries_of, first_of, second_of, numbers_of, start_add, Sound}

fit : Bool → ℕ → ℕ → Bool
fit sign i x = both (leb (bottom sign) x) (leb x 3000)

fitting : (sign : Bool) (xs : List ℕ) → length xs ≡ 16 → T (every (fit sign) 0 xs) → (i : ℕ) → i < 16 → Entries sign (at xs i)
unfolding fit
fitting sign xs l t i h =
    let x : ℕ = at xs i in
    let w : T (both (leb (bottom sign) x) (leb x 3000)) = entry_at (fit sign) xs t i (omega arith) in
    record {
      low = leb→le (bottom sign) x (both_left (leb (bottom sign) x) (leb x 3000) w);
      high = leb→le x 3000 (both_right (leb (bottom sign) x) (leb x 3000) w);
    }

pub count-of : (k : Kind) → Count (bands_of k)
count-of A3 = inl refl
count-of A1 = inr refl
count-of I3 = inl refl
count-of I1 = inr refl

pub bands_most : (k : Kind) → bands_of k ≤ 16
bands_most k = count_most (count-of k)

pub entries_fit : (k : Kind) → (i : ℕ) → i < 16 → Entries (airborne k) (at (entries_of k) i)
unfolding entries_of listed reference_of references_of fit
entries_fit A3 = fitting true (entries_of A3) refl tt
entries_fit A1 = fitting true (entries_of A1) refl tt
entries_fit I3 = fitting false (entries_of I3) refl tt
entries_fit I1 = fitting false (entries_of I1) refl tt

pub first-fit : (k : Kind) → (i : ℕ) → i < 16 → Entries (airborne k) (at (first_of k) i)
unfolding first_of listed C spectra_c fit
first-fit A3 = fitting true (first_of A3) refl tt
first-fit A1 = fitting true (first_of A1) refl tt
first-fit I3 = fitting false (first_of I3) refl tt
first-fit I1 = fitting false (first_of I1) refl tt

pub second-fit : (k : Kind) → (i : ℕ) → i < 16 → Entries (airborne k) (at (second_of k) i)
unfolding second_of listed Ctr spectra_ctr fit
second-fit A3 = fitting true (second_of A3) refl tt
second-fit A1 = fitting true (second_of A1) refl tt
second-fit I3 = fitting false (second_of I3) refl tt
second-fit I1 = fitting false (second_of I1) refl tt

-- what counting levels asks of a kind's entries
pub ruleset fits = (entries_fit, first-fit, second-fit)

pub add_small : (k : Kind) → start_add k < 2000
add_small A3 = lit< tt
add_small A1 = lit< tt
add_small I3 = lit< tt
add_small I1 = lit< tt

origin-near : (k : Kind) → (numbers_of k).origin.0 < 200
unfolding numbers_of
origin-near A3 = lit< tt
origin-near A1 = lit< tt
origin-near I3 = lit< tt
origin-near I1 = lit< tt

pub sound-of : (k : Kind) → Sound (numbers_of k)
unfolding numbers_of
sound-of k = record {
  count = count-of k;
  near = origin-near k;
  entries = entries_fit k;
}

-- the sum of a kind's entries, what it adds and its limit fit together: E is the sum, m ten for each band
abbrev pub Tuned : Bool → ℕ → ℕ → ℕ → Type 0
Tuned true E add m = add + E + 1 ≡ 30 * m
Tuned false E add m = add + E + 1 ≡ 174 * m

pub tuned-of : (k : Kind) → Tuned (airborne k) (sum_to (at (entries_of k)) (bands_of k)) (start_add k) (10 * bands_of k)
unfolding entries_of listed reference_of references_of sum_to
tuned-of A3 = refl
tuned-of A1 = refl
tuned-of I3 = refl
tuned-of I1 = refl

pub limit-below : (k : Kind) → limit_of k ≤ start_add k
limit-below A3 = lit≤ tt
limit-below A1 = lit≤ tt
limit-below I3 = lit≤ tt
limit-below I1 = lit≤ tt
