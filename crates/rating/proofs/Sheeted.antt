-- The numbers that the code puts on a sheet are the defined ones: each spectrum's levels count x - 10 L, or count down from
-- 150 dB, so each term is the defined term, and the record is the defined sheet. Assumes nothing.
use mathlib.Core.Path.{◌≡◌, refl, sym, ◌∙◌, ap, ap₂, subst}
use mathlib.Core.Bool.{Bool, true, false}
use mathlib.Core.List.{List}
use Prim.Native.Nat.{ℕ, ◌+◌, ◌*◌, ◌/◌, ◌≤◌, ◌<◌}
use native.Mathlib.Omega.{arith}
use lib.ListN.{length, take}
use Rattle.std.proofs.lemmas.List.{get_or-take, length-take-le}
use lib.IntN.{ℤ, pos, ◌-ℤ◌, ◌*ℤ◌}
use Rattle.laws.specs.Parts.{P, N}
use Rattle.laws.proofs.Ints.{minus, apart, times-P, times-N}
use Rattle.laws.proofs.Lists.{listed_at}
use Rattle.laws.proofs.Sums.{sum_same}
use Rattle.quantity.specs.Quantities.{half_even, band_of}
use Rattle.quantity.specs.declared.quantities.BandSet.{BandSet}
use Rattle.quantity.specs.declared.quantities.Decibels.{Decibels}
use Rattle.curve.specs.Bands.{accepted, limited}
use Rattle.laws.specs.Tests.{any_to, bit}
use Rattle.energy.specs.Energies.{u, Summed}
use Rattle.curve.specs.Levels.{at, level_at, Levels, Entries, Count}
use Rattle.curve.proofs.Counted.{PartsOf, counted, level-parts}
use Rattle.laws.proofs.Counted.{Up}
use Rattle.curve.proofs.Searched.{band-in, count_most, count-some, level-at-most, least-below, energies-bounds, settled-alike}
use Rattle.kinds.specs.declared.kinds.Kind.{Kind}
use Rattle.kinds.specs.declared.kinds.Numbers.{Numbers}
use Rattle.kinds.specs.Kinds.{airborne, bands_of, limit_of, C, Ctr}
use Rattle.kinds.specs.Numbers.{weight_by, entries_of, first_of, second_of, start_add, numbers_of, rating_at}
use Rattle.kinds.proofs.Facts.{count-of, first-fit, second-fit, sound-of}
use Rattle.rating.specs.declared.sheets.Sheet.{Sheet}
use Rattle.rating.specs.Curve.{rating_of, shifts_of}
use Rattle.rating.specs.Terms.{airborne_term}
use Rattle.rating.specs.Sheets.{decibels, first_by, second_by, sheet_of}
use Rattle.rating.specs.Found.{SoughtBy, Sought, WeighedOf, rating_by, term_by, term_of}
use Rattle.rating.proofs.Meaning.{rating-is, shifts-is, start-below}
use Rattle.rating.proofs.Weighing.{term-alike, airborne-term, impact-term}
use Rattle.std.specs.Prelude.{Option, Some, None}

-- an airborne weight, by the parts of its spectrum value
weight-parts : (L : ℤ) → 200 ≤ weight_by true L → weight_by true L + 10 * P L ≡ 200 + 10 * N L
weight-parts L h = omega (arith, minus (pos 200) (pos 10 *ℤ L), times-P 10 L, times-N 10 L, apart (pos 200 -ℤ pos 10 *ℤ L))

counts_up : (x L : ℤ) (w g : ℕ) → w ≡ weight_by true L → 200 ≤ w → PartsOf true x w g → Up 200 (x -ℤ pos 10 *ℤ L) g
counts_up x L w g e h l =
    let k : w + 10 * P L ≡ 200 + 10 * N L = ap (λ (t : ℕ). t + 10 * P L) e ∙ weight-parts L (subst (λ (t : ℕ). 200 ≤ t) e h) in
    omega (arith, minus x (pos 10 *ℤ L), times-P 10 L, times-N 10 L)

module _ (k : Kind) (s : BandSet) (acc : accepted s (bands_of k) ≡ true) where
  abbrev n : ℕ
  n = bands_of k

  some : 1 ≤ n
  some = count-some (count-of k)

  most : n ≤ 16
  most = count_most (count-of k)

  -- the parts of a level, by any fitting entries
  parts-by : (sign : Bool) (ws : List ℕ) → ((i : ℕ) → i < 16 → Entries sign (at ws i)) → (i : ℕ) → i < n
      → PartsOf sign (band_of s i) (at ws i) (level_at sign s ws i)
  parts-by sign ws fits i h = level-parts sign (band_of s i) (at ws i)
      (counted sign (band_of s i) (at ws i) (band-in s n acc i h) (fits i (omega (arith, most))))

  module _ (p : ℕ) (r : rating_of k (band_of s) ≡ rating_by (airborne k) (rating_at k) p) where
    -- a term by a spectrum of an airborne kind
    airborne-by : (L : ℕ → ℤ) (ws : List ℕ) → airborne k ≡ true → ((i : ℕ) → i < 16 → at ws i ≡ weight_by (airborne k) (L i))
        → ((i : ℕ) → i < 16 → Entries (airborne k) (at ws i))
        → term_of true (rating_at k) (level_at true s ws) n p ≡ airborne_term k (band_of s) L
    airborne-by L ws e is fits =
        let fits' = subst (λ (t : Bool). (i : ℕ) → i < 16 → Entries t (at ws i)) e fits in
        let is' = subst (λ (t : Bool). (i : ℕ) → i < 16 → at ws i ≡ weight_by t (L i)) e is in
        sym (airborne-term k (band_of s) (rating_at k) p some L (level_at true s ws)
        (λ i h. counts_up (band_of s i) (L i) (at ws i) (level_at true s ws i) (is' i (omega (arith, most))) (fits' i (omega (arith, most))).low
        (parts-by true ws fits' i h))
        (subst (λ (t : Bool). rating_of k (band_of s) ≡ rating_by t (rating_at k) p) e r))

    first-at : (i : ℕ) → i < 16 → at (first_of k) i ≡ weight_by (airborne k) (C k i)
    unfolding first_of
    first-at i h = listed_at 0 (λ j. weight_by (airborne k) (C k j)) 16 i h

    second_at : (i : ℕ) → i < 16 → at (second_of k) i ≡ weight_by (airborne k) (Ctr k i)
    unfolding second_of
    second_at i h = listed_at 0 (λ j. weight_by (airborne k) (Ctr k j)) 16 i h

    first_by_lem : (sign : Bool) → airborne k ≡ sign → half_even (term_of sign (rating_at k) (level_at sign s (first_of k)) n p) ≡ first_by sign k (band_of s)
    first_by_lem true e = ap half_even (airborne-by (C k) (first_of k) e first-at (first-fit k))
    first_by_lem false e =
        let fits' = subst (λ (t : Bool). (i : ℕ) → i < 16 → Entries t (at (first_of k) i)) e (first-fit k) in
        let is' = subst (λ (t : Bool). (i : ℕ) → i < 16 → at (first_of k) i ≡ weight_by t (C k i)) e first-at in
        ap half_even (sym (impact-term k (band_of s) (rating_at k) p some (level_at false s (first_of k))
        (λ i h. omega (arith, parts-by false (first_of k) fits' i h, is' i (omega (arith, most))))
        (subst (λ (t : Bool). rating_of k (band_of s) ≡ rating_by t (rating_at k) p) e r)))

    pub first-is : half_even (term_of (airborne k) (rating_at k) (level_at (airborne k) s (first_of k)) n p) ≡ first_by (airborne k) k (band_of s)
    first-is = first_by_lem (airborne k) refl

    pub second-given : airborne k ≡ true
        → Some (decibels (half_even (term_of (airborne k) (rating_at k) (level_at (airborne k) s (second_of k)) n p))) ≡ second_by (airborne k) k (band_of s)
    second-given e =
        ap (λ (t : Bool). Some (decibels (half_even (term_of t (rating_at k) (level_at t s (second_of k)) n p)))) e
        ∙ ap (λ (z : ℤ). Some (decibels (half_even z))) (airborne-by (Ctr k) (second_of k) e second_at (second-fit k))
        ∙ ap (λ (t : Bool). second_by t k (band_of s)) (sym e)

    pub second-absent : airborne k ≡ false → None ≡ second_by (airborne k) k (band_of s)
    second-absent e = ap (λ (t : Bool). second_by t k (band_of s)) (sym e)

  -- the record is the defined sheet
  pub sheet-is : (r : Sheet) → r.rating.0 ≡ rating_of k (band_of s) → r.first.0 ≡ first_by (airborne k) k (band_of s)
      → r.second ≡ second_by (airborne k) k (band_of s) → r.shifts ≡ shifts_of k (band_of s) → r.limit ≡ any_to (bit s.marks) n
      → r ≡ sheet_of k s
  unfolding sheet_of limited
  sheet-is r a b c d e = λ i. record {
    rating = record { 0 = a i };
    first = record { 0 = b i };
    second = c i;
    shifts = d i;
    limit = e i;
  }

-- ---- the same, of an accepted set and the numbers that the code has fetched

-- the count of the numbers fetched is the kind's
bands-are : (k : Kind) (n : Numbers) → n ≡ numbers_of k → n.bands ≡ bands_of k
unfolding numbers_of
bands-are k n e = ap (λ (m : Numbers). m.bands) e

-- and no more than a set has places for
pub bands-most : (k : Kind) → (numbers_of k).bands ≤ 16
unfolding numbers_of
bands-most k = count_most (count-of k)

-- what is asked where values and levels are lent
pub ruleset lending = (bands-most, band-in)

pub record Fetched (k : Kind) (s : BandSet) (m : Numbers) : Type 0 where
  pub acc : accepted s (bands_of k) ≡ true
  pub numbers : m ≡ numbers_of k

-- and levels that are lent: those of the set's bands, and no more
pub record Lent (k : Kind) (s : BandSet) (entries lent : List ℕ) : Type 0 where
  pub count : length lent ≡ bands_of k
  pub each : (i : ℕ) → i < bands_of k → at lent i ≡ level_at (airborne k) s entries i

module _ {k : Kind} {s : BandSet} {m : Numbers} (f : Fetched k s m) where
  near : m.origin.0 < 200
  near = subst (λ (n : Numbers). n.origin.0 < 200) (sym f.numbers) (sound-of k).near

  -- of the levels counted from the set's values, those lent
  pub lent-by : {entries levels : List ℕ} → Levels (airborne k) (band_of s) entries (bands_of k) levels
      → Lent k s entries (take m.bands levels)
  lent-by {entries} {levels} l =
      let e : m.bands ≡ bands_of k = bands-are k m f.numbers in record {
        count = rw e (length-take-le (bands_of k) levels (omega (arith, l.whole, most k s f.acc)));
        each = λ i h. get_or-take m.bands levels i 0 (omega arith) ∙ l.each i h;
      }

  -- a term by what is weighed of a set's levels is the set's
  term-alone : (entries levels : List ℕ) → ((i : ℕ) → i < bands_of k → at levels i ≡ level_at (airborne k) s entries i)
      → (p : ℕ) {least sum : ℕ} {d : ℤ} → WeighedOf (at levels) (bands_of k) least sum
      → d ≡ half_even (term_by m.airborne m.origin.0 least (u sum) p)
      → d ≡ half_even (term_of m.airborne m.origin.0 (level_at (airborne k) s entries) (bands_of k) p)
  term-alone entries levels each p w d =
      d
      ∙ ap₂ (λ (least sum : ℕ). half_even (term_by m.airborne m.origin.0 least (u sum) p)) w.least-is w.sum_is
      ∙ ap half_even (term-alike m.airborne m.origin.0 (at levels) (level_at (airborne k) s entries) (bands_of k) p (some k s f.acc) each)

  -- so of all places that the levels were counted to
  pub term-by : {entries levels : List ℕ} → Levels (airborne k) (band_of s) entries (bands_of k) levels
      → (p : ℕ) {least sum : ℕ} {d : ℤ} → WeighedOf (at levels) m.bands least sum
      → d ≡ half_even (term_by m.airborne m.origin.0 least (u sum) p)
      → d ≡ half_even (term_of m.airborne m.origin.0 (level_at (airborne k) s entries) m.bands p)
  term-by {entries} {levels} l p {least} {sum} {d} w e =
      let same : m.bands ≡ bands_of k = bands-are k m f.numbers in
      let v : WeighedOf (at levels) (bands_of k) least sum = subst (λ (n : ℕ). WeighedOf (at levels) n least sum) same w in
      subst (λ (n : ℕ). d ≡ half_even (term_of m.airborne m.origin.0 (level_at (airborne k) s entries) n p)) (sym same)
      (term-alone entries levels l.each p v e)

  module _ {entries lent : List ℕ} (l : Lent k s entries lent) where
    pub counted-bands : Count (length lent)
    counted-bands = subst Count (sym l.count) (count-of k)

    -- levels by fitting entries are small, and so is what is weighed of them
    pub low : ((i : ℕ) → i < 16 → Entries (airborne k) (at entries i)) → (i : ℕ) → i < length lent → at lent i ≤ 4500
    low fits i h =
        let q : i < bands_of k = omega (arith, l.count) in
        omega (arith, l.each i q, level-at-most (airborne k) s entries (bands_of k) (most k s f.acc) f.acc fits i q)

    pub weighed : ((i : ℕ) → i < 16 → Entries (airborne k) (at entries i)) → {least sum : ℕ} → WeighedOf (at lent) (length lent) least sum
        → Summed sum × (least < 5000)
    weighed fits w =
        let some : 1 ≤ length lent = count-some counted-bands in
        let b = energies-bounds (at lent) (length lent) counted-bands in (
          (omega (arith, w.sum_is, b.0), omega (arith, w.sum_is, b.1)),
          omega (arith, w.least-is, least-below (at lent) (length lent) 0 some, low fits 0 some),
        )

    -- and so is a term by what is weighed of them
    pub term-lent : (p : ℕ) {least sum : ℕ} {d : ℤ} → WeighedOf (at lent) (length lent) least sum
        → d ≡ half_even (term_by m.airborne m.origin.0 least (u sum) p)
        → d ≡ half_even (term_of m.airborne m.origin.0 (level_at (airborne k) s entries) (bands_of k) p)
    term-lent p {least} {sum} w d = term-alone entries lent l.each p (subst (λ (n : ℕ). WeighedOf (at lent) n least sum) l.count w) d

  -- what the search finds by the levels of the reference curve, it finds of the set
  pub sought-by : {lent : List ℕ} {p shifts : ℕ} → Lent k s (entries_of k) lent
      → SoughtBy k (at lent) (length lent) m.limit p shifts → Sought k s p shifts
  unfolding numbers_of
  sought-by {lent} {p} {shifts} l w =
      let g : ℕ → ℕ = level_at (airborne k) s (entries_of k) in
      let v : SoughtBy k (at lent) (bands_of k) (limit_of k) p shifts =
      subst (λ (n : ℕ). SoughtBy k (at lent) n (limit_of k) p shifts) l.count
      (subst (λ (n : Numbers). SoughtBy k (at lent) (length lent) n.limit p shifts) f.numbers w) in
      settled-alike (at lent) g (bands_of k) (limit_of k) _ _ p shifts l.each
      (ap (λ (t : ℕ). (t + start_add k) / (10 * bands_of k)) (sum_same (at lent) g (bands_of k) l.each)) v

  module _ {p shifts : ℕ} (found : Sought k s p shifts) where
    -- what is asked of the position found and of the origin, wherever both go
    pub bounds : (p < 500) × (m.origin.0 < 200)
    bounds = (omega (arith, start-below k s f.acc, found.distance), near)

    -- the rating at the position found
    pub rating-made : {r : ℤ} → r ≡ rating_by m.airborne m.origin.0 p → r ≡ rating_of k (band_of s)
    unfolding numbers_of
    rating-made w =
        w ∙ ap (λ (n : Numbers). rating_by n.airborne n.origin.0 p) f.numbers ∙ sym (rating-is k s f.acc p shifts found)

-- the second term: given for airborne, absent for impact
pub data SecondAt (k : Kind) (m : Numbers) (s : BandSet) (p : ℕ) : Option Decibels → Type 0 where
  given : (d : Decibels) → m.airborne ≡ true
      → d.0 ≡ half_even (term_of m.airborne m.origin.0 (level_at (airborne k) s (second_of k)) (bands_of k) p)
      → SecondAt k m s p (Some d)
  absent : m.airborne ≡ false → SecondAt k m s p None

pub record MadeAt (k : Kind) (s : BandSet) (p : ℕ) (r : Sheet) (m : Numbers) : Type 0 where
  pub rating : r.rating.0 ≡ rating_by m.airborne m.origin.0 p
  pub first : r.first.0 ≡ half_even (term_of m.airborne m.origin.0 (level_at (airborne k) s (first_of k)) (bands_of k) p)
  pub second : SecondAt k m s p r.second

second_is : (k : Kind) (s : BandSet) → accepted s (bands_of k) ≡ true → (p : ℕ) → rating_of k (band_of s) ≡ rating_by (airborne k) (rating_at k) p
    → (t : Option Decibels) → SecondAt k (numbers_of k) s p t → t ≡ second_by (airborne k) k (band_of s)
unfolding numbers_of
second_is k s acc p r t (given d e h) = ap (λ (z : ℤ). Some (decibels z)) h ∙ second-given k s acc p r e
second_is k s acc p r t (absent e) = second-absent k s acc p r e

pub sheet-made : {k : Kind} {s : BandSet} {m : Numbers} → Fetched k s m → (p : ℕ) (r : Sheet)
    → Sought k s p r.shifts → r.limit ≡ any_to (bit s.marks) (bands_of k) → MadeAt k s p r m → r ≡ sheet_of k s
unfolding numbers_of
sheet-made {k} {s} f p r found limit w =
    let v : MadeAt k s p r (numbers_of k) = subst (MadeAt k s p r) f.numbers w in
    let q : rating_of k (band_of s) ≡ rating_by (airborne k) (rating_at k) p = rating-is k s f.acc p r.shifts found in
    sheet-is k s f.acc r (v.rating ∙ sym q) (v.first ∙ first-is k s f.acc p q) (second_is k s f.acc p q r.second v.second)
    (sym (shifts-is k s f.acc p r.shifts found)) limit
