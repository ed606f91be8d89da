-- What the rating means, in document 01's words, for all four kinds by one proof: the rating is the greatest (least) position
-- within the limit over all of ℤ, and the only one; the count of shifts is the distance from the start; what lies past the
-- stated length never matters. Assumes nothing.
use mathlib.Core.Path.{◌≡◌, refl, sym, ◌∙◌, ap, ap₂, subst}
use mathlib.Core.Bool.{Bool, true, false, cond}
use Prim.Native.Nat.{ℕ, zero, suc, ◌*◌, ◌-◌, ◌≤◌, ◌<◌}
use native.Mathlib.Nat.{le_refl}
use native.Mathlib.Decide.{ℕ_discrete}
use native.Mathlib.Omega.{arith}
use lib.Dec.{T, eqb, leb}
use lib.IntN.{ℤ, pos, ◌+ℤ◌, ◌-ℤ◌, ◌*ℤ◌}
use Rattle.laws.specs.Parts.{P, lesser, greater}
use Rattle.laws.specs.Lists.{listed}
use Rattle.laws.specs.Sums.{sum_to}
use Rattle.laws.proofs.Ints.{plus, minus, eq-made, le_read}
use Rattle.laws.proofs.Lists.{listed_at}
use Rattle.laws.proofs.Sums.{sum_same, sumℤ-same}
use Rattle.quantity.specs.Quantities.{tenths, in_range, half_even, band_of}
use Rattle.quantity.specs.declared.quantities.BandSet.{BandSet}
use Rattle.quantity.specs.declared.quantities.Tenths.{Tenths}
use Rattle.quantity.specs.declared.refusals.Refusal.TheVariants.{BandCount, BandRange}
use Rattle.energy.specs.Energies.{F, u}
use Rattle.curve.specs.Bands.{accepted, limited}
use Rattle.laws.specs.Tests.{bit}
use Rattle.curve.specs.Levels.{level_at, start_at}
use Rattle.laws.proofs.Ranges.{all_made, all_same, any_same}
use Rattle.curve.proofs.Searched.{count_most, count-some, found}
use Rattle.kinds.specs.declared.kinds.Kind.{Kind}
use Rattle.kinds.specs.Kinds.{airborne, bands_of, limit_of, reference_of, C, Ctr}
use Rattle.kinds.specs.Numbers.{entries_of, start_add}
use Rattle.kinds.proofs.Facts.{count-of}
use Rattle.rating.specs.Curve.{deficit, total, within, stricter_by, IsPosition, start_by, start_of, shifted_by, shifted, first_from, shifts_of, position_of, taken_off, rating_of}
use Rattle.rating.specs.Terms.{least_to, greatest_to, less, weighted, airborne_term, impact_term}
use Rattle.rating.specs.Sheets.{first_by, second_by, sheet_of, rated_of, asked}
use Rattle.rating.proofs.Meaning.{is-position}
use Rattle.rating.proofs.RatedLaws.{wrong-count}
use Rattle.std.specs.Prelude.{Ok, Err, Some}

-- ---- "The rating is the greatest whole X whose deficits total at most the limit", "take the least whole Y"
pub position-best : (k : Kind) (s : BandSet) → accepted s (bands_of k) ≡ true → IsPosition k (band_of s) (position_of k (band_of s))
position-best k s acc =
    let w = found (level_at (airborne k) s (entries_of k)) (bands_of k) (limit_of k) (start_at (level_at (airborne k) s (entries_of k)) (bands_of k) (start_add k)) in
    is-position k s acc w.place w.moves w.settled

both-strict : (sign : Bool) (p q : ℤ) → stricter_by sign p q → stricter_by sign q p → p ≡ q
both-strict true p q a b = eq-made (omega (arith, le_read a, le_read b))
both-strict false p q a b = eq-made (omega (arith, le_read a, le_read b))

pub position-unique : (k : Kind) (x : ℕ → ℤ) (p q : ℤ) → IsPosition k x p → IsPosition k x q → p ≡ q
position-unique k x p q a b = both-strict (airborne k) p q (a.best q b.holds) (b.best p a.holds)

-- ---- "The number of curve shifts is the distance from that start to the accepted position."
abbrev pub distance_by : Bool → ℤ → ℤ → ℤ
distance_by true start p = start -ℤ p
distance_by false start p = p -ℤ start

back_by : (sign : Bool) (start : ℤ) (s : ℕ) → distance_by sign start (shifted_by sign start s) ≡ pos s
back_by true start s = eq-made (omega (arith, minus start (start -ℤ pos s), minus start (pos s)))
back_by false start s = eq-made (omega (arith, minus (start +ℤ pos s) start, plus start (pos s)))

pub shifts-distance : (k : Kind) (x : ℕ → ℤ) → distance_by (airborne k) (start_of k x) (position_of k x) ≡ pos (shifts_of k x)
unfolding position_of shifted
shifts-distance k x = back_by (airborne k) (start_of k x) (shifts_of k x)

-- so the count of shifts is the distance to the greatest (least) position, whoever found that
pub shifts-true : (k : Kind) (s : BandSet) → accepted s (bands_of k) ≡ true → (p : ℤ) → IsPosition k (band_of s) p
    → distance_by (airborne k) (start_of k (band_of s)) p ≡ pos (shifts_of k (band_of s))
shifts-true k s acc p h =
    ap (distance_by (airborne k) (start_of k (band_of s))) (position-unique k (band_of s) p (position_of k (band_of s)) h (position-best k s acc))
    ∙ shifts-distance k (band_of s)

-- ---- what lies past the stated length does not matter
pub accepted-same : (s t : BandSet) (n : ℕ) → ((i : ℕ) → i < n → band_of s i ≡ band_of t i) → accepted s n ≡ accepted t n
unfolding accepted
accepted-same s t n values = all_same (λ j. in_range (band_of s j)) (λ j. in_range (band_of t j)) n (λ j h. ap in_range (values j h))

pub limited-same : (s t : BandSet) (n : ℕ) → ((i : ℕ) → i < n → bit s.marks i ≡ bit t.marks i) → limited s n ≡ limited t n
unfolding limited
limited-same s t n marks = any_same (bit s.marks) (bit t.marks) n marks

least-same : (f g : ℕ → ℤ) (n : ℕ) → ((i : ℕ) → i < suc n → f i ≡ g i) → least_to f n ≡ least_to g n
unfolding least_to
least-same f g zero h = h 0 (omega arith)
least-same f g (suc n) h = ap₂ lesser (least-same f g n (λ i q. h i (omega arith))) (h (suc n) (le_refl (suc (suc n))))

greatest-same : (f g : ℕ → ℤ) (n : ℕ) → ((i : ℕ) → i < suc n → f i ≡ g i) → greatest_to f n ≡ greatest_to g n
unfolding greatest_to
greatest-same f g zero h = h 0 (omega arith)
greatest-same f g (suc n) h = ap₂ greater (greatest-same f g n (λ i q. h i (omega arith))) (h (suc n) (le_refl (suc (suc n))))

first-same : (f g : ℕ → Bool) (tries s : ℕ) → ((i : ℕ) → f i ≡ g i) → first_from f tries s ≡ first_from g tries s
unfolding first_from
first-same f g zero s h = refl
first-same f g (suc tries) s h = ap₂ (λ (b : Bool) (m : ℕ). cond b s m) (h s) (first-same f g tries (suc s) h)

module _ (k : Kind) (x y : ℕ → ℤ) (same : (i : ℕ) → i < bands_of k → x i ≡ y i) where
  pub total-same : (p : ℤ) → total k x p ≡ total k y p
  unfolding total
  total-same p =
      sum_same (λ i. deficit k p (reference_of k i) (x i)) (λ i. deficit k p (reference_of k i) (y i)) (bands_of k)
      (λ i h. ap (deficit k p (reference_of k i)) (same i h))

  within_same : (p : ℤ) → within k x p ≡ within k y p
  unfolding within
  within_same p = ap (λ (t : ℕ). leb t (limit_of k)) (total-same p)

  start-same : start_of k x ≡ start_of k y
  unfolding start_of
  start-same = ap (λ (z : ℤ). start_by (airborne k) z (10 * bands_of k)) (sumℤ-same x y (bands_of k) same)

  shifts-same : shifts_of k x ≡ shifts_of k y
  unfolding shifts_of
  shifts-same = first-same (λ s. within k x (shifted k (start_of k x) s)) (λ s. within k y (shifted k (start_of k y) s)) 500 0
      (λ s. within_same (shifted k (start_of k x) s) ∙ ap (λ (z : ℤ). within k y (shifted k z s)) start-same)

  pub rating-same : rating_of k x ≡ rating_of k y
  unfolding rating_of position_of
  rating-same = ap₂ (λ (z : ℤ) (s : ℕ). shifted k z s -ℤ taken_off k) start-same shifts-same

  abbrev n : ℕ
  n = bands_of k

  some : 1 ≤ n
  some = count-some (count-of k)

  airborne-same : (L : ℕ → ℤ) → airborne_term k x L ≡ airborne_term k y L
  unfolding airborne_term weighted
  airborne-same L =
      let a : ℕ → ℤ = less x L in
      let b : ℕ → ℤ = less y L in
      let e : (i : ℕ) → i < n → a i ≡ b i = λ i h. ap (λ (z : ℤ). less (λ j. z) L i) (same i h) in
      let m : least_to a (n - 1) ≡ least_to b (n - 1) = least-same a b (n - 1) (λ i h. e i (omega (arith, some))) in
      let S : sum_to (λ i. F (P (a i -ℤ least_to a (n - 1)))) n ≡ sum_to (λ i. F (P (b i -ℤ least_to b (n - 1)))) n =
      sum_same (λ i. F (P (a i -ℤ least_to a (n - 1)))) (λ i. F (P (b i -ℤ least_to b (n - 1)))) n
      (λ i h. ap₂ (λ (z w : ℤ). F (P (z -ℤ w))) (e i h) m) in
      ap₂ (λ (z : ℤ) (r : ℤ). z -ℤ pos 10 *ℤ r) (ap₂ (λ (z : ℤ) (t : ℕ). z -ℤ pos (u t)) m S) rating-same

  impact-same : impact_term k x ≡ impact_term k y
  unfolding impact_term
  impact-same =
      let m : greatest_to x (n - 1) ≡ greatest_to y (n - 1) = greatest-same x y (n - 1) (λ i h. same i (omega (arith, some))) in
      let S : sum_to (λ i. F (P (greatest_to x (n - 1) -ℤ x i))) n ≡ sum_to (λ i. F (P (greatest_to y (n - 1) -ℤ y i))) n =
      sum_same (λ i. F (P (greatest_to x (n - 1) -ℤ x i))) (λ i. F (P (greatest_to y (n - 1) -ℤ y i))) n
      (λ i h. ap₂ (λ (z w : ℤ). F (P (z -ℤ w))) m (same i h)) in
      ap₂ (λ (z : ℤ) (r : ℤ). z -ℤ pos 150 -ℤ pos 10 *ℤ r) (ap₂ (λ (z : ℤ) (t : ℕ). z +ℤ pos (u t)) m S) rating-same

  first-same-by : (sign : Bool) → first_by sign k x ≡ first_by sign k y
  first-same-by true = ap half_even (airborne-same (C k))
  first-same-by false = ap half_even impact-same

  second-same-by : (sign : Bool) → second_by sign k x ≡ second_by sign k y
  second-same-by true = ap (λ (z : ℤ). Some (record { 0 = half_even z })) (airborne-same (Ctr k))
  second-same-by false = refl

sheet-same : (k : Kind) (s t : BandSet) → ((i : ℕ) → i < bands_of k → band_of s i ≡ band_of t i)
    → ((i : ℕ) → i < bands_of k → bit s.marks i ≡ bit t.marks i) → sheet_of k s ≡ sheet_of k t
unfolding sheet_of
sheet-same k s t values marks = λ i. record {
  rating = record { 0 = rating-same k (band_of s) (band_of t) values i };
  first = record { 0 = first-same-by k (band_of s) (band_of t) values (airborne k) i };
  second = second-same-by k (band_of s) (band_of t) values (airborne k) i;
  shifts = shifts-same k (band_of s) (band_of t) values i;
  limit = limited-same s t (bands_of k) marks i;
}

-- two sets that state the same: the same length, and the same bands and marks below it
pub record Stated (s t : BandSet) : Type 0 where
  pub len : s.len ≡ t.len
  pub values : (i : ℕ) → i < s.len → band_of s i ≡ band_of t i
  pub marks : (i : ℕ) → i < s.len → bit s.marks i ≡ bit t.marks i

-- a call that refuses every length but n, and of that length asks for no band from n on, asks for nothing past a stated length
pub past_by : {A : Type 0} (f : BandSet → A) (n : ℕ) (refusal : A) → ((s : BandSet) → (s.len ≡ n → ⊥) → f s ≡ refusal)
    → ((s t : BandSet) → s.len ≡ t.len → ((i : ℕ) → i < n → band_of s i ≡ band_of t i) → ((i : ℕ) → i < n → bit s.marks i ≡ bit t.marks i) → f s ≡ f t)
    → (s t : BandSet) → Stated s t → f s ≡ f t
past_by f n refusal other same s t a = go (ℕ_discrete s.len n)
  where
    go : Dec (s.len ≡ n) → f s ≡ f t
    go (yes e) = same s t a.len (λ i h. a.values i (omega arith)) (λ i h. a.marks i (omega arith))
    go (no e) = other s e ∙ sym (other t (λ q. e (a.len ∙ q)))

agreed : (k : Kind) (s t : BandSet) → s.len ≡ t.len → ((i : ℕ) → i < bands_of k → band_of s i ≡ band_of t i)
    → ((i : ℕ) → i < bands_of k → bit s.marks i ≡ bit t.marks i) → rated_of k s ≡ rated_of k t
unfolding rated_of
agreed k s t len values marks = λ i.
    asked (eqb (len i) (bands_of k)) (asked (accepted-same s t (bands_of k) values i) (Ok (sheet-same k s t values marks i)) BandRange) BandCount

pub past-length : (k : Kind) (s t : BandSet) → Stated s t → rated_of k s ≡ rated_of k t
past-length k = past_by (rated_of k) (bands_of k) (Err BandCount) (λ s f. sym (wrong-count k s (bands_of k) refl f)) (agreed k)

-- ---- the same for any values in range, whatever holds them
as-set : (ℕ → ℤ) → BandSet
as-set x = record { values = listed (λ i. tenths (x i)) 16 0; marks = 0; len = 16 }

pub position-best-of : (k : Kind) (x : ℕ → ℤ) → ((i : ℕ) → i < bands_of k → in_range (x i) ≡ true) → IsPosition k x (position_of k x)
unfolding as-set accepted position_of
position-best-of k x h =
    let s : BandSet = as-set x in
    let same : (i : ℕ) → i < bands_of k → band_of s i ≡ x i =
    λ i q. ap (λ (t : Tenths). t.0) (listed_at (tenths (pos 0)) (λ j. tenths (x j)) 16 i (omega (arith, count_most (count-of k)))) in
    let acc : accepted s (bands_of k) ≡ true = all_made (λ i. in_range (band_of s i)) (bands_of k) (λ i q. ap in_range (same i q) ∙ h i q) in
    let w : IsPosition k (band_of s) (position_of k (band_of s)) = position-best k s acc in
    let e : position_of k (band_of s) ≡ position_of k x = ap₂ (λ (z : ℤ) (m : ℕ). shifted k z m) (start-same k (band_of s) x same) (shifts-same k (band_of s) x same) in
    subst (IsPosition k x) e (record {
      holds = subst T (within_same k (band_of s) x same (position_of k (band_of s))) w.holds;
      best = λ q t. w.best q (subst T (sym (within_same k (band_of s) x same q)) t);
    })
